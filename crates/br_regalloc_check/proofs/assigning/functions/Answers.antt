-- The last function is taken off, and its answer goes before those of the functions after it.
use Rattle.std.proofs.Common.{◌≡◌, ◌+◌, ◌<◌, List, [], ◌∷◌, ◌++◌, length, get_or}
use Rattle.std.proofs.Common.{drop, reverse, sym, ap, subst, ◌∙◌, append_assoc, arith}
use Rattle.std.specs.List.{AllByRecursion}
use Rattle.std.proofs.lemmas.List.{length-append, reverse-append}
use Rattle.br_flatimp.specs.declared.program.FlatFunc.{FlatFunc}
use Rattle.br_flatimp.specs.declared.program.Proposal.{Proposal}
use Rattle.br_regalloc_check.specs.Assigned.{AreAssigned}
use Rattle.br_regalloc_check.specs.Walks.{IsFit}
use Rattle.br_regalloc_check.proofs.Lists.{all-split, drop_next}
use Rattle.br_regalloc_check.proofs.assigning.functions.Goals as goal

pub function-requires : goal.function-requires
function-requires c =
    let done : List FlatFunc = c.loop-f.invariant.0 in
    let whole : c.args.fs ≡ (c.pop.new.self ++ c.in-Some.f ∷ []) ++ done = c.loop-f.invariant.1.split
    ∙ ap (λ fs. fs ++ done) c.in-Some.ensures in
    (all-split IsFit c.pop.new.self (c.in-Some.f ∷ []) (all-split IsFit (c.pop.new.self ++ c.in-Some.f ∷ []) done
    (subst (AllByRecursion IsFit) whole c.requires.fit)).0).1.0

pub loop-f-preserved : goal.loop-f-preserved
loop-f-preserved c =
    let done : List FlatFunc = c.loop-f.invariant.0 in
    let left : List FlatFunc = c.pop.new.self in
    let f : FlatFunc = c.in-Some.f in
    let ps : List Proposal = c.args.proposals.now in
    let p : Proposal = c.index-proposals-len.result in
    let whole : c.args.fs ≡ left ++ f ∷ done = c.loop-f.invariant.1.split ∙ ap (λ fs. fs ++ done) c.in-Some.ensures
    ∙ append_assoc left (f ∷ []) done in
    let count : length ps ≡ length left + length (f ∷ done) = c.requires.proposals ∙ ap length whole
    ∙ length-append left (f ∷ done) in
    let inside : length left < length ps = omega (arith, count) in
    let before : length c.loop-f.fs ≡ length left + 1 = ap length c.in-Some.ensures ∙ length-append left (f ∷ []) in
    let next : drop (length left) ps ≡ p ∷ drop (length left + 1) ps = drop_next ps (length left) p inside ∙ ap
    (λ r. r ∷ drop (length left + 1) ps) (sym (c.index-proposals-len.is ∙ ap (λ k. get_or ps k p) c.len.ensures)) in
    let q : FlatFunc = c.in_ok-function.field-0 in
    let made : List FlatFunc = c.loop-f.made.items in
    let later : AreAssigned (reverse made) done (drop (length left + 1) ps) =
    subst (λ k. AreAssigned (reverse made) done (drop k ps)) before c.loop-f.invariant.1.assigned in
    let items : reverse c.push.new.self.items ≡ q ∷ reverse made = ap reverse c.in_ok-push.ensures.items
    ∙ reverse-append made (q ∷ []) in
    let both : AreAssigned (q ∷ reverse made) (f ∷ done) (p ∷ drop (length left + 1) ps) =
    (c.in_ok-function.ensures, later) in (
      f ∷ done,
      record {
        split = whole;
        assigned = subst (λ qs. AreAssigned qs (f ∷ done) (drop (length left) ps)) (sym items)
            (subst (AreAssigned (q ∷ reverse made) (f ∷ done)) (sym next) both);
      },
    )
