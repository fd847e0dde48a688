use Rattle.std.proofs.Common.{◌≡◌, ℕ, ◌+◌, ◌<◌, List, ◌++◌, ◌∷◌, [], true, length, length-append, length-set, ap, ◌∙◌}
use Rattle.std.proofs.Common.{arith, rules, refl}
use Rattle.std.proofs.lemmas.List.{length_push}
use Rattle.br_measure.specs.Table.{row}
use Rattle.br_measure.proofs.Marking.{unmarked, popped_within, seen_new, left_new, kept_new, closed_new, smaller_new}
use Rattle.br_measure.proofs.Marking.{none_left}
use Rattle.br_measure.proofs.paths.reached.Goals as goal

empty : (left : List ℕ) → length left ≡ 0 → left ≡ []
empty [] n = refl
empty (x ∷ left) n = absurd (omega arith)

pub index-requires : goal.index-requires
index-requires c =
    omega (
      arith,
      c.loop-g.invariant.len,
      c.loop-g.seen.ok.0,
      popped_within c.args.table.now c.args.f
          c.loop-g.seen.items c.loop-g.left.items c.pop.new.self.items c.in-Some.g c.in-Some.ensures.items
          c.requires.table c.loop-g.invariant.left_reached,
    )

pub index_mut-requires : goal.index_mut-requires
index_mut-requires c =
    omega (
      arith,
      c.loop-g.invariant.len,
      c.loop-g.seen.ok.0,
      popped_within c.args.table.now c.args.f
          c.loop-g.seen.items c.loop-g.left.items c.pop.new.self.items c.in-Some.g c.in-Some.ensures.items
          c.requires.table c.loop-g.invariant.left_reached,
    )

pub callees-requires-then-not-index : goal.callees-requires-then-not-index
callees-requires-then-not-index c =
    popped_within c.args.table.now c.args.f c.loop-g.seen.items c.loop-g.left.items c.pop.new.self.items c.in-Some.g
    c.in-Some.ensures.items c.requires.table c.loop-g.invariant.left_reached

pub returns-clause-leads : goal.returns-clause-leads
returns-clause-leads c = λ g. (
  c.loop-g.invariant.seen_reached g,
  none_left c.args.table.now c.args.f c.loop-g.seen.items c.loop-g.left.items
      (search (rules, empty)) c.loop-g.invariant.first c.loop-g.invariant.closed g,
)

pub loop-g-smaller-in-Continue-branch-3 : goal.loop-g-smaller-in-Continue-branch-3
loop-g-smaller-in-Continue-branch-3 c =
    let t = c.args.table.now in
    let g = c.in-Some.g in
    let rest = c.pop.new.self.items in
    let left = c.loop-g.left.items in
    let next = c.extend_from_slice.new.self.items in
    let popped = c.in-Some.ensures.items in
    let inside : g < length c.loop-g.seen.items =
    omega (
      arith,
      c.loop-g.invariant.len,
      popped_within t c.args.f c.loop-g.seen.items left rest g popped
          c.requires.table c.loop-g.invariant.left_reached,
    ) in
    let new = unmarked c.loop-g.seen.items g c.index.result.now inside c.index.ensures c.if-not-index.true in
    let lengths : length next ≡ length rest + length (row t g) =
    ap (λ (ns : List ℕ). length ns)
    (c.in_ok-extend_from_slice.ensures.items ∙ ap (λ r. rest ++ r) c.callees-then-not-index.ensures)
    ∙ length-append rest (row t g) in
    let one : length left ≡ length rest + 1 = ap (λ (ns : List ℕ). length ns) popped ∙ length_push rest g in
    smaller_new t c.args.f c.loop-g.seen.items left rest g popped inside new next lengths one

pub loop-g-preserved-in-Continue-branch-3 : goal.loop-g-preserved-in-Continue-branch-3
loop-g-preserved-in-Continue-branch-3 c =
    let t = c.args.table.now in
    let f = c.args.f in
    let g = c.in-Some.g in
    let seen = c.loop-g.seen.items in
    let rest = c.pop.new.self.items in
    let left = c.loop-g.left.items in
    let popped = c.in-Some.ensures.items in
    let before = c.loop-g.invariant in
    let inside : g < length seen =
    omega (arith, before.len, popped_within t f seen left rest g popped c.requires.table before.left_reached) in
    let next : c.extend_from_slice.new.self.items ≡ rest ++ row t g = c.in_ok-extend_from_slice.ensures.items
    ∙ ap (λ r. rest ++ r) c.callees-then-not-index.ensures in
    rw next (record {
      len = length-set seen g true ∙ before.len;
      seen_reached = seen_new t f seen left rest g popped inside before.seen_reached before.left_reached;
      left_reached = left_new t f seen left rest g popped inside before.left_reached;
      first = λ k call. kept_new t f seen left rest g popped inside k (before.first k call);
      closed = closed_new t f seen left rest g popped inside before.closed;
    })
