use Rattle.std.proofs.Common.{◌≡◌, ℕ, ◌+◌, ◌-◌, List, min, length, get_or, map, sym, ap, ◌∙◌, arith}
use Rattle.std.specs.Cmp.Lexicographic.{same_text}
use Rattle.br_flatimp.specs.Parts.{callees}
use Rattle.br_flatimp.specs.Sizes.{own_need}
use Rattle.br_stack_need.proofs.Registers.{all_below}
use Rattle.br_stack_need.proofs.Rounds.{needs_at, one_deeper, settled, all_rounds, map_length}
use Rattle.br_stack_need.proofs.stack.needs.Goals as goal

pub own_needs-requires : goal.own_needs-requires
own_needs-requires c = rw c.as_slice-funcs.ensures (all_below c.args.p.now.funcs c.requires.register_form)

pub loop-round-preserved : goal.loop-round-preserved
loop-round-preserved c =
    let fs = c.args.p.now.funcs in
    let own_is = c.as_slice.ensures ∙ c.in_ok-own.ensures
    ∙ ap (map (λ f. min 4294967295 (own_need f))) c.as_slice-funcs.ensures in
    let table_is = c.as_slice-in-loop-round.ensures ∙ c.in_ok-table.ensures
    ∙ ap (map callees) c.as_slice-funcs.ensures in
    let needs_are : (f : ℕ) → get_or c.deref.result.now f 0 ≡ needs_at c.loop-round._round fs f =
    λ f. ap (λ (ns : List ℕ). get_or ns f 0) c.deref.ensures.value ∙ c.loop-round.invariant.needs f in
    record {
      len = c.in_ok-after.ensures.len ∙ ap (λ (t : List (List ℕ)). length t) table_is ∙ map_length callees fs;
      needs = one_deeper fs c.as_slice.result.now c.as_slice-in-loop-round.result.now c.deref.result.now
          c.in_ok-after.after.items c.loop-round._round own_is table_is needs_are c.in_ok-after.ensures.len
          c.in_ok-after.ensures.needs;
    }

pub returns-then-eq : goal.returns-then-eq
returns-then-eq c =
    let fs = c.args.p.now.funcs in
    let needs = c.loop-round.needs.items in
    let depth = c.loop-round._round in
    let own_is = c.as_slice.ensures ∙ c.in_ok-own.ensures
    ∙ ap (map (λ f. min 4294967295 (own_need f))) c.as_slice-funcs.ensures in
    let table_is = c.as_slice-in-loop-round.ensures ∙ c.in_ok-table.ensures
    ∙ ap (map callees) c.as_slice-funcs.ensures in
    let needs_are : (f : ℕ) → get_or c.deref.result.now f 0 ≡ needs_at depth fs f =
    λ f. ap (λ (ns : List ℕ). get_or ns f 0) c.deref.ensures.value ∙ c.loop-round.invariant.needs f in
    let deeper = one_deeper fs c.as_slice.result.now c.as_slice-in-loop-round.result.now
    c.deref.result.now c.in_ok-after.after.items depth own_is table_is needs_are c.in_ok-after.ensures.len
    c.in_ok-after.ensures.needs in
    let same : c.in_ok-after.after.items ≡ needs =
    sym c.as_slice-in-loop-round-2.ensures.value
    ∙ same_text c.as_slice-in-loop-round-2.result.now c.as_slice-in-loop-round-3.result.now
    (sym c.if-eq.true ∙ c.eq.ensures)
    ∙ c.as_slice-in-loop-round-3.ensures.value in
    let stays : (f : ℕ) → needs_at depth fs f ≡ needs_at (depth + 1) fs f =
    λ f. sym (c.loop-round.invariant.needs f) ∙ ap (λ (ns : List ℕ). get_or ns f 0) (sym same) ∙ deeper f in
    let rows : length c.as_slice-funcs.result.now ≡ length fs = ap length c.as_slice-funcs.ensures in
    let rest : length fs ≡ depth + (length fs - depth) = omega arith in
    all_rounds fs needs c.loop-round.invariant.len
    (λ f. c.loop-round.invariant.needs f ∙ settled fs depth stays (length fs - depth) (length fs) rest f)

pub returns : goal.returns
returns c =
    let fs = c.args.p.now.funcs in
    let rows : length c.as_slice-funcs.result.now ≡ length fs = ap length c.as_slice-funcs.ensures in
    let all : c.loop-round._round ≡ length fs = omega arith in
    all_rounds fs c.loop-round.needs.items c.loop-round.invariant.len
    (λ f. c.loop-round.invariant.needs f ∙ ap (λ (n : ℕ). needs_at n fs f) all)
