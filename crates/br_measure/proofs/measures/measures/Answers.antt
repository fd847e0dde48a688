use Rattle.std.proofs.Common.{◌≡◌, ℕ, ◌+◌, ◌<◌, List, min, length, get_or, map, ap, ◌∙◌, arith}
use Rattle.br_syntax.specs.declared.program.Func.{Func}
use Rattle.br_measure.specs.Measure.{measure, measure_within, largest}
use Rattle.br_measure.specs.Table.{call_table, row}
use Rattle.br_measure.proofs.Rounds.{needs_at, one_deeper, same_items, map_length}
use Rattle.br_measure.proofs.measures.measures.Goals as goal

-- as many rounds as functions are the measure
measured : (fs : List Func) (needs : List ℕ) (rounds cap : ℕ) → rounds ≡ length fs → length needs ≡ length fs
    → ((f : ℕ) → get_or needs f 0 ≡ min (needs_at rounds fs f) cap) → needs ≡ map (λ f. min (measure fs f) cap) fs
measured fs needs rounds cap all len are =
    same_items (λ f. min (measure fs f) cap) fs needs len
    (λ k f is. are k ∙ ap (λ (r : ℕ). min (needs_at r fs k) cap) all
    ∙ ap (λ o. min (measure_within (length fs) fs o) cap) is)

pub loop-round-preserved : goal.loop-round-preserved
loop-round-preserved c =
    let fs = c.args.funcs.now in
    let after = c.in_ok-needs-2.needs.items in
    let rows : length c.args.table.now ≡ length fs = ap (λ (t : List (List ℕ)). length t) c.requires
    ∙ map_length _ fs in
    let len : length after ≡ length fs = c.in_ok-needs-2.ensures.len ∙ rows in
    let needs_are : (f : ℕ) → get_or c.deref.result.now f 0 ≡ min (needs_at c.loop-round._round fs f) 4294967295 =
    λ f. ap (λ (ns : List ℕ). get_or ns f 0) c.deref.ensures.value ∙ c.loop-round.invariant.needs f in
    let round : (f : ℕ) → f < length fs → get_or after f 0
    ≡ min (get_or c.as_slice.result.now f 0 + largest
    (map (λ g. get_or c.deref.result.now g 0) (row (call_table fs) f))) 4294967295 =
    λ f inside. rw (← c.requires) (c.in_ok-needs-2.ensures.needs f (omega (arith, rows))) in
    record {
      len = len;
      needs = one_deeper fs c.as_slice.result.now c.deref.result.now after c.loop-round._round 4294967295
          (c.as_slice.ensures ∙ c.in_ok-own.ensures) needs_are len round;
    }

pub returns : goal.returns
returns c =
    c.from_vec.ensures ∙ measured c.args.funcs.now c.loop-round.needs.items c.loop-round._round 4294967295 (omega arith)
    c.loop-round.invariant.len c.loop-round.invariant.needs
