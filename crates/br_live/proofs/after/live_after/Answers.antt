-- The sets are added from the last statement to the first, and then turned around.
use Rattle.std.proofs.Common.{◌≡◌, ◌++◌, ℕ, List, [], ap, ◌∙◌, map, reverse}
use Rattle.br_flatimp.specs.declared.program.Stmt.{Stmt}
use Rattle.br_flatimp.specs.Values.{Names}
use Rattle.br_flatimp.specs.Liveness.{nothing, is_in, union, without, live, moments, function_moments}
use Rattle.br_live.specs.declared.bit_set.BitSet.{BitSet}
use Rattle.br_live.specs.Summaries.{handed}
use Rattle.br_live.specs.Tables.{row, rows_after}
use Rattle.br_live.proofs.Walks.{same-rows, turned_back}
use Rattle.br_live.proofs.after.live_after.Goals as goal

pub returns : goal.returns
returns c =
    let b : ℕ = c.args.f.now.names in
    let body : List Stmt = c.args.f.now.body in
    let results : List ℕ = c.args.f.now.results in
    let end : handed c.own.new.self nothing ≡ is_in results =
    c.own.ensures.hands nothing
    ∙ ap (λ (e : Names). union (without e []) (is_in c.as_slice-2.result.now)) (c.in_ok-so_far.ensures.hands nothing)
    ∙ ap is_in c.as_slice-2.ensures in
    let backward : map row c.add_sets_of_all.new.sets.items ≡ reverse (rows_after b (function_moments c.args.f.now)) =
    c.in_ok-add_sets_of_all.ensures.sets
    ∙ ap (λ (xs : List BitSet). map row xs ++ reverse (rows_after c.own.new.self.reads.bound
    (moments (map live c.as_slice-3.result.now) (handed c.own.new.self nothing)))) c.new-sets.ensures.items
    ∙ ap (λ (ss : List Stmt).
    reverse (rows_after c.own.new.self.reads.bound (moments (map live ss) (handed c.own.new.self nothing))))
    c.as_slice-3.ensures
    ∙ same-rows (moments (map live body)) _ b _ (is_in results)
    (c.own.ensures.bound ∙ c.in_ok-so_far.ensures.bound) end in
    c.from_sets.ensures ∙ ap (map row) c.turn_around.ensures
    ∙ turned_back c.add_sets_of_all.new.sets.items (rows_after b (function_moments c.args.f.now)) backward
