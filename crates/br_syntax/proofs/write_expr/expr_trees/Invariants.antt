-- The expressions so far are written.
use Rattle.std.proofs.Common.{◌≡◌, true, map, take, Ok}
use Rattle.std.specs.List.{list_all}
use Rattle.br_syntax.specs.Shaped.{all}
use Rattle.br_syntax.specs.Denotes.{expression}
use Rattle.br_syntax.specs.Offsets.{is_unplaced}
use Rattle.br_syntax.proofs.write_expr.expr_trees.Given as goal

abbrev pub invariant-loop-e : goal.invariant-loop-e
invariant-loop-e l =
    (all (map expression l.items) ≡ Ok (take l.e-index l.expressions)) × (list_all is_unplaced l.items ≡ true)
