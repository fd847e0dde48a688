-- The functions so far are written.
use Rattle.std.proofs.Common.{◌≡◌, true, map, take, Ok}
use Rattle.std.specs.List.{list_all}
use Rattle.br_syntax.specs.Denotes.{functions}
use Rattle.br_syntax.specs.Offsets.{is_unplaced, unplaced_function}
use Rattle.br_syntax.proofs.write_program.func_trees.Given as goal

abbrev pub invariant-loop-func : goal.invariant-loop-func
invariant-loop-func l =
    (functions l.trees ≡ Ok (map unplaced_function (take l.func-index l.funcs))) × (list_all is_unplaced l.trees ≡ true)
