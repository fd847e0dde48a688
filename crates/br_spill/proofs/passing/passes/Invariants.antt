-- The statements so far, and those of the names from here on, whose registers are the next.
use Rattle.std.proofs.Common.{◌≡◌, ◌≤◌, ◌+◌, ◌++◌, map, drop, length}
use Rattle.br_spill.specs.Spill.{layout_in, passes}
use Rattle.br_spill.proofs.passing.passes.Given as goal

abbrev pub invariant-loop-y : goal.invariant-loop-y
invariant-loop-y l = record {
  room : l.to + length (drop l.y-index l.ys) ≤ 18;
  statements : l.out ++ passes (map ((layout_in l.places).place) (drop l.y-index l.ys)) l.to
      ≡ l.initial.out ++ passes (map ((layout_in l.places).place) l.ys) 10;
}
