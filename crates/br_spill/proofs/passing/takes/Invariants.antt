-- The statements so far, and those of the names from here on, whose registers are the next.
use Rattle.std.proofs.Common.{◌≡◌, ◌≤◌, ◌+◌, ◌++◌, map, drop, length}
use Rattle.br_spill.specs.Spill.{layout_in, takes}
use Rattle.br_spill.proofs.passing.takes.Given as goal

abbrev pub invariant-loop-x : goal.invariant-loop-x
invariant-loop-x l = record {
  room : l.from + length (drop l.x-index l.xs) ≤ 18;
  statements : l.out ++ takes (map ((layout_in l.places).place) (drop l.x-index l.xs)) l.from
      ≡ l.initial.out ++ takes (map ((layout_in l.places).place) l.xs) 10;
}
