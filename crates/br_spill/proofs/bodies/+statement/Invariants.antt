-- The statements so far, and those of the statements from here on; and the numbers of those before are words.
use Rattle.std.proofs.Common.{◌≡◌, ◌++◌, map, drop}
use Rattle.std.specs.List.{list_all}
use Rattle.br_flatimp.specs.Parts.{throughout}
use Rattle.br_spill.specs.Spill.{joined, layout_in, spilled, words_fit}
use Rattle.br_spill.proofs.bodies.+statement.Given as goal

abbrev pub invariant-statements-loop-s : goal.invariant-statements-loop-s
invariant-statements-loop-s l = record {
  code : l.out ++ joined (map (spilled (layout_in l.places)) (drop l.s-index l.body))
      ≡ l.initial.out ++ joined (map (spilled (layout_in l.places)) l.body);
  words : list_all (throughout words_fit) l.body ≡ list_all (throughout words_fit) (drop l.s-index l.body);
}
