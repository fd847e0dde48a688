-- The statements so far, and those of the statements from here on with what is known here; and the literals of
-- those before are words.
use Rattle.std.proofs.Common.{◌≡◌, ◌++◌, drop}
use Rattle.std.specs.List.{list_all}
use Rattle.br_flatimp.specs.Parts.{throughout}
use Rattle.br_immediates.specs.Immediates.{literal_fits, no_literals, with_constants}
use Rattle.br_immediates.specs.Tables.{literals_of}
use Rattle.br_immediates.proofs.bodies.+statement.Given as goal

abbrev pub invariant-statements-loop-s : goal.invariant-statements-loop-s
invariant-statements-loop-s l = record {
  code : l.made ++ with_constants (literals_of l.known.words) (drop l.s-index l.body) ≡ with_constants no_literals
      l.body;
  words : list_all (throughout literal_fits) l.body ≡ list_all (throughout literal_fits) (drop l.s-index l.body);
}
