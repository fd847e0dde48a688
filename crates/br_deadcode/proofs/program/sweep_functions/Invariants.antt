-- The functions so far, and those of the functions from here on.
use Rattle.std.proofs.Common.{◌≡◌, ◌++◌, ◌||◌, drop}
use Rattle.br_deadcode.specs.Sweeps.{program_leaves, swept_program}
use Rattle.br_deadcode.proofs.program.sweep_functions.Given as goal

abbrev pub invariant-loop-f : goal.invariant-loop-f
invariant-loop-f l = record {
  left : l.made ++ swept_program (drop l.f-index l.fs) ≡ swept_program l.fs;
  removed : (l.removed || program_leaves (drop l.f-index l.fs)) ≡ (l.initial.removed || program_leaves l.fs);
}
