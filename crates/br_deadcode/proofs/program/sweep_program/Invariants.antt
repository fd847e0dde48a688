-- What the sweeps so far left is left of the program.
use Rattle.br_flatimp.specs.WellFormed.{IsWellFormed}
use Rattle.br_deadcode.proofs.Falls.{program_count}
use Rattle.br_deadcode.proofs.Rounds.{IsLeftOf}
use Rattle.br_deadcode.proofs.program.sweep_program.Given as goal

abbrev pub invariant-rounds : goal.invariant-rounds
invariant-rounds l = record { formed : IsWellFormed l.funcs; left : IsLeftOf l.funcs l.initial.funcs }

abbrev pub decreases-rounds : goal.decreases-rounds
decreases-rounds l = program_count l.funcs
