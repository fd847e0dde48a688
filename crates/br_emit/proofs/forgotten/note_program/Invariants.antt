use Rattle.std.proofs.Common.{List, ℕ, drop}
use Rattle.br_flatimp.specs.Renaming.{ReadsNoForgotten}
use Rattle.br_emit.specs.Registers.{Narrowed, forgets_of}
use Rattle.br_emit.proofs.forgotten.note_program.Given as goal

abbrev pub invariant-loop-f : goal.invariant-loop-f
invariant-loop-f l = (later : List ℕ) → Narrowed later l.sets
    → ReadsNoForgotten (forgets_of later) (drop l.f-index l.funcs) → ReadsNoForgotten (forgets_of later) l.funcs
