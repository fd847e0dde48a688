use Rattle.std.proofs.Common.{◌≡◌, ◌+◌, drop}
use Rattle.br_machine.specs.Start.{with_words}
use Rattle.br_machine.proofs.start.set_arguments.Given as goal

-- the arguments so far, and those that are left, make the whole
abbrev pub invariant-loop-i : goal.invariant-loop-i
invariant-loop-i l = with_words (10 + l.i) (drop l.i l.args) l.registers ≡ with_words 10 l.args l.fn.registers
