use Rattle.std.proofs.Common.{◌≡◌, ◌+◌, ◌-◌, ◌++◌}
use Rattle.br_machine.specs.State.{register}
use Rattle.br_texts.specs.Memory.{values}
use Rattle.br_texts.proofs.runs.words_in.Given as goal

-- the words so far and those to come are all
abbrev pub invariant-loop-i : goal.invariant-loop-i
invariant-loop-i l = l.words.items ++ values (register l.machine.state) (10 + l.i) (l.count - l.i)
    ≡ values (register l.machine.state) 10 l.count
