use Rattle.std.proofs.Common.{◌≡◌, ◌+◌, ◌-◌, ◌++◌}
use Rattle.br_texts.specs.InterpText.{byte_in}
use Rattle.br_texts.specs.Memory.{values}
use Rattle.br_texts.proofs.interps.memory_bytes.Given as goal

-- the bytes so far and those to come are all
abbrev pub invariant-loop-i : goal.invariant-loop-i
invariant-loop-i l =
    l.bytes.items ++ values (byte_in l.memory) (l.a + l.i) (l.n - l.i) ≡ values (byte_in l.memory) l.a l.n
