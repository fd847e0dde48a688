use Rattle.std.proofs.Common.{◌≡◌, ◌++◌, drop}
use Rattle.br_bytes.specs.Hexadecimal.{bytes_text}
use Rattle.br_texts.proofs.lines.push_bytes.Given as goal

-- the text so far and what is to come are the text as it was and all that is added
abbrev pub invariant-loop-byte : goal.invariant-loop-byte
invariant-loop-byte l = l.text.items ++ bytes_text (drop l.byte-index l.bytes) ≡ l.fn.text.items ++ bytes_text l.bytes
