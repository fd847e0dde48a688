use Rattle.std.proofs.Common.{◌-◌, length}
use Rattle.br_image.proofs.ScriptReads.{ReadTo}
use Rattle.br_image.proofs.scripts.reading.read_lines.Given as goal

abbrev pub invariant-loop-left : goal.invariant-loop-left
invariant-loop-left l = ReadTo l.parts l.text l.left l.at l.number l.said

abbrev pub decreases-loop-left : goal.decreases-loop-left
decreases-loop-left l = length l.text - l.at
