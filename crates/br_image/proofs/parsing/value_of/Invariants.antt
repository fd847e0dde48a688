use Rattle.std.proofs.Common.{◌≤◌}
use Rattle.br_image.proofs.Decoding.{DigitsRead}
use Rattle.br_image.proofs.parsing.value_of.Given as goal

abbrev pub invariant-loop-digit : goal.invariant-loop-digit
invariant-loop-digit l = (l.value ≤ l.most) × DigitsRead l.digits l.digit-index l.value
