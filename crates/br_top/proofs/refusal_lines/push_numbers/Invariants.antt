use Rattle.std.proofs.Common.{◌≡◌, ◌++◌, drop}
use Rattle.br_top.specs.Refusals.{number_fields}
use Rattle.br_top.proofs.refusal_lines.push_numbers.Given as goal

-- the line so far and the fields to come are the line as it was and all fields
abbrev pub invariant-loop-number : goal.invariant-loop-number
invariant-loop-number l =
    l.line.items ++ number_fields (drop l.number-index l.numbers) ≡ l.fn.line.items ++ number_fields l.numbers
