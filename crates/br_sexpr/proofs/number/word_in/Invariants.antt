use Rattle.std.proofs.Common.{◌≡◌, Some, drop}
use Rattle.br_sexpr.specs.Progress.{and_digits}
use Rattle.br_sexpr.proofs.number.word_in.Given as goal

abbrev pub invariant-loop-byte : goal.invariant-loop-byte
invariant-loop-byte l =
    and_digits l.base (drop l.byte-index l.digits) (Some l.value) ≡ and_digits l.base l.digits (Some 0)
