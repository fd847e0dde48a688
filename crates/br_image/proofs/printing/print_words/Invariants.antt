use Rattle.std.proofs.Common.{◌≡◌, ◌++◌, drop}
use Rattle.br_image.specs.Printed.{word_lines}
use Rattle.br_image.proofs.printing.print_words.Given as goal

abbrev pub invariant-loop-word : goal.invariant-loop-word
invariant-loop-word l = l.text.items ++ word_lines (drop l.word-index l.words) ≡ l.fn.text.items ++ word_lines l.words
