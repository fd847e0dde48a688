use Rattle.std.proofs.Common.{◌≡◌, length}
use Rattle.br_image.specs.Reading.{WordsRead}
use Rattle.br_image.proofs.reading.read_words.Given as goal

abbrev pub invariant-loop-i : goal.invariant-loop-i
invariant-loop-i l = WordsRead l.layout l.text l.head.entries l.head.count l.code l.at × (length l.code ≡ l.i)
