use Rattle.std.proofs.Common.{◌≡◌, ◌++◌, drop}
use Rattle.br_image.specs.Fields.{word_fields}
use Rattle.br_texts.proofs.lines.push_words.Given as goal

-- the text so far and what is to come are the text as it was and all that is added
abbrev pub invariant-loop-word : goal.invariant-loop-word
invariant-loop-word l = l.text.items ++ word_fields (drop l.word-index l.words) ≡ l.fn.text.items ++ word_fields l.words
