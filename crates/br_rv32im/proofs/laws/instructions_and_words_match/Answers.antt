-- The round trip, both ways.
use Rattle.br_rv32im.proofs.RoundTrip.{row_of-word_of, word_of-row_of}
use Rattle.br_rv32im.proofs.laws.instructions_and_words_match.Goals as goal

pub returns-clause-word : goal.returns-clause-word
returns-clause-word c = λ i fits. (row_of-word_of i fits).1

pub returns-clause-decoded : goal.returns-clause-decoded
returns-clause-decoded c = λ i fits. (row_of-word_of i fits).0

pub returns-clause-in_range : goal.returns-clause-in_range
returns-clause-in_range c = λ w i word row. (word_of-row_of w i word row).0

pub returns-clause-only : goal.returns-clause-only
returns-clause-only c = λ w i word row. (word_of-row_of w i word row).1
