use Rattle.br_image.proofs.Pieces.{Free-lacks}
use Rattle.br_image.proofs.TraceForms.{no_cause, no_pc}
use Rattle.br_image.proofs.traces.parsing.trapped_line.Goals as goal

pub returns-in_default-cause_named : goal.returns-in_default-cause_named
returns-in_default-cause_named c = no_cause c.args.tail.now c.in-Some.rest.now c.first_word.result.0.now
    c.first_word.result.1.now c.in-Some.ensures.some c.first_word.ensures.whole
    (Free-lacks 32 c.first_word.result.0.now c.first_word.ensures.word) c.first_word.ensures.tail
    c.in_default-cause_named.ensures.none

pub returns-in_default-only_word : goal.returns-in_default-only_word
returns-in_default-only_word c = no_pc c.args.tail.now c.in-Some.rest.now c.first_word.result.0.now
    c.first_word.result.1.now c.in-Some.ensures.some c.first_word.ensures.whole
    (Free-lacks 32 c.first_word.result.0.now c.first_word.ensures.word) c.first_word.ensures.tail
    c.in_default-only_word.ensures.none
