use Rattle.br_image.proofs.ScriptForms.{no_zero}
use Rattle.br_image.proofs.scripts.parsing.answer_line.Goals as goal

pub returns-then-times-eq0 : goal.returns-then-times-eq0
returns-then-times-eq0 c =
    let word = c.in_ok-word.ensures.some in
    let times = c.in_ok-times.ensures.some in
    no_zero c.args.tail.now c.in_ok-word.rest.now c.in_ok-word.word c.in_ok-times.times word.0 word.1 times.0 times.1
    c.if-times-eq0.true
