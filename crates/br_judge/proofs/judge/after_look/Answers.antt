use Rattle.br_judge.proofs.Turns.{look_steps}
use Rattle.br_judge.proofs.judge.after_look.Goals as goal

pub returns-then-a-eq-OUT : goal.returns-then-a-eq-OUT
returns-then-a-eq-OUT c =
    rw (c.in-Read.is, c.if-a-eq-OUT.true) (look_steps c.args.on c.in-Read.v c.with_light.result c.with_light.ensures)
