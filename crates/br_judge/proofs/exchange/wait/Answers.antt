use Rattle.std.proofs.Common.{◌-◌, arith}
use Rattle.br_judge.proofs.Waits.{waiting_last, waiting_more, waiting_ready, waiting_departs}
use Rattle.br_judge.proofs.exchange.wait.Goals as goal

pub returns-in_default : goal.returns-in_default
returns-in_default c = waiting_departs c.args.port c.args.left c.args.e (λ w h. c.in_default.not-Read c.args.port w h)

pub returns-then-a-port : goal.returns-then-a-port
returns-then-a-port c = waiting_departs c.args.port c.args.left c.args.e (λ w h. c.if-a-port.true cc)

pub returns-then-w-lt2147483648 : goal.returns-then-w-lt2147483648
returns-then-w-lt2147483648 c =
    rw (c.in-Read.is, c.if-a-port.false) (waiting_ready c.args.port c.args.left c.in-Read.w c.if-w-lt2147483648.true)

pub returns-then-left-eq0 : goal.returns-then-left-eq0
returns-then-left-eq0 c = rw (c.in-Read.is, c.if-a-port.false, c.if-left-eq0.true)
    (waiting_last c.args.port c.in-Read.w c.if-w-lt2147483648.false)

pub returns : goal.returns
returns c =
    rw (c.in-Read.is, c.if-a-port.false)
    (waiting_more c.args.port c.args.left (c.args.left - 1) c.in-Read.w (omega arith) c.if-w-lt2147483648.false)
