use Rattle.std.proofs.Common.{◌<◌}
use Rattle.br_emit.proofs.Bits.{has-just}
use Rattle.br_emit.proofs.sets.just.Goals as goal

pub returns-then-x-lt32 : goal.returns-then-x-lt32
returns-then-x-lt32 c =
    λ y below. (let register : c.args.x < 32 = c.if-x-lt32.true in has-just c.args.x y register below)
