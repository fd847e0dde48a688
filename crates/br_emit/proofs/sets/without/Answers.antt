use Rattle.std.proofs.Common.{arith, ◌<◌, ◌^◌}
use Rattle.br_emit.proofs.Bits.{has-without}
use Rattle.br_emit.proofs.sets.without.Goals as goal

pub returns : goal.returns
returns c = λ x. (let fits : c.args.b < 2 ^ 32 = omega (arith, c.ranges.b.fits) in has-without c.args.a c.args.b x fits)
