use Rattle.std.proofs.Common.{arith, ◌<◌, ◌^◌}
use Rattle.br_live.proofs.Bits.{bit-or, bit-and, bit-without}
use Rattle.br_live.proofs.words.joined_word.Goals as goal

pub returns-in-Union : goal.returns-in-Union
returns-in-Union c = λ i h. rw c.in-Union.is (bit-or c.args.a c.args.b i)

pub returns-in-Without : goal.returns-in-Without
returns-in-Without c = λ i h.
    let fits : c.args.b < 2 ^ 32 = omega (arith, c.ranges.b.fits) in
    rw c.in-Without.is (bit-without c.args.a c.args.b i fits h)

pub returns-in-Common : goal.returns-in-Common
returns-in-Common c = λ i h. rw c.in-Common.is (bit-and c.args.a c.args.b i)
