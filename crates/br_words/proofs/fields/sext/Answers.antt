-- The casts between the shifts change nothing.
use Rattle.std.proofs.Common.{arith}
use Rattle.std.proofs.lemmas.Int.{ints}
use Rattle.br_words.proofs.SignExtension.{shifted_back}
use Rattle.br_words.proofs.fields.sext.Goals as goal

pub returns : goal.returns
returns g c =
    let r = c.requires in
    let e = shifted_back g.row.N c.args.x r.some_bit r.inside r.fits in
    grind (arith, ints, c.cast_unsigned.ensures, c.cast_signed.ensures)
