-- The immediate of LUI and AUIPC has five hexadecimal digits.
use Rattle.std.proofs.Common.{◌<◌, ◌^◌, arith}
use Rattle.std.proofs.lemmas.Grind.{common_steps}
use Rattle.br_rv32im.specs.Listing.{listing_of}
use Rattle.br_rv32im.proofs.Hexadecimal.{five_digits}
use Rattle.br_rv32im.proofs.text.text_of.Goals as goal

pub returns-in-Upper : goal.returns-in-Upper
unfolding listing_of
returns-in-Upper c =
    let fits = rw c.in-Upper.is at c.requires in
    let small : c.in-Upper.imm < 2 ^ 20 = fits.1 in
    let e = five_digits c.in-Upper.imm small in
    grind (arith, common_steps, c.format.ensures)
