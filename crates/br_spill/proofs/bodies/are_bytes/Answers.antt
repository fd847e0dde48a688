use Rattle.br_spill.proofs.BytesFit.{bytes-fit}
use Rattle.br_spill.proofs.bodies.are_bytes.Goals as goal

pub returns : goal.returns
returns c = bytes-fit c.args.bytes.now (λ i. (c.type_inv.bytes i).fits)
