use Rattle.br_bytes.proofs.Bytes.{get-put}
use Rattle.br_bytes.proofs.laws.get_after_put.Goals as goal

pub returns : goal.returns
returns c = get-put
