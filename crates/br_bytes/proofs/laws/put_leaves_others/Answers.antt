use Rattle.br_bytes.proofs.Bytes.{get_outside-put}
use Rattle.br_bytes.proofs.laws.put_leaves_others.Goals as goal

pub returns : goal.returns
returns c = get_outside-put
