use Rattle.std.proofs.Common.{arith}
use Rattle.std.proofs.lemmas.Grind.{common_steps}
use Rattle.br_emit.proofs.Forgetting.{emptied, all_emptied}
use Rattle.br_emit.proofs.forgotten.empty.Goals as goal

pub loop-k-preserved : goal.loop-k-preserved
loop-k-preserved c = record {
  count = grind (arith, common_steps);
  empty = emptied c.loop-k.sets c.loop-k.k (omega arith) c.loop-k.invariant.empty;
}

pub returns : goal.returns
returns c = all_emptied c.loop-k.sets c.loop-k.k (omega arith) c.loop-k.invariant.empty
