use Rattle.br_flatten.proofs.Members.{all-numbered, few-functions}
use Rattle.br_flatten.proofs.flattening.numbered.Goals as goal

pub invariant_of-result : goal.invariant_of-result
invariant_of-result c = record {
  numbered = all-numbered c.args.funcs.now c.loop-f.names c.loop-f.f-index c.requires.names
      c.loop-f-test.false c.loop-f.invariant;
  few = few-functions c.args.funcs.now c.requires.small;
}
