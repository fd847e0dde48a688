use Rattle.std.proofs.Common.{refl}
use Rattle.br_emit.proofs.Bits.{has-every}
use Rattle.br_emit.proofs.Living.{at_test_is}
use Rattle.br_emit.proofs.flow.at_test.Goals as goal

pub returns : goal.returns
returns c = λ after x below.
    at_test_is c.args.first c.args.last (record { reads = c.union.result; keeps = 4294967295 }) c.args.test
    c.apply.result 4294967295 after x (has-every x below) (c.apply.ensures x) (c.union.ensures x) refl
