use Rattle.std.proofs.Common.{arith}
use Rattle.br_emit.proofs.Imaged.{functions_few}
use Rattle.br_emit.proofs.emission.buffer_for.Goals as goal

pub overflow_cast-funcs : goal.overflow_cast-funcs
overflow_cast-funcs c =
    let few = functions_few c.args.funcs.now in
    let most = c.requires in
    omega (arith, few, most)
