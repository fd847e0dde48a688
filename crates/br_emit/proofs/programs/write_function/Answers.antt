use Rattle.br_emit.specs.Ready.{aimed}
use Rattle.br_emit.specs.Registers.{forgets_of}
use Rattle.br_emit.proofs.Following.{body_few}
use Rattle.br_emit.proofs.programs.write_function.Goals as goal

pub measure_function-requires-clause-few : goal.measure_function-requires-clause-few
measure_function-requires-clause-few c = body_few (aimed c.args.targets.now) (forgets_of c.args.sets.now) c.args.called
    c.args.n c.args.target c.args.f.now 1048576 c.requires.few
