use Rattle.br_compile.proofs.Counts.{item-formed}
use Rattle.br_compile.proofs.lowering.proposals_for.Goals as goal

pub propose-requires : goal.propose-requires
propose-requires c =
    let fs = c.args.fs.now in
    let i = c.loop-f.f-index in
    let f = c.f-item.result in
    c.names_are_below.ensures fs f (item-formed fs i f c.requires c.loop-f-test.true c.f-item.is)
