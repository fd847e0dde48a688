use Rattle.br_emit.proofs.Forgetting.{names_in}
use Rattle.br_emit.proofs.changing.names_of.Goals as goal

pub returns : goal.returns
returns c =
    names_in c.args.f.now c.as_slice.result.now c.as_slice-2.result.now c.union.result
    c.all_of.result c.changed_by_all.result c.as_slice.ensures c.as_slice-2.ensures c.union.ensures c.all_of.ensures
    c.changed_by_all.ensures
