use Rattle.std.proofs.Common.{[], map, refl}
use Rattle.br_measure.specs.Names.{joined, commands_faults, duplicates_after}
use Rattle.br_measure.proofs.LowestParts.{lowest_append}
use Rattle.br_measure.proofs.names.read_names.Goals as goal

pub returns-clause-fault : goal.returns-clause-fault
returns-clause-fault c =
    let fs = c.args.funcs.now in
    let parts = lowest_append (duplicates_after [] fs) (joined (map (λ f. commands_faults fs f.body) fs)) in
    rw (c.lower-fault.ensures, c.bodies.ensures, c.duplicates.ensures, c.in_ok-index.ensures, parts) refl
