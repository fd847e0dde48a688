use Rattle.std.proofs.Common.{rules, arith}
use Rattle.std.proofs.lemmas.Grind.{common_steps}
use Rattle.br_flatimp.specs.Runs.{forgets_none}
use Rattle.br_regalloc_check.specs.Assigned.{AreAssigned}
use Rattle.br_regalloc_check.proofs.Assigned.{all-renamed}
use Rattle.br_regalloc_check.proofs.Programs.{all-kept, all-lean, fit-all, program-formed, program-parts}
use Rattle.br_regalloc_check.proofs.assigning.assign.Goals as goal

pub functions-requires-clause-fit : goal.functions-requires-clause-fit
functions-requires-clause-fit c =
    let fs = c.args.p.funcs in
    fit-all fs fs (program-parts fs c.requires.formed).1 c.requires.count

pub returns-clause-well_formed : goal.returns-clause-well_formed
returns-clause-well_formed c =
    let assigned : AreAssigned c.from_vec.result c.args.p.funcs c.args.proposals.now =
    first_of (search rules, grind (arith, common_steps)) in
    program-formed c.from_vec.result c.args.p.funcs c.args.proposals.now assigned c.requires.formed

pub returns-clause-refines : goal.returns-clause-refines
returns-clause-refines c =
    let assigned : AreAssigned c.from_vec.result c.args.p.funcs c.args.proposals.now =
    first_of (search rules, grind (arith, common_steps)) in
    c.renamed_programs_refine.ensures forgets_none forgets_none c.from_vec.result c.args.p.funcs
    (all-renamed c.from_vec.result c.args.p.funcs c.args.proposals.now assigned)

pub returns-clause-kept : goal.returns-clause-kept
returns-clause-kept c =
    let fs = c.args.p.funcs in
    let assigned : AreAssigned c.from_vec.result c.args.p.funcs c.args.proposals.now =
    first_of (search rules, grind (arith, common_steps)) in
    all-kept fs c.from_vec.result fs c.args.proposals.now assigned (program-parts fs c.requires.formed).1

pub returns-clause-lean : goal.returns-clause-lean
returns-clause-lean c =
    let assigned : AreAssigned c.from_vec.result c.args.p.funcs c.args.proposals.now =
    first_of (search rules, grind (arith, common_steps)) in
    all-lean c.from_vec.result c.args.p.funcs c.args.proposals.now assigned
