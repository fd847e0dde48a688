use Rattle.std.proofs.Common.{length, sym, ap, subst, ◌∙◌}
use Rattle.br_flatimp.specs.WellFormed.{IsWellFormed}
use Rattle.br_compile.proofs.Counts.{few-statements}
use Rattle.br_compile.proofs.Passes.{after_pass, renamed_none_dead, renamed_none_missed}
use Rattle.br_compile.proofs.lowering.with_few_names.Goals as goal

pub proposals_for-requires : goal.proposals_for-requires
proposals_for-requires c = subst IsWellFormed (sym c.as_slice.ensures) c.requires.small.well_formed

pub assign-requires : goal.assign-requires
assign-requires c = record {
  formed = c.requires.small.well_formed;
  count = few-statements c.args.p.funcs c.requires.small.each;
  proposals = ap length c.as_slice-2.ensures.value ∙ c.in_ok-proposals.ensures ∙ ap length c.as_slice.ensures;
}

pub returns-clause-flat : goal.returns-clause-flat
returns-clause-flat c fs flat =
    let named = c.in_ok-named in
    after_pass c.refines_composes.ensures.composes fs named.named.funcs c.args.p.funcs flat
    named.ensures.well_formed named.ensures.refines named.ensures.kept

pub returns-clause-none_missed : goal.returns-clause-none_missed
returns-clause-none_missed c missed =
    renamed_none_missed c.in_ok-named.named.funcs c.args.p.funcs c.in_ok-named.ensures.lean missed

pub returns-clause-none_dead : goal.returns-clause-none_dead
returns-clause-none_dead c dead =
    renamed_none_dead c.in_ok-named.named.funcs c.args.p.funcs c.in_ok-named.ensures.lean dead
