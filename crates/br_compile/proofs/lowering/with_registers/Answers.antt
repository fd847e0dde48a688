use Rattle.std.proofs.Common.{length, ap, subst, ◌∙◌}
use Rattle.br_spill.specs.Spill.{AreAsLean}
use Rattle.br_regalloc_check.specs.Assigned.{KeepLean}
use Rattle.br_compile.proofs.Counts.{few-grown}
use Rattle.br_compile.proofs.Grown.{Laws, renamed_grown, spilled_grown}
use Rattle.br_compile.proofs.Passes.{wide_lean}
use Rattle.br_compile.proofs.lowering.with_registers.Goals as goal

pub assign-requires : goal.assign-requires
assign-requires c =
    let ps = c.args.p.now.funcs in
    let wide = c.in_ok-wide in
    let laws : Laws = record {
      bulk = c.spilled_functions_keep_sizes.ensures.bulk;
      nest = c.spilled_functions_keep_sizes.ensures.nest;
      callees = c.spilled_functions_keep_sizes.ensures.callees;
    } in
    record {
      formed = wide.ensures.well_formed;
      count = few-grown wide.wide.funcs ps c.requires.small.each
          (spilled_grown laws wide.wide.funcs ps wide.ensures.spilled);
      proposals = ap length c.as_slice.ensures.value ∙ c.in_ok-proposals.ensures;
    }

pub returns-clause-refines : goal.returns-clause-refines
returns-clause-refines c =
    let wide = c.in_ok-wide in
    let named = c.in_ok-named in
    c.refines_composes.ensures.composes _ _ _ named.ensures.refines wide.ensures.refines

pub returns-clause-grown : goal.returns-clause-grown
returns-clause-grown c =
    let ps = c.args.p.now.funcs in
    let wide = c.in_ok-wide in
    let named = c.in_ok-named in
    let laws : Laws = record {
      bulk = c.spilled_functions_keep_sizes.ensures.bulk;
      nest = c.spilled_functions_keep_sizes.ensures.nest;
      callees = c.spilled_functions_keep_sizes.ensures.callees;
    } in
    renamed_grown named.named.funcs wide.wide.funcs ps named.ensures.kept named.ensures.lean
    (spilled_grown laws wide.wide.funcs ps wide.ensures.spilled)

pub returns-clause-lean : goal.returns-clause-lean
returns-clause-lean c missed dead =
    let ps = c.args.p.now.funcs in
    let wide = c.in_ok-wide in
    let named = c.in_ok-named in
    wide_lean c.wide_layouts_fit.ensures.slots c.spilled_functions_keep_sizes.ensures.buffers named.named.funcs ps
    c.requires.small.each
    (subst (λ qs. AreAsLean qs ps) wide.ensures.program wide.ensures.lean)
    (subst (KeepLean named.named.funcs) wide.ensures.program named.ensures.lean) missed dead
