use Rattle.std.proofs.Common.{sym, subst, ◌∙◌}
use Rattle.br_measure.specs.Faults.{IsSound}
use Rattle.br_spill.specs.Spill.{SpilledFunctions}
use Rattle.br_compile.specs.Lowered.{IsFlat}
use Rattle.br_compile.proofs.Grown.{Laws, spilled_grown}
use Rattle.br_compile.proofs.Passes.{Passes, are_small, in_registers, lean}
use Rattle.br_compile.proofs.lowering.in_registers.Goals as goal

pub with_registers-requires : goal.with_registers-requires
with_registers-requires c =
    let fs = c.args.program.now in
    let sound : IsSound fs = c.program-source.ensures.sound in
    let first = c.in_ok-first in
    let flat : IsFlat c.in_ok-flat.flat.funcs fs =
    c.in_ok-flat.ensures.flat fs (record {
      well_formed = first.ensures.well_formed;
      refines = first.ensures.refines;
      sizes = first.ensures.sizes;
    }) in
    record { small = are_small fs c.in_ok-flat.flat.funcs flat sound.small }

pub returns-then-is_in_register_form-clause-lowered : goal.returns-then-is_in_register_form-clause-lowered
returns-then-is_in_register_form-clause-lowered c =
    let fs = c.args.program.now in
    let first = c.in_ok-first in
    let flat : IsFlat c.in_ok-flat.flat.funcs fs =
    c.in_ok-flat.ensures.flat fs (record {
      well_formed = first.ensures.well_formed;
      refines = first.ensures.refines;
      sizes = first.ensures.sizes;
    }) in
    let passes : Passes = record {
      adds = c.measures_add_up.ensures;
      bounded = c.needs_are_bounded.ensures.bounded;
      composes = c.refines_composes.ensures.composes;
    } in
    let alone = c.in_ok-alone in
    in_registers passes fs c.in_ok-flat.flat.funcs alone.alone.funcs c.program-source.ensures.sound flat
    alone.ensures.grown alone.ensures.refines
    (alone.ensures.well_formed, sym c.is_in_register_form.ensures ∙ c.if-is_in_register_form.true)

pub with_few_names-requires : goal.with_few_names-requires
with_few_names-requires c =
    let fs = c.args.program.now in
    let sound : IsSound fs = c.program-source.ensures.sound in
    let first = c.in_ok-first in
    let flat : IsFlat c.in_ok-flat.flat.funcs fs =
    c.in_ok-flat.ensures.flat fs (record {
      well_formed = first.ensures.well_formed;
      refines = first.ensures.refines;
      sizes = first.ensures.sizes;
    }) in
    record { small = are_small fs c.in_ok-flat.flat.funcs flat sound.small }

pub returns-clause-lowered : goal.returns-clause-lowered
returns-clause-lowered c =
    let fs = c.args.program.now in
    let first = c.in_ok-first in
    let flat : IsFlat c.in_ok-flat.flat.funcs fs =
    c.in_ok-flat.ensures.flat fs (record {
      well_formed = first.ensures.well_formed;
      refines = first.ensures.refines;
      sizes = first.ensures.sizes;
    }) in
    let passes : Passes = record {
      adds = c.measures_add_up.ensures;
      bounded = c.needs_are_bounded.ensures.bounded;
      composes = c.refines_composes.ensures.composes;
    } in
    let laws : Laws = record {
      bulk = c.spilled_functions_keep_sizes.ensures.bulk;
      nest = c.spilled_functions_keep_sizes.ensures.nest;
      callees = c.spilled_functions_keep_sizes.ensures.callees;
    } in
    let named = c.in_ok-named in
    let spilled = c.in_ok-spilled in
    let ps = named.named.funcs in
    let qs = spilled.spilled.funcs in
    let few : IsFlat ps fs = named.ensures.flat fs flat in
    let each : SpilledFunctions qs ps =
    subst (λ rs. SpilledFunctions rs ps) (sym spilled.ensures.program)
    (c.layouts_fit.ensures.program ps few.well_formed) in
    in_registers passes fs ps qs c.program-source.ensures.sound few (spilled_grown laws qs ps each)
    spilled.ensures.refines
    spilled.ensures.form

pub returns-clause-lean : goal.returns-clause-lean
returns-clause-lean c =
    let flat = c.in_ok-flat in
    let named = c.in_ok-named in
    let spilled = c.in_ok-spilled in
    lean spilled.spilled.funcs named.named.funcs spilled.ensures.lean
    (named.ensures.none_missed flat.ensures.none_missed)
    (named.ensures.none_dead flat.ensures.none_dead)
