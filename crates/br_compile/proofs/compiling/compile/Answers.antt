use Rattle.std.proofs.Common.{◌≤◌, sym, subst, ◌∙◌}
use Rattle.std.specs.Prelude.{All}
use Rattle.br_compile.specs.FirstSteps.{ImplementsAtFirst}
use Rattle.br_compile.proofs.Composed.{implements_refined}
use Rattle.br_compile.proofs.Fronts.{implements_at_first}
use Rattle.br_compile.proofs.Passes.{needs_are_shallow, as_many, fits_region, are_needs}
use Rattle.br_compile.proofs.compiling.compile.Goals as goal

pub emit-requires : goal.emit-requires
emit-requires c =
    let lowered = c.in_ok-lowered.ensures.lowered in
    let fs = lowered.0 in
    let sound = lowered.1.1 in
    let is = lowered.2.in_registers in
    let qs = c.in_ok-lowered.lowered.flat.funcs in
    let same = c.as_slice.ensures.value ∙ lowered.2.needs in
    record {
      register_form = is.register_form;
      needs = are_needs c.needs_add_up.ensures qs c.as_slice.result.now is.no_recursion same;
      stack = subst (All (λ n. n ≤ 1048576)) (sym same) (needs_are_shallow fs qs sound (as_many fs qs is.refines) is);
      size = fits_region fs qs sound is;
    }

pub returns-clause-implements : goal.returns-clause-implements
returns-clause-implements c =
    let lowered = c.in_ok-lowered.ensures.lowered in
    let fs = lowered.0 in
    let is = lowered.2.in_registers in
    let qs = c.in_ok-lowered.lowered.flat.funcs in
    let same = c.as_slice.ensures.value ∙ lowered.2.needs in
    let made = c.in_ok-image in (
      fs,
      lowered.1,
      implements_refined qs fs is.refines is.short made.image c.as_slice.result.now same
          made.ensures.layout made.ensures.words made.ensures.entries made.ensures.shows is.within,
    )

pub returns-clause-first_steps : goal.returns-clause-first_steps
returns-clause-first_steps c = λ gs accepts.
    let lowered = c.in_ok-lowered.ensures.lowered in
    let fs = lowered.0 in
    let is = lowered.2.in_registers in
    let qs = c.in_ok-lowered.lowered.flat.funcs in
    let stack = c.as_slice.ensures.value ∙ lowered.2.needs in
    let made = c.in_ok-image in
    let same = c.texts_are_accepted_or_at_fault.ensures.one_program c.args.text.now fs gs lowered.1 accepts in
    subst (ImplementsAtFirst made.image) same (implements_at_first made.image fs
    (implements_refined qs fs is.refines is.short made.image c.as_slice.result.now stack
    made.ensures.layout made.ensures.words made.ensures.entries made.ensures.shows is.within))

pub returns-clause-unrefused : goal.returns-clause-unrefused
returns-clause-unrefused c = c.in_ok-lowered.ensures.unrefused
