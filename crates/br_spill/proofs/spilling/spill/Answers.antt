use Rattle.std.proofs.Common.{◌≡◌, sym, ap, subst, ◌∙◌, IsTrue}
use Rattle.std.specs.List.{list_all}
use Rattle.br_spill.specs.Spill.{HasWords, SpilledFunctions, StayLean, is_narrow, spilled_program}
use Rattle.br_spill.proofs.spilling.spill.Goals as goal

pub returns : goal.returns
returns c =
    let ps = c.args.p.funcs in
    let qs = c.in_ok-funcs.funcs in
    let same : qs ≡ spilled_program ps = c.in_ok-funcs.ensures.program ∙ ap spilled_program c.as_slice.ensures in
    let words : HasWords ps = subst HasWords c.as_slice.ensures c.in_ok-funcs.ensures.words in
    let each : SpilledFunctions qs ps =
    subst (λ rs. SpilledFunctions rs ps) (sym same) (c.layouts_fit.ensures.program ps c.requires) in
    record {
      program = same;
      form = c.spilled_programs_are_in_register_form.ensures qs ps c.requires each
          (subst (λ rs. IsTrue (list_all is_narrow rs)) (sym same) (c.layouts_fit.ensures.narrow ps));
      refines = c.spilled_programs_refine.ensures qs ps c.requires words each;
      lean = subst (λ rs. StayLean rs ps) (sym same) (c.spilled_programs_stay_lean.ensures ps c.requires);
    }
