use Rattle.std.proofs.Common.{◌≡◌, sym, ap, subst, ◌∙◌}
use Rattle.br_spill.specs.Spill.{HasWords, SpilledFunctions, wide_program}
use Rattle.br_spill.proofs.spilling.pass_in_registers.Goals as goal

pub returns : goal.returns
returns c =
    let ps = c.args.p.now.funcs in
    let qs = c.in_ok-funcs.funcs in
    let same : qs ≡ wide_program ps = c.in_ok-funcs.ensures.program ∙ ap wide_program c.as_slice.ensures in
    let words : HasWords ps = subst HasWords c.as_slice.ensures c.in_ok-funcs.ensures.words in
    let each : SpilledFunctions qs ps =
    subst (λ rs. SpilledFunctions rs ps) (sym same) (c.wide_layouts_fit.ensures.program ps c.requires) in
    record {
      program = same;
      spilled = each;
      well_formed = c.spilled_programs_are_well_formed.ensures qs ps c.requires each;
      refines = c.spilled_programs_refine.ensures qs ps c.requires words each;
      lean = c.spilled_programs_are_as_lean.ensures qs ps c.requires each;
    }
