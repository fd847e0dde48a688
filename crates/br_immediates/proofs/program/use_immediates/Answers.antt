use Rattle.std.proofs.Common.{◌≡◌, true, sym, ap, subst, ◌∙◌}
use Rattle.std.specs.List.{list_all}
use Rattle.br_flatimp.specs.Missed.{has_no_missed}
use Rattle.br_flatimp.specs.Refines.{Refines, meaning}
use Rattle.br_flatimp.specs.Sizes.{Kept}
use Rattle.br_flatimp.specs.WellFormed.{IsWellFormed}
use Rattle.br_immediates.specs.Immediates.{function_literals_fit, program_with_constants}
use Rattle.br_immediates.proofs.program.use_immediates.Goals as goal

pub returns : goal.returns
returns c =
    let ps = c.args.p.funcs in
    let qs = c.in_ok-funcs.funcs in
    let same : qs ≡ program_with_constants ps =
    c.in_ok-funcs.ensures.program ∙ ap program_with_constants c.as_slice.ensures in
    let words : list_all function_literals_fit ps ≡ true =
    subst (λ fs. list_all function_literals_fit fs ≡ true) c.as_slice.ensures c.in_ok-funcs.ensures.words in
    record {
      program = same;
      well_formed = subst IsWellFormed (sym same) (c.programs_with_constants_are_well_formed.ensures ps c.requires);
      refines = subst (λ fs. Refines (meaning fs) (meaning ps)) (sym same)
          (c.programs_with_constants_refine.ensures ps words);
      kept = subst (λ fs. Kept fs ps) (sym same) (c.programs_with_constants_keep_sizes.ensures ps);
      none_missed = ap (list_all has_no_missed) same ∙ c.programs_with_constants_miss_none.ensures ps;
    }
