use Rattle.std.proofs.Common.{◌≡◌, ◌∙◌, ◌<◌, List, sym, ap, subst}
use Rattle.br_flatimp.specs.WellFormed.{IsWellFormed}
use Rattle.br_flatimp.specs.declared.program.FlatFunc.{FlatFunc}
use Rattle.br_deadcode.specs.Sweeps.{swept_program, program_leaves}
use Rattle.br_deadcode.proofs.Exact.{none-dead}
use Rattle.br_deadcode.proofs.Falls.{program_count, fewer}
use Rattle.br_deadcode.proofs.Sizes.{sweep-formed}
use Rattle.br_deadcode.proofs.Rounds.{IsLeftOf, left-itself, left-once, left-trans}
use Rattle.br_deadcode.proofs.program.sweep_program.Goals as goal

pub rounds-init : goal.rounds-init
rounds-init c = record { formed = c.requires; left = left-itself c.args.p.funcs }

pub returns-then-not-removed-clause-none_dead : goal.returns-then-not-removed-clause-none_dead
returns-then-not-removed-clause-none_dead c =
    let leaves : c.sweep_functions.new.removed ≡ program_leaves c.rounds.funcs =
    c.in_ok-fewer.ensures.removed ∙ ap program_leaves c.as_slice.ensures in
    none-dead c.rounds.funcs (sym leaves ∙ c.if-not-removed.true)

pub rounds-smaller : goal.rounds-smaller
rounds-smaller c =
    let fs : List FlatFunc = c.rounds.funcs in
    let leaves : c.sweep_functions.new.removed ≡ program_leaves fs =
    c.in_ok-fewer.ensures.removed ∙ ap program_leaves c.as_slice.ensures in
    let same : c.in_ok-fewer.fewer ≡ swept_program fs = c.in_ok-fewer.ensures.left
    ∙ ap swept_program c.as_slice.ensures in
    subst (λ qs. program_count qs < program_count fs) (sym same) (fewer fs (sym leaves ∙ c.if-not-removed.false))

pub rounds-preserved : goal.rounds-preserved
rounds-preserved c =
    let fs : List FlatFunc = c.rounds.funcs in
    let ps : List FlatFunc = c.args.p.funcs in
    let same : c.in_ok-fewer.fewer ≡ swept_program fs = c.in_ok-fewer.ensures.left
    ∙ ap swept_program c.as_slice.ensures in
    record {
      formed = subst IsWellFormed (sym same) (sweep-formed fs c.rounds.invariant.formed);
      left = subst (λ qs. IsLeftOf qs ps) (sym same)
          (left-trans (swept_program fs) fs ps (left-once fs) c.rounds.invariant.left);
    }
