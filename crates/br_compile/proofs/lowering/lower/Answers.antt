use Rattle.std.proofs.Common.{◌≤◌, length, subst, arith}
use Rattle.br_syntax.specs.Denotes.{Denotes}
use Rattle.br_measure.specs.Faults.{IsSound}
use Rattle.br_compile.specs.Lowered.{IsLowered}
use Rattle.br_sexpr.specs.Reads.{most_bytes}
use Rattle.br_compile.proofs.Unrefused.{Laws, accepted_has_no_fault}
use Rattle.br_compile.proofs.lowering.lower.Goals as goal

pub returns-clause-lowered : goal.returns-clause-lowered
returns-clause-lowered c =
    let trees = c.in_ok-trees.trees in
    let fs = c.in_ok-program.program.funcs in
    let small : length c.args.text.now ≤ most_bytes = omega arith in
    let denotes : Denotes trees fs = subst (λ ts. Denotes ts fs) c.as_slice.ensures c.in_ok-program.ensures.denotes in
    let sound : IsSound fs = subst IsSound c.in_ok-checked.ensures.kept c.in_ok-checked.ensures.sound in
    let made = c.in_ok-made.made in (
      fs,
      ((small, trees, c.in_ok-trees.ensures.trees, denotes), sound),
      subst (IsLowered made.flat.funcs made.needs.items made.bulk) c.in_ok-checked.ensures.kept
          c.in_ok-made.ensures.lowered,
    )

pub returns-clause-unrefused : goal.returns-clause-unrefused
returns-clause-unrefused c = λ r.
    let laws : Laws = record {
      one_reading = c.one_answer.ensures.one_reading;
      not_both =
          c.one_answer.ensures.not_both;
      sound = c.sound_programs_have_no_fault.ensures;
    } in
    let trees = c.in_ok-trees.trees in
    let fs = c.in_ok-program.program.funcs in
    let small : length c.args.text.now ≤ most_bytes = omega arith in
    let denotes : Denotes trees fs = subst (λ ts. Denotes ts fs) c.as_slice.ensures c.in_ok-program.ensures.denotes in
    let sound : IsSound fs = subst IsSound c.in_ok-checked.ensures.kept c.in_ok-checked.ensures.sound in
    accepted_has_no_fault laws c.args.text.now fs r ((small, trees, c.in_ok-trees.ensures.trees, denotes), sound)
