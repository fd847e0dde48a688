use Rattle.std.proofs.Common.{◌≡◌, ◌≤◌, sym, subst, ap, ◌∙◌, arith}
use Rattle.br_syntax.specs.NameFaults.{HasNoNameFault}
use Rattle.br_syntax.specs.Shape.{IsShaped}
use Rattle.br_measure.specs.Bulk.{bulk}
use Rattle.br_simplify.specs.Simple.{simple_program}
use Rattle.br_flatten.specs.Programs.{AreFlat}
use Rattle.br_flatten.proofs.Simple.{Laws, smaller, simple-refines, simple-well_formed, simple-sized}
use Rattle.br_flatten.proofs.flattening.flatten.Goals as goal

pub flat_functions-requires : goal.flat_functions-requires
flat_functions-requires c =
    let laws : Laws = record {
      function = c.simple_programs_mean_the_same.ensures.function;
      calls = c.simple_programs_mean_the_same.ensures.calls;
      names = c.simple_programs_keep_rules.ensures.names;
      limits = c.simple_programs_keep_rules.ensures.limits;
      bulk = c.simple_programs_are_no_larger.ensures.bulk;
      nested = c.simple_programs_are_no_larger.ensures.nested;
      callees = c.simple_programs_are_no_larger.ensures.callees;
    } in
    let ps = c.args.p.now in
    let same : c.as_slice-source.result.now ≡ ps = c.as_slice-source.ensures ∙ c.program.ensures.functions in
    let sound = c.program.ensures.sound in
    let shaped : IsShaped ps = subst IsShaped c.program.ensures.functions c.program.result.now.shaped in
    let simple : c.as_slice.result.now ≡ simple_program ps = c.as_slice.ensures ∙ c.in_ok-simple.ensures
    ∙ ap simple_program same in
    record {
      names = subst HasNoNameFault (sym simple) (laws.names ps sound.names);
      limits = subst IsShaped (sym simple) (laws.limits ps shaped);
      small = subst (λ fs. bulk fs ≤ 32768) (sym simple) (omega (arith, smaller laws ps, sound.small));
    }

pub returns-clause-program : goal.returns-clause-program
returns-clause-program c =
    let laws : Laws = record {
      function = c.simple_programs_mean_the_same.ensures.function;
      calls = c.simple_programs_mean_the_same.ensures.calls;
      names = c.simple_programs_keep_rules.ensures.names;
      limits = c.simple_programs_keep_rules.ensures.limits;
      bulk = c.simple_programs_are_no_larger.ensures.bulk;
      nested = c.simple_programs_are_no_larger.ensures.nested;
      callees = c.simple_programs_are_no_larger.ensures.callees;
    } in
    let ps = c.args.p.now in
    let same : c.as_slice-source.result.now ≡ ps = c.as_slice-source.ensures ∙ c.program.ensures.functions in
    let sound = c.program.ensures.sound in
    let shaped : IsShaped ps = subst IsShaped c.program.ensures.functions c.program.result.now.shaped in
    let simple : c.as_slice.result.now ≡ simple_program ps = c.as_slice.ensures ∙ c.in_ok-simple.ensures
    ∙ ap simple_program same in
    let made = subst (λ fs. AreFlat fs fs c.in_ok-funcs.funcs) simple c.in_ok-funcs.ensures in
    made

pub returns-clause-refines : goal.returns-clause-refines
returns-clause-refines c =
    let laws : Laws = record {
      function = c.simple_programs_mean_the_same.ensures.function;
      calls = c.simple_programs_mean_the_same.ensures.calls;
      names = c.simple_programs_keep_rules.ensures.names;
      limits = c.simple_programs_keep_rules.ensures.limits;
      bulk = c.simple_programs_are_no_larger.ensures.bulk;
      nested = c.simple_programs_are_no_larger.ensures.nested;
      callees = c.simple_programs_are_no_larger.ensures.callees;
    } in
    let ps = c.args.p.now in
    let same : c.as_slice-source.result.now ≡ ps = c.as_slice-source.ensures ∙ c.program.ensures.functions in
    let sound = c.program.ensures.sound in
    let shaped : IsShaped ps = subst IsShaped c.program.ensures.functions c.program.result.now.shaped in
    let simple : c.as_slice.result.now ≡ simple_program ps = c.as_slice.ensures ∙ c.in_ok-simple.ensures
    ∙ ap simple_program same in
    let made = subst (λ fs. AreFlat fs fs c.in_ok-funcs.funcs) simple c.in_ok-funcs.ensures in
    simple-refines laws ps c.in_ok-funcs.funcs sound.names made

pub returns-clause-well_formed : goal.returns-clause-well_formed
returns-clause-well_formed c =
    let laws : Laws = record {
      function = c.simple_programs_mean_the_same.ensures.function;
      calls = c.simple_programs_mean_the_same.ensures.calls;
      names = c.simple_programs_keep_rules.ensures.names;
      limits = c.simple_programs_keep_rules.ensures.limits;
      bulk = c.simple_programs_are_no_larger.ensures.bulk;
      nested = c.simple_programs_are_no_larger.ensures.nested;
      callees = c.simple_programs_are_no_larger.ensures.callees;
    } in
    let ps = c.args.p.now in
    let same : c.as_slice-source.result.now ≡ ps = c.as_slice-source.ensures ∙ c.program.ensures.functions in
    let sound = c.program.ensures.sound in
    let shaped : IsShaped ps = subst IsShaped c.program.ensures.functions c.program.result.now.shaped in
    let simple : c.as_slice.result.now ≡ simple_program ps = c.as_slice.ensures ∙ c.in_ok-simple.ensures
    ∙ ap simple_program same in
    let made = subst (λ fs. AreFlat fs fs c.in_ok-funcs.funcs) simple c.in_ok-funcs.ensures in
    simple-well_formed laws ps c.in_ok-funcs.funcs sound.names shaped sound.small made

pub returns-clause-sizes : goal.returns-clause-sizes
returns-clause-sizes c =
    let laws : Laws = record {
      function = c.simple_programs_mean_the_same.ensures.function;
      calls = c.simple_programs_mean_the_same.ensures.calls;
      names = c.simple_programs_keep_rules.ensures.names;
      limits = c.simple_programs_keep_rules.ensures.limits;
      bulk = c.simple_programs_are_no_larger.ensures.bulk;
      nested = c.simple_programs_are_no_larger.ensures.nested;
      callees = c.simple_programs_are_no_larger.ensures.callees;
    } in
    let ps = c.args.p.now in
    let same : c.as_slice-source.result.now ≡ ps = c.as_slice-source.ensures ∙ c.program.ensures.functions in
    let sound = c.program.ensures.sound in
    let shaped : IsShaped ps = subst IsShaped c.program.ensures.functions c.program.result.now.shaped in
    let simple : c.as_slice.result.now ≡ simple_program ps = c.as_slice.ensures ∙ c.in_ok-simple.ensures
    ∙ ap simple_program same in
    let made = subst (λ fs. AreFlat fs fs c.in_ok-funcs.funcs) simple c.in_ok-funcs.ensures in
    simple-sized laws ps c.in_ok-funcs.funcs sound.names shaped made
