use Rattle.std.proofs.Common.{◌≡◌, sym, ap, subst, ◌∙◌}
use Rattle.std.proofs.lemmas.Result.{IfOk-weaker}
use Rattle.br_source_meaning.specs.Calls.{call}
use Rattle.br_source_meaning.specs.Names.{function_names}
use Rattle.br_source_meaning.specs.Numbered.{named_function, HasSourceResults}
use Rattle.br_source_meaning.specs.declared.numbered_program.NumberedProgram.{NumberedProgram}
use Rattle.br_source_meaning.proofs.interp.Interp.run.Goals as goal

pub returns : goal.returns
returns c =
    let i = c.args.self in
    let p = c.in_ok-program.program in
    let fs = c.in_ok-functions.functions.funcs.now in
    let funcs : fs ≡ i.program.now.funcs = c.in_ok-functions.ensures.funcs ∙ c.in_ok-program.ensures.index
    ∙ c.as_slice.ensures in
    let func : named_function (function_names fs) c.in_ok-functions.functions.program.now.entry ≡ i.func.now =
    ap (λ (q : NumberedProgram). named_function (function_names fs) q.entry) c.in_ok-functions.ensures.program
    ∙ ap (λ gs. named_function (function_names gs) p.entry) c.in_ok-functions.ensures.funcs
    ∙ c.in_ok-program.ensures.entry in
    IfOk-weaker c.called.result _ _
    (λ done h. h
    ∙ ap (λ gs. call gs (named_function (function_names fs) c.in_ok-functions.functions.program.now.entry) i.args.now
    i.memory i.answers.now i.choices.now c.args.fuel) funcs
    ∙ ap (λ f. call i.program.now.funcs f i.args.now i.memory i.answers.now i.choices.now c.args.fuel) func)
    c.called.ensures

pub called-requires : goal.called-requires
called-requires c = subst (λ (p : NumberedProgram). HasSourceResults p.entry) (sym c.in_ok-functions.ensures.program)
    c.in_ok-program.ensures.results
