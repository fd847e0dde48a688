use Rattle.std.proofs.Common.{◌≡◌, Err, sym, subst, ◌∙◌, arith}
use Rattle.std.proofs.lemmas.Grind.{common_steps}
use Rattle.br_source_meaning.specs.Values.{no_locals}
use Rattle.br_source_meaning.specs.Runs.{Callee, Run, State, with_locals, run_all}
use Rattle.br_source_meaning.specs.Calls.{words_of, run_function}
use Rattle.br_source_meaning.specs.Names.{function_names}
use Rattle.br_source_meaning.specs.Numbered.{named_commands, named_function}
use Rattle.br_source_meaning.specs.Running.{names_of, locals_in, state_of, deep_calls, IsDefined, LeadsBack}
use Rattle.br_source_meaning.proofs.Frames.{back-ends, back-read, begun}
use Rattle.br_source_meaning.proofs.running.Running.function.Goals as goal

pub returns-in_err-commands : goal.returns-in_err-commands
returns-in_err-commands c =
    let call : Callee = deep_calls c.args.functions.now.funcs.now in
    let names = function_names c.args.functions.now.funcs.now in
    let f = c.args.functions.now.program.now.entry in
    let g = named_function names f in
    let s : State = state_of c.args.self.now in
    let e = c.in_err-commands.field-0.0 in
    let is : c.from_residual-in_err-commands.result ≡ Err e = grind (arith, common_steps) in
    let start : Run = run_all call (named_commands names (names_of c.set_all.new.self) c.as_slice-2.result.now)
    (record s { locals = locals_in c.set_all.new.self }) in
    let body : Run = run_all call g.body (record s { locals = with_locals g.args c.args.args.now no_locals }) in
    let same : start ≡ body =
    begun names call f c.in_ok-variables.variables c.set_all.new.self c.as_slice.result.now c.args.args.now
    c.as_slice-2.result.now s c.in_ok-variables.ensures.names c.in_ok-variables.ensures.unset
    c.set_all.ensures.names c.set_all.ensures.words c.as_slice.ensures c.as_slice-2.ensures in
    subst (λ o. LeadsBack o c.commands.new.self (run_function call g c.args.args.now s)) (sym is)
    (back-ends (Unit {0}) e c.commands.new.self (words_of g.results) start body same c.in_err-commands.ensures)

pub returns : goal.returns
returns c =
    let call : Callee = deep_calls c.args.functions.now.funcs.now in
    let names = function_names c.args.functions.now.funcs.now in
    let f = c.args.functions.now.program.now.entry in
    let g = named_function names f in
    let s : State = state_of c.args.self.now in
    let start : Run = run_all call (named_commands names (names_of c.set_all.new.self) c.as_slice-2.result.now)
    (record s { locals = locals_in c.set_all.new.self }) in
    let body : Run = run_all call g.body (record s { locals = with_locals g.args c.args.args.now no_locals }) in
    let same : start ≡ body =
    begun names call f c.in_ok-variables.variables c.set_all.new.self c.as_slice.result.now c.args.args.now
    c.as_slice-2.result.now s c.in_ok-variables.ensures.names c.in_ok-variables.ensures.unset
    c.set_all.ensures.names c.set_all.ensures.words c.as_slice.ensures c.as_slice-2.ensures in
    let read : c.as_slice-3.result.now ≡ g.results = c.as_slice-3.ensures ∙ sym c.requires in
    back-read c.named_results.result c.commands.new.self (words_of g.results) start body same c.in_ok-commands.ensures
    (subst (λ xs. IsDefined c.named_results.result (words_of xs (state_of c.commands.new.self).locals)) read
    c.named_results.ensures)
