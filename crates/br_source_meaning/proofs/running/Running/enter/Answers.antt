use Rattle.std.proofs.Common.{◌≡◌, [], ◌∷◌, ◌++◌, Some, None, List, ℕ, sym, ap, ◌∙◌, arith}
use Rattle.std.proofs.lemmas.Grind.{common_steps}
use Rattle.br_syntax.specs.Functions.{function_named}
use Rattle.br_source_meaning.specs.Values.{Locals, no_locals}
use Rattle.br_source_meaning.specs.Runs.{Callee, State, with_locals, back_in, run_all}
use Rattle.br_source_meaning.specs.Calls.{words_of, returned, enter}
use Rattle.br_source_meaning.specs.Names.{function_names, names_at}
use Rattle.br_source_meaning.specs.Numbered.{named_commands, named_function, target_name}
use Rattle.br_source_meaning.specs.Running.{names_of, locals_in, own_of, state_of, deep_calls}
use Rattle.br_source_meaning.specs.Pending.{finish}
use Rattle.br_source_meaning.specs.declared.variables.Variables.{Variables}
use Rattle.br_source_meaning.specs.declared.pending.Frame.TheVariants as frame
use Rattle.br_source_meaning.proofs.Deep.{deep-enters}
use Rattle.br_source_meaning.proofs.Frames.{entered}
use Rattle.br_source_meaning.proofs.Kept.{set-first}
use Rattle.br_source_meaning.proofs.running.Running.enter.Goals as goal

pub returns-in_default-clause-starts : goal.returns-in_default-clause-starts
returns-in_default-clause-starts c =
    let s : State = state_of c.args.self.now in
    let own = own_of c.args.self.now in
    let keep : List ℕ → Locals → Locals = with_locals (names_at own c.args.to.now) in
    let callee = target_name (function_names c.args.functions.now.funcs.now) c.args.callee.now in
    let none : function_named c.args.functions.now.funcs.now callee ≡ None = grind (arith, common_steps) in
    ap (back_in keep s.locals)
    (deep-enters c.args.functions.now.funcs.now callee c.args.words s c.requires
    ∙ ap (λ o. enter (deep_calls c.args.functions.now.funcs.now) o c.args.words s) none)

pub returns-clause-starts : goal.returns-clause-starts
returns-clause-starts c =
    let s : State = state_of c.args.self.now in
    let own = own_of c.args.self.now in
    let keep : List ℕ → Locals → Locals = with_locals (names_at own c.args.to.now) in
    let names = function_names c.args.functions.now.funcs.now in
    let callee = target_name names c.args.callee.now in
    let call : Callee = deep_calls c.args.functions.now.funcs.now in
    let f = c.in-Some.f in
    let g = named_function names f.now in
    let named : function_named c.args.functions.now.funcs.now callee ≡ Some g = grind (arith, common_steps) in
    let v = c.replace-caller.new.dest in
    let own_names : v.names.now ≡ f.now.names = ap (λ (v : Variables). v.names.now) c.replace-caller.ensures.after
    ∙ c.in_ok-variables.ensures.names in
    let none : locals_in v ≡ no_locals = ap locals_in c.replace-caller.ensures.after
    ∙ c.in_ok-variables.ensures.unset in
    let at : names_of c.set_all.new.self ≡ f.now.names = c.set_all.ensures.names ∙ own_names in
    let set : locals_in c.set_all.new.self ≡ with_locals g.args c.args.words no_locals =
    set-first f.now.names v c.set_all.new.self c.as_slice.result.now c.as_slice-2.result.now own_names none
    c.set_all.ensures.names c.set_all.ensures.words
    ∙ ap (λ ks. with_locals (names_at f.now.names ks) c.as_slice-2.result.now no_locals) c.as_slice.ensures
    ∙ ap (λ vs. with_locals g.args vs no_locals) c.as_slice-2.ensures in
    let first : c.push.new.self
    ≡ c.args.pending.now ++ frame.Return c.as_slice-3.result c.args.to c.replace-caller.result ∷ [] =
    grind (arith, common_steps) in
    let second : c.push-2.new.self ≡ c.push.new.self ++ frame.Body (record { commands = c.as_slice-4.result }) ∷ [] =
    grind (arith, common_steps) in
    let before : c.replace-caller.result ≡ c.args.self.now.variables = c.replace-caller.ensures.value in
    let results : names_at (names_of c.set_all.new.self) c.as_slice-3.result.now ≡ g.results =
    ap (names_at (names_of c.set_all.new.self)) c.as_slice-3.ensures ∙ ap (λ n. names_at n f.now.results) at in
    let body : named_commands names (names_of c.set_all.new.self) c.as_slice-4.result.now ≡ g.body =
    ap (named_commands names (names_of c.set_all.new.self)) c.as_slice-4.ensures
    ∙ ap (λ n. named_commands names n f.now.body) at in
    let inside : State = record s { locals = locals_in c.set_all.new.self } in
    ap (λ r. finish names own call c.args.pending.now (back_in keep s.locals r))
    (deep-enters c.args.functions.now.funcs.now callee c.args.words s c.requires
    ∙ ap (λ o. enter call o c.args.words s) named)
    ∙ ap (λ l. finish names own call c.args.pending.now
    (back_in keep s.locals (returned (words_of g.results) (run_all call g.body (record s { locals = l })))))
    (sym set)
    ∙ ap (λ v. finish names (names_of v) call c.args.pending.now
    (back_in (with_locals (names_at (names_of v) c.args.to.now)) s.locals
    (returned (words_of g.results) (run_all call g.body inside)))) (sym before)
    ∙ sym (entered names (names_of c.set_all.new.self) call c.args.pending.now c.push.new.self c.push-2.new.self
    c.as_slice-3.result c.args.to c.replace-caller.result (record { commands = c.as_slice-4.result }) g.results
    g.body s.locals inside first second results body (ap locals_in before))
