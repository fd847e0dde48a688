use Rattle.std.proofs.Common.{◌≡◌, ℕ, List, ap, subst, ◌∙◌}
use Rattle.std.proofs.lemmas.List.{take_rest}
use Rattle.std.proofs.lemmas.Option.{slice_get_within}
use Rattle.std.proofs.lemmas.Result.{err_from_is_err_and}
use Rattle.br_syntax.specs.declared.program.Func.{Func}
use Rattle.br_compile.specs.Refusal.{Accepts}
use Rattle.br_texts.specs.InterpText.{interp_text}
use Rattle.br_top.proofs.OneInterp.{text_refused, function_refused}
use Rattle.br_top.specs.Scripted.{RefusesText}
use Rattle.br_top.specs.Troubles.{IsRefusedFor}
use Rattle.br_top.proofs.interps.interp_output.Goals as goal

pub returns-in_err-checked-clause-refused : goal.returns-in_err-checked-clause-refused
returns-in_err-checked-clause-refused c =
    let p = err_from_is_err_and c.from_residual-in_err-checked.result c.from_residual-in_err-checked.ensures.1 in
    let P : List ℕ → Type 0 = λ rest. IsRefusedFor (RefusesText rest) c.in_err-checked.field-0.0 in
    let refused = subst P (take_rest c.args.bytes.now c.in_ok-script.at) c.in_err-checked.ensures.refused in
    rw (p.1, p.2) (text_refused c.args.bytes.now c.in_ok-script.script c.in_ok-script.at c.in_ok-script.ensures.script
    c.in_err-checked.field-0.0 refused)

pub returns-in_err-function-clause-refused : goal.returns-in_err-function-clause-refused
returns-in_err-function-clause-refused c =
    let p = err_from_is_err_and c.from_residual-in_err-function.result c.from_residual-in_err-function.ensures.1 in
    let P : List ℕ → Type 0 = λ rest. Accepts rest c.in_ok-checked.checked in
    let accepted = subst P (take_rest c.args.bytes.now c.in_ok-script.at) c.in_ok-checked.ensures.accepted in
    rw (p.1, p.2) (function_refused c.args.bytes.now c.in_ok-script.script c.in_ok-checked.checked
    (record { at = c.in_ok-script.at; scripted = c.in_ok-script.ensures.script; accepted = accepted })
    c.in_err-function.field-0.0 c.in_err-function.ensures.refused)

pub interp_text-requires-clause-func : goal.interp_text-requires-clause-func
interp_text-requires-clause-func c =
    let f = c.in_ok-function.ensures.named in
    rw c.program.ensures.functions (slice_get_within _ _ _ f.1)

-- the function that the script calls is the one whose run is shown
pub returns-clause-made : goal.returns-clause-made
returns-clause-made c =
    let P : List ℕ → Type 0 = λ rest. Accepts rest c.in_ok-checked.checked in
    let accepted = subst P (take_rest c.args.bytes.now c.in_ok-script.at) c.in_ok-checked.ensures.accepted in
    let f = c.in_ok-function.ensures.named in
    let shown = c.in_ok-interp_text.ensures in
    let same = c.program.ensures.functions in
    let there = f.1 in
    let here = shown.1 in
    let one : shown.0 ≡ f.0 = cc in
    let script = c.in_ok-script.script in
    let text = shown.2 ∙ ap (λ (fs : List Func). interp_text script fs shown.0) same
    ∙ ap (λ (g : Func). interp_text script c.in_ok-checked.checked g) one in
    record {
      script = script;
      program = c.in_ok-checked.checked;
      function = f.0;
      holds = record { at = c.in_ok-script.at; scripted = c.in_ok-script.ensures.script; accepted = accepted };
      named = f.2;
      counted = f.3;
      shown = text;
    }

-- what the run adds a text for is not refused
pub returns-clause-unrefused : goal.returns-clause-unrefused
returns-clause-unrefused c =
    c.interps_are_unrefused.ensures c.args.bytes.now c.in_ok-interp_text.field-0.items c.requires
    (returns-clause-made c)
