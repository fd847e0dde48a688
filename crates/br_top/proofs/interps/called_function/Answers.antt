use Rattle.std.proofs.Common.{◌≡◌, ℕ, List, length, Some, None, slice_get, ap, ◌∙◌, arith, inl, inr}
use Rattle.std.proofs.lemmas.Option.{slice_get_cases}
use Rattle.br_syntax.specs.declared.program.Func.{Func}
use Rattle.br_syntax.specs.Functions.{function_named, number_named}
use Rattle.br_top.proofs.Called.{function_at_number, number_within, no_function}
use Rattle.br_top.proofs.interps.called_function.Goals as goal

-- the function of a number that a name has
found : (fs : List Func) (name : List ℕ) (n : ℕ) → number_named fs name ≡ Some n
    → (f : Func) × (slice_get fs n ≡ Some f) × (function_named fs name ≡ Some f)
found fs name n e =
    let low = number_within fs name n e in
    elim (slice_get_cases fs n).1 [
      | inl here ↦ (here.0, here.2, function_at_number fs name n e ∙ here.2)
      | inr past ↦ absurd (omega (arith, low, past.0))
    ]

pub returns-in_default-clause-refused : goal.returns-in_default-clause-refused
returns-in_default-clause-refused c =
    let none : number_named c.args.checked.now c.args.script.now.call ≡ None = cc in
    no_function c.args.checked.now c.args.script.now.call none

pub returns-then-len-count-clause-named : goal.returns-then-len-count-clause-named
returns-then-len-count-clause-named c =
    let some : number_named c.args.checked.now c.args.script.now.call ≡ Some c.in-Some.number = cc in
    let f = found c.args.checked.now c.args.script.now.call c.in-Some.number some in
    let there = ap (λ fs. slice_get fs c.in-Some.number) c.program.ensures.functions ∙ f.1 in
    let counted = c.argument_count-count.ensures f.0 there in
    let equal : length c.args.script.now.args ≡ length f.0.args = cc in
    (f.0, f.1, f.2, equal)

pub returns-clause-refused : goal.returns-clause-refused
returns-clause-refused c =
    let some : number_named c.args.checked.now c.args.script.now.call ≡ Some c.in-Some.number = cc in
    let f = found c.args.checked.now c.args.script.now.call c.in-Some.number some in
    let there = ap (λ fs. slice_get fs c.in-Some.number) c.program.ensures.functions ∙ f.1 in
    let counted = c.argument_count-count.ensures f.0 there in
    let differ = c.if-len-count.false in
    (f.0, f.2, counted, λ equal. differ cc)
