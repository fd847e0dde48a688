use Rattle.std.proofs.Common.{◌≡◌, slice_get, Some, None, [], get_or, map, sym, ap, ◌∙◌, arith}
use Rattle.std.proofs.lemmas.Grind.{common_steps}
use Rattle.br_syntax.specs.Functions.{function_named}
use Rattle.br_source_meaning.specs.Names.{function_names}
use Rattle.br_source_meaning.specs.Numbered.{named_function, target_name}
use Rattle.br_source_meaning.proofs.Numbers.{by-number, past-numbers}
use Rattle.br_source_meaning.proofs.functions.Functions.callee.Goals as goal

pub returns-in-Some : goal.returns-in-Some
returns-in-Some c =
    let fs = c.args.self.now.funcs.now in
    let is : slice_get c.args.self.now.by_number c.in-Number.k ≡ Some c.in-Some.f.now = grind (arith, common_steps) in
    by-number (function_names fs) fs c.args.self.now.by_number fs c.in-Number.k c.in-Some.f.now c.args.self.now.numbered
    is
    ∙ ap (λ t. function_named fs (target_name (function_names fs) t)) (sym c.in-Number.is)

pub returns-in-None : goal.returns-in-None
returns-in-None c =
    let fs = c.args.self.now.funcs.now in
    let is : slice_get c.args.self.now.by_number c.in-Number.k ≡ None = grind (arith, common_steps) in
    let nothing : c.as_slice.result.now ≡ [] = grind (arith, common_steps) in
    let past : get_or (function_names fs) c.in-Number.k [] ≡ [] =
    past-numbers (function_names fs) fs c.args.self.now.by_number fs c.in-Number.k c.args.self.now.numbered is in
    rw c.args.self.now.same at c.first.ensures
    ∙ ap (function_named fs) (nothing ∙ sym past)
    ∙ ap (λ t. function_named fs (target_name (function_names fs) t)) (sym c.in-Number.is)
