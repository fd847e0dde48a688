use Rattle.std.proofs.Common.{◌≡◌, ◌∙◌, sym, subst, length, ℕ, List, Option, None, Some, inr, arith}
use Rattle.br_syntax.specs.declared.program.Func.{Func}
use Rattle.br_measure.specs.Paths.{callees}
use Rattle.br_measure.specs.Table.{IsTable, IsFirstLoop, call_table, numbers_named}
use Rattle.br_measure.proofs.Marking.{path_within}
use Rattle.br_measure.proofs.Rounds.{map_length}
use Rattle.br_measure.proofs.TablePaths.{table_is}
use Rattle.br_measure.proofs.FoundFaults.{few_functions, recursive_in_table, none_in_table}
use Rattle.br_measure.proofs.phases.examine_calls.Goals as goal

-- what was found in the table
found : (fs : List Func) (table : List (List ℕ)) (o p : Option ℕ) → table ≡ call_table fs → o ≡ p → IsFirstLoop table o
    → IsFirstLoop (call_table fs) p
found fs table o p table_is is first =
    let here = subst (λ (t : List (List ℕ)). IsFirstLoop t o) table_is first in
    subst (λ (q : Option ℕ). IsFirstLoop (call_table fs) q) is here

rows : (fs : List Func) → length (call_table fs) ≡ length fs
rows fs = map_length (λ (f : Func). numbers_named fs (callees f)) fs

pub first_recursive-requires : goal.first_recursive-requires
first_recursive-requires c =
    let P : List (List ℕ) → Type 0 = IsTable in
    subst P (sym (c.as_slice.ensures ∙ c.in_ok-table.ensures)) (table_is c.args.index.now.funcs.now)

pub overflow_cast-result : goal.overflow_cast-result
overflow_cast-result c =
    let fs = c.args.index.now.funcs.now in
    let first = found fs c.as_slice.result.now c.in_ok-f.field-0 (Some c.in-Some.f)
    (c.as_slice.ensures ∙ c.in_ok-table.ensures) c.in-Some.is c.in_ok-f.ensures in
    let inside = path_within (call_table fs) (table_is fs) c.in-Some.f first.0.0 c.in-Some.f first.0.1 in
    omega (arith, inside, rows fs, few_functions fs, c.requires.small)

pub returns-in-Some : goal.returns-in-Some
returns-in-Some c =
    let fs = c.args.index.now.funcs.now in
    let first = found fs c.as_slice.result.now c.in_ok-f.field-0 (Some c.in-Some.f)
    (c.as_slice.ensures ∙ c.in_ok-table.ensures) c.in-Some.is c.in_ok-f.ensures in
    let loop = recursive_in_table fs c.in-Some.f first in
    inr (c.requires.names, (c.requires.small, loop.0, loop.1))

pub examine_stack-requires-clause-no_recursion : goal.examine_stack-requires-clause-no_recursion
examine_stack-requires-clause-no_recursion c =
    let fs = c.args.index.now.funcs.now in
    none_in_table fs (found fs c.as_slice.result.now c.in_ok-f.field-0 None (c.as_slice.ensures ∙ c.in_ok-table.ensures)
    c.in-None.is c.in_ok-f.ensures)
