-- The sizes of the flat functions of a sound program.
use Rattle.std.proofs.Common.{◌≡◌, ℕ, suc, ◌+◌, ◌*◌, ◌≤◌, ◌&&◌, max, true, List, []}
use Rattle.std.proofs.Common.{◌∷◌, ◌++◌, map, length, refl, ap, subst, ◌∙◌, arith}
use Rattle.std.specs.List.{flat_map, list_all}
use Rattle.std.proofs.lemmas.List.{length-append, length-map}
use Rattle.std.proofs.lemmas.List.Folds.{list_all-map}
use Rattle.br_syntax.specs.declared.program.Cmd.{Cmd}
use Rattle.br_syntax.specs.declared.program.Func.{Func}
use Rattle.br_syntax.specs.Shape.{is_shaped_command, is_shaped_function, are_names}
use Rattle.br_source_meaning.specs.Values.{Name}
use Rattle.br_measure.specs.Bulk.{commands_bulk, function_bulk}
use Rattle.br_measure.specs.Measure as measure
use Rattle.br_measure.specs.Paths as paths
use Rattle.br_flatimp.specs.declared.program.Stmt.TheOpen.{Stmt-F}
use Rattle.br_flatimp.specs.declared.program.Stmt.TheViews.{roll-Stmt}
use Rattle.br_flatimp.specs.declared.program.FlatFunc.{FlatFunc}
use Rattle.br_flatimp.specs.Parts.{statement_names, callees, throughout}
use Rattle.br_flatimp.specs.Sizes.{units, nest}
use Rattle.br_flatimp.specs.WellFormed.{values_fit}
use Rattle.br_flatten.specs.Scope.{Scope, temporaries, settings_from, settings}
use Rattle.br_flatten.specs.Flatten.{above, number, lists_names, lists_command}
use Rattle.br_flatten.specs.Flatten.{callee_number, commands, function_body, flat_function}
use Rattle.br_flatten.specs.Places.{commands_variables, first_places}
use Rattle.br_flatten.specs.Programs.{scope_of}
use Rattle.br_flatten.proofs.LeastAbove.{above-append}
use Rattle.br_flatten.proofs.Numbers.{and-first, and-second}
use Rattle.br_flatten.proofs.Fine.{Fine, fine-none, fine-append, fine-within, fine-one}
use Rattle.br_flatten.proofs.Commands.{faults, joins}
use Rattle.br_flatten.proofs.CommandSizes.{CallsFit, called, above-numbers}
use Rattle.br_flatten.proofs.CommandSizes.{CommandsSized, commands-sized, command-sized}
use Rattle.br_flatten.proofs.FirstPlaces.{few-places, lists-places}

map-same : {X : Type 0} (xs : List X) → map (λ x. x) xs ≡ xs
map-same [] = refl
map-same (x ∷ xs) = ap (λ ys. x ∷ ys) (map-same xs)

-- the commands of a body
body-sized : (fs : List Func) (qs : List FlatFunc) (scope : Scope) → CallsFit fs qs → (cs : List Cmd)
    → CommandsSized fs qs scope cs
body-sized fs qs scope fits cs = subst (CommandsSized fs qs scope) (map-same cs)
    (commands-sized fs qs scope (λ c. c) (command-sized fs qs scope fits) cs)

-- the statements that set held literals
settings-fine : (qs : List FlatFunc) (first : ℕ) (ns : List ℕ)
    → Fine qs (first + length ns) (length ns) 0 [] (settings_from first ns)
settings-fine qs first [] = fine-none qs (first + 0) 0 0
settings-fine qs first (n ∷ ns) =
    let top = first + suc (length ns) in
    let one = fine-one qs top 1 0 [] (Stmt-F.Lit first n) (omega arith) (omega arith) (omega arith) refl refl in
    let rest = fine-within qs (suc first + length ns) (length ns) 0 top (length ns) 0 [] (settings_from (suc first) ns)
    (omega arith) (omega arith) (omega arith) (settings-fine qs (suc first) ns) in
    fine-within qs top (1 + length ns) 0 (first + length (n ∷ ns)) (length (n ∷ ns)) 0 [] (settings_from first (n ∷ ns))
    (omega arith) (omega arith) (omega arith)
    (fine-append qs top 1 (length ns) 0 [] [] (roll-Stmt (Stmt-F.Lit first n) ∷ [])
    (settings_from (suc first) ns) one rest)

-- ---- one function

-- the sizes of a flat function that holds so many literals, beside its source
pub record FunctionSized (fs : List Func) (qs : List FlatFunc) (f : Func) (held : ℕ) (q : FlatFunc) : Type 0 where
  pub names : q.names ≤ function_bulk f + held
  pub units : units q ≤ function_bulk f + held
  pub nest : nest q ≤ measure.nested_buffers f
  pub callees : callees q ≡ map (callee_number fs) (paths.callees f)
  pub values : list_all (throughout (values_fit qs)) q.body ≡ true
  pub variables : length (first_places f) ≤ function_bulk f
  pub places : length (first_places f) + commands_bulk f.body ≤ 2 * function_bulk f

joined-map : (F : Cmd → List Name) (cs : List Cmd) → paths.joined (map F cs) ≡ flat_map F cs
joined-map F [] = refl
joined-map F (c ∷ cs) = ap (λ q. F c ++ q) (joined-map F cs)

pub function-sized : (fs : List Func) (qs : List FlatFunc) → CallsFit fs qs → (f : Func) (held : List ℕ)
    → joins (map (faults fs) f.body) ≡ [] → is_shaped_function f ≡ true
    → FunctionSized fs qs f (length held) (flat_function fs (scope_of f held) f)
function-sized fs qs fits f held none shaped =
    let names = first_places f in
    let scope = scope_of f held in
    let lists = lists-places f in
    let args = and-first (lists_names names f.args)
    (lists_names names f.results && list_all (lists_command names) f.body) lists in
    let rest = and-second (lists_names names f.args)
    (lists_names names f.results && list_all (lists_command names) f.body) lists in
    let results = and-first (lists_names names f.results) (list_all (lists_command names) f.body) rest in
    let body = and-second (lists_names names f.results) (list_all (lists_command names) f.body) rest in
    let shapes = and-second (are_names f.results) (list_all is_shaped_command f.body)
    (and-second (are_names f.args) (are_names f.results && list_all is_shaped_command f.body) shaped) in
    let b = body-sized fs qs scope fits f.body none (list_all-map (λ ok. ok) is_shaped_command f.body ∙ shapes) in
    let inner = commands fs scope f.body in
    let size = commands_bulk f.body in
    let deep = measure.nested_buffers f in
    let gs = map (callee_number fs) (paths.joined (map called f.body)) in
    let top = temporaries scope + b.weight in
    let fine = fine-append qs top (length held) size deep [] gs (settings scope) inner
    (fine-within qs (temporaries scope) (length held) 0 top (length held) deep [] (settings scope) (omega arith)
    (omega arith) (omega arith) (settings-fine qs (length names) held))
    (b.fine (list_all-map (λ ok. ok) (lists_command names) f.body ∙ body)) in
    let split = b.split in
    let few = few-places f in
    let len = length-append f.args (f.results ++ commands_variables f.body) in
    let len' = length-append f.results (commands_variables f.body) in
    let one = above-numbers names f.args args in
    let two = above-numbers names f.results results in
    let three = fine.names in
    let all = flat_map statement_names (function_body fs scope f) in
    let whole : above (map (number names) f.args ++ (map (number names) f.results ++ all))
    ≡ max (above (map (number names) f.args)) (max (above (map (number names) f.results)) (above all)) =
    above-append (map (number names) f.args) (map (number names) f.results ++ all)
    ∙ ap (max (above (map (number names) f.args))) (above-append (map (number names) f.results) all) in
    let count : length (map (number names) f.args) ≡ length f.args = length-map f.args (number names) in
    let count' : length (map (number names) f.results) ≡ length f.results = length-map f.results (number names) in
    let units = fine.units in
    record {
      names = omega (arith, split, few, len, len', one, two, three, whole);
      units = omega (arith, count, count', units);
      nest = fine.nest;
      callees = fine.callees ∙ ap (map (callee_number fs)) (joined-map called f.body);
      values = fine.values;
      variables = omega (arith, split, few, len, len');
      places = omega (arith, split, few, len, len');
    }
