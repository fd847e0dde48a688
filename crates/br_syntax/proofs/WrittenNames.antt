-- What the trees of names and arguments stand for.
use Rattle.std.proofs.Common.{◌≡◌, ◌≢◌, ℕ, ◌+◌, ◌≤◌, Bool, true, false, not, ◌&&◌, ◌||◌, List, [], ◌∷◌, ◌++◌}
use Rattle.std.proofs.Common.{length, Ok, map, refl, sym, ap, ◌∙◌, arith, codes, length-append, nat_le}
use Rattle.std.specs.List.{list_all, list_any}
use Rattle.std.specs.Str.{bytes_eq}
use Rattle.std.proofs.lemmas.Grind.{common_steps}
use Rattle.std.proofs.lemmas.List.Folds.{list_any-append}
use Rattle.br_sexpr.specs.declared.tree.Tree.{Tree, out-Tree}
use Rattle.br_sexpr.specs.declared.tree.Tree.TheVariants as tree
use Rattle.br_syntax.specs.declared.program.Expr.{Expr}
use Rattle.br_syntax.specs.declared.program.Cmd.{Cmd}
use Rattle.br_syntax.specs.declared.program.Func.{Func}
use Rattle.br_syntax.specs.Shape.{all_differ, are_names, are_arguments, is_shaped_command, is_shaped_function}
use Rattle.br_syntax.specs.Shaped.{both, all}
use Rattle.br_syntax.specs.Denotes.{function, commands, word_of, name_among, names_after}
use Rattle.br_syntax.specs.Denotes.{names, expression, argument_at, arguments_from}
use Rattle.br_syntax.specs.Offsets.{is_unplaced}
use Rattle.br_syntax.proofs.Parts.{made, split}
use Rattle.br_syntax.proofs.Written.{and_parts, one_before, unplaced-name, unplaced-list}

abbrev written : List (List ℕ) → List Tree
written ns = map (λ n. tree.Name 0 n) ns

-- none of the names is a word of the trees
abbrev apart : List Tree → List (List ℕ) → Bool
apart earlier names = list_all (λ n. not (list_any (λ t. bytes_eq (word_of t) n) earlier)) names

or_parts : (a b : Bool) → (a || b) ≡ false → (a ≡ false) × (b ≡ false)
or_parts true b e = absurd (cc)
or_parts false b e = (refl, e)

not_true : (a : Bool) → not a ≡ true → a ≡ false
not_true true e = absurd (cc)
not_true false e = refl

apart_join : (earlier : List Tree) (name : List ℕ) (names : List (List ℕ)) → apart earlier names ≡ true
    → list_any (bytes_eq name) names ≡ false → apart (earlier ++ tree.Name 0 name ∷ []) names ≡ true
apart_join earlier name [] before here = refl
apart_join earlier name (n ∷ ns) before here =
    let joint = list_any-append (λ t. bytes_eq (word_of t) n) earlier (tree.Name 0 name ∷ []) in
    let parts = and_parts (not (list_any (λ t. bytes_eq (word_of t) n) earlier)) (apart earlier ns) before in
    let first = not_true (list_any (λ t. bytes_eq (word_of t) n) earlier) parts.0 in
    let others = or_parts (bytes_eq name n) (list_any (bytes_eq name) ns) here in
    let differs = others.0 in
    rw (joint, first, tree.outs-Name 0 name, differs) (apart_join earlier name ns parts.1 others.1)

new_name : (earlier : List Tree) (n : List ℕ) → length earlier ≢ 8
    → list_any (λ t. bytes_eq (word_of t) n) earlier ≡ false → name_among earlier (out-Tree (tree.Name 0 n)) ≡ Ok n
new_name earlier n few new = rw tree.outs-Name (grind (arith, common_steps, few, new))

names_from : (earlier : List Tree) (ns : List (List ℕ)) → length earlier + length ns ≤ 8 → apart earlier ns ≡ true
    → all_differ ns ≡ true → names_after earlier (written ns) ≡ Ok ns
names_from earlier [] few new differ = refl
names_from earlier (n ∷ ns) few new differ =
    let parts = and_parts (not (list_any (λ t. bytes_eq (word_of t) n) earlier)) (apart earlier ns) new in
    let apart_here : list_any (λ t. bytes_eq (word_of t) n) earlier ≡ false = grind (arith, common_steps, parts.0) in
    let differ_parts = and_parts (not (list_any (bytes_eq n) ns)) (all_differ ns) differ in
    let later : list_any (bytes_eq n) ns ≡ false = grind (arith, common_steps, differ_parts.0) in
    let longer = length-append earlier (tree.Name 0 n ∷ []) in
    one_before (name_among earlier (out-Tree (tree.Name 0 n)))
    (names_after (earlier ++ tree.Name 0 n ∷ []) (written ns)) n ns
    (new_name earlier n (omega arith) apart_here)
    (names_from (earlier ++ tree.Name 0 n ∷ []) ns (omega (arith, longer)) (apart_join earlier n ns parts.1 later)
    differ_parts.1)

none_apart : (ns : List (List ℕ)) → apart [] ns ≡ true
none_apart [] = refl
none_apart (n ∷ ns) = none_apart ns

pub names_written : (ns : List (List ℕ)) → are_names ns ≡ true
    → names (tree.List 0 (map (λ n. tree.Name 0 n) ns)) ≡ Ok ns
names_written ns ok =
    let parts = and_parts (nat_le (length ns) 8) (all_differ ns) ok in
    let few : length ns ≤ 8 = grind (arith, common_steps, parts.0) in
    rw tree.outs-List (names_from [] ns (omega arith) (none_apart ns) parts.1)

all_unplaced : (ns : List (List ℕ)) → list_all is_unplaced (written ns) ≡ true
all_unplaced [] = refl
all_unplaced (n ∷ ns) = rw unplaced-name (all_unplaced ns)

pub unplaced-names : (ns : List (List ℕ)) → is_unplaced (tree.List 0 (map (λ n. tree.Name 0 n) ns)) ≡ true
unplaced-names ns = unplaced-list 0 (written ns) ∙ all_unplaced ns

not_ninth : (i : ℕ) (t : Tree) (e : Expr) → i ≢ 8 → expression t ≡ Ok e → argument_at i t ≡ Ok e
not_ninth i t e few is = grind (arith, common_steps, few, is)

pub arguments_at : (i : ℕ) (ts : List Tree) (es : List Expr) → i + length es ≤ 8 → all (map expression ts) ≡ Ok es
    → arguments_from i ts ≡ Ok es
arguments_at i [] es few is = is
arguments_at i (t ∷ ts) es few is =
    let m = made (λ p. p.0 ∷ p.1) (both (expression t) (all (map expression ts))) es is in
    let s = split (expression t) (all (map expression ts)) m.part m.is in
    let count : length es ≡ length m.part.1 + 1 = ap length m.whole ∙ omega arith in
    one_before (argument_at i t) (arguments_from (i + 1) ts) m.part.0 m.part.1
    (not_ninth i t m.part.0 (omega arith) s.first)
    (arguments_at (i + 1) ts m.part.1 (omega arith) s.second)
    ∙ ap Ok (sym m.whole)

pub arguments_written : (ts : List Tree) (es : List Expr) → are_arguments es ≡ true → all (map expression ts) ≡ Ok es
    → arguments_from 0 ts ≡ Ok es
arguments_written ts es few is = arguments_at 0 ts es (grind (arith, common_steps, few)) is

-- the items of a function's tree
abbrev pub function_items : List ℕ → List (List ℕ) → List (List ℕ) → List Tree → List Tree
function_items name args results trees = tree.Name 0 (codes "fn") ∷ tree.Name 0 name
    ∷ tree.List 0 (map (λ n. tree.Name 0 n) args) ∷ tree.List 0 (map (λ n. tree.Name 0 n) results) ∷ trees

pub function_written : (name : List ℕ) (args results : List (List ℕ)) (trees : List Tree) (body : List Cmd)
    → are_names args ≡ true → are_names results ≡ true
    → commands trees ≡ Ok body → function (tree.List 0 (function_items name args results trees))
    ≡ Ok (record { at = 0; name = name; args = args; results = results; body = body })
function_written name args results trees body args_ok results_ok inner =
    rw (
      tree.outs-List 0 (function_items name args results trees),
      tree.outs-Name 0 (codes "fn"),
      tree.outs-Name 0 name,
      names_written args args_ok,
      names_written results results_ok,
      inner,
    ) refl

pub unplaced_function_tree : (name : List ℕ) (args results : List (List ℕ)) (trees : List Tree)
    → list_all is_unplaced trees ≡ true → is_unplaced (tree.List 0 (function_items name args results trees)) ≡ true
unplaced_function_tree name args results trees inner =
    unplaced-list 0 (function_items name args results trees)
    ∙ rw (unplaced-name 0 (codes "fn"), unplaced-name 0 name, unplaced-names args, unplaced-names results, inner) refl

-- names and commands within the limits, of a function within them
pub record FunctionParts (f : Func) : Type 0 where
  pub args_ok : are_names f.args ≡ true
  pub results_ok : are_names f.results ≡ true
  pub body_ok : list_all is_shaped_command f.body ≡ true

pub function_parts : (f : Func) → is_shaped_function f ≡ true → FunctionParts f
function_parts f ok =
    let first = and_parts (are_names f.args) (are_names f.results && list_all is_shaped_command f.body) ok in
    let rest = and_parts (are_names f.results) (list_all is_shaped_command f.body) first.1 in
    record { args_ok = first.0; results_ok = rest.0; body_ok = rest.1 }
