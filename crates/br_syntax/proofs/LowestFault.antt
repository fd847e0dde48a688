-- The fault of a text is the lowest of all faults that stand in it.
use Rattle.std.proofs.Common.{◌≡◌, ℕ, suc, ◌+◌, ◌≤◌, Bool, true, false, List, [], ◌∷◌, ◌++◌, Ok, Err, Option, Some}
use Rattle.std.proofs.Common.{None, length, map, refl, sym, ap, ◌∙◌, subst, arith, codes, nat_le, ◌==◌, if◌then◌else◌}
use Rattle.std.specs.List.{flat_map, list_any, Contains, AllByRecursion}
use Rattle.std.proofs.lemmas.List.Elements.{All-from_recursion}
use Rattle.std.specs.Str.{bytes_eq}
use Rattle.std.proofs.lemmas.Grind.{common_steps}
use Rattle.br_words.specs.declared.size.Size.{Size}
use Rattle.br_sexpr.specs.declared.tree.Tree.{Tree, out-Tree, roll-Tree}
use Rattle.br_sexpr.specs.declared.tree.Tree.TheOpen.{Tree-F}
use Rattle.br_sexpr.specs.declared.tree.Tree.TheOpen.Tree-F.{Name, Number, List as Items}
use Rattle.br_sexpr.specs.declared.tree.Tree.TheFolds.{ind-Tree, map-Tree, para-roll-Tree}
use Rattle.br_syntax.specs.declared.faults.ShapeFault.{ShapeFault}
use Rattle.br_syntax.specs.declared.faults.ShapeFault.TheVariants.{BadForm, BadSize, BadByteValue, TooMany, Repeated}
use Rattle.br_syntax.specs.declared.program.Expr.{Expr}
use Rattle.br_syntax.specs.declared.program.Expr.TheVariants as expr
use Rattle.br_syntax.specs.declared.program.Cmd.{Cmd}
use Rattle.br_syntax.specs.declared.program.Cmd.TheVariants as cmd
use Rattle.br_syntax.specs.declared.program.Func.{Func}
use Rattle.br_syntax.specs.declared.word.ExprWord.{ExprWord}
use Rattle.br_syntax.specs.declared.word.ExprWord.TheVariants as e
use Rattle.br_syntax.specs.declared.word.CmdWord.{CmdWord}
use Rattle.br_syntax.specs.declared.word.CmdWord.TheVariants as c
use Rattle.br_syntax.specs.FaultOrder.{place, lower, IsLowest}
use Rattle.br_syntax.specs.Shape.{is_buffer_size}
use Rattle.br_syntax.specs.Word.{expr_word, cmd_word}
use Rattle.br_syntax.specs.Shaped.{Shaped, ◌<$>◌, lowest, both, all}
use Rattle.br_syntax.specs.Denotes.{offset_of, word_of, name, name_in, names, names_in, name_among, names_after}
use Rattle.br_syntax.specs.Denotes.{buffer_size, buffer_size_in, byte, byte_in, bytes, bytes_in, WithExpr}
use Rattle.br_syntax.specs.Denotes.{with_expression, of_two, of_three, of_four, expression_of, expression_in}
use Rattle.br_syntax.specs.Denotes.{expression, argument_at, arguments_from, Places, WithPlaces, places, places_in}
use Rattle.br_syntax.specs.Denotes.{with_places, body_of, skip_of, set_of, unset_of, store_of, stackalloc_of, if_of}
use Rattle.br_syntax.specs.Denotes.{while_of, target_of, call_of, interact_of, form_of, command_of, behind_of}
use Rattle.br_syntax.specs.Denotes.{commands, function_of, function_list, function_in, function, functions}
use Rattle.br_syntax.specs.Faults.{Faults, in_name, in_name_after, in_names_after, in_names, in_buffer_size, in_byte}
use Rattle.br_syntax.specs.Faults.{in_bytes, WithFaults, in_two, in_three, in_four, in_items, in_expression_layer}
use Rattle.br_syntax.specs.Faults.{in_expression, in_arguments_from, FaultPlaces, WithFaultPlaces, in_body}
use Rattle.br_syntax.specs.Faults.{in_target, in_form, in_command_items, in_behind_items, in_places_layer, in_places}
use Rattle.br_syntax.specs.Faults.{in_commands, in_function_items, in_function, all_faults}
use Rattle.br_syntax.proofs.Joined.{lower_assoc}

-- the fault of a part, if it has one
abbrev pub fault_of : {A : Type 0} → Shaped A → Option ShapeFault
fault_of (Ok a) = None
fault_of (Err fault) = Some fault

-- the lower of two, where there may be none
abbrev pub join : Option ShapeFault → Option ShapeFault → Option ShapeFault
join None g = g
join (Some f) None = Some f
join (Some f) (Some g) = Some (lower f g)

abbrev pub lowest_of : Faults → Option ShapeFault
lowest_of [] = None
lowest_of (f ∷ fs) = join (Some f) (lowest_of fs)

join_assoc : (a b c : Option ShapeFault) → join a (join b c) ≡ join (join a b) c
join_assoc None b c = refl
join_assoc (Some f) None c = refl
join_assoc (Some f) (Some g) None = refl
join_assoc (Some f) (Some g) (Some h) = ap Some (lower_assoc f g h)

join_none : (a : Option ShapeFault) → join a None ≡ a
join_none None = refl
join_none (Some f) = refl

lowest_of-append : (fs gs : Faults) → lowest_of (fs ++ gs) ≡ join (lowest_of fs) (lowest_of gs)
lowest_of-append [] gs = refl
lowest_of-append (f ∷ fs) gs =
    ap (join (Some f)) (lowest_of-append fs gs) ∙ join_assoc (Some f) (lowest_of fs) (lowest_of gs)

fault_of-both : {A B : Type 0} (s : Shaped A) (t : Shaped B) → fault_of (both s t) ≡ join (fault_of s) (fault_of t)
fault_of-both (Ok a) (Ok b) = refl
fault_of-both (Ok a) (Err g) = refl
fault_of-both (Err f) (Ok b) = refl
fault_of-both (Err f) (Err g) = refl

fault_of-map : {A B : Type 0} (f : A → B) (s : Shaped A) → fault_of (f <$> s) ≡ fault_of s
fault_of-map f (Ok a) = refl
fault_of-map f (Err g) = refl

-- the fault of a part is the lowest of these
record Lowest {A : Type 0} (s : Shaped A) (fs : Faults) : Type 0 where
  is : fault_of s ≡ lowest_of fs

of_map : {A B : Type 0} (f : A → B) (s : Shaped A) (fs : Faults) → Lowest s fs → Lowest (f <$> s) fs
of_map f s fs h = record { is = fault_of-map f s ∙ h.is }

of_both : {A B : Type 0} (s : Shaped A) (t : Shaped B) (fs gs : Faults) → Lowest s fs → Lowest t gs
    → Lowest (both s t) (fs ++ gs)
of_both s t fs gs h k = let a = h.is in let b = k.is in
    record { is = fault_of-both s t ∙ rw (a, b) (sym (lowest_of-append fs gs)) }

of_pair : {A B C : Type 0} (f : A × B → C) (s : Shaped A) (t : Shaped B) (fs gs : Faults) → Lowest s fs → Lowest t gs
    → Lowest (f <$> both s t) (fs ++ gs)
of_pair f s t fs gs h k = of_map f (both s t) (fs ++ gs) (of_both s t fs gs h k)

good : {A : Type 0} (a : A) → Lowest (Ok a) []
good a = record { is = refl }

bad : {A : Type 0} (f : ShapeFault) → Lowest {A = A} (Err f) (f ∷ [])
bad f = record { is = refl }

-- parts of items, one by one
of_all : {A : Type 0} (part : Tree → Shaped A) (faults : Tree → Faults) → ((t : Tree) → Lowest (part t) (faults t))
    → (ts : List Tree) → Lowest (all (map part ts)) (flat_map faults ts)
of_all part faults each [] = good []
of_all part faults each (t ∷ ts) = of_pair (λ p. p.0 ∷ p.1) (part t) (all (map part ts)) (faults t) (flat_map faults ts)
    (each t) (of_all part faults each ts)

name_lowest : (layer : Tree-F Tree) → Lowest (name_in layer) (in_name layer)
name_lowest (Name at text) = good text
name_lowest (Number at value) = bad (BadForm at)
name_lowest (Items at items) = bad (BadForm at)

-- a place where TooMany stands is lower than one where Repeated does
too_many_first : (at : ℕ) → lower (TooMany at) (Repeated at) ≡ TooMany at
too_many_first at = grind (arith, common_steps)

tests : (full again : Bool) (at : ℕ) (text : List ℕ)
    → Lowest (if full then Err (TooMany at) else (if again then Err (Repeated at) else Ok text))
    ((if full then TooMany at ∷ [] else []) ++ (if again then Repeated at ∷ [] else []))
tests true true at text = record { is = ap Some (sym (too_many_first at)) }
tests true false at text = bad (TooMany at)
tests false true at text = bad (Repeated at)
tests false false at text = good text

name_after_lowest : (earlier : List Tree) (layer : Tree-F Tree)
    → Lowest (name_among earlier layer) (in_name_after earlier layer)
name_after_lowest earlier (Name at text) =
    tests (length earlier == 8) (list_any (λ t. bytes_eq (word_of t) text) earlier) at text
name_after_lowest earlier (Number at value) = bad (BadForm at)
name_after_lowest earlier (Items at items) = bad (BadForm at)

names_after_lowest : (earlier ts : List Tree) → Lowest (names_after earlier ts) (in_names_after earlier ts)
names_after_lowest earlier [] = good []
names_after_lowest earlier (t ∷ ts) =
    of_pair (λ p. p.0 ∷ p.1) (name_among earlier (out-Tree t)) (names_after (earlier ++ t ∷ []) ts)
    (in_name_after earlier (out-Tree t)) (in_names_after (earlier ++ t ∷ []) ts)
    (name_after_lowest earlier (out-Tree t)) (names_after_lowest (earlier ++ t ∷ []) ts)

names_lowest : (layer : Tree-F Tree) → Lowest (names_in layer) (in_names layer)
names_lowest (Name at text) = bad (BadForm at)
names_lowest (Number at value) = bad (BadForm at)
names_lowest (Items at items) = names_after_lowest [] items

one_test : {A : Type 0} (ok : Bool) (a : A) (f : ShapeFault)
    → Lowest (if ok then Ok a else Err f) (if ok then [] else f ∷ [])
one_test true a f = good a
one_test false a f = bad f

size_lowest : (layer : Tree-F Tree) → Lowest (buffer_size_in layer) (in_buffer_size layer)
size_lowest (Name at text) = bad (BadForm at)
size_lowest (Number at value) = one_test (is_buffer_size value) value (BadSize at)
size_lowest (Items at items) = bad (BadForm at)

byte_lowest : (layer : Tree-F Tree) → Lowest (byte_in layer) (in_byte layer)
byte_lowest (Name at text) = bad (BadForm at)
byte_lowest (Number at value) = one_test (nat_le value 255) value (BadByteValue at)
byte_lowest (Items at items) = bad (BadForm at)

bytes_lowest : (layer : Tree-F Tree) → Lowest (bytes_in layer) (in_bytes layer)
bytes_lowest (Name at text) = bad (BadForm at)
bytes_lowest (Number at value) = bad (BadForm at)
bytes_lowest (Items at items) = of_all byte (λ t. in_byte (out-Tree t)) (λ t. byte_lowest (out-Tree t)) items

-- expressions
abbrev ExprKept : Tree → Type 0
ExprKept t = Lowest (expression t) (in_expression t)

abbrev ExprTree : Type 0
ExprTree = (t : Tree) × ExprKept t

abbrev expr_tree_of : ExprTree → Tree
expr_tree_of y = y.0

abbrev with_faults : Tree → WithFaults
with_faults t = (t, in_expression t)

two_lowest : (at : ℕ) (first : Option ExprWord) (y : ExprTree)
    → Lowest (of_two at first (with_expression y.0)) (in_two at first (with_faults y.0))
two_lowest at (Some (e.Load size)) y = of_map (expr.Load size) (expression y.0) (in_expression y.0) y.1
two_lowest at (Some (e.Table size)) y = bad (BadForm at)
two_lowest at (Some (e.Op operation)) y = bad (BadForm at)
two_lowest at (Some e.Ite) y = bad (BadForm at)
two_lowest at None y = bad (BadForm at)

three_lowest : (at : ℕ) (first : Option ExprWord) (x y : ExprTree) → Lowest (of_three at first (with_expression x.0)
    (with_expression y.0)) (in_three at first (with_faults x.0) (with_faults y.0))
three_lowest at (Some (e.Load size)) x y = bad (BadForm at)
three_lowest at (Some (e.Table size)) x y = of_pair (λ p. expr.Table size p.0 p.1) (bytes x.0) (expression y.0)
    (in_bytes (out-Tree x.0)) (in_expression y.0) (bytes_lowest (out-Tree x.0)) y.1
three_lowest at (Some (e.Op operation)) x y = of_pair (λ p. expr.Op operation p.0 p.1) (expression x.0) (expression y.0)
    (in_expression x.0) (in_expression y.0) x.1 y.1
three_lowest at (Some e.Ite) x y = bad (BadForm at)
three_lowest at None x y = bad (BadForm at)

four_lowest : (at : ℕ) (first : Option ExprWord) (x y z : ExprTree)
    → Lowest (of_four at first (with_expression x.0) (with_expression y.0) (with_expression z.0)) (in_four at first
    (with_faults x.0) (with_faults y.0) (with_faults z.0))
four_lowest at (Some (e.Load size)) x y z = bad (BadForm at)
four_lowest at (Some (e.Table size)) x y z = bad (BadForm at)
four_lowest at (Some (e.Op operation)) x y z = bad (BadForm at)
four_lowest at (Some e.Ite) x y z =
    of_pair (λ p. expr.Ite p.0.0 p.0.1 p.1) (both (expression x.0) (expression y.0)) (expression z.0)
    (in_expression x.0 ++ in_expression y.0) (in_expression z.0)
    (of_both (expression x.0) (expression y.0) (in_expression x.0) (in_expression y.0) x.1 y.1) z.1
four_lowest at None x y z = bad (BadForm at)

items_lowest : (at : ℕ) (ys : List ExprTree) → Lowest (expression_of at (map with_expression (map expr_tree_of ys)))
    (in_items at (map with_faults (map expr_tree_of ys)))
items_lowest at [] = bad (BadForm at)
items_lowest at (head ∷ []) = bad (BadForm at)
items_lowest at (head ∷ x ∷ []) = two_lowest at (expr_word (word_of head.0)) x
items_lowest at (head ∷ x ∷ y ∷ []) = three_lowest at (expr_word (word_of head.0)) x y
items_lowest at (head ∷ x ∷ y ∷ z ∷ []) = four_lowest at (expr_word (word_of head.0)) x y z
items_lowest at (head ∷ x ∷ y ∷ z ∷ w ∷ more) = bad (BadForm at)

expr_layer_lowest : (y : Tree-F ExprTree)
    → Lowest (expression_in (map-Tree Tree WithExpr with_expression (map-Tree ExprTree Tree expr_tree_of y)))
    (in_expression_layer (map-Tree Tree WithFaults with_faults (map-Tree ExprTree Tree expr_tree_of y)))
expr_layer_lowest (Name at text) = good (expr.Var text)
expr_layer_lowest (Number at value) = good (expr.Literal value)
expr_layer_lowest (Items at ys) = items_lowest at ys

expression_lowest : (t : Tree) → ExprKept t
expression_lowest = ind-Tree ExprKept (λ x y is.
    let here = subst (λ (z : Tree-F Tree). Lowest (expression_in (map-Tree Tree WithExpr with_expression z))
    (in_expression_layer (map-Tree Tree WithFaults with_faults z))) is (expr_layer_lowest y) in
    let first = subst (λ (s : Shaped Expr). Lowest s (in_expression_layer (map-Tree Tree WithFaults with_faults x)))
    (sym (para-roll-Tree (Shaped Expr) expression_in x)) here in
    subst (λ (fs : Faults). Lowest (expression (roll-Tree x)) fs)
    (sym (para-roll-Tree Faults in_expression_layer x)) first)

-- a ninth argument beside what stands in it
ninth_lowest : {A : Type 0} (ninth : Bool) (f : ShapeFault) (s : Shaped A) (fs : Faults) → Lowest s fs
    → Lowest (if ninth then Err (lowest f s) else s) ((if ninth then f ∷ [] else []) ++ fs)
ninth_lowest true f (Ok a) fs h = let none = h.is in record { is = ap (join (Some f)) none }
ninth_lowest true f (Err g) fs h = let one = h.is in record { is = ap (join (Some f)) one }
ninth_lowest false f s fs h = h

arguments_lowest : (i : ℕ) (ts : List Tree) → Lowest (arguments_from i ts) (in_arguments_from i ts)
arguments_lowest i [] = good []
arguments_lowest i (t ∷ ts) =
    of_pair (λ p. p.0 ∷ p.1) (argument_at i t) (arguments_from (i + 1) ts)
    ((if i == 8 then TooMany (offset_of t) ∷ [] else []) ++ in_expression t) (in_arguments_from (i + 1) ts)
    (ninth_lowest (i == 8) (TooMany (offset_of t)) (expression t) (in_expression t) (expression_lowest t))
    (arguments_lowest (i + 1) ts)

-- commands
record PlacesKept (p : Places) (q : FaultPlaces) : Type 0 where
  command : Lowest p.command q.command
  behind : (word : List ℕ) → Lowest (p.behind word) (q.behind word)

abbrev Kept : Tree → Type 0
Kept t = PlacesKept (places t) (in_places t)

abbrev KeptTree : Type 0
KeptTree = (t : Tree) × Kept t

abbrev tree_of : KeptTree → Tree
tree_of y = y.0

abbrev with_fault_places : Tree → WithFaultPlaces
with_fault_places t = (t, in_places t)

abbrev seen : List KeptTree → List WithPlaces
seen ys = map with_places (map tree_of ys)

abbrev faulty : List KeptTree → List WithFaultPlaces
faulty ys = map with_fault_places (map tree_of ys)

body_lowest : (ys : List KeptTree) → Lowest (body_of (seen ys)) (in_body (faulty ys))
body_lowest [] = good []
body_lowest (y ∷ ys) =
    let kept : PlacesKept (places y.0) (in_places y.0) = y.1 in
    of_pair (λ p. p.0 ∷ p.1) (places y.0).command (body_of (seen ys)) (in_places y.0).command (in_body (faulty ys))
    kept.command (body_lowest ys)

plain_trees : (ys : List KeptTree) → map (λ (p : WithPlaces). p.0) (seen ys) ≡ map tree_of ys
plain_trees [] = refl
plain_trees (y ∷ ys) = ap (λ more. y.0 ∷ more) (plain_trees ys)

faulty_trees : (ys : List KeptTree) → map (λ (p : WithFaultPlaces). p.0) (faulty ys) ≡ map tree_of ys
faulty_trees [] = refl
faulty_trees (y ∷ ys) = ap (λ more. y.0 ∷ more) (faulty_trees ys)

abbrev Target : Type 0
Target = (List (List ℕ) × List ℕ) × List Expr

target_lowest : (f : Target → Cmd) (r t : Tree) (ys : List KeptTree)
    → Lowest (f <$> target_of r t (map (λ (p : WithPlaces). p.0) (seen ys))) (in_target r t (faulty ys))
target_lowest f r t ys =
    let front = of_both (names r) (name t) (in_names (out-Tree r)) (in_name (out-Tree t)) (names_lowest (out-Tree r))
    (name_lowest (out-Tree t)) in
    let whole = of_pair f (both (names r) (name t)) (arguments_from 0 (map tree_of ys)) (in_names (out-Tree r)
    ++ in_name (out-Tree t)) (in_arguments_from 0 (map tree_of ys)) front (arguments_lowest 0 (map tree_of ys)) in
    let first = subst (λ (ts : List Tree). Lowest (f <$> target_of r t ts)
    ((in_names (out-Tree r) ++ in_name (out-Tree t)) ++ in_arguments_from 0 (map tree_of ys)))
    (sym (plain_trees ys)) whole in
    subst (λ (ts : List Tree). Lowest (f <$> target_of r t (map (λ (p : WithPlaces). p.0) (seen ys)))
    ((in_names (out-Tree r) ++ in_name (out-Tree t)) ++ in_arguments_from 0 ts)) (sym (faulty_trees ys)) first

set_lowest : (at : ℕ) (ys : List KeptTree) → Lowest (set_of at (seen ys)) (in_form at (Some c.Set) (faulty ys))
set_lowest at [] = bad (BadForm at)
set_lowest at (x ∷ []) = bad (BadForm at)
set_lowest at (x ∷ v ∷ []) = of_pair (λ p. cmd.Set p.0 p.1) (name x.0) (expression v.0) (in_name (out-Tree x.0))
    (in_expression v.0) (name_lowest (out-Tree x.0)) (expression_lowest v.0)
set_lowest at (x ∷ v ∷ y ∷ ys) = bad (BadForm at)

unset_lowest : (at : ℕ) (ys : List KeptTree) → Lowest (unset_of at (seen ys)) (in_form at (Some c.Unset) (faulty ys))
unset_lowest at [] = bad (BadForm at)
unset_lowest at (x ∷ []) = of_map cmd.Unset (name x.0) (in_name (out-Tree x.0)) (name_lowest (out-Tree x.0))
unset_lowest at (x ∷ y ∷ ys) = bad (BadForm at)

store_lowest : (at : ℕ) (size : Size) (ys : List KeptTree)
    → Lowest (store_of at size (seen ys)) (in_form at (Some (c.Store size)) (faulty ys))
store_lowest at size [] = bad (BadForm at)
store_lowest at size (x ∷ []) = bad (BadForm at)
store_lowest at size (x ∷ v ∷ []) = of_pair (λ p. cmd.Store size p.0 p.1) (expression x.0) (expression v.0)
    (in_expression x.0) (in_expression v.0) (expression_lowest x.0) (expression_lowest v.0)
store_lowest at size (x ∷ v ∷ y ∷ ys) = bad (BadForm at)

stackalloc_lowest : (at : ℕ) (ys : List KeptTree)
    → Lowest (stackalloc_of at (seen ys)) (in_form at (Some c.Stackalloc) (faulty ys))
stackalloc_lowest at [] = bad (BadForm at)
stackalloc_lowest at (x ∷ []) = bad (BadForm at)
stackalloc_lowest at (x ∷ n ∷ body) =
    of_pair (λ p. cmd.Stackalloc p.0.0 p.0.1 p.1) (both (name x.0) (buffer_size n.0)) (body_of (seen body))
    (in_name (out-Tree x.0) ++ in_buffer_size (out-Tree n.0)) (in_body (faulty body))
    (of_both (name x.0) (buffer_size n.0) (in_name (out-Tree x.0)) (in_buffer_size (out-Tree n.0))
    (name_lowest (out-Tree x.0)) (size_lowest (out-Tree n.0))) (body_lowest body)

if_lowest : (at : ℕ) (ys : List KeptTree) → Lowest (if_of at (seen ys)) (in_form at (Some c.If) (faulty ys))
if_lowest at [] = bad (BadForm at)
if_lowest at (x ∷ []) = bad (BadForm at)
if_lowest at (x ∷ a ∷ []) = bad (BadForm at)
if_lowest at (x ∷ a ∷ b ∷ []) =
    let kept_a : PlacesKept (places a.0) (in_places a.0) = a.1 in
    let kept_b : PlacesKept (places b.0) (in_places b.0) = b.1 in
    of_pair (λ p. cmd.If p.0.0 p.0.1 p.1) (both (expression x.0) ((places a.0).behind (codes "then")))
    ((places b.0).behind (codes "else")) (in_expression x.0 ++ (in_places a.0).behind (codes "then"))
    ((in_places b.0).behind (codes "else"))
    (of_both (expression x.0) ((places a.0).behind (codes "then")) (in_expression x.0) ((in_places a.0).behind
    (codes "then")) (expression_lowest x.0) (kept_a.behind (codes "then"))) (kept_b.behind (codes "else"))
if_lowest at (x ∷ a ∷ b ∷ y ∷ ys) = bad (BadForm at)

while_lowest : (at : ℕ) (ys : List KeptTree) → Lowest (while_of at (seen ys)) (in_form at (Some c.While) (faulty ys))
while_lowest at [] = bad (BadForm at)
while_lowest at (x ∷ body) = of_pair (λ p. cmd.While p.0 p.1) (expression x.0) (body_of (seen body)) (in_expression x.0)
    (in_body (faulty body)) (expression_lowest x.0) (body_lowest body)

skip_lowest : (at : ℕ) (ys : List KeptTree) → Lowest (skip_of at (seen ys)) (in_form at (Some c.Skip) (faulty ys))
skip_lowest at [] = good cmd.Skip
skip_lowest at (y ∷ ys) = bad (BadForm at)

call_lowest : (at : ℕ) (ys : List KeptTree) → Lowest (call_of at (seen ys)) (in_form at (Some c.Call) (faulty ys))
call_lowest at [] = bad (BadForm at)
call_lowest at (x ∷ []) = bad (BadForm at)
call_lowest at (r ∷ t ∷ ys) = target_lowest (λ p. cmd.Call (offset_of t.0) p.0.0 p.0.1 p.1) r.0 t.0 ys

interact_lowest : (at : ℕ) (ys : List KeptTree)
    → Lowest (interact_of at (seen ys)) (in_form at (Some c.Interact) (faulty ys))
interact_lowest at [] = bad (BadForm at)
interact_lowest at (x ∷ []) = bad (BadForm at)
interact_lowest at (r ∷ t ∷ ys) = target_lowest (λ p. cmd.Interact (offset_of t.0) p.0.0 p.0.1 p.1) r.0 t.0 ys

form_lowest : (at : ℕ) (first : Option CmdWord) (ys : List KeptTree)
    → Lowest (form_of at first (seen ys)) (in_form at first (faulty ys))
form_lowest at (Some c.Skip) ys = skip_lowest at ys
form_lowest at (Some c.Set) ys = set_lowest at ys
form_lowest at (Some c.Unset) ys = unset_lowest at ys
form_lowest at (Some (c.Store size)) ys = store_lowest at size ys
form_lowest at (Some c.Stackalloc) ys = stackalloc_lowest at ys
form_lowest at (Some c.If) ys = if_lowest at ys
form_lowest at (Some c.While) ys = while_lowest at ys
form_lowest at (Some c.Seq) ys = of_map cmd.Seq (body_of (seen ys)) (in_body (faulty ys)) (body_lowest ys)
form_lowest at (Some c.Call) ys = call_lowest at ys
form_lowest at (Some c.Interact) ys = interact_lowest at ys
form_lowest at None ys = bad (BadForm at)

command_items_lowest : (at : ℕ) (ys : List KeptTree)
    → Lowest (command_of at (seen ys)) (in_command_items at (faulty ys))
command_items_lowest at [] = bad (BadForm at)
command_items_lowest at (head ∷ ys) = form_lowest at (cmd_word (word_of head.0)) ys

chosen : {A : Type 0} (test : Bool) (s : Shaped A) (f : ShapeFault) (fs : Faults) → Lowest s fs
    → Lowest (if test then s else Err f) (if test then fs else f ∷ [])
chosen true s f fs h = h
chosen false s f fs h = bad f

behind_items_lowest : (at : ℕ) (ys : List KeptTree) (word : List ℕ)
    → Lowest (behind_of at (seen ys) word) (in_behind_items at (faulty ys) word)
behind_items_lowest at [] word = bad (BadForm at)
behind_items_lowest at (head ∷ ys) word =
    chosen (bytes_eq (word_of head.0) word) (body_of (seen ys)) (BadForm at) (in_body (faulty ys)) (body_lowest ys)

layer_lowest : (y : Tree-F KeptTree)
    → PlacesKept (places_in (map-Tree Tree WithPlaces with_places (map-Tree KeptTree Tree tree_of y))) (in_places_layer
    (map-Tree Tree WithFaultPlaces with_fault_places (map-Tree KeptTree Tree tree_of y)))
layer_lowest (Name at text) = record { command = bad (BadForm at); behind = λ word. bad (BadForm at) }
layer_lowest (Number at value) = record { command = bad (BadForm at); behind = λ word. bad (BadForm at) }
layer_lowest (Items at ys) = record { command = command_items_lowest at ys; behind = behind_items_lowest at ys }

places_lowest : (t : Tree) → Kept t
places_lowest = ind-Tree Kept (λ x y is.
    let here = subst (λ (z : Tree-F Tree). PlacesKept (places_in (map-Tree Tree WithPlaces with_places z))
    (in_places_layer (map-Tree Tree WithFaultPlaces with_fault_places z))) is (layer_lowest y) in
    let first = subst
    (λ (p : Places). PlacesKept p (in_places_layer (map-Tree Tree WithFaultPlaces with_fault_places x)))
    (sym (para-roll-Tree Places places_in x)) here in
    subst (λ (q : FaultPlaces). PlacesKept (places (roll-Tree x)) q)
    (sym (para-roll-Tree FaultPlaces in_places_layer x)) first)

commands_lowest : (ts : List Tree) → Lowest (commands ts) (in_commands ts)
commands_lowest [] = good []
commands_lowest (t ∷ ts) =
    let kept = places_lowest t in
    of_pair (λ p. p.0 ∷ p.1) (places t).command (commands ts) (in_places t).command (in_commands ts) kept.command
    (commands_lowest ts)

function_of_lowest : (called arguments results : Tree) (body : List Tree)
    → Lowest (function_of called arguments results body) ((in_name (out-Tree called) ++ in_names (out-Tree arguments))
    ++ (in_names (out-Tree results) ++ in_commands body))
function_of_lowest called arguments results body =
    of_pair _ (both (name called) (names arguments)) (both (names results) (commands body))
    (in_name (out-Tree called) ++ in_names (out-Tree arguments)) (in_names (out-Tree results) ++ in_commands body)
    (of_both (name called) (names arguments) (in_name (out-Tree called)) (in_names (out-Tree arguments))
    (name_lowest (out-Tree called)) (names_lowest (out-Tree arguments)))
    (of_both (names results) (commands body) (in_names (out-Tree results)) (in_commands body)
    (names_lowest (out-Tree results)) (commands_lowest body))

function_items_lowest : (at : ℕ) (items : List Tree) → Lowest (function_list at items) (in_function_items at items)
function_items_lowest at [] = bad (BadForm at)
function_items_lowest at (a ∷ []) = bad (BadForm at)
function_items_lowest at (a ∷ b ∷ []) = bad (BadForm at)
function_items_lowest at (a ∷ b ∷ c ∷ []) = bad (BadForm at)
function_items_lowest at (head ∷ called ∷ arguments ∷ results ∷ body) =
    chosen (bytes_eq (word_of head) (codes "fn")) (function_of called arguments results body)
    (BadForm at) ((in_name (out-Tree called) ++ in_names (out-Tree arguments))
    ++ (in_names (out-Tree results) ++ in_commands body)) (function_of_lowest called arguments results body)

function_lowest : (layer : Tree-F Tree) → Lowest (function_in layer) (in_function layer)
function_lowest (Name at text) = bad (BadForm at)
function_lowest (Number at value) = bad (BadForm at)
function_lowest (Items at items) = function_items_lowest at items

functions_lowest : (ts : List Tree) → Lowest (functions ts) (all_faults ts)
functions_lowest ts = of_all function (λ t. in_function (out-Tree t)) (λ t. function_lowest (out-Tree t)) ts

none_of : (fs : Faults) → lowest_of fs ≡ None → fs ≡ []
none_of [] e = refl
none_of (f ∷ fs) e = absurd (some_joined f (lowest_of fs) e)
  where
    some_joined : (f : ShapeFault) (g : Option ShapeFault) → join (Some f) g ≡ None → ⊥
    some_joined f None e = cc
    some_joined f (Some g) e = cc

-- one of the faults, and none is lower
record Least (fs : Faults) (f : ShapeFault) : Type 0 where
  stands : Contains fs f
  below : AllByRecursion (λ o. place f ≤ place o) fs

above : (fs : Faults) (f g : ShapeFault) → place g ≤ place f → AllByRecursion (λ o. place f ≤ place o) fs
    → AllByRecursion (λ o. place g ≤ place o) fs
above [] f g order all_above = tt
above (o ∷ os) f g order all_above =
    let first = all_above.0 in
    (omega (arith, first), above os f g order all_above.1)

later : (g f : ShapeFault) (gs : Faults) → Contains gs f → Contains (g ∷ gs) f
later g f gs found = let inside = found.1 in (suc found.0, omega (arith, inside), found.2)

chosen_least : (g h : ShapeFault) (gs : Faults) (test : Bool) → test ≡ nat_le (place g) (place h) → Least gs h
    → Least (g ∷ gs) (if test then g else h)
chosen_least g h gs true e least =
    let order : place g ≤ place h = grind (arith, common_steps, e) in
    record { stands = (0, omega arith, refl); below = (omega arith, above gs h g order least.below) }
chosen_least g h gs false e least =
    let order : place h ≤ place g = grind (arith, common_steps, e) in
    record { stands = later g h gs least.stands; below = (order, least.below) }

step_least : (g : ShapeFault) (gs : Faults) (o : Option ShapeFault) → lowest_of gs ≡ o → ((h : ShapeFault)
    → lowest_of gs ≡ Some h → Least gs h) → (f : ShapeFault) → join (Some g) o ≡ Some f → Least (g ∷ gs) f
step_least g gs None none rest f e =
    let same : g ≡ f = cc in
    let empty : gs ≡ [] = none_of gs none in
    subst (λ (h : ShapeFault). Least (g ∷ gs) h) same
    (record {
      stands = (0, omega arith, refl);
      below = (omega arith, subst (λ (hs : Faults). AllByRecursion (λ o. place g ≤ place o) hs) (sym empty) tt);
    })
step_least g gs (Some h) some rest f e =
    let same : lower g h ≡ f = cc in
    subst (λ (k : ShapeFault). Least (g ∷ gs) k) same
    (chosen_least g h gs (nat_le (place g) (place h)) refl (rest h some))

least_of : (fs : Faults) (f : ShapeFault) → lowest_of fs ≡ Some f → Least fs f
least_of [] f e = absurd (cc)
least_of (g ∷ gs) f e = step_least g gs (lowest_of gs) refl (least_of gs) f e

-- the lowest of a list, in words
lowest_in : (fs : Faults) (f : ShapeFault) → lowest_of fs ≡ Some f → IsLowest place fs f
lowest_in fs f e =
    let least = least_of fs f e in
    record { stands = least.stands; lowest = All-from_recursion (λ (o : ShapeFault). place f ≤ place o) fs least.below }

pub lowest_fault : (trees : List Tree) (fault : ShapeFault) → functions trees ≡ Err fault
    → IsLowest place (all_faults trees) fault
lowest_fault trees fault is = let h = functions_lowest trees in
    lowest_in (all_faults trees) fault (sym h.is ∙ ap fault_of is)

pub no_fault : (trees : List Tree) (funcs : List Func) → functions trees ≡ Ok funcs → all_faults trees ≡ []
no_fault trees funcs is = let h = functions_lowest trees in none_of (all_faults trees) (sym h.is ∙ ap fault_of is)
