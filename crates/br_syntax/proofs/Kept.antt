-- What trees stand for keeps the limits of programs.
use Rattle.std.proofs.Common.{◌≡◌, ◌≢◌, ℕ, ◌+◌, ◌≤◌, Bool, true, false, List, [], ◌∷◌, Ok, Err, Option}
use Rattle.std.proofs.Common.{Some, None, length, map, refl, sym, subst, arith, codes, if◌then◌else◌}
use Rattle.std.specs.List.{list_all}
use Rattle.std.specs.Str.{bytes_eq}
use Rattle.std.proofs.lemmas.Grind.{common_steps}
use Rattle.br_words.specs.declared.size.Size.{Size}
use Rattle.br_sexpr.specs.declared.tree.Tree.{Tree, out-Tree}
use Rattle.br_sexpr.specs.declared.tree.Tree.TheOpen.{Tree-F}
use Rattle.br_sexpr.specs.declared.tree.Tree.TheOpen.Tree-F.{Name, Number, List as Items}
use Rattle.br_sexpr.specs.declared.tree.Tree.TheFolds.{ind-Tree, map-Tree, para-roll-Tree}
use Rattle.br_syntax.specs.declared.program.Expr.{Expr}
use Rattle.br_syntax.specs.declared.program.Cmd.{Cmd}
use Rattle.br_syntax.specs.declared.faults.ShapeFault.{ShapeFault}
use Rattle.br_syntax.specs.declared.faults.ShapeFault.TheVariants.{BadForm}
use Rattle.br_syntax.specs.declared.program.Cmd.TheVariants as cmd
use Rattle.br_syntax.specs.declared.program.Func.{Func}
use Rattle.br_syntax.specs.declared.word.CmdWord.{CmdWord}
use Rattle.br_syntax.specs.declared.word.CmdWord.TheVariants as c
use Rattle.br_syntax.specs.Shape.{IsShaped, is_shaped_command, is_shaped_function, is_buffer_size}
use Rattle.br_syntax.specs.Word.{cmd_word}
use Rattle.br_syntax.specs.Shaped.{Shaped, both}
use Rattle.br_syntax.specs.Denotes.{offset_of, word_of, functions, function, function_in, function_list}
use Rattle.br_syntax.specs.Denotes.{function_of, name, names, expression, buffer_size, buffer_size_in, argument_at}
use Rattle.br_syntax.specs.Denotes.{arguments_from, Places, WithPlaces, places, places_in, with_places, body_of}
use Rattle.br_syntax.specs.Denotes.{skip_of, set_of, unset_of, store_of, stackalloc_of, if_of, while_of, seq_of}
use Rattle.br_syntax.specs.Denotes.{target_of, call_of, interact_of, form_of, command_of, behind_of, commands}
use Rattle.br_syntax.proofs.Parts.{made, split}
use Rattle.br_syntax.proofs.KeptNames.{names_are_kept}
use Rattle.br_syntax.proofs.ShapedForms.{shaped-skip, shaped-set, shaped-unset, shaped-store, stackalloc_kept}
use Rattle.br_syntax.proofs.ShapedForms.{if_kept, while_kept, seq_kept, Within, call_kept, interact_kept}

-- a buffer's size that is read keeps the limit
size_in_kept : (layer : Tree-F Tree) (n : ℕ) → buffer_size_in layer ≡ Ok n → is_buffer_size n ≡ true
size_in_kept (Name at text) n e = absurd (cc)
size_in_kept (Number at value) n e = grind (arith, common_steps, e)
size_in_kept (Items at items) n e = absurd (cc)

size_kept : (t : Tree) (n : ℕ) → buffer_size t ≡ Ok n → is_buffer_size n ≡ true
size_kept t n e = size_in_kept (out-Tree t) n e

-- arguments that are read are at most eight
not_ninth : (i : ℕ) (t : Tree) (e : Expr) → argument_at i t ≡ Ok e → i ≢ 8
not_ninth i t e is = grind (arith, common_steps, is)

arguments_kept : (i : ℕ) (ts : List Tree) (es : List Expr) → i ≤ 8 → arguments_from i ts ≡ Ok es → i + length es ≤ 8
arguments_kept i [] es few e = let empty : es ≡ [] = cc in rw empty (omega arith)
arguments_kept i (t ∷ ts) es few e =
    let m = made (λ p. p.0 ∷ p.1) (both (argument_at i t) (arguments_from (i + 1) ts)) es e in
    let s = split (argument_at i t) (arguments_from (i + 1) ts) m.part m.is in
    let here : i ≢ 8 = not_ninth i t m.part.0 s.first in
    let more = arguments_kept (i + 1) ts m.part.1 (omega arith) s.second in
    rw m.whole (omega arith)

-- commands that a tree stands for keep the limits
record Keeps (p : Places) : Type 0 where
  command : (c : Cmd) → p.command ≡ Ok c → is_shaped_command c ≡ true
  behind : (word : List ℕ) (cs : List Cmd) → p.behind word ≡ Ok cs → list_all is_shaped_command cs ≡ true

abbrev Kept : Tree → Type 0
Kept t = Keeps (places t)

abbrev KeptTree : Type 0
KeptTree = (t : Tree) × Kept t

abbrev tree_of : KeptTree → Tree
tree_of y = y.0

abbrev seen : List KeptTree → List WithPlaces
seen ys = map with_places (map tree_of ys)

body_keeps : (ys : List KeptTree) (cs : List Cmd) → body_of (seen ys) ≡ Ok cs → list_all is_shaped_command cs ≡ true
body_keeps [] cs e = let empty : cs ≡ [] = cc in rw empty refl
body_keeps (y ∷ ys) cs e =
    let m = made (λ p. p.0 ∷ p.1) (both (places y.0).command (body_of (seen ys))) cs e in
    let s = split (places y.0).command (body_of (seen ys)) m.part m.is in
    let kept : Keeps (places y.0) = y.1 in
    let here = kept.command m.part.0 s.first in
    let there = body_keeps ys m.part.1 s.second in
    rw (m.whole, here) there

skip_keeps : (at : ℕ) (ys : List KeptTree) (c : Cmd) → skip_of at (seen ys) ≡ Ok c → is_shaped_command c ≡ true
skip_keeps at [] c e = let is : c ≡ cmd.Skip = cc in rw is shaped-skip
skip_keeps at (y ∷ ys) c e = absurd (cc)

set_keeps : (at : ℕ) (ys : List KeptTree) (c : Cmd) → set_of at (seen ys) ≡ Ok c → is_shaped_command c ≡ true
set_keeps at [] c e = absurd (cc)
set_keeps at (x ∷ []) c e = absurd (cc)
set_keeps at (x ∷ v ∷ []) c e =
    let m = made (λ p. cmd.Set p.0 p.1) (both (name x.0) (expression v.0)) c e in
    rw m.whole (shaped-set m.part.0 m.part.1)
set_keeps at (x ∷ v ∷ y ∷ ys) c e = absurd (cc)

unset_keeps : (at : ℕ) (ys : List KeptTree) (c : Cmd) → unset_of at (seen ys) ≡ Ok c → is_shaped_command c ≡ true
unset_keeps at [] c e = absurd (cc)
unset_keeps at (x ∷ []) c e =
    let m = made cmd.Unset (name x.0) c e in
    rw m.whole (shaped-unset m.part)
unset_keeps at (x ∷ y ∷ ys) c e = absurd (cc)

store_keeps : (at : ℕ) (size : Size) (ys : List KeptTree) (c : Cmd) → store_of at size (seen ys) ≡ Ok c
    → is_shaped_command c ≡ true
store_keeps at size [] c e = absurd (cc)
store_keeps at size (x ∷ []) c e = absurd (cc)
store_keeps at size (x ∷ v ∷ []) c e =
    let m = made (λ p. cmd.Store size p.0 p.1) (both (expression x.0) (expression v.0)) c e in
    rw m.whole (shaped-store size m.part.0 m.part.1)
store_keeps at size (x ∷ v ∷ y ∷ ys) c e = absurd (cc)

stackalloc_keeps : (at : ℕ) (ys : List KeptTree) (c : Cmd) → stackalloc_of at (seen ys) ≡ Ok c
    → is_shaped_command c ≡ true
stackalloc_keeps at [] c e = absurd (cc)
stackalloc_keeps at (x ∷ []) c e = absurd (cc)
stackalloc_keeps at (x ∷ n ∷ body) c e =
    let m = made (λ p. cmd.Stackalloc p.0.0 p.0.1 p.1)
    (both (both (name x.0) (buffer_size n.0)) (body_of (seen body))) c e in
    let s = split (both (name x.0) (buffer_size n.0)) (body_of (seen body)) m.part m.is in
    let front = split (name x.0) (buffer_size n.0) m.part.0 s.first in
    rw m.whole (stackalloc_kept m.part.0.0 m.part.0.1 m.part.1 (size_kept n.0 m.part.0.1 front.second)
    (body_keeps body m.part.1 s.second))

if_keeps : (at : ℕ) (ys : List KeptTree) (c : Cmd) → if_of at (seen ys) ≡ Ok c → is_shaped_command c ≡ true
if_keeps at [] c e = absurd (cc)
if_keeps at (x ∷ []) c e = absurd (cc)
if_keeps at (x ∷ a ∷ []) c e = absurd (cc)
if_keeps at (x ∷ a ∷ b ∷ []) c e =
    let first = (places a.0).behind (codes "then") in
    let second = (places b.0).behind (codes "else") in
    let m = made (λ p. cmd.If p.0.0 p.0.1 p.1) (both (both (expression x.0) first) second) c e in
    let s = split (both (expression x.0) first) second m.part m.is in
    let front = split (expression x.0) first m.part.0 s.first in
    let kept_a : Keeps (places a.0) = a.1 in
    let kept_b : Keeps (places b.0) = b.1 in
    rw m.whole (if_kept m.part.0.0 m.part.0.1 m.part.1 (kept_a.behind (codes "then") m.part.0.1 front.second)
    (kept_b.behind (codes "else") m.part.1 s.second))
if_keeps at (x ∷ a ∷ b ∷ y ∷ ys) c e = absurd (cc)

while_keeps : (at : ℕ) (ys : List KeptTree) (c : Cmd) → while_of at (seen ys) ≡ Ok c → is_shaped_command c ≡ true
while_keeps at [] c e = absurd (cc)
while_keeps at (x ∷ body) c e =
    let m = made (λ p. cmd.While p.0 p.1) (both (expression x.0) (body_of (seen body))) c e in
    let s = split (expression x.0) (body_of (seen body)) m.part m.is in
    rw m.whole (while_kept m.part.0 m.part.1 (body_keeps body m.part.1 s.second))

seq_keeps : (ys : List KeptTree) (c : Cmd) → seq_of (seen ys) ≡ Ok c → is_shaped_command c ≡ true
seq_keeps body c e =
    let m = made cmd.Seq (body_of (seen body)) c e in
    rw m.whole (seq_kept m.part (body_keeps body m.part m.is))

target_keeps : (r t : Tree) (arguments : List Tree) (p : (List (List ℕ) × List ℕ) × List Expr)
    → target_of r t arguments ≡ Ok p → Within p.0.0 p.1
target_keeps r t arguments p e =
    let s = split (both (names r) (name t)) (arguments_from 0 arguments) p e in
    let front = split (names r) (name t) p.0 s.first in
    let few = arguments_kept 0 arguments p.1 (omega arith) s.second in
    record { names_ok = names_are_kept r p.0.0 front.first; few = grind (arith, common_steps, few) }

call_keeps : (at : ℕ) (ys : List KeptTree) (c : Cmd) → call_of at (seen ys) ≡ Ok c → is_shaped_command c ≡ true
call_keeps at [] c e = absurd (cc)
call_keeps at (x ∷ []) c e = absurd (cc)
call_keeps at (r ∷ t ∷ ys) c e =
    let arguments = map (λ (p : WithPlaces). p.0) (seen ys) in
    let m = made (λ p. cmd.Call (offset_of t.0) p.0.0 p.0.1 p.1) (target_of r.0 t.0 arguments) c e in
    rw m.whole (call_kept (offset_of t.0) m.part.0.0 m.part.0.1 m.part.1 (target_keeps r.0 t.0 arguments m.part m.is))

interact_keeps : (at : ℕ) (ys : List KeptTree) (c : Cmd) → interact_of at (seen ys) ≡ Ok c → is_shaped_command c ≡ true
interact_keeps at [] c e = absurd (cc)
interact_keeps at (x ∷ []) c e = absurd (cc)
interact_keeps at (r ∷ t ∷ ys) c e =
    let arguments = map (λ (p : WithPlaces). p.0) (seen ys) in
    let m = made (λ p. cmd.Interact (offset_of t.0) p.0.0 p.0.1 p.1) (target_of r.0 t.0 arguments) c e in
    rw m.whole
    (interact_kept (offset_of t.0) m.part.0.0 m.part.0.1 m.part.1 (target_keeps r.0 t.0 arguments m.part m.is))

form_keeps : (at : ℕ) (first : Option CmdWord) (ys : List KeptTree) (c : Cmd) → form_of at first (seen ys) ≡ Ok c
    → is_shaped_command c ≡ true
form_keeps at (Some c.Skip) ys d e = skip_keeps at ys d e
form_keeps at (Some c.Set) ys d e = set_keeps at ys d e
form_keeps at (Some c.Unset) ys d e = unset_keeps at ys d e
form_keeps at (Some (c.Store size)) ys d e = store_keeps at size ys d e
form_keeps at (Some c.Stackalloc) ys d e = stackalloc_keeps at ys d e
form_keeps at (Some c.If) ys d e = if_keeps at ys d e
form_keeps at (Some c.While) ys d e = while_keeps at ys d e
form_keeps at (Some c.Seq) ys d e = seq_keeps ys d e
form_keeps at (Some c.Call) ys d e = call_keeps at ys d e
form_keeps at (Some c.Interact) ys d e = interact_keeps at ys d e
form_keeps at None ys d e = absurd (cc)

command_keeps : (at : ℕ) (ys : List KeptTree) (c : Cmd) → command_of at (seen ys) ≡ Ok c → is_shaped_command c ≡ true
command_keeps at [] c e = absurd (cc)
command_keeps at (head ∷ ys) c e = form_keeps at (cmd_word (word_of head.0)) ys c e

guarded : (test : Bool) (s : Shaped (List Cmd)) (f : ShapeFault) (cs : List Cmd)
    → (if test then s else Err f) ≡ Ok cs → s ≡ Ok cs
guarded true s f cs e = e
guarded false s f cs e = absurd (cc)

behind_keeps : (at : ℕ) (ys : List KeptTree) (word : List ℕ) (cs : List Cmd) → behind_of at (seen ys) word ≡ Ok cs
    → list_all is_shaped_command cs ≡ true
behind_keeps at [] word cs e = absurd (cc)
behind_keeps at (head ∷ ys) word cs e =
    body_keeps ys cs (guarded (bytes_eq (word_of head.0) word) (body_of (seen ys)) (BadForm at) cs e)

layer_keeps : (y : Tree-F KeptTree)
    → Keeps (places_in (map-Tree Tree WithPlaces with_places (map-Tree KeptTree Tree tree_of y)))
layer_keeps (Name at text) = record { command = λ c e. absurd (cc); behind = λ word cs e. absurd (cc) }
layer_keeps (Number at value) = record { command = λ c e. absurd (cc); behind = λ word cs e. absurd (cc) }
layer_keeps (Items at ys) = record { command = command_keeps at ys; behind = behind_keeps at ys }

places_keep : (t : Tree) → Kept t
places_keep = ind-Tree Kept (λ x y is.
    let here = subst (λ (z : Tree-F Tree). Keeps (places_in (map-Tree Tree WithPlaces with_places z))) is
    (layer_keeps y) in
    subst Keeps (sym (para-roll-Tree Places places_in x)) here)

commands_keep : (ts : List Tree) (cs : List Cmd) → commands ts ≡ Ok cs → list_all is_shaped_command cs ≡ true
commands_keep [] cs e = let empty : cs ≡ [] = cc in rw empty refl
commands_keep (t ∷ ts) cs e =
    let m = made (λ p. p.0 ∷ p.1) (both (places t).command (commands ts)) cs e in
    let s = split (places t).command (commands ts) m.part m.is in
    let kept = places_keep t in
    let here = kept.command m.part.0 s.first in
    let there = commands_keep ts m.part.1 s.second in
    rw (m.whole, here) there

abbrev Parts : Type 0
Parts = (List ℕ × List (List ℕ)) × (List (List ℕ) × List Cmd)

abbrev function_from : ℕ → Parts → Func
function_from at p = record { at = at; name = p.0.0; args = p.0.1; results = p.1.0; body = p.1.1 }

function_of_keeps : (called arguments results : Tree) (body : List Tree) (f : Func)
    → function_of called arguments results body ≡ Ok f → is_shaped_function f ≡ true
function_of_keeps called arguments results body f e =
    let m = made (function_from (offset_of called))
    (both (both (name called) (names arguments)) (both (names results) (commands body))) f e in
    let s = split (both (name called) (names arguments)) (both (names results) (commands body)) m.part m.is in
    let front = split (name called) (names arguments) m.part.0 s.first in
    let back = split (names results) (commands body) m.part.1 s.second in
    let args_ok = names_are_kept arguments m.part.0.1 front.second in
    let results_ok = names_are_kept results m.part.1.0 back.first in
    let body_ok = commands_keep body m.part.1.1 back.second in
    rw (m.whole, args_ok, results_ok) body_ok

function_guarded : (test : Bool) (s : Shaped Func) (g : ShapeFault) (f : Func)
    → (if test then s else Err g) ≡ Ok f → s ≡ Ok f
function_guarded true s g f e = e
function_guarded false s g f e = absurd (cc)

function_list_keeps : (at : ℕ) (items : List Tree) (f : Func) → function_list at items ≡ Ok f
    → is_shaped_function f ≡ true
function_list_keeps at [] f e = absurd (cc)
function_list_keeps at (a ∷ []) f e = absurd (cc)
function_list_keeps at (a ∷ b ∷ []) f e = absurd (cc)
function_list_keeps at (a ∷ b ∷ c ∷ []) f e = absurd (cc)
function_list_keeps at (head ∷ called ∷ arguments ∷ results ∷ body) f e =
    function_of_keeps called arguments results body f
    (function_guarded (bytes_eq (word_of head) (codes "fn")) (function_of called arguments results body)
    (BadForm at) f e)

function_in_keeps : (layer : Tree-F Tree) (f : Func) → function_in layer ≡ Ok f → is_shaped_function f ≡ true
function_in_keeps (Name at text) f e = absurd (cc)
function_in_keeps (Number at value) f e = absurd (cc)
function_in_keeps (Items at items) f e = function_list_keeps at items f e

-- functions that trees stand for keep the limits
pub denoted_is_shaped : (trees : List Tree) (funcs : List Func) → functions trees ≡ Ok funcs → IsShaped funcs
denoted_is_shaped [] funcs e = let empty : funcs ≡ [] = cc in rw empty refl
denoted_is_shaped (t ∷ ts) funcs e =
    let m = made (λ p. p.0 ∷ p.1) (both (function t) (functions ts)) funcs e in
    let s = split (function t) (functions ts) m.part m.is in
    let here = function_in_keeps (out-Tree t) m.part.0 s.first in
    let there = denoted_is_shaped ts m.part.1 s.second in
    rw (m.whole, here) there
