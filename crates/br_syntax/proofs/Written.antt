-- How the parts that were written so far go on.
use Rattle.std.proofs.Common.{◌≡◌, ℕ, ◌+◌, ◌≤◌, ◌<◌, Bool, true, false, ◌&&◌, List, [], ◌∷◌, ◌++◌}
use Rattle.std.proofs.Common.{Ok, length, get_or, take, map, refl, sym, ap, ◌∙◌, arith, ◌==◌}
use Rattle.std.specs.List.{list_all}
use Rattle.std.proofs.lemmas.Grind.{common_steps}
use Rattle.std.proofs.lemmas.List.{take_more}
use Rattle.br_sexpr.specs.declared.tree.Tree.{Tree}
use Rattle.br_sexpr.specs.declared.tree.Tree.TheOpen.{Tree-F}
use Rattle.br_sexpr.specs.declared.tree.Tree.TheVariants as tree
use Rattle.br_sexpr.specs.declared.tree.Tree.TheFolds.{fold-roll-Tree}
use Rattle.br_syntax.specs.Shaped.{Shaped, ◌<$>◌, both, all}
use Rattle.br_syntax.specs.Denotes.{byte, bytes}
use Rattle.br_syntax.specs.Offsets.{zero_step, is_unplaced}
use Rattle.br_syntax.proofs.Parts.{made, split}

-- a first part with no fault before others with none
pub one_before : {A : Type 0} (part : Shaped A) (parts : Shaped (List A)) (x : A) (xs : List A) → part ≡ Ok x
    → parts ≡ Ok xs → ((λ p. p.0 ∷ p.1) <$> both part parts) ≡ Ok (x ∷ xs)
one_before part parts x xs e f = rw (e, f) refl

-- one part more
pub all_push : {A : Type 0} (parts : List (Shaped A)) (xs : List A) (part : Shaped A) (x : A) → all parts ≡ Ok xs
    → part ≡ Ok x → all (parts ++ part ∷ []) ≡ Ok (xs ++ x ∷ [])
all_push {A} [] xs part x done here =
    let empty : xs ≡ [] = cc in
    let one : all (part ∷ []) ≡ Ok (x ∷ []) = rw here refl in
    one ∙ ap (λ (ys : List A). Ok (ys ++ x ∷ [])) (sym empty)
all_push {A} (p ∷ ps) xs part x done here =
    let m = made (λ q. q.0 ∷ q.1) (both p (all ps)) xs done in
    let s = split p (all ps) m.part m.is in
    let first = s.first in
    let more = all_push ps m.part.1 part x s.second here in
    one_before p (all (ps ++ part ∷ [])) m.part.0 (m.part.1 ++ x ∷ []) first more
    ∙ ap (λ (ys : List A). Ok (ys ++ x ∷ [])) (sym m.whole)

pub map-push : {A B : Type 0} (f : A → B) (xs : List A) (x : A) → map f (xs ++ x ∷ []) ≡ map f xs ++ f x ∷ []
map-push f [] x = refl
map-push f (y ∷ ys) x = ap (λ more. f y ∷ more) (map-push f ys x)

-- one tree more that stands for something
pub all_push_tree : {A : Type 0} (place : Tree → Shaped A) (trees : List Tree) (xs : List A) (t : Tree) (x : A)
    → all (map place trees) ≡ Ok xs → place t ≡ Ok x → all (map place (trees ++ t ∷ [])) ≡ Ok (xs ++ x ∷ [])
all_push_tree place trees xs t x done here =
    ap all (map-push place trees t) ∙ all_push (map place trees) xs (place t) x done here

pub and_parts : (a b : Bool) → (a && b) ≡ true → (a ≡ true) × (b ≡ true)
and_parts true b e = (refl, e)
and_parts false b e = absurd (cc)

pub unplaced_push : (trees : List Tree) (t : Tree) → list_all is_unplaced trees ≡ true → is_unplaced t ≡ true
    → list_all is_unplaced (trees ++ t ∷ []) ≡ true
unplaced_push [] t done here = rw here refl
unplaced_push (u ∷ us) t done here =
    let both_are = and_parts (is_unplaced u) (list_all is_unplaced us) done in
    let first = both_are.0 in
    let more = unplaced_push us t both_are.1 here in
    rw (first) more

tests_map : (trees : List Tree) → list_all (λ (ok : Bool). ok) (map is_unplaced trees) ≡ list_all is_unplaced trees
tests_map [] = refl
tests_map (t ∷ ts) = ap (λ b. is_unplaced t && b) (tests_map ts)

pub unplaced-name : (at : ℕ) (text : List ℕ) → is_unplaced (tree.Name at text) ≡ (at == 0)
unplaced-name at text =
    ap is_unplaced (sym (tree.rolls-Name at text)) ∙ fold-roll-Tree Bool zero_step (Tree-F.Name at text)

pub unplaced-number : (at value : ℕ) → is_unplaced (tree.Number at value) ≡ (at == 0)
unplaced-number at value =
    ap is_unplaced (sym (tree.rolls-Number at value)) ∙ fold-roll-Tree Bool zero_step (Tree-F.Number at value)

pub unplaced-list : (at : ℕ) (items : List Tree)
    → is_unplaced (tree.List at items) ≡ ((at == 0) && list_all is_unplaced items)
unplaced-list at items = ap is_unplaced (sym (tree.rolls-List at items))
    ∙ fold-roll-Tree Bool zero_step (Tree-F.List at items) ∙ ap (λ b. (at == 0) && b) (tests_map items)

pub byte_number : (at value : ℕ) → value ≤ 255 → byte (tree.Number at value) ≡ Ok value
byte_number at value small = rw tree.outs-Number (grind (arith, common_steps))

pub bytes-list : (at : ℕ) (items : List Tree) → bytes (tree.List at items) ≡ all (map byte items)
bytes-list at items = rw tree.outs-List refl

pub bytes_push : (items : List Tree) (table : List ℕ) (i n : ℕ)
    → i < length table → n ≡ get_or table i 0 → n ≤ 255 → all (map byte items) ≡ Ok (take i table)
    → all (map byte (items ++ tree.Number 0 n ∷ [])) ≡ Ok (take (i + 1) table)
bytes_push items table i n inside is small done =
    let more : take (i + 1) table ≡ take i table ++ n ∷ [] = take_more table i 0 inside
    ∙ ap (λ m. take i table ++ m ∷ []) (sym is) in
    all_push_tree byte items (take i table) (tree.Number 0 n) n done (byte_number 0 n small) ∙ ap Ok (sym more)

pub number_push : (items : List Tree) (n : ℕ) → list_all is_unplaced items ≡ true
    → list_all is_unplaced (items ++ tree.Number 0 n ∷ []) ≡ true
number_push items n done = unplaced_push items (tree.Number 0 n) done (unplaced-number 0 n)

-- one tree more, of an item at a place
pub tree_push : {A : Type 0} (place : Tree → Shaped A) (trees : List Tree) (xs : List A) (i : ℕ) (t : Tree) (x : A)
    → i < length xs → x ≡ get_or xs i x → place t ≡ Ok x → all (map place trees) ≡ Ok (take i xs)
    → all (map place (trees ++ t ∷ [])) ≡ Ok (take (i + 1) xs)
tree_push {A} place trees xs i t x inside is here done =
    let more : take (i + 1) xs ≡ take i xs ++ x ∷ [] = take_more xs i x inside
    ∙ ap (λ (m : A). take i xs ++ m ∷ []) (sym is) in
    all_push_tree place trees (take i xs) t x done here ∙ ap Ok (sym more)

pub ruleset written =
    (byte_number, bytes-list, all_push_tree, unplaced_push, unplaced-name, unplaced-number, unplaced-list)
