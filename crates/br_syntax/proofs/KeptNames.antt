-- A list of names that is read keeps the limits of such lists.
use Rattle.std.proofs.Common.{◌≡◌, ◌≢◌, ℕ, ◌+◌, ◌≤◌, Bool, true, false, not, List}
use Rattle.std.proofs.Common.{[], ◌∷◌, ◌++◌, length, Ok, refl, arith, length-append}
use Rattle.std.specs.List.{list_any, list_all}
use Rattle.std.specs.Str.{bytes_eq}
use Rattle.std.proofs.lemmas.Grind.{common_steps}
use Rattle.std.proofs.lemmas.List.Folds.{list_any-append}
use Rattle.br_sexpr.specs.declared.tree.Tree.{Tree, out-Tree}
use Rattle.br_sexpr.specs.declared.tree.Tree.TheOpen.{Tree-F}
use Rattle.br_sexpr.specs.declared.tree.Tree.TheOpen.Tree-F.{Name, Number, List as Items}
use Rattle.br_syntax.specs.Shape.{all_differ, are_names}
use Rattle.br_syntax.specs.Shaped.{both}
use Rattle.br_syntax.specs.Denotes.{word_in, word_of, name_among, names_after, names_in, names}
use Rattle.br_syntax.proofs.Parts.{made, split}

-- what it takes to be a name after these items
record Fresh (earlier : List Tree) (word name : List ℕ) : Type 0 where
  few : length earlier ≢ 8
  new : list_any (λ t. bytes_eq (word_of t) name) earlier ≡ false
  is : name ≡ word

fresh : (earlier : List Tree) (layer : Tree-F Tree) (name : List ℕ) → name_among earlier layer ≡ Ok name
    → Fresh earlier (word_in layer) name
fresh earlier (Name at text) name e =
    record { few = grind (arith, common_steps); new = grind (arith, common_steps); is = grind (arith, common_steps) }
fresh earlier (Number at value) name e = absurd (cc)
fresh earlier (Items at items) name e = absurd (cc)

-- none of the names is a word of the trees
abbrev apart : List Tree → List (List ℕ) → Bool
apart earlier names = list_all (λ n. not (list_any (λ t. bytes_eq (word_of t) n) earlier)) names

record Apart (earlier : List Tree) (t : Tree) (names : List (List ℕ)) : Type 0 where
  before : apart earlier names ≡ true
  here : list_any (bytes_eq (word_of t)) names ≡ false

apart_split : (earlier : List Tree) (t : Tree) (names : List (List ℕ)) → apart (earlier ++ t ∷ []) names ≡ true
    → Apart earlier t names
apart_split earlier t [] e = record { before = refl; here = refl }
apart_split earlier t (n ∷ ns) e =
    let joint = list_any-append (λ s. bytes_eq (word_of s) n) earlier (t ∷ []) in
    let more : apart (earlier ++ t ∷ []) ns ≡ true = grind (arith, common_steps, e) in
    let rest = apart_split earlier t ns more in
    record {
      before = grind (arith, common_steps, e, joint, rest.before);
      here = grind (arith, common_steps, e, joint, rest.here);
    }

record NamesKept (earlier : List Tree) (names : List (List ℕ)) : Type 0 where
  few : length earlier + length names ≤ 8
  apart_from : apart earlier names ≡ true
  differ : all_differ names ≡ true

names_kept : (earlier items : List Tree) (names : List (List ℕ)) → length earlier ≤ 8
    → names_after earlier items ≡ Ok names → NamesKept earlier names
names_kept earlier [] names few e =
    let empty : names ≡ [] = cc in
    rw empty (record { few = omega arith; apart_from = refl; differ = refl })
names_kept earlier (t ∷ ts) names few e =
    let m = made (λ p. p.0 ∷ p.1)
    (both (name_among earlier (out-Tree t)) (names_after (earlier ++ t ∷ []) ts)) names e in
    let s = split (name_among earlier (out-Tree t)) (names_after (earlier ++ t ∷ []) ts) m.part m.is in
    let f = fresh earlier (out-Tree t) m.part.0 s.first in
    let longer : length (earlier ++ t ∷ []) ≡ length earlier + 1 = length-append earlier (t ∷ []) in
    let not_full : length earlier ≢ 8 = f.few in
    let room : length (earlier ++ t ∷ []) ≤ 8 = omega arith in
    let k = names_kept (earlier ++ t ∷ []) ts m.part.1 room s.second in
    let a = apart_split earlier t m.part.1 k.apart_from in
    let few_more = k.few in
    let new = f.new in
    let before = a.before in
    let here = a.here in
    let differ = k.differ in
    let is = f.is in
    rw m.whole (record { few = omega arith; apart_from = rw new before; differ = rw (is, here) differ })

names_in_kept : (layer : Tree-F Tree) (ns : List (List ℕ)) → names_in layer ≡ Ok ns → are_names ns ≡ true
names_in_kept (Name at text) ns e = absurd (cc)
names_in_kept (Number at value) ns e = absurd (cc)
names_in_kept (Items at items) ns e =
    let k = names_kept [] items ns (omega arith) e in
    let few = k.few in
    let differ = k.differ in
    rw differ (grind (arith, common_steps, few))

pub names_are_kept : (t : Tree) (ns : List (List ℕ)) → names t ≡ Ok ns → are_names ns ≡ true
names_are_kept t ns e = names_in_kept (out-Tree t) ns e
