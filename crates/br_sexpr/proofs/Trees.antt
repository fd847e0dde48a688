-- Trees by their tokens: no two lists of trees have the same, and where no list is too deep nothing is wrong with them.
use Rattle.std.proofs.Common.{◌≡◌, ℕ, ◌+◌, ◌≤◌, List, [], ◌∷◌, ◌++◌, length, map, Option}
use Rattle.std.proofs.Common.{Some, None, refl, sym, ap, ◌∙◌, subst, arith, append_assoc}
use Rattle.std.proofs.lemmas.List.{length_push}
use Rattle.std.proofs.lemmas.Option.{none-some}
use Rattle.br_sexpr.specs.declared.tree.Tree.{Tree}
use Rattle.br_sexpr.specs.declared.tree.TextFault.{TextFault}
use Rattle.br_sexpr.specs.declared.tree.TextFault.TheVariants.{ExtraClose, BadNumber, BadByte}
use Rattle.br_sexpr.specs.declared.tree.Tree.TheOpen as layer
use Rattle.br_sexpr.specs.declared.tree.Tree.TheViews as view
use Rattle.br_sexpr.specs.declared.tree.Tree.TheVariants.{rolls-Name, rolls-Number, rolls-List}
use Rattle.br_sexpr.specs.declared.tree.Tree.TheFolds.{map-Tree, ind-Tree}
use Rattle.br_sexpr.specs.Token.{Token, opens, closes, names, numbers, misspells, strays, kept}
use Rattle.br_sexpr.specs.Faults.{wrong_close, but_last}
use Rattle.br_sexpr.specs.Forest.{tree_tokens, forest_tokens, tree_height, forest_height}
use Rattle.br_sexpr.specs.Progress.{or_else, fault_within}
use Rattle.br_sexpr.proofs.ForestLemmas.{tokens-name, tokens-number, tokens-list, height-list}
use Rattle.br_sexpr.proofs.Steps.{fault-open, fault-close}

-- Induction over trees: what holds of each tree in a list, and then of the list.
module _ (P : Tree → Type 0) (name : (at : ℕ) (text : List ℕ) → P (view.made-Name at text))
    (number : (at value : ℕ) → P (view.made-Number at value))
    (list : (at : ℕ) (items : List ((t : Tree) × P t)) → P (view.List at (map (λ e. e.0) items))) where
  step : (y : layer.Tree-F ((t : Tree) × P t)) → P (view.roll-Tree (map-Tree ((t : Tree) × P t) Tree (λ e. e.0) y))
  step (layer.Name at text) = subst P (sym (rolls-Name at text)) (name at text)
  step (layer.Number at value) = subst P (sym (rolls-Number at value)) (number at value)
  step (layer.List at items) = subst P (sym (rolls-List at (map (λ e. e.0) items))) (list at items)

  pub tree-induction : (t : Tree) → P t
  tree-induction =
      ind-Tree P (λ x y is. let Q : layer.Tree-F Tree → Type 0 = λ z. P (view.roll-Tree z) in subst Q is (step y))

-- a tree is one of three
pub data Shape : Tree → Type 0 where
  is_name : (at : ℕ) (text : List ℕ) → Shape (view.made-Name at text)
  is_number : (at value : ℕ) → Shape (view.made-Number at value)
  is_list : (at : ℕ) (items : List Tree) → Shape (view.List at items)

pub shape : (t : Tree) → Shape t
shape = tree-induction Shape is_name is_number (λ at items. is_list at (map (λ e. e.0) items))

-- where no list is too deep, trees pass
abbrev Passes : Tree → Type 0
Passes t = (xs : List ℕ) (rest : List Token) → length xs + tree_height t ≤ 256
    → fault_within xs (tree_tokens t ++ rest) ≡ fault_within xs rest

forest-passes : (es : List ((t : Tree) × Passes t)) (xs : List ℕ) (rest : List Token)
    → length xs + forest_height (map (λ e. e.0) es) ≤ 256
    → fault_within xs (forest_tokens (map (λ e. e.0) es) ++ rest) ≡ fault_within xs rest
forest-passes [] xs rest low = refl
forest-passes (e ∷ es) xs rest low =
    ap (fault_within xs) (append_assoc (tree_tokens e.0) (forest_tokens (map (λ d. d.0) es)) rest)
    ∙ e.1 xs (forest_tokens (map (λ d. d.0) es) ++ rest) (omega (arith, low))
    ∙ forest-passes es xs rest (omega (arith, low))

list-passes : (at : ℕ) (items : List ((t : Tree) × Passes t)) → Passes (view.List at (map (λ e. e.0) items))
list-passes at items xs rest low =
    let trees : List Tree = map (λ e. e.0) items in
    let high : length xs + (forest_height trees + 1) ≤ 256 = omega (arith, low, height-list at trees) in
    ap (λ ts. fault_within xs (ts ++ rest)) (tokens-list at trees)
    ∙ fault-open xs at ((forest_tokens trees ++ closes 0 ∷ []) ++ rest) (omega (arith, high))
    ∙ ap (fault_within (xs ++ at ∷ [])) (append_assoc (forest_tokens trees) (closes 0 ∷ []) rest)
    ∙ forest-passes items (xs ++ at ∷ []) (closes 0 ∷ rest) (omega (arith, high, length_push xs at))
    ∙ fault-close xs at 0 rest

pub tree-passes : (t : Tree) → Passes t
tree-passes = tree-induction Passes
    (λ at text xs rest low. ap (λ ts. fault_within xs (ts ++ rest)) (tokens-name at text))
    (λ at value xs rest low. ap (λ ts. fault_within xs (ts ++ rest)) (tokens-number at value))
    list-passes

pub trees-pass : (trees : List Tree) (xs : List ℕ) (rest : List Token) → length xs + forest_height trees ≤ 256
    → fault_within xs (forest_tokens trees ++ rest) ≡ fault_within xs rest
trees-pass [] xs rest low = refl
trees-pass (t ∷ ts) xs rest low =
    ap (fault_within xs) (append_assoc (tree_tokens t) (forest_tokens ts) rest)
    ∙ tree-passes t xs (forest_tokens ts ++ rest) (omega (arith, low))
    ∙ trees-pass ts xs rest (omega (arith, low))

-- the offset of a `)` decides only where it is wrong
or_else-none : (v w a b : Option TextFault) → (v ≡ None → w ≡ None) → (a ≡ None → b ≡ None) → or_else v a ≡ None
    → or_else w b ≡ None
or_else-none None w a b vw ab is = ap (λ o. or_else o b) (vw refl) ∙ ab is
or_else-none (Some f) w a b vw ab is = absurd (none-some f (sym is))

wrong_close-none : (xs : List ℕ) (at : ℕ) → wrong_close xs 0 ≡ None → wrong_close xs at ≡ None
wrong_close-none [] at is = absurd (none-some (ExtraClose 0) (sym is))
wrong_close-none (x ∷ xs) at is = refl

pub kept-faultless : (xs : List ℕ) (ts : List Token) → fault_within xs (map kept ts) ≡ None → fault_within xs ts ≡ None
kept-faultless xs [] is = is
kept-faultless xs (opens at ∷ ts) is = or_else-none _ _ _ _ (λ e. e) (kept-faultless (xs ++ at ∷ []) ts) is
kept-faultless xs (closes at ∷ ts) is =
    or_else-none _ _ _ _ (wrong_close-none xs at) (kept-faultless (but_last xs) ts) is
kept-faultless xs (names at bytes ∷ ts) is = kept-faultless xs ts is
kept-faultless xs (numbers at n ∷ ts) is = kept-faultless xs ts is
kept-faultless xs (misspells at ∷ ts) is = absurd (none-some (BadNumber at) (sym is))
kept-faultless xs (strays at ∷ ts) is = absurd (none-some (BadByte at) (sym is))

-- no tree begins with a `)`
no_close_at : {t : Tree} → Shape t → (n : ℕ) (r s : List Token) → tree_tokens t ++ r ≡ closes n ∷ s → ⊥
no_close_at (is_name at text) n r s is =
    let e : names at text ∷ r ≡ closes n ∷ s = ap (λ ts. ts ++ r) (sym (tokens-name at text)) ∙ is in cc
no_close_at (is_number at value) n r s is =
    let e : numbers at value ∷ r ≡ closes n ∷ s = ap (λ ts. ts ++ r) (sym (tokens-number at value)) ∙ is in cc
no_close_at (is_list at items) n r s is = let e : opens at ∷ ((forest_tokens items ++ closes 0 ∷ []) ++ r)
    ≡ closes n ∷ s = ap (λ ts. ts ++ r) (sym (tokens-list at items)) ∙ is in cc

begins-no_close : (t : Tree) (n : ℕ) (r s : List Token) → tree_tokens t ++ r ≡ closes n ∷ s → ⊥
begins-no_close t n r s is = no_close_at (shape t) n r s is

-- the tokens of a tree are those of no other, whatever follows them
abbrev IsAlone : Tree → Type 0
IsAlone t = (u : Tree) (r s : List Token) → tree_tokens t ++ r ≡ tree_tokens u ++ s → (t ≡ u) × (r ≡ s)

name-alone_at : {u : Tree} → Shape u → (at : ℕ) (text : List ℕ) (r s : List Token)
    → names at text ∷ r ≡ tree_tokens u ++ s → (view.made-Name at text ≡ u) × (r ≡ s)
name-alone_at (is_name b other) at text r s is =
    let e : names at text ∷ r ≡ names b other ∷ s = is ∙ ap (λ ts. ts ++ s) (tokens-name b other) in (cc, cc)
name-alone_at (is_number b value) at text r s is =
    let e : names at text ∷ r ≡ numbers b value ∷ s = is ∙ ap (λ ts. ts ++ s) (tokens-number b value) in absurd (cc)
name-alone_at (is_list b items) at text r s is = let e : names at text ∷ r ≡ opens b
    ∷ ((forest_tokens items ++ closes 0 ∷ []) ++ s) = is ∙ ap (λ ts. ts ++ s) (tokens-list b items) in absurd (cc)

number-alone_at : {u : Tree} → Shape u → (at value : ℕ) (r s : List Token) → numbers at value ∷ r ≡ tree_tokens u ++ s
    → (view.made-Number at value ≡ u) × (r ≡ s)
number-alone_at (is_name b other) at value r s is =
    let e : numbers at value ∷ r ≡ names b other ∷ s = is ∙ ap (λ ts. ts ++ s) (tokens-name b other) in absurd (cc)
number-alone_at (is_number b other) at value r s is =
    let e : numbers at value ∷ r ≡ numbers b other ∷ s = is ∙ ap (λ ts. ts ++ s) (tokens-number b other) in (cc, cc)
number-alone_at (is_list b items) at value r s is = let e : numbers at value ∷ r ≡ opens b
    ∷ ((forest_tokens items ++ closes 0 ∷ []) ++ s) = is ∙ ap (λ ts. ts ++ s) (tokens-list b items) in absurd (cc)

items-alone : (es : List ((t : Tree) × IsAlone t)) (us : List Tree) (r s : List Token)
    → forest_tokens (map (λ e. e.0) es) ++ closes 0 ∷ r ≡ forest_tokens us ++ closes 0 ∷ s
    → (map (λ e. e.0) es ≡ us) × (r ≡ s)
items-alone [] [] r s is = (refl, cc)
items-alone [] (u ∷ us) r s is = absurd (begins-no_close u 0 (forest_tokens us ++ closes 0 ∷ s) r
    (sym (is ∙ append_assoc (tree_tokens u) (forest_tokens us) (closes 0 ∷ s))))
items-alone (e ∷ es) [] r s is = absurd (begins-no_close e.0 0 (forest_tokens (map (λ d. d.0) es) ++ closes 0 ∷ r) s
    (sym (append_assoc (tree_tokens e.0) (forest_tokens (map (λ d. d.0) es)) (closes 0 ∷ r)) ∙ is))
items-alone (e ∷ es) (u ∷ us) r s is =
    let first = e.1 u (forest_tokens (map (λ d. d.0) es) ++ closes 0 ∷ r) (forest_tokens us ++ closes 0 ∷ s)
    (sym (append_assoc (tree_tokens e.0) (forest_tokens (map (λ d. d.0) es)) (closes 0 ∷ r)) ∙ is
    ∙ append_assoc (tree_tokens u) (forest_tokens us) (closes 0 ∷ s)) in
    let more = items-alone es us r s first.1 in
    (ap (λ t. t ∷ map (λ d. d.0) es) first.0 ∙ ap (λ ts. u ∷ ts) more.0, more.1)

list-alone_at : {u : Tree} → Shape u → (at : ℕ) (items : List ((t : Tree) × IsAlone t)) (r s : List Token)
    → opens at ∷ (forest_tokens (map (λ e. e.0) items) ++ closes 0 ∷ r) ≡ tree_tokens u ++ s
    → (view.List at (map (λ e. e.0) items) ≡ u) × (r ≡ s)
list-alone_at (is_name b other) at items r s is = let e : opens at ∷ (forest_tokens (map (λ d. d.0) items)
    ++ closes 0 ∷ r) ≡ names b other ∷ s = is ∙ ap (λ ts. ts ++ s) (tokens-name b other) in absurd (cc)
list-alone_at (is_number b value) at items r s is = let e : opens at ∷ (forest_tokens (map (λ d. d.0) items)
    ++ closes 0 ∷ r) ≡ numbers b value ∷ s = is ∙ ap (λ ts. ts ++ s) (tokens-number b value) in absurd (cc)
list-alone_at (is_list b others) at items r s is =
    let e : opens at ∷ (forest_tokens (map (λ d. d.0) items) ++ closes 0 ∷ r)
    ≡ opens b ∷ (forest_tokens others ++ closes 0 ∷ s) = is ∙ ap (λ ts. ts ++ s) (tokens-list b others)
    ∙ ap (λ ts. opens b ∷ ts) (append_assoc (forest_tokens others) (closes 0 ∷ []) s) in
    let same : at ≡ b = cc in
    let inner : forest_tokens (map (λ d. d.0) items) ++ closes 0 ∷ r ≡ forest_tokens others ++ closes 0 ∷ s = cc in
    let more = items-alone items others r s inner in
    (ap (λ n. view.List n (map (λ d. d.0) items)) same ∙ ap (view.List b) more.0, more.1)

pub tree-alone : (t : Tree) → IsAlone t
tree-alone = tree-induction IsAlone
    (λ at text u r s is. name-alone_at (shape u) at text r s (ap (λ ts. ts ++ r) (sym (tokens-name at text)) ∙ is))
    (λ at value u r s is.
    number-alone_at (shape u) at value r s (ap (λ ts. ts ++ r) (sym (tokens-number at value)) ∙ is))
    (λ at items u r s is. list-alone_at (shape u) at items
    r s (ap (λ ts. opens at ∷ ts) (sym (append_assoc (forest_tokens (map (λ d. d.0) items)) (closes 0 ∷ []) r))
    ∙ ap (λ ts. ts ++ r) (sym (tokens-list at (map (λ d. d.0) items))) ∙ is))

alone : List Tree → List ((t : Tree) × IsAlone t)
alone [] = []
alone (t ∷ ts) = (t, tree-alone t) ∷ alone ts

firsts-alone : (ts : List Tree) → map (λ e. e.0) (alone ts) ≡ ts
unfolding alone
firsts-alone [] = refl
firsts-alone (t ∷ ts) = ap (λ us. t ∷ us) (firsts-alone ts)

-- lists of trees with the same tokens are the same
pub forest-alone : (ts us : List Tree) → forest_tokens ts ≡ forest_tokens us → ts ≡ us
forest-alone ts us is =
    sym (firsts-alone ts)
    ∙ (items-alone (alone ts) us [] []
    (ap (λ vs. forest_tokens vs ++ closes 0 ∷ []) (firsts-alone ts) ∙ ap (λ vs. vs ++ closes 0 ∷ []) is)).0
