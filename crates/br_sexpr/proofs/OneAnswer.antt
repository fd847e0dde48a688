-- Each text reads as trees or has a fault, and never both.
use Rattle.std.proofs.Common.{◌≡◌, ℕ, ◌≤◌, List, [], ◌∷◌, ◌++◌, length, map, Option, Some, None}
use Rattle.std.proofs.Common.{refl, sym, ap, ◌∙◌, subst, arith, append_assoc, ◌⊎◌, ⊎_elim, inl, inr}
use Rattle.std.proofs.lemmas.Option.{none-some, same_Some}
use Rattle.std.proofs.lemmas.List.{append-nil, map-append, length-map}
use Rattle.std.proofs.lemmas.Bool.{cases_lt}
use Rattle.br_sexpr.specs.declared.tree.Tree.{Tree}
use Rattle.br_sexpr.specs.declared.tree.TextFault.{TextFault}
use Rattle.br_sexpr.specs.declared.tree.TextFault.TheVariants.{ExtraClose, BadNumber, BadByte, TooDeep, Unclosed}
use Rattle.br_sexpr.specs.declared.tree.Tree.TheViews as view
use Rattle.br_sexpr.specs.Layout.{Piece, IsLayout}
use Rattle.br_sexpr.specs.Token.{Token, opens, closes, names, numbers, misspells, strays, kept, tokens_of}
use Rattle.br_sexpr.specs.Forest.{tree_tokens, forest_tokens, forest_height}
use Rattle.br_sexpr.specs.Reads.{Reads, HasFault}
use Rattle.br_sexpr.specs.Progress.{Opened, outside, pieces, fault_within, seen_in, FitsIn}
use Rattle.br_sexpr.proofs.ForestLemmas.{tokens-name, tokens-number, height-name, height-number}
use Rattle.br_sexpr.proofs.Layouts.{layout, layout-is}
use Rattle.br_sexpr.proofs.Faults.{IsFault-found, found-IsFault}
use Rattle.br_sexpr.proofs.Steps.{seen-open, seen-push, seen-close, FitsIn-open}
use Rattle.br_sexpr.proofs.Steps.{FitsIn-close, FitsIn-push, fault-open, fault-close}
use Rattle.br_sexpr.proofs.Trees.{forest-alone, trees-pass, kept-faultless}

-- trees have one layout of the text, so one list of tokens
same-layout : (text : List ℕ) (ps qs : List Piece) → IsLayout ps text → IsLayout qs text → ps ≡ qs
same-layout text ps qs p q = layout-is ps text p ∙ sym (layout-is qs text q)

pub reads-one : (text : List ℕ) (ts us : List Tree) → Reads text ts → Reads text us → ts ≡ us
reads-one text ts us r s = forest-alone ts us (sym r.tokens
    ∙ ap (λ ps. map kept (tokens_of 0 ps)) (same-layout text r.pieces s.pieces r.layout s.layout) ∙ s.tokens)

pub fault-one : (text : List ℕ) (f g : TextFault) → HasFault text f → HasFault text g → f ≡ g
fault-one text f g r s = same_Some f g (sym (found-IsFault _ f r.fault) ∙ ap (λ ps. fault_within [] (tokens_of 0 ps))
    (same-layout text r.pieces s.pieces r.layout s.layout) ∙ found-IsFault _ g s.fault)

reads-faultless : (text : List ℕ) (ts : List Tree) (r : Reads text ts) → fault_within [] (tokens_of 0 r.pieces) ≡ None
reads-faultless text ts r = kept-faultless [] (tokens_of 0 r.pieces)
    (ap (fault_within []) (r.tokens ∙ sym (append-nil (forest_tokens ts)))
    ∙ trees-pass ts [] [] (omega (arith, r.shallow)))

pub not-both : (text : List ℕ) (ts : List Tree) (f : TextFault) → Reads text ts → HasFault text f → ⊥
not-both text ts f r s = none-some f (sym (reads-faultless text ts r) ∙ ap (λ ps. fault_within [] (tokens_of 0 ps))
    (same-layout text r.pieces s.pieces r.layout s.layout) ∙ found-IsFault _ f s.fault)

-- trees that go on from lists that are open and the trees in the last of them, with these tokens
record GoesOn (os : List Opened) (items : List Tree) (ts : List Token) : Type 0 where
  trees : List Tree
  tokens : seen_in os items ++ map kept ts ≡ forest_tokens trees
  shallow : forest_height trees ≤ 256

abbrev places_of : List Opened → List ℕ
places_of os = map (λ o. o.at) os

last_of : (os : List Opened) → (os ≡ []) ⊎ ((front : List Opened) × (o : Opened) × (os ≡ front ++ o ∷ []))
last_of [] = inl refl
last_of (o ∷ os) = ⊎_elim
    (λ none. inr ([], o, ap (λ ps. o ∷ ps) none))
    (λ split. inr (o ∷ split.0, split.1, ap (λ ps. o ∷ ps) split.2))
    (last_of os)

too_deep : (xs : List ℕ) (at : ℕ) (ts : List Token) → 256 ≤ length xs
    → fault_within xs (opens at ∷ ts) ≡ Some (TooDeep at)
too_deep xs at ts deep = grind arith

goes-open : (os : List Opened) (items : List Tree) (at : ℕ) (ts : List Token)
    → GoesOn (os ++ (record { at = at; before = items }) ∷ []) [] ts → GoesOn os items (opens at ∷ ts)
goes-open os items at ts g = record {
  trees = g.trees;
  tokens = sym (append_assoc (seen_in os items) (opens at ∷ []) (map kept ts))
      ∙ ap (λ us. us ++ map kept ts) (sym (seen-open os (record { at = at; before = items }) [])) ∙ g.tokens;
  shallow = g.shallow;
}

goes-close : (os : List Opened) (o : Opened) (items : List Tree) (at : ℕ) (ts : List Token)
    → GoesOn os (o.before ++ view.List o.at items ∷ []) ts → GoesOn (os ++ o ∷ []) items (closes at ∷ ts)
goes-close os o items at ts g = record {
  trees = g.trees;
  tokens = sym (append_assoc (seen_in (os ++ o ∷ []) items) (closes 0 ∷ []) (map kept ts))
      ∙ ap (λ us. us ++ map kept ts) (sym (seen-close os o items)) ∙ g.tokens;
  shallow = g.shallow;
}

goes-push : (os : List Opened) (items : List Tree) (tree : Tree) (t : Token) (ts : List Token)
    → tree_tokens tree ≡ kept t ∷ [] → GoesOn os (items ++ tree ∷ []) ts → GoesOn os items (t ∷ ts)
goes-push os items tree t ts is g = record {
  trees = g.trees;
  tokens = sym (append_assoc (seen_in os items) (kept t ∷ []) (map kept ts))
      ∙ ap (λ us. (seen_in os items ++ us) ++ map kept ts) (sym is)
      ∙ ap (λ us. us ++ map kept ts) (sym (seen-push os items tree)) ∙ g.tokens;
  shallow = g.shallow;
}

goes_on : (ts : List Token) (os : List Opened) (items : List Tree) → fault_within (places_of os) ts ≡ None
    → FitsIn 0 os items → GoesOn os items ts
goes_on [] [] items right fits =
    record { trees = items; tokens = append-nil (forest_tokens items); shallow = omega (arith, fits) }
goes_on [] (o ∷ os) items right fits = absurd (none-some (Unclosed o.at) (sym right))
goes_on (opens at ∷ ts) os items right fits = ⊎_elim
    (λ room. goes-open os items at ts (goes_on ts (os ++ (record { at = at; before = items }) ∷ []) []
    (ap (λ xs. fault_within xs ts) (map-append (λ (o : Opened). o.at) os ((record { at = at; before = items }) ∷ []))
    ∙ sym (fault-open (places_of os) at ts (omega (arith, room, length-map os (λ (o : Opened). o.at)))) ∙ right)
    (FitsIn-open 0 os (record { at = at; before = items }) fits (omega (arith, room)))))
    (λ deep. absurd (none-some (TooDeep at)
    (sym right ∙ too_deep (places_of os) at ts (omega (arith, deep, length-map os (λ (o : Opened). o.at))))))
    (cases_lt (length os) 256)
goes_on (closes at ∷ ts) os items right fits = ⊎_elim
    (λ none.
    absurd (none-some (ExtraClose at) (sym right ∙ ap (λ ps. fault_within (places_of ps) (closes at ∷ ts)) none)))
    (λ split.
    let front = split.0 in
    let o = split.1 in
    let P : List Opened → Type 0 = λ ps. GoesOn ps items (closes at ∷ ts) in
    let Q : List Opened → Type 0 = λ ps. FitsIn 0 ps items in
    subst P (sym split.2) (goes-close front o items at ts (goes_on ts front (o.before ++ view.List o.at items ∷ [])
    (sym (fault-close (places_of front) o.at at ts)
    ∙ ap (λ xs. fault_within xs (closes at ∷ ts)) (sym (map-append (λ (p : Opened). p.at) front (o ∷ [])))
    ∙ ap (λ ps. fault_within (places_of ps) (closes at ∷ ts)) (sym split.2) ∙ right)
    (FitsIn-close 0 front o items (subst Q split.2 fits)))))
    (last_of os)
goes_on (names at bytes ∷ ts) os items right fits =
    goes-push os items (view.made-Name at bytes) (names at bytes) ts (tokens-name at bytes) (goes_on ts os
    (items ++ view.made-Name at bytes ∷ []) right (FitsIn-push 0 os items _ (height-name at bytes) fits))
goes_on (numbers at n ∷ ts) os items right fits =
    goes-push os items (view.made-Number at n) (numbers at n) ts (tokens-number at n)
    (goes_on ts os (items ++ view.made-Number at n ∷ []) right (FitsIn-push 0 os items _ (height-number at n) fits))
goes_on (misspells at ∷ ts) os items right fits = absurd (none-some (BadNumber at) (sym right))
goes_on (strays at ∷ ts) os items right fits = absurd (none-some (BadByte at) (sym right))

faultless-reads : (text : List ℕ) → fault_within [] (tokens_of 0 (pieces outside text)) ≡ None
    → (trees : List Tree) × Reads text trees
faultless-reads text right =
    let g : GoesOn [] [] (tokens_of 0 (pieces outside text)) =
    goes_on (tokens_of 0 (pieces outside text)) [] [] right (omega arith) in
    (g.trees, record { pieces = pieces outside text; layout = layout text; tokens = g.tokens; shallow = g.shallow })

cases_fault : (o : Option TextFault) → (o ≡ None) ⊎ ((f : TextFault) × (o ≡ Some f))
cases_fault None = inl refl
cases_fault (Some f) = inr (f, refl)

pub one-exists : (text : List ℕ) → ((trees : List Tree) × Reads text trees) ⊎ ((f : TextFault) × HasFault text f)
one-exists text = ⊎_elim
    (λ right. inl (faultless-reads text right))
    (λ wrong. inr (
      wrong.0,
      record { pieces = pieces outside text; layout = layout text; fault = IsFault-found _ wrong.0 wrong.1 },
    ))
    (cases_fault (fault_within [] (tokens_of 0 (pieces outside text))))
