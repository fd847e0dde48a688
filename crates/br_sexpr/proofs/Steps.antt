-- What a reader's steps do to the tokens that it has seen, to the fault of what follows, and to the depth.
use Rattle.std.proofs.Common.{◌≡◌, ℕ, ◌+◌, ◌-◌, ◌<◌, ◌≤◌, true, false, List, [], ◌∷◌, ◌++◌, length, take}
use Rattle.std.proofs.Common.{drop, map, Some, None, refl, sym, ap, ◌∙◌, subst, arith, append_assoc}
use Rattle.std.proofs.lemmas.List.{map-append, length-map, length-drop, length-take-le, append-nil}
use Rattle.std.proofs.lemmas.List.{take-append-drop, take-append-le, drop-append-le, take_at, drop_at, length_push}
use Rattle.br_sexpr.specs.declared.tree.Tree.{Tree}
use Rattle.br_sexpr.specs.declared.tree.Tree.TheViews as view
use Rattle.br_sexpr.specs.declared.reading.OpenList.{OpenList}
use Rattle.br_sexpr.specs.declared.reading.Reader.{Reader}
use Rattle.br_sexpr.specs.Token.{Token, opens, closes, token_of_run}
use Rattle.br_sexpr.specs.Forest.{tree_tokens, forest_tokens, tree_height}
use Rattle.br_sexpr.specs.Faults.{but_last, wrong_close}
use Rattle.br_sexpr.specs.Progress.{Opened, opened, innermost, Ordered, IsOrdered, or_else}
use Rattle.br_sexpr.specs.Progress.{fault_within, seen_in, seen, places, FitsIn, Fits, Took, IsWord}
use Rattle.br_sexpr.specs.Number.{number_of}
use Rattle.br_base.specs.Name.{is_name}
use Rattle.br_sexpr.specs.declared.tree.TextFault.TheVariants.{BadNumber}
use Rattle.br_sexpr.proofs.ForestLemmas.{tokens-push, tokens-list, tokens-name, tokens-number}
use Rattle.br_sexpr.proofs.ForestLemmas.{height-push, height-list, height-name, height-number}

pub seen-open : (os : List Opened) (o : Opened) (items : List Tree)
    → seen_in (os ++ o ∷ []) items ≡ seen_in os o.before ++ (opens o.at ∷ forest_tokens items)
seen-open [] o items = refl
seen-open (p ∷ os) o items = ap (λ ts. forest_tokens p.before ++ opens p.at ∷ ts) (seen-open os o items)
    ∙ sym (append_assoc (forest_tokens p.before) (opens p.at ∷ seen_in os o.before) (opens o.at ∷ forest_tokens items))

pub seen-push : (os : List Opened) (items : List Tree) (t : Tree)
    → seen_in os (items ++ t ∷ []) ≡ seen_in os items ++ tree_tokens t
seen-push [] items t = tokens-push items t
seen-push (p ∷ os) items t = ap (λ ts. forest_tokens p.before ++ opens p.at ∷ ts) (seen-push os items t)
    ∙ sym (append_assoc (forest_tokens p.before) (opens p.at ∷ seen_in os items) (tree_tokens t))

pub seen-close : (os : List Opened) (o : Opened) (items : List Tree)
    → seen_in os (o.before ++ view.List o.at items ∷ []) ≡ seen_in (os ++ o ∷ []) items ++ closes 0 ∷ []
seen-close os o items =
    seen-push os o.before (view.List o.at items) ∙ ap (λ ts. seen_in os o.before ++ ts) (tokens-list o.at items)
    ∙ sym (append_assoc (seen_in os o.before) (opens o.at ∷ forest_tokens items) (closes 0 ∷ []))
    ∙ ap (λ ts. ts ++ closes 0 ∷ []) (sym (seen-open os o items))

pub FitsIn-open : (n : ℕ) (os : List Opened) (o : Opened) → FitsIn n os o.before → n + length os < 256
    → FitsIn n (os ++ o ∷ []) []
FitsIn-open n [] o fits room = (fits, omega arith)
FitsIn-open n (p ∷ os) o fits room = (fits.0, FitsIn-open (n + 1) os o fits.1 (omega arith))

pub FitsIn-close : (n : ℕ) (os : List Opened) (o : Opened) (items : List Tree) → FitsIn n (os ++ o ∷ []) items
    → FitsIn n os (o.before ++ view.List o.at items ∷ [])
FitsIn-close n [] o items fits =
    omega (arith, fits.0, fits.1, height-push o.before (view.List o.at items), height-list o.at items)
FitsIn-close n (p ∷ os) o items fits = (fits.0, FitsIn-close (n + 1) os o items fits.1)

pub FitsIn-push : (n : ℕ) (os : List Opened) (items : List Tree) (t : Tree) → tree_height t ≡ 0 → FitsIn n os items
    → FitsIn n os (items ++ t ∷ [])
FitsIn-push n [] items t flat fits = omega (arith, fits, height-push items t)
FitsIn-push n (p ∷ os) items t flat fits = (fits.0, FitsIn-push (n + 1) os items t flat fits.1)

but_last-push : (xs : List ℕ) (x : ℕ) → but_last (xs ++ x ∷ []) ≡ xs
but_last-push [] x = refl
but_last-push (y ∷ []) x = refl
but_last-push (y ∷ z ∷ xs) x = ap (λ ys. y ∷ ys) (but_last-push (z ∷ xs) x)

wrong_close-push : (xs : List ℕ) (x at : ℕ) → wrong_close (xs ++ x ∷ []) at ≡ None
wrong_close-push [] x at = refl
wrong_close-push (y ∷ xs) x at = refl

pub fault-open : (xs : List ℕ) (at : ℕ) (rest : List Token) → length xs < 256
    → fault_within xs (opens at ∷ rest) ≡ fault_within (xs ++ at ∷ []) rest
fault-open xs at rest room = grind (arith)

pub fault-close : (xs : List ℕ) (x at : ℕ) (rest : List Token)
    → fault_within (xs ++ x ∷ []) (closes at ∷ rest) ≡ fault_within xs rest
fault-close xs x at rest = ap (λ o. or_else o (fault_within (but_last (xs ++ x ∷ [])) rest)) (wrong_close-push xs x at)
    ∙ ap (λ ys. fault_within ys rest) (but_last-push xs x)

-- the trees of the reader, taken apart by the lists that are open
Ordered-within : (base : ℕ) (os : List OpenList) (n : ℕ) → Ordered base os n → base ≤ n
Ordered-within base [] n ordered = ordered
Ordered-within base (o ∷ os) n ordered = omega (arith, ordered.0, Ordered-within o.start os n ordered.1)

Ordered-more : (base : ℕ) (os : List OpenList) (m n : ℕ) → m ≤ n → Ordered base os m → Ordered base os n
Ordered-more base [] m n more ordered = omega arith
Ordered-more base (o ∷ os) m n more ordered = (ordered.0, Ordered-more o.start os m n more ordered.1)

Ordered-push : (base : ℕ) (os : List OpenList) (o : OpenList) → Ordered base os o.start
    → Ordered base (os ++ o ∷ []) o.start
Ordered-push base [] o ordered = (ordered, omega arith)
Ordered-push base (p ∷ os) o ordered = (ordered.0, Ordered-push p.start os o ordered.1)

Ordered-front : (base : ℕ) (os : List OpenList) (o : OpenList) (n : ℕ) → Ordered base (os ++ o ∷ []) n
    → Ordered base os o.start × (o.start ≤ n)
Ordered-front base [] o n ordered = ordered
Ordered-front base (p ∷ os) o n ordered = let more = Ordered-front p.start os o n ordered.1 in
    ((ordered.0, more.0), more.1)

-- more trees at the end lie in the last list
record Apart (base : ℕ) (os : List OpenList) (front more : List Tree) : Type 0 where
  lists : opened base os (front ++ more) ≡ opened base os front
  items : innermost base os (front ++ more) ≡ innermost base os front ++ more

apart-more : (base : ℕ) (os : List OpenList) (front more : List Tree) → Ordered base os (base + length front)
    → Apart base os front more
apart-more base [] front more ordered = record { lists = refl; items = refl }
apart-more base (o ∷ os) front more ordered =
    let n : ℕ = o.start - base in
    let within : n ≤ length front =
    omega (arith, ordered.0, Ordered-within o.start os (base + length front) ordered.1) in
    let same : base + length front ≡ o.start + length (drop n front) =
    omega (arith, ordered.0, within, length-drop n front) in
    let P : ℕ → Type 0 = λ m. Ordered o.start os m in
    let later : Apart o.start os (drop n front) more =
    apart-more o.start os (drop n front) more (subst P same ordered.1) in
    record {
      lists = ap (λ ts. (record { at = o.at; before = ts }) ∷ opened o.start os (drop n (front ++ more)))
          (take-append-le n front more within)
          ∙ ap (λ ts. (record { at = o.at; before = take n front }) ∷ opened o.start os ts)
          (drop-append-le n front more within)
          ∙ ap (λ ps. (record { at = o.at; before = take n front }) ∷ ps) later.lists;
      items = ap (innermost o.start os) (drop-append-le n front more within) ∙ later.items;
    }

-- one more list that begins after the front
record Begun (base : ℕ) (os : List OpenList) (o : OpenList) (front more : List Tree) : Type 0 where
  lists : opened base (os ++ o ∷ []) (front ++ more)
      ≡ opened base os front ++ (record { at = o.at; before = innermost base os front }) ∷ []
  items : innermost base (os ++ o ∷ []) (front ++ more) ≡ more

begun-more : (base : ℕ) (os : List OpenList) (o : OpenList) (front more : List Tree) → Ordered base os o.start
    → o.start ≡ base + length front → Begun base os o front more
begun-more base [] o front more ordered is =
    let exact : length front ≡ o.start - base = omega (arith, is) in
    record {
      lists = ap (λ ts. (record { at = o.at; before = ts }) ∷ []) (take_at front more (o.start - base) exact);
      items = drop_at front more (o.start - base) exact;
    }
begun-more base (p ∷ os) o front more ordered is =
    let n : ℕ = p.start - base in
    let within : n ≤ length front = omega (arith, is, ordered.0, Ordered-within p.start os o.start ordered.1) in
    let later : Begun p.start os o (drop n front) more = begun-more p.start os o (drop n front) more ordered.1
    (omega (arith, is, ordered.0, within, length-drop n front)) in
    record {
      lists = ap (λ ts. (record { at = p.at; before = ts }) ∷ opened p.start (os ++ o ∷ []) (drop n (front ++ more)))
          (take-append-le n front more within)
          ∙ ap (λ ts. (record { at = p.at; before = take n front }) ∷ opened p.start (os ++ o ∷ []) ts)
          (drop-append-le n front more within)
          ∙ ap (λ ps. (record { at = p.at; before = take n front }) ∷ ps) later.lists;
      items = ap (innermost p.start (os ++ o ∷ [])) (drop-append-le n front more within) ∙ later.items;
    }

length-opened : (base : ℕ) (os : List OpenList) (trees : List Tree) → length (opened base os trees) ≡ length os
length-opened base [] trees = refl
length-opened base (o ∷ os) trees = omega (arith, length-opened o.start os (drop (o.start - base) trees))

-- a reader whose trees, taken apart, are these
pub record Holds (r : Reader) (ps : List Opened) (items : List Tree) : Type 0 where
  pub lists : opened 0 r.lists.items r.trees.items ≡ ps
  pub last : innermost 0 r.lists.items r.trees.items ≡ items

pub seen-holds : (r : Reader) (ps : List Opened) (items : List Tree) → Holds r ps items → seen r ≡ seen_in ps items
seen-holds r ps items h =
    ap (λ qs. seen_in qs (innermost 0 r.lists.items r.trees.items)) h.lists ∙ ap (seen_in ps) h.last

pub to-Fits : (r : Reader) (ps : List Opened) (items : List Tree) → Holds r ps items → FitsIn 0 ps items → Fits r
to-Fits r ps items h fits =
    let P : List Opened → Type 0 = λ qs. FitsIn 0 qs (innermost 0 r.lists.items r.trees.items) in
    subst P (sym h.lists) (subst (FitsIn 0 ps) (sym h.last) fits)

pub from-Fits : (r : Reader) (ps : List Opened) (items : List Tree) → Holds r ps items → Fits r → FitsIn 0 ps items
from-Fits r ps items h fits =
    let P : List Opened → Type 0 = λ qs. FitsIn 0 qs (innermost 0 r.lists.items r.trees.items) in
    subst (FitsIn 0 ps) h.last (subst P h.lists fits)

pub Holds-is : (r : Reader) (os : List OpenList) (trees : List Tree) (ps : List Opened) (items : List Tree)
    → r.lists.items ≡ os → r.trees.items ≡ trees → opened 0 os trees ≡ ps → innermost 0 os trees ≡ items
    → Holds r ps items
Holds-is r os trees ps items l t o i = record {
  lists = ap (λ ls. opened 0 ls r.trees.items) l ∙ ap (opened 0 os) t ∙ o;
  last = ap (λ ls. innermost 0 ls r.trees.items) l ∙ ap (innermost 0 os) t ∙ i;
}

-- the last list starts within the trees
pub start-within : (r : Reader) (os : List OpenList) (o : OpenList) → IsOrdered r → r.lists.items ≡ os ++ o ∷ []
    → o.start ≤ length r.trees.items
start-within r os o ordered is =
    let W : List OpenList → Type 0 = λ ls. Ordered 0 ls (length r.trees.items) in
    (Ordered-front 0 os o (length r.trees.items) (subst W is ordered)).1

module _ (old new : Reader) (ordered : IsOrdered old) where
  pub took-open : (at : ℕ) → new.lists.items ≡ old.lists.items ++ (record { at = at; start = length old.trees.items })
      ∷ [] → new.trees.items ≡ old.trees.items → length old.lists.items < 256 → Took old new (opens at ∷ [])
  took-open at pushed same room =
      let os : List OpenList = old.lists.items in
      let trees : List Tree = old.trees.items in
      let o : OpenList = record { at = at; start = length trees } in
      let before : Opened = record { at = at; before = innermost 0 os trees } in
      let b : Begun 0 os o trees [] = begun-more 0 os o trees [] ordered (omega arith) in
      let none : trees ++ [] ≡ trees = append-nil trees in
      let h : Holds new (opened 0 os trees ++ before ∷ []) [] =
      Holds-is new (os ++ o ∷ []) trees (opened 0 os trees ++ before ∷ []) [] pushed same
      (ap (opened 0 (os ++ o ∷ [])) (sym none) ∙ b.lists) (ap (innermost 0 (os ++ o ∷ [])) (sym none) ∙ b.items) in
      record {
        tokens = seen-holds new _ [] h ∙ seen-open (opened 0 os trees) before [];
        fault = λ rest. rw (pushed, map-append) (fault-open (places old) at rest (rw length-map room));
        fits = λ fits. to-Fits new _ [] h
            (FitsIn-open 0 (opened 0 os trees) before fits (omega (arith, room, length-opened 0 os trees)));
        ordered = rw (pushed, same) (Ordered-push 0 os o ordered);
      }

  pub took-close : (os : List OpenList) (o : OpenList) (place : ℕ) → old.lists.items ≡ os ++ o ∷ [] → new.lists.items
      ≡ os → new.trees.items ≡ take o.start old.trees.items ++ view.List o.at (drop o.start old.trees.items) ∷ []
      → Took old new (closes place ∷ [])
  took-close os o place was is more =
      let trees : List Tree = old.trees.items in
      let front : List Tree = take o.start trees in
      let rest : List Tree = drop o.start trees in
      let list : Tree = view.List o.at rest in
      let W : List OpenList → Type 0 = λ ls. Ordered 0 ls (length trees) in
      let inside = Ordered-front 0 os o (length trees) (subst W was ordered) in
      let long : length front ≡ o.start = length-take-le o.start trees inside.1 in
      let N : ℕ → Type 0 = λ n. Ordered 0 os n in
      let before : Opened = record { at = o.at; before = innermost 0 os front } in
      let b : Begun 0 os o front rest = begun-more 0 os o front rest inside.0 (omega (arith, long)) in
      let whole : front ++ rest ≡ trees = take-append-drop o.start trees in
      let h : Holds old (opened 0 os front ++ before ∷ []) rest =
      Holds-is old (os ++ o ∷ []) trees (opened 0 os front ++ before ∷ []) rest was refl
      (ap (opened 0 (os ++ o ∷ [])) (sym whole) ∙ b.lists) (ap (innermost 0 (os ++ o ∷ [])) (sym whole) ∙ b.items) in
      let enough : o.start ≡ 0 + length front = omega (arith, long) in
      let a : Apart 0 os front (list ∷ []) = apart-more 0 os front (list ∷ []) (subst N enough inside.0) in
      let g : Holds new (opened 0 os front) (innermost 0 os front ++ list ∷ []) = Holds-is new os (front ++ list ∷ [])
      (opened 0 os front) (innermost 0 os front ++ list ∷ []) is more a.lists a.items in
      record {
        tokens = seen-holds new _ _ g ∙ seen-close (opened 0 os front) before rest
            ∙ ap (λ ts. ts ++ closes 0 ∷ []) (sym (seen-holds old _ rest h));
        fault = λ ts. rw (is, was, map-append) (fault-close (map (λ (p : OpenList). p.at) os) o.at place ts);
        fits = λ fits. to-Fits new _ _ g (FitsIn-close 0 (opened 0 os front) before rest (from-Fits old _ rest h fits));
        ordered = rw (is, more) (Ordered-more 0 os o.start (length (front ++ list ∷ []))
            (omega (arith, long, length_push front list)) inside.0);
      }

  pub took-push : (tree : Tree) (t : Token) → new.lists.items ≡ old.lists.items
      → new.trees.items ≡ old.trees.items ++ tree ∷ [] → IsWord tree t → Took old new (t ∷ [])
  took-push tree t same more word =
      let os : List OpenList = old.lists.items in
      let trees : List Tree = old.trees.items in
      let N : ℕ → Type 0 = λ n. Ordered 0 os n in
      let enough : length trees ≡ 0 + length trees = omega arith in
      let a : Apart 0 os trees (tree ∷ []) = apart-more 0 os trees (tree ∷ []) (subst N enough ordered) in
      let g : Holds new (opened 0 os trees) (innermost 0 os trees ++ tree ∷ []) = Holds-is new os (trees ++ tree ∷ [])
      (opened 0 os trees) (innermost 0 os trees ++ tree ∷ []) same more a.lists a.items in
      record {
        tokens = seen-holds new _ _ g ∙ seen-push (opened 0 os trees) (innermost 0 os trees) tree
            ∙ ap (λ ts. seen old ++ ts) word.token;
        fault = λ rest. rw same (word.passes (places old) rest);
        fits = λ fits. to-Fits new _ _ g (FitsIn-push 0 (opened 0 os trees) (innermost 0 os trees) tree word.flat fits);
        ordered = rw (same, more) (Ordered-more 0 os (length trees) (length (trees ++ tree ∷ []))
            (omega (arith, length_push trees tree)) ordered);
      }

pub word-name : (at : ℕ) (run : List ℕ) → is_name run ≡ true → IsWord (view.made-Name at run) (token_of_run at run)
word-name at run is = record {
  token = rw is (tokens-name at run);
  flat = height-name at run;
  passes = λ xs rest. rw is refl;
}

pub word-number : (at : ℕ) (run : List ℕ) (value : ℕ) → is_name run ≡ false → number_of run ≡ Some value
    → IsWord (view.made-Number at value) (token_of_run at run)
word-number at run value other is = record {
  token = rw (other, is) (tokens-number at value);
  flat = height-number at value;
  passes = λ xs rest. rw (other, is) refl;
}

pub word-refused : (at : ℕ) (run : List ℕ) → is_name run ≡ false → number_of run ≡ None
    → (xs : List ℕ) (rest : List Token) → fault_within xs (token_of_run at run ∷ rest) ≡ Some (BadNumber at)
word-refused at run other none xs rest = rw (other, none) refl
