-- A text has one layout, and it is the one that the reader finds.
use Rattle.std.proofs.Common.{◌≡◌, ℕ, ◌+◌, ◌≤◌, Bool, true, false, cond, ◌||◌, ◌==◌, List, [], ◌∷◌, ◌++◌}
use Rattle.std.proofs.Common.{length, take, drop, zero, suc, refl, sym, ap, ◌∙◌, arith, ⊎_elim, subst}
use Rattle.std.specs.List.{prefix_len, take_while, list_all}
use Rattle.std.proofs.lemmas.Bool.{cases_Bool, cond-true, cond-false, ne_eqb, and_parts}
use Rattle.std.proofs.lemmas.Bool.{or_parts, eqb-true, not-true, not_from_false, false≢true}
use Rattle.std.proofs.lemmas.List.{take-append-drop, length-drop}
use Rattle.br_base.specs.Name.{continues_name}
use Rattle.br_sexpr.specs.Layout.{Piece, blank, comment, opening, closing, run, stray, spelling}
use Rattle.br_sexpr.specs.Layout.{is_blank, stays_in_line, IsPiece, stops, EndsBefore, IsLayout}
use Rattle.br_sexpr.specs.Progress.{Within, outside, in_comment, in_run, goes_on, begun, within, pieces}
use Rattle.br_sexpr.proofs.Cutting.{pieces-skip, none-behind}

-- the bytes that pass a test, up to the first that does not
prefix_len-while : (p : ℕ → Bool) (xs ys : List ℕ) → list_all p xs ≡ true → stops p ys ≡ true
    → prefix_len p (xs ++ ys) ≡ length xs
prefix_len-while p [] [] all stop = refl
prefix_len-while p [] (y ∷ ys) all stop = cond-false _ _ _ (not-true (p y) stop)
prefix_len-while p (x ∷ xs) ys all stop =
    let both = and_parts (p x) (list_all p xs) all in
    cond-true _ _ _ both.0 ∙ omega (arith, prefix_len-while p xs ys both.1 stop)

take_front : (xs ys : List ℕ) → take (length xs) (xs ++ ys) ≡ xs
take_front [] ys = refl
take_front (x ∷ xs) ys = ap (λ zs. x ∷ zs) (take_front xs ys)

drop_front : (xs ys : List ℕ) → drop (length xs) (xs ++ ys) ≡ ys
drop_front [] ys = refl
drop_front (x ∷ xs) ys = drop_front xs ys

take_while-while : (p : ℕ → Bool) (xs ys : List ℕ) → list_all p xs ≡ true → stops p ys ≡ true
    → take_while p (xs ++ ys) ≡ xs
take_while-while p xs ys all stop = ap (λ n. take n (xs ++ ys)) (prefix_len-while p xs ys all stop) ∙ take_front xs ys

drop-while : (p : ℕ → Bool) (xs ys : List ℕ) → list_all p xs ≡ true → stops p ys ≡ true
    → drop (prefix_len p (xs ++ ys)) (xs ++ ys) ≡ ys
drop-while p xs ys all stop = ap (λ n. drop n (xs ++ ys)) (prefix_len-while p xs ys all stop) ∙ drop_front xs ys

-- what a byte of a run is not
record IsPlain (b : ℕ) : Type 0 where
  black : is_blank b ≡ false
  code : (b == 59) ≡ false
  other : (b == 40) ≡ false
  last : (b == 41) ≡ false

not_of : (b n : ℕ) → continues_name n ≡ false → continues_name b ≡ true → (b == n) ≡ false
not_of b n not_n is = ne_eqb b n (λ same. false≢true (sym not_n ∙ ap continues_name (sym same) ∙ is))

or_false : (x y : Bool) → x ≡ false → y ≡ false → (x || y) ≡ false
or_false x y e f = rw (e, f) refl

IsPlain-name : (b : ℕ) → continues_name b ≡ true → IsPlain b
IsPlain-name b is = record {
  black = or_false _ _ (or_false _ _ (or_false _ _ (not_of b 32 refl is) (not_of b 9 refl is)) (not_of b 10 refl is))
      (not_of b 13 refl is);
  code = not_of b 59 refl is;
  other = not_of b 40 refl is;
  last = not_of b 41 refl is;
}

pieces-front : (b : ℕ) (bs rest : List ℕ) (p : Piece) (w : Within) → begun b bs ≡ p → within b ≡ w
    → drop (prefix_len (goes_on w) bs) bs ≡ rest → pieces outside (b ∷ bs) ≡ p ∷ pieces outside rest
pieces-front b bs rest p w piece goes behind =
    ap (λ q. q ∷ pieces (within b) bs) piece ∙ ap (λ v. p ∷ pieces v bs) goes
    ∙ ap (λ ps. p ∷ ps) (pieces-skip w bs ∙ ap (pieces outside) behind)

all-behind : (bs : List ℕ) → drop (prefix_len (goes_on outside) bs) bs ≡ bs
all-behind bs = ap (λ n. drop n bs) (none-behind bs)

-- a piece at the front of a text that ends where it may is cut off as it is
pub pieces-piece : (p : Piece) (rest : List ℕ) → IsPiece p → EndsBefore p rest
    → pieces outside (spelling p ++ rest) ≡ p ∷ pieces outside rest
pieces-piece (blank b) rest is ends =
    pieces-front b rest rest (blank b) outside (cond-true _ _ _ is) (cond-true _ _ _ is) (all-behind rest)
pieces-piece (comment cs) rest is ends = pieces-front 59 (cs ++ rest) rest (comment cs) in_comment
    (ap comment (take_while-while stays_in_line cs rest is ends)) refl (drop-while stays_in_line cs rest is ends)
pieces-piece opening rest is ends = pieces-front 40 rest rest opening outside refl refl (all-behind rest)
pieces-piece closing rest is ends = pieces-front 41 rest rest closing outside refl refl (all-behind rest)
pieces-piece (run []) rest is ends = absurd (omega (arith, is.0))
pieces-piece (run (b ∷ bs)) rest is ends =
    let all = and_parts (continues_name b) (list_all continues_name bs) is.1 in
    let plain : IsPlain b = IsPlain-name b all.0 in
    pieces-front b (bs ++ rest) rest (run (b ∷ bs)) in_run
    (cond-false _ _ _ plain.black ∙ cond-false _ _ _ plain.code ∙ cond-false _ _ _ plain.other
    ∙ cond-false _ _ _ plain.last ∙ cond-true _ _ _ all.0
    ∙ ap (λ cs. run (b ∷ cs)) (take_while-while continues_name bs rest all.1 ends))
    (cond-false _ _ _ plain.black ∙ cond-false _ _ _ plain.code ∙ cond-false _ _ _ plain.other
    ∙ cond-false _ _ _ plain.last ∙ cond-true _ _ _ all.0)
    (drop-while continues_name bs rest all.1 ends)
pieces-piece (stray b) rest is ends =
    let five = or_parts _ (continues_name b) (not-true _ is) in
    let four = or_parts _ (b == 41) five.0 in
    let three = or_parts _ (b == 40) four.0 in
    let two = or_parts (is_blank b) (b == 59) three.0 in
    pieces-front b rest rest (stray b) outside
    (cond-false _ _ _ two.0 ∙ cond-false _ _ _ two.1 ∙ cond-false _ _ _ three.1 ∙ cond-false _ _ _ four.1
    ∙ cond-false _ _ _ five.1)
    (cond-false _ _ _ two.0 ∙ cond-false _ _ _ two.1 ∙ cond-false _ _ _ three.1 ∙ cond-false _ _ _ four.1
    ∙ cond-false _ _ _ five.1)
    (all-behind rest)

-- a text has no other layout
pub layout-is : (ps : List Piece) (text : List ℕ) → IsLayout ps text → ps ≡ pieces outside text
layout-is [] text is = ap (pieces outside) (sym is)
layout-is (p ∷ ps) text (rest, is, piece, ends, more) =
    ap (λ qs. p ∷ qs) (layout-is ps rest more) ∙ sym (pieces-piece p rest piece ends) ∙ ap (pieces outside) (sym is)

list_all-while : (p : ℕ → Bool) (bs : List ℕ) → list_all p (take_while p bs) ≡ true
list_all-while p [] = refl
list_all-while p (b ∷ bs) =
    let P : Bool → Type 0 = λ t. list_all p (take (cond t (1 + prefix_len p bs) 0) (b ∷ bs)) ≡ true in
    let more : 1 + prefix_len p bs ≡ suc (prefix_len p bs) = omega arith in
    ⊎_elim
    (λ passes. subst P (sym passes) (rw (more, passes) (list_all-while p bs)))
    (λ fails. subst P (sym fails) refl)
    (cases_Bool (p b))

stops-while : (p : ℕ → Bool) (bs : List ℕ) → stops p (drop (prefix_len p bs) bs) ≡ true
stops-while p [] = refl
stops-while p (b ∷ bs) =
    let P : Bool → Type 0 = λ t. stops p (drop (cond t (1 + prefix_len p bs) 0) (b ∷ bs)) ≡ true in
    let more : 1 + prefix_len p bs ≡ suc (prefix_len p bs) = omega arith in
    ⊎_elim
    (λ passes. subst P (sym passes) (rw more (stops-while p bs)))
    (λ fails. subst P (sym fails) (rw fails refl))
    (cases_Bool (p b))

-- a text begins with the piece that its first byte begins
record Begins (b : ℕ) (bs : List ℕ) (p : Piece) (w : Within) : Type 0 where
  spells : b ∷ bs ≡ spelling p ++ drop (prefix_len (goes_on w) bs) bs
  piece : IsPiece p
  ends : EndsBefore p (drop (prefix_len (goes_on w) bs) bs)

Begins-run : (b : ℕ) (bs : List ℕ) → continues_name b ≡ true
    → Begins b bs (run (b ∷ take_while continues_name bs)) in_run
Begins-run b bs is = record {
  spells = ap (λ cs. b ∷ cs) (sym (take-append-drop (prefix_len continues_name bs) bs));
  piece = (omega arith, rw is (list_all-while continues_name bs));
  ends = stops-while continues_name bs;
}

Begins-comment : (bs : List ℕ) → Begins 59 bs (comment (take_while stays_in_line bs)) in_comment
Begins-comment bs = record {
  spells = ap (λ cs. 59 ∷ cs) (sym (take-append-drop (prefix_len stays_in_line bs) bs));
  piece = list_all-while stays_in_line bs;
  ends = stops-while stays_in_line bs;
}

Begins-alone : (b : ℕ) (bs : List ℕ) (p : Piece) → spelling p ≡ b ∷ [] → IsPiece p
    → ((rest : List ℕ) → EndsBefore p rest) → Begins b bs p outside
Begins-alone b bs p spells piece ends = record {
  spells =
      ap (λ cs. b ∷ cs) (sym (all-behind bs)) ∙ ap (λ cs. cs ++ drop (prefix_len (goes_on outside) bs) bs) (sym spells);
  piece = piece;
  ends = ends _;
}

Begins-at : (b : ℕ) (bs : List ℕ) (p : Piece) (w : Within) → begun b bs ≡ p → within b ≡ w → Begins b bs p w
    → Begins b bs (begun b bs) (within b)
Begins-at b bs p w piece goes is =
    let P : Piece → Type 0 = λ q. Begins b bs q (within b) in
    subst P (sym piece) (subst (Begins b bs p) (sym goes) is)

begun-begins : (b : ℕ) (bs : List ℕ) → Begins b bs (begun b bs) (within b)
begun-begins b bs = ⊎_elim
    (λ is. Begins-at b bs (blank b) outside (cond-true _ _ _ is) (cond-true _ _ _ is)
    (Begins-alone b bs (blank b) refl is (λ _. tt)))
    (λ black. ⊎_elim
    (λ is. Begins-at b bs (comment (take_while stays_in_line bs)) in_comment
    (cond-false _ _ _ black ∙ cond-true _ _ _ is) (cond-false _ _ _ black ∙ cond-true _ _ _ is)
    (let P : ℕ → Type 0 = λ c. Begins c bs (comment (take_while stays_in_line bs)) in_comment in
    subst P (sym (eqb-true b 59 is)) (Begins-comment bs)))
    (λ code. ⊎_elim
    (λ is. Begins-at b bs opening outside (cond-false _ _ _ black ∙ cond-false _ _ _ code ∙ cond-true _ _ _ is)
    (cond-false _ _ _ black ∙ cond-false _ _ _ code ∙ cond-true _ _ _ is)
    (Begins-alone b bs opening (ap (λ c. c ∷ []) (sym (eqb-true b 40 is))) tt (λ _. tt)))
    (λ other. ⊎_elim
    (λ is. Begins-at b bs
    closing outside (cond-false _ _ _ black ∙ cond-false _ _ _ code ∙ cond-false _ _ _ other ∙ cond-true _ _ _ is)
    (cond-false _ _ _ black ∙ cond-false _ _ _ code ∙ cond-false _ _ _ other ∙ cond-true _ _ _ is)
    (Begins-alone b bs closing (ap (λ c. c ∷ []) (sym (eqb-true b 41 is))) tt (λ _. tt)))
    (λ last. ⊎_elim
    (λ is. Begins-at b bs (run (b ∷ take_while continues_name bs)) in_run
    (cond-false _ _ _ black ∙ cond-false _ _ _ code ∙ cond-false _ _ _ other ∙ cond-false _ _ _ last
    ∙ cond-true _ _ _ is)
    (cond-false _ _ _ black ∙ cond-false _ _ _ code ∙ cond-false _ _ _ other ∙ cond-false _ _ _ last
    ∙ cond-true _ _ _ is) (Begins-run b bs is))
    (λ is. Begins-at b bs (stray b) outside
    (cond-false _ _ _ black ∙ cond-false _ _ _ code ∙ cond-false _ _ _ other ∙ cond-false _ _ _ last
    ∙ cond-false _ _ _ is)
    (cond-false _ _ _ black ∙ cond-false _ _ _ code ∙ cond-false _ _ _ other ∙ cond-false _ _ _ last
    ∙ cond-false _ _ _ is)
    (Begins-alone b bs (stray b) refl (not_from_false _
    (or_false _ _ (or_false _ _ (or_false _ _ (or_false _ _ black code) other) last) is)) (λ _. tt)))
    (cases_Bool (continues_name b)))
    (cases_Bool (b == 41)))
    (cases_Bool (b == 40)))
    (cases_Bool (b == 59)))
    (cases_Bool (is_blank b))

layout-up_to : (n : ℕ) (text : List ℕ) → length text ≤ n → IsLayout (pieces outside text) text
layout-up_to n [] short = refl
layout-up_to zero (b ∷ bs) short = absurd (omega (arith, short))
layout-up_to (suc n) (b ∷ bs) short =
    let begins : Begins b bs (begun b bs) (within b) = begun-begins b bs in
    let rest : List ℕ = drop (prefix_len (goes_on (within b)) bs) bs in
    let P : List Piece → Type 0 = λ ps. IsLayout (begun b bs ∷ ps) (b ∷ bs) in
    subst P (sym (pieces-skip (within b) bs)) (
      rest,
      begins.spells,
      begins.piece,
      begins.ends,
      layout-up_to n rest (omega (arith, short, length-drop (prefix_len (goes_on (within b)) bs) bs)),
    )

-- each text has a layout
pub layout : (text : List ℕ) → IsLayout (pieces outside text) text
layout text = layout-up_to (length text) text (omega arith)
