-- What lies between tokens, and that their offsets ascend.
use Rattle.std.proofs.Common.{◌≡◌, ℕ, ◌+◌, ◌≤◌, Bool, true, List, [], ◌∷◌, ◌++◌, length, zero, suc, Option, Some, None}
use Rattle.std.proofs.Common.{refl, sym, ap, ◌∙◌, subst, arith, append_assoc, ◌⊎◌, ⊎_elim, inl, inr, slice_get, nat_le}
use Rattle.std.proofs.lemmas.Option.{none-some, same_Some, slice_get_within}
use Rattle.std.proofs.lemmas.List.{length-append}
use Rattle.std.proofs.lemmas.Bool.{cases_Bool, cases_lt, cond_both, cond-true, cond-false}
use Rattle.br_sexpr.specs.declared.tree.TextFault.{TextFault}
use Rattle.br_sexpr.specs.declared.tree.TextFault.TheVariants.{BadByte, BadNumber, ExtraClose, TooDeep}
use Rattle.br_base.specs.Name.{is_name, continues_name}
use Rattle.br_sexpr.specs.Number.{number_of}
use Rattle.br_sexpr.specs.Layout.{Piece, blank, comment, opening, closing, run, stray, spelling}
use Rattle.br_sexpr.specs.Layout.{stays_in_line, IsPiece, stops, EndsBefore, IsLayout}
use Rattle.br_sexpr.specs.Token.{Token, opens, closes, names, numbers, misspells, strays}
use Rattle.br_sexpr.specs.Token.{number_token, token_of_run, tokens_at, tokens_of}
use Rattle.br_sexpr.specs.Between.{is_gap, Alternates, offset_of}
use Rattle.br_sexpr.specs.Faults.{wrong_where, wrong_close, wrong_at, IsFault}
use Rattle.br_sexpr.specs.Reads.{HasFault}
use Rattle.br_sexpr.proofs.Layouts.{layout-is}

stops-front : (p : ℕ → Bool) (xs ys : List ℕ) → stops p (xs ++ ys) ≡ true → stops p xs ≡ true
stops-front p [] ys stop = refl
stops-front p (x ∷ xs) ys stop = stop

ends-front : (p : Piece) (xs ys : List ℕ) → EndsBefore p (xs ++ ys) → EndsBefore p xs
ends-front (blank b) xs ys ends = tt
ends-front (comment cs) xs ys ends = stops-front stays_in_line xs ys ends
ends-front opening xs ys ends = tt
ends-front closing xs ys ends = tt
ends-front (run bs) xs ys ends = stops-front continues_name xs ys ends
ends-front (stray b) xs ys ends = tt

-- one more blank or comment in front
gap-more : (p : Piece) (at : ℕ) (rest : List ℕ) (ts : List Token) → is_gap p ≡ true → IsPiece p → EndsBefore p rest
    → Alternates (at + length (spelling p)) rest ts → Alternates at (spelling p ++ rest) ts
gap-more p at rest [] gap piece ends (ps, all, layout) = (p ∷ ps, rw gap all, (rest, refl, piece, ends, layout))
gap-more p at rest (t ∷ ts) gap piece ends (bytes, q, more, is, (ps, all, layout), token, others) =
    let P : ℕ → Type 0 = λ n. tokens_at n q ≡ t ∷ [] in
    let Q : ℕ → Type 0 = λ n. Alternates (n + length (spelling q)) more ts in
    let moved : at + length (spelling p) + length bytes ≡ at + length (spelling p ++ bytes) =
    omega (arith, length-append (spelling p) bytes) in
    let E : List ℕ → Type 0 = λ xs. EndsBefore p xs in (
      spelling p ++ bytes,
      q,
      more,
      ap (λ xs. spelling p ++ xs) is ∙ sym (append_assoc (spelling p) bytes (spelling q ++ more)),
      (p ∷ ps, rw gap all, (bytes, refl, piece, ends-front p bytes (spelling q ++ more) (subst E is ends), layout)),
      subst P moved token,
      subst Q moved others,
    )

-- a token in front
token-more : (p : Piece) (at : ℕ) (rest : List ℕ) (t : Token) (ts : List Token) → tokens_at at p ≡ t ∷ []
    → Alternates (at + length (spelling p)) rest ts → Alternates at (spelling p ++ rest) (t ∷ ts)
token-more p at rest t ts token others =
    let P : ℕ → Type 0 = λ n. tokens_at n p ≡ t ∷ [] in
    let Q : ℕ → Type 0 = λ n. Alternates (n + length (spelling p)) rest ts in
    let same : at ≡ at + 0 = omega arith in
    ([], p, rest, refl, ([], refl, refl), subst P same token, subst Q same others)

alternates-piece : (p : Piece) (at : ℕ) (rest : List ℕ) (ts : List Token) → IsPiece p → EndsBefore p rest
    → Alternates (at + length (spelling p)) rest ts → Alternates at (spelling p ++ rest) (tokens_at at p ++ ts)
alternates-piece (blank b) at rest ts piece ends more = gap-more (blank b) at rest ts refl piece ends more
alternates-piece (comment cs) at rest ts piece ends more = gap-more (comment cs) at rest ts refl piece ends more
alternates-piece opening at rest ts piece ends more = token-more opening at rest (opens at) ts refl more
alternates-piece closing at rest ts piece ends more = token-more closing at rest (closes at) ts refl more
alternates-piece (run bs) at rest ts piece ends more = token-more (run bs) at rest (token_of_run at bs) ts refl more
alternates-piece (stray b) at rest ts piece ends more = token-more (stray b) at rest (strays at) ts refl more

pub alternates : (text : List ℕ) (ps : List Piece) (at : ℕ) → IsLayout ps text → Alternates at text (tokens_of at ps)
alternates text [] at is = ([], refl, is)
alternates text (p ∷ ps) at (rest, is, piece, ends, more) =
    let P : List ℕ → Type 0 = λ bs. Alternates at bs (tokens_of at (p ∷ ps)) in
    subst P (sym is) (alternates-piece p at rest (tokens_of (at + length (spelling p)) ps) piece ends
    (alternates rest ps (at + length (spelling p)) more))

place_of : Token → ℕ
place_of (opens at) = at
place_of (closes at) = at
place_of (names at bytes) = at
place_of (numbers at n) = at
place_of (misspells at) = at
place_of (strays at) = at

place-number : (at : ℕ) (o : Option ℕ) → place_of (number_token at o) ≡ at
unfolding place_of
place-number at None = refl
place-number at (Some n) = refl

place-run : (at : ℕ) (bs : List ℕ) → place_of (token_of_run at bs) ≡ at
unfolding place_of
place-run at bs = cond_both (is_name bs) (names at bs) (number_token at (number_of bs)) (λ t. place_of t ≡ at)
    (λ _. refl) (λ _. place-number at (number_of bs))

-- a piece is a token that stands where the piece does, or none
one-token : (p : Piece) (at : ℕ) → (tokens_at at p ≡ []) ⊎ ((t : Token) × (tokens_at at p ≡ t ∷ []) × (place_of t ≡ at))
unfolding place_of
one-token (blank b) at = inl refl
one-token (comment cs) at = inl refl
one-token opening at = inr (opens at, refl, refl)
one-token closing at = inr (closes at, refl, refl)
one-token (run bs) at = inr (token_of_run at bs, refl, place-run at bs)
one-token (stray b) at = inr (strays at, refl, refl)

-- tokens that stand at or after an offset
abbrev StandFrom : ℕ → List Token → Type 0
StandFrom at ts = (k : ℕ) (t : Token) → slice_get ts k ≡ Some t → at ≤ place_of t

-- tokens in the order of their offsets
abbrev Ascend : List Token → Type 0
Ascend ts = (j k : ℕ) (t u : Token) → j ≤ k → slice_get ts j ≡ Some t → slice_get ts k ≡ Some u
    → place_of t ≤ place_of u

stand-more : (at : ℕ) (first : Token) (ts : List Token) → place_of first ≡ at → StandFrom at ts
    → StandFrom at (first ∷ ts)
stand-more at first ts is later zero t there =
    let same : place_of first ≡ place_of t = ap place_of (same_Some first t there) in omega arith
stand-more at first ts is later (suc k) t there = later k t there

ascend-more : (at : ℕ) (first : Token) (ts : List Token) → place_of first ≡ at → StandFrom at ts → Ascend ts
    → Ascend (first ∷ ts)
ascend-more at first ts is later order zero k t u below there then =
    let same : place_of first ≡ place_of t = ap place_of (same_Some first t there) in
    let bound : at ≤ place_of u = stand-more at first ts is later k u then in
    omega arith
ascend-more at first ts is later order (suc j) zero t u below there then = absurd (omega (arith, below))
ascend-more at first ts is later order (suc j) (suc k) t u below there then = order j k t u (omega arith) there then

-- the tokens of a text stand at or after its first byte, in order
in-order : (ps : List Piece) (at : ℕ) → StandFrom at (tokens_of at ps) × Ascend (tokens_of at ps)
in-order [] at = (λ k t there. absurd (none-some t there), λ j k t u below there then. absurd (none-some t there))
in-order (p ∷ ps) at =
    let later : ℕ = at + length (spelling p) in
    let rest : List Token = tokens_of later ps in
    let more = in-order ps later in
    let near : StandFrom at rest = λ k t there. (let far : later ≤ place_of t = more.0 k t there in omega arith) in
    let P : List Token → Type 0 = λ ts. StandFrom at (ts ++ rest) × Ascend (ts ++ rest) in
    ⊎_elim
    (λ none. subst P (sym none) (near, more.1))
    (λ one. subst P (sym one.1) (stand-more at one.0 rest one.2 near, ascend-more at one.0 rest one.2 near more.1))
    (one-token p at)

wrong_close-place : (xs : List ℕ) (at : ℕ) (g : TextFault) → wrong_close xs at ≡ Some g → offset_of g ≡ at
wrong_close-place [] at g is = ap offset_of (sym (same_Some (ExtraClose at) g is))
wrong_close-place (x ∷ xs) at g is = absurd (none-some g is)

wrong-place : (xs : List ℕ) (t : Token) (g : TextFault) → wrong_where xs t ≡ Some g → offset_of g ≡ place_of t
unfolding place_of
wrong-place xs (opens at) g is = ⊎_elim
    (λ deep. ap offset_of (sym (same_Some (TooDeep at) g (sym (cond-true _ _ _ deep) ∙ is))))
    (λ flat. absurd (none-some g (sym (cond-false _ _ _ flat) ∙ is)))
    (cases_Bool (nat_le 256 (length xs)))
wrong-place xs (closes at) g is = wrong_close-place xs at g is
wrong-place xs (names at bytes) g is = absurd (none-some g is)
wrong-place xs (numbers at n) g is = absurd (none-some g is)
wrong-place xs (misspells at) g is = ap offset_of (sym (same_Some (BadNumber at) g is))
wrong-place xs (strays at) g is = ap offset_of (sym (same_Some (BadByte at) g is))

-- the first token that is wrong stands before every other
first-lowest : (ts : List Token) (f : TextFault) → Ascend ts → IsFault ts f → (k : ℕ) (t : Token) (g : TextFault)
    → slice_get ts k ≡ Some t → wrong_at ts k t ≡ Some g → offset_of f ≤ offset_of g
first-lowest ts f order is k t g there wrong = ⊎_elim
    (λ w. ⊎_elim
    (λ before. absurd (none-some g (sym (w.first k t before there) ∙ wrong)))
    (λ behind.
    let low : place_of w.token ≤ place_of t = order w.place k w.token t behind w.there there in
    let e : offset_of f ≡ place_of w.token = wrong-place _ w.token f w.wrong in
    let d : offset_of g ≡ place_of t = wrong-place _ t g wrong in
    omega arith)
    (cases_lt k w.place))
    (λ right. absurd (none-some g (sym (right.0 k t (slice_get_within ts k t there) there) ∙ wrong)))
    is

pub lowest : (text : List ℕ) (f : TextFault) → HasFault text f
    → (ps : List Piece) → IsLayout ps text → (k : ℕ) (t : Token) (g : TextFault) → slice_get (tokens_of 0 ps) k ≡ Some t
    → wrong_at (tokens_of 0 ps) k t ≡ Some g → offset_of f ≤ offset_of g
lowest text f wrong ps is =
    let same : wrong.pieces ≡ ps = layout-is wrong.pieces text wrong.layout ∙ sym (layout-is ps text is) in
    let P : List Piece → Type 0 = λ qs. IsFault (tokens_of 0 qs) f in
    first-lowest (tokens_of 0 ps) f (in-order ps 0).1 (subst P same wrong.fault)
