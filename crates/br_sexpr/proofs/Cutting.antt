-- The tokens of a text, piece by piece.
use Rattle.std.proofs.Common.{◌≡◌, ℕ, ◌+◌, Bool, true, false, cond, List, [], ◌∷◌, ◌++◌, length}
use Rattle.std.proofs.Common.{take, drop, suc, refl, sym, ap, ◌∙◌, arith, ⊎_elim, subst}
use Rattle.std.specs.List.{prefix_len, take_while}
use Rattle.std.proofs.lemmas.Bool.{cases_Bool, cond-true, cond-false, eq-eqb, ne_eqb}
use Rattle.std.proofs.lemmas.List.{length-take-le}
use Rattle.std.proofs.lemmas.List.Sums.{prefix_len-le-length}
use Rattle.br_base.specs.Name.{continues_name}
use Rattle.br_sexpr.specs.Layout.{Piece, blank, comment, opening, closing, run}
use Rattle.br_sexpr.specs.Layout.{stray, spelling, is_blank, stays_in_line}
use Rattle.br_sexpr.specs.Token.{opens, closes, strays, token_of_run, tokens_at, tokens_of}
use Rattle.br_sexpr.specs.declared.piece.Kind.{Kind}
use Rattle.br_sexpr.specs.Progress.{Within, outside, in_comment, in_run, goes_on}
use Rattle.br_sexpr.specs.Progress.{begun, within, pieces, tokens_from, token_as}

-- what goes on after a piece that has begun is no piece of its own
pub pieces-skip : (w : Within) (bs : List ℕ) → pieces w bs ≡ pieces outside (drop (prefix_len (goes_on w) bs) bs)
pieces-skip w [] = refl
pieces-skip w (b ∷ bs) =
    let n : ℕ = prefix_len (goes_on w) bs in
    let P : Bool → Type 0 = λ g. cond g [] (begun b bs ∷ []) ++ pieces (cond g w (within b)) bs
    ≡ pieces outside (drop (cond g (1 + n) 0) (b ∷ bs)) in
    let more : 1 + n ≡ suc n = omega arith in
    ⊎_elim
    (λ yes. subst P (sym yes) (rw more (pieces-skip w bs)))
    (λ other. subst P (sym other) refl)
    (cases_Bool (goes_on w b))

tokens-front : (place b : ℕ) (bs : List ℕ) → tokens_from place (b ∷ bs) ≡ tokens_at place (begun b bs)
    ++ tokens_from (place + length (spelling (begun b bs))) (drop (prefix_len (goes_on (within b)) bs) bs)
unfolding tokens_from
tokens-front place b bs = ap (λ ps. tokens_at place (begun b bs)
    ++ tokens_of (place + length (spelling (begun b bs))) ps) (pieces-skip (within b) bs)

-- the same with what the first byte begins
tokens-cut : (place b : ℕ) (bs : List ℕ) (p : Piece) (w : Within) (len n : ℕ)
    → begun b bs ≡ p → within b ≡ w → length (spelling p) ≡ len → prefix_len (goes_on w) bs ≡ n
    → tokens_from place (b ∷ bs) ≡ tokens_at place p ++ tokens_from (place + len) (drop n bs)
tokens-cut place b bs p w len n piece goes long behind = tokens-front place b bs ∙ rw (piece, goes, long, behind) refl

pub none-behind : (bs : List ℕ) → prefix_len (goes_on outside) bs ≡ 0
none-behind [] = refl
none-behind (b ∷ bs) = refl

length-while : (p : ℕ → Bool) (bs : List ℕ) → length (take_while p bs) ≡ prefix_len p bs
length-while p bs = length-take-le (prefix_len p bs) bs (prefix_len-le-length p bs)

module _ (place b : ℕ) (bs : List ℕ) where
  pub cut-blank : is_blank b ≡ true → tokens_from place (b ∷ bs) ≡ tokens_from (place + 1) bs
  cut-blank is =
      tokens-cut place b bs (blank b) outside 1 0 (cond-true _ _ _ is) (cond-true _ _ _ is) refl (none-behind bs)

  module _ (black : is_blank b ≡ false) where
    pub cut-comment : (n : ℕ) → b ≡ 59 → n ≡ prefix_len stays_in_line bs
        → tokens_from place (b ∷ bs) ≡ tokens_from (place + (1 + n)) (drop n bs)
    cut-comment n is len =
        tokens-cut place b bs (comment (take_while stays_in_line bs)) in_comment (1 + n) n
        (cond-false _ _ _ black ∙ cond-true _ _ _ (eq-eqb b 59 is))
        (cond-false _ _ _ black ∙ cond-true _ _ _ (eq-eqb b 59 is))
        (omega (arith, length-while stays_in_line bs)) (sym len)

    module _ (code : b ≡ 59 → ⊥) where
      pub cut-open : b ≡ 40 → tokens_from place (b ∷ bs) ≡ opens place ∷ tokens_from (place + 1) bs
      cut-open is =
          tokens-cut place b bs opening outside 1 0
          (cond-false _ _ _ black ∙ cond-false _ _ _ (ne_eqb b 59 code) ∙ cond-true _ _ _ (eq-eqb b 40 is))
          (cond-false _ _ _ black ∙ cond-false _ _ _ (ne_eqb b 59 code) ∙ cond-true _ _ _ (eq-eqb b 40 is)) refl
          (none-behind bs)

      module _ (other : b ≡ 40 → ⊥) where
        pub cut-close : b ≡ 41 → tokens_from place (b ∷ bs) ≡ closes place ∷ tokens_from (place + 1) bs
        cut-close is =
            tokens-cut place b bs closing outside 1 0
            (cond-false _ _ _ black ∙ cond-false _ _ _ (ne_eqb b 59 code) ∙ cond-false _ _ _ (ne_eqb b 40 other)
            ∙ cond-true _ _ _ (eq-eqb b 41 is))
            (cond-false _ _ _ black ∙ cond-false _ _ _ (ne_eqb b 59 code) ∙ cond-false _ _ _ (ne_eqb b 40 other)
            ∙ cond-true _ _ _ (eq-eqb b 41 is)) refl (none-behind bs)

        module _ (last : b ≡ 41 → ⊥) where
          pub cut-run : (n : ℕ) → continues_name b ≡ true → n ≡ prefix_len continues_name bs → tokens_from place (b
              ∷ bs) ≡ token_of_run place (b ∷ take n bs) ∷ tokens_from (place + (1 + n)) (drop n bs)
          cut-run n is len =
              tokens-cut place b bs (run (b ∷ take_while continues_name bs)) in_run (1 + n) n
              (cond-false _ _ _ black ∙ cond-false _ _ _ (ne_eqb b 59 code) ∙ cond-false _ _ _ (ne_eqb b 40 other)
              ∙ cond-false _ _ _ (ne_eqb b 41 last) ∙ cond-true _ _ _ is)
              (cond-false _ _ _ black ∙ cond-false _ _ _ (ne_eqb b 59 code) ∙ cond-false _ _ _ (ne_eqb b 40 other)
              ∙ cond-false _ _ _ (ne_eqb b 41 last) ∙ cond-true _ _ _ is)
              (omega (arith, length-while continues_name bs)) (sym len)
              ∙ ap (λ m. token_of_run place (b ∷ take m bs) ∷ tokens_from (place + (1 + n)) (drop n bs)) (sym len)

          pub cut-stray : continues_name b ≡ false
              → tokens_from place (b ∷ bs) ≡ strays place ∷ tokens_from (place + 1) bs
          cut-stray is =
              tokens-cut place b bs (stray b) outside 1 0
              (cond-false _ _ _ black ∙ cond-false _ _ _ (ne_eqb b 59 code) ∙ cond-false _ _ _ (ne_eqb b 40 other)
              ∙ cond-false _ _ _ (ne_eqb b 41 last) ∙ cond-false _ _ _ is)
              (cond-false _ _ _ black ∙ cond-false _ _ _ (ne_eqb b 59 code) ∙ cond-false _ _ _ (ne_eqb b 40 other)
              ∙ cond-false _ _ _ (ne_eqb b 41 last) ∙ cond-false _ _ _ is) refl (none-behind bs)

-- a text that begins with b, cut after it
pub cut-whole : (place : ℕ) (text : List ℕ) (b : ℕ) (bs : List ℕ) (k : Kind) (n : ℕ) → text ≡ b ∷ bs
    → tokens_from place (b ∷ bs) ≡ token_as place k (b ∷ take n bs) ++ tokens_from (place + (1 + n)) (drop n bs)
    → tokens_from place text ≡ token_as place k (take (1 + n) text) ++ tokens_from (place + (1 + n)) (drop (1 + n) text)
cut-whole place text b bs k n is cut =
    let P : ℕ → Type 0 = λ m. tokens_from place (b ∷ bs)
    ≡ token_as place k (take m (b ∷ bs)) ++ tokens_from (place + (1 + n)) (drop m (b ∷ bs)) in
    let more : 1 + n ≡ suc n = omega arith in
    rw is (subst P (sym more) cut)
