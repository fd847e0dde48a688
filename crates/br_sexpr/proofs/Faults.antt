-- The fault that is found from token to token is the fault of the tokens.
use Rattle.std.proofs.Common.{◌≡◌, ℕ, ◌<◌, List, [], ◌∷◌, length, take, zero, suc, Option, Some}
use Rattle.std.proofs.Common.{None, refl, sym, ap, ◌∙◌, arith, ◌⊎◌, ⊎_elim, inl, inr, slice_get}
use Rattle.std.proofs.lemmas.Option.{same_Some, none-some}
use Rattle.br_sexpr.specs.declared.tree.TextFault.{TextFault}
use Rattle.br_sexpr.specs.Token.{Token, opens, closes, names, numbers, misspells, strays}
use Rattle.br_sexpr.specs.Faults.{open_behind, wrong_where, unclosed, IsFault}
use Rattle.br_sexpr.specs.Progress.{or_else, fault_within}

cases_fault : (o : Option TextFault) → (o ≡ None) ⊎ ((f : TextFault) × (o ≡ Some f))
cases_fault None = inl refl
cases_fault (Some f) = inr (f, refl)

behind-cons : (xs : List ℕ) (t : Token) (ts : List Token)
    → open_behind xs (t ∷ ts) ≡ open_behind (open_behind xs (t ∷ [])) ts
behind-cons xs (opens at) ts = refl
behind-cons xs (closes at) ts = refl
behind-cons xs (names at bytes) ts = refl
behind-cons xs (numbers at n) ts = refl
behind-cons xs (misspells at) ts = refl
behind-cons xs (strays at) ts = refl

-- nothing is wrong before place k, where the `(` at xs are open before the tokens
abbrev RightFrom : List ℕ → List Token → ℕ → Type 0
RightFrom xs ts k = (j : ℕ) (u : Token) → j < k → slice_get ts j ≡ Some u
    → wrong_where (open_behind xs (take j ts)) u ≡ None

-- the first token that is wrong
record WrongFrom (xs : List ℕ) (ts : List Token) (f : TextFault) : Type 0 where
  place : ℕ
  token : Token
  there : slice_get ts place ≡ Some token
  wrong : wrong_where (open_behind xs (take place ts)) token ≡ Some f
  first : RightFrom xs ts place

right-more : (xs : List ℕ) (t : Token) (ts : List Token) (k : ℕ) → wrong_where xs t ≡ None
    → RightFrom (open_behind xs (t ∷ [])) ts k → RightFrom xs (t ∷ ts) (suc k)
right-more xs t ts k right later zero u before there = ap (wrong_where xs) (sym (same_Some t u there)) ∙ right
right-more xs t ts k right later (suc j) u before there =
    ap (λ ys. wrong_where ys u) (behind-cons xs t (take j ts)) ∙ later j u (omega arith) there

right-less : (xs : List ℕ) (t : Token) (ts : List Token) (k : ℕ) → RightFrom xs (t ∷ ts) (suc k)
    → RightFrom (open_behind xs (t ∷ [])) ts k
right-less xs t ts k right j u before there =
    ap (λ ys. wrong_where ys u) (sym (behind-cons xs t (take j ts))) ∙ right (suc j) u (omega arith) there

wrong-more : (xs : List ℕ) (t : Token) (ts : List Token) (f : TextFault) → wrong_where xs t ≡ None
    → WrongFrom (open_behind xs (t ∷ [])) ts f → WrongFrom xs (t ∷ ts) f
wrong-more xs t ts f right w = record {
  place = suc w.place;
  token = w.token;
  there = w.there;
  wrong = ap (λ ys. wrong_where ys w.token) (behind-cons xs t (take w.place ts)) ∙ w.wrong;
  first = right-more xs t ts w.place right w.first;
}

abbrev FaultFrom : List ℕ → List Token → TextFault → Type 0
FaultFrom xs ts f = WrongFrom xs ts f ⊎ (RightFrom xs ts (length ts) × (unclosed (open_behind xs ts) ≡ Some f))

found : (xs : List ℕ) (ts : List Token) (f : TextFault) → fault_within xs ts ≡ Some f → FaultFrom xs ts f
found xs [] f is = inr (λ j u before there. absurd (omega (arith, before)), is)
found xs (t ∷ ts) f is = ⊎_elim
    (λ right. ⊎_elim
    (λ w. inl (wrong-more xs t ts f right w))
    (λ rest. inr (right-more xs t ts (length ts) right rest.0, ap unclosed (behind-cons xs t ts) ∙ rest.1))
    (found (open_behind xs (t ∷ [])) ts f
    (ap (λ o. or_else o (fault_within (open_behind xs (t ∷ [])) ts)) (sym right) ∙ is)))
    (λ w. inl (record {
      place = zero;
      token = t;
      there = refl;
      wrong = w.1 ∙ ap (λ o. or_else o (fault_within (open_behind xs (t ∷ [])) ts)) (sym w.1) ∙ is;
      first = λ j u before there. absurd (omega (arith, before));
    }))
    (cases_fault (wrong_where xs t))

-- and back
wrong-found : (xs : List ℕ) (ts : List Token) (f : TextFault) (k : ℕ) (u : Token) → slice_get ts k ≡ Some u
    → wrong_where (open_behind xs (take k ts)) u ≡ Some f → RightFrom xs ts k → fault_within xs ts ≡ Some f
wrong-found xs [] f k u there wrong first = absurd (none-some u there)
wrong-found xs (t ∷ ts) f zero u there wrong first =
    ap (λ o. or_else o (fault_within (open_behind xs (t ∷ [])) ts)) (ap (wrong_where xs) (same_Some t u there) ∙ wrong)
wrong-found xs (t ∷ ts) f (suc k) u there wrong first =
    ap (λ o. or_else o (fault_within (open_behind xs (t ∷ [])) ts)) (first zero t (omega arith) refl)
    ∙ wrong-found (open_behind xs (t ∷ [])) ts f k u there
    (ap (λ ys. wrong_where ys u) (sym (behind-cons xs t (take k ts))) ∙ wrong) (right-less xs t ts k first)

right-found : (xs : List ℕ) (ts : List Token) → RightFrom xs ts (length ts)
    → fault_within xs ts ≡ unclosed (open_behind xs ts)
right-found xs [] right = refl
right-found xs (t ∷ ts) right =
    ap (λ o. or_else o (fault_within (open_behind xs (t ∷ [])) ts)) (right zero t (omega arith) refl)
    ∙ right-found (open_behind xs (t ∷ [])) ts (right-less xs t ts (length ts) right)
    ∙ ap unclosed (sym (behind-cons xs t ts))

pub IsFault-found : (ts : List Token) (f : TextFault) → fault_within [] ts ≡ Some f → IsFault ts f
IsFault-found ts f is = ⊎_elim
    (λ w. inl (record { place = w.place; token = w.token; there = w.there; wrong = w.wrong; first = w.first }))
    (λ rest. inr rest)
    (found [] ts f is)

pub found-IsFault : (ts : List Token) (f : TextFault) → IsFault ts f → fault_within [] ts ≡ Some f
found-IsFault ts f = ⊎_elim
    (λ w. wrong-found [] ts f w.place w.token w.there w.wrong w.first)
    (λ rest. right-found [] ts rest.0 ∙ rest.1)
