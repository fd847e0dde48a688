-- The fault of a text, by its tokens.
use Rattle.std.specs.Prelude.{◌≡◌, ℕ, ◌<◌, ◌⊎◌, List, [], ◌∷◌, ◌++◌, length, take}
use Rattle.std.specs.Prelude.{Option, Some, None, nat_le, if◌then◌else◌, slice_get}
use Rattle.br_sexpr.specs.declared.tree.TextFault.{TextFault}
use Rattle.br_sexpr.specs.declared.tree.TextFault.TheVariants.{BadByte, BadNumber}
use Rattle.br_sexpr.specs.declared.tree.TextFault.TheVariants.{ExtraClose, Unclosed, TooDeep}
use Rattle.br_sexpr.specs.Token.{Token, opens, closes, names, numbers, misspells, strays}

-- all but the last
abbrev pub but_last : List ℕ → List ℕ
but_last [] = []
but_last (x ∷ []) = []
but_last (x ∷ y ∷ xs) = x ∷ but_last (y ∷ xs)

-- The offsets of the `(` that are open after these tokens, the outermost first, where those at xs
-- are open before them. A `)` is the partner of the last one.
abbrev pub open_behind : List ℕ → List Token → List ℕ
open_behind xs [] = xs
open_behind xs (opens at ∷ ts) = open_behind (xs ++ at ∷ []) ts
open_behind xs (closes at ∷ ts) = open_behind (but_last xs) ts
open_behind xs (names at bytes ∷ ts) = open_behind xs ts
open_behind xs (numbers at n ∷ ts) = open_behind xs ts
open_behind xs (misspells at ∷ ts) = open_behind xs ts
open_behind xs (strays at ∷ ts) = open_behind xs ts

-- a `)` with no partner
abbrev pub wrong_close : List ℕ → ℕ → Option TextFault
wrong_close [] at = Some (ExtraClose at)
wrong_close (x ∷ xs) at = None

-- what is wrong with a token where the `(` at these offsets are open
abbrev pub wrong_where : List ℕ → Token → Option TextFault
wrong_where xs (opens at) = if nat_le 256 (length xs) then Some (TooDeep at) else None
wrong_where xs (closes at) = wrong_close xs at
wrong_where xs (names at bytes) = None
wrong_where xs (numbers at n) = None
wrong_where xs (misspells at) = Some (BadNumber at)
wrong_where xs (strays at) = Some (BadByte at)

-- what is wrong with token k of a text
abbrev pub wrong_at : List Token → ℕ → Token → Option TextFault
wrong_at ts k t = wrong_where (open_behind [] (take k ts)) t

-- nothing is wrong with the tokens before place k
abbrev pub AllRightBefore : List Token → ℕ → Type 0
AllRightBefore ts k = (j : ℕ) (t : Token) → j < k → slice_get ts j ≡ Some t → wrong_at ts j t ≡ None

-- this is wrong with a token, and nothing with those before it
pub record IsFirstWrong (ts : List Token) (f : TextFault) : Type 0 where
  pub place : ℕ
  pub token : Token
  pub there : slice_get ts place ≡ Some token
  pub wrong : wrong_at ts place token ≡ Some f
  pub first : AllRightBefore ts place

-- the first `(` that has no partner
abbrev pub unclosed : List ℕ → Option TextFault
unclosed [] = None
unclosed (at ∷ xs) = Some (Unclosed at)

-- the fault of a text of these tokens: the first that is wrong, or,
-- where none is, that a `(` has no partner
abbrev pub IsFault : List Token → TextFault → Type 0
IsFault ts f =
    IsFirstWrong ts f ⊎ (AllRightBefore ts (length ts) × (unclosed (open_behind [] ts) ≡ Some f))
