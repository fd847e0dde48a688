-- Names and functions by their numbers.
use Rattle.std.proofs.Common.{◌≡◌, ℕ, zero, suc, ◌<◌, List, [], ◌∷◌, map, length, slice_get, Option, Some, None, Bor}
use Rattle.std.proofs.Common.{get_or, position, refl, sym, ap, ◌∙◌, arith}
use Rattle.std.specs.Option.{option_copied, option_map}
use Rattle.std.specs.Str.{bytes_eq}
use Rattle.std.proofs.lemmas.List.{get_or-map}
use Rattle.std.proofs.lemmas.Option.{get_or_from_slice_get}
use Rattle.std.proofs.lemmas.List.Quantifiers.{position-Some}
use Rattle.std.proofs.lemmas.Slice.Eq.{bytes_eq-Decides}
use Rattle.br_numbering.specs.Names.{number, with_name}
use Rattle.br_numbering.proofs.Listed.{at-added, at-number, added-stay}
use Rattle.br_syntax.specs.declared.program.Func.{Func}
use Rattle.br_syntax.specs.Functions.{function_named}
use Rattle.br_source_meaning.specs.Values.{Name}
use Rattle.br_source_meaning.specs.Names.{function_names, name_at, Numbers}
use Rattle.br_source_meaning.specs.Numbered.{named_function}
use Rattle.br_source_meaning.specs.declared.numbered.NumberedFunc.{NumberedFunc}

-- ---- functions

module _ (names : List Name) (all : List Func) where
  -- the function of a number that a function has
  pub by-number : (table : List (Option (Bor NumberedFunc))) (fs : List Func) (k : ℕ) (o : Option (Bor NumberedFunc))
      → map (λ f. option_map (named_function names) (option_copied f)) table ≡ map (λ f. function_named all f.name) fs
      → slice_get table k ≡ Some o
      → option_map (named_function names) (option_copied o) ≡ function_named all (get_or (map (λ f. f.name) fs) k [])
  by-number [] fs k o same is = absurd (cc is)
  by-number (p ∷ table) [] k o same is = absurd (cc same)
  by-number (p ∷ table) (f ∷ fs) zero o same is = cc
  by-number (p ∷ table) (f ∷ fs) (suc k) o same is =
      let rest : map (λ f. option_map (named_function names) (option_copied f)) table
      ≡ map (λ f. function_named all f.name) fs = cc in
      by-number table fs k o rest is

  -- a number that no function has
  pub past-numbers : (table : List (Option (Bor NumberedFunc))) (fs : List Func) (k : ℕ)
      → map (λ f. option_map (named_function names) (option_copied f)) table ≡ map (λ f. function_named all f.name) fs
      → slice_get table k ≡ None
      → get_or (map (λ f. f.name) fs) k [] ≡ []
  past-numbers table [] k same is = refl
  past-numbers [] (f ∷ fs) k same is = absurd (cc same)
  past-numbers (p ∷ table) (f ∷ fs) zero same is = absurd (cc is)
  past-numbers (p ∷ table) (f ∷ fs) (suc k) same is =
      let rest : map (λ f. option_map (named_function names) (option_copied f)) table
      ≡ map (λ f. function_named all f.name) fs = cc in
      past-numbers table fs k rest is

slice-map : (names : List Name) (ns : List NumberedFunc) (n : ℕ) (f : NumberedFunc) → n < length ns → f ≡ get_or ns n f
    → slice_get (map (named_function names) ns) n ≡ Some (named_function names f)
slice-map names [] n f inside is = absurd (omega (arith, inside))
slice-map names (g ∷ ns) zero f inside is = ap (λ h. Some (named_function names h)) (sym is)
slice-map names (g ∷ ns) (suc n) f inside is = slice-map names ns n f (omega (arith, inside)) is

-- the function that stands at a number
pub named-at : (names : List Name) (ns : List NumberedFunc) (fs : List Func) (n : ℕ) (f : NumberedFunc)
    → map (named_function names) ns ≡ fs → n < length ns → f ≡ get_or ns n f → slice_get fs n
    ≡ Some (named_function names f)
named-at names ns fs n f same inside is = ap (λ gs. slice_get gs n) (sym same) ∙ slice-map names ns n f inside is

-- the name of the first function that has it
pub at-function : (fs : List Func) (x : Name) (k : ℕ) → position (λ f. bytes_eq f.name x) fs ≡ Some k
    → name_at (function_names fs) k ≡ x
at-function fs x k is =
    let d : Func = record { at = 0; name = []; args = []; results = []; body = [] } in
    let first = position-Some (λ f. bytes_eq f.name x) fs k d is in
    get_or-map (λ (f : Func). f.name) fs k d [] first.0 ∙ (bytes_eq-Decides (get_or fs k d).name x).0 first.1

-- ---- variables

-- the name of the number that it has
pub at-place : (names : List Name) (x : Name) (k : ℕ) → k ≡ number names x → k < length names → name_at names k ≡ x
at-place names x k is inside =
    get_or_from_slice_get names k x [] (ap (slice_get names) is ∙ at-number names x (rw is at inside))

-- the number that a name got
pub numbers-one : (old new : List Name) (q x : Name) (k : ℕ) → q ≡ x → new ≡ with_name old q → k ≡ number new q
    → Numbers old new (λ names. name_at names k) x
numbers-one old new q x k same is at later keeps =
    let stands : slice_get new k ≡ Some x =
    ap (slice_get new) at ∙ ap (λ names. slice_get names (number names q)) is ∙ at-added old q ∙ ap Some same in (
      (λ j y h. keeps j y (ap (λ names. slice_get names j) is ∙ added-stay old q j y h)),
      get_or_from_slice_get later k x
          [] (keeps k x stands),
    )
