-- Memories whose addresses are in the data region.
use Rattle.std.proofs.Common.{◌≡◌, ℕ, ◌+◌, ◌<◌, ◌≤◌, List, [], ◌∷◌, length, Option, Some, cond, refl, sym, subst, arith}
use Rattle.std.specs.Prelude.{IfSome}
use Rattle.std.specs.List.{AllByRecursion}
use Rattle.std.specs.Ordering.{nat_cmp, is_eq}
use Rattle.std.specs.declared.cmp.Ordering.{Ordering}
use Rattle.std.specs.declared.cmp.Ordering.TheVariants.{Less, Equal, Greater}
use Rattle.std.specs.FinMap as finite
use Rattle.std.specs.Cmp.{nat_cmp_total}
use Rattle.br_bytes.specs.Memory.{Memory, place, with_bytes}
use Rattle.br_words.specs.Layout.{data_base, stack_base}
use Rattle.br_machine.specs.Start.{IsInData}

-- a byte of the data region, if there is one
abbrev IsDatum : ℕ → Option ℕ → Type 0
IsDatum a o = IfSome o (λ b. (data_base ≤ a) × (a < stack_base) × (b < 256))

pub in_data-empty : IsInData finite.empty
in_data-empty a = subst (IsDatum a) (sym (finite.get-empty nat_cmp a)) tt

in_data-insert : (m : Memory) (a b : ℕ) → IsInData m → data_base ≤ a → a < stack_base → b < 256
    → IsInData (finite.insert m a b)
in_data-insert m a b lies low high small =
    λ q. subst (IsDatum q) (sym (finite.get-insert nat_cmp_total m a b q)) (from q (nat_cmp q a) refl)
  where
    from : (q : ℕ) (o : Ordering) → nat_cmp q a ≡ o → IsDatum q (cond (is_eq o) (Some b) (finite.get m q))
    from q Less e = lies q
    from q Equal e = let same : q ≡ a = finite.nat_cmp-IsAntisymmetric q a e in (omega arith, omega arith, small)
    from q Greater e = lies q

pub in_data-with_bytes : (bytes : List ℕ) (m : Memory) (a : ℕ) → IsInData m → AllByRecursion (λ b. b < 256) bytes
    → data_base ≤ a → a + length bytes ≤ stack_base → IsInData (with_bytes m a bytes)
in_data-with_bytes [] m a lies small low high = lies
in_data-with_bytes (b ∷ bytes) m a lies small low high =
    let same : a ≡ place a = omega arith in
    in_data-insert (with_bytes m (a + 1) bytes) (place a) b (in_data-with_bytes bytes m (a + 1) lies small.1
    (omega arith) (omega arith)) (omega arith) (omega arith) small.0
