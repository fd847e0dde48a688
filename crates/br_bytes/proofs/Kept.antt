-- Lemmas on memories that are kept as ranges: their values, and that each of them is a memory.
use Rattle.std.proofs.Common.{◌≡◌, ◌≢◌, ℕ, suc, ◌+◌, ◌*◌, ◌^◌, ◌<◌, ◌≤◌, Bool, true, false, not}
use Rattle.std.proofs.Common.{◌&&◌, nat_le, nat_lt, List, [], ◌∷◌, ◌++◌, length, get_or, Option}
use Rattle.std.proofs.Common.{Some, None, IsTrue, is_some, cond, refl, sym, ap, subst, ◌∙◌, arith}
use Rattle.std.proofs.lemmas.Bool.Decides.{nat_tests}
use Rattle.std.specs.Prelude.{IfSome}
use Rattle.std.specs.Bool.{OnTrue, OnFalse}
use Rattle.std.specs.Result.{OnOk, OnErr}
use Rattle.std.specs.declared.result.Result.{Result}
use Rattle.std.specs.declared.result.Result.TheVariants.{Ok, Err}
use Rattle.std.specs.Ordering.{nat_cmp, eq_by_cmp}
use Rattle.std.specs.FinMap as map
use Rattle.std.specs.Cmp.{nat_cmp_total}
use Rattle.br_bytes.specs.Memory.{Memory, IsMemory, place, with_bytes}
use Rattle.br_bytes.specs.Buffers.{without_range}
use Rattle.br_bytes.specs.Ranges.{is_whole, IsFirstTaken}
use Rattle.br_bytes.specs.Range.{Range, end_of, or_else, byte_in, byte_of, AreApart, memory_of}
use Rattle.br_bytes.specs.Changes.{after, added, ranges_to, ranges_from, with_byte}
use Rattle.br_bytes.proofs.Ranged.{byte_of-append, apart_append}
use Rattle.br_bytes.proofs.Bytes.{get-insert_same, get-insert_other}
use Rattle.br_bytes.proofs.Away.{same_memory, get-without, get-without_in, get-without_below, get-without_above}
use Rattle.br_bytes.proofs.Seen.{get_of, get_with}
use Rattle.br_bytes.proofs.Effects.{or_none, by_place, added_seen, added_apart}
use Rattle.br_bytes.proofs.Whole.{whole_all, whole_not}
use Rattle.br_bytes.proofs.Cuts.{to_within, to_none_above, from_within, from_none_below, to_apart}
use Rattle.br_bytes.proofs.Cuts.{to_after, from_apart, with_here, with_other, with_apart}

-- the values of changed ranges
pub added_memory : (x : Range) (rs : List Range) → end_of x ≤ 2 ^ 32
    → memory_of (added x rs) ≡ with_bytes (memory_of rs) x.start x.bytes
added_memory x rs fits = same_memory _ _ (λ q.
    get_of (added x rs) q ∙ added_seen x rs q ∙ ap (or_else (byte_in x q)) (sym (get_of rs q))
    ∙ sym (get_with x.bytes (memory_of rs) x.start q fits))

same_or_other : (q a : ℕ) {P : Type 0} → (q ≡ a → P) → (q ≢ a → P) → P
same_or_other q a {P} same other = by_place q a (a + 1) (λ l. other (λ e. omega (arith, e))) (λ l g. same (omega arith))
    (λ l g. other (λ e. omega (arith, e)))

pub replaced_memory : (rs : List Range) (a b : ℕ) → AreApart 0 rs → IsTrue (is_some (byte_of rs a))
    → memory_of (with_byte a b rs) ≡ map.insert (memory_of rs) a b
replaced_memory rs a b apart there = same_memory _ _ (λ q. same_or_other q a
    (λ e.
    get_of (with_byte a b rs) q ∙ ap (byte_of (with_byte a b rs)) e ∙ with_here rs 0 a b apart there
    ∙ sym (ap (map.get (map.insert (memory_of rs) a b)) e ∙ get-insert_same (memory_of rs) a b))
    (λ ne. get_of (with_byte a b rs) q ∙ with_other rs 0 a b q apart there ne
    ∙ sym (get-insert_other (memory_of rs) a b q ne ∙ get_of rs q)))

both_sides : (rs : List Range) (a e q : ℕ) → byte_of (ranges_to a rs ++ ranges_from e rs) q
    ≡ or_else (byte_of (ranges_to a rs) q) (byte_of (ranges_from e rs) q)
both_sides rs a e q = byte_of-append (ranges_to a rs) (ranges_from e rs) q

pub cleared_memory : (rs : List Range) (a n e : ℕ) → AreApart 0 rs → e ≡ a + n
    → memory_of (ranges_to a rs ++ ranges_from e rs) ≡ without_range (memory_of rs) a n
cleared_memory rs a n e apart is =
    same_memory _ _ (λ q. get_of (ranges_to a rs ++ ranges_from e rs) q ∙ both_sides rs a e q ∙ by_place q a e
    (λ l.
    ap (or_else (byte_of (ranges_to a rs) q)) (from_none_below rs 0 e q apart (omega arith))
    ∙ or_none (byte_of (ranges_to a rs) q) ∙ to_within rs 0 a q apart l
    ∙ sym (get-without_below (memory_of rs) a n q l ∙ get_of rs q))
    (λ l g.
    ap (λ o. or_else o (byte_of (ranges_from e rs) q)) (to_none_above rs a q l) ∙ from_none_below rs 0 e q apart g
    ∙ sym (get-without_in (memory_of rs) a n q l (omega arith)))
    (λ l g.
    ap (λ o. or_else o (byte_of (ranges_from e rs) q)) (to_none_above rs a q l) ∙ from_within rs 0 e q apart g
    ∙ sym (get-without_above (memory_of rs) a n q (omega arith) ∙ get_of rs q)))

pub cleared_apart : (rs : List Range) (a e : ℕ) → AreApart 0 rs → a < e
    → AreApart 0 (ranges_to a rs ++ ranges_from e rs)
cleared_apart rs a e apart l =
    let up = to_after rs 0 a apart (omega arith) in
    apart_append (ranges_to a rs) (ranges_from e rs) 0 (to_apart rs 0 a apart)
    (from_apart rs 0 (after 0 (ranges_to a rs)) e apart (omega (arith, up)))

-- each of them is a memory
if_cond : (t : Bool) (b : ℕ) (o : Option ℕ) (P : ℕ → Type 0) → (t ≡ true → P b) → IfSome o P
    → IfSome (cond t (Some b) o) P
if_cond true b o P h g = h refl
if_cond false b o P h g = g

if_cond_none : (t : Bool) (o : Option ℕ) (P : ℕ → Type 0) → IfSome o P → IfSome (cond t o None) P
if_cond_none true o P g = g
if_cond_none false o P g = tt

pub empty_memory : IsMemory map.empty
empty_memory a = subst (λ o. IfSome o (λ b. (a < 2 ^ 32) × (b < 256))) (sym (map.get-empty nat_cmp a)) tt

tied : (q a : ℕ) → eq_by_cmp nat_cmp q a ≡ true → q ≡ a
tied q a e = grind (arith, nat_tests)

pub insert_memory : (m : Memory) (a b : ℕ) → IsMemory m → a < 2 ^ 32 → b < 256 → IsMemory (map.insert m a b)
insert_memory m a b is l h q =
    subst (λ o. IfSome o (λ b. (q < 2 ^ 32) × (b < 256))) (sym (map.get-insert nat_cmp_total m a b q))
    (if_cond (eq_by_cmp nat_cmp q a) b (map.get m q) (λ b. (q < 2 ^ 32) × (b < 256))
    (λ e. let s = tied q a e in (omega (arith, s), h)) (is q))

pub with_memory : (bs : List ℕ) (m : Memory) (a : ℕ) → IsMemory m → ((i : ℕ) → get_or bs i 0 < 256)
    → IsMemory (with_bytes m a bs)
with_memory [] m a is small = is
with_memory (b ∷ bs) m a is small = insert_memory (with_bytes m (a + 1) bs) (place a) b
    (with_memory bs m (a + 1) is (λ i. small (suc i))) (omega arith) (small 0)

pub without_memory : (m : Memory) (a n : ℕ) → IsMemory m → IsMemory (without_range m a n)
without_memory m a n is q =
    subst (λ o. IfSome o (λ b. (q < 2 ^ 32) × (b < 256))) (sym (get-without m a n q))
    (if_cond_none (not (nat_le a q && nat_lt q (a + n))) (map.get m q) (λ b. (q < 2 ^ 32) × (b < 256)) (is q))

-- ranges that are apart are few
pub few_ranges : (rs : List Range) (low : ℕ) → AreApart low rs → low ≤ 2 ^ 32 + 1 → low + 2 * length rs ≤ 2 ^ 32 + 1
few_ranges [] low apart l = omega arith
few_ranges (r ∷ rs) low apart l = let rest = few_ranges rs (end_of r + 1) apart.3 (omega (arith, apart.2)) in
    omega (arith, rest, apart.0, apart.1)

-- what the calls on ranges tell of the memory that they make
pub whole_answer : (t : Bool) (rs : List Range) (m : Memory) (a n : ℕ) → a + n ≤ 2 ^ 32
    → ((q : ℕ) → map.get m q ≡ byte_of rs q) → OnTrue t ((q : ℕ) → a ≤ q → q < a + n → IsTrue (is_some (byte_of rs q)))
    → OnFalse t ((q : ℕ) × (a ≤ q) × (q < a + n) × (byte_of rs q ≡ None)) → t ≡ is_whole m a n
whole_answer true rs m a n fits seen whole part =
    sym (whole_all n m a fits (λ q l h. subst (λ o. IsTrue (is_some o)) (sym (seen q)) (whole q l h)))
whole_answer false rs m a n fits seen whole part =
    sym (whole_not n m a part.0 fits part.1 part.2 (seen part.0 ∙ part.3))

pub first_answer : (o : Option ℕ) (rs : List Range) (m : Memory) (a n : ℕ) → ((q : ℕ) → map.get m q ≡ byte_of rs q)
    → IfSome o (λ at. (a ≤ at) × (at < a + n)) → IfSome o (λ at. IsTrue (is_some (byte_of rs at)))
    → IfSome o (λ at. (q : ℕ) → a ≤ q → q < at → byte_of rs q ≡ None) → IfSome o (IsFirstTaken m a n)
first_answer None rs m a n seen inside there first = tt
first_answer (Some at) rs m a n seen inside there first =
    (inside.0, inside.1, subst (λ o. IsTrue (is_some o)) (sym (seen at)) there, λ q l h. seen q ∙ first q l h)

-- what is true of the ranges of each memory stays true
abbrev pub Kept : List Range → Type 0
Kept rs = record { apart : AreApart 0 rs; is_memory : IsMemory (memory_of rs) }

pub added_kept : (x : Range) (rs : List Range) → Kept rs → 0 < length x.bytes → end_of x ≤ 2 ^ 32
    → ((i : ℕ) → get_or x.bytes i 0 < 256) → ((q : ℕ) → x.start ≤ q → q < end_of x → map.get (memory_of rs) q ≡ None)
    → Kept (added x rs)
added_kept x rs kept some fits small free = record {
  apart = added_apart x rs 0 kept.apart (omega arith) some fits (λ q l h. sym (get_of rs q) ∙ free q l h);
  is_memory =
      subst IsMemory (sym (added_memory x rs fits)) (with_memory x.bytes (memory_of rs) x.start kept.is_memory small);
}

pub replaced_kept : (rs : List Range) (a b : ℕ) → Kept rs → IsTrue (is_some (byte_of rs a)) → a < 2 ^ 32 → b < 256
    → Kept (with_byte a b rs)
replaced_kept rs a b kept there fits small = record {
  apart = with_apart rs 0 a b kept.apart;
  is_memory = subst IsMemory (sym (replaced_memory rs a b kept.apart there))
      (insert_memory (memory_of rs) a b kept.is_memory fits small);
}

pub cleared_kept : (rs : List Range) (a n e : ℕ) → Kept rs → a < e → e ≡ a + n
    → Kept (ranges_to a rs ++ ranges_from e rs)
cleared_kept rs a n e kept l is = record {
  apart = cleared_apart rs a e kept.apart l;
  is_memory =
      subst IsMemory (sym (cleared_memory rs a n e kept.apart is)) (without_memory (memory_of rs) a n kept.is_memory);
}

pub either_kept : {T E : Type 0} (r : Result T E) (new changed old : List Range) → OnOk r (new ≡ changed)
    → OnErr r (new ≡ old) → Kept changed → Kept old → Kept new
either_kept (Ok x) new changed old ok err k j = subst Kept (sym ok) k
either_kept (Err x) new changed old ok err k j = subst Kept (sym err) j
