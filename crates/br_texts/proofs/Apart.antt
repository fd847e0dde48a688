-- Ranges that lie apart, and the addresses at which a memory has no byte.
use Rattle.std.proofs.Common.{◌≡◌, ◌≢◌, ℕ, ◌+◌, ◌^◌, ◌<◌, ◌≤◌, List, [], ◌∷◌, length, Some, None}
use Rattle.std.proofs.Common.{suc, drop, get_or, drop-cons, cond, refl, sym, ap, ◌∙◌, arith}
use Rattle.std.specs.Prelude.{IsTrue}
use Rattle.std.specs.FinMap as map
use Rattle.std.specs.Ordering.{nat_cmp}
use Rattle.br_bytes.specs.declared.run.Choice.{Choice}
use Rattle.br_bytes.specs.Memory.{Memory, place, with_bytes}
use Rattle.br_bytes.proofs.Bytes.{get-insert_other}
use Rattle.br_words.specs.Layout.{data_base}
use Rattle.br_texts.specs.Memory.{AreRanges}

-- bytes that are added change nothing after them
get-after : (bs : List ℕ) (m : Memory) (a q : ℕ) → a + length bs ≤ 2 ^ 32 → a + length bs ≤ q
    → map.get (with_bytes m a bs) q ≡ map.get m q
get-after [] m a q fits after = refl
get-after (b ∷ bs) m a q fits after =
    let same : place a ≡ a = omega arith in
    let apart : q ≢ place a = λ e. omega (arith, e) in
    get-insert_other (with_bytes m (a + 1) bs) (place a) b q apart
    ∙ get-after bs m (a + 1) q (omega arith) (omega arith)

-- the ranges begin where the memory has no byte
pub record Ahead (m : Memory) (coming : List Choice) : Type 0 where
  pub from : ℕ
  pub low : data_base ≤ from
  pub ranges : AreRanges from coming
  pub free : (a : ℕ) → from ≤ a → map.get m a ≡ None

pub ahead-empty : (ranges : List Choice) → AreRanges data_base ranges → Ahead map.empty ranges
ahead-empty ranges are = record {
  from = data_base;
  low = omega arith;
  ranges = are;
  free = λ a _. map.get-empty nat_cmp a;
}

pub ahead-step : (m : Memory) (c : Choice) (rest : List Choice) → Ahead m (c ∷ rest)
    → Ahead (with_bytes m c.addr c.bytes) rest
ahead-step m c rest ahead =
    let are = ahead.ranges in
    let first : ahead.from ≤ c.addr = are.0 in
    let low : data_base ≤ c.addr + length c.bytes = (let l = ahead.low in omega arith) in
    let fits : c.addr + length c.bytes ≤ 2 ^ 32 = (let h = are.1 in omega arith) in
    record {
      from = c.addr + length c.bytes;
      low = low;
      ranges = are.3;
      free = λ a after. get-after c.bytes m c.addr a fits after ∙ ahead.free a (omega arith);
    }

-- an address with a byte is none from which on there is none
pub not_free : (m : Memory) (a : ℕ) → map.get m a ≡ None → IsTrue (map.contains_key m a) → ⊥
not_free m a free there = let no = rw free at there in absurd (cc (no))

-- the first of the items that are left
pub next-item : {X : Type 0} (xs : List X) (i : ℕ) (x : X) → i < length xs → x ≡ get_or xs i x
    → drop i xs ≡ x ∷ drop (i + 1) xs
next-item xs i x below is =
    let place : suc i ≡ i + 1 = omega arith in
    drop-cons xs i x below ∙ (ap (λ y. y ∷ drop (suc i) xs) (sym is) ∙ ap (λ k. x ∷ drop k xs) place)
