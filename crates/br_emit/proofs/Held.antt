-- The memory of a flat program in the RAM of the machine.
use Rattle.std.proofs.Common.{◌≡◌, ◌≢◌, ◌⊎◌, inl, inr, ℕ, zero, suc, ◌+◌, ◌-◌, ◌/◌, ◌%◌, ◌^◌, ◌<◌}
use Rattle.std.proofs.Common.{◌≤◌, List, [], ◌∷◌, length, drop, Option, Some, None, Bool, true, false}
use Rattle.std.proofs.Common.{not, ◌&&◌, nat_le, nat_lt, cond, refl, sym, ap, subst, ◌∙◌, arith}
use Rattle.std.specs.Prelude.{slice_index, slice_set}
use Rattle.std.proofs.Math.ListN.{length-set}
use Rattle.std.proofs.lemmas.Bool.Decides.{nat_tests}
use Rattle.std.proofs.lemmas.List.{get_or-set_other, get_or-set_same, drop-set-lt}
use Rattle.std.specs.Ordering.{nat_cmp, is_eq}
use Rattle.std.specs.declared.cmp.Ordering.{Ordering}
use Rattle.std.specs.declared.cmp.Ordering.TheVariants.{Less, Equal, Greater}
use Rattle.std.specs.FinMap as map
use Rattle.std.specs.Cmp.{nat_cmp_total}
use Rattle.br_bytes.specs.Number.{low_bytes}
use Rattle.br_bytes.specs.Memory.{Memory, in_front, bytes_at, with_bytes}
use Rattle.br_bytes.specs.Buffers.{without_range}
use Rattle.br_machine.specs.State.{bytes_from, with_bytes_from}

-- each byte of the memory stands in RAM, in the data region or in the stack region from b on
pub record Held (b : ℕ) (m : Memory) (ram : List ℕ) : Type 0 where
  pub bytes : (a v : ℕ) → map.get m a ≡ Some v → slice_index ram (a - 0x80100000) ≡ v
  pub from : (a v : ℕ) → map.get m a ≡ Some v → 0x80100000 ≤ a
  pub to : (a v : ℕ) → map.get m a ≡ Some v → a < 0x80300000
  pub apart : (a v : ℕ) → map.get m a ≡ Some v → 0x80200000 ≤ a → b ≤ a

-- ---- bytes of RAM

pub length-with_bytes_from : (bs ram : List ℕ) (p : ℕ) → length (with_bytes_from ram p bs) ≡ length ram
length-with_bytes_from [] ram p = refl
length-with_bytes_from (b ∷ bs) ram p = length-with_bytes_from bs (slice_set ram p b) (p + 1) ∙ length-set ram p b

-- a place outside the bytes
pub index-with_bytes_from : (bs ram : List ℕ) (p q : ℕ) → (q < p) ⊎ (p + length bs ≤ q)
    → slice_index (with_bytes_from ram p bs) q ≡ slice_index ram q
index-with_bytes_from [] ram p q apart = refl
index-with_bytes_from (b ∷ bs) ram p q apart =
    index-with_bytes_from bs (slice_set ram p b) (p + 1) q (further apart) ∙ get_or-set_other ram p q b 0 (other apart)
  where
    further : (q < p) ⊎ (p + suc (length bs) ≤ q) → (q < p + 1) ⊎ (p + 1 + length bs ≤ q)
    further (inl h) = inl (omega arith)
    further (inr h) = inr (omega arith)

    other : (q < p) ⊎ (p + suc (length bs) ≤ q) → q ≢ p
    other (inl h) = omega arith
    other (inr h) = omega arith

-- a place among the bytes
pub index-written : (bs ram : List ℕ) (p i : ℕ) → i < length bs → p + length bs ≤ length ram
    → slice_index (with_bytes_from ram p bs) (p + i) ≡ slice_index bs i
index-written [] ram p i l room = absurd (omega arith)
index-written (b ∷ bs) ram p zero l room =
    let here : p + 0 ≡ p = omega arith in
    ap (slice_index (with_bytes_from (slice_set ram p b) (p + 1) bs)) here
    ∙ index-with_bytes_from bs (slice_set ram p b) (p + 1) p (inl (omega arith))
    ∙ get_or-set_same ram p b 0 (omega arith)
index-written (b ∷ bs) ram p (suc i) l room =
    let there : p + suc i ≡ p + 1 + i = omega arith in
    ap (slice_index (with_bytes_from (slice_set ram p b) (p + 1) bs)) there
    ∙ index-written bs (slice_set ram p b) (p + 1) i (omega arith) (omega (arith, length-set ram p b))

-- the back of RAM after the bytes stays
pub drop-with_bytes_from : (bs ram : List ℕ) (n p : ℕ) → p + length bs ≤ n
    → drop n (with_bytes_from ram p bs) ≡ drop n ram
drop-with_bytes_from [] ram n p h = refl
drop-with_bytes_from (b ∷ bs) ram n p h =
    drop-with_bytes_from bs (slice_set ram p b) n (p + 1) (omega arith) ∙ drop-set-lt n ram p b (omega arith)

pub length-bytes_from : (ram : List ℕ) (n p : ℕ) → length (bytes_from ram p n) ≡ n
length-bytes_from ram zero p = refl
length-bytes_from ram (suc n) p = let is = length-bytes_from ram n (p + 1) in omega arith

pub index-bytes_from : (ram : List ℕ) (n p i : ℕ) → i < n → slice_index (bytes_from ram p n) i ≡ slice_index ram (p + i)
index-bytes_from ram zero p i l = absurd (omega arith)
index-bytes_from ram (suc n) p zero l = ap (slice_index ram) (omega arith)
index-bytes_from ram (suc n) p (suc i) l =
    index-bytes_from ram n (p + 1) i (omega arith) ∙ ap (slice_index ram) (omega arith)

pub length-low_bytes : (n v : ℕ) → length (low_bytes n v) ≡ n
length-low_bytes zero v = refl
length-low_bytes (suc n) v = let is = length-low_bytes n (v / 256) in omega arith

-- ---- bytes of a memory

get-insert_same : (m : Memory) (k b : ℕ) → map.get (map.insert m k b) k ≡ Some b
get-insert_same m k b = grind (map.gets, arith)

get-insert_other : (m : Memory) (k b q : ℕ) → q ≢ k → map.get (map.insert m k b) q ≡ map.get m q
get-insert_other m k b q ne = map.get-insert nat_cmp_total m k b q ∙ by (nat_cmp q k) refl
  where
    by : (o : Ordering) → nat_cmp q k ≡ o → cond (is_eq o) (Some b) (map.get m q) ≡ map.get m q
    by Less e = refl
    by Equal e = absurd (ne (map.nat_cmp-IsAntisymmetric q k e))
    by Greater e = refl

-- an address outside the bytes
pub get-with_bytes_other : (bs : List ℕ) (m : Memory) (a q : ℕ) → a + length bs ≤ 2 ^ 32 → (q < a) ⊎ (a + length bs ≤ q)
    → map.get (with_bytes m a bs) q ≡ map.get m q
get-with_bytes_other [] m a q room apart = refl
get-with_bytes_other (b ∷ bs) m a q room apart =
    let place : a % 2 ^ 32 ≡ a = omega arith in
    get-insert_other (with_bytes m (a + 1) bs) (a % 2 ^ 32) b q (other apart)
    ∙ get-with_bytes_other bs m (a + 1) q (omega arith) (further apart)
  where
    further : (q < a) ⊎ (a + suc (length bs) ≤ q) → (q < a + 1) ⊎ (a + 1 + length bs ≤ q)
    further (inl h) = inl (omega arith)
    further (inr h) = inr (omega arith)

    other : (q < a) ⊎ (a + suc (length bs) ≤ q) → q ≢ a % 2 ^ 32
    other (inl h) = omega arith
    other (inr h) = omega arith

-- an address among the bytes
pub get-written : (bs : List ℕ) (m : Memory) (a i : ℕ) → i < length bs → a + length bs ≤ 2 ^ 32
    → map.get (with_bytes m a bs) (a + i) ≡ Some (slice_index bs i)
get-written [] m a i l room = absurd (omega arith)
get-written (b ∷ bs) m a zero l room =
    let place : a + 0 ≡ a % 2 ^ 32 = omega arith in
    ap (map.get (map.insert (with_bytes m (a + 1) bs) (a % 2 ^ 32) b)) place
    ∙ get-insert_same (with_bytes m (a + 1) bs) (a % 2 ^ 32) b
get-written (b ∷ bs) m a (suc i) l room =
    let there : a + suc i ≡ a + 1 + i = omega arith in
    get-insert_other (with_bytes m (a + 1) bs) (a % 2 ^ 32) b (a + suc i) (omega arith)
    ∙ ap (map.get (with_bytes m (a + 1) bs)) there ∙ get-written bs m (a + 1) i (omega arith) (omega arith)

get-without : (m : Memory) (a n q : ℕ)
    → map.get (without_range m a n) q ≡ cond (not (nat_le a q && nat_lt q (a + n))) (map.get m q) None
get-without m a n q = map.get-retain_keys m (λ q. not (nat_le a q && nat_lt q (a + n))) q
    (λ x e. ap (λ q. not (nat_le a q && nat_lt q (a + n))) (sym (map.nat_cmp-IsAntisymmetric q x e)))

pub get-without_in : (m : Memory) (a n q : ℕ) → a ≤ q → q < a + n → map.get (without_range m a n) q ≡ None
get-without_in m a n q low high = let e = get-without m a n q in grind (arith, nat_tests)

pub get-without_out : (m : Memory) (a n q : ℕ) → (q < a) ⊎ (a + n ≤ q) → map.get (without_range m a n) q ≡ map.get m q
get-without_out m a n q (inl h) = let e = get-without m a n q in grind (arith, nat_tests)
get-without_out m a n q (inr h) = let e = get-without m a n q in grind (arith, nat_tests)

-- ---- what is found

-- where an address is, to a range
pub data Where (q a n : ℕ) : Type 0 where
  Outside : (q < a) ⊎ (a + n ≤ q) → Where q a n
  Inside : (i : ℕ) → i < n → q ≡ a + i → Where q a n

pub where_is : (q a n : ℕ) → Where q a n
where_is q a n = by (nat_lt q a) (nat_lt q (a + n)) refl refl
  where
    by : (below inside : Bool) → nat_lt q a ≡ below → nat_lt q (a + n) ≡ inside → Where q a n
    by true inside is also = Outside (inl (grind (arith, nat_tests)))
    by false true is also =
        let l : a ≤ q = grind (arith, nat_tests) in
        let r : q < a + n = grind (arith, nat_tests) in
        Inside (q - a) (omega arith) (omega arith)
    by false false is also = Outside (inr (grind (arith, nat_tests)))

-- the bytes of an access, one at least
pub record Found (b : ℕ) (m : Memory) (ram : List ℕ) (a n : ℕ) (bs : List ℕ) : Type 0 where
  pub low : 0 < n → 0x80100000 ≤ a
  pub high : 0 < n → a + n ≤ 0x80300000
  pub apart : (q : ℕ) → a ≤ q → q < a + n → 0x80200000 ≤ q → b ≤ q
  pub is : bytes_from ram (a - 0x80100000) n ≡ bs
  pub there : (q : ℕ) → a ≤ q → q < a + n → map.get m q ≢ None

record Front (o : Option ℕ) (os : Option (List ℕ)) (bs : List ℕ) : Type 0 where
  first : ℕ
  rest : List ℕ
  one : o ≡ Some first
  others : os ≡ Some rest
  all : bs ≡ first ∷ rest

front : (o : Option ℕ) (os : Option (List ℕ)) (bs : List ℕ) → in_front o os ≡ Some bs → Front o os bs
front (Some b) (Some rest) bs h = record { first = b; rest = rest; one = refl; others = refl; all = cc }
front (Some b) None bs h = absurd (cc)
front None os bs h = absurd (cc)

pub found : (b n a : ℕ) (m : Memory) (ram bs : List ℕ) → Held b m ram → a < 2 ^ 32 → bytes_at m a n ≡ Some bs
    → Found b m ram a n bs
found b zero a m ram bs held small h = record {
  low = λ l. absurd (omega arith);
  high = λ l. absurd (omega arith);
  apart = λ q from to in_stack. absurd (omega arith);
  is = cc;
  there = λ q from to. absurd (omega arith);
}
found b (suc n) a m ram bs held small h =
    let place : a % 2 ^ 32 ≡ a = omega arith in
    let f = front (map.get m (a % 2 ^ 32)) (bytes_at m (a + 1) n) bs h in
    let one : map.get m a ≡ Some f.first = subst (λ q. map.get m q ≡ Some f.first) place f.one in
    let low = held.from a f.first one in
    let high = held.to a f.first one in
    let rest = found b n (a + 1) m ram f.rest held (omega arith) f.others in
    record {
      low = λ l. low;
      high = λ l. end n rest high;
      apart = λ q from to in_stack. apart q from to in_stack f.first one rest (where_is q a 1);
      is =
          let next : a + 1 - 0x80100000 ≡ a - 0x80100000 + 1 = omega arith in
          let here = held.bytes a f.first one in
          let others : bytes_from ram (a - 0x80100000 + 1) n ≡ f.rest =
          subst (λ p. bytes_from ram p n ≡ f.rest) next rest.is in
          rw (here, others) (sym f.all);
      there = λ q from to. there q from to f.first one rest (where_is q a 1);
    }
  where
    end : (n : ℕ) → {bs : List ℕ} → Found b m ram (a + 1) n bs → a < 0x80300000 → a + suc n ≤ 0x80300000
    end zero rest high = omega arith
    end (suc n) rest high = let r = rest.high (omega arith) in omega arith

    apart : (q : ℕ) → a ≤ q → q < a + suc n → 0x80200000 ≤ q → (v : ℕ) → map.get m a ≡ Some v → {bs : List ℕ}
        → Found b m ram (a + 1) n bs → Where q a 1 → b ≤ q
    apart q from to in_stack v one rest (Outside (inl h)) = absurd (omega arith)
    apart q from to in_stack v one rest (Outside (inr h)) = rest.apart q (omega arith) (omega arith) in_stack
    apart q from to in_stack v one rest (Inside i l is) =
        let same : q ≡ a = omega arith in
        subst (λ q. b ≤ q) (sym same) (held.apart a v one (subst (λ q. 0x80200000 ≤ q) same in_stack))

    there : (q : ℕ) → a ≤ q → q < a + suc n → (v : ℕ) → map.get m a ≡ Some v → {bs : List ℕ}
        → Found b m ram (a + 1) n bs → Where q a 1 → map.get m q ≢ None
    there q from to v one rest (Outside (inl h)) = absurd (omega arith)
    there q from to v one rest (Outside (inr h)) = rest.there q (omega arith) (omega arith)
    there q from to v one rest (Inside i l is) =
        let same : q ≡ a = omega arith in
        subst (λ q. map.get m q ≢ None) (sym same) (λ none. cc)
