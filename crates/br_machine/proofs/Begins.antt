-- The machine as a call begins.
use Rattle.std.proofs.Common.{◌≡◌, ℕ, zero, suc, ◌+◌, ◌-◌, ◌*◌, ◌<◌, ◌≤◌, List, [], ◌∷◌, ◌++◌, length}
use Rattle.std.proofs.Common.{Option, Some, None, replicate, refl, ap, ◌∙◌, arith, length-append}
use Rattle.std.specs.Prelude.{slice_index, slice_set, unwrap_or}
use Rattle.std.specs.FinMap as map
use Rattle.std.proofs.Math.ListN.{length-set}
use Rattle.std.proofs.lemmas.List.{get_or_append_left, get_or-append-add, length-replicate}
use Rattle.br_bytes.specs.Memory.{Memory}
use Rattle.br_words.specs.declared.layout.Layout.{Layout}
use Rattle.br_words.specs.declared.layout.Layout.TheVariants.{One, Two}
use Rattle.br_words.specs.Layout.{code_base, code_end, data_base, most_words, ram_base, stack_base}
use Rattle.br_machine.specs.State.{byte_of, code_place, ram_size}
use Rattle.br_machine.specs.Start.{Leftover, IsLeftover, with_words, overlaid, code_bytes, filled, start_ram, start}
use Rattle.br_bytes.proofs.Words.{length-word_bytes}
use Rattle.br_machine.proofs.Regions.{regions}
use Rattle.br_machine.proofs.Fetch.{HasCode}

length-overlaid : (m : Memory) (a : ℕ) (bs : List ℕ) → length (overlaid m a bs) ≡ length bs
length-overlaid m a [] = refl
length-overlaid m a (b ∷ bs) = ap suc (length-overlaid m (a + 1) bs)

index-overlaid : (bs : List ℕ) (m : Memory) (a i : ℕ) → i < length bs
    → slice_index (overlaid m a bs) i ≡ unwrap_or (map.get m (a + i)) (slice_index bs i)
index-overlaid [] m a i h = absurd (omega arith)
index-overlaid (b ∷ bs) m a zero h = let same : a ≡ a + 0 = omega arith in ap (λ q. unwrap_or (map.get m q) b) same
index-overlaid (b ∷ bs) m a (suc i) h =
    let same : a + 1 + i ≡ a + suc i = omega arith in
    index-overlaid bs m (a + 1) i (omega arith) ∙ ap (λ q. unwrap_or (map.get m q) (slice_index bs i)) same

-- ---- RAM in its two parts

pub start_ram-One : (code : List ℕ) (m : Memory) (j : Leftover)
    → start_ram One code m j ≡ filled One code ++ overlaid m data_base j.bytes
unfolding start_ram
start_ram-One code m j = refl

pub start_ram-Two : (code : List ℕ) (m : Memory) (j : Leftover)
    → start_ram Two code m j ≡ overlaid m data_base j.bytes ++ filled Two code
unfolding start_ram
start_ram-Two code m j = refl

pub filled-is : (l : Layout) (code : List ℕ)
    → filled l code ≡ code_bytes code ++ replicate (code_end l - code_base l - 4 * length code) 0
unfolding filled
filled-is l code = refl

pub length-filled : (l : Layout) (code : List ℕ) → length code ≤ most_words l
    → length (filled l code) ≡ code_end l - code_base l
length-filled l code few =
    let words = (regions l).words in
    ap length (filled-is l code)
    ∙ omega (
      arith,
      length-append (code_bytes code) (replicate (code_end l - code_base l - 4 * length code) 0),
      length-word_bytes code,
      length-replicate {A = ℕ} (code_end l - code_base l - 4 * length code) 0,
    )

length-over : (m : Memory) (j : Leftover) → IsLeftover j → length (overlaid m data_base j.bytes) ≡ 2097152
length-over m j left = length-overlaid m data_base j.bytes ∙ left.bytes

-- a byte of the code region
pub index-code : (l : Layout) (code : List ℕ) (m : Memory) (j : Leftover) (i : ℕ) → length code ≤ most_words l
    → IsLeftover j → i < code_end l - code_base l
    → slice_index (start_ram l code m j) (code_place l + i) ≡ slice_index (filled l code) i
index-code One code m j i few left h =
    let inside : i < length (filled One code) = omega (arith, length-filled One code few) in
    let place : code_place One + i ≡ i = omega arith in
    ap (λ ram. slice_index ram (code_place One + i)) (start_ram-One code m j)
    ∙ ap (slice_index (filled One code ++ overlaid m data_base j.bytes)) place
    ∙ get_or_append_left (filled One code) (overlaid m data_base j.bytes) 0 i inside
index-code Two code m j i few left h =
    let place : code_place Two + i ≡ length (overlaid m data_base j.bytes) + i = omega (arith, length-over m j left) in
    ap (λ ram. slice_index ram (code_place Two + i)) (start_ram-Two code m j)
    ∙ ap (slice_index (overlaid m data_base j.bytes ++ filled Two code)) place
    ∙ get_or-append-add (overlaid m data_base j.bytes) (filled Two code) i 0

-- a byte of the data region and of the stack region
pub index-data : (l : Layout) (code : List ℕ) (m : Memory) (j : Leftover) (i : ℕ) → length code ≤ most_words l
    → IsLeftover j → i < 2097152
    → slice_index (start_ram l code m j) (data_base - ram_base l + i)
    ≡ unwrap_or (map.get m (data_base + i)) (slice_index j.bytes i)
index-data One code m j i few left h =
    let place : data_base - ram_base One + i ≡ length (filled One code) + i =
    omega (arith, length-filled One code few) in
    ap (λ ram. slice_index ram (data_base - ram_base One + i)) (start_ram-One code m j)
    ∙ ap (slice_index (filled One code ++ overlaid m data_base j.bytes)) place
    ∙ get_or-append-add (filled One code) (overlaid m data_base j.bytes) i 0
    ∙ index-overlaid j.bytes m data_base i (omega (arith, left.bytes))
index-data Two code m j i few left h =
    let inside : i < length (overlaid m data_base j.bytes) = omega (arith, length-over m j left) in
    let place : data_base - ram_base Two + i ≡ i = omega arith in
    ap (λ ram. slice_index ram (data_base - ram_base Two + i)) (start_ram-Two code m j)
    ∙ ap (slice_index (overlaid m data_base j.bytes ++ filled Two code)) place
    ∙ get_or_append_left (overlaid m data_base j.bytes) (filled Two code) 0 i inside
    ∙ index-overlaid j.bytes m data_base i (omega (arith, left.bytes))

pub length-start_ram : (l : Layout) (code : List ℕ) (m : Memory) (j : Leftover) → length code ≤ most_words l
    → IsLeftover j → length (start_ram l code m j) ≡ ram_size l
length-start_ram One code m j few left =
    ap length (start_ram-One code m j) ∙ length-append (filled One code) (overlaid m data_base j.bytes)
    ∙ omega (arith, length-filled One code few, length-over m j left)
length-start_ram Two code m j few left =
    ap length (start_ram-Two code m j) ∙ length-append (overlaid m data_base j.bytes) (filled Two code)
    ∙ omega (arith, length-filled Two code few, length-over m j left)

-- ---- what it has

-- the machine has the code that it starts with
pub HasCode-start : (l : Layout) (code : List ℕ) (offset : ℕ) (args : List ℕ) (m : Memory) (j : Leftover)
    → length code ≤ most_words l → IsLeftover j → HasCode code (start l code offset args m j)
HasCode-start l code offset args m j few left = record {
  count = refl;
  bytes = λ i h.
      let inside : i < length (code_bytes code) = omega (arith, length-word_bytes code) in
      index-code l code m j i few left (omega (arith, (regions l).words))
      ∙ ap (λ bs. slice_index bs i) (filled-is l code)
      ∙ get_or_append_left (code_bytes code) (replicate (code_end l - code_base l - 4 * length code) 0) 0 i inside;
}

-- a byte of the data region is the memory's where it has the address
pub byte_of-start : (l : Layout) (code : List ℕ) (offset : ℕ) (args : List ℕ) (m : Memory) (j : Leftover) (a : ℕ)
    → length code ≤ most_words l → IsLeftover j → data_base ≤ a → a < stack_base
    → byte_of (start l code offset args m j) a ≡ unwrap_or (map.get m a) (byte_of (start l code offset args m j) a)
byte_of-start l code offset args m j a few left from to =
    let i : ℕ = a - data_base in
    let place : a - ram_base l ≡ data_base - ram_base l + i = omega (arith, (regions l).data_in) in
    let at : data_base + i ≡ a = omega arith in
    let is : byte_of (start l code offset args m j) a ≡ unwrap_or (map.get m a) (slice_index j.bytes i) =
    ap (slice_index (start_ram l code m j)) place
    ∙ index-data l code m j i few left (omega arith)
    ∙ ap (λ q. unwrap_or (map.get m q) (slice_index j.bytes i)) at in
    again (map.get m a) (byte_of (start l code offset args m j) a) (slice_index j.bytes i) is
  where
    again : (o : Option ℕ) (x y : ℕ) → x ≡ unwrap_or o y → x ≡ unwrap_or o x
    again (Some b) x y e = e
    again None x y e = refl

length-with_words : (vs registers : List ℕ) (r : ℕ) → length (with_words r vs registers) ≡ length registers
length-with_words [] registers r = refl
length-with_words (v ∷ vs) registers r =
    length-with_words vs (slice_set registers r v) (r + 1) ∙ length-set registers r v

pub length-start_registers : (l : Layout) (code : List ℕ) (offset : ℕ) (args : List ℕ) (m : Memory) (j : Leftover)
    → IsLeftover j → length (start l code offset args m j).registers ≡ 32
length-start_registers l code offset args m j left =
    length-with_words args (slice_set j.registers 0 0) 10 ∙ length-set j.registers 0 0 ∙ left.registers
