-- The machine as a call begins, as a machine in the middle of its code.
use Rattle.std.proofs.Common.{◌≡◌, ℕ, zero, suc, ◌+◌, ◌-◌, ◌*◌, ◌/◌, ◌^◌, ◌<◌, ◌≤◌, List, [], ◌∷◌, ◌++◌, length}
use Rattle.std.proofs.Common.{take, replicate, Option, Some, None, refl, ap, subst, ◌∙◌, arith, length-append}
use Rattle.std.specs.Prelude.{slice_get, slice_index, slice_set, IfSome, unwrap_or}
use Rattle.std.specs.List.{AllByRecursion}
use Rattle.std.specs.FinMap as map
use Rattle.std.proofs.Math.ListN.{length-set}
use Rattle.std.proofs.lemmas.List.{get_or_append_left, length-replicate, drop_at, get_or-set_other, get_or-set_same}
use Rattle.br_words.specs.declared.layout.Layout.TheVariants.{Two}
use Rattle.br_bytes.specs.Number.{low_bytes}
use Rattle.br_bytes.specs.Memory.{Memory}
use Rattle.br_bytes.specs.Buffers.{AreWords}
use Rattle.br_machine.specs.Start.{Leftover, IsLeftover, IsInData, with_words, overlaid, code_bytes, filled, start_ram}
use Rattle.br_emit.proofs.Stepping.{reads}
use Rattle.br_emit.proofs.Held.{Held, length-low_bytes}
use Rattle.br_emit.proofs.Pieces.{Ready}
use Rattle.br_emit.proofs.Passing.{Standing}

-- ---- lists of small numbers

all_append : (P : ℕ → Type 0) (xs ys : List ℕ) → AllByRecursion P xs → AllByRecursion P ys → AllByRecursion P (xs ++ ys)
all_append P [] ys a b = b
all_append P (x ∷ xs) ys a b = (a.0, all_append P xs ys a.1 b)

all_set : (P : ℕ → Type 0) (xs : List ℕ) (i v : ℕ) → AllByRecursion P xs → P v → AllByRecursion P (slice_set xs i v)
all_set P [] i v h p = tt
all_set P (x ∷ xs) zero v h p = (p, h.1)
all_set P (x ∷ xs) (suc i) v h p = (h.0, all_set P xs i v h.1 p)

low_bytes-small : (n v : ℕ) → AllByRecursion (λ b. b < 256) (low_bytes n v)
low_bytes-small zero v = tt
low_bytes-small (suc n) v = (omega arith, low_bytes-small n (v / 256))

code_bytes-small : (code : List ℕ) → AllByRecursion (λ b. b < 256) (code_bytes code)
code_bytes-small [] = tt
code_bytes-small (w ∷ code) =
    all_append (λ b. b < 256) (low_bytes 4 w) (code_bytes code) (low_bytes-small 4 w) (code_bytes-small code)

zeros-small : (n : ℕ) → AllByRecursion (λ b. b < 256) (replicate n 0)
zeros-small zero = tt
zeros-small (suc n) = (omega arith, zeros-small n)

overlaid-small : (m : Memory) (a : ℕ) (bs : List ℕ) → IsInData m → AllByRecursion (λ b. b < 256) bs
    → AllByRecursion (λ b. b < 256) (overlaid m a bs)
overlaid-small m a [] data_is h = tt
overlaid-small m a (b ∷ bs) data_is h = (by (map.get m a) (data_is a), overlaid-small m (a + 1) bs data_is h.1)
  where
    by : (o : Option ℕ) → IfSome o (λ v. (0x80100000 ≤ a) × (a < 0x80200000) × (v < 256)) → unwrap_or o b < 256
    by None k = h.0
    by (Some v) k = k.2

length-overlaid : (m : Memory) (a : ℕ) (bs : List ℕ) → length (overlaid m a bs) ≡ length bs
length-overlaid m a [] = refl
length-overlaid m a (b ∷ bs) = let rest = length-overlaid m (a + 1) bs in omega arith

index-overlaid : (bs : List ℕ) (m : Memory) (a i : ℕ) → i < length bs
    → slice_index (overlaid m a bs) i ≡ unwrap_or (map.get m (a + i)) (slice_index bs i)
index-overlaid [] m a i h = absurd (omega arith)
index-overlaid (b ∷ bs) m a zero h = let same : a ≡ a + 0 = omega arith in ap (λ q. unwrap_or (map.get m q) b) same
index-overlaid (b ∷ bs) m a (suc i) h =
    let same : a + 1 + i ≡ a + suc i = omega arith in
    index-overlaid bs m (a + 1) i (omega arith) ∙ ap (λ q. unwrap_or (map.get m q) (slice_index bs i)) same

length-code_bytes : (code : List ℕ) → length (code_bytes code) ≡ 4 * length code
length-code_bytes [] = refl
length-code_bytes (c ∷ code) =
    omega (arith, length-append (low_bytes 4 c) (code_bytes code), length-low_bytes 4 c, length-code_bytes code)

length-filled : (code : List ℕ) → length code ≤ 1048576 → length (filled Two code) ≡ 4194304
unfolding filled
length-filled code few = omega (
  arith,
  length-append (code_bytes code) (replicate (4194304 - 4 * length code) 0),
  length-code_bytes code,
  length-replicate {A = ℕ} (4194304 - 4 * length code) 0,
)

filled-small : (code : List ℕ) → AllByRecursion (λ b. b < 256) (filled Two code)
unfolding filled
filled-small code = all_append (λ b. b < 256) (code_bytes code) (replicate (4194304 - 4 * length code) 0)
    (code_bytes-small code) (zeros-small (4194304 - 4 * length code))

take_all : (xs : List ℕ) (n : ℕ) → length xs ≡ n → take n xs ≡ xs
take_all [] zero h = refl
take_all [] (suc n) h = absurd (omega arith)
take_all (x ∷ xs) zero h = absurd (omega arith)
take_all (x ∷ xs) (suc n) h = ap (λ q. x ∷ q) (take_all xs n (omega arith))

-- ---- registers

length-with_words : (vs registers : List ℕ) (r : ℕ) → length (with_words r vs registers) ≡ length registers
length-with_words [] registers r = refl
length-with_words (v ∷ vs) registers r =
    length-with_words vs (slice_set registers r v) (r + 1) ∙ length-set registers r v

all-with_words : (vs registers : List ℕ) (r : ℕ) → AreWords vs → AllByRecursion (λ v. v < 2 ^ 32) registers
    → AllByRecursion (λ v. v < 2 ^ 32) (with_words r vs registers)
all-with_words [] registers r h k = k
all-with_words (v ∷ vs) registers r h k =
    all-with_words vs (slice_set registers r v) (r + 1) h.1 (all_set (λ v. v < 2 ^ 32) registers r v k h.0)

index-with_words : (vs registers : List ℕ) (r q : ℕ) → q < r
    → slice_index (with_words r vs registers) q ≡ slice_index registers q
index-with_words [] registers r q h = refl
index-with_words (v ∷ vs) registers r q h = index-with_words vs (slice_set registers r v) (r + 1) q (omega arith)
    ∙ get_or-set_other registers r q v 0 (omega arith)

words_there : (vs registers : List ℕ) (r i v : ℕ) → r + length vs ≤ length registers → slice_get vs i ≡ Some v
    → slice_index (with_words r vs registers) (r + i) ≡ v
words_there [] registers r i v room is = absurd (cc)
words_there (w ∷ vs) registers r zero v room is =
    let here : r + 0 ≡ r = omega arith in
    let same : w ≡ v = cc in
    ap (slice_index (with_words (r + 1) vs (slice_set registers r w))) here
    ∙ index-with_words vs (slice_set registers r w) (r + 1) r (omega arith)
    ∙ get_or-set_same registers r w 0 (omega arith) ∙ same
words_there (w ∷ vs) registers r (suc i) v room is =
    let there : r + suc i ≡ r + 1 + i = omega arith in
    ap (slice_index (with_words (r + 1) vs (slice_set registers r w))) there
    ∙ words_there vs (slice_set registers r w) (r + 1) i v (omega (arith, length-set registers r w)) is

-- ---- the start

abbrev pub first_registers : List ℕ → Leftover → List ℕ
first_registers args j = with_words 10 args (slice_set j.registers 0 0)

reads_index : (registers : List ℕ) (r : ℕ) → 0 < r → reads registers r ≡ slice_index registers r
reads_index registers zero h = absurd (omega arith)
reads_index registers (suc r) h = refl

pub args_stand : (args : List ℕ) (j : Leftover) → IsLeftover j → length args ≤ 8
    → Standing 10 args (first_registers args j)
args_stand args j left few = record {
  at = λ i v is. (let all = left.registers in reads_index (first_registers args j) (10 + i) (omega arith)
      ∙ words_there args (slice_set j.registers 0 0) 10 i v (omega (arith, length-set j.registers 0 0)) is);
}

pub start_ready : (code args answers : List ℕ) (m : Memory) (j : Leftover) (place : ℕ)
    → length code ≤ 1048576 → place < 1048576 → IsLeftover j → IsInData m → AreWords args → AreWords answers
    → Ready code (first_registers args j) (start_ram Two code m j) answers place
unfolding start_ram
start_ready code args answers m j place few near left data_is words words' =
    let size = length-overlaid m 0x80100000 j.bytes in
    let all = left.registers in
    let room = left.bytes in
    record {
      is = record {
        registers = length-with_words args (slice_set j.registers 0 0) 10 ∙ length-set j.registers 0 0 ∙ all;
        words = all-with_words args (slice_set j.registers 0 0) 10 words
            (all_set (λ v. v < 2 ^ 32) j.registers 0 0 left.words (omega arith));
        pc = omega arith;
        aligned = omega arith;
        ram = omega (arith, length-append (overlaid m 0x80100000 j.bytes) (filled Two code), length-filled code few);
        bytes = all_append (λ b. b < 256) (overlaid m 0x80100000 j.bytes) (filled Two code)
            (overlaid-small m 0x80100000 j.bytes data_is left.small) (filled-small code);
        code = few;
      };
      holds = ap (take 4194304) (drop_at (overlaid m 0x80100000 j.bytes) (filled Two code) 2097152 (omega arith))
          ∙ take_all (filled Two code) 4194304 (length-filled code few);
      are_words = words';
    }

pub start_held : (code : List ℕ) (m : Memory) (j : Leftover) (b : ℕ) → IsLeftover j → IsInData m
    → Held b m (start_ram Two code m j)
unfolding start_ram
start_held code m j b left data_is = record {
  bytes =
      λ a v is. (let k = in_data a v is in let room = left.bytes in let size = length-overlaid m 0x80100000 j.bytes in
      let place : 0x80100000 + (a - 0x80100000) ≡ a = omega arith in
      get_or_append_left (overlaid m 0x80100000 j.bytes) (filled Two code) 0 (a - 0x80100000) (omega arith)
      ∙ index-overlaid j.bytes m 0x80100000 (a - 0x80100000) (omega arith)
      ∙ ap (λ q. unwrap_or (map.get m q) (slice_index j.bytes (a - 0x80100000))) place
      ∙ ap (λ o. unwrap_or o (slice_index j.bytes (a - 0x80100000))) is);
  from = λ a v is. (in_data a v is).0;
  to = λ a v is. (let k = in_data a v is in omega arith);
  apart = λ a v is in_stack. (let k = in_data a v is in absurd (omega arith));
}
  where
    in_data : (a v : ℕ) → map.get m a ≡ Some v → (0x80100000 ≤ a) × (a < 0x80200000) × (v < 256)
    in_data a v is = subst (λ o. IfSome o (λ b. (0x80100000 ≤ a) × (a < 0x80200000) × (b < 256))) is (data_is a)
