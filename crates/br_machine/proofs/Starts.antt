-- What is kept when a call begins is the start.
use Rattle.std.proofs.Common.{◌≡◌, ◌⊎◌, inl, inr, ℕ, ◌+◌, ◌-◌, ◌*◌, ◌%◌, ◌^◌, ◌<◌, ◌≤◌}
use Rattle.std.proofs.Common.{List, [], ◌++◌, length, replicate, Option, Some, None, Bool}
use Rattle.std.proofs.Common.{true, false, refl, sym, ap, subst, ◌∙◌, arith, length-append}
use Rattle.std.specs.Prelude.{◌&&◌, nat_le, nat_lt, if◌then◌else◌, slice_index, slice_set, unwrap_or, IfSome}
use Rattle.std.specs.List.{AllByRecursion}
use Rattle.std.specs.FinMap as finite
use Rattle.std.proofs.Math.ListN.{length-set}
use Rattle.std.proofs.lemmas.Bool.{cases_lt}
use Rattle.std.proofs.lemmas.List.{get_or_append_left, get_or-append-add}
use Rattle.std.proofs.lemmas.List.{get_or_past, get_or-replicate, length-replicate}
use Rattle.br_bytes.specs.Number.{low_bytes}
use Rattle.br_bytes.specs.Memory.{Memory}
use Rattle.br_words.specs.declared.layout.Layout.{Layout}
use Rattle.br_words.specs.Layout.{code_base, code_end, data_base, most_words, ram_base, stack_base, stack_end}
use Rattle.br_machine.specs.State.{code_place, ram_size}
use Rattle.br_machine.specs.Start.{IsInData, IsLeftover, code_bytes, filled, start_ram, with_words}
use Rattle.br_machine.specs.Junk.{junk_of}
use Rattle.br_machine.specs.Pages.{IsPaged, page_count}
use Rattle.br_machine.specs.Kept.{Kept, IsKept, byte_at, bytes_in, first_byte, start_byte}
use Rattle.br_machine.proofs.Regions.{regions, in_one_region}
use Rattle.br_bytes.proofs.Words.{length-word_bytes, AreBytes-low_bytes, AreBytes-word_bytes}
use Rattle.br_machine.proofs.Begins.{HasCode-start, filled-is, index-code, index-data, length-start_ram}
use Rattle.br_machine.proofs.Leftovers.{IsLeftover-junk_of, all_below-at, all_below-replicate}
use Rattle.br_machine.proofs.Leftovers.{all_below-with_words, byte-junk_of, length-with_words}
use Rattle.br_machine.proofs.Words.{all_below-index, all_below-set}
use Rattle.br_machine.proofs.Kept.{bytes_in-is}

-- after the code's bytes there are zeros, as past their end
index-filled : (l : Layout) (code : List ℕ) (i : ℕ) → i < code_end l - code_base l
    → slice_index (filled l code) i ≡ slice_index (code_bytes code) i
index-filled l code i h =
    let n : ℕ = code_end l - code_base l - 4 * length code in
    let zeros : List ℕ = replicate n 0 in
    ap (λ bs. slice_index bs i) (filled-is l code)
    ∙ elim (cases_lt i (length (code_bytes code))) [
      | inl p ↦ get_or_append_left (code_bytes code) zeros 0 i (omega (arith, length-append (code_bytes code) zeros))
      | inr p ↦
          (let k : ℕ = i - length (code_bytes code) in
          let place : i ≡ length (code_bytes code) + k = omega arith in
          ap (slice_index (code_bytes code ++ zeros)) place ∙ get_or-append-add (code_bytes code) zeros k 0
          ∙ get_or-replicate n k 0 0 (omega (arith, length-word_bytes code))
          ∙ sym (get_or_past (code_bytes code) i 0 p))
    ]

-- a memory of the data region has no byte of the code region
none_in_code : (l : Layout) (m : Memory) (a : ℕ) → IsInData m → code_base l ≤ a → a < code_end l → finite.get m a ≡ None
none_in_code l m a in_data from to = decided (finite.get m a) (in_data a)
  where
    decided : (o : Option ℕ) → IfSome o (λ b. (data_base ≤ a) × (a < stack_base) × (b < 256)) → o ≡ None
    decided None _ = refl
    decided (Some b) (low, high, small) = absurd (elim (regions l).apart [
      | inl h ↦ (let e : ⊥ = omega arith in e)
      | inr h ↦ (let e : ⊥ = omega arith in e)
    ])

test_true : (l : Layout) (a : ℕ) → code_base l ≤ a → a < code_end l
    → (nat_le (code_base l) a && nat_lt a (code_end l)) ≡ true
test_true l a from to = grind arith

test_false : (l : Layout) (a : ℕ) → data_base ≤ a → a < stack_end
    → (nat_le (code_base l) a && nat_lt a (code_end l)) ≡ false
test_false l a from to = elim (regions l).apart [
  | inl h ↦ (let e : (nat_le (code_base l) a && nat_lt a (code_end l)) ≡ false = grind arith in e)
  | inr h ↦ (let e : (nat_le (code_base l) a && nat_lt a (code_end l)) ≡ false = grind arith in e)
]

-- a byte of the start
pub start_byte-is : (l : Layout) (code : List ℕ) (m : Memory) (word place : ℕ) → length code ≤ most_words l
    → word < 2 ^ 32 → IsInData m → place < ram_size l
    → slice_index (start_ram l code m (junk_of word)) place ≡ start_byte l code m word place
start_byte-is l code m word place few fits in_data inside =
    decided (in_one_region l (ram_base l + place) (omega arith) (omega arith))
  where
    left : IsLeftover (junk_of word)
    left = IsLeftover-junk_of word fits

    a : ℕ
    a = ram_base l + place

    ram : List ℕ
    ram = start_ram l code m (junk_of word)

    decided : ((code_base l ≤ ram_base l + place) × (ram_base l + place < code_end l))
        ⊎ ((data_base ≤ ram_base l + place) × (ram_base l + place < stack_end))
        → slice_index ram place ≡ start_byte l code m word place
    decided (inl (from, to)) =
        let i : ℕ = a - code_base l in
        let at : place ≡ code_place l + i = omega (arith, (regions l).code_in) in
        let within : i < code_end l - code_base l = omega arith in
        let none = none_in_code l m a in_data from to in
        let test = test_true l a from to in
        ap (slice_index ram) at ∙ index-code l code m (junk_of word) i few left within ∙ index-filled l code i within
        ∙ sym (ap (λ o. unwrap_or o (first_byte l code word place)) none
        ∙ ap (λ b. if b then slice_index (code_bytes code) (a - code_base l)
        else slice_index (low_bytes 4 word) (a % 4)) test)
    decided (inr (from, to)) =
        let i : ℕ = a - data_base in
        let at : place ≡ data_base - ram_base l + i = omega (arith, (regions l).data_in) in
        let here : data_base + i ≡ a = omega arith in
        let test = test_false l a from to in
        ap (slice_index ram) at ∙ index-data l code m (junk_of word) i few left (omega arith)
        ∙ ap (λ q. unwrap_or (finite.get m q) (slice_index (junk_of word).bytes i)) here
        ∙ ap (unwrap_or (finite.get m a)) (byte-junk_of word a from to)
        ∙ ap (unwrap_or (finite.get m a))
        (sym (ap (λ b. if b then slice_index (code_bytes code) (a - code_base l)
        else slice_index (low_bytes 4 word) (a % 4)) test))

-- ---- what is kept at the start

pub bytes_in-start : (l : Layout) (code : List ℕ) (m : Memory) (word : ℕ) (pages : List (Option (List ℕ)))
    → length code ≤ most_words l → word < 2 ^ 32 → IsInData m
    → ((place : ℕ) → place < ram_size l → byte_at l code word pages place ≡ start_byte l code m word place)
    → bytes_in l code word pages ≡ start_ram l code m (junk_of word)
bytes_in-start l code m word pages few fits in_data told =
    bytes_in-is l code word pages (start_ram l code m (junk_of word))
    (length-start_ram l code m (junk_of word) few (IsLeftover-junk_of word fits))
    (λ place h. told place h ∙ sym (start_byte-is l code m word place few fits in_data h))

first_byte_below : (l : Layout) (code : List ℕ) (word place : ℕ) → first_byte l code word place < 256
first_byte_below l code word place =
    either (nat_le (code_base l) (ram_base l + place) && nat_lt (ram_base l + place) (code_end l))
  where
    either : (b : Bool) → (if b then slice_index (code_bytes code) (ram_base l + place - code_base l)
        else slice_index (low_bytes 4 word) ((ram_base l + place) % 4)) < 256
    either true = all_below-index 256 (code_bytes code) _ (omega arith) (AreBytes-word_bytes code)
    either false = all_below-index 256 (low_bytes 4 word) _ (omega arith) (AreBytes-low_bytes 4 word)

start_byte_below : (l : Layout) (code : List ℕ) (m : Memory) (word place : ℕ) → IsInData m
    → start_byte l code m word place < 256
start_byte_below l code m word place in_data = either (finite.get m (ram_base l + place)) (in_data (ram_base l + place))
  where
    either : (o : Option ℕ)
        → IfSome o (λ b. (data_base ≤ ram_base l + place) × (ram_base l + place < stack_base) × (b < 256))
        → unwrap_or o (first_byte l code word place) < 256
    either None _ = first_byte_below l code word place
    either (Some b) is = is.2

pub IsKept-start : (l : Layout) (code : List ℕ) (m : Memory) (word : ℕ) (made : List Bool) → length code ≤ most_words l
    → word < 2 ^ 32 → IsInData m → length made ≡ page_count l
    → IsKept (record { layout = l; code = code; bytes = start_ram l code m (junk_of word); made = made })
IsKept-start l code m word made few fits in_data count = record {
  few = few;
  pages = count;
  size = size;
  bytes = all_below-at 256 ram (λ i. elim (cases_lt i (ram_size l)) [
    | inl h ↦ subst (λ b. b < 256) (sym (start_byte-is l code m word i few fits in_data h))
        (start_byte_below l code m word i in_data)
    | inr h ↦
        subst (λ b. b < 256) (sym (get_or_past ram i 0 (omega (arith, size)))) (let e : 0 < 256 = omega arith in e)
  ]);
  code = (HasCode-start l code 0 [] m (junk_of word) few (IsLeftover-junk_of word fits)).bytes;
}
  where
    ram : List ℕ
    ram = start_ram l code m (junk_of word)

    size : length ram ≡ ram_size l
    size = length-start_ram l code m (junk_of word) few (IsLeftover-junk_of word fits)

-- ---- the machine

-- the registers at the start
abbrev pub start_registers : ℕ → List ℕ → List ℕ
start_registers word args = with_words 10 args (slice_set (replicate 32 word) 0 0)

pub IsPaged-start : (k : Kept) (args : List ℕ) (word entry : ℕ) → IsKept k → AllByRecursion (λ x. x < 2 ^ 32) args
    → word < 2 ^ 32
    → entry < code_end k.layout - code_base k.layout → entry % 4 ≡ 0
    → IsPaged (record {
      state = record {
        layout = k.layout;
        registers = start_registers word args;
        pc = code_base k.layout + entry;
        ram = k.bytes;
        code_words = length k.code;
      };
      made = k.made;
    })
IsPaged-start k args word entry is small fits inside even =
    let r = regions k.layout in
    record {
      machine = record {
        registers = length-with_words args _ 10 ∙ length-set (replicate 32 word) 0 0 ∙ length-replicate 32 word;
        words = all_below-with_words (2 ^ 32) args _ 10 small
            (all_below-set (2 ^ 32) (replicate 32 word) 0 0 (all_below-replicate (2 ^ 32) 32 word fits) (omega arith));
        pc = omega (arith, r.high, r.code_to);
        aligned = omega (arith, r.aligned);
        ram = is.size;
        bytes = is.bytes;
        code = is.few;
      };
      pages = is.pages;
    }
