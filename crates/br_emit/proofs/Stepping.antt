-- One instruction of code at a time, on a machine of layout Two.
use Rattle.std.proofs.Common.{◌≡◌, ◌≢◌, ℕ, zero, suc, ◌+◌, ◌-◌, ◌*◌, ◌/◌, ◌%◌, ◌^◌, ◌<◌, ◌≤◌}
use Rattle.std.proofs.Common.{List, [], ◌∷◌, length, take, drop, Option, Some, None, true}
use Rattle.std.proofs.Common.{refl, sym, ap, subst, ◌∙◌, arith, length-append, replicate}
use Rattle.std.specs.Prelude.{slice_get, slice_index, slice_set, nat_lt, nat_le, ◌&&◌, if◌then◌else◌}
use Rattle.std.proofs.Math.ListN.{length-set}
use Rattle.std.proofs.lemmas.List.{get_or-set_other, get_or-set_same, get_or_append_left, get_or-append-add}
use Rattle.br_bytes.specs.declared.run.Event.{Event}
use Rattle.br_bytes.specs.Number.{number_of, low_bytes}
use Rattle.br_words.specs.declared.layout.Layout.TheVariants.{Two}
use Rattle.br_rv32im.specs.declared.instruction.Ins.{Ins}
use Rattle.br_rv32im.specs.Encoding.{word_of, Fits}
use Rattle.br_rv32im.specs.Row.{row_of}
use Rattle.br_machine.specs.declared.stepped.Stepped.{Stepped}
use Rattle.br_machine.specs.declared.stepped.Stepped.TheVariants.{Ran}
use Rattle.br_machine.specs.declared.stepped.Trap.TheVariants.{FetchOutside}
use Rattle.br_machine.specs.State.{MachineState, register, with_register, bytes_from}
use Rattle.br_machine.specs.Traps.{trap_of}
use Rattle.br_machine.specs.Effects.{effect, computes}
use Rattle.br_machine.specs.Step.{step, fetched, is_in_code, execute, obey, trapped}
use Rattle.br_machine.specs.Steps.{Moment, moment_after, code_region, accessed, IsAbove, StepsTo}
use Rattle.br_machine.specs.Start.{filled, code_bytes}

-- ---- a machine in the middle of its code

-- a machine at word j of its code
abbrev pub machine : List ℕ → ℕ → List ℕ → List ℕ → MachineState
machine code j registers ram =
    record { layout = Two; registers = registers; pc = 0x80300000 + 4 * j; ram = ram; code_words = length code }

abbrev pub at : List ℕ → ℕ → List ℕ → List ℕ → List ℕ → List Event → Moment
at code j registers ram answers trace =
    record { machine = machine code j registers ram; answers = answers; trace = trace }

-- the code region of a RAM
abbrev pub region : List ℕ → List ℕ
region ram = take 4194304 (drop 2097152 ram)

-- what holds of a machine that runs code
pub record Good (code registers ram : List ℕ) : Type 0 where
  pub few : length code ≤ 1048576
  pub all : length registers ≡ 32
  pub whole : length ram ≡ 6291456
  pub holds : region ram ≡ filled Two code

-- ---- words of code

-- what the instruction table says of words
pub record Table : Type 0 where
  pub small : (i : Ins) → Fits i → word_of i < 2 ^ 32
  pub decoded : (i : Ins) → Fits i → row_of (word_of i) ≡ Some i

pub within_code : (code : List ℕ) (j w : ℕ) → slice_get code j ≡ Some w → j < length code
within_code [] j w h = absurd (cc)
within_code (c ∷ code) zero w h = omega arith
within_code (c ∷ code) (suc j) w h = omega (arith, within_code code j w h)

length-low_bytes : (n v : ℕ) → length (low_bytes n v) ≡ n
length-low_bytes zero v = refl
length-low_bytes (suc n) v = let is = length-low_bytes n (v / 256) in omega arith

-- the bytes of a word of code stand at four times its number
pub code_bytes-at : (code : List ℕ) (j w i : ℕ) → slice_get code j ≡ Some w → i < 4
    → slice_index (code_bytes code) (4 * j + i) ≡ slice_index (low_bytes 4 w) i
code_bytes-at [] j w i h l = absurd (cc)
code_bytes-at (c ∷ code) zero w i h l =
    let is : c ≡ w = cc in
    let place : 4 * 0 + i ≡ i = omega arith in
    ap (slice_index (code_bytes (c ∷ code))) place
    ∙ get_or_append_left (low_bytes 4 c) (code_bytes code) 0 i (omega (arith, length-low_bytes 4 c))
    ∙ ap (λ v. slice_index (low_bytes 4 v) i) is
code_bytes-at (c ∷ code) (suc j) w i h l =
    let place : 4 * suc j + i ≡ length (low_bytes 4 c) + (4 * j + i) = omega (arith, length-low_bytes 4 c) in
    ap (slice_index (code_bytes (c ∷ code))) place
    ∙ get_or-append-add (low_bytes 4 c) (code_bytes code) (4 * j + i) 0
    ∙ code_bytes-at code j w i h l

length-code_bytes : (code : List ℕ) → length (code_bytes code) ≡ 4 * length code
length-code_bytes [] = refl
length-code_bytes (c ∷ code) =
    omega (arith, length-append (low_bytes 4 c) (code_bytes code), length-low_bytes 4 c, length-code_bytes code)

-- an element of the front of the back of a list
index-part : (n k i : ℕ) (xs : List ℕ) → i < n → slice_index (take n (drop k xs)) i ≡ slice_index xs (k + i)
index-part zero k i xs l = absurd (omega arith)
index-part (suc n) zero i [] l = refl
index-part (suc n) zero zero (x ∷ xs) l = refl
index-part (suc n) zero (suc i) (x ∷ xs) l =
    let is : 0 + suc i ≡ suc (0 + i) = omega arith in
    index-part n zero i xs (omega arith) ∙ ap (slice_index (x ∷ xs)) (sym is)
index-part (suc n) (suc k) i [] l = refl
index-part (suc n) (suc k) i (x ∷ xs) l =
    let is : suc k + i ≡ suc (k + i) = omega arith in
    index-part (suc n) k i xs l ∙ ap (slice_index (x ∷ xs)) (sym is)

-- a byte of the code, in RAM
pub ram-code : (code registers ram : List ℕ) (i : ℕ) → Good code registers ram → i < 4 * length code
    → slice_index ram (2097152 + i) ≡ slice_index (code_bytes code) i
unfolding filled
ram-code code registers ram i good l =
    let few = good.few in
    sym (index-part 4194304 2097152 i ram (omega arith))
    ∙ ap (λ bytes. slice_index bytes i) good.holds
    ∙ get_or_append_left (code_bytes code) (replicate (4194304 - 4 * length code) 0) 0 i
    (omega (arith, length-code_bytes code))

number_of-low_bytes : (w : ℕ) → w < 2 ^ 32 → number_of (low_bytes 4 w) ≡ w
number_of-low_bytes w small = omega arith

-- the word at pc is that of the code
fetched-code : (code registers ram : List ℕ) (j w : ℕ) → Good code registers ram → slice_get code j ≡ Some w
    → w < 2 ^ 32 → fetched (machine code j registers ram) ≡ w
fetched-code code registers ram j w good h small =
    let inside = within_code code j w h in
    let p : 0x80300000 + 4 * j - 0x80100000 ≡ 2097152 + 4 * j = omega arith in
    let place : (i : ℕ) → i < 4 → slice_index ram (2097152 + (4 * j + i)) ≡ slice_index (low_bytes 4 w) i =
    λ i l. ram-code code registers ram (4 * j + i) good (omega arith) ∙ code_bytes-at code j w i h l in
    let zeroth : slice_index ram (2097152 + 4 * j) ≡ slice_index (low_bytes 4 w) 0 = ap (slice_index ram) (omega arith)
    ∙ place 0 (omega arith) in
    let first : slice_index ram (2097152 + 4 * j + 1) ≡ slice_index (low_bytes 4 w) 1 =
    ap (slice_index ram) (omega arith) ∙ place 1 (omega arith) in
    let second : slice_index ram (2097152 + 4 * j + 1 + 1) ≡ slice_index (low_bytes 4 w) 2 =
    ap (slice_index ram) (omega arith) ∙ place 2 (omega arith) in
    let third : slice_index ram (2097152 + 4 * j + 1 + 1 + 1) ≡ slice_index (low_bytes 4 w) 3 =
    ap (slice_index ram) (omega arith) ∙ place 3 (omega arith) in
    let bytes : bytes_from ram (2097152 + 4 * j) 4 ≡ low_bytes 4 w = rw (zeroth, first, second, third) refl in
    ap (λ q. number_of (bytes_from ram q 4)) p ∙ ap number_of bytes ∙ number_of-low_bytes w small

between-true : (a b c : ℕ) → a ≤ b → b < c → (nat_le a b && nat_lt b c) ≡ true
between-true a b c from to = grind arith

is_in_code-at : (code registers ram : List ℕ) (j w : ℕ) → Good code registers ram → slice_get code j ≡ Some w
    → is_in_code (machine code j registers ram) ≡ true
is_in_code-at code registers ram j w good h =
    let inside = within_code code j w h in
    between-true 0x80300000 (0x80300000 + 4 * j) (0x80300000 + 4 * length code) (omega arith) (omega arith)

-- the instruction at word j
abbrev pub Has : List ℕ → ℕ → Ins → Type 0
Has code j i = slice_get code j ≡ Some (word_of i)

-- a step obeys the instruction that stands at pc
pub step-at : Table → (code registers ram : List ℕ) (j : ℕ) (i : Ins) (next : Option ℕ)
    → Good code registers ram → Has code j i → Fits i → step (machine code j registers ram) next
    ≡ obey i (trap_of i (machine code j registers ram)) (machine code j registers ram) next
step-at table code registers ram j i next good h fits =
    let s = machine code j registers ram in
    let inside = is_in_code-at code registers ram j (word_of i) good h in
    let word = fetched-code code registers ram j (word_of i) good h (table.small i fits) in
    ap (λ b. if b then execute (row_of (fetched s)) s next else trapped FetchOutside s) inside
    ∙ ap (λ v. execute (row_of v) s next) word ∙ ap (λ r. execute r s next) (table.decoded i fits)

-- ---- one step

-- an instruction that breaks no rule leads on to what its effect says
pub steps_by : Table → (code registers ram answers : List ℕ) (trace : List Event) (low j : ℕ) (i : Ins) (next : Moment)
    (s : MachineState) (how : Stepped)
    → Good code registers ram → Has code j i → Fits i
    → trap_of i (machine code j registers ram) ≡ None
    → effect i (machine code j registers ram) (slice_get answers 0) ≡ (s, how)
    → moment_after (at code j registers ram answers trace) (s, how) ≡ Some next
    → code_region next.machine ≡ region ram → IsAbove low (accessed (Some i) (machine code j registers ram))
    → StepsTo low (at code j registers ram answers trace) next
steps_by table code registers ram answers trace low j i next s how good h fits fine does leads same above =
    let m = at code j registers ram answers trace in
    record {
      after = ap (moment_after m) (step-at table code registers ram j i (slice_get answers 0) good h fits
          ∙ ap (λ t. obey i t m.machine (slice_get answers 0)) fine ∙ does) ∙ leads;
      code = same;
      stack =
          let read : row_of (fetched m.machine) ≡ Some i =
          ap row_of (fetched-code code registers ram j (word_of i) good h (table.small i fits))
          ∙ table.decoded i fits in
          subst (λ r. IsAbove low (accessed r m.machine)) (sym read) above;
    }

-- registers with one set: x0 keeps no write
abbrev pub put : ℕ → ℕ → List ℕ → List ℕ
put zero v registers = registers
put (suc r) v registers = slice_set registers (suc r) v

-- what a register reads as
abbrev pub reads : List ℕ → ℕ → ℕ
reads registers zero = 0
reads registers (suc r) = slice_index registers (suc r)

pub register-machine : (code registers ram : List ℕ) (j r : ℕ)
    → register (machine code j registers ram) r ≡ reads registers r
register-machine code registers ram j zero = refl
register-machine code registers ram j (suc r) = refl

pub with_register-machine : (code registers ram : List ℕ) (j r v : ℕ)
    → with_register r v (machine code j registers ram) ≡ machine code j (put r v registers) ram
with_register-machine code registers ram j zero v = refl
with_register-machine code registers ram j (suc r) v = refl

pub length-put : (r v : ℕ) (registers : List ℕ) → length (put r v registers) ≡ length registers
length-put zero v registers = refl
length-put (suc r) v registers = length-set registers (suc r) v

pub reads-put_same : (r v : ℕ) (registers : List ℕ) → r ≢ 0 → r < length registers → reads (put r v registers) r ≡ v
reads-put_same zero v registers ne h = absurd (ne refl)
reads-put_same (suc r) v registers ne h = get_or-set_same registers (suc r) v 0 h

pub reads-put_other : (r q v : ℕ) (registers : List ℕ) → q ≢ r → reads (put r v registers) q ≡ reads registers q
reads-put_other zero q v registers ne = refl
reads-put_other (suc r) zero v registers ne = refl
reads-put_other (suc r) (suc q) v registers ne = get_or-set_other registers (suc r) (suc q) v 0 ne

pub Good-put : (code registers ram : List ℕ) (r v : ℕ) → Good code registers ram → Good code (put r v registers) ram
Good-put code registers ram r v good =
    record { few = good.few; all = length-put r v registers ∙ good.all; whole = good.whole; holds = good.holds }

-- no byte is accessed
pub IsAbove-none : (low : ℕ) → IsAbove low (0, 0)
IsAbove-none low b from to in_stack = absurd (omega arith)

-- the address of the next word of the code
next_word : (code : List ℕ) (j : ℕ) → length code ≤ 1048576 → j < length code
    → (0x80300000 + 4 * j + 4) % 2 ^ 32 ≡ 0x80300000 + 4 * (j + 1)
next_word code j few inside = omega arith

-- an instruction that goes on at another word
pub step_goes : Table → (code registers ram answers : List ℕ) (trace : List Event) (low j to : ℕ) (i : Ins) (rd v a : ℕ)
    → Good code registers ram → Has code j i → Fits i
    → trap_of i (machine code j registers ram) ≡ None
    → effect i (machine code j registers ram) (slice_get answers 0)
    ≡ (with_register rd v (record (machine code j registers ram) { pc = a }), Ran)
    → a ≡ 0x80300000 + 4 * to
    → IsAbove low (accessed (Some i) (machine code j registers ram))
    → StepsTo low (at code j registers ram answers trace) (at code to (put rd v registers) ram answers trace)
step_goes table code registers ram answers trace low j to i rd v a good h fits fine does is above =
    let goes : with_register rd v (record (machine code j registers ram) { pc = a })
    ≡ machine code to (put rd v registers) ram =
    ap (λ q. with_register
    rd v (record { layout = Two; registers = registers; pc = q; ram = ram; code_words = length code })) is
    ∙ with_register-machine code registers ram to rd v in
    steps_by table code registers ram answers trace low j i (at code to (put rd v registers) ram answers trace)
    (with_register rd v (record (machine code j registers ram) { pc = a })) Ran good h fits fine does
    (ap (λ s. Some (record { machine = s; answers = answers; trace = trace })) goes) refl above

-- an instruction that sets a register and goes on after itself
pub step_sets : Table → (code registers ram answers : List ℕ) (trace : List Event) (low j : ℕ) (i : Ins) (rd v : ℕ)
    → Good code registers ram → Has code j i → Fits i
    → trap_of i (machine code j registers ram) ≡ None
    → effect i (machine code j registers ram) (slice_get answers 0)
    ≡ (computes rd v (machine code j registers ram), Ran)
    → IsAbove low (accessed (Some i) (machine code j registers ram))
    → StepsTo low (at code j registers ram answers trace) (at code (j + 1) (put rd v registers) ram answers trace)
step_sets table code registers ram answers trace low j i rd v good h fits fine does above =
    step_goes table code registers ram answers trace low j (j + 1) i rd v ((0x80300000 + 4 * j + 4) % 2 ^ 32) good h
    fits fine does
    (next_word code j good.few (within_code code j (word_of i) h)) above
