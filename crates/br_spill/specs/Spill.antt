-- The flat statements that pass words in registers, of each statement of a flat program. A
-- name has a place: a register, or a word of one buffer that stands around the body of its
-- function. A word of the buffer is loaded to a spare register before it is read and stored
-- from one after it is written. Words are passed in registers that hold no name. With at
-- most 32 registers the statements are in register form; with more, a register of each name
-- is left to whoever gives them new ones.
use Rattle.std.specs.Prelude.{◌≡◌, ℕ, zero, suc, ◌+◌, ◌-◌, ◌*◌, ◌^◌, ◌<◌, ◌≤◌, Bool}
use Rattle.std.specs.Prelude.{true, ◌&&◌, ◌||◌, List, [], ◌∷◌, ◌++◌, map, sum, length}
use Rattle.std.specs.Prelude.{IsTrue, min, nat_lt, nat_le, ◌==◌, pos, if◌then◌else◌}
use Rattle.std.specs.List.{list_all}
use Rattle.br_words.specs.declared.operation.BinOp.TheVariants.{Add}
use Rattle.br_words.specs.declared.size.Size.TheVariants.{Four}
use Rattle.br_flatimp.specs.declared.program.Operand.{Operand}
use Rattle.br_flatimp.specs.declared.program.Operand.TheVariants as operand
use Rattle.br_flatimp.specs.declared.program.Cond.{Cond}
use Rattle.br_flatimp.specs.declared.program.Cond.TheVariants.{NonZero, Compare}
use Rattle.br_flatimp.specs.declared.program.Stmt.{Stmt}
use Rattle.br_flatimp.specs.declared.program.Stmt.TheOpen.{Stmt-F}
use Rattle.br_flatimp.specs.declared.program.Stmt.TheViews.{roll-Stmt}
use Rattle.br_flatimp.specs.declared.program.Stmt.TheFolds.{fold-Stmt}
use Rattle.br_flatimp.specs.declared.program.FlatFunc.{FlatFunc}
use Rattle.br_spill.specs.declared.place.Place.{Place}
use Rattle.br_spill.specs.declared.place.Place.TheVariants.{Register, Slot}
use Rattle.br_spill.specs.declared.place.Kind.{Kind}
use Rattle.br_spill.specs.declared.place.Kind.TheVariants.{Narrow, Wide}
use Rattle.br_spill.specs.declared.place.Places.{Places}
pub use Rattle.br_flatimp.specs.Parts.{joined}
use Rattle.br_flatimp.specs.Parts.{throughout}
use Rattle.br_flatimp.specs.Liveness.{has_no_dead, has_no_dead_but_copies}
use Rattle.br_flatimp.specs.Missed.{has_no_missed}
use Rattle.br_flatimp.specs.Sizes.{added}

-- ---- places

-- a register, or one of the first words of a buffer, so that its offset is a word
abbrev pub IsNear : Place → Type 0
IsNear (Register r) = Unit {0}
IsNear (Slot k) = k ≤ 1048576

pub record Layout : Type 0 where
  -- the place of each name
  pub place : ℕ → Place
  -- the words of the buffer; with none there is no buffer
  pub slots : ℕ
  -- the registers are the numbers below this one
  pub registers : ℕ

-- A register that may hold a name, of so many: none of those that pass words, and in a
-- function with a buffer none of those that are kept aside: 3 for the buffer's
-- address, 4 and 5 for words on their way.
abbrev pub holds_names : ℕ → ℕ → ℕ → Bool
holds_names registers slots r =
    ((nat_le 3 r && nat_le r 9) || (nat_le 18 r && nat_lt r registers)) && ((slots == 0) || nat_le 6 r)

abbrev pub is_inside : ℕ → ℕ → Place → Bool
is_inside registers slots (Register r) = holds_names registers slots r
is_inside registers slots (Slot k) = nat_lt k slots

-- A layout for so many names: each has a place of its own. The registers that pass
-- words and those that are kept aside are among the registers, which are no more
-- than the names that a function may have.
pub record Fits (names : ℕ) (l : Layout) : Type 0 where
  pub inside : (x : ℕ) → x < names → IsTrue (is_inside l.registers l.slots (l.place x))
  pub apart : (x y : ℕ) → x < names → y < names → l.place x ≡ l.place y → x ≡ y
  pub few : l.slots ≤ names
  pub enough : 18 ≤ l.registers
  pub most : l.registers ≤ 1048576

-- ---- words of the buffer

-- loads a word of the buffer; past the reach of a byte offset its address is computed first
abbrev pub fetch : ℕ → ℕ → List Stmt
fetch k r =
    if nat_lt k 512 then roll-Stmt (Stmt-F.Load r Four 3 (pos (4 * k))) ∷ []
    else roll-Stmt (Stmt-F.Lit r (4 * k)) ∷ roll-Stmt (Stmt-F.Op r Add r (operand.Name 3))
    ∷ roll-Stmt (Stmt-F.Load r Four r (pos 0)) ∷ []

-- stores a word of the buffer from a register other than 5
abbrev pub put_away : ℕ → ℕ → List Stmt
put_away k r =
    if nat_lt k 512 then roll-Stmt (Stmt-F.Store Four 3 r (pos (4 * k))) ∷ []
    else roll-Stmt (Stmt-F.Lit 5 (4 * k)) ∷ roll-Stmt (Stmt-F.Op 5 Add 5 (operand.Name 3))
    ∷ roll-Stmt (Stmt-F.Store Four 5 r (pos 0)) ∷ []

-- ---- names that are read and written

-- brings a word to a register: its own, or a spare one
abbrev pub bring : Place → ℕ → List Stmt
bring (Register r) spare = []
bring (Slot k) spare = fetch k spare

-- the register that a word is brought to, or written to at first
abbrev pub at : Place → ℕ → ℕ
at (Register r) spare = r
at (Slot k) spare = spare

-- puts a word away that was written to register 4 at first
abbrev pub keep : Place → List Stmt
keep (Register r) = []
keep (Slot k) = put_away k 4

-- puts a register's word in a place
abbrev pub put : Place → ℕ → List Stmt
put (Register r) from = roll-Stmt (Stmt-F.Copy r from) ∷ []
put (Slot k) from = put_away k from

-- passes a word to a register
abbrev pub pass : Place → ℕ → List Stmt
pass (Register r) to = roll-Stmt (Stmt-F.Copy to r) ∷ []
pass (Slot k) to = fetch k to

-- puts the word of the second place in the first
abbrev pub copy : Place → Place → List Stmt
copy to (Register r) = put to r
copy to (Slot k) = fetch k (at to 4) ++ keep to

abbrev pub bring_operand : Layout → Operand → List Stmt
bring_operand l (operand.Name z) = bring (l.place z) 5
bring_operand l (operand.Const c) = []

abbrev pub operand_at : Layout → Operand → Operand
operand_at l (operand.Name z) = operand.Name (at (l.place z) 5)
operand_at l (operand.Const c) = operand.Const c

abbrev pub bring_test : Layout → Cond → List Stmt
bring_test l (NonZero y) = bring (l.place y) 4
bring_test l (Compare rel y z) = bring (l.place y) 4 ++ bring (l.place z) 5

abbrev pub test_at : Layout → Cond → Cond
test_at l (NonZero y) = NonZero (at (l.place y) 4)
test_at l (Compare rel y z) = Compare rel (at (l.place y) 4) (at (l.place z) 5)

-- passes words to registers in order, and puts passed words in places
abbrev pub passes : List Place → ℕ → List Stmt
passes [] to = []
passes (p ∷ ps) to = pass p to ++ passes ps (suc to)

abbrev pub takes : List Place → ℕ → List Stmt
takes [] from = []
takes (p ∷ ps) from = put p from ++ takes ps (suc from)

-- as many numbers in order
abbrev pub in_order : ℕ → ℕ → List ℕ
in_order a zero = []
in_order a (suc n) = a ∷ in_order (suc a) n

-- ---- statements

-- a statement, given the statements of those in it
abbrev pub spilled_step : Layout → Stmt-F (List Stmt) → List Stmt
spilled_step l (Stmt-F.Lit x n) = roll-Stmt (Stmt-F.Lit (at (l.place x) 4) n) ∷ keep (l.place x)
spilled_step l (Stmt-F.Copy x y) = copy (l.place x) (l.place y)
spilled_step l (Stmt-F.Op x op y z) =
    bring (l.place y) 4 ++ (bring_operand l z
    ++ roll-Stmt (Stmt-F.Op (at (l.place x) 4) op (at (l.place y) 4) (operand_at l z))
    ∷ keep (l.place x))
spilled_step l (Stmt-F.Load x size y offset) =
    bring (l.place y) 4 ++ roll-Stmt (Stmt-F.Load (at (l.place x) 4) size (at (l.place y) 4) offset)
    ∷ keep (l.place x)
spilled_step l (Stmt-F.Store size y z offset) =
    bring (l.place y) 4 ++ (bring (l.place z) 5
    ++ roll-Stmt (Stmt-F.Store size (at (l.place y) 4) (at (l.place z) 5) offset) ∷ [])
spilled_step l (Stmt-F.Table x size bytes y) =
    bring (l.place y) 4 ++ roll-Stmt (Stmt-F.Table (at (l.place x) 4) size bytes (at (l.place y) 4))
    ∷ keep (l.place x)
spilled_step l (Stmt-F.Stackalloc x n body) =
    roll-Stmt (Stmt-F.Stackalloc (at (l.place x) 4) n (keep (l.place x) ++ joined body)) ∷ []
spilled_step l (Stmt-F.If test first second) =
    bring_test l test ++ roll-Stmt (Stmt-F.If (test_at l test) (joined first) (joined second)) ∷ []
spilled_step l (Stmt-F.Loop first test last) =
    roll-Stmt (Stmt-F.Loop (joined first ++ bring_test l test) (test_at l test) (joined last)) ∷ []
spilled_step l (Stmt-F.Call xs g ys) =
    passes (map l.place ys) 10
    ++ roll-Stmt (Stmt-F.Call (in_order 10 (length xs)) g (in_order 10 (length ys)))
    ∷ takes (map l.place xs) 10
spilled_step l (Stmt-F.Read x y) =
    bring (l.place y) 4
    ++ roll-Stmt (Stmt-F.Read (at (l.place x) 4) (at (l.place y) 4)) ∷ keep (l.place x)
spilled_step l (Stmt-F.Write y z) =
    bring (l.place y) 4 ++ (bring (l.place z) 5
    ++ roll-Stmt (Stmt-F.Write (at (l.place y) 4) (at (l.place z) 5)) ∷ [])

-- the statements of a statement
abbrev pub spilled : Layout → Stmt → List Stmt
spilled l = fold-Stmt (List Stmt) (spilled_step l)

-- ---- functions

-- statements within the buffer, where it has words
abbrev pub in_buffer : ℕ → List Stmt → List Stmt
in_buffer zero body = body
in_buffer (suc n) body = roll-Stmt (Stmt-F.Stackalloc 3 (4 * suc n) body) ∷ []

-- arguments are taken from the registers that pass them, and results are put there
abbrev pub spilled_function : Layout → FlatFunc → FlatFunc
spilled_function l f = record {
  name = f.name;
  args = in_order 10 (length f.args);
  results = in_order 10 (length f.results);
  names = l.registers;
  body = in_buffer l.slots (takes (map l.place f.args) 10
      ++ (joined (map (spilled l) f.body) ++ passes (map l.place f.results) 10));
}

-- functions, and those that come from them, each by a layout of its own that fits
abbrev pub SpilledFunctions : List FlatFunc → List FlatFunc → Type 0
SpilledFunctions [] [] = Unit {0}
SpilledFunctions (q ∷ qs) (p ∷ ps) =
    ((l : Layout) × Fits p.names l × (q ≡ spilled_function l p)) × SpilledFunctions qs ps
SpilledFunctions [] (p ∷ ps) = ⊥
SpilledFunctions (q ∷ qs) [] = ⊥

-- ---- buffers

-- a buffer counts 1
abbrev pub own_buffers : {X : Type 0} → Stmt-F X → ℕ
own_buffers (Stmt-F.Stackalloc x n body) = 1
own_buffers (Stmt-F.Lit x n) = 0
own_buffers (Stmt-F.Copy x y) = 0
own_buffers (Stmt-F.Op x op y z) = 0
own_buffers (Stmt-F.Load x size y offset) = 0
own_buffers (Stmt-F.Store size y z offset) = 0
own_buffers (Stmt-F.Table x size bytes y) = 0
own_buffers (Stmt-F.If test first second) = 0
own_buffers (Stmt-F.Loop first test last) = 0
own_buffers (Stmt-F.Call xs g ys) = 0
own_buffers (Stmt-F.Read x y) = 0
own_buffers (Stmt-F.Write y z) = 0

-- how many Stackallocs stand in a function
abbrev pub buffers : FlatFunc → ℕ
buffers f = sum (map (added own_buffers) f.body)

-- ---- operands and dead statements

-- A function beside the one that it comes from. Where it has no more buffers than
-- that one it misses no operand if that one misses none, and has no dead statement
-- but copies if that one has no dead one.
pub record IsAsLean (q p : FlatFunc) : Type 0 where
  pub none_missed : buffers q ≤ buffers p → IsTrue (has_no_missed p) → IsTrue (has_no_missed q)
  pub none_dead : buffers q ≤ buffers p → IsTrue (has_no_dead p) → IsTrue (has_no_dead_but_copies q)

-- each function beside the one that it comes from
abbrev pub AreAsLean : List FlatFunc → List FlatFunc → Type 0
AreAsLean [] [] = Unit {0}
AreAsLean (q ∷ qs) (p ∷ ps) = IsAsLean q p × AreAsLean qs ps
AreAsLean [] (p ∷ ps) = ⊥
AreAsLean (q ∷ qs) [] = ⊥

-- A function in register form beside the one that it comes from. Where it has no buffer it misses
-- no operand if that one misses none, and has no dead statement but copies if that one has no dead
-- one. One of at most 21 names gets no buffer.
pub record StaysLean (q p : FlatFunc) : Type 0 where
  pub none_missed : buffers q ≡ 0 → IsTrue (has_no_missed p) → IsTrue (has_no_missed q)
  pub none_dead : buffers q ≡ 0 → IsTrue (has_no_dead p) → IsTrue (has_no_dead_but_copies q)
  pub few : p.names ≤ 21 → buffers q ≡ buffers p

-- each function beside the one that it comes from
abbrev pub StayLean : List FlatFunc → List FlatFunc → Type 0
StayLean [] [] = Unit {0}
StayLean (q ∷ qs) (p ∷ ps) = StaysLean q p × StayLean qs ps
StayLean [] (p ∷ ps) = ⊥
StayLean (q ∷ qs) [] = ⊥

-- ---- numbers that are words

-- a literal is a word, and a table has bytes, as the types of statements say
abbrev pub words_fit : {X : Type 0} → Stmt-F X → Bool
words_fit (Stmt-F.Lit x n) = nat_lt n (2 ^ 32)
words_fit (Stmt-F.Table x size bytes y) = list_all (λ b. nat_lt b 256) bytes
words_fit (Stmt-F.Copy x y) = true
words_fit (Stmt-F.Op x op y z) = true
words_fit (Stmt-F.Load x size y offset) = true
words_fit (Stmt-F.Store size y z offset) = true
words_fit (Stmt-F.Stackalloc x n body) = true
words_fit (Stmt-F.If test first second) = true
words_fit (Stmt-F.Loop first test last) = true
words_fit (Stmt-F.Call xs g ys) = true
words_fit (Stmt-F.Read x y) = true
words_fit (Stmt-F.Write y z) = true

abbrev pub function_words_fit : FlatFunc → Bool
function_words_fit f = list_all (throughout words_fit) f.body

abbrev pub HasWords : List FlatFunc → Type 0
HasWords fs = IsTrue (list_all function_words_fit fs)

-- ---- the layout of a count of names

-- The name numbered x in registers from `first` to 9, and from 18 to 31.
abbrev pub register_of : ℕ → ℕ → ℕ
register_of first x = if nat_lt x (10 - first) then first + x else min x 20 + first + 8

abbrev pub few_places : ℕ → Place
few_places x = Register (register_of 3 x)

abbrev pub more_places : ℕ → Place
more_places x = if nat_lt x 18 then Register (register_of 6 x) else Slot (min x 1048575 - 18)

-- Up to 21 names have registers alone. Of more, the first 18 have registers. A function has at most
-- 1,048,576 names; a number past the last of them counts as the last.
abbrev pub layout_of : ℕ → Layout
layout_of names =
    if nat_le names 21 then record { place = few_places; slots = 0; registers = 32 }
    else record { place = more_places; slots = min names 1048576 - 18; registers = 32 }

abbrev pub wide_places : ℕ → Place
wide_places x = Register (32 + min x 1048543)

-- Each name has a register of its own past the first 32, while these are no more than the names
-- that a function may have. Past that the layout is as it is in register form.
abbrev pub wide_layout : ℕ → Layout
wide_layout names =
    if nat_le names 1048544 then record { place = wide_places; slots = 0; registers = 32 + names }
    else layout_of names

abbrev pub layout_by : Kind → ℕ → Layout
layout_by Narrow names = layout_of names
layout_by Wide names = wide_layout names

abbrev pub layout_in : Places → Layout
layout_in places = layout_by places.kind places.names

-- ---- programs

-- each function by the layout of its names
abbrev pub program_by : Kind → List FlatFunc → List FlatFunc
program_by kind = map (λ f. spilled_function (layout_by kind f.names) f)

-- a program in register form
abbrev pub spilled_program : List FlatFunc → List FlatFunc
spilled_program = program_by Narrow

-- a program that passes words in registers, with a register for each name where there are as many
abbrev pub wide_program : List FlatFunc → List FlatFunc
wide_program = program_by Wide

-- a function whose names are at most 32, so that each is a register
abbrev pub is_narrow : FlatFunc → Bool
is_narrow f = nat_le f.names 32
