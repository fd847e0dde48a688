-- How many words the code of statements is, and the lengths that jumps over their parts need: for
-- each conditional and loop the words of its two parts, the statement before those in its parts.
use Rattle.std.specs.Prelude.{ℕ, ◌+◌, ◌-◌, ◌*◌, ◌%◌, ◌^◌, ◌≡◌, Bool, nat_lt, nat_le, ◌==◌, ◌||◌}
use Rattle.std.specs.Prelude.{if◌then◌else◌, negsuc, List, [], ◌∷◌, ◌++◌, length, drop, map}
use Rattle.br_flatimp.specs.declared.program.Stmt.{Stmt}
use Rattle.br_flatimp.specs.declared.program.Stmt.TheOpen.{Stmt-F}
use Rattle.br_flatimp.specs.declared.program.Stmt.TheFolds.{fold-Stmt}
use Rattle.br_flatimp.specs.declared.program.FlatFunc.{FlatFunc}
use Rattle.br_flatimp.specs.Sizes.{words_for, nest}
use Rattle.br_flatimp.specs.Runs.{Forgets}
use Rattle.br_rv32im.specs.declared.instruction.Ins.TheVariants.{Imm}
use Rattle.br_rv32im.specs.declared.instruction.ImmOp.TheVariants.{Addi}
use Rattle.br_emit.specs.Code.{Item, Branching, otherwise, constant_items, copy_items}
use Rattle.br_emit.specs.Code.{op_items, place_items, over_items, skip_items, framed}
use Rattle.br_emit.specs.Code.{framed_bytes, save_items, restore_items, move_items}
use Rattle.br_emit.specs.Code.{exit_items, stack_items, all_items, Does, Targets}

-- ---- pieces

abbrev pub jump_words : ℕ → ℕ
jump_words w = if nat_lt w (2 ^ 20) || nat_le (2 ^ 32 - 2 ^ 20) w then 1 else 2

-- a jump over n words
abbrev pub over_words : ℕ → ℕ
over_words n =
    if nat_lt (4 * (n + 1)) (2 ^ 20) then jump_words (4 * (n + 1)) else jump_words (4 * (n + 2))

-- a branch over n words
abbrev pub skip_words : ℕ → ℕ
skip_words n = if nat_lt (4 * (n + 1)) 4096 then 1 else 1 + over_words n

-- a branch back over n words
abbrev pub back_words : ℕ → ℕ
back_words n = if nat_le (4 * n) 4096 then 1 else 1 + jump_words (2 ^ 32 - 4 * (n + 1))

-- what stands before the first part of a conditional whose parts have so many words
abbrev pub if_head_items : Branching → ℕ → ℕ → List Item
if_head_items c a b =
    if b == 0 then skip_items (otherwise c) a
    else if a == 0 then skip_items c b
    else skip_items (otherwise c) (a + over_words b)

-- what stands between the parts of a conditional
abbrev pub if_middle_items : ℕ → ℕ → List Item
if_middle_items a b = if (a == 0) || (b == 0) then [] else over_items 0 b

-- what stands before the parts of a loop whose last part has so many words
abbrev pub loop_head_items : ℕ → List Item
loop_head_items n = if n == 0 then [] else over_items 0 n

abbrev pub if_head_words : ℕ → ℕ → ℕ
if_head_words a b =
    if b == 0 then skip_words a
    else if a == 0 then skip_words b
    else skip_words (a + over_words b)

abbrev pub if_middle_words : ℕ → ℕ → ℕ
if_middle_words a b = if (a == 0) || (b == 0) then 0 else over_words b

abbrev pub loop_head_words : ℕ → ℕ
loop_head_words n = if n == 0 then 0 else over_words n

-- ---- statements

-- how many words code has, and the lengths of parts in it
pub record Sized : Type 0 where
  pub words : ℕ
  pub parts : List ℕ

abbrev pub sized_of_words : ℕ → Sized
sized_of_words n = record { words = n; parts = [] }

-- one after another
abbrev pub both_sized : Sized → Sized → Sized
both_sized a b = record { words = a.words + b.words; parts = a.parts ++ b.parts }

abbrev pub sized_in_turn : List (ℕ → Sized) → ℕ → Sized
sized_in_turn [] free = sized_of_words 0
sized_in_turn (s ∷ ss) free = both_sized (s free) (sized_in_turn ss free)

-- a conditional
abbrev pub sized_if : Sized → Sized → Sized
sized_if a b = record {
  words = if_head_words a.words b.words + a.words + if_middle_words a.words b.words + b.words;
  parts = a.words ∷ b.words ∷ (a.parts ++ b.parts);
}

-- a loop, with the words of its last part before those of its first
abbrev pub sized_loop : Sized → Sized → Sized
sized_loop first last = record {
  words =
      loop_head_words last.words + last.words + first.words + back_words (last.words + first.words);
  parts = last.words ∷ first.words ∷ (last.parts ++ first.parts);
}

-- the words of a call, where the whole code is near or not
abbrev pub call_words : Bool → ℕ
call_words near = if near then 1 else 2

-- a statement, given the sizes of the statements in it, for the bytes
-- that are free above the stack pointer
abbrev pub statement_sized : Bool → Stmt-F (ℕ → Sized) → ℕ → Sized
statement_sized near (Stmt-F.Lit x n) free = sized_of_words (length (constant_items x n))
statement_sized near (Stmt-F.Copy x y) free = sized_of_words (length (copy_items x y))
statement_sized near (Stmt-F.Op x o y z) free = sized_of_words (length (op_items x o y z))
statement_sized near (Stmt-F.Load x size y offset) free = sized_of_words 1
statement_sized near (Stmt-F.Store size y z offset) free = sized_of_words 1
statement_sized near (Stmt-F.Table x size bytes y) free =
    sized_of_words (over_words (words_for (length bytes)) + words_for (length bytes) + 2)
statement_sized near (Stmt-F.Stackalloc x n body) free =
    both_sized (sized_of_words (length (place_items x (free - n)))) (sized_in_turn body (free - n))
statement_sized near (Stmt-F.If test first second) free =
    sized_if (sized_in_turn first free) (sized_in_turn second free)
statement_sized near (Stmt-F.Loop first test last) free =
    sized_loop (sized_in_turn first free) (sized_in_turn last free)
statement_sized near (Stmt-F.Call xs g ys) free = sized_of_words (call_words near)
statement_sized near (Stmt-F.Read x y) free = sized_of_words 1
statement_sized near (Stmt-F.Write y z) free = sized_of_words 1

abbrev pub sized : Bool → Stmt → ℕ → Sized
sized near = fold-Stmt (ℕ → Sized) (statement_sized near)

abbrev pub sized_all : Bool → List Stmt → ℕ → Sized
sized_all near body = sized_in_turn (map (sized near) body)

-- the list stands at the front of the other
abbrev pub IsFront : List ℕ → List ℕ → Type 0
IsFront xs ys = xs ++ drop (length xs) ys ≡ ys

-- ---- functions

-- the code of a function that is called, by the registers in its frame, the bytes of its buffers,
-- and how the stack pointer moves for the frame and for the buffers
abbrev pub framed_items : Targets → List ℕ → List Stmt → ℕ → ℕ → ℕ → ℕ → List Item
framed_items targets rs body buffers down bytes up =
    move_items down
    ++ (save_items 0 rs
    ++ (move_items bytes
    ++ (all_items targets body buffers
    ++ (move_items buffers
    ++ (restore_items 0 rs
    ++ (move_items up ++ exit_items))))))

-- the words of the code of the function numbered n, where it
-- is called, and its entry comes after it
abbrev pub callable_words : Bool → Forgets → ℕ → FlatFunc → ℕ
callable_words near forgets n f =
    let bytes = framed_bytes near forgets n f
    in length (move_items ((2 ^ 32 - bytes) % 2 ^ 32)) + 2 * length (framed near forgets n f)
    + length (move_items ((2 ^ 32 - nest f) % 2 ^ 32)) + (sized_all near f.body (nest f)).words
    + length (move_items (nest f))
    + length (move_items bytes) + 1

-- the words of the code of a function that nobody calls
abbrev pub direct_words : Bool → FlatFunc → ℕ
direct_words near f = length (stack_items f) + (sized_all near f.body (nest f)).words + 1

abbrev pub function_words : Bool → Forgets → Bool → ℕ → FlatFunc → ℕ
function_words near forgets called n f =
    if called then callable_words near forgets n f + (2 + call_words near) else direct_words near f

-- where functions stand one after another, in words
abbrev pub begins : Bool → Forgets → (ℕ → Bool) → ℕ → ℕ → List FlatFunc → List ℕ
begins near forgets called place n [] = []
begins near forgets called place n (f ∷ rest) = place
    ∷ begins near forgets called (place + function_words near forgets (called n) n f) (n + 1) rest

-- where their entries stand
abbrev pub entries : Bool → Forgets → (ℕ → Bool) → ℕ → ℕ → List FlatFunc → List ℕ
entries near forgets called place n [] = []
entries near forgets called place n (f ∷ rest) =
    (if called n then place + callable_words near forgets n f else place) ∷ entries near forgets
    called (place + function_words near forgets (called n) n f) (n + 1) rest

-- the words of all functions
abbrev pub program_words : Bool → Forgets → (ℕ → Bool) → ℕ → List FlatFunc → ℕ
program_words near forgets called n [] = 0
program_words near forgets called n (f ∷ rest) =
    function_words near forgets (called n) n f + program_words near forgets called (n + 1) rest
