-- The code of flat statements in register form: the name n is the register n, x2 is the stack
-- pointer, and x1 is used by calls, where a jump is far, and for the address of a table. Items do
-- not depend on where they stand: only the word of a near call does.
use Rattle.std.specs.Prelude.{not, true, false, filter, ℕ, zero, suc, ◌+◌, ◌-◌, ◌*◌, ◌/◌}
use Rattle.std.specs.Prelude.{◌%◌, ◌^◌, ◌<◌, nat_lt, nat_le, ◌==◌, ◌&&◌, ◌||◌, if◌then◌else◌}
use Rattle.std.specs.Prelude.{Bool, ℤ, pos, negsuc, List, [], ◌∷◌, ◌++◌, length, map}
use Rattle.std.specs.List.{flat_map, list_all, list_any}
use Rattle.br_words.specs.declared.layout.Layout.TheVariants as layout
use Rattle.br_words.specs.Layout.{code_base, stack_end}
use Rattle.br_words.specs.declared.operation.BinOp.{BinOp}
use Rattle.br_words.specs.declared.operation.BinOp.TheVariants as op
use Rattle.br_words.specs.declared.size.Size.{Size}
use Rattle.br_words.specs.declared.size.Size.TheVariants.{One, Two, Four}
use Rattle.br_words.specs.Words.{signed}
use Rattle.br_bytes.specs.Number.{number_of}
use Rattle.br_flatimp.specs.declared.program.Operand.{Operand}
use Rattle.br_flatimp.specs.declared.program.Operand.TheVariants as operand
use Rattle.br_flatimp.specs.declared.program.Rel.{Rel}
use Rattle.br_flatimp.specs.declared.program.Rel.TheVariants as rel
use Rattle.br_flatimp.specs.declared.program.Cond.{Cond}
use Rattle.br_flatimp.specs.declared.program.Cond.TheVariants.{NonZero, Compare}
use Rattle.br_flatimp.specs.declared.program.Stmt.{Stmt}
use Rattle.br_flatimp.specs.declared.program.Stmt.TheOpen.{Stmt-F}
use Rattle.br_flatimp.specs.declared.program.Stmt.TheFolds.{fold-Stmt}
use Rattle.br_flatimp.specs.declared.program.FlatFunc.{FlatFunc}
use Rattle.br_flatimp.specs.Values.{Names}
use Rattle.br_flatimp.specs.Parts.{written, gathered, callees, throughout}
use Rattle.br_flatimp.specs.Liveness.{is_in}
use Rattle.br_flatimp.specs.Sizes.{nest}
use Rattle.br_flatimp.specs.Runs.{Forgets}
use Rattle.br_rv32im.specs.declared.instruction.Ins.{Ins}
use Rattle.br_rv32im.specs.declared.instruction.Ins.TheVariants.{Upper, Jal, Jalr, Branch, Load}
use Rattle.br_rv32im.specs.declared.instruction.Ins.TheVariants.{Store, Imm, Shift, Reg, Ecall}
use Rattle.br_rv32im.specs.declared.instruction.UpperOp.TheVariants.{Lui, Auipc}
use Rattle.br_rv32im.specs.declared.instruction.BranchOp.{BranchOp}
use Rattle.br_rv32im.specs.declared.instruction.BranchOp.TheVariants.{Beq, Bne, Blt}
use Rattle.br_rv32im.specs.declared.instruction.BranchOp.TheVariants.{Bge, Bltu, Bgeu}
use Rattle.br_rv32im.specs.declared.instruction.LoadOp.{LoadOp}
use Rattle.br_rv32im.specs.declared.instruction.LoadOp.TheVariants.{Lw, Lbu, Lhu}
use Rattle.br_rv32im.specs.declared.instruction.StoreOp.{StoreOp}
use Rattle.br_rv32im.specs.declared.instruction.StoreOp.TheVariants.{Sb, Sh, Sw}
use Rattle.br_rv32im.specs.declared.instruction.ImmOp.TheVariants.{Addi, Slti, Sltiu}
use Rattle.br_rv32im.specs.declared.instruction.ImmOp.TheVariants.{Xori, Ori, Andi}
use Rattle.br_rv32im.specs.declared.instruction.ShiftOp.TheVariants.{Slli, Srli, Srai}
use Rattle.br_rv32im.specs.declared.instruction.RegOp.TheVariants.{Add, Sub, Sll, Slt, Sltu}
use Rattle.br_rv32im.specs.declared.instruction.RegOp.TheVariants.{Xor, Srl, Sra, Or, And}
use Rattle.br_rv32im.specs.declared.instruction.RegOp.TheVariants.{Mul, Mulhu, Divu, Remu}
use Rattle.br_rv32im.specs.Encoding.{word_of, Fits}

-- the address of a word of code, by its place
abbrev pub address_of : ℕ → ℕ
address_of place = code_base layout.Two + 4 * place

-- the distance modulo 2 ^ 32 from the word at a place to an address
abbrev pub distance_to : ℕ → ℕ → ℕ
distance_to place target = (target + (2 ^ 32 - address_of place % 2 ^ 32)) % 2 ^ 32

-- a distance modulo 2 ^ 32 in the reach of JAL
abbrev pub is_near : ℕ → Bool
is_near w = nat_lt w (2 ^ 20) || nat_le (2 ^ 32 - 2 ^ 20) w

-- a distance that JAL can say
abbrev pub is_reached : ℕ → Bool
is_reached w = is_near w && (w % 4 == 0)

-- a word of code: an instruction, four bytes of a table, or a jump to an address
-- that leaves the address after it in x1
pub data Item : Type 0 where
  Does : Ins → Item
  Raw : (a b c d : ℕ) → Item
  Links : ℕ → Item

-- the word of an item at a place: for a jump out of reach one that is no instruction
abbrev pub item_word : ℕ → Item → ℕ
item_word place (Does i) = word_of i
item_word place (Raw a b c d) = number_of (a ∷ b ∷ c ∷ d ∷ [])
item_word place (Links target) =
    if is_reached (distance_to place target)
    then word_of (Jal 1 (signed (distance_to place target))) else 0

-- the words of items that stand from a place on
abbrev pub words_at : ℕ → List Item → List ℕ
words_at place [] = []
words_at place (i ∷ is) = item_word place i ∷ words_at (place + 1) is

-- an instruction fits its format, and bytes are bytes
abbrev pub ItemFits : Item → Type 0
ItemFits (Does i) = Fits i
ItemFits (Raw a b c d) = (a < 256) × (b < 256) × (c < 256) × (d < 256)
ItemFits (Links target) = Unit {0}

abbrev pub AllFit : List Item → Type 0
AllFit [] = Unit {0}
AllFit (i ∷ is) = ItemFits i × AllFit is

-- ---- constants

-- the signed number that the low 12 bits of a word are
abbrev pub low_part : ℕ → ℤ
low_part n = if nat_lt (n % 4096) 2048 then pos (n % 4096) else negsuc (4095 - n % 4096)

-- what is to be loaded above it
abbrev pub high_part : ℕ → ℕ
high_part n = (n + 2048) / 4096

-- an immediate says the word
abbrev pub is_short : ℕ → Bool
is_short n = nat_lt n 2048 || (nat_le (2 ^ 32 - 2048) n && nat_lt n (2 ^ 32))

abbrev pub constant_items : ℕ → ℕ → List Item
constant_items r n =
    if is_short n then Does (Imm Addi r 0 (low_part n)) ∷ []
    else if n % 4096 == 0 then Does (Upper Lui r (high_part n)) ∷ []
    else Does (Upper Lui r (high_part n)) ∷ Does (Imm Addi r r (low_part n)) ∷ []

abbrev pub copy_items : ℕ → ℕ → List Item
copy_items x y = if x == y then [] else Does (Imm Addi x y (pos 0)) ∷ []

-- ---- operations

abbrev pub opposite : ℤ → ℤ
opposite (pos zero) = pos 0
opposite (pos (suc k)) = negsuc k
opposite (negsuc k) = pos (suc k)

-- the amount of a shift by a constant
abbrev pub amount : ℤ → ℕ
amount (pos k) = k
amount (negsuc k) = 0

abbrev pub by_name_items : BinOp → ℕ → ℕ → ℕ → List Item
by_name_items op.Add r a b = Does (Reg Add r a b) ∷ []
by_name_items op.Sub r a b = Does (Reg Sub r a b) ∷ []
by_name_items op.Mul r a b = Does (Reg Mul r a b) ∷ []
by_name_items op.Mulhuu r a b = Does (Reg Mulhu r a b) ∷ []
by_name_items op.Divu r a b = Does (Reg Divu r a b) ∷ []
by_name_items op.Remu r a b = Does (Reg Remu r a b) ∷ []
by_name_items op.And r a b = Does (Reg And r a b) ∷ []
by_name_items op.Or r a b = Does (Reg Or r a b) ∷ []
by_name_items op.Xor r a b = Does (Reg Xor r a b) ∷ []
by_name_items op.Sru r a b = Does (Reg Srl r a b) ∷ []
by_name_items op.Slu r a b = Does (Reg Sll r a b) ∷ []
by_name_items op.Srs r a b = Does (Reg Sra r a b) ∷ []
by_name_items op.Lts r a b = Does (Reg Slt r a b) ∷ []
by_name_items op.Ltu r a b = Does (Reg Sltu r a b) ∷ []
by_name_items op.Eq r a b = Does (Reg Sub r a b) ∷ Does (Imm Sltiu r r (pos 1)) ∷ []

-- a well formed program has no other operation with a constant
abbrev pub by_constant_items : BinOp → ℕ → ℕ → ℤ → List Item
by_constant_items op.Add r a c = Does (Imm Addi r a c) ∷ []
by_constant_items op.Sub r a c = Does (Imm Addi r a (opposite c)) ∷ []
by_constant_items op.And r a c = Does (Imm Andi r a c) ∷ []
by_constant_items op.Or r a c = Does (Imm Ori r a c) ∷ []
by_constant_items op.Xor r a c = Does (Imm Xori r a c) ∷ []
by_constant_items op.Sru r a c = Does (Shift Srli r a (amount c)) ∷ []
by_constant_items op.Slu r a c = Does (Shift Slli r a (amount c)) ∷ []
by_constant_items op.Srs r a c = Does (Shift Srai r a (amount c)) ∷ []
by_constant_items op.Lts r a c = Does (Imm Slti r a c) ∷ []
by_constant_items op.Ltu r a c = Does (Imm Sltiu r a c) ∷ []
by_constant_items op.Eq r a c = Does (Imm Xori r a c) ∷ Does (Imm Sltiu r r (pos 1)) ∷ []
by_constant_items op.Mul r a c = []
by_constant_items op.Mulhuu r a c = []
by_constant_items op.Divu r a c = []
by_constant_items op.Remu r a c = []

abbrev pub op_items : ℕ → BinOp → ℕ → Operand → List Item
op_items r o a (operand.Name b) = by_name_items o r a b
op_items r o a (operand.Const c) = by_constant_items o r a c

-- ---- memory

abbrev pub load_op : Size → LoadOp
load_op One = Lbu
load_op Two = Lhu
load_op Four = Lw

abbrev pub store_op : Size → StoreOp
store_op One = Sb
store_op Two = Sh
store_op Four = Sw

-- ---- jumps

-- a jump by so many bytes modulo 2 ^ 32, a multiple of 4, from its first word, which leaves the
-- address after it in `link`: one word where the distance has 21 bits, else two
abbrev pub jump_items : ℕ → ℕ → List Item
jump_items link w =
    if is_near w then Does (Jal link (signed w)) ∷ []
    else Does (Upper Auipc 1 (high_part w % 2 ^ 20)) ∷ Does (Jalr link 1 (low_part w)) ∷ []

-- a jump over the n words after it
abbrev pub over_items : ℕ → ℕ → List Item
over_items link n = if nat_lt (4 * (n + 1)) (2 ^ 20) then jump_items link (4 * (n + 1))
    else jump_items link (4 * (n + 2))

-- a branch's relation and its registers
pub record Branching : Type 0 where
  pub how : BranchOp
  pub left : ℕ
  pub right : ℕ

abbrev pub opposite_branch : BranchOp → BranchOp
opposite_branch Beq = Bne
opposite_branch Bne = Beq
opposite_branch Blt = Bge
opposite_branch Bge = Blt
opposite_branch Bltu = Bgeu
opposite_branch Bgeu = Bltu

abbrev pub otherwise : Branching → Branching
otherwise c = record c { how = opposite_branch c.how }

abbrev pub related : Rel → BranchOp
related rel.Eq = Beq
related rel.Ne = Bne
related rel.Lts = Blt
related rel.Ges = Bge
related rel.Ltu = Bltu
related rel.Geu = Bgeu

-- the branch that is taken where a test holds
abbrev pub branching : Cond → Branching
branching (NonZero x) = record { how = Bne; left = x; right = 0 }
branching (Compare r x y) = record { how = related r; left = x; right = y }

abbrev pub branch_item : Branching → ℤ → Item
branch_item c distance = Does (Branch c.how c.left c.right distance)

-- goes on after the n words after it where the branch is taken
abbrev pub skip_items : Branching → ℕ → List Item
skip_items c n =
    if nat_lt (4 * (n + 1)) 4096 then branch_item c (pos (4 * (n + 1))) ∷ []
    else branch_item (otherwise c) (pos (4 * (1 + length (over_items 0 n)))) ∷ over_items 0 n

-- goes back by n words, counted from its first, where the branch is taken
abbrev pub back_items : Branching → ℕ → List Item
back_items c n =
    if nat_le (4 * n) 4096 then branch_item c (signed ((2 ^ 32 - 4 * n) % 2 ^ 32)) ∷ []
    else (let far = jump_items 0 (2 ^ 32 - 4 * (n + 1)) in
    branch_item (otherwise c) (pos (4 * (1 + length far))) ∷ far)

-- ---- tables

-- bytes in words, the last filled up with zeros
abbrev pub table_words : List ℕ → List Item
table_words [] = []
table_words (a ∷ []) = Raw a 0 0 0 ∷ []
table_words (a ∷ b ∷ []) = Raw a b 0 0 ∷ []
table_words (a ∷ b ∷ c ∷ []) = Raw a b c 0 ∷ []
table_words (a ∷ b ∷ c ∷ d ∷ bytes) = Raw a b c d ∷ table_words bytes

-- a jump over the bytes leaves their address in x1
abbrev pub table_items : ℕ → Size → List ℕ → ℕ → List Item
table_items x size bytes y =
    let words = table_words bytes
    in over_items 1 (length words)
    ++ (words ++ (Does (Reg Add 1 1 y) ∷ Does (Load (load_op size) x 1 (pos 0)) ∷ []))

-- ---- buffers

-- the address so many bytes above the stack pointer
abbrev pub place_items : ℕ → ℕ → List Item
place_items x distance =
    if nat_lt distance 2048 then Does (Imm Addi x 2 (pos distance)) ∷ []
    else constant_items x distance ++ Does (Reg Add x x 2) ∷ []

-- ---- statements

-- one part or another: the part that is not there takes no word
abbrev pub if_items : Branching → List Item → List Item → List Item
if_items c first [] = skip_items (otherwise c) (length first) ++ first
if_items c [] (i ∷ second) = skip_items c (length (i ∷ second)) ++ (i ∷ second)
if_items c (k ∷ first) (i ∷ second) =
    let over = over_items 0 (length (i ∷ second))
    in skip_items (otherwise c) (length (k ∷ first) + length over)
    ++ ((k ∷ first) ++ (over ++ (i ∷ second)))

-- the test stands at the end, after the first part
abbrev pub loop_items : List Item → Branching → List Item → List Item
loop_items first c [] = first ++ back_items c (length first)
loop_items first c (k ∷ last) =
    over_items 0 (length (k ∷ last))
    ++ ((k ∷ last) ++ (first ++ back_items c (length (k ∷ last) + length first)))

-- the items of statements in turn, each for the bytes that are free
-- between the stack pointer and the buffers
abbrev pub in_turn_items : List (ℕ → List Item) → ℕ → List Item
in_turn_items codes free = flat_map (λ code. code free) codes

-- a call of the code at an address, which leaves the address after it in x1: one jump where
-- the whole code is in the reach of JAL
abbrev pub call_items : Bool → ℕ → List Item
call_items near target =
    if near then Links target ∷ []
    else Does (Upper Lui 1 (high_part target)) ∷ Does (Jalr 1 1 (low_part target)) ∷ []

-- where the code of each function stands that is called, by its
-- number, and whether all of it is near
pub record Targets : Type 0 where
  pub near : Bool
  pub at : ℕ → ℕ

-- a statement, given the code of the statements in it, for the bytes
-- that are free above the stack pointer
abbrev pub statement_items : Targets → Stmt-F (ℕ → List Item) → ℕ → List Item
statement_items targets (Stmt-F.Lit x n) free = constant_items x n
statement_items targets (Stmt-F.Copy x y) free = copy_items x y
statement_items targets (Stmt-F.Op x o y z) free = op_items x o y z
statement_items targets (Stmt-F.Load x size y offset) free =
    Does (Load (load_op size) x y offset) ∷ []
statement_items targets (Stmt-F.Store size y z offset) free =
    Does (Store (store_op size) y z offset) ∷ []
statement_items targets (Stmt-F.Table x size bytes y) free = table_items x size bytes y
statement_items targets (Stmt-F.Stackalloc x n body) free =
    place_items x (free - n) ++ in_turn_items body (free - n)
statement_items targets (Stmt-F.If test first second) free =
    if_items (branching test) (in_turn_items first free) (in_turn_items second free)
statement_items targets (Stmt-F.Loop first test last) free =
    loop_items (in_turn_items first free) (branching test) (in_turn_items last free)
statement_items targets (Stmt-F.Call xs g ys) free = call_items targets.near (targets.at g)
statement_items targets (Stmt-F.Read x y) free = Does (Load Lw x y (pos 0)) ∷ []
statement_items targets (Stmt-F.Write y z) free = Does (Store Sw y z (pos 0)) ∷ []

abbrev pub items_of : Targets → Stmt → ℕ → List Item
items_of targets = fold-Stmt (ℕ → List Item) (statement_items targets)

abbrev pub all_items : Targets → List Stmt → ℕ → List Item
all_items targets body = in_turn_items (map (items_of targets) body)

-- ---- functions

-- the names that a function writes
abbrev pub written_names : FlatFunc → List ℕ
written_names f = flat_map (gathered written) f.body

-- n numbers from `a` on
abbrev pub count_up : ℕ → ℕ → List ℕ
count_up a zero = []
count_up a (suc n) = a ∷ count_up (a + 1) n

-- the registers that hold names: those from 3 to 31
abbrev pub registers : List ℕ
registers = count_up 3 29

-- the registers that a function changes, or that its callees may change
abbrev pub changes : Forgets → FlatFunc → Names
changes forgets f x = is_in (written_names f) x || list_any (λ g. forgets g x) (callees f)

-- a statement that leaves x1 as it was, its parts and far jumps aside
abbrev pub keeps_link : {X : Type 0} → Stmt-F X → Bool
keeps_link (Stmt-F.Table x size bytes y) = false
keeps_link (Stmt-F.Call xs g ys) = false
keeps_link (Stmt-F.Lit x n) = true
keeps_link (Stmt-F.Copy x y) = true
keeps_link (Stmt-F.Op x o y z) = true
keeps_link (Stmt-F.Load x size y offset) = true
keeps_link (Stmt-F.Store size y z offset) = true
keeps_link (Stmt-F.Stackalloc x n body) = true
keeps_link (Stmt-F.If test first second) = true
keeps_link (Stmt-F.Loop first test last) = true
keeps_link (Stmt-F.Read x y) = true
keeps_link (Stmt-F.Write y z) = true

-- a function whose code may change x1: for a table, a call, a far
-- jump, or buffers that no immediate says
abbrev pub links : Bool → FlatFunc → Bool
links near f = not near || (not (list_all (throughout keeps_link) f.body) || nat_lt 2047 (nest f))

-- the registers that a function may change while it runs, x1 among them
abbrev pub touches : Bool → Forgets → FlatFunc → Names
touches near forgets f x = changes forgets f x || ((x == 1) && links near f)

-- a register that the function numbered n has to leave as it was: it changes,
-- is no result, and callers may miss it
abbrev pub is_saved : Forgets → ℕ → FlatFunc → ℕ → Bool
is_saved forgets n f x = changes forgets f x && not (is_in f.results x) && not (forgets n x)

-- the registers that a function has to leave as they were
abbrev pub saves : Forgets → ℕ → FlatFunc → List ℕ
saves forgets n f = filter (is_saved forgets n f) registers

-- registers in words from the i-th word of the stack on
abbrev pub save_items : ℕ → List ℕ → List Item
save_items i [] = []
save_items i (r ∷ rs) = Does (Store Sw 2 r (pos (4 * i))) ∷ save_items (i + 1) rs

abbrev pub restore_items : ℕ → List ℕ → List Item
restore_items i [] = []
restore_items i (r ∷ rs) = Does (Load Lw r 2 (pos (4 * i))) ∷ restore_items (i + 1) rs

-- the stack pointer moves by so many bytes modulo 2 ^ 32, by way
-- of x1 where an immediate cannot say it
abbrev pub move_items : ℕ → List Item
move_items n =
    if n == 0 then []
    else if is_short n then Does (Imm Addi 2 2 (low_part n)) ∷ []
    else constant_items 1 n ++ Does (Reg Add 2 2 1) ∷ []

-- the registers that the frame of a function has words for: x1 where the function may change it,
-- and those that it has to leave as they were
abbrev pub framed : Bool → Forgets → ℕ → FlatFunc → List ℕ
framed near forgets n f =
    if touches near forgets f 1 then 1 ∷ saves forgets n f else saves forgets n f

-- the bytes of a frame
abbrev pub framed_bytes : Bool → Forgets → ℕ → FlatFunc → ℕ
framed_bytes near forgets n f = 4 * length (framed near forgets n f)

-- the caller goes on
abbrev pub exit_items : List Item
exit_items = Does (Jalr 0 1 (pos 0)) ∷ []

-- A function that is called: it makes room on the stack and saves, makes room for its buffers,
-- runs, and goes the same way back. What it has no need of takes no word.
abbrev pub callable_items : Targets → Forgets → ℕ → FlatFunc → List Item
callable_items targets forgets n f =
    let rs = framed targets.near forgets n f
    in let bytes = framed_bytes targets.near forgets n f
    in move_items ((2 ^ 32 - bytes) % 2 ^ 32)
    ++ (save_items 0 rs
    ++ (move_items ((2 ^ 32 - nest f) % 2 ^ 32)
    ++ (all_items targets f.body (nest f)
    ++ (move_items (nest f)
    ++ (restore_items 0 rs
    ++ (move_items bytes ++ exit_items))))))

-- an entry whose function is called: it sets the stack pointer to the
-- end of the stack region, and calls it
abbrev pub entry_items : Bool → ℕ → List Item
entry_items near target = Does (Upper Lui 2 0x80300) ∷ (call_items near target ++ Does Ecall ∷ [])

-- the stack pointer below the buffers
abbrev pub stack_items : FlatFunc → List Item
stack_items f = constant_items 2 (stack_end - nest f)

-- an entry whose function nobody calls is the function itself, and saves nothing
abbrev pub direct_items : Targets → FlatFunc → List Item
direct_items targets f = stack_items f ++ (all_items targets f.body (nest f) ++ Does Ecall ∷ [])

-- some function of the program calls the function of this number
abbrev pub is_called : List FlatFunc → ℕ → Bool
is_called fs n = list_any (λ f. list_any (λ g. g == n) (callees f)) fs

-- the code of a function, and its entry after it, or its entry alone
abbrev pub function_items : Targets → Forgets → List FlatFunc → ℕ → FlatFunc → List Item
function_items targets forgets fs n f =
    if is_called fs n then callable_items targets forgets n f
    ++ entry_items targets.near (targets.at n) else direct_items targets f

-- functions from number n on, one after another
abbrev pub program_items : Targets → Forgets → List FlatFunc → ℕ → List FlatFunc → List Item
program_items targets forgets fs n [] = []
program_items targets forgets fs n (f ∷ rest) =
    function_items targets forgets fs n f ++ program_items targets forgets fs (n + 1) rest

-- where functions stand one after another: the place of each, in words from the code's first on
abbrev pub places : Targets → Forgets → List FlatFunc → ℕ → ℕ → List FlatFunc → List ℕ
places targets forgets fs place n [] = []
places targets forgets fs place n (f ∷ rest) =
    place ∷ places targets forgets fs
    (place + length (function_items targets forgets fs n f)) (n + 1) rest

-- the word at which an entry begins, where its function stands at a place
abbrev pub entry_place : Targets → Forgets → List FlatFunc → ℕ → ℕ → FlatFunc → ℕ
entry_place targets forgets fs place n f =
    if is_called fs n then place + length (callable_items targets forgets n f) else place
