-- What has to hold before code is written.
use Rattle.std.specs.Prelude.{ℕ, ◌-◌, ◌^◌, ◌<◌, ◌≤◌, Bool, true, ◌&&◌, List, length, get_or}
use Rattle.br_flatimp.specs.declared.program.Stmt.TheOpen.{Stmt-F}
use Rattle.br_flatimp.specs.Parts.{written, read}
use Rattle.br_flatimp.specs.WellFormed.{are_registers, is_immediate, operand_fits}
use Rattle.br_emit.specs.Code.{Item, Branching, Targets}
use Rattle.br_emit.specs.Sizes.{IsFront}
use Rattle.br_emit.specs.Buffer.{Written}

-- There is room for items, no more of them than the code region has words, and the lengths of the
-- parts in them are the first of those that are left.
pub record Ready (items : List Item) (parts : List ℕ) (code : Written)
    (lengths : List ℕ) : Type 0 where
  pub room : length items ≤ code.room
  pub few : length items ≤ 1048576
  pub front : IsFront parts lengths

-- the addresses at which functions stand, in the order of the
-- program, and whether all of the code is near
pub record Aims : Type 0 where
  pub near : Bool
  pub addresses : List ℕ

abbrev pub aimed : Aims → Targets
aimed aims = record { near = aims.near; at = λ g. get_or aims.addresses g 0 }

-- an address that LUI and JALR reach
abbrev pub InReach : ℕ → Type 0
InReach address = address < 2 ^ 32 - 2048

-- the immediates of a statement are ones that its instructions can say
abbrev pub immediates_fit : {X : Type 0} → Stmt-F X → Bool
immediates_fit (Stmt-F.Op x op y z) = operand_fits op z
immediates_fit (Stmt-F.Load x size y offset) = is_immediate offset
immediates_fit (Stmt-F.Store size y z offset) = is_immediate offset
immediates_fit (Stmt-F.Stackalloc x n body) = true
immediates_fit (Stmt-F.Call xs g ys) = true
immediates_fit (Stmt-F.Lit x n) = true
immediates_fit (Stmt-F.Copy x y) = true
immediates_fit (Stmt-F.Table x size bytes y) = true
immediates_fit (Stmt-F.If test first second) = true
immediates_fit (Stmt-F.Loop first test last) = true
immediates_fit (Stmt-F.Read x y) = true
immediates_fit (Stmt-F.Write y z) = true

-- a statement whose instructions fit their formats, its parts aside
abbrev pub is_encodable : {X : Type 0} → Stmt-F X → Bool
is_encodable y = are_registers (written y) && are_registers (read y) && immediates_fit y

-- a branch on registers
pub record HasRegisters (c : Branching) : Type 0 where
  pub left : c.left < 32
  pub right : c.right < 32
