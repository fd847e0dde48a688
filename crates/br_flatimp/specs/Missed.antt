-- Operands that could be constants: names that a literal set before, in the same list and with
-- nothing between that may change them.
use Rattle.std.specs.Prelude.{ℕ, Bool, true, false, not, ◌||◌, List, []}
use Rattle.std.specs.Prelude.{◌∷◌, map, Option, Some, None, if◌then◌else◌}
use Rattle.std.specs.List.{list_any}
use Rattle.br_words.specs.Words.{signed}
use Rattle.br_words.specs.declared.operation.BinOp.{BinOp}
use Rattle.br_flatimp.specs.declared.program.Operand.TheVariants as operand
use Rattle.br_flatimp.specs.declared.program.Stmt.{Stmt}
use Rattle.br_flatimp.specs.declared.program.Stmt.TheOpen.{Stmt-F}
use Rattle.br_flatimp.specs.declared.program.Stmt.TheFolds.{fold-Stmt}
use Rattle.br_flatimp.specs.declared.program.FlatFunc.{FlatFunc}
use Rattle.br_flatimp.specs.Parts.{written, parts}
use Rattle.br_flatimp.specs.Liveness.{is_in}
use Rattle.br_flatimp.specs.WellFormed.{fits_operation}

-- an operation whose second operand is a name
pub record NameOperand : Type 0 where
  pub op : BinOp
  pub name : ℕ

-- what a list of statements shows of one of them
pub record Shown : Type 0 where
  pub written : List ℕ
  -- it is no Stackalloc, If, Loop or Call
  pub is_straight : Bool
  -- the word of a Lit
  pub literal : Option ℕ
  pub operand : Option NameOperand
  -- an operand in its parts is missed
  pub misses : Bool

abbrev pub is_straight : {X : Type 0} → Stmt-F X → Bool
is_straight (Stmt-F.Stackalloc x n body) = false
is_straight (Stmt-F.If test first second) = false
is_straight (Stmt-F.Loop first test last) = false
is_straight (Stmt-F.Call xs g ys) = false
is_straight (Stmt-F.Lit x n) = true
is_straight (Stmt-F.Copy x y) = true
is_straight (Stmt-F.Op x op y z) = true
is_straight (Stmt-F.Load x size y offset) = true
is_straight (Stmt-F.Store size y z offset) = true
is_straight (Stmt-F.Table x size bytes y) = true
is_straight (Stmt-F.Read x y) = true
is_straight (Stmt-F.Write y z) = true

abbrev pub literal : {X : Type 0} → Stmt-F X → Option ℕ
literal (Stmt-F.Lit x n) = Some n
literal (Stmt-F.Copy x y) = None
literal (Stmt-F.Op x op y z) = None
literal (Stmt-F.Load x size y offset) = None
literal (Stmt-F.Store size y z offset) = None
literal (Stmt-F.Table x size bytes y) = None
literal (Stmt-F.Stackalloc x n body) = None
literal (Stmt-F.If test first second) = None
literal (Stmt-F.Loop first test last) = None
literal (Stmt-F.Call xs g ys) = None
literal (Stmt-F.Read x y) = None
literal (Stmt-F.Write y z) = None

abbrev pub name_operand : {X : Type 0} → Stmt-F X → Option NameOperand
name_operand (Stmt-F.Op x op y (operand.Name z)) = Some (record { op = op; name = z })
name_operand (Stmt-F.Op x op y (operand.Const c)) = None
name_operand (Stmt-F.Lit x n) = None
name_operand (Stmt-F.Copy x y) = None
name_operand (Stmt-F.Load x size y offset) = None
name_operand (Stmt-F.Store size y z offset) = None
name_operand (Stmt-F.Table x size bytes y) = None
name_operand (Stmt-F.Stackalloc x n body) = None
name_operand (Stmt-F.If test first second) = None
name_operand (Stmt-F.Loop first test last) = None
name_operand (Stmt-F.Call xs g ys) = None
name_operand (Stmt-F.Read x y) = None
name_operand (Stmt-F.Write y z) = None

-- The word that a literal gave a name, looking back over the statements before, the nearest first:
-- up to the first that writes the name, over straight statements only.
abbrev pub literal_of : ℕ → List Shown → Option ℕ
literal_of y [] = None
literal_of y (s ∷ earlier) =
    if s.is_straight then (if is_in s.written y then s.literal else literal_of y earlier) else None

abbrev pub fits_literal : BinOp → Option ℕ → Bool
fits_literal op (Some n) = fits_operation op (signed n)
fits_literal op None = false

-- an operand is a name whose literal, taken as a signed number, fits the operation
abbrev pub is_missed : Option NameOperand → List Shown → Bool
is_missed (Some operand) earlier = fits_literal operand.op (literal_of operand.name earlier)
is_missed None earlier = false

-- an operand in these statements is missed, after others in the same list, the nearest first
abbrev pub misses_after : List Shown → List Shown → Bool
misses_after earlier [] = false
misses_after earlier (s ∷ rest) =
    is_missed s.operand earlier || s.misses || misses_after (s ∷ earlier) rest

abbrev pub shown_step : Stmt-F Shown → Shown
shown_step y = record {
  written = written y;
  is_straight = is_straight y;
  literal = literal y;
  operand = name_operand y;
  misses = list_any (misses_after []) (parts y);
}

abbrev pub shown : Stmt → Shown
shown = fold-Stmt Shown shown_step

-- no operand in the function is missed
abbrev pub has_no_missed : FlatFunc → Bool
has_no_missed f = not (misses_after [] (map shown f.body))
