-- What a pass that leaves out removable statements keeps.
use Rattle.std.specs.Prelude.{◌≡◌, List, [], ◌∷◌, IsTrue}
use Rattle.std.specs.List.{flat_map}
use Rattle.br_flatimp.specs.declared.program.Stmt.{Stmt}
use Rattle.br_flatimp.specs.declared.program.Stmt.TheOpen.{Stmt-F}
use Rattle.br_flatimp.specs.declared.program.Stmt.TheViews.{roll-Stmt}
use Rattle.br_flatimp.specs.declared.program.Stmt.TheFolds.{fold-Stmt}
use Rattle.br_flatimp.specs.declared.program.FlatFunc.{FlatFunc}
pub use Rattle.br_flatimp.specs.Parts.{joined}
use Rattle.br_flatimp.specs.Missed.{has_no_missed}

-- A statement without the removable statements in it, which are Lit, Copy, Op, Load
-- and Table: none where it is one of them.
abbrev pub others_step : Stmt-F (List Stmt) → List Stmt
others_step (Stmt-F.Lit x n) = []
others_step (Stmt-F.Copy x y) = []
others_step (Stmt-F.Op x op y z) = []
others_step (Stmt-F.Load x size y offset) = []
others_step (Stmt-F.Table x size bytes y) = []
others_step (Stmt-F.Store size y z offset) = roll-Stmt (Stmt-F.Store size y z offset) ∷ []
others_step (Stmt-F.Stackalloc x n body) = roll-Stmt (Stmt-F.Stackalloc x n (joined body)) ∷ []
others_step (Stmt-F.If test first second) =
    roll-Stmt (Stmt-F.If test (joined first) (joined second)) ∷ []
others_step (Stmt-F.Loop first test last) =
    roll-Stmt (Stmt-F.Loop (joined first) test (joined last)) ∷ []
others_step (Stmt-F.Call xs g ys) = roll-Stmt (Stmt-F.Call xs g ys) ∷ []
others_step (Stmt-F.Read x y) = roll-Stmt (Stmt-F.Read x y) ∷ []
others_step (Stmt-F.Write y z) = roll-Stmt (Stmt-F.Write y z) ∷ []

abbrev pub others : Stmt → List Stmt
others = fold-Stmt (List Stmt) others_step

-- the body of a function without its removable statements
abbrev pub other_statements : FlatFunc → List Stmt
other_statements f = flat_map others f.body

-- without their removable statements two functions have the same body
abbrev pub HasSameOthers : FlatFunc → FlatFunc → Type 0
HasSameOthers q p = other_statements q ≡ other_statements p

-- where no operand of the second is missed, none of the first is
abbrev pub MissesNoMore : FlatFunc → FlatFunc → Type 0
MissesNoMore q p = IsTrue (has_no_missed p) → IsTrue (has_no_missed q)

-- as many functions, each pair of them so
abbrev pub InPairs : (FlatFunc → FlatFunc → Type 0) → List FlatFunc → List FlatFunc → Type 0
InPairs R [] [] = Unit {0}
InPairs R (q ∷ qs) (p ∷ ps) = R q p × InPairs R qs ps
InPairs R [] (p ∷ ps) = ⊥
InPairs R (q ∷ qs) [] = ⊥
