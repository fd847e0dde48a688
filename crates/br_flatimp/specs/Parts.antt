-- What a statement is made of: the names that it writes and reads itself, its parts aside, and its
-- parts, which are lists of statements.
use Rattle.std.specs.Prelude.{ℕ, Bool, ◌&&◌, List, [], ◌∷◌, ◌++◌}
use Rattle.std.specs.List.{flat_map, list_all}
use Rattle.br_flatimp.specs.declared.program.Operand.{Operand}
use Rattle.br_flatimp.specs.declared.program.Operand.TheVariants as operand
use Rattle.br_flatimp.specs.declared.program.Cond.{Cond}
use Rattle.br_flatimp.specs.declared.program.Cond.TheVariants.{NonZero, Compare}
use Rattle.br_flatimp.specs.declared.program.Stmt.{Stmt}
use Rattle.br_flatimp.specs.declared.program.Stmt.TheOpen.{Stmt-F}
use Rattle.br_flatimp.specs.declared.program.Stmt.TheFolds.{fold-Stmt}
use Rattle.br_flatimp.specs.declared.program.FlatFunc.{FlatFunc}

-- the names that a statement writes
abbrev pub written : {X : Type 0} → Stmt-F X → List ℕ
written (Stmt-F.Lit x n) = x ∷ []
written (Stmt-F.Copy x y) = x ∷ []
written (Stmt-F.Op x op y z) = x ∷ []
written (Stmt-F.Load x size y offset) = x ∷ []
written (Stmt-F.Store size y z offset) = []
written (Stmt-F.Table x size bytes y) = x ∷ []
written (Stmt-F.Stackalloc x n body) = x ∷ []
written (Stmt-F.If test first second) = []
written (Stmt-F.Loop first test last) = []
written (Stmt-F.Call xs g ys) = xs
written (Stmt-F.Read x y) = x ∷ []
written (Stmt-F.Write y z) = []

abbrev pub operand_names : Operand → List ℕ
operand_names (operand.Name y) = y ∷ []
operand_names (operand.Const c) = []

abbrev pub test_names : Cond → List ℕ
test_names (NonZero y) = y ∷ []
test_names (Compare rel y z) = y ∷ z ∷ []

-- the names that a statement reads
abbrev pub read : {X : Type 0} → Stmt-F X → List ℕ
read (Stmt-F.Lit x n) = []
read (Stmt-F.Copy x y) = y ∷ []
read (Stmt-F.Op x op y z) = y ∷ operand_names z
read (Stmt-F.Load x size y offset) = y ∷ []
read (Stmt-F.Store size y z offset) = y ∷ z ∷ []
read (Stmt-F.Table x size bytes y) = y ∷ []
read (Stmt-F.Stackalloc x n body) = []
read (Stmt-F.If test first second) = test_names test
read (Stmt-F.Loop first test last) = test_names test
read (Stmt-F.Call xs g ys) = ys
read (Stmt-F.Read x y) = y ∷ []
read (Stmt-F.Write y z) = y ∷ z ∷ []

-- the statements in a statement, one list for each of its parts
abbrev pub parts : {X : Type 0} → Stmt-F X → List (List X)
parts (Stmt-F.Stackalloc x n body) = body ∷ []
parts (Stmt-F.If test first second) = first ∷ second ∷ []
parts (Stmt-F.Loop first test last) = first ∷ last ∷ []
parts (Stmt-F.Lit x n) = []
parts (Stmt-F.Copy x y) = []
parts (Stmt-F.Op x op y z) = []
parts (Stmt-F.Load x size y offset) = []
parts (Stmt-F.Store size y z offset) = []
parts (Stmt-F.Table x size bytes y) = []
parts (Stmt-F.Call xs g ys) = []
parts (Stmt-F.Read x y) = []
parts (Stmt-F.Write y z) = []

-- a test holds of a statement and of each in its parts
abbrev pub throughout : (Stmt-F Bool → Bool) → Stmt → Bool
throughout test = fold-Stmt Bool (λ y. test y && list_all (list_all (λ ok. ok)) (parts y))

-- a list for a statement, and those for each in its parts after it
abbrev pub gathered : {X : Type 0} → (Stmt-F (List X) → List X) → Stmt → List X
gathered {X} own = fold-Stmt (List X) (λ y. own y ++ flat_map (flat_map (λ xs. xs)) (parts y))

-- the names in a statement, as often as they stand there
abbrev pub statement_names : Stmt → List ℕ
statement_names = gathered (λ y. written y ++ read y)

-- the names in a function
abbrev pub function_names : FlatFunc → List ℕ
function_names f = f.args ++ f.results ++ flat_map statement_names f.body

-- the names that a statement writes and reads itself, its parts aside

abbrev pub own_written : Stmt → List ℕ
own_written = fold-Stmt (List ℕ) written

abbrev pub own_read : Stmt → List ℕ
own_read = fold-Stmt (List ℕ) read

-- lists of statements, one after another
abbrev pub joined : List (List Stmt) → List Stmt
joined = flat_map (λ body. body)

abbrev pub own_callees : {X : Type 0} → Stmt-F X → List ℕ
own_callees (Stmt-F.Call xs g ys) = g ∷ []
own_callees (Stmt-F.Lit x n) = []
own_callees (Stmt-F.Copy x y) = []
own_callees (Stmt-F.Op x op y z) = []
own_callees (Stmt-F.Load x size y offset) = []
own_callees (Stmt-F.Store size y z offset) = []
own_callees (Stmt-F.Table x size bytes y) = []
own_callees (Stmt-F.Stackalloc x n body) = []
own_callees (Stmt-F.If test first second) = []
own_callees (Stmt-F.Loop first test last) = []
own_callees (Stmt-F.Read x y) = []
own_callees (Stmt-F.Write y z) = []

-- the numbers of the functions that a function calls, in the order of its calls
abbrev pub callees : FlatFunc → List ℕ
callees f = flat_map (gathered own_callees) f.body
