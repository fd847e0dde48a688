-- Which texts stand for which programs, and what refuses the others.
use Rattle.std.specs.Prelude.{ℕ, ◌<◌, ◌≤◌, List, length}
use Rattle.br_sexpr.specs.declared.tree.Tree.{Tree}
use Rattle.br_sexpr.specs.Reads.{most_bytes, Reads, HasFault}
use Rattle.br_syntax.specs.declared.program.Func.{Func}
use Rattle.br_syntax.specs.Denotes.{Denotes, IsShapeFault}
use Rattle.br_measure.specs.Faults.{IsFault, IsSound}
use Rattle.br_compile.specs.declared.refusal.Refusal.{Refusal}
use Rattle.br_compile.specs.declared.refusal.Refusal.TheVariants as refusal

-- the text is read as trees that stand for these functions
abbrev pub StandsFor : List ℕ → List Func → Type 0
StandsFor text fs =
    (length text ≤ most_bytes) × (trees : List Tree) × Reads text trees × Denotes trees fs

-- the text stands for these functions, and no rule on names, bulk, recursion and stack is broken
abbrev pub Accepts : List ℕ → List Func → Type 0
Accepts text fs = StandsFor text fs × IsSound fs

-- the first fault of a text, in the order of the variants
abbrev pub IsFaultOf : List ℕ → Refusal → Type 0
IsFaultOf text refusal.InputTooLong = most_bytes < length text
IsFaultOf text (refusal.Text fault) = (length text ≤ most_bytes) × HasFault text fault
IsFaultOf text (refusal.Shape fault) =
    (length text ≤ most_bytes) × (trees : List Tree) × Reads text trees × IsShapeFault trees fault
IsFaultOf text (refusal.Names fault) = (fs : List Func) × StandsFor text fs × IsFault fs fault

-- the refusal is for the lowest fault of shape in the trees
abbrev pub IsShapeRefusal : List Tree → Refusal → Type 0
IsShapeRefusal trees (refusal.Shape fault) = IsShapeFault trees fault
IsShapeRefusal trees refusal.InputTooLong = ⊥
IsShapeRefusal trees (refusal.Text fault) = ⊥
IsShapeRefusal trees (refusal.Names fault) = ⊥

-- the refusal is for the fault of the program
abbrev pub IsNameRefusal : List Func → Refusal → Type 0
IsNameRefusal fs (refusal.Names fault) = IsFault fs fault
IsNameRefusal fs refusal.InputTooLong = ⊥
IsNameRefusal fs (refusal.Text fault) = ⊥
IsNameRefusal fs (refusal.Shape fault) = ⊥
