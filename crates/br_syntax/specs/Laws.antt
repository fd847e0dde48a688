-- Laws of what trees stand for.
use Rattle.std.specs.Prelude.{◌≡◌, ◌⊎◌, List, []}
use Rattle.br_sexpr.specs.declared.tree.Tree.{Tree}
use Rattle.br_syntax.specs.declared.faults.ShapeFault.{ShapeFault}
use Rattle.br_syntax.specs.declared.program.Func.{Func}
use Rattle.br_syntax.specs.Denotes.{Denotes, IsShapeFault}
use Rattle.br_syntax.specs.FaultOrder.{place, IsLowest}
use Rattle.br_syntax.specs.Faults.{all_faults}
use Rattle.br_syntax.specs.Offsets.{without_offsets, IsEqualUpToOffsets}
use Rattle.br_syntax.specs.Shape.{IsShaped}

-- there is a program or a fault
abbrev pub HasMeaning : List Tree → Type 0
HasMeaning trees =
    ((funcs : List Func) × Denotes trees funcs) ⊎ ((fault : ShapeFault) × IsShapeFault trees fault)

-- no two programs
abbrev pub AtMostOneProgram : List Tree → Type 0
AtMostOneProgram trees =
    (one other : List Func) → Denotes trees one → Denotes trees other → one ≡ other

-- no two faults
abbrev pub AtMostOneFault : List Tree → Type 0
AtMostOneFault trees =
    (one other : ShapeFault) → IsShapeFault trees one → IsShapeFault trees other → one ≡ other

-- no program beside a fault
abbrev pub NeverBoth : List Tree → Type 0
NeverBoth trees = (funcs : List Func) (fault : ShapeFault) → Denotes trees funcs
    → IsShapeFault trees fault → ⊥

-- what trees stand for keeps the limits on names, arguments and buffers
abbrev pub KeepsLimits : List Tree → Type 0
KeepsLimits trees = (funcs : List Func) → Denotes trees funcs → IsShaped funcs

-- the fault of the trees is the lowest of all faults that stand in them
abbrev pub FaultIsLowest : List Tree → Type 0
FaultIsLowest trees =
    (fault : ShapeFault) → IsShapeFault trees fault → IsLowest place (all_faults trees) fault

-- no fault stands in trees that stand for a program
abbrev pub NoneStands : List Tree → Type 0
NoneStands trees = (funcs : List Func) → Denotes trees funcs → all_faults trees ≡ []

-- offsets that are left out twice are left out once
abbrev pub UnplacedAgain : List Func → Type 0
UnplacedAgain funcs = IsEqualUpToOffsets (without_offsets funcs) funcs
