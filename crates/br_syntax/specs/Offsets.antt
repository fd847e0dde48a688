-- Programs and trees without their offsets.
use Rattle.std.specs.Prelude.{◌≡◌, Bool, ◌&&◌, List, map, IsTrue, ◌==◌}
use Rattle.std.specs.List.{list_all}
use Rattle.br_sexpr.specs.declared.tree.Tree.{Tree}
use Rattle.br_sexpr.specs.declared.tree.Tree.TheOpen.{Tree-F}
use Rattle.br_sexpr.specs.declared.tree.Tree.TheOpen.Tree-F.{Name, Number, List as Items}
use Rattle.br_sexpr.specs.declared.tree.Tree.TheFolds.{fold-Tree}
use Rattle.br_syntax.specs.declared.program.Cmd.{Cmd}
use Rattle.br_syntax.specs.declared.program.Cmd.TheVariants as cmd
use Rattle.br_syntax.specs.declared.program.Cmd.TheOpen.{Cmd-F}
use Rattle.br_syntax.specs.declared.program.Cmd.TheOpen.Cmd-F.{Skip, Set, Unset, Store, Stackalloc}
use Rattle.br_syntax.specs.declared.program.Cmd.TheOpen.Cmd-F.{If, While, Seq, Call, Interact}
use Rattle.br_syntax.specs.declared.program.Cmd.TheFolds.{fold-Cmd}
use Rattle.br_syntax.specs.declared.program.Func.{Func}

-- one command with its offset 0
abbrev pub unplaced_step : Cmd-F Cmd → Cmd
unplaced_step Skip = cmd.Skip
unplaced_step (Set name value) = cmd.Set name value
unplaced_step (Unset name) = cmd.Unset name
unplaced_step (Store size address value) = cmd.Store size address value
unplaced_step (Stackalloc name size body) = cmd.Stackalloc name size body
unplaced_step (If test then_part else_part) = cmd.If test then_part else_part
unplaced_step (While test body) = cmd.While test body
unplaced_step (Seq body) = cmd.Seq body
unplaced_step (Call at results callee arguments) = cmd.Call 0 results callee arguments
unplaced_step (Interact at results action arguments) = cmd.Interact 0 results action arguments

-- a command with every offset in it 0
abbrev pub unplaced : Cmd → Cmd
unplaced = fold-Cmd Cmd unplaced_step

-- a function with every offset in it 0
abbrev pub unplaced_function : Func → Func
unplaced_function f = record f { at = 0; body = map unplaced f.body }

-- the functions with every offset in them 0
abbrev pub without_offsets : List Func → List Func
without_offsets functions = map unplaced_function functions

-- the two lists of functions differ in offsets at most
abbrev pub IsEqualUpToOffsets : List Func → List Func → Type 0
IsEqualUpToOffsets functions others = without_offsets functions ≡ without_offsets others

-- one tree, with the test of each item in that item's place
abbrev pub zero_step : Tree-F Bool → Bool
zero_step (Name at text) = at == 0
zero_step (Number at value) = at == 0
zero_step (Items at items) = (at == 0) && list_all (λ ok. ok) items

-- whether every offset in the tree is 0
abbrev pub is_unplaced : Tree → Bool
is_unplaced = fold-Tree Bool zero_step

-- every offset in the trees is 0
abbrev pub AreUnplaced : List Tree → Type 0
AreUnplaced trees = IsTrue (list_all is_unplaced trees)
