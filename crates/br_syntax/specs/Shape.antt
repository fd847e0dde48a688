-- What the parts of a program have to keep so that a source text can say them.
use Rattle.std.specs.Prelude.{ℕ, ◌%◌, Bool, true, not, ◌&&◌, List}
use Rattle.std.specs.Prelude.{[], ◌∷◌, length, IsTrue, nat_le, ◌==◌}
use Rattle.std.specs.List.{list_all, list_any}
use Rattle.std.specs.Str.{bytes_eq}
use Rattle.br_syntax.specs.declared.program.Expr.{Expr}
use Rattle.br_syntax.specs.declared.program.Cmd.{Cmd}
use Rattle.br_syntax.specs.declared.program.Cmd.TheOpen.{Cmd-F}
use Rattle.br_syntax.specs.declared.program.Cmd.TheOpen.Cmd-F.{Skip, Set, Unset, Store, Stackalloc}
use Rattle.br_syntax.specs.declared.program.Cmd.TheOpen.Cmd-F.{If, While, Seq, Call, Interact}
use Rattle.br_syntax.specs.declared.program.Cmd.TheFolds.{fold-Cmd}
use Rattle.br_syntax.specs.declared.program.Func.{Func}

-- no name of the list stands in it twice
abbrev pub all_differ : List (List ℕ) → Bool
all_differ [] = true
all_differ (name ∷ names) = not (list_any (bytes_eq name) names) && all_differ names

-- at most eight names, and none of them twice
abbrev pub are_names : List (List ℕ) → Bool
are_names names = nat_le (length names) 8 && all_differ names

-- a multiple of 4 up to 65,536
abbrev pub is_buffer_size : ℕ → Bool
is_buffer_size size = (size % 4 == 0) && nat_le size 65536

-- at most eight arguments
abbrev pub are_arguments : List Expr → Bool
are_arguments arguments = nat_le (length arguments) 8

-- one command, with the test of each command in it in that command's place
abbrev pub command_step : Cmd-F Bool → Bool
command_step Skip = true
command_step (Set name value) = true
command_step (Unset name) = true
command_step (Store size address value) = true
command_step (Stackalloc name size body) = is_buffer_size size && list_all (λ ok. ok) body
command_step (If test then_body else_body) =
    list_all (λ ok. ok) then_body && list_all (λ ok. ok) else_body
command_step (While test body) = list_all (λ ok. ok) body
command_step (Seq body) = list_all (λ ok. ok) body
command_step (Call at results callee arguments) = are_names results && are_arguments arguments
command_step (Interact at results action arguments) = are_names results && are_arguments arguments

-- whether a command keeps the limits on names, arguments and buffers throughout
abbrev pub is_shaped_command : Cmd → Bool
is_shaped_command = fold-Cmd Bool command_step

-- whether a function keeps the limits throughout
abbrev pub is_shaped_function : Func → Bool
is_shaped_function f =
    are_names f.args && (are_names f.results && list_all is_shaped_command f.body)

-- each function keeps the limits on names, arguments and buffers
abbrev pub IsShaped : List Func → Type 0
IsShaped functions = IsTrue (list_all is_shaped_function functions)
