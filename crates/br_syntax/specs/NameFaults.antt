-- Which names of a program are at fault. A name means the first function that has it.
use Rattle.std.specs.Prelude.{◌≡◌, ℕ, List, [], ◌∷◌, ◌++◌, Option, Some, None}
use Rattle.std.specs.Prelude.{is_some, length, map, ◌==◌, if◌then◌else◌, codes}
use Rattle.std.specs.List.{flat_map}
use Rattle.std.specs.Str.{bytes_eq}
use Rattle.br_syntax.specs.declared.program.Cmd.{Cmd}
use Rattle.br_syntax.specs.declared.program.Cmd.TheOpen.{Cmd-F}
use Rattle.br_syntax.specs.declared.program.Cmd.TheFolds.{fold-Cmd}
use Rattle.br_syntax.specs.declared.program.Func.{Func}
use Rattle.br_syntax.specs.Functions.{function_named}

-- Faults of names at an offset, over the five that a crate tells apart: a function has the name of
-- an earlier one; no function has the callee's name; another number of arguments; another number
-- of results; an action of no known name.
module _ (F : Type 0) (duplicate unknown arguments results action : ℕ → F) where
  -- a callee or an action of some numbers of arguments and results is given these numbers
  abbrev pub count_faults : ℕ → ℕ → ℕ → ℕ → ℕ → List F
  count_faults at args outs given_args given_outs =
      (if given_args == args then [] else arguments at ∷ [])
      ++ (if given_outs == outs then [] else results at ∷ [])

  -- a call of such a function
  abbrev pub call_faults : ℕ → ℕ → ℕ → Option Func → List F
  call_faults at given_args given_outs None = unknown at ∷ []
  call_faults at given_args given_outs (Some f) =
      count_faults at (length f.args) (length f.results) given_args given_outs

  -- an interaction of this name: a read has one argument and one result, a write two arguments
  abbrev pub action_faults : ℕ → ℕ → ℕ → List ℕ → List F
  action_faults at given_args given_outs name =
      if bytes_eq name (codes "MMIOREAD") then count_faults at 1 1 given_args given_outs
      else (if bytes_eq name (codes "MMIOWRITE") then count_faults at 2 0 given_args given_outs
      else action at ∷ [])

  -- faults of parts in turn
  abbrev pub joined_faults : List (List F) → List F
  joined_faults = flat_map (λ faults. faults)

  -- the faults in a command, given those in the commands in it
  abbrev pub faults_step : List Func → Cmd-F (List F) → List F
  faults_step fs Cmd-F.Skip = []
  faults_step fs (Cmd-F.Set x e) = []
  faults_step fs (Cmd-F.Unset x) = []
  faults_step fs (Cmd-F.Store size a e) = []
  faults_step fs (Cmd-F.Stackalloc x n body) = joined_faults body
  faults_step fs (Cmd-F.If e first second) = joined_faults first ++ joined_faults second
  faults_step fs (Cmd-F.While e body) = joined_faults body
  faults_step fs (Cmd-F.Seq body) = joined_faults body
  faults_step fs (Cmd-F.Call at outs callee args) =
      call_faults at (length args) (length outs) (function_named fs callee)
  faults_step fs (Cmd-F.Interact at outs name args) =
      action_faults at (length args) (length outs) name

  abbrev pub command_faults : List Func → Cmd → List F
  command_faults fs = fold-Cmd (List F) (faults_step fs)

  abbrev pub commands_faults : List Func → List Cmd → List F
  commands_faults fs cs = joined_faults (map (command_faults fs) cs)

  -- a fault at the name of each function that has the name of an earlier one
  abbrev pub duplicates_after : List Func → List Func → List F
  duplicates_after earlier [] = []
  duplicates_after earlier (f ∷ fs) =
      (if is_some (function_named earlier f.name) then duplicate f.at ∷ [] else [])
      ++ duplicates_after (earlier ++ f ∷ []) fs

  -- all faults of names in a program
  abbrev pub faults_of_names : List Func → List F
  faults_of_names fs =
      duplicates_after [] fs ++ joined_faults (map (λ f. commands_faults fs f.body) fs)

-- a fault of names, at an offset
pub data NameFault : Type 0 where
  DuplicateFunction : ℕ → NameFault
  UnknownFunction : ℕ → NameFault
  WrongArguments : ℕ → NameFault
  WrongResults : ℕ → NameFault
  UnknownAction : ℕ → NameFault

-- all faults of names in a program
abbrev pub name_faults : List Func → List NameFault
name_faults = faults_of_names NameFault DuplicateFunction UnknownFunction WrongArguments
    WrongResults UnknownAction

-- no name of the program is at fault
abbrev pub HasNoNameFault : List Func → Type 0
HasNoNameFault funcs = name_faults funcs ≡ []
