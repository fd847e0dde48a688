-- Which names of a program are at fault, as the faults of this crate.
use Rattle.std.specs.Prelude.{ℕ, ◌+◌, ◌*◌, List, Option}
use Rattle.br_syntax.specs.declared.program.Cmd.{Cmd}
use Rattle.br_syntax.specs.declared.program.Cmd.TheOpen.{Cmd-F}
use Rattle.br_syntax.specs.declared.program.Func.{Func}
use Rattle.br_syntax.specs.NameFaults as names
use Rattle.br_measure.specs.declared.faults.NameFault.{NameFault}
use Rattle.br_measure.specs.declared.faults.NameFault.TheVariants.{DuplicateFunction}
use Rattle.br_measure.specs.declared.faults.NameFault.TheVariants.{UnknownFunction, WrongArguments}
use Rattle.br_measure.specs.declared.faults.NameFault.TheVariants.{WrongResults, UnknownAction}
use Rattle.br_measure.specs.declared.faults.NameFault.TheVariants.{TooLarge, Recursion}
use Rattle.br_measure.specs.declared.faults.NameFault.TheVariants.{StackTooDeep}

-- a number that orders faults of names by offset, and at one offset as they are listed here
abbrev pub place : NameFault → ℕ
place (DuplicateFunction at) = 5 * at
place (UnknownFunction at) = 5 * at + 1
place (WrongArguments at) = 5 * at + 2
place (WrongResults at) = 5 * at + 3
place (UnknownAction at) = 5 * at + 4
place (TooLarge bulk) = 0
place (Recursion f) = 0
place (StackTooDeep f s) = 0

-- a callee or an action of some numbers of arguments and results is given these numbers
abbrev pub count_faults : ℕ → ℕ → ℕ → ℕ → ℕ → List NameFault
count_faults = names.count_faults NameFault DuplicateFunction UnknownFunction WrongArguments
    WrongResults UnknownAction

-- a call of such a function
abbrev pub call_faults : ℕ → ℕ → ℕ → Option Func → List NameFault
call_faults = names.call_faults NameFault DuplicateFunction UnknownFunction WrongArguments
    WrongResults UnknownAction

-- an interaction of this name
abbrev pub action_faults : ℕ → ℕ → ℕ → List ℕ → List NameFault
action_faults = names.action_faults NameFault DuplicateFunction UnknownFunction WrongArguments
    WrongResults UnknownAction

-- faults of parts in turn
abbrev pub joined : List (List NameFault) → List NameFault
joined = names.joined_faults NameFault DuplicateFunction UnknownFunction WrongArguments WrongResults
    UnknownAction

-- the faults of names in a command, given those in the commands in it
abbrev pub faults_step : List Func → Cmd-F (List NameFault) → List NameFault
faults_step = names.faults_step NameFault DuplicateFunction UnknownFunction WrongArguments
    WrongResults UnknownAction

-- the faults of names in a command
abbrev pub command_faults : List Func → Cmd → List NameFault
command_faults = names.command_faults NameFault DuplicateFunction UnknownFunction WrongArguments
    WrongResults UnknownAction

-- the faults of names in commands
abbrev pub commands_faults : List Func → List Cmd → List NameFault
commands_faults = names.commands_faults NameFault DuplicateFunction UnknownFunction WrongArguments
    WrongResults UnknownAction

-- a fault at the name of each function that has the name of an earlier one
abbrev pub duplicates_after : List Func → List Func → List NameFault
duplicates_after = names.duplicates_after NameFault DuplicateFunction UnknownFunction WrongArguments
    WrongResults UnknownAction

-- all faults of names in a program
abbrev pub name_faults : List Func → List NameFault
name_faults = names.faults_of_names NameFault DuplicateFunction UnknownFunction WrongArguments
    WrongResults UnknownAction
