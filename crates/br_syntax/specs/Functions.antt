-- Functions of a program by name. A name means the first function that has it.
use Rattle.std.specs.Prelude.{ℕ, List, Option}
use Rattle.std.specs.List.{find, position}
use Rattle.std.specs.Str.{bytes_eq}
use Rattle.br_syntax.specs.declared.program.Func.{Func}

-- the first function of a name
abbrev pub function_named : List Func → List ℕ → Option Func
function_named fs x = find (λ f. bytes_eq f.name x) fs

-- its number, counted from 0 in the order of the text
abbrev pub number_named : List Func → List ℕ → Option ℕ
number_named fs x = position (λ f. bytes_eq f.name x) fs
