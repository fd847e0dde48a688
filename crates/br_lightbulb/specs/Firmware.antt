-- The firmware: the program that its text stands for.
use Rattle.std.specs.Prelude.{ℕ, List}
use Rattle.br_sexpr.specs.declared.tree.Tree.{Tree}
use Rattle.br_sexpr.specs.Reads.{Reads}
use Rattle.br_syntax.specs.declared.program.Func.{Func}
use Rattle.br_syntax.specs.Denotes.{Denotes}
use Rattle.br_syntax.specs.Offsets.{IsEqualUpToOffsets}
use Rattle.br_lightbulb.specs.Text.{firmware_text}

-- the text is that of trees that stand for these functions
abbrev pub IsProgramOf : List ℕ → List Func → Type 0
IsProgramOf text funcs = (trees : List Tree) × Reads text trees × Denotes trees funcs

-- the functions of the firmware, with the offsets of its text
abbrev pub IsFirmware : List Func → Type 0
IsFirmware funcs = IsProgramOf firmware_text funcs

-- the functions of the firmware, whatever their offsets are
abbrev pub IsFirmwareUpToOffsets : List Func → Type 0
IsFirmwareUpToOffsets funcs =
    (exact : List Func) × IsFirmware exact × IsEqualUpToOffsets funcs exact
