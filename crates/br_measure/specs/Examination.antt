-- What was found of the functions of a program.
use Rattle.std.specs.Prelude.{◌≡◌, List, map}
use Rattle.br_syntax.specs.declared.program.Func.{Func}
use Rattle.br_measure.specs.declared.phases.Examined.{Examined}
use Rattle.br_measure.specs.declared.phases.Examined.TheVariants.{Sound, Faulty}
use Rattle.br_measure.specs.Measure.{measure}
use Rattle.br_measure.specs.Faults.{IsFault, IsSound}

-- a sound program has its measures, and each other its fault
abbrev pub IsExamined : List Func → Examined → Type 0
IsExamined fs (Sound measures) = IsSound fs × (measures ≡ map (measure fs) fs)
IsExamined fs (Faulty fault) = IsFault fs fault
