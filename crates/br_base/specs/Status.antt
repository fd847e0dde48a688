-- The exit status of the program.
use Rattle.std.specs.Prelude.{ℕ}
use Rattle.br_base.specs.declared.status.Status.{Status}
use Rattle.br_base.specs.declared.status.Status.TheVariants.{Done, Refused, Usage, ReadFault}
use Rattle.br_base.specs.declared.status.Status.TheVariants.{WriteFault, NoMemory}

-- the number that stands for a status
abbrev pub code_of : Status → ℕ
code_of Done = 0
code_of Refused = 1
code_of Usage = 2
code_of ReadFault = 3
code_of WriteFault = 4
code_of NoMemory = 5
