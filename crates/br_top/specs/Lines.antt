-- The lines on standard error that need no more than the status.
use Rattle.std.specs.Prelude.{ℕ, List, [], ◌∷◌, ◌++◌, codes}

-- a line of the program on standard error: its name, what it says, and a line feed
abbrev pub error_line : List ℕ → List ℕ
error_line text = codes "brc: " ++ text ++ 10 ∷ []

-- for words that are no command
abbrev pub usage_line : List ℕ
usage_line =
    error_line (codes "usage: compile, print, list, run, interp, firmware, judge, sim or gen N")

-- where the input failed
abbrev pub read_fault_line : List ℕ
read_fault_line = error_line (codes "read fault")

-- where an output failed
abbrev pub write_fault_line : List ℕ
write_fault_line = error_line (codes "write fault")

-- where there was no memory
abbrev pub no_memory_line : List ℕ
no_memory_line = error_line (codes "no memory")
