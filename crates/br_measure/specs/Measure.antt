-- The most bytes of stack that a function may need. It is meant for programs in which no function
-- has
-- a path of calls to itself.
use Rattle.std.specs.Prelude.{ℕ, zero, suc, ◌+◌, ◌*◌, max, List, [], ◌∷◌, map, length, Option, Some}
use Rattle.std.specs.Prelude.{None}
use Rattle.br_syntax.specs.declared.program.Cmd.TheOpen.{Cmd-F}
use Rattle.br_syntax.specs.declared.program.Cmd.TheFolds.{fold-Cmd}
use Rattle.br_syntax.specs.declared.program.Func.{Func}
use Rattle.br_syntax.specs.Functions.{function_named}
use Rattle.br_measure.specs.Bulk.{function_bulk}
use Rattle.br_measure.specs.Paths.{callees}

-- the largest of numbers, or 0 where there is none
abbrev pub largest : List ℕ → ℕ
largest [] = 0
largest (n ∷ ns) = max n (largest ns)

-- the largest sum of buffer sizes nested in one another, given those of the commands in a command
abbrev pub nested_step : Cmd-F ℕ → ℕ
nested_step (Cmd-F.Stackalloc x n body) = n + largest body
nested_step (Cmd-F.If e first second) = max (largest first) (largest second)
nested_step (Cmd-F.While e body) = largest body
nested_step (Cmd-F.Seq body) = largest body
nested_step Cmd-F.Skip = 0
nested_step (Cmd-F.Set x e) = 0
nested_step (Cmd-F.Unset x) = 0
nested_step (Cmd-F.Store size a e) = 0
nested_step (Cmd-F.Call at xs callee es) = 0
nested_step (Cmd-F.Interact at xs action es) = 0

-- the largest sum of buffer sizes nested in one another in a function
abbrev pub nested_buffers : Func → ℕ
nested_buffers f = largest (map (fold-Cmd ℕ nested_step) f.body)

-- The bytes of a function, and the most that one of its callees needs. Where no function has a path
-- of calls to itself, a path of calls has no more functions than the program, so a depth of that
-- number is enough.
abbrev pub measure_within : ℕ → List Func → Option Func → ℕ
measure_within zero fs f = 0
measure_within (suc depth) fs None = 0
measure_within (suc depth) fs (Some f) =
    4 * function_bulk f + 256 + nested_buffers f
    + largest (map (λ x. measure_within depth fs (function_named fs x)) (callees f))

abbrev pub measure : List Func → Func → ℕ
measure fs f = measure_within (length fs) fs (Some f)
