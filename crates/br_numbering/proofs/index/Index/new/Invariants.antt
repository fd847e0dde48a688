-- The functions so far are numbered.
use Rattle.std.proofs.Common.{◌≡◌, ℕ, List, take}
use Rattle.std.specs.HashMap.{get_by}
use Rattle.std.specs.Str.{bytes_eq}
use Rattle.br_syntax.specs.Functions.{number_named}
use Rattle.br_numbering.proofs.index.Index.new.Given as goal

abbrev pub invariant-loop-i : goal.invariant-loop-i
invariant-loop-i l = (x : List ℕ) → get_by (λ k. bytes_eq x k.now) l.numbers ≡ number_named (take l.i l.funcs) x
