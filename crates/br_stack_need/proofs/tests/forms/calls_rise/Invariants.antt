-- The calls of the functions so far rise.
use Rattle.std.proofs.Common.{ℕ, ◌<◌, IsTrue}
use Rattle.br_stack_need.proofs.Forms.{row_rises}
use Rattle.br_stack_need.proofs.tests.forms.calls_rise.Given as goal

abbrev pub invariant-loop-f : goal.invariant-loop-f
invariant-loop-f l = (f : ℕ) → f < l.f → IsTrue (row_rises l.ranks l.row-items f)
