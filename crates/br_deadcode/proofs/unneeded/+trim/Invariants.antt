-- What is left so far, and of the statements from here on.
use Rattle.std.proofs.Common.{◌≡◌, ◌++◌, drop}
use Rattle.br_deadcode.specs.Unneeded.{listed, trimmed}
use Rattle.br_deadcode.proofs.unneeded.+trim.Given as goal

abbrev pub invariant-trim_all-loop-s : goal.invariant-trim_all-loop-s
invariant-trim_all-loop-s l = l.made ++ trimmed (listed l.bits) (drop l.s-index l.body) ≡ trimmed (listed l.bits) l.body
