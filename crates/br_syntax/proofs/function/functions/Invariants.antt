-- The functions so far and those that follow make the whole.
use Rattle.std.proofs.Common.{◌≡◌, drop}
use Rattle.br_syntax.specs.Shaped.{joined}
use Rattle.br_syntax.specs.Denotes.{functions}
use Rattle.br_syntax.proofs.function.functions.Given as goal

abbrev pub invariant-loop-tree : goal.invariant-loop-tree
invariant-loop-tree l = joined l.found (functions (drop l.tree-index l.trees)) ≡ functions l.trees
