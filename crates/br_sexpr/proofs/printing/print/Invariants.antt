use Rattle.std.proofs.Common.{◌≡◌, ◌++◌, drop}
use Rattle.br_sexpr.specs.Canonical.{canonical}
use Rattle.br_sexpr.proofs.printing.print.Given as goal

abbrev pub invariant-loop-tree : goal.invariant-loop-tree
invariant-loop-tree l = l.text.items ++ canonical (drop l.tree-index l.trees) ≡ canonical l.trees
