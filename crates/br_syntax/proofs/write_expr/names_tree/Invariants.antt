-- The names so far are written.
use Rattle.std.proofs.Common.{◌≡◌, map, take}
use Rattle.br_sexpr.specs.declared.tree.Tree.TheVariants as tree
use Rattle.br_syntax.proofs.write_expr.names_tree.Given as goal

abbrev pub invariant-loop-name : goal.invariant-loop-name
invariant-loop-name l = l.items ≡ map (λ n. tree.Name 0 n) (take l.name-index l.names)
