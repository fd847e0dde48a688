use Rattle.std.proofs.Common.{◌≡◌, ◌++◌, map, drop}
use Rattle.br_sexpr.specs.Canonical.{tree_text, spaced}
use Rattle.br_sexpr.proofs.printing.+push_tree.Given as goal

abbrev pub invariant-loop-other : goal.invariant-loop-other
invariant-loop-other l =
    l.text.items ++ spaced (map tree_text (drop l.other-index l.others))
    ≡ l.initial.text.items ++ spaced (map tree_text l.others)
