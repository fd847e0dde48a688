-- The names so far and those that follow make the whole list.
use Rattle.std.proofs.Common.{◌≡◌, [], take, drop}
use Rattle.br_syntax.specs.Shaped.{joined}
use Rattle.br_syntax.specs.Denotes.{names_after}
use Rattle.br_syntax.proofs.part.name_items.Given as goal

abbrev pub invariant-loop-i : goal.invariant-loop-i
invariant-loop-i l = joined l.found (names_after (take l.i l.items) (drop l.i l.items)) ≡ names_after [] l.items
