-- The bytes so far and those that follow make the whole list.
use Rattle.std.proofs.Common.{◌≡◌, map, drop}
use Rattle.br_syntax.specs.Shaped.{all, joined}
use Rattle.br_syntax.specs.Denotes.{byte}
use Rattle.br_syntax.proofs.part.byte_items.Given as goal

abbrev pub invariant-loop-item : goal.invariant-loop-item
invariant-loop-item l = joined l.found (all (map byte (drop l.item-index l.items))) ≡ all (map byte l.items)
