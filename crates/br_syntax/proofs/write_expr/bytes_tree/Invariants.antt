-- The bytes so far are written.
use Rattle.std.proofs.Common.{◌≡◌, true, map, take, Ok}
use Rattle.std.specs.List.{list_all}
use Rattle.br_syntax.specs.Shaped.{all}
use Rattle.br_syntax.specs.Denotes.{byte}
use Rattle.br_syntax.specs.Offsets.{is_unplaced}
use Rattle.br_syntax.proofs.write_expr.bytes_tree.Given as goal

abbrev pub invariant-loop-byte : goal.invariant-loop-byte
invariant-loop-byte l =
    (all (map byte l.items) ≡ Ok (take l.byte-index l.table)) × (list_all is_unplaced l.items ≡ true)
