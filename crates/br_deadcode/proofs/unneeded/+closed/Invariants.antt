use Rattle.std.proofs.Common.{◌≡◌, drop}
use Rattle.std.specs.List.{list_all}
use Rattle.br_deadcode.specs.Unneeded.{is_closed, listed}
use Rattle.br_deadcode.proofs.unneeded.+closed.Given as goal

abbrev pub invariant-are_closed-loop-s : goal.invariant-are_closed-loop-s
invariant-are_closed-loop-s l =
    list_all (is_closed (listed l.bits)) l.body ≡ list_all (is_closed (listed l.bits)) (drop l.s-index l.body)
