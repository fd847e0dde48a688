-- The names so far, and those from here on.
use Rattle.std.proofs.Common.{◌≡◌, drop}
use Rattle.br_numbering.specs.Names.{with_names}
use Rattle.br_numbering.proofs.numbering.Numbering.add_all.Given as goal

abbrev pub invariant-loop-name : goal.invariant-loop-name
invariant-loop-name l = with_names l.self (drop l.name-index l.names) ≡ with_names l.initial.self l.names
