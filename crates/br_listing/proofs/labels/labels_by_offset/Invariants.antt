use Rattle.std.proofs.Common.{take}
use Rattle.br_listing.specs.Index.{IsIndex}
use Rattle.br_listing.proofs.labels.labels_by_offset.Given as goal

abbrev pub invariant-loop-entry : goal.invariant-loop-entry
invariant-loop-entry l = IsIndex l.labels (take l.entry-index l.entries)
