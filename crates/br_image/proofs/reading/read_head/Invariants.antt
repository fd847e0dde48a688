use Rattle.std.proofs.Common.{◌-◌, length}
use Rattle.br_image.specs.Reading.{EntriesRead}
use Rattle.br_image.proofs.Names.{HoldsNames}
use Rattle.br_image.proofs.reading.read_head.Given as goal

abbrev pub invariant-loop-names : goal.invariant-loop-names
invariant-loop-names l = EntriesRead l.layout l.text l.entries l.at × HoldsNames l.names l.entries

abbrev pub decreases-loop-names : goal.decreases-loop-names
decreases-loop-names l = length l.text - l.at
