-- What statements do to the names that are live after them.
use Rattle.br_flatimp.specs.Values.{Names}
use Rattle.br_flatimp.specs.Liveness.{union}
use Rattle.br_live.specs.declared.summary.Summary.{Summary}
use Rattle.br_live.specs.Sets.{difference}
use Rattle.br_live.specs.BitSets.{set_of}

-- What is live before statements, when it is known what is live after them: what they do not
-- surely write, and what they may read first.
abbrev pub handed : Summary → Names → Names
handed s after = union (difference after (set_of s.writes)) (set_of s.reads)
