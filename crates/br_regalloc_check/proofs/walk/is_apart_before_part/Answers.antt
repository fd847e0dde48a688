-- What is live before statements is what is live before the first.
use Rattle.std.proofs.Common.{◌+◌}
use Rattle.std.specs.Prelude.{slice_index, length}
use Rattle.br_live.specs.Tables.{rows}
use Rattle.br_regalloc_check.proofs.Walked.{first-apart}
use Rattle.br_regalloc_check.proofs.walk.is_apart_before_part.Goals as goal

pub returns-in-len1-up : goal.returns-in-len1-up
returns-in-len1-up c = λ names after is h.
    first-apart (length c.args.to.now) (slice_index c.args.to.now) (rows c.args.table.now) (c.args.of + 1) names
    c.args.x c.args.part.now c.s-item.result c.is_apart_before.result after
    c.in-len1-up.len_at_least c.s-item.is c.is_apart_before.ensures h
