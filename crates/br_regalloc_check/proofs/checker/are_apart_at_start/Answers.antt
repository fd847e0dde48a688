-- What is live before statements is what is live before the first.
use Rattle.std.proofs.Common.{length}
use Rattle.std.specs.Prelude.{slice_index}
use Rattle.br_live.specs.Tables.{rows}
use Rattle.br_regalloc_check.proofs.Walked.{first-all}
use Rattle.br_regalloc_check.proofs.checker.are_apart_at_start.Goals as goal

pub returns-in-len1-up : goal.returns-in-len1-up
returns-in-len1-up c = λ names after h.
    first-all (length c.args.to.now) (slice_index c.args.to.now) (rows c.args.table.now) 0 names c.args.body.now
    c.s-item.result c.are_apart_before.result after
    c.in-len1-up.len_at_least c.s-item.is c.are_apart_before.ensures h
