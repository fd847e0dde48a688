-- A statement has a row of its own, the first of its rows.
use Rattle.std.proofs.Common.{ap, ◌∙◌}
use Rattle.br_live.specs.Tables.{Row, rows}
use Rattle.br_regalloc_check.proofs.Stands.{row-here}
use Rattle.br_regalloc_check.proofs.before.is_live_after.Goals as goal

pub returns : goal.returns
returns c = λ names after h.
    c.after.ensures
    ∙ ap (λ (r : Row). r.set c.args.x) (row-here (rows c.args.table.now) c.args.at names c.args.s.now after _ h)
