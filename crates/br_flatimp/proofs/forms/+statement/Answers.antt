use Rattle.std.proofs.Common.{arith}
use Rattle.br_flatimp.proofs.Decided.{whole}
use Rattle.br_flatimp.proofs.forms.+statement.Goals as goal

pub statement_fits-returns-then-not-statements_fit : goal.statement_fits-returns-then-not-statements_fit
statement_fits-returns-then-not-statements_fit t c = grind (arith, whole)

pub statement_fits-returns-else-not-buffer_fits : goal.statement_fits-returns-else-not-buffer_fits
statement_fits-returns-else-not-buffer_fits t c = grind (arith, whole)

pub statement_fits-returns-else-not-statements_fit : goal.statement_fits-returns-else-not-statements_fit
statement_fits-returns-else-not-statements_fit t c = grind (arith, whole)
