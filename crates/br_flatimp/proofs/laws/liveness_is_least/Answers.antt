use Rattle.br_flatimp.proofs.LiveTables.{table-keeps, table-least}
use Rattle.br_flatimp.proofs.laws.liveness_is_least.Goals as goal

pub returns : goal.returns
returns c = record { keeps = table-keeps; least = table-least }
