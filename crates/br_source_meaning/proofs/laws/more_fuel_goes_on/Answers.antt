use Rattle.br_source_meaning.proofs.Given.{more_fuel-same, more_fuel-begins}
use Rattle.br_source_meaning.proofs.laws.more_fuel_goes_on.Goals as goal

pub returns : goal.returns
returns c = record { same = more_fuel-same; begins = more_fuel-begins }
