use Rattle.br_flatimp.proofs.Given.{more_fuel-same, more_fuel-begins}
use Rattle.br_flatimp.proofs.run_laws.more_fuel_goes_on.Goals as goal

pub returns : goal.returns
returns c = record { same = more_fuel-same; begins = more_fuel-begins }
