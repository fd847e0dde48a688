use Rattle.br_lightbulb.proofs.Main.{firmware_stays}
use Rattle.br_lightbulb.proofs.Source.{is_firmware}
use Rattle.br_lightbulb.proofs.laws.firmware_stays_good.Goals as goal

pub returns : goal.returns
returns c = λ fs f is. firmware_stays fs f (is_firmware fs is)
