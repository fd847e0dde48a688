use Rattle.br_lightbulb.proofs.Main.{has_main}
use Rattle.br_lightbulb.proofs.Source.{is_firmware, stands}
use Rattle.br_lightbulb.proofs.laws.text_stands_for_trees.Goals as goal

pub returns-clause-some : goal.returns-clause-some
returns-clause-some c = stands

pub returns-clause-trees : goal.returns-clause-trees
returns-clause-trees c = is_firmware

pub returns-clause-main : goal.returns-clause-main
returns-clause-main c = λ fs is. has_main fs (is_firmware fs is)
