-- The instruction table says that the fields of an instruction are in range.
use Rattle.br_machine.proofs.Words.{IsMachine-step}
use Rattle.br_machine.proofs.laws.steps_make_machines.Goals as goal

pub returns : goal.returns
returns c = IsMachine-step c.instructions_and_words_match.ensures.in_range
