use Rattle.br_spill.proofs.Programs.{spilled-refines}
use Rattle.br_spill.proofs.laws.spilled_programs_refine.Goals as goal

pub returns : goal.returns
returns c = spilled-refines c.operations_answer_words.ensures
