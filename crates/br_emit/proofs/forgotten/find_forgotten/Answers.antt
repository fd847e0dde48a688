use Rattle.br_emit.proofs.Forgetting.{reads_less}
use Rattle.br_emit.proofs.forgotten.find_forgotten.Goals as goal

pub returns-clause-dead : goal.returns-clause-dead
returns-clause-dead c = reads_less c.note_program.new.sets c.settle.new.sets c.args.funcs.now c.settle.ensures.narrowed
    c.note_program.ensures
