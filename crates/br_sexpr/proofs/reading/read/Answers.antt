use Rattle.br_sexpr.proofs.Results.{Answers-trees, Answers-readable, Answers-fault, Answers-faulty, Answers-printed}
use Rattle.br_sexpr.proofs.reading.read.Goals as goal

pub returns-clause-trees : goal.returns-clause-trees
returns-clause-trees c = Answers-trees _ _ c.trees_of.ensures

pub returns-clause-fault : goal.returns-clause-fault
returns-clause-fault c = Answers-fault _ _ c.trees_of.ensures

pub returns-clause-readable : goal.returns-clause-readable
returns-clause-readable c = Answers-readable _ _ c.trees_of.ensures

pub returns-clause-faulty : goal.returns-clause-faulty
returns-clause-faulty c = Answers-faulty _ _ c.trees_of.ensures

pub returns-clause-printed : goal.returns-clause-printed
returns-clause-printed c = Answers-printed _ _ c.trees_of.ensures
