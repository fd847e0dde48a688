use Rattle.std.proofs.Common.{◌∷◌, ◌++◌, []}
use Rattle.br_judge.proofs.Ahead.{stands_after, begins_exactly}
use Rattle.br_judge.proofs.judge.Judge.take.Goals as goal

pub returns-clause-stands : goal.returns-clause-stands
returns-clause-stands c events stands =
    stands_after c.args.self.now.place c.place_after-self.result c.args.e events c.place_after-self.ensures stands

pub returns-clause-exact : goal.returns-clause-exact
returns-clause-exact c events stands =
    begins_exactly c.place_after-self.result (events ++ c.args.e ∷ []) c.is_outside.result c.is_outside.ensures
    (stands_after c.args.self.now.place c.place_after-self.result c.args.e events c.place_after-self.ensures stands)
