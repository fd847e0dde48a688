use Rattle.std.proofs.Common.{◌<◌, length, ◌∙◌}
use Rattle.br_measure.proofs.FoundFaults.{kept_within}
use Rattle.br_measure.proofs.checking.Checked.measure.Goals as goal

pub returns-clause-limit : goal.returns-clause-limit
returns-clause-limit c =
    let kept = c.self.invariant in
    let inside : c.args.f < length c.self.inside.program.funcs = rw c.self.view_is c.requires in
    kept_within c.self.inside.program.funcs c.as_slice.result.now c.args.f kept.sound.shallow
    (c.as_slice.ensures ∙ kept.measures_are) inside
