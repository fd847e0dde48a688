use Rattle.std.proofs.Common.{subst}
use Rattle.br_deadcode.specs.LeftOut.{InPairs}
use Rattle.br_deadcode.specs.Unneeded.{IsTrimmed}
use Rattle.br_deadcode.proofs.TrimmedSizes.{trimmed-left, trimmed-formed}
use Rattle.br_deadcode.proofs.unneeded.remove_unneeded.Goals as goal

pub returns-clause-well_formed : goal.returns-clause-well_formed
returns-clause-well_formed c =
    trimmed-formed c.in_ok-funcs.funcs c.args.p.funcs
    (subst (λ fs. InPairs IsTrimmed c.in_ok-funcs.funcs fs) c.as_slice.ensures c.in_ok-funcs.ensures) c.requires

pub returns-clause-refines : goal.returns-clause-refines
returns-clause-refines c =
    (trimmed-left c.in_ok-funcs.funcs c.args.p.funcs
    (subst (λ fs. InPairs IsTrimmed c.in_ok-funcs.funcs fs) c.as_slice.ensures c.in_ok-funcs.ensures)).refines

pub returns-clause-kept : goal.returns-clause-kept
returns-clause-kept c =
    (trimmed-left c.in_ok-funcs.funcs c.args.p.funcs
    (subst (λ fs. InPairs IsTrimmed c.in_ok-funcs.funcs fs) c.as_slice.ensures c.in_ok-funcs.ensures)).kept

pub returns-clause-others_stay : goal.returns-clause-others_stay
returns-clause-others_stay c =
    (trimmed-left c.in_ok-funcs.funcs c.args.p.funcs
    (subst (λ fs. InPairs IsTrimmed c.in_ok-funcs.funcs fs) c.as_slice.ensures c.in_ok-funcs.ensures)).others_stay

pub returns-clause-missed : goal.returns-clause-missed
returns-clause-missed c =
    (trimmed-left c.in_ok-funcs.funcs c.args.p.funcs
    (subst (λ fs. InPairs IsTrimmed c.in_ok-funcs.funcs fs) c.as_slice.ensures c.in_ok-funcs.ensures)).missed
