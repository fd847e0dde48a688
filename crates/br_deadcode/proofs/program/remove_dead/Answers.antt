use Rattle.br_flatimp.specs.Refines.{meaning}
use Rattle.br_flatimp.proofs.Composes.{refines-trans}
use Rattle.br_deadcode.specs.LeftOut.{HasSameOthers, MissesNoMore}
use Rattle.br_deadcode.proofs.Sizes.{kept-trans, pairs-trans}
use Rattle.std.proofs.Common.{◌∙◌}
use Rattle.br_deadcode.proofs.program.remove_dead.Goals as goal

pub returns-clause-refines : goal.returns-clause-refines
returns-clause-refines c =
    refines-trans (meaning c.in_ok-left.left.funcs) (meaning c.in_ok-needed.needed.funcs) (meaning c.args.p.funcs)
    c.in_ok-left.ensures.refines c.in_ok-needed.ensures.refines

pub returns-clause-kept : goal.returns-clause-kept
returns-clause-kept c =
    kept-trans c.in_ok-left.left.funcs c.in_ok-needed.needed.funcs c.args.p.funcs c.in_ok-left.ensures.kept
    c.in_ok-needed.ensures.kept

pub returns-clause-others_stay : goal.returns-clause-others_stay
returns-clause-others_stay c =
    pairs-trans HasSameOthers (λ r q p a b. a ∙ b) c.in_ok-left.left.funcs c.in_ok-needed.needed.funcs c.args.p.funcs
    c.in_ok-left.ensures.others_stay c.in_ok-needed.ensures.others_stay

pub returns-clause-missed : goal.returns-clause-missed
returns-clause-missed c =
    pairs-trans MissesNoMore (λ r q p a b i. a (b i)) c.in_ok-left.left.funcs c.in_ok-needed.needed.funcs
    c.args.p.funcs
    c.in_ok-left.ensures.missed c.in_ok-needed.ensures.missed
