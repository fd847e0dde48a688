use Rattle.br_compile.proofs.Passes.{after_pass, still-none-missed}
use Rattle.br_compile.proofs.lowering.lean_program.Goals as goal

pub returns-clause-flat : goal.returns-clause-flat
returns-clause-flat c fs flat =
    let after = after_pass c.refines_composes.ensures.composes fs in
    let constants = c.in_ok-constants in
    let live = c.in_ok-live in
    let with_constants = after constants.constants.funcs c.args.p.funcs flat constants.ensures.well_formed
    constants.ensures.refines constants.ensures.kept in
    after live.live.funcs constants.constants.funcs with_constants live.ensures.well_formed live.ensures.refines
    live.ensures.kept

pub returns-clause-none_missed : goal.returns-clause-none_missed
returns-clause-none_missed c =
    let constants = c.in_ok-constants in
    let live = c.in_ok-live in
    still-none-missed live.live.funcs constants.constants.funcs live.ensures.missed constants.ensures.none_missed
