use Rattle.std.proofs.Common.{◌≤◌, subst, sym}
use Rattle.br_flatten.specs.Flatten.{flat_function}
use Rattle.br_flatten.specs.Programs.{scope_of}
use Rattle.br_flatten.proofs.Members.{Fits, fits-at, made-all, made-more}
use Rattle.br_flatten.proofs.flattening.flat_functions.Goals as goal

pub function-requires : goal.function-requires
function-requires c =
    let gs = c.args.funcs.now in
    let f = c.f-item.result in
    let fits : Fits gs f = fits-at gs c.requires.names c.requires.limits c.requires.small c.loop-f.f-index f f
    c.loop-f-test.true c.f-item.is in
    record {
      variables = fits.variables;
      room = fits.room;
      names = λ held few. subst (λ q. (flat_function q (scope_of f held) f).names ≤ 4294967295)
          (sym c.in_ok-functions.ensures) (fits.names held few);
    }

pub loop-f-preserved : goal.loop-f-preserved
loop-f-preserved c =
    made-more c.args.funcs.now c.in_ok-functions.functions.funcs.now c.loop-f.f-index c.f-item.result c.loop-f.flat
    c.push.new.self c.in_ok-function.field-0
    c.loop-f-test.true c.f-item.is c.in_ok-functions.ensures c.in_ok-function.ensures c.in_ok-push.ensures.ok
    c.loop-f.invariant

pub returns : goal.returns
returns c = made-all c.args.funcs.now c.loop-f.f-index c.loop-f.flat c.loop-f-test.false c.loop-f.invariant
