use Rattle.std.proofs.Common.{arith}
use Rattle.std.proofs.lemmas.List.{take_rest}
use Rattle.std.proofs.lemmas.Result.{err_from_is_err_and}
use Rattle.br_sexpr.proofs.Whole.{so_far-none, so_far-more, so_far-refused, so_far-all}
use Rattle.br_sexpr.proofs.reading.trees_of.Goals as goal

pub loop-at-init : goal.loop-at-init
loop-at-init c = (omega arith, so_far-none _ _ c.new-reader.ensures.no_list c.new-reader.ensures.empty)

pub loop-at-preserved : goal.loop-at-preserved
loop-at-preserved c =
    let bytes = c.args.bytes.now in
    let i = c.loop-at.at in (
      omega (arith),
      so_far-more bytes _ i _ _ (take_rest bytes i) (c.first_piece-kind.ensures.cut i) _ _
          c.in_ok-take.ensures.took c.loop-at.invariant.1,
    )

pub returns-in_err-take : goal.returns-in_err-take
returns-in_err-take c =
    let bytes = c.args.bytes.now in
    let i = c.loop-at.at in
    let p = err_from_is_err_and c.from_residual.result c.from_residual.ensures.1 in
    rw (p.1, p.2) (so_far-refused bytes _ i _ _ (take_rest bytes i) (c.first_piece-kind.ensures.cut i) _ _
    c.in_err-take.ensures.refused c.loop-at.invariant.1)

pub returns : goal.returns
returns c = so_far-all _ _ _ _ c.loop-at-test.false c.loop-at.invariant.1 c.finish.ensures
