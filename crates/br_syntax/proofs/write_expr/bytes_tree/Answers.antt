use Rattle.std.proofs.Common.{◌≤◌, arith}
use Rattle.br_syntax.proofs.Written.{bytes_push, number_push}
use Rattle.br_syntax.proofs.write_expr.bytes_tree.Goals as goal

pub loop-byte-preserved : goal.loop-byte-preserved
loop-byte-preserved c =
    let small : c.from.result ≤ 255 = omega (arith, c.type_inv.table c.loop-byte.byte-index) in
    rw c.in_ok-push.ensures.ok (
      bytes_push c.loop-byte.items c.args.table.now c.loop-byte.byte-index c.from.result c.loop-byte-test.true
          c.from.ensures small c.loop-byte.invariant.0,
      number_push c.loop-byte.items c.from.result c.loop-byte.invariant.1,
    )
