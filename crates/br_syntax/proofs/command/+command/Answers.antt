use Rattle.std.proofs.Common.{length, arith}
use Rattle.br_syntax.proofs.Sizes.{most_part_le}
use Rattle.br_sexpr.proofs.tree.Tree.TheLaws.{the_size}
use Rattle.br_syntax.proofs.command.+command.Goals as goal

pub repetition-commands-requires : goal.repetition-commands-requires
repetition-commands-requires t c =
    let shallower = most_part_le the_size 1 (length c.args.parts.now) c.args.parts.now in
    (omega (arith, shallower, c.decreases), tt)

pub stackalloc-commands-requires : goal.stackalloc-commands-requires
stackalloc-commands-requires t c =
    let shallower = most_part_le the_size 2 (length c.args.parts.now) c.args.parts.now in
    (omega (arith, shallower, c.decreases), tt)
