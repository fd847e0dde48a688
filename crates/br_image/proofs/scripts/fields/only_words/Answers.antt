use Rattle.std.proofs.Common.{◌<◌, length, arith}
use Rattle.std.proofs.lemmas.Bool.Decides.{nat_tests}
use Rattle.br_image.proofs.Bytes.{full_words, no_word}
use Rattle.br_image.proofs.scripts.fields.only_words.Goals as goal

pub returns-then-len-most-clause-none : goal.returns-then-len-most-clause-none
returns-then-len-most-clause-none c ws few h e =
    let some : 0 < length c.loop-left.left.now = grind (arith, nat_tests, c.is_empty.ensures, c.loop-left-test.true) in
    let full = c.if-len-most.true in
    let count = c.len.ensures in
    full_words c.args.tail.now c.loop-left.left.now c.loop-left.words ws c.args.most c.loop-left.invariant.1
    c.loop-left.invariant.2 (omega arith) some few h e

pub returns-in_default-clause-none : goal.returns-in_default-clause-none
returns-in_default-clause-none c ws few h e =
    let some : 0 < length c.loop-left.left.now = grind (arith, nat_tests, c.is_empty.ensures, c.loop-left-test.true) in
    no_word c.args.tail.now c.loop-left.left.now c.loop-left.words ws c.loop-left.invariant.1 c.loop-left.invariant.2
    some c.in_default.ensures.none h e
