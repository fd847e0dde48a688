use Rattle.std.proofs.Common.{arith}
use Rattle.br_image.proofs.Decoding.{IfNone-holds}
use Rattle.br_image.proofs.Fields.{field_rest}
use Rattle.br_image.proofs.parsing.parse_numbers.Goals as goal

pub returns-in_err-results-clause-none : goal.returns-in_err-results-clause-none
returns-in_err-results-clause-none c = IfNone-holds c.from_residual-in_err-results.result
    (λ a r o n ha hr ho hn e.
    let one = c.in_ok-args.ensures.found in
    let small = one.0 in
    c.in_err-results.ensures.none r _ hr
    (field_rest c.args.bytes.now c.in_ok-args.rest.now _ c.in_ok-args.args a (omega arith) (omega arith) one.1 e))

pub returns-in_err-offset-clause-none : goal.returns-in_err-offset-clause-none
returns-in_err-offset-clause-none c = IfNone-holds c.from_residual-in_err-offset.result
    (λ a r o n ha hr ho hn e.
    let one = c.in_ok-args.ensures.found in
    let two = c.in_ok-results.ensures.found in
    let small = one.0 in
    let small' = two.0 in
    let rest = field_rest c.args.bytes.now c.in_ok-args.rest.now _ c.in_ok-args.args a (omega arith)
    (omega arith) one.1 e in
    let rest' = field_rest c.in_ok-args.rest.now c.in_ok-results.rest.now _ c.in_ok-results.results r (omega arith)
    (omega arith) two.1 rest in
    c.in_err-offset.ensures.none o _ (omega arith) rest')

pub returns-in_err-need-clause-none : goal.returns-in_err-need-clause-none
returns-in_err-need-clause-none c = IfNone-holds c.from_residual-in_err-need.result
    (λ a r o n ha hr ho hn e.
    let one = c.in_ok-args.ensures.found in
    let two = c.in_ok-results.ensures.found in
    let three = c.in_ok-offset.ensures.found in
    let small = one.0 in
    let small' = two.0 in
    let small'' = three.0 in
    let rest = field_rest c.args.bytes.now c.in_ok-args.rest.now _ c.in_ok-args.args a (omega arith)
    (omega arith) one.1 e in
    let rest' = field_rest c.in_ok-args.rest.now c.in_ok-results.rest.now _ c.in_ok-results.results r (omega arith)
    (omega arith) two.1 rest in
    let rest'' = field_rest c.in_ok-results.rest.now c.in_ok-offset.rest.now _ c.in_ok-offset.offset o (omega arith)
    (omega arith) three.1 rest' in
    c.in_err-need.ensures.none n hn rest'')
