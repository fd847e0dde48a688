use Rattle.std.proofs.Common.{◌≡◌, arith, refl, true, false}
use Rattle.br_image.proofs.TraceReads.{trace_none, cut_fault, formless_line}
use Rattle.br_image.proofs.TraceReads.{misplaced_line, range_line, trace_more, trace_whole}
use Rattle.br_image.proofs.traces.reading.trace_of.Goals as goal

pub loop-at-init : goal.loop-at-init
loop-at-init c = trace_none c.args.text.now c.nothing-shown.result c.nothing-shown.ensures

pub returns-in_default-clause-refused : goal.returns-in_default-clause-refused
returns-in_default-clause-refused c =
    cut_fault c.args.text.now c.loop-at.stage c.loop-at.at c.loop-at.number c.loop-at.shown c.loop-at.invariant
    c.loop-at-test.true c.in_default.ensures.none

pub returns-in_default-2-clause-refused : goal.returns-in_default-2-clause-refused
returns-in_default-2-clause-refused c =
    formless_line c.args.text.now c.loop-at.stage c.loop-at.at c.loop-at.number c.loop-at.shown c.in-Some.bytes.now
    c.in-Some.field-0-1.now
    c.loop-at.invariant c.in-Some.ensures.found.0 c.in-Some.ensures.found.1
    (rw c.in_default-2.is at c.in_ok-line.ensures)

pub returns-in_default-stage_after-clause-refused : goal.returns-in_default-stage_after-clause-refused
returns-in_default-stage_after-clause-refused c =
    let parsed = rw c.in-Some-2.is at c.in_ok-line.ensures in
    misplaced_line c.args.text.now c.loop-at.stage c.loop-at.at c.loop-at.number c.loop-at.shown c.in-Some.bytes.now
    c.in-Some.field-0-1.now c.in-Some-2.line
    c.loop-at.invariant c.in-Some.ensures.found.0 c.in-Some.ensures.found.1 parsed.0 parsed.1
    c.in_default-stage_after.ensures.none

pub returns-then-not-allows-clause-refused : goal.returns-then-not-allows-clause-refused
returns-then-not-allows-clause-refused c =
    let parsed = rw c.in-Some-2.is at c.in_ok-line.ensures in
    let test = c.if-not-allows.true in
    let no : c.allows.result ≡ false = cc in
    range_line c.args.text.now c.loop-at.stage c.loop-at.at c.loop-at.number c.loop-at.shown c.in-Some.bytes.now
    c.in-Some.field-0-1.now c.in-Some-2.line
    c.loop-at.invariant c.in-Some.ensures.found.0 c.in-Some.ensures.found.1 parsed.0 parsed.1
    (λ a. let yes = c.allows.ensures.1 a in absurd cc)

pub loop-at-preserved : goal.loop-at-preserved
loop-at-preserved c =
    let parsed = rw c.in-Some-2.is at c.in_ok-line.ensures in
    let test = c.if-not-allows.false in
    let yes : c.allows.result ≡ true = cc in
    trace_more c.args.text.now c.loop-at.stage c.in-Some-stage_after.next c.loop-at.at c.loop-at.number _ _
    c.loop-at.shown c.add.new.self
    c.in-Some.bytes.now c.in-Some.field-0-1.now c.in-Some-2.line c.loop-at.invariant c.in-Some.ensures.found.0
    parsed.0 parsed.1
    c.in-Some-stage_after.ensures.some (c.allows.ensures.0 yes) c.in_ok-add.ensures (omega arith) refl

pub returns-clause-trace : goal.returns-clause-trace
returns-clause-trace c =
    trace_whole c.args.text.now c.loop-at.stage c.loop-at.at c.loop-at.number c.loop-at.shown c.loop-at.invariant
    c.loop-at-test.false
