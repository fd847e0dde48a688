use Rattle.std.proofs.Common.{◌≡◌, ◌<◌, List, length, arith, refl, subst, true, false}
use Rattle.std.proofs.lemmas.Bool.Decides.{nat_tests}
use Rattle.br_image.specs.declared.scripts.lines.Form.{Form}
use Rattle.br_image.specs.declared.scripts.order.Part.{Part}
use Rattle.br_image.specs.ScriptReading.{Leaves}
use Rattle.br_image.proofs.ScriptReads.{read_none, ends_fault, formless_fault}
use Rattle.br_image.proofs.ScriptReads.{order_fault, limit_fault, read_more, read_whole}
use Rattle.br_image.proofs.scripts.reading.read_lines.Goals as goal

pub loop-left-init : goal.loop-left-init
loop-left-init c =
    read_none c.args.parts.now c.args.text.now c.nothing-said.result c.requires.sound c.nothing-said.ensures

pub returns-in_default-clause-refused : goal.returns-in_default-clause-refused
returns-in_default-clause-refused c =
    let some : 0 < length c.loop-left.left.now = grind (arith, nat_tests, c.is_empty.ensures, c.loop-left-test.true) in
    ends_fault c.args.parts.now c.args.text.now c.loop-left.left.now c.loop-left.at c.loop-left.number c.loop-left.said
    c.loop-left.invariant some c.in_default.ensures.none

pub returns-in_default-2-clause-refused : goal.returns-in_default-2-clause-refused
returns-in_default-2-clause-refused c =
    let some : 0 < length c.loop-left.left.now = grind (arith, nat_tests, c.is_empty.ensures, c.loop-left-test.true) in
    formless_fault c.args.parts.now c.args.text.now c.loop-left.left.now c.loop-left.at c.loop-left.number
    c.loop-left.said c.in-Some.bytes.now c.in-Some.field-0-1.now
    c.loop-left.invariant some c.in-Some.ensures.found.0 c.in-Some.ensures.found.1
    (rw c.in_default-2.is at c.in_ok-line.ensures)

pub returns-in_default-parts_after-clause-refused : goal.returns-in_default-parts_after-clause-refused
returns-in_default-parts_after-clause-refused c =
    let some : 0 < length c.loop-left.left.now = grind (arith, nat_tests, c.is_empty.ensures, c.loop-left-test.true) in
    let parsed = rw c.in-Some-2.is at c.in_ok-line.ensures in
    let P : Form → Type 0 = λ f. (rs : List Part) → ¬ Leaves c.loop-left.left.now f rs in
    order_fault c.args.parts.now c.args.text.now c.loop-left.left.now c.loop-left.at c.loop-left.number c.loop-left.said
    c.in-Some.bytes.now c.in-Some.field-0-1.now c.in-Some-2.line
    c.loop-left.invariant some c.in-Some.ensures.found.0 c.in-Some.ensures.found.1 parsed.0 parsed.1
    (subst P c.form.ensures c.in_default-parts_after.ensures.none)

pub returns-then-not-allows-clause-refused : goal.returns-then-not-allows-clause-refused
returns-then-not-allows-clause-refused c =
    let some : 0 < length c.loop-left.left.now = grind (arith, nat_tests, c.is_empty.ensures, c.loop-left-test.true) in
    let parsed = rw c.in-Some-2.is at c.in_ok-line.ensures in
    let test = c.if-not-allows.true in
    let no : c.allows.result ≡ false = cc in
    limit_fault c.args.parts.now c.args.text.now c.loop-left.left.now c.loop-left.at c.loop-left.number c.loop-left.said
    c.in-Some.bytes.now c.in-Some.field-0-1.now c.in-Some-2.line
    c.loop-left.invariant some c.in-Some.ensures.found.0 c.in-Some.ensures.found.1 parsed.0 parsed.1
    (λ a. let yes = c.allows.ensures.1 a in absurd cc)

pub loop-left-preserved : goal.loop-left-preserved
loop-left-preserved c =
    let parsed = rw c.in-Some-2.is at c.in_ok-line.ensures in
    let test = c.if-not-allows.false in
    let yes : c.allows.result ≡ true = cc in
    let P : Form → Type 0 = λ f. Leaves c.loop-left.left.now f c.in-Some-parts_after.next.now in
    read_more c.args.parts.now c.args.text.now c.loop-left.left.now c.in-Some-parts_after.next.now c.loop-left.at
    c.loop-left.number _ _ c.loop-left.said c.add.new.self
    c.in-Some.bytes.now c.in-Some.field-0-1.now c.in-Some-2.line c.loop-left.invariant c.in-Some.ensures.found.0
    parsed.0 parsed.1
    (subst P c.form.ensures c.in-Some-parts_after.ensures.some) (c.allows.ensures.0 yes) c.in_ok-add.ensures
    (omega arith) refl

pub returns-clause-said : goal.returns-clause-said
returns-clause-said c =
    let none : length c.loop-left.left.now ≡ 0 = grind (arith, nat_tests, c.is_empty.ensures, c.loop-left-test.false) in
    read_whole c.args.parts.now c.args.text.now c.loop-left.left.now c.loop-left.at c.loop-left.number c.loop-left.said
    c.loop-left.invariant none
