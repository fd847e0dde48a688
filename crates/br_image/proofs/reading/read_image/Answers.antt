use Rattle.std.proofs.Common.{ℕ, length, arith, subst, sym, ◌∙◌, ap}
use Rattle.std.proofs.lemmas.Result.{err_from_is_err_and}
use Rattle.br_image.specs.Reading.{WordsRead}
use Rattle.br_image.proofs.Sequences.{image_text-lines}
use Rattle.br_image.proofs.Order.{first_line_fault, first_order_fault, offset_fault}
use Rattle.br_image.proofs.reading.read_image.Goals as goal

pub returns-in_err-line-clause-refused : goal.returns-in_err-line-clause-refused
returns-in_err-line-clause-refused c =
    let p = err_from_is_err_and c.from_residual.result c.from_residual.ensures.1 in
    rw (p.1, p.2) (first_line_fault c.args.text.now c.in_err-line.field-0.0 c.in_err-line.ensures.refused)

pub returns-in_default : goal.returns-in_default
returns-in_default c = record {
  image = tt;
  refused = first_order_fault c.args.text.now c.in_ok-line.at c.in_ok-line.line c.in_ok-line.ensures.form
      c.in_ok-line.ensures.found c.in_default.not-Header;
}

pub overflow_cast-result : goal.overflow_cast-result
overflow_cast-result c =
    let many = c.in_ok-code.ensures.read.many in
    let inside = c.in_ok-code.ensures.read.within in
    let short = c.requires in
    let entries = ap length c.as_slice-3.ensures in
    let within = c.in-Some.ensures.within in
    omega arith

pub overflow_add-result : goal.overflow_add-result
overflow_add-result c =
    let many = c.in_ok-code.ensures.read.many in
    let inside = c.in_ok-code.ensures.read.within in
    let short = c.requires in
    let entries = ap length c.as_slice-3.ensures in
    let within = c.in-Some.ensures.within in
    omega arith

pub returns-in-Some-clause-refused : goal.returns-in-Some-clause-refused
returns-in-Some-clause-refused c =
    let P : ℕ → Type 0 = λ n.
    WordsRead c.in-Header.layout c.args.text.now c.in_ok-head.head.entries n c.in_ok-code.code c.in_ok-code.at in
    let read = subst P (sym c.in_ok-code.ensures.all) c.in_ok-code.ensures.read in
    let whole = rw (c.as_slice.ensures, c.as_slice-2.ensures) at c.in_ok-read_end.ensures.read in
    let bad = rw (c.as_slice-3.ensures, c.len.ensures) at c.in-Some.ensures.found in
    offset_fault c.in-Header.layout c.args.text.now c.in_ok-head.head.entries c.in_ok-code.code c.in_ok-code.at
    c.in-Some.place read whole bad

pub returns-in-None-clause-image : goal.returns-in-None-clause-image
returns-in-None-clause-image c =
    let whole = rw (c.as_slice.ensures, c.as_slice-2.ensures) at c.in_ok-read_end.ensures.read in
    whole ∙ sym (image_text-lines _)
