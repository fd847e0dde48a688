use Rattle.std.proofs.Common.{◌+◌, length, refl}
use Rattle.std.proofs.lemmas.Result.{err_from_is_err_and}
use Rattle.br_image.proofs.Order.{words_line_fault, words_order_fault, end_misplaced, behind_end}
use Rattle.br_image.proofs.reading.read_end.Goals as goal

pub returns-in_err-line-clause-refused : goal.returns-in_err-line-clause-refused
returns-in_err-line-clause-refused c =
    let p = err_from_is_err_and c.from_residual.result c.from_residual.ensures.1 in
    rw (p.1, p.2) (words_line_fault c.args.layout c.args.text.now c.args.entries.now (length c.args.code.now)
    c.args.code.now c.args.at (length c.args.entries.now + length c.args.code.now)
    c.in_err-line.field-0.0 c.requires.begun refl c.in_err-line.ensures.refused)

pub returns-in_default : goal.returns-in_default
returns-in_default c = record {
  read = tt;
  refused = words_order_fault c.args.layout c.args.text.now c.args.entries.now (length c.args.code.now) c.args.code.now
      c.args.at c.in_ok-line.next (length c.args.entries.now + length c.args.code.now)
      c.in_ok-line.line c.requires.begun refl c.in_ok-line.ensures.form c.in_ok-line.ensures.found
      (end_misplaced c.args.layout c.args.entries.now (length c.args.code.now) c.args.code.now c.in_ok-line.line refl
      c.in_default.not-End);
}

pub returns-then-next-text-clause-refused : goal.returns-then-next-text-clause-refused
returns-then-next-text-clause-refused c =
    let found = rw c.in-End.is at c.in_ok-line.ensures.found in
    behind_end c.args.layout c.args.text.now c.args.entries.now c.args.code.now c.args.at c.in_ok-line.next
    c.requires.begun found c.if-next-text.true
