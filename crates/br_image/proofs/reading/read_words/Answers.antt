use Rattle.std.proofs.Common.{◌≡◌, ◌+◌, ◌<◌, ◌∷◌, [], List, ℕ, length, arith, subst, sym, ◌∙◌, ap, length-append}
use Rattle.std.proofs.lemmas.Result.{err_from_is_err_and}
use Rattle.br_image.specs.Reading.{WordsRead}
use Rattle.br_image.proofs.Order.{words_line_fault, words_order_fault, word_misplaced, word_more}
use Rattle.br_image.proofs.reading.read_words.Goals as goal

pub returns-in_err-line-clause-refused : goal.returns-in_err-line-clause-refused
returns-in_err-line-clause-refused c =
    let p = err_from_is_err_and c.from_residual.result c.from_residual.ensures.1 in
    let count = c.loop-i.invariant.1 in
    let entries = c.len.ensures in
    let same : c.len.result + c.loop-i.i ≡ length c.args.head.now.entries + length c.loop-i.code = omega arith in
    rw (p.1, p.2) (words_line_fault c.args.layout c.args.text.now c.args.head.now.entries c.args.head.now.count
    c.loop-i.code c.loop-i.at (c.len.result + c.loop-i.i)
    c.in_err-line.field-0.0 c.loop-i.invariant.0 same c.in_err-line.ensures.refused)

pub returns-in_default : goal.returns-in_default
returns-in_default c =
    let count = c.loop-i.invariant.1 in
    let entries = c.len.ensures in
    let below = c.loop-i-test.true in
    let same : c.len.result + c.loop-i.i ≡ length c.args.head.now.entries + length c.loop-i.code = omega arith in
    let room : length c.loop-i.code < c.args.head.now.count = omega arith in
    record {
      read = tt;
      all = tt;
      refused = words_order_fault c.args.layout c.args.text.now c.args.head.now.entries c.args.head.now.count
          c.loop-i.code c.loop-i.at c.in_ok-line.next (c.len.result + c.loop-i.i)
          c.in_ok-line.line c.loop-i.invariant.0 same c.in_ok-line.ensures.form c.in_ok-line.ensures.found
          (word_misplaced c.args.layout c.args.head.now.entries c.args.head.now.count c.loop-i.code c.in_ok-line.line
          room c.in_default.not-Word);
    }

pub loop-i-preserved : goal.loop-i-preserved
loop-i-preserved c =
    let form = rw c.in-Word.is at c.in_ok-line.ensures.form in
    let found = rw c.in-Word.is at c.in_ok-line.ensures.found in
    let place = c.in_ok-line.ensures.place in
    let count = c.loop-i.invariant.1 in
    let below = c.loop-i-test.true in
    let room : length c.loop-i.code < c.args.head.now.count = omega arith in
    let pushed = c.in_ok-push.ensures.ok in
    let len = ap length pushed ∙ length-append c.loop-i.code (c.in-Word.word ∷ []) in
    let P : List ℕ → Type 0 = λ t.
    WordsRead c.args.layout c.args.text.now c.args.head.now.entries c.args.head.now.count t c.in_ok-line.next in (
      subst P (sym pushed) (word_more c.args.layout c.args.text.now c.args.head.now.entries c.args.head.now.count
          c.loop-i.code c.in-Word.word c.loop-i.at c.in_ok-line.next
          c.loop-i.invariant.0 form found place.0 place.1 room),
      omega arith,
    )
