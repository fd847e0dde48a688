use Rattle.br_image.proofs.Fields.{differ, same_text}
use Rattle.br_image.proofs.TraceForms.{no_cause_word}
use Rattle.br_image.proofs.traces.parsing.cause_named.Goals as goal

pub returns-then-eq-clause-some : goal.returns-then-eq-clause-some
returns-then-eq-clause-some c = same_text c.args.word.now c.as_slice.result.now _ c.if-eq.ensures c.as_slice.ensures

pub returns-then-eq-2-clause-some : goal.returns-then-eq-2-clause-some
returns-then-eq-2-clause-some c =
    same_text c.args.word.now c.as_slice-2.result.now _ c.if-eq-2.ensures c.as_slice-2.ensures

pub returns-then-eq-3-clause-some : goal.returns-then-eq-3-clause-some
returns-then-eq-3-clause-some c =
    same_text c.args.word.now c.as_slice-3.result.now _ c.if-eq-3.ensures c.as_slice-3.ensures

pub returns-then-eq-4-clause-some : goal.returns-then-eq-4-clause-some
returns-then-eq-4-clause-some c =
    same_text c.args.word.now c.as_slice-4.result.now _ c.if-eq-4.ensures c.as_slice-4.ensures

pub returns-then-eq-5-clause-some : goal.returns-then-eq-5-clause-some
returns-then-eq-5-clause-some c =
    same_text c.args.word.now c.as_slice-5.result.now _ c.if-eq-5.ensures c.as_slice-5.ensures

pub returns-then-eq-6-clause-some : goal.returns-then-eq-6-clause-some
returns-then-eq-6-clause-some c =
    same_text c.args.word.now c.as_slice-6.result.now _ c.if-eq-6.ensures c.as_slice-6.ensures

pub returns-clause-none : goal.returns-clause-none
returns-clause-none c = no_cause_word c.args.word.now
    (differ c.args.word.now c.as_slice.result.now _ c.if-eq.ensures c.as_slice.ensures)
    (differ c.args.word.now c.as_slice-2.result.now _ c.if-eq-2.ensures c.as_slice-2.ensures)
    (differ c.args.word.now c.as_slice-3.result.now _ c.if-eq-3.ensures c.as_slice-3.ensures)
    (differ c.args.word.now c.as_slice-4.result.now _ c.if-eq-4.ensures c.as_slice-4.ensures)
    (differ c.args.word.now c.as_slice-5.result.now _ c.if-eq-5.ensures c.as_slice-5.ensures)
    (differ c.args.word.now c.as_slice-6.result.now _ c.if-eq-6.ensures c.as_slice-6.ensures)
