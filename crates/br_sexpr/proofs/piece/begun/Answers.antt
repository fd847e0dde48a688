use Rattle.std.proofs.Common.{sym, arith}
use Rattle.std.proofs.lemmas.List.Sums.{prefix_len-le-length}
use Rattle.br_base.specs.Name.{continues_name}
use Rattle.br_sexpr.specs.Layout.{stays_in_line}
use Rattle.br_sexpr.proofs.Cutting.{cut-blank, cut-comment, cut-open, cut-close, cut-run, cut-stray}
use Rattle.br_sexpr.proofs.piece.begun.Goals as goal

pub returns-then-is_blank-clause-cut : goal.returns-then-is_blank-clause-cut
returns-then-is_blank-clause-cut c = λ place. cut-blank place c.args.first c.args.rest.now (sym c.if-is_blank.ensures)

pub returns-then-first-eq59-clause-cut : goal.returns-then-first-eq59-clause-cut
returns-then-first-eq59-clause-cut c = λ place. cut-comment place c.args.first c.args.rest.now
    (sym c.if-is_blank.ensures) c.line_len.result c.if-first-eq59.true c.line_len.ensures

pub returns-then-first-eq40-clause-cut : goal.returns-then-first-eq40-clause-cut
returns-then-first-eq40-clause-cut c = λ place.
    cut-open place c.args.first c.args.rest.now (sym c.if-is_blank.ensures) c.if-first-eq59.false c.if-first-eq40.true

pub returns-then-first-eq41-clause-cut : goal.returns-then-first-eq41-clause-cut
returns-then-first-eq41-clause-cut c = λ place. cut-close place c.args.first c.args.rest.now (sym c.if-is_blank.ensures)
    c.if-first-eq59.false c.if-first-eq40.false c.if-first-eq41.true

pub returns-then-continues_name-clause-cut : goal.returns-then-continues_name-clause-cut
returns-then-continues_name-clause-cut c =
    λ place. cut-run place c.args.first c.args.rest.now (sym c.if-is_blank.ensures) c.if-first-eq59.false
    c.if-first-eq40.false c.if-first-eq41.false c.run_len.result (sym c.if-continues_name.ensures) c.run_len.ensures

pub returns-else-continues_name-clause-cut : goal.returns-else-continues_name-clause-cut
returns-else-continues_name-clause-cut c =
    λ place. cut-stray place c.args.first c.args.rest.now (sym c.if-is_blank.ensures) c.if-first-eq59.false
    c.if-first-eq40.false c.if-first-eq41.false (sym c.if-continues_name.ensures)

pub returns-then-first-eq59-clause-within : goal.returns-then-first-eq59-clause-within
returns-then-first-eq59-clause-within c =
    omega (arith, c.line_len.ensures, prefix_len-le-length stays_in_line c.args.rest.now)

pub returns-then-continues_name-clause-within : goal.returns-then-continues_name-clause-within
returns-then-continues_name-clause-within c =
    omega (arith, c.run_len.ensures, prefix_len-le-length continues_name c.args.rest.now)
