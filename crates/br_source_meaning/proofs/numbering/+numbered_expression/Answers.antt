use Rattle.std.proofs.Common.{sym, ap, ◌∙◌}
use Rattle.br_syntax.specs.declared.program.Expr.TheVariants as expression
use Rattle.br_source_meaning.proofs.Parts.{numbers-Literal, numbers-Var, numbers-Load, numbers-Table, numbers-Op}
use Rattle.br_source_meaning.proofs.Parts.{numbers-Ite}
use Rattle.br_source_meaning.proofs.numbering.+numbered_expression.Goals as goal

pub expression-returns-in-Literal : goal.expression-returns-in-Literal
expression-returns-in-Literal t c = numbers-Literal c.args.own.now c.in-Literal.n c.args.e.now c.in-Literal.is

pub expression-returns-in_ok-number-in-Var : goal.expression-returns-in_ok-number-in-Var
expression-returns-in_ok-number-in-Var t c =
    numbers-Var c.args.own.now c.number.new.self c.in_ok-number-in-Var.field-0 c.args.e.now c.in-Var.x c.in-Var.is
    c.in_ok-number-in-Var.ensures

pub expression-returns-in_ok-a-in-Load : goal.expression-returns-in_ok-a-in-Load
expression-returns-in_ok-a-in-Load t c =
    numbers-Load c.args.own.now c.boxed.new.own c.in-Load.size c.in_ok-a-in-Load.a c.args.e.now c.in-Load.a c.in-Load.is
    c.in_ok-a-in-Load.ensures

pub expression-returns-in_ok-i-in-Table : goal.expression-returns-in_ok-i-in-Table
expression-returns-in_ok-i-in-Table t c =
    numbers-Table c.args.own.now c.boxed-in-Table.new.own c.in-Table.size c.as_slice.result c.in_ok-i-in-Table.i
    c.args.e.now c.in-Table.i
    (c.in-Table.is ∙ ap (λ bs. expression.Table c.in-Table.size bs c.in-Table.i) (sym c.as_slice.ensures))
    c.in_ok-i-in-Table.ensures

pub expression-returns-in_ok-b-in-Op : goal.expression-returns-in_ok-b-in-Op
expression-returns-in_ok-b-in-Op t c =
    numbers-Op c.args.own.now c.boxed-in-Op.new.own c.boxed-in-Op-2.new.own c.in-Op.o c.in_ok-a-in-Op.a
    c.in_ok-b-in-Op.b c.args.e.now c.in-Op.a c.in-Op.b c.in-Op.is c.in_ok-a-in-Op.ensures c.in_ok-b-in-Op.ensures

pub expression-returns-in_ok-b-in-Ite : goal.expression-returns-in_ok-b-in-Ite
expression-returns-in_ok-b-in-Ite t c =
    numbers-Ite c.args.own.now c.boxed-in-Ite.new.own c.boxed-in-Ite-2.new.own c.boxed-in-Ite-3.new.own
    c.in_ok-test-in-Ite.test c.in_ok-a-in-Ite.a c.in_ok-b-in-Ite.b c.args.e.now c.in-Ite.test c.in-Ite.a c.in-Ite.b
    c.in-Ite.is c.in_ok-test-in-Ite.ensures c.in_ok-a-in-Ite.ensures c.in_ok-b-in-Ite.ensures
