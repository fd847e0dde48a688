-- The last call of each arm makes the tree of that expression.
use Rattle.std.proofs.Common.{ap, sym, Ok, ◌∙◌}
use Rattle.std.proofs.lemmas.Result.{IfOk-weaker}
use Rattle.br_syntax.specs.Denotes.{expression}
use Rattle.br_syntax.proofs.Equations.{expression-name}
use Rattle.br_syntax.proofs.WrittenExpr.{load_written, table_written, op_written}
use Rattle.br_syntax.proofs.write_expr.+expr_tree.Goals as goal

pub returns-in-Var-clause-denotes : goal.returns-in-Var-clause-denotes
returns-in-Var-clause-denotes t c =
    IfOk-weaker c.name_tree.result _ _
    (λ u is. ap expression is ∙ expression-name 0 c.in-Var.name ∙ ap Ok (sym c.in-Var.is)) c.name_tree.ensures

pub returns-in_ok-expr_tree-in-Load-clause-denotes : goal.returns-in_ok-expr_tree-in-Load-clause-denotes
returns-in_ok-expr_tree-in-Load-clause-denotes t c =
    IfOk-weaker c.list_of_two.result _ _
    (λ u is. ap expression is
    ∙ load_written _ c.in-Load.size _ c.in-Load.address c.load_word.ensures.meaning
    (c.in_ok-expr_tree-in-Load.ensures.denotes ∙ ap Ok c.get.ensures)
    ∙ ap Ok (sym c.in-Load.is))
    c.list_of_two.ensures

pub returns-in_ok-expr_tree-in-Table-clause-denotes : goal.returns-in_ok-expr_tree-in-Table-clause-denotes
returns-in_ok-expr_tree-in-Table-clause-denotes t c =
    IfOk-weaker c.list_of_three.result _ _
    (λ u is. ap expression is
    ∙ table_written _ c.in-Table.size _ _ c.in-Table.table c.in-Table.index c.table_word.ensures.meaning
    (c.in_ok-table-in-Table.ensures.denotes ∙ ap Ok c.as_slice.ensures)
    (c.in_ok-expr_tree-in-Table.ensures.denotes ∙ ap Ok c.get-in-Table.ensures)
    ∙ ap Ok (sym c.in-Table.is))
    c.list_of_three.ensures

pub returns-in_ok-second-in-Op-clause-denotes : goal.returns-in_ok-second-in-Op-clause-denotes
returns-in_ok-second-in-Op-clause-denotes t c =
    IfOk-weaker c.list_of_three-in-Op.result _ _
    (λ u is. ap expression is
    ∙ op_written _ c.in-Op.operation _ _ c.in-Op.first c.in-Op.second c.operation_word.ensures.meaning
    (c.in_ok-first-in-Op.ensures.denotes ∙ ap Ok c.get-in-Op.ensures)
    (c.in_ok-second-in-Op.ensures.denotes ∙ ap Ok c.get-in-Op-2.ensures)
    ∙ ap Ok (sym c.in-Op.is))
    c.list_of_three-in-Op.ensures
