use Rattle.std.proofs.Common.{sym, ◌∙◌, arith}
use Rattle.std.proofs.lemmas.Grind.{common_steps}
use Rattle.br_source_meaning.specs.Running.{names_of, locals_in}
use Rattle.br_source_meaning.proofs.Forms.{value-Literal, value-Var, value-Load, value-Table, value-Op, value-Ite}
use Rattle.br_source_meaning.proofs.values.+value.Goals as goal

pub returns-in_err-a-in-Load : goal.returns-in_err-a-in-Load
returns-in_err-a-in-Load t c =
    sym (value-Load (names_of c.args.variables.now) (locals_in c.args.variables.now) c.args.memory.now c.in-Load.size
    c.in-Load.a c.args.e.now c.in-Load.is ∙ grind (arith, common_steps))

pub returns-in_err-i-in-Table : goal.returns-in_err-i-in-Table
returns-in_err-i-in-Table t c =
    sym (value-Table (names_of c.args.variables.now) (locals_in c.args.variables.now) c.args.memory.now c.in-Table.size
    c.in-Table.bytes c.in-Table.i c.args.e.now c.in-Table.is ∙ grind (arith, common_steps))

pub returns-in_err-a-in-Op : goal.returns-in_err-a-in-Op
returns-in_err-a-in-Op t c =
    sym (value-Op (names_of c.args.variables.now) (locals_in c.args.variables.now) c.args.memory.now c.in-Op.o c.in-Op.a
    c.in-Op.b c.args.e.now c.in-Op.is ∙ grind (arith, common_steps))

pub returns-in_err-b-in-Op : goal.returns-in_err-b-in-Op
returns-in_err-b-in-Op t c =
    sym (value-Op (names_of c.args.variables.now) (locals_in c.args.variables.now) c.args.memory.now c.in-Op.o c.in-Op.a
    c.in-Op.b c.args.e.now c.in-Op.is ∙ grind (arith, common_steps))

pub returns-in_err-value-in-Ite : goal.returns-in_err-value-in-Ite
returns-in_err-value-in-Ite t c =
    sym (value-Ite (names_of c.args.variables.now) (locals_in c.args.variables.now) c.args.memory.now c.in-Ite.test
    c.in-Ite.a c.in-Ite.b c.args.e.now c.in-Ite.is ∙ grind (arith, common_steps))

pub returns-in-Literal : goal.returns-in-Literal
returns-in-Literal t c =
    sym (value-Literal (names_of c.args.variables.now) (locals_in c.args.variables.now) c.args.memory.now c.in-Literal.n
    c.args.e.now c.in-Literal.is ∙ grind (arith, common_steps))

pub returns-in-Var : goal.returns-in-Var
returns-in-Var t c =
    sym (value-Var (names_of c.args.variables.now) (locals_in c.args.variables.now) c.args.memory.now c.in-Var.k
    c.args.e.now c.in-Var.is ∙ grind (arith, common_steps))

pub returns-in_ok-a-in-Load : goal.returns-in_ok-a-in-Load
returns-in_ok-a-in-Load t c =
    sym (value-Load (names_of c.args.variables.now) (locals_in c.args.variables.now) c.args.memory.now c.in-Load.size
    c.in-Load.a c.args.e.now c.in-Load.is ∙ grind (arith, common_steps))

pub returns-in_ok-i-in-Table : goal.returns-in_ok-i-in-Table
returns-in_ok-i-in-Table t c =
    sym (value-Table (names_of c.args.variables.now) (locals_in c.args.variables.now) c.args.memory.now c.in-Table.size
    c.in-Table.bytes c.in-Table.i c.args.e.now c.in-Table.is ∙ grind (arith, common_steps))

pub returns-in_ok-b-in-Op : goal.returns-in_ok-b-in-Op
returns-in_ok-b-in-Op t c =
    sym (value-Op (names_of c.args.variables.now) (locals_in c.args.variables.now) c.args.memory.now c.in-Op.o c.in-Op.a
    c.in-Op.b c.args.e.now c.in-Op.is ∙ grind (arith, common_steps))

pub returns-then-branch-eq0 : goal.returns-then-branch-eq0
returns-then-branch-eq0 t c =
    sym (value-Ite (names_of c.args.variables.now) (locals_in c.args.variables.now) c.args.memory.now c.in-Ite.test
    c.in-Ite.a c.in-Ite.b c.args.e.now c.in-Ite.is ∙ grind (arith, common_steps))

pub returns-else-branch-eq0 : goal.returns-else-branch-eq0
returns-else-branch-eq0 t c =
    sym (value-Ite (names_of c.args.variables.now) (locals_in c.args.variables.now) c.args.memory.now c.in-Ite.test
    c.in-Ite.a c.in-Ite.b c.args.e.now c.in-Ite.is ∙ grind (arith, common_steps))
