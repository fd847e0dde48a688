use Rattle.std.proofs.Common.{rules, sym, subst, arith}
use Rattle.br_source_meaning.specs.Numbered.{named_expr, named_commands}
use Rattle.br_source_meaning.specs.Running.{own_of, state_of}
use Rattle.br_source_meaning.specs.Pending.{LeavesWork}
use Rattle.br_source_meaning.proofs.Bounds.{unfold-while}
use Rattle.br_source_meaning.proofs.Deep.{turns-end, turns-spend}
use Rattle.br_source_meaning.proofs.running.Running.test.Goals as goal

pub returns-in_err-word-clause-leads : goal.returns-in_err-word-clause-leads
returns-in_err-word-clause-leads c = λ names call h.
    subst (LeavesWork c.from_residual.result names call c.args.self.now)
    (sym (unfold-while call h (named_expr (own_of c.args.self.now) c.args.turn.test.now)
    (named_commands names (own_of c.args.self.now) c.args.turn.commands.now) (state_of c.args.self.now)))
    (search rules)

pub returns-then-branch-eq0-clause-leads : goal.returns-then-branch-eq0-clause-leads
returns-then-branch-eq0-clause-leads c = λ names call h.
    turns-end call h (named_expr (own_of c.args.self.now) c.args.turn.test.now)
    (named_commands names (own_of c.args.self.now) c.args.turn.commands.now) (state_of c.args.self.now)
    c.in_ok-word.field-0 c.in_ok-word.ensures (omega arith)

pub returns-else-branch-eq0-clause-leads : goal.returns-else-branch-eq0-clause-leads
returns-else-branch-eq0-clause-leads c = λ names call h.
    turns-spend call h (named_expr (own_of c.args.self.now) c.args.turn.test.now)
    (named_commands names (own_of c.args.self.now) c.args.turn.commands.now) (state_of c.args.self.now)
    c.in_ok-word.field-0 c.in_ok-word.ensures (λ e. omega (arith, e, c.if-branch-eq0.false))
