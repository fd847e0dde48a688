use Rattle.std.proofs.Common.{ℕ, List, sym, ap, subst, ◌∙◌, arith}
use Rattle.std.proofs.lemmas.Grind.{common_steps}
use Rattle.br_source_meaning.specs.Values.{values, with_local}
use Rattle.br_source_meaning.specs.Runs.{Run, State, back_in, run_all, with_buffer, with_defined, with_fuel}
use Rattle.br_source_meaning.specs.Runs.{with_locals}
use Rattle.br_source_meaning.specs.Names.{name_at, names_at}
use Rattle.br_source_meaning.specs.Numbered.{named_commands, named_exprs, target_name}
use Rattle.br_source_meaning.specs.declared.numbered.NumberedExpr.{NumberedExpr}
use Rattle.br_source_meaning.specs.Running.{own_of, state_of}
use Rattle.br_source_meaning.specs.Pending.{LeavesWork}
use Rattle.br_source_meaning.proofs.Forms.{runs-Skip, runs-Unset, runs-Set, runs-Store, runs-Stackalloc, runs-If}
use Rattle.br_source_meaning.proofs.Forms.{runs-Seq, runs-Call, runs-Interact}
use Rattle.br_source_meaning.proofs.running.Running.command.Goals as goal

pub returns-in_err-assign-in-Set-clause-leads : goal.returns-in_err-assign-in-Set-clause-leads
returns-in_err-assign-in-Set-clause-leads c =
    λ names call h. subst (LeavesWork c.from_residual.result names call c.assign.new.self)
    (sym (runs-Set names (own_of c.args.self.now) call (state_of c.args.self.now) c.in-Set.k c.in-Set.e c.args.c.now
    c.in-Set.is)) (grind (arith, common_steps))

pub returns-in_err-store-in-Store-clause-leads : goal.returns-in_err-store-in-Store-clause-leads
returns-in_err-store-in-Store-clause-leads c =
    λ names call h. subst (LeavesWork c.from_residual-in_err-store-in-Store.result names call c.store.new.self)
    (sym (runs-Store names (own_of c.args.self.now) call (state_of c.args.self.now) c.in-Store.size c.in-Store.a
    c.in-Store.e c.args.c.now c.in-Store.is)) (grind (arith, common_steps))

pub returns-in-Seq-clause-leads : goal.returns-in-Seq-clause-leads
returns-in-Seq-clause-leads c =
    λ names call h. runs-Seq names (own_of c.args.self.now) call (state_of c.args.self.now) c.in-Seq.body c.args.c.now
    c.in-Seq.is ∙ grind (arith, common_steps)

pub returns-in-Skip-clause-leads : goal.returns-in-Skip-clause-leads
returns-in-Skip-clause-leads c =
    λ names call h. runs-Skip names (own_of c.args.self.now) call (state_of c.args.self.now) c.args.c.now c.in-Skip.is
    ∙ grind (arith, common_steps)

pub returns-in_ok-assign-in-Set-clause-leads : goal.returns-in_ok-assign-in-Set-clause-leads
returns-in_ok-assign-in-Set-clause-leads c =
    λ names call h. runs-Set names (own_of c.args.self.now) call (state_of c.args.self.now) c.in-Set.k c.in-Set.e
    c.args.c.now c.in-Set.is ∙ grind (arith, common_steps)

pub returns-in-Unset-clause-leads : goal.returns-in-Unset-clause-leads
returns-in-Unset-clause-leads c =
    λ names call h. runs-Unset names (own_of c.args.self.now) call (state_of c.args.self.now) c.in-Unset.k c.args.c.now
    c.in-Unset.is ∙ grind (arith, common_steps)

pub returns-in_ok-store-in-Store-clause-leads : goal.returns-in_ok-store-in-Store-clause-leads
returns-in_ok-store-in-Store-clause-leads c =
    λ names call h. runs-Store names (own_of c.args.self.now) call (state_of c.args.self.now) c.in-Store.size
    c.in-Store.a c.in-Store.e c.args.c.now c.in-Store.is ∙ grind (arith, common_steps)

pub returns-in-Stackalloc-clause-leads : goal.returns-in-Stackalloc-clause-leads
returns-in-Stackalloc-clause-leads c = λ names call h.
    let own = own_of c.args.self.now in
    let s : State = state_of c.args.self.now in
    subst (LeavesWork c.buffer.result names call c.buffer.new.self)
    (ap (λ cs. with_buffer (with_local (name_at own c.in-Stackalloc.k)) c.in-Stackalloc.n
    (run_all call (named_commands names own cs)) s) c.as_slice-body.ensures
    ∙ sym (runs-Stackalloc names own call s c.in-Stackalloc.k c.in-Stackalloc.n c.in-Stackalloc.body c.args.c.now
    c.in-Stackalloc.is))
    (c.buffer.ensures.leads names call)

pub returns-in-If-clause-leads : goal.returns-in-If-clause-leads
returns-in-If-clause-leads c = λ names call h.
    subst (LeavesWork c.choice.result names call c.args.self.now)
    (sym (runs-If names (own_of c.args.self.now) call (state_of c.args.self.now) c.in-If.e c.in-If.first c.in-If.second
    c.args.c.now c.in-If.is))
    (rw (c.as_slice-first.ensures, c.as_slice-second.ensures) at (c.choice.ensures.leads names call))

pub returns-in-Call-clause-leads : goal.returns-in-Call-clause-leads
returns-in-Call-clause-leads c = λ names call h.
    let own = own_of c.args.self.now in
    let s : State = state_of c.args.self.now in
    let left : List ℕ → List NumberedExpr → Run =
    λ ks es. with_defined (values s.locals s.memory (named_exprs own es)) s
    (λ vs. with_fuel s
    (λ t. back_in (with_locals (names_at own ks)) s.locals (call (target_name names c.in-Call.callee) vs t))) in
    subst (LeavesWork c.call.result names call c.args.self.now)
    (ap (λ ks. left ks c.as_slice.result.now) c.as_slice-results.ensures
    ∙ ap (left c.in-Call.results) c.as_slice.ensures
    ∙ sym (runs-Call names own call s c.in-Call.at c.in-Call.results c.in-Call.callee c.in-Call.args c.args.c.now
    c.in-Call.is))
    (c.call.ensures.leads names call)

pub returns-in_err-interact-in-Interact-clause-leads : goal.returns-in_err-interact-in-Interact-clause-leads
returns-in_err-interact-in-Interact-clause-leads c =
    λ names call h. subst (LeavesWork c.from_residual-in_err-interact-in-Interact.result names call c.interact.new.self)
    (sym (runs-Interact names (own_of c.args.self.now) call (state_of c.args.self.now) c.in-Interact.at
    c.in-Interact.results c.in-Interact.action c.in-Interact.args c.args.c.now c.in-Interact.is))
    (grind (arith, common_steps))

pub returns-in_ok-interact-in-Interact-clause-leads : goal.returns-in_ok-interact-in-Interact-clause-leads
returns-in_ok-interact-in-Interact-clause-leads c =
    λ names call h. runs-Interact names (own_of c.args.self.now) call (state_of c.args.self.now) c.in-Interact.at
    c.in-Interact.results c.in-Interact.action c.in-Interact.args c.args.c.now c.in-Interact.is
    ∙ grind (arith, common_steps)
