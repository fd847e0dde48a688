use Rattle.std.proofs.Common.{◌≡◌, [], ◌∷◌, ◌++◌, Err, sym, ap, subst, ◌∙◌, arith}
use Rattle.std.proofs.lemmas.Grind.{common_steps}
use Rattle.br_source_meaning.specs.Runs.{State, Goes, with_locals, run, run_all}
use Rattle.br_source_meaning.specs.Names.{names_at}
use Rattle.br_source_meaning.specs.Numbered.{named_command, named_commands}
use Rattle.br_source_meaning.specs.Running.{names_of, locals_in, own_of, state_of}
use Rattle.br_source_meaning.specs.Pending.{resume, finish, Resumes}
use Rattle.br_source_meaning.specs.declared.pending.Frame.TheVariants as frame
use Rattle.br_source_meaning.proofs.Frames.{resumes-first, resumes-alone, resumes-caller, resumes-undefined}
use Rattle.br_source_meaning.proofs.Kept.{set-more}
use Rattle.br_source_meaning.proofs.running.Running.resume.Goals as goal

pub returns-in_ok-push-in-Body-clause-leads : goal.returns-in_ok-push-in-Body-clause-leads
returns-in_ok-push-in-Body-clause-leads c = λ names call h.
    let s : State = state_of c.args.self.now in
    let own = own_of c.args.self.now in
    let new : c.push.new.self ≡ c.args.pending.now ++ frame.Body (record { commands = c.in-Some.rest }) ∷ [] =
    grind (arith, common_steps) in
    let is : c.in-Body.body.commands.now ≡ c.in-Some.c.now ∷ c.in-Some.rest.now = grind (arith, common_steps) in
    subst (Resumes c.command.result names call c.command.new.self c.push.new.self c.args.pending.now)
    (sym (ap (λ f. resume names own call f s) c.in-Body.is
    ∙ ap (λ cs. run_all call (named_commands names own cs) s) is))
    (resumes-first c.command.result names own call c.command.new.self c.args.pending.now c.push.new.self
    (record { commands = c.in-Some.rest }) (run call (named_command names own c.in-Some.c.now) s)
    c.command.ensures.own new (c.command.ensures.leads names call h))

pub returns-in-Loop-clause-leads : goal.returns-in-Loop-clause-leads
returns-in-Loop-clause-leads c = λ names call h.
    subst (Resumes c.test.result names call c.args.self.now c.args.pending.now c.args.pending.now)
    (sym (ap (λ f. resume names (own_of c.args.self.now) call f (state_of c.args.self.now)) c.in-Loop.is))
    (resumes-alone c.test.result names call c.args.self.now c.args.pending.now
    (resume names (own_of c.args.self.now) call (frame.Loop c.in-Loop.turn) (state_of c.args.self.now))
    (c.test.ensures.leads names call h))

pub returns-in_err-words-in-Return-clause-leads : goal.returns-in_err-words-in-Return-clause-leads
returns-in_err-words-in-Return-clause-leads c = λ names call h.
    let r = c.args.self.now in
    let e = c.in_err-words-in-Return.field-0.0 in
    let is : c.from_residual-in_err-words-in-Return.result ≡ Err e = grind (arith, common_steps) in
    subst (λ o. Resumes o names call r c.args.pending.now c.args.pending.now
    (resume names (own_of r) call c.args.frame (state_of r))) (sym is)
    (resumes-undefined e names call r c.args.pending.now c.args.frame c.in-Return.from c.in-Return.to c.in-Return.caller
    c.in-Return.is c.in_err-words-in-Return.ensures)

pub returns-in_ok-words-in-Return-clause-leads : goal.returns-in_ok-words-in-Return-clause-leads
returns-in_ok-words-in-Return-clause-leads c = λ names call h.
    let s : State = state_of c.args.self.now in
    let v = c.in-Return.caller in
    let keep = with_locals (names_at (names_of v) c.in-Return.to.now) in
    ap (finish names (names_of c.set_all.new.self) call c.args.pending.now)
    (resumes-caller names (own_of c.args.self.now) call c.args.frame c.in-Return.from c.in-Return.to v s
    c.in_ok-words-in-Return.words c.in-Return.is c.in_ok-words-in-Return.ensures
    ∙ ap (λ l. Goes (record s { locals = l }))
    (sym (set-more v c.set_all.new.self c.in-Return.to.now c.as_slice.result.now c.set_all.ensures.names
    c.set_all.ensures.words
    ∙ ap (λ vs. keep vs (locals_in v)) c.as_slice.ensures)))
