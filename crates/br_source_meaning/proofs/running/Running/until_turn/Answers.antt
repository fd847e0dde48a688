use Rattle.std.proofs.Common.{◌≡◌, [], ◌∷◌, ◌++◌, None, Ok, Err, sym, ap, subst, ◌∙◌, arith}
use Rattle.std.proofs.lemmas.Grind.{common_steps}
use Rattle.br_source_meaning.specs.Runs.{Goes}
use Rattle.br_source_meaning.specs.Running.{own_of, state_of}
use Rattle.br_source_meaning.specs.Pending.{resume, after, finish, IsLaidDown, Pauses}
use Rattle.br_source_meaning.proofs.Frames.{pushed, pauses-ends}
use Rattle.br_source_meaning.proofs.running.Running.until_turn.Goals as goal

pub returns-in_err-work-clause-pauses : goal.returns-in_err-work-clause-pauses
returns-in_err-work-clause-pauses c = λ names call h.
    let popped : c.loop-frame.pending ≡ c.pop.new.self ++ c.in-Some.frame ∷ [] = grind (arith, common_steps) in
    let is : c.from_residual.result ≡ Err c.in_err-work.field-0.0 = grind (arith, common_steps) in
    subst (λ o. Pauses o names call c.resume.new.self c.resume.new.pending
    (finish names (own_of c.args.self.now) call c.args.pending.now (Goes (state_of c.args.self.now)))) (sym is)
    (subst (Pauses (Err c.in_err-work.field-0.0) names call c.resume.new.self c.resume.new.pending)
    (sym (c.loop-frame.invariant.same names call h
    ∙ pushed names (own_of c.loop-frame.self) call c.pop.new.self c.loop-frame.pending c.in-Some.frame
    (Goes (state_of c.loop-frame.self)) popped))
    (pauses-ends c.in_err-work.field-0.0 names (after (own_of c.loop-frame.self) c.in-Some.frame) call c.resume.new.self
    c.pop.new.self c.resume.new.pending c.resume.new.pending
    (resume names (own_of c.loop-frame.self) call c.in-Some.frame (state_of c.loop-frame.self))
    (c.in_err-work.ensures.leads names call h)))

pub returns-in-Some-2-clause-pauses : goal.returns-in-Some-2-clause-pauses
returns-in-Some-2-clause-pauses c = λ names call h.
    let popped : c.loop-frame.pending ≡ c.pop.new.self ++ c.in-Some.frame ∷ [] = grind (arith, common_steps) in
    c.loop-frame.invariant.same names call h
    ∙ pushed names (own_of c.loop-frame.self) call c.pop.new.self c.loop-frame.pending c.in-Some.frame
    (Goes (state_of c.loop-frame.self)) popped
    ∙ ap (λ n. finish names n call c.pop.new.self
    (resume names (own_of c.loop-frame.self) call c.in-Some.frame (state_of c.loop-frame.self)))
    (sym c.in_ok-work.ensures.own)
    ∙ c.in_ok-work.ensures.leads names call h
    ∙ subst (λ o. IsLaidDown (Ok o) names (own_of c.resume.new.self) call c.lay_down.new.pending c.resume.new.pending
    c.in_ok-work.work (state_of c.resume.new.self)) c.in-Some-2.is
    (c.in_ok-turn.ensures.same names (own_of c.resume.new.self) call (state_of c.resume.new.self))

pub loop-frame-preserved : goal.loop-frame-preserved
loop-frame-preserved c =
    let popped : c.loop-frame.pending ≡ c.pop.new.self ++ c.in-Some.frame ∷ [] = grind (arith, common_steps) in
    let none : c.in_ok-turn.field-0 ≡ None = grind (arith, common_steps) in
    record {
      same = λ names call h.
          c.loop-frame.invariant.same names call h
          ∙ pushed names (own_of c.loop-frame.self) call c.pop.new.self c.loop-frame.pending c.in-Some.frame
          (Goes (state_of c.loop-frame.self)) popped
          ∙ ap (λ n. finish names n call c.pop.new.self
          (resume names (own_of c.loop-frame.self) call c.in-Some.frame (state_of c.loop-frame.self)))
          (sym c.in_ok-work.ensures.own)
          ∙ c.in_ok-work.ensures.leads names call h
          ∙ subst (λ o. IsLaidDown (Ok o) names (own_of c.resume.new.self) call c.lay_down.new.pending
          c.resume.new.pending c.in_ok-work.work (state_of c.resume.new.self)) none
          (c.in_ok-turn.ensures.same names (own_of c.resume.new.self) call (state_of c.resume.new.self));
      fuel = omega (arith, c.loop-frame.invariant.fuel, c.in_ok-work.ensures.fuel);
    }
