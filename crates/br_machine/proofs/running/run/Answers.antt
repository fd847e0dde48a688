-- By the end of the step, at its return or at the next turn.
use Rattle.std.proofs.Common.{◌+◌, length, drop, refl, sym, ap, ◌∙◌, arith, length-append}
use Rattle.br_bytes.specs.declared.run.Event.{Event}
use Rattle.br_machine.specs.declared.stepped.Stepped.TheVariants.{Ran, Read, Wrote, Waiting, Halted, Trapped}
use Rattle.br_machine.specs.Run.{at_start, end_of}
use Rattle.br_machine.specs.Trace.{Recorded}
use Rattle.br_machine.proofs.Moments.{Ended, HasRun-end, HasRun-step, next_step-is, same_moment, drop_one-drop}
use Rattle.br_machine.proofs.running.run.Goals as goal
use Rattle.br_machine.proofs.running.run.Goals.{in-Ran, in-Read, in-Wrote}

pub returns-in-Waiting : goal.returns-in-Waiting
returns-in-Waiting c =
    let start = at_start c.args.m.now.state c.args.answers.now c.args.trace.now.events in
    let how = Waiting c.in-Waiting.a in
    let e : Ended start c.args.limit c.step.new.self.state c.loop.trace how =
    HasRun-end start c.loop.counter c.args.limit c.loop.taken c.loop.m.state c.step.new.self.state c.args.answers.now
    c.loop.trace how
    c.loop.invariant.0 (omega arith)
    (next_step-is c.loop.m.state c.step.new.self.state c.answer_at.result c.args.answers.now c.loop.taken
    c.loop.trace.events how c.answer_at.ensures c.in-Waiting.ensures.machine c.in-Waiting.ensures.end)
    refl refl in
    record {
      machine = e.machine;
      events = e.events;
      room = c.loop.invariant.2;
      running = ((λ is. absurd (cc)), (λ all. absurd (e.stopped all)));
      ended = λ _. ap end_of e.shown;
    }

pub returns-in-Halted : goal.returns-in-Halted
returns-in-Halted c =
    let start = at_start c.args.m.now.state c.args.answers.now c.args.trace.now.events in
    let how = Halted in
    let e : Ended start c.args.limit c.step.new.self.state c.loop.trace how =
    HasRun-end start c.loop.counter c.args.limit c.loop.taken c.loop.m.state c.step.new.self.state c.args.answers.now
    c.loop.trace how
    c.loop.invariant.0 (omega arith)
    (next_step-is c.loop.m.state c.step.new.self.state c.answer_at.result c.args.answers.now c.loop.taken
    c.loop.trace.events how c.answer_at.ensures c.in-Halted.ensures.machine c.in-Halted.ensures.end)
    refl refl in
    record {
      machine = e.machine;
      events = e.events;
      room = c.loop.invariant.2;
      running = ((λ is. absurd (cc)), (λ all. absurd (e.stopped all)));
      ended = λ _. ap end_of e.shown;
    }

pub returns-in-Trapped : goal.returns-in-Trapped
returns-in-Trapped c =
    let start = at_start c.args.m.now.state c.args.answers.now c.args.trace.now.events in
    let how = Trapped c.in-Trapped.trap c.in-Trapped.pc in
    let e : Ended start c.args.limit c.step.new.self.state c.loop.trace how =
    HasRun-end start c.loop.counter c.args.limit c.loop.taken c.loop.m.state c.step.new.self.state c.args.answers.now
    c.loop.trace how
    c.loop.invariant.0 (omega arith)
    (next_step-is c.loop.m.state c.step.new.self.state c.answer_at.result c.args.answers.now c.loop.taken
    c.loop.trace.events how c.answer_at.ensures c.in-Trapped.ensures.machine c.in-Trapped.ensures.end)
    refl refl in
    record {
      machine = e.machine;
      events = e.events;
      room = c.loop.invariant.2;
      running = ((λ is. absurd (cc)), (λ all. absurd (e.stopped all)));
      ended = λ _. ap end_of e.shown;
    }

pub loop-preserved : goal.loop-preserved
loop-preserved c =
    let start = at_start c.args.m.now.state c.args.answers.now c.args.trace.now.events in
    let all = c.args.answers.now in
    elim c.match-step.branch [
      | in-Ran w ↦ (
        HasRun-step start c.loop.counter c.loop.taken c.match-step.taken c.loop.m.state c.step.new.self.state all
            c.loop.trace c.match-step.trace (Ran) c.loop.invariant.0
            (next_step-is c.loop.m.state c.step.new.self.state c.answer_at.result all c.loop.taken c.loop.trace.events
            (Ran) c.answer_at.ensures w.in-Ran.ensures.machine w.in-Ran.ensures.end)
            (same_moment c.step.new.self.state _ _ _ _ (ap (λ n. drop n all) (sym w.taken-is))
            (ap (λ (t : Recorded). t.events) (sym w.trace-is))),
        (let r = ap (λ (t : Recorded). t.room) w.trace-is in omega arith),
        ap (λ (t : Recorded). t.room + length t.events) w.trace-is ∙ c.loop.invariant.2,
        omega arith,
      )
      | in-Read w ↦ (
        HasRun-step start c.loop.counter c.loop.taken c.match-step.taken c.loop.m.state c.step.new.self.state all
            c.loop.trace c.match-step.trace (Read w.in-Read.a w.in-Read.v) c.loop.invariant.0
            (next_step-is c.loop.m.state c.step.new.self.state c.answer_at.result all c.loop.taken c.loop.trace.events
            (Read w.in-Read.a w.in-Read.v) c.answer_at.ensures w.in-Read.ensures.machine w.in-Read.ensures.end)
            (same_moment
            c.step.new.self.state _ _ _ _ (drop_one-drop all c.loop.taken ∙ ap (λ n. drop n all) (sym w.taken-is))
            (ap (λ (t : Recorded). t.events) (sym (w.trace-is ∙ w.push.ensures)))),
        (let r = ap (λ (t : Recorded). t.room) (w.trace-is ∙ w.push.ensures) in omega arith),
        (let e = w.trace-is ∙ w.push.ensures in
            let r = ap (λ (t : Recorded). t.room) e in
            let n = ap (λ (t : Recorded). length t.events) e in
            omega (arith, length-append {A = Event})),
        omega arith,
      )
      | in-Wrote w ↦ (
        HasRun-step start c.loop.counter c.loop.taken c.match-step.taken c.loop.m.state c.step.new.self.state all
            c.loop.trace c.match-step.trace (Wrote w.in-Wrote.a w.in-Wrote.v) c.loop.invariant.0
            (next_step-is c.loop.m.state c.step.new.self.state c.answer_at.result all c.loop.taken c.loop.trace.events
            (Wrote w.in-Wrote.a w.in-Wrote.v) c.answer_at.ensures w.in-Wrote.ensures.machine w.in-Wrote.ensures.end)
            (same_moment c.step.new.self.state _ _ _ _ (ap (λ n. drop n all) (sym w.taken-is))
            (ap (λ (t : Recorded). t.events) (sym (w.trace-is ∙ w.push-in-Wrote.ensures)))),
        (let r = ap (λ (t : Recorded). t.room) (w.trace-is ∙ w.push-in-Wrote.ensures) in omega arith),
        (let e = w.trace-is ∙ w.push-in-Wrote.ensures in
            let r = ap (λ (t : Recorded). t.room) e in
            let n = ap (λ (t : Recorded). length t.events) e in
            omega (arith, length-append {A = Event})),
        omega arith,
      )
    ]
