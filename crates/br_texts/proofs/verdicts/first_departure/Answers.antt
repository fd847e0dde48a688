use Rattle.std.proofs.Common.{◌≡◌, ℕ, ◌+◌, List, true, false, take, sym, subst, arith}
use Rattle.std.proofs.lemmas.List.{take_more}
use Rattle.br_bytes.specs.declared.run.Event.{Event}
use Rattle.br_judge.specs.Good.{BeginsGood}
use Rattle.br_judge.specs.Places.{Stands}
use Rattle.br_texts.specs.Verdict.{Keeps}
use Rattle.br_texts.proofs.Kept.{keeps_more}
use Rattle.br_texts.proofs.verdicts.first_departure.Goals as goal

pub returns-then-not-take-clause-some : goal.returns-then-not-take-clause-some
returns-then-not-take-clause-some c =
    let es = c.args.events.now in
    let i = c.loop-event.event-index in
    let count = c.loop-event.invariant.0 in
    let test = c.loop-event-test.true in
    let untaken = c.if-not-take.true in
    let no : c.take.result ≡ false = cc in
    let exact = c.take.ensures.exact (take i es) c.loop-event.invariant.1 in
    record {
      within = omega (arith, count, test);
      kept = subst (λ (n : ℕ). Keeps es n) (sym count) c.loop-event.invariant.2;
      departs = λ good.
          let here = subst (λ (n : ℕ). BeginsGood (take (n + 1) es)) count good in
          let yes = exact.1 (subst (λ (xs : List Event). BeginsGood xs) (take_more es i _ test) here) in
          absurd (let both = no in cc);
    }

pub loop-event-preserved : goal.loop-event-preserved
loop-event-preserved c =
    let es = c.args.events.now in
    let i = c.loop-event.event-index in
    let count = c.loop-event.invariant.0 in
    let test = c.loop-event-test.true in
    let taken = c.if-not-take.false in
    let yes : c.take.result ≡ true = cc in
    let exact = c.take.ensures.exact (take i es) c.loop-event.invariant.1 in
    let stands = c.take.ensures.stands (take i es) c.loop-event.invariant.1 in
    let good = exact.0 yes in (
      omega (arith, count),
      subst (λ (xs : List Event). Stands c.take.new.self xs) (sym (take_more es i _ test)) stands,
      keeps_more es i c.loop-event.invariant.2
          (subst (λ (xs : List Event). BeginsGood xs) (sym (take_more es i _ test)) good),
    )
