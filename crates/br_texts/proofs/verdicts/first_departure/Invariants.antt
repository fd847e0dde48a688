use Rattle.std.proofs.Common.{◌≡◌, take}
use Rattle.br_judge.specs.Places.{Stands}
use Rattle.br_texts.specs.Verdict.{Keeps}
use Rattle.br_texts.proofs.verdicts.first_departure.Given as goal

-- the judge stands for the events so far, which keep to the language and are counted
abbrev pub invariant-loop-event : goal.invariant-loop-event
invariant-loop-event l =
    (l.kept ≡ l.event-index) × Stands l.judge (take l.event-index l.events) × Keeps l.events l.event-index
