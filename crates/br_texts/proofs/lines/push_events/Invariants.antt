use Rattle.std.proofs.Common.{◌≡◌, ◌++◌, drop}
use Rattle.br_texts.specs.Lines.{event_lines}
use Rattle.br_texts.proofs.lines.push_events.Given as goal

-- the text so far and what is to come are the text as it was and all that is added
abbrev pub invariant-loop-event : goal.invariant-loop-event
invariant-loop-event l =
    l.text.items ++ event_lines (drop l.event-index l.events) ≡ l.fn.text.items ++ event_lines l.events
