-- What the loop keeps: the run so far, room for the steps that are left, and no more answers taken than steps made.
use Rattle.std.proofs.Common.{◌≡◌, ◌+◌, ◌≤◌, length}
use Rattle.br_machine.specs.Run.{at_start}
use Rattle.br_machine.proofs.Moments.{HasRun}
use Rattle.br_machine.proofs.running.run.Given as goal

abbrev pub invariant-loop : goal.invariant-loop
invariant-loop l =
    HasRun (at_start l.fn.m.state l.fn.answers l.fn.trace.events) l.counter l.taken l.m.state l.answers l.trace
    × (l.limit ≤ l.trace.room + l.counter)
    × (l.trace.room + length l.trace.events ≡ l.fn.trace.room + length l.fn.trace.events)
    × (l.taken ≤ l.counter)
