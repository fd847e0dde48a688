-- What was pending at first and what is pending now come to the same, and what is done has its weight.
use Rattle.std.proofs.Common.{◌≡◌, List}
use Rattle.br_bytes.specs.Left.{OnlyTakes}
use Rattle.br_source_meaning.specs.Runs.{Callee, Goes}
use Rattle.br_source_meaning.specs.Values.{Name}
use Rattle.br_source_meaning.specs.Running.{own_of, state_of}
use Rattle.br_source_meaning.specs.Pending.{finish, weigh}
use Rattle.br_source_meaning.proofs.running.Running.until_turn.Given as goal

abbrev pub invariant-loop-frame : goal.invariant-loop-frame
invariant-loop-frame l = record {
  same : (names : List Name) (call : Callee) → OnlyTakes call
      → finish names (own_of l.fn.self) call l.fn.pending (Goes (state_of l.fn.self))
      ≡ finish names (own_of l.self) call l.pending (Goes (state_of l.self));
  fuel : l.self.fuel ≡ l.fn.self.fuel;
}

abbrev pub decreases-loop-frame : goal.decreases-loop-frame
decreases-loop-frame l = weigh l.pending
