-- What a call shows of itself.
use Rattle.std.specs.Prelude.{List}
use Rattle.br_bytes.specs.declared.run.Event.{Event}
use Rattle.br_bytes.specs.declared.run.Outcome.{Outcome}
use Rattle.br_bytes.specs.Memory.{Memory}

-- how a call ended, the events that it made, the oldest first, and the memory at that moment
pub record Called : Type 0 where
  pub outcome : Outcome
  pub trace : List Event
  pub memory : Memory
