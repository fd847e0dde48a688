-- The events of a run, in order.
use Rattle.std.specs.Prelude.{ℕ, List}
use Rattle.br_bytes.specs.declared.run.Event.{Event}

pub record Recorded : Type 0 where
  -- the events, the first one first
  pub events : List Event
  -- how many more it takes without memory
  pub room : ℕ
