-- What a finished run shows of itself.
use Rattle.br_bytes.specs.declared.run.Outcome.{Outcome}
use Rattle.br_bytes.specs.Called.{Called}
use Rattle.br_source_meaning.specs.Calls.{outcome_of}
use Rattle.br_source_meaning.specs.Running.{end_of}
use Rattle.br_source_meaning.specs.declared.running.Stop.{Stop}
use Rattle.br_source_meaning.specs.declared.interp.Finished.{Finished}

-- its end, its events and its memory
abbrev pub called_of : Finished → Called
called_of f = record { outcome = f.outcome; trace = f.trace; memory = f.memory }

-- the outcome of a run that stopped
abbrev pub outcome_at : Stop → Outcome
outcome_at stop = outcome_of (end_of stop)
