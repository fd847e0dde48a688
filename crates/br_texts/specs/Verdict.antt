-- The verdict on events: how many of them some member of the firmware's trace language begins with.
use Rattle.std.specs.Prelude.{ℕ, ◌≡◌, ◌+◌, ◌<◌, ◌⊎◌, List, ◌++◌, codes, length, take}
use Rattle.std.specs.Fmt.{decimal}
use Rattle.br_bytes.specs.declared.run.Event.{Event}
use Rattle.br_judge.specs.Good.{BeginsGood}
use Rattle.br_image.specs.Text.{line}

-- up to each of the first n events, some member of the language begins with all events so far
abbrev pub Keeps : List Event → ℕ → Type 0
Keeps events n = (k : ℕ) → k < n → BeginsGood (take (k + 1) events)

-- after n events that keep to the language comes one more, which departs from it
pub record DepartsAfter (events : List Event) (n : ℕ) : Type 0 where
  pub within : n < length events
  pub kept : Keeps events n
  pub departs : ¬ BeginsGood (take (n + 1) events)

-- the verdict: all events keep to the language, and how many they are, or which
-- is the first to depart, counted from 1
abbrev pub IsVerdict : List Event → List ℕ → Type 0
IsVerdict events text =
    (Keeps events (length events) × (text ≡ line (codes "prefix " ++ decimal (length events))))
    ⊎ ((n : ℕ) × DepartsAfter events n × (text ≡ line (codes "departs " ++ decimal (n + 1))))
