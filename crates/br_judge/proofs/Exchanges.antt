-- The exchange of a byte.
use Rattle.std.proofs.Common.{◌≡◌, ◌↔◌, ℕ, List, [], ◌∷◌, Option, sym, subst}
use Rattle.br_bytes.specs.declared.run.Event.{Event}
use Rattle.br_bytes.specs.declared.run.Event.TheVariants.{Write}
use Rattle.br_judge.specs.declared.place.Moved.{Moved}
use Rattle.br_judge.specs.declared.place.Exchange.{Exchange}
use Rattle.br_judge.specs.declared.place.Exchange.TheVariants.{Put, Send, Get}
use Rattle.br_judge.specs.Good.{TX, RX}
use Rattle.br_judge.specs.Places.{rest_of, waiting, received, receiving, may_send, exchanging}
use Rattle.br_judge.proofs.Sets.{Steps, never, joined_rest, joined_empty}
use Rattle.br_judge.proofs.Sets.{steps_joined, steps_event, steps_other, event_empty}
use Rattle.br_judge.proofs.Waits.{waiting_empty}

-- the wait for a port makes of an event what may follow
abbrev pub Waits : ℕ → ℕ → Event → Moved ℕ → Type 0
Waits port left e m =
    (o : Option ℕ) (rest : List Event) → waiting port left o (e ∷ rest) ↔ rest_of (waiting port) m o rest

pub put_steps : (b left : ℕ) (e : Event) (m : Moved ℕ) → Waits TX left e m → (o : Option ℕ)
    → Steps (exchanging b (Put left) o) e (joined_rest (waiting TX) m (may_send b o))
put_steps b left e m steps o =
    steps_joined (waiting TX) m (waiting TX left) (may_send b o) e (waiting_empty TX left) steps

pub get_steps : (b left : ℕ) (e : Event) (m : Moved ℕ) → Waits RX left e m → (o : Option ℕ)
    → Steps (exchanging b (Get left) o) e (joined_rest (waiting RX) m (received o))
get_steps b left e m steps o =
    steps_joined (waiting RX) m (waiting RX left) (received o) e (waiting_empty RX left) steps

pub send_steps : (b : ℕ) (e : Event) → e ≡ Write TX b → (o : Option ℕ)
    → Steps (exchanging b Send o) e (exchanging b (Get 999) o)
send_steps b e h o = subst (λ q. Steps (exchanging b Send o) q (exchanging b (Get 999) o)) (sym h)
    (steps_event (Write TX b) (receiving 999 o))

pub send_departs : (b : ℕ) (e : Event) → (e ≡ Write TX b → ⊥) → (o : Option ℕ) → Steps (exchanging b Send o) e never
send_departs b e other o = steps_other (Write TX b) e (receiving 999 o) other

pub exchanging_empty : (b : ℕ) (x : Exchange) (o : Option ℕ) → exchanging b x o [] → ⊥
exchanging_empty b (Put left) o h = joined_empty (waiting TX left) (may_send b o) (waiting_empty TX left) h
exchanging_empty b Send o h = event_empty (Write TX b) (receiving 999 o) h
exchanging_empty b (Get left) o h = joined_empty (waiting RX left) (received o) (waiting_empty RX left) h
