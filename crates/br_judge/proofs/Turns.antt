-- Asking the chip again, and the words of a frame in turn.
use Rattle.std.proofs.Common.{◌≡◌, ◌≢◌, inl, inr, ◌↔◌, ℕ, suc, Bool, List, ◌∷◌, Option, Some, sym, subst}
use Rattle.br_bytes.specs.declared.run.Event.{Event}
use Rattle.br_bytes.specs.declared.run.Event.TheVariants.{Read, Write}
use Rattle.br_judge.specs.declared.place.Frame.{Frame}
use Rattle.br_judge.specs.declared.place.Moved.{Moved}
use Rattle.br_judge.specs.declared.place.Transfer.{Transfer}
use Rattle.br_judge.specs.declared.place.Transfer.TheVariants.{Select}
use Rattle.br_judge.specs.declared.place.Purpose.{Purpose}
use Rattle.br_judge.specs.declared.place.Purpose.TheVariants.{Ask, Word}
use Rattle.br_judge.specs.declared.place.Place.TheVariants as place
use Rattle.br_judge.specs.Languages.{Language, ◌▸◌, nothing, event}
use Rattle.br_judge.specs.Good.{EN, OUT, chip_is_ready, with_light, set_light}
use Rattle.br_judge.specs.Places.{rest_of, transfer, bytes_for, after, asking, reading}
use Rattle.br_judge.specs.Places.{after_frame, asked, number, polls, MayFollow}
use Rattle.br_judge.proofs.Sets.{Steps, never, joined_rest, steps_joined, steps_event}
use Rattle.br_judge.proofs.Sets.{event-to, event-from, assoc-to, assoc-from, iff_trans}
use Rattle.br_judge.proofs.Transfers.{transfer_empty}

pub asking_zero : (es : List Event) → asking 0 es ↔ nothing es
unfolding asking
asking_zero es = (λ m. m, λ m. m)

pub asking_suc : (n : ℕ) (es : List Event) → asking (suc n) es ↔ MayFollow (place.In (Ask n) Select) es
unfolding asking
asking_suc n es = (λ m. m, λ m. m)

pub reading_zero : (f : Frame) (es : List Event) → reading 0 f es ↔ after_frame f.fits f.light es
unfolding reading
reading_zero f es = (λ m. m, λ m. m)

pub reading_suc : (n : ℕ) (f : Frame) (es : List Event)
    → reading (suc n) f es ↔ MayFollow (place.In (Word n f) Select) es
unfolding reading
reading_suc n f es = (λ m. m, λ m. m)

-- after the last word of a frame that is accepted, or of one that is not
pub reading_ends : (f : Frame) (fits : Bool) → f.fits ≡ fits → (es : List Event)
    → reading 0 f es ↔ after_frame fits f.light es
reading_ends f fits is es = subst (λ b. reading 0 f es ↔ after_frame b f.light es) is (reading_zero f es)

-- the same, where the number is one more than another
pub asking_more : (left n : ℕ) → left ≡ suc n → (es : List Event)
    → asking left es ↔ MayFollow (place.In (Ask n) Select) es
asking_more left n e es = rw e (asking_suc n es)

pub reading_more : (left n : ℕ) (f : Frame) → left ≡ suc n → (es : List Event)
    → reading left f es ↔ MayFollow (place.In (Word n f) Select) es
reading_more left n f e es = rw e (reading_suc n f es)

pub asked_again : (v : ℕ) (again : Language) → v ≢ chip_is_ready → (es : List Event)
    → asked again (Some v) es ↔ again es
asked_again v again ne es = (to, λ m. inr (ne, m))
  where
    to : asked again (Some v) es → again es
    to (inl (is, m)) = absurd (ne is)
    to (inr (not, m)) = m

-- a transfer makes of an event what may follow
abbrev pub Transfers : List ℕ → Transfer → Event → Moved Transfer → Type 0
Transfers bytes at e m =
    (o : Option ℕ) (rest : List Event) → transfer bytes at o (e ∷ rest) ↔ rest_of (transfer bytes) m o rest

pub transfer_steps : (purpose : Purpose) (at : Transfer) (e : Event) (m : Moved Transfer)
    → Transfers (bytes_for purpose) at e m →
    Steps (MayFollow (place.In purpose at)) e (joined_rest (transfer (bytes_for purpose)) m (after purpose))
transfer_steps purpose at e m steps =
    steps_joined (transfer (bytes_for purpose)) m (transfer (bytes_for purpose) at) (after purpose) e
    (transfer_empty (bytes_for purpose) at) steps

pub pin_steps : (v : ℕ) (e : Event) → e ≡ Write EN v
    → Steps (MayFollow (place.Pin v)) e (MayFollow (place.In (Ask 199) Select))
pin_steps v e h = subst (λ q. Steps (MayFollow (place.Pin v)) q (MayFollow (place.In (Ask 199) Select))) (sym h) at
  where
    at : Steps (MayFollow (place.Pin v)) (Write EN v) (MayFollow (place.In (Ask 199) Select))
    at rest = iff_trans (steps_event (Write EN v) (asking 200) rest) (asking_suc 199 rest)

-- the outputs are read before the light is set
pub look_steps : (on : Bool) (v w : ℕ) → w ≡ with_light (number on) v → (rest : List Event) →
    MayFollow (place.Light on) (Read OUT v ∷ rest) ↔ MayFollow (place.Set w) rest
look_steps on v w is rest =
    subst (λ q. MayFollow (place.Light on) (Read OUT v ∷ rest) ↔ MayFollow (place.Set q) rest) (sym is) (to, from)
  where
    write : ℕ → Language
    write u = event (Write OUT (with_light (number on) u))

    to : (set_light (number on) ▸ polls) (Read OUT v ∷ rest) → (write v ▸ polls) rest
    to (f, b, h, (u, m), k) =
        let t = assoc-to (event (Read OUT u)) (write u) polls (Read OUT v ∷ rest) (f, b, h, m, k) in
        let s = event-to (Read OUT u) (write u ▸ polls) (Read OUT v) rest t in
        let same : u ≡ v = cc in
        subst (λ q. (write q ▸ polls) rest) same s.1

    from : (write v ▸ polls) rest → (set_light (number on) ▸ polls) (Read OUT v ∷ rest)
    from k =
        let s = assoc-from (event (Read OUT v)) (write v) polls (Read OUT v ∷ rest)
        (event-from (Read OUT v) (write v ▸ polls) rest k) in
        (s.0, s.1, s.2, (v, s.3), s.4)

pub look_departs : (on : Bool) (e : Event) → ((v : ℕ) → e ≡ Read OUT v → ⊥) → Steps (MayFollow (place.Light on)) e never
look_departs on e other rest = (to, λ m. absurd m)
  where
    to : (set_light (number on) ▸ polls) (e ∷ rest) → ⊥
    to (f, b, h, (u, m), k) =
        let write : Language = event (Write OUT (with_light (number on) u)) in
        let t = assoc-to (event (Read OUT u)) write polls (e ∷ rest) (f, b, h, m, k) in
        other u (event-to (Read OUT u) (write ▸ polls) e rest t).0
