-- A read or a write of a word.
use Rattle.std.proofs.Common.{◌≡◌, ◌↔◌, ℕ, suc, ◌<◌, ◌≤◌, List, [], ◌∷◌, length}
use Rattle.std.proofs.Common.{drop, get_or, Option, Some, sym, subst, drop-cons}
use Rattle.std.proofs.lemmas.List.{drop_all}
use Rattle.br_bytes.specs.declared.run.Event.{Event}
use Rattle.br_bytes.specs.declared.run.Event.TheVariants.{Write}
use Rattle.br_judge.specs.declared.place.Moved.{Moved}
use Rattle.br_judge.specs.declared.place.Moved.TheVariants.{Over}
use Rattle.br_judge.specs.declared.place.Exchange.{Exchange}
use Rattle.br_judge.specs.declared.place.Exchange.TheVariants.{Put}
use Rattle.br_judge.specs.declared.place.Transfer.{Transfer}
use Rattle.br_judge.specs.declared.place.Transfer.TheVariants.{Select, Byte, Release}
use Rattle.br_judge.specs.Languages.{some}
use Rattle.br_judge.specs.Good.{CS}
use Rattle.br_judge.specs.Places.{rest_of, exchanging, after_byte, transferring, transfer}
use Rattle.br_judge.proofs.Sets.{Steps, never, joined_rest, joined_empty}
use Rattle.br_judge.proofs.Sets.{steps_joined, steps_event, steps_other, event_empty}
use Rattle.br_judge.proofs.Exchanges.{exchanging_empty}

-- the exchange of a byte makes of an event what may follow
abbrev pub Exchanges : ℕ → Exchange → Event → Moved Exchange → Type 0
Exchanges b x e m = (o : Option ℕ) (rest : List Event) → exchanging b x o (e ∷ rest) ↔ rest_of (exchanging b) m o rest

pub byte_steps : (bytes : List ℕ) (sent value : ℕ) (x : Exchange) (e : Event) (m : Moved Exchange) →
    Exchanges (get_or bytes sent 0) x e m → (o : Option ℕ) →
    Steps (transfer bytes (Byte sent value x) o) e
    (joined_rest (exchanging (get_or bytes sent 0)) m (after_byte (transferring (drop (suc sent) bytes)) value o))
byte_steps bytes sent value x e m steps o =
    let b : ℕ = get_or bytes sent 0 in
    steps_joined (exchanging b) m (exchanging b x) (after_byte (transferring (drop (suc sent) bytes)) value o) e
    (exchanging_empty b x) steps

-- where bytes are left to send, the next one is sent
pub transferring_more : (bytes : List ℕ) (sent value : ℕ) → sent < length bytes → (o : Option ℕ) (rest : List Event) →
    transferring (drop sent bytes) value o rest ↔ transfer bytes (Byte sent value (Put 999)) o rest
transferring_more bytes sent value within o rest =
    let more : List ℕ = drop (suc sent) bytes in
    let is : drop sent bytes ≡ get_or bytes sent 0 ∷ more = drop-cons bytes sent 0 within in
    rw is (λ m. m, λ m. m)

-- where none is left, the chip is released
pub transferring_none : (bytes : List ℕ) (sent value : ℕ) → length bytes ≤ sent → (o : Option ℕ) (rest : List Event) →
    transferring (drop sent bytes) value o rest ↔ transfer bytes (Release (Some value)) o rest
transferring_none bytes sent value past o rest =
    let is : drop sent bytes ≡ [] = drop_all sent bytes past in
    rw is (λ m. m, λ m. m)

pub select_steps : (bytes : List ℕ) (e : Event) → 0 < length bytes → e ≡ Write CS 2 → (o : Option ℕ) →
    Steps (transfer bytes Select o) e (transfer bytes (Byte 0 0 (Put 999)) o)
select_steps bytes e some h o =
    subst (λ q. Steps (transfer bytes Select o) q (transfer bytes (Byte 0 0 (Put 999)) o)) (sym h) at
  where
    at : Steps (transfer bytes Select o) (Write CS 2) (transfer bytes (Byte 0 0 (Put 999)) o)
    at rest =
        let s = steps_event (Write CS 2) (transferring bytes 0 o) rest in
        let t = transferring_more bytes 0 0 some o rest in
        (λ m. t.0 (s.0 m), λ m. s.1 (t.1 m))

pub select_departs : (bytes : List ℕ) (e : Event) → (e ≡ Write CS 2 → ⊥) → (o : Option ℕ)
    → Steps (transfer bytes Select o) e never
select_departs bytes e other o = steps_other (Write CS 2) e (transferring bytes 0 o) other

pub release_steps : (bytes : List ℕ) (outcome : Option ℕ) (e : Event) → e ≡ Write CS 0
    → (o : Option ℕ) (rest : List Event) →
    transfer bytes (Release outcome) o (e ∷ rest) ↔ rest_of (transfer bytes) (Over outcome) o rest
release_steps bytes outcome e h o rest = (λ (is, m). let tail : rest ≡ [] = cc in (is, tail), λ (is, m). (is, cc))

pub release_departs : (bytes : List ℕ) (outcome : Option ℕ) (e : Event) → (e ≡ Write CS 0 → ⊥) → (o : Option ℕ)
    → Steps (transfer bytes (Release outcome) o) e never
release_departs bytes outcome e other o rest = (λ (is, m). let head : e ≡ Write CS 0 = cc in other head, λ m. absurd m)

pub transfer_empty : (bytes : List ℕ) (at : Transfer) (o : Option ℕ) → transfer bytes at o [] → ⊥
transfer_empty bytes Select o m = event_empty (Write CS 2) (transferring bytes 0 o) m
transfer_empty bytes (Byte sent value x) o m =
    joined_empty (exchanging (get_or bytes sent 0) x) (after_byte (transferring (drop (suc sent) bytes)) value o)
    (exchanging_empty (get_or bytes sent 0) x) m
transfer_empty bytes (Release outcome) o (is, m) = cc
