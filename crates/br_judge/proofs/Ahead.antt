-- Something may follow at each place but the one outside, and what a judge stands for after an event.
use Rattle.std.proofs.Common.{◌≡◌, ◌≢◌, ◌⊎◌, inl, inr, ◌↔◌, ℕ, zero, suc, ◌^◌, ◌≤◌, Bool, true}
use Rattle.std.proofs.Common.{false, not, IsTrue, List, [], ◌∷◌, ◌++◌, Option, Some, None, refl}
use Rattle.std.proofs.Common.{sym, ap, subst, ◌∙◌, arith, append_assoc, append-nil, lit≤, ◌==◌}
use Rattle.std.proofs.lemmas.Bool.Decides.{eqb_tells}
use Rattle.br_bytes.specs.declared.run.Event.{Event}
use Rattle.br_bytes.specs.declared.run.Event.TheVariants.{Read, Write}
use Rattle.br_judge.specs.declared.place.Frame.{Frame}
use Rattle.br_judge.specs.declared.place.Exchange.{Exchange}
use Rattle.br_judge.specs.declared.place.Exchange.TheVariants.{Put, Send, Get}
use Rattle.br_judge.specs.declared.place.Transfer.{Transfer}
use Rattle.br_judge.specs.declared.place.Transfer.TheVariants.{Select, Byte, Release}
use Rattle.br_judge.specs.declared.place.Purpose.{Purpose}
use Rattle.br_judge.specs.declared.place.Purpose.TheVariants.{Ask, Begin, Poll, Length, Word}
use Rattle.br_judge.specs.declared.place.Place.{Place}
use Rattle.br_judge.specs.declared.place.Place.TheVariants as place
use Rattle.br_judge.specs.Languages.{Language, ◌▸◌, nothing, event, times}
use Rattle.br_judge.specs.Good.{TX, RX, CS, EN, OUT, busy, chip_is_ready, words_for}
use Rattle.br_judge.specs.Good.{frame_length, with_light, set_light, poll, Good, BeginsGood}
use Rattle.br_judge.specs.Places.{Piece, joined, waiting, receiving, received, may_send, exchanging}
use Rattle.br_judge.specs.Places.{after_byte, transferring, transfer, bytes_for, after, asking}
use Rattle.br_judge.specs.Places.{asked, begun, reading, after_frame, after_word, with_word, begins}
use Rattle.br_judge.specs.Places.{measured, polled, number, polls, after_transfer, MayFollow}
use Rattle.br_judge.proofs.Sets.{times_zero-from, times_suc-from}
use Rattle.br_judge.proofs.Turns.{asking_zero, asking_suc, reading_zero, reading_suc}

-- a set that is not empty
abbrev pub HasList : Language → Type 0
HasList L = (es : List Event) × L es

has_joined : (A K : Piece) (o : Option ℕ) → HasList (A o) → HasList (K o) → HasList (joined A K)
has_joined A K o (f, a) (b, k) = (f ++ b, (o, (f, b, refl, a, k)))

has_event : (e : Event) (K : Language) → HasList K → HasList (event e ▸ K)
has_event e K (b, k) = (e ∷ b, (e ∷ [], b, refl, refl, k))

has_nothing : HasList nothing
has_nothing = ([], refl)

has_busy : (n port : ℕ) → HasList (times n (busy port))
has_busy zero port = ([], times_zero-from (busy port))
has_busy (suc n) port =
    let rest = has_busy n port in
    let high : Event = Read port (2 ^ 31) in (
      high ∷ rest.0,
      times_suc-from n (busy port) (high ∷ rest.0) (high ∷ [], rest.0, refl, (2 ^ 31, (lit≤ tt, refl)), rest.1),
    )

has_polls : HasList polls
has_polls = ([], (0, times_zero-from poll))

-- an exchange may fail
has_failed_get : (left : ℕ) → HasList (receiving left None)
has_failed_get left = has_joined (waiting RX left) (received None) None (has_busy (suc left) RX) ([], (refl, refl))

has_failed : (b : ℕ) (x : Exchange) → HasList (exchanging b x None)
has_failed b (Put left) =
    has_joined (waiting TX left) (may_send b None) None (has_busy (suc left) TX) ([], (refl, refl))
has_failed b Send = has_event (Write TX b) (receiving 999 None) (has_failed_get 999)
has_failed b (Get left) = has_failed_get left

has_byte : (b : ℕ) (bs : List ℕ) (value : ℕ) (x : Exchange)
    → HasList (joined (exchanging b x) (after_byte (transferring bs) value None))
has_byte b bs value x = has_joined (exchanging b x) (after_byte (transferring bs) value None) None (has_failed b x)
    (Write CS 0 ∷ [], (refl, refl))

-- so a transfer may fail
has_selected : (b : ℕ) (bs : List ℕ) → HasList (transfer (b ∷ bs) Select None)
has_selected b bs = has_event (Write CS 2) (transferring (b ∷ bs) 0 None) (has_byte b bs 0 (Put 999))

has_select : (purpose : Purpose) → HasList (transfer (bytes_for purpose) Select None)
has_select (Ask left) = has_selected 3 (0 ∷ 100 ∷ 0 ∷ 0 ∷ 0 ∷ 0 ∷ [])
has_select Begin = has_selected 2 (0 ∷ 116 ∷ 1 ∷ 0 ∷ 0 ∷ 0 ∷ [])
has_select Poll = has_selected 3 (0 ∷ 124 ∷ 0 ∷ 0 ∷ 0 ∷ 0 ∷ [])
has_select Length = has_selected 3 (0 ∷ 64 ∷ 0 ∷ 0 ∷ 0 ∷ 0 ∷ [])
has_select (Word left f) = has_selected 3 (0 ∷ 0 ∷ 0 ∷ 0 ∷ 0 ∷ 0 ∷ [])

has_transfer : (purpose : Purpose) (at : Transfer) → (o : Option ℕ) × HasList (transfer (bytes_for purpose) at o)
has_transfer purpose Select = (None, has_select purpose)
has_transfer purpose (Byte sent value x) = (
  None,
  has_byte (Rattle.std.proofs.Common.get_or (bytes_for purpose) sent 0) (Rattle.std.proofs.Common.drop
      (suc sent) (bytes_for purpose)) value x,
)
has_transfer purpose (Release outcome) = (outcome, (Write CS 0 ∷ [], (refl, refl)))

has_after_transfer : (purpose : Purpose) (K : Piece) → HasList (K None) → HasList (after_transfer purpose K)
has_after_transfer purpose K k = has_joined (transfer (bytes_for purpose) Select) K None (has_select purpose) k

has_asking : (left : ℕ) → HasList (asking left)
has_asking zero = ([], (asking_zero []).1 refl)
has_asking (suc n) =
    let s = has_after_transfer (Ask n) (asked (asking n)) has_nothing in
    (s.0, (asking_suc n s.0).1 s.1)

has_set : (on : Bool) → HasList (set_light (number on) ▸ polls)
has_set on =
    let write : Event = Write OUT (with_light (number on) 0) in (
      Read OUT 0 ∷ write ∷ [],
      (
        Read OUT 0 ∷ write ∷ [],
        [],
        refl,
        (0, (Read OUT 0 ∷ [], write ∷ [], refl, refl, refl)),
        (0, times_zero-from poll),
      ),
    )

has_ended : (fits light : Bool) → HasList (after_frame fits light)
has_ended true light = has_set light
has_ended false light = has_polls

has_reading : (left : ℕ) (f : Frame) → HasList (reading left f)
has_reading zero f =
    let s = has_ended f.fits f.light in
    (s.0, (reading_zero f s.0).1 s.1)
has_reading (suc n) f =
    let s = has_after_transfer (Word n f) (after_word (reading n) f) has_polls in
    (s.0, (reading_suc n f s.0).1 s.1)

has_after : (purpose : Purpose) (o : Option ℕ) → HasList (after purpose o)
has_after (Ask left) (Some v) = by (eqb_tells v chip_is_ready)
  where
    by : (((v == chip_is_ready) ≡ true) × (v ≡ chip_is_ready)) ⊎ (((v == chip_is_ready) ≡ false) × (v ≢ chip_is_ready))
        → HasList (asked (asking left) (Some v))
    by (inl (t, is)) = let s = has_after_transfer Begin begun has_nothing in (s.0, inl (is, s.1))
    by (inr (t, ne)) = let s = has_asking left in (s.0, inr (ne, s.1))
has_after (Ask left) None = has_nothing
has_after Begin (Some v) = has_polls
has_after Begin None = has_nothing
has_after Poll (Some v) = by (eqb_tells v 0)
  where
    by : (((v == 0) ≡ true) × (v ≡ 0)) ⊎ (((v == 0) ≡ false) × (v ≢ 0)) → HasList (polled (Some v))
    by (inl (t, is)) = let s = has_polls in (s.0, inl (is, s.1))
    by (inr (t, ne)) = let s = has_after_transfer Length measured has_polls in (s.0, inr (ne, s.1))
has_after Poll None = has_polls
has_after Length (Some l) = has_reading (words_for (frame_length l)) (begins (frame_length l))
has_after Length None = has_polls
has_after (Word left f) (Some w) = has_reading left (with_word w f)
has_after (Word left f) None = has_polls

pub ahead : (p : Place) → (p ≡ place.Outside) ⊎ HasList (MayFollow p)
ahead place.Start =
    let write : Event = Write EN (Rattle.std.proofs.Common.bit_or 0 (2 ^ 23)) in
    let s = has_event (Read EN 0) (event write ▸ asking 200) (has_event write (asking 200) (has_asking 200)) in
    inr (s.0, (0, s.1))
ahead (place.Pin v) = inr (has_event (Write EN v) (asking 200) (has_asking 200))
ahead (place.In purpose at) =
    let t = has_transfer purpose at in
    inr (has_joined (transfer (bytes_for purpose) at) (after purpose) t.0 t.1 (has_after purpose t.0))
ahead place.Between = inr has_polls
ahead (place.Light on) = inr (has_set on)
ahead (place.Set v) = inr (has_event (Write OUT v) polls has_polls)
ahead place.Over = inr has_nothing
ahead place.Outside = inl refl

-- what a place says of a list
abbrev pub StandsAt : Place → List Event → Type 0
StandsAt p events = (rest : List Event) → Good (events ++ rest) ↔ MayFollow p rest

pub stands_after : (old new : Place) (e : Event) (events : List Event)
    → ((rest : List Event) → MayFollow old (e ∷ rest) ↔ MayFollow new rest) →
    StandsAt old events → StandsAt new (events ++ e ∷ [])
stands_after old new e events step stands rest =
    let is : (events ++ e ∷ []) ++ rest ≡ events ++ e ∷ rest = append_assoc events (e ∷ []) rest in (
      λ g. (step rest).0 ((stands (e ∷ rest)).0 (subst Good is g)),
      λ m. subst Good (sym is) ((stands (e ∷ rest)).1 ((step rest).1 m)),
    )

not_true : (b : Bool) → (b ≡ true → ⊥) → IsTrue (not b)
not_true true h = absurd (h refl)
not_true false h = refl

true_not : (b : Bool) → b ≡ true → IsTrue (not b) → ⊥
true_not true h n = cc
true_not false h n = cc

-- a place is outside exactly where no member of Good begins with the list
pub begins_exactly : (p : Place) (events : List Event) (b : Bool) → IsTrue b ↔ (p ≡ place.Outside) → StandsAt p events
    → IsTrue (not b) ↔ BeginsGood events
begins_exactly p events b outside stands = (to (ahead p), from)
  where
    to : (p ≡ place.Outside) ⊎ HasList (MayFollow p) → IsTrue (not b) → BeginsGood events
    to (inl is) n = absurd (true_not b (outside.1 is) n)
    to (inr (rest, m)) n = (rest, (stands rest).1 m)

    from : BeginsGood events → IsTrue (not b)
    from (rest, g) = not_true b (λ t. subst (λ q. MayFollow q rest) (outside.0 t) ((stands rest).0 g))
