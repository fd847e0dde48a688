-- How events lead from place to place, and what a place says of the events before it.
use Rattle.std.specs.Prelude.{◌≡◌, ◌≢◌, ℕ, suc, ◌^◌, ◌<◌, ◌%◌, Bool, true, false, List}
use Rattle.std.specs.Prelude.{[], ◌∷◌, ◌++◌, slice_index, Option, Some, None, bit_or, ◌↔◌}
use Rattle.br_bytes.specs.declared.run.Event.{Event}
use Rattle.br_bytes.specs.declared.run.Event.TheVariants.{Read, Write}
use Rattle.br_judge.specs.declared.place.Exchange.TheVariants.{Put, Send, Get}
use Rattle.br_judge.specs.declared.place.Transfer.TheVariants.{Select, Byte, Release}
use Rattle.br_judge.specs.declared.place.Purpose.{Purpose}
use Rattle.br_judge.specs.declared.place.Purpose.TheVariants.{Ask, Begin, Poll, Length, Word}
use Rattle.br_judge.specs.declared.place.Frame.{Frame}
use Rattle.br_judge.specs.declared.place.Place.{Place}
use Rattle.br_judge.specs.declared.place.Place.TheVariants.{Start, Pin, In, Between}
use Rattle.br_judge.specs.declared.place.Place.TheVariants.{Light, Set, Over, Outside}
use Rattle.br_judge.specs.Good.{TX, RX, CS, EN, OUT, IsHigh, IsLow, chip_is_ready}
use Rattle.br_judge.specs.Good.{words_for, frame_length, with_light, Good, BeginsGood}
use Rattle.br_judge.specs.Places.{bytes_for, with_byte, begins, with_word, number, after, MayFollow}

-- an event leads from a place to another: what may follow it at the first may follow at the second
abbrev pub Leads : Place → Event → Place → Type 0
Leads old e new = (rest : List Event) → MayFollow old (e ∷ rest) ↔ MayFollow new rest

-- after a transfer for this purpose with this outcome one is at a place
abbrev pub Ends : Purpose → Option ℕ → Place → Type 0
Ends purpose outcome new = (rest : List Event) → after purpose outcome rest ↔ MayFollow new rest

-- what may follow a list of events in Good is what may follow at a place
abbrev pub At : Place → List Event → Type 0
At p es = (rest : List Event) → Good (es ++ rest) ↔ MayFollow p rest

-- the events of a transfer
pub record TransfersLead : Type 0 where
  pub select : (u : Purpose) → Leads (In u Select) (Write CS 2) (In u (Byte 0 0 (Put 999)))
  pub put_busy : (u : Purpose) (i v left w : ℕ) → IsHigh w
      → Leads (In u (Byte i v (Put (suc left)))) (Read TX w) (In u (Byte i v (Put left)))
  pub put_fails : (u : Purpose) (i v w : ℕ) → IsHigh w
      → Leads (In u (Byte i v (Put 0))) (Read TX w) (In u (Release None))
  pub put_ready : (u : Purpose) (i v left w : ℕ) → IsLow w
      → Leads (In u (Byte i v (Put left))) (Read TX w) (In u (Byte i v Send))
  pub send : (u : Purpose) (i v : ℕ) → Leads (In u (Byte i v Send)) (Write TX
      (slice_index (bytes_for u) i)) (In u (Byte i v (Get 999)))
  pub get_busy : (u : Purpose) (i v left w : ℕ) → IsHigh w
      → Leads (In u (Byte i v (Get (suc left)))) (Read RX w) (In u (Byte i v (Get left)))
  pub get_fails : (u : Purpose) (i v w : ℕ) → IsHigh w
      → Leads (In u (Byte i v (Get 0))) (Read RX w) (In u (Release None))
  pub get_next : (u : Purpose) (i v left w : ℕ) → i < 6 → IsLow w →
      Leads (In u (Byte i v (Get left))) (Read RX w)
      (In u (Byte (suc i) (with_byte v (w % 256)) (Put 999)))
  pub get_last : (u : Purpose) (v left w : ℕ) → IsLow w →
      Leads (In u (Byte 6 v (Get left))) (Read RX w) (In u (Release (Some (with_byte v (w % 256)))))
  pub release : (u : Purpose) (o : Option ℕ) (p : Place) → Ends u o p
      → Leads (In u (Release o)) (Write CS 0) p

-- the outcomes of transfers
pub record OutcomesLead : Type 0 where
  pub ask_again : (left v : ℕ) → v ≢ chip_is_ready
      → Ends (Ask (suc left)) (Some v) (In (Ask left) Select)
  pub ask_over : (v : ℕ) → v ≢ chip_is_ready → Ends (Ask 0) (Some v) Over
  pub ask_ready : (left : ℕ) → Ends (Ask left) (Some chip_is_ready) (In Begin Select)
  pub ask_fails : (left : ℕ) → Ends (Ask left) None Over
  pub begun : (v : ℕ) → Ends Begin (Some v) Between
  pub begin_fails : Ends Begin None Over
  pub no_frame : Ends Poll (Some 0) Between
  pub frame : (v : ℕ) → v ≢ 0 → Ends Poll (Some v) (In Length Select)
  pub poll_fails : Ends Poll None Between
  pub no_words : (l : ℕ) → words_for (frame_length l) ≡ 0 → Ends Length (Some l) Between
  pub words : (l left : ℕ) → words_for (frame_length l) ≡ suc left
      → Ends Length (Some l) (In (Word left (begins (frame_length l))) Select)
  pub length_fails : Ends Length None Between
  pub word : (left w : ℕ) (f : Frame)
      → Ends (Word (suc left) f) (Some w) (In (Word left (with_word w f)) Select)
  pub refused : (w : ℕ) (f : Frame) → (with_word w f).fits ≡ false
      → Ends (Word 0 f) (Some w) Between
  pub accepted : (w : ℕ) (f : Frame) → (with_word w f).fits ≡ true
      → Ends (Word 0 f) (Some w) (Light (with_word w f).light)
  pub word_fails : (left : ℕ) (f : Frame) → Ends (Word left f) None Between

-- the other events
pub record OthersLead : Type 0 where
  pub start : (v : ℕ) → Leads Start (Read EN v) (Pin (bit_or v (2 ^ 23)))
  pub pin : (v : ℕ) → Leads (Pin v) (Write EN v) (In (Ask 199) Select)
  pub between : (e : Event) (p : Place) → Leads (In Poll Select) e p → Leads Between e p
  pub look : (on : Bool) (v : ℕ) → Leads (Light on) (Read OUT v) (Set (with_light (number on) v))
  pub set : (v : ℕ) → Leads (Set v) (Write OUT v) Between

-- what a place says of the events before it
pub record PlacesStand : Type 0 where
  pub first : At Start []
  pub next : (old new : Place) (e : Event) (es : List Event) → Leads old e new → At old es
      → At new (es ++ e ∷ [])
  pub ahead : (p : Place) (es : List Event) → p ≢ Outside → At p es → BeginsGood es
