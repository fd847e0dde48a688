-- The events that lead from place to place.
use Rattle.std.proofs.Common.{◌≡◌, ◌≢◌, inl, inr, ◌↔◌, ℕ, suc, ◌%◌, ◌^◌, ◌<◌, true, false, List}
use Rattle.std.proofs.Common.{◌∷◌, length, get_or, Some, None, refl, sym, ap, subst, arith, bit_or}
use Rattle.br_bytes.specs.declared.run.Event.{Event}
use Rattle.br_bytes.specs.declared.run.Event.TheVariants.{Read, Write}
use Rattle.br_judge.specs.declared.place.Moved.TheVariants.{On, Over as Gave}
use Rattle.br_judge.specs.declared.place.Exchange.{Exchange}
use Rattle.br_judge.specs.declared.place.Exchange.TheVariants.{Put, Send, Get}
use Rattle.br_judge.specs.declared.place.Transfer.TheVariants.{Select, Byte, Release}
use Rattle.br_judge.specs.declared.place.Purpose.{Purpose}
use Rattle.br_judge.specs.declared.place.Purpose.TheVariants.{Ask, Begin, Poll, Length, Word}
use Rattle.br_judge.specs.declared.place.Place.TheVariants as place
use Rattle.br_judge.specs.Languages.{Language, ◌▸◌, nothing, event, either, given}
use Rattle.br_judge.specs.Good.{TX, RX, CS, EN, OUT, chip_is_ready, words_for, frame_length, with_light}
use Rattle.br_judge.specs.Places.{with_byte, bytes_for, asking, begun, reading, begins}
use Rattle.br_judge.specs.Places.{with_word, number, polls, after_transfer, measured, MayFollow}
use Rattle.br_judge.specs.Steps.{Leads, Ends, TransfersLead, OutcomesLead, OthersLead}
use Rattle.br_judge.proofs.Sets.{iff_trans, event-to, event-from, steps_event}
use Rattle.br_judge.proofs.Waits.{waiting_last, waiting_more, waiting_ready}
use Rattle.br_judge.proofs.Exchanges.{put_steps, get_steps, send_steps}
use Rattle.br_judge.proofs.Transfers.{Exchanges, byte_steps, transferring_more}
use Rattle.br_judge.proofs.Transfers.{transferring_none, select_steps, release_steps}
use Rattle.br_judge.proofs.Turns.{asking_zero, asking_suc, asked_again, reading_suc}
use Rattle.br_judge.proofs.Turns.{reading_ends, transfer_steps, pin_steps, look_steps}
use Rattle.br_judge.proofs.Polls.{polls_first-to, polls_first-from}

seven : (u : Purpose) → length (bytes_for u) ≡ 7
seven (Ask left) = refl
seven Begin = refl
seven Poll = refl
seven Length = refl
seven (Word left f) = refl

-- an event in an exchange that leads on to a further place of it
in_exchange : (u : Purpose) (i v : ℕ) (x y : Exchange) (e : Event) → Exchanges (get_or (bytes_for u) i 0) x e (On y) →
    Leads (place.In u (Byte i v x)) e (place.In u (Byte i v y))
in_exchange u i v x y e steps =
    transfer_steps u (Byte i v x) e (On (Byte i v y)) (λ o. byte_steps (bytes_for u) i v x e (On y) steps o)

-- one with which it fails
exchange_fails : (u : Purpose) (i v : ℕ) (x : Exchange) (e : Event)
    → Exchanges (get_or (bytes_for u) i 0) x e (Gave None) →
    Leads (place.In u (Byte i v x)) e (place.In u (Release None))
exchange_fails u i v x e steps =
    transfer_steps u (Byte i v x) e (On (Release None)) (λ o. byte_steps (bytes_for u) i v x e (Gave None) steps o)

-- one with which a byte is received, and another is to be sent
exchange_next : (u : Purpose) (i v r : ℕ) (x : Exchange) (e : Event) → i < 6
    → Exchanges (get_or (bytes_for u) i 0) x e (Gave (Some r)) →
    Leads (place.In u (Byte i v x)) e (place.In u (Byte (suc i) (with_byte v r) (Put 999)))
exchange_next u i v r x e within steps =
    let all = seven u in
    transfer_steps u (Byte i v x) e (On (Byte (suc i) (with_byte v r) (Put 999)))
    (λ o rest. iff_trans (byte_steps (bytes_for u) i v x e (Gave (Some r)) steps o rest)
    (transferring_more (bytes_for u) (suc i) (with_byte v r) (omega arith) o rest))

-- one with which the last byte is received
exchange_last : (u : Purpose) (v r : ℕ) (x : Exchange) (e : Event)
    → Exchanges (get_or (bytes_for u) 6 0) x e (Gave (Some r)) →
    Leads (place.In u (Byte 6 v x)) e (place.In u (Release (Some (with_byte v r))))
exchange_last u v r x e steps =
    let all = seven u in
    transfer_steps u (Byte 6 v x) e (On (Release (Some (with_byte v r))))
    (λ o rest. iff_trans (byte_steps (bytes_for u) 6 v x e (Gave (Some r)) steps o rest)
    (transferring_none (bytes_for u) 7 (with_byte v r) (omega arith) o rest))

pub transfers : TransfersLead
transfers = record {
  select = λ u. let all = seven u in transfer_steps u Select (Write CS 2) (On (Byte 0 0 (Put 999)))
      (λ o. select_steps (bytes_for u) (Write CS 2) (omega arith) refl o);
  put_busy = λ u i v left w high. in_exchange u i v (Put (suc left)) (Put left) (Read TX w) (put_steps
      (get_or (bytes_for u) i 0) (suc left) (Read TX w) (On left) (waiting_more TX (suc left) left w refl high));
  put_fails = λ u i v w high. exchange_fails u i v (Put 0) (Read TX w)
      (put_steps (get_or (bytes_for u) i 0) 0 (Read TX w) (Gave None) (waiting_last TX w high));
  put_ready = λ u i v left w low. in_exchange u i v (Put left) Send (Read TX w)
      (put_steps (get_or (bytes_for u) i 0) left (Read TX w) (Gave (Some w)) (waiting_ready TX left w low));
  send = λ u i v. in_exchange u i v Send (Get 999) (Write TX (get_or (bytes_for u) i 0))
      (send_steps (get_or (bytes_for u) i 0) (Write TX (get_or (bytes_for u) i 0)) refl);
  get_busy = λ u i v left w high. in_exchange u i v (Get (suc left)) (Get left) (Read RX w) (get_steps
      (get_or (bytes_for u) i 0) (suc left) (Read RX w) (On left) (waiting_more RX (suc left) left w refl high));
  get_fails = λ u i v w high. exchange_fails u i v (Get 0) (Read RX w)
      (get_steps (get_or (bytes_for u) i 0) 0 (Read RX w) (Gave None) (waiting_last RX w high));
  get_next = λ u i v left w within low. exchange_next u i v (w % 256) (Get left) (Read RX w) within
      (get_steps (get_or (bytes_for u) i 0) left (Read RX w) (Gave (Some w)) (waiting_ready RX left w low));
  get_last = λ u v left w low. exchange_last u v (w % 256) (Get left) (Read RX w)
      (get_steps (get_or (bytes_for u) 6 0) left (Read RX w) (Gave (Some w)) (waiting_ready RX left w low));
  release = λ u o p ends rest. iff_trans (transfer_steps u (Release o) (Write CS 0) (Gave o)
      (release_steps (bytes_for u) o (Write CS 0) refl) rest) (ends rest);
}

same : (L : Language) (es : List Event) → L es ↔ L es
same L es = (λ m. m, λ m. m)

first_of : (v k : ℕ) (A B : Language) (es : List Event) → v ≡ k → either (given (v ≡ k) A) (given (v ≢ k) B) es ↔ A es
first_of v k A B es is = (to, λ m. inl (is, m))
  where
    to : either (given (v ≡ k) A) (given (v ≢ k) B) es → A es
    to (inl (h, m)) = m
    to (inr (ne, m)) = absurd (ne is)

second_of : (v k : ℕ) (A B : Language) (es : List Event) → v ≢ k → either (given (v ≡ k) A) (given (v ≢ k) B) es ↔ B es
second_of v k A B es other = (to, λ m. inr (other, m))
  where
    to : either (given (v ≡ k) A) (given (v ≢ k) B) es → B es
    to (inl (is, m)) = absurd (other is)
    to (inr (ne, m)) = m

no_words : (l : ℕ) → words_for (frame_length l) ≡ 0 → Ends Length (Some l) place.Between
no_words l none rest =
    let n : ℕ = frame_length l in
    let zero : n ≡ 0 = omega arith in
    let short : begins n ≡ begins 0 = ap begins zero in
    subst (λ k. reading k (begins n) rest ↔ polls rest) (sym none)
    (reading_ends (begins n) false (ap (λ f. f.fits) short) rest)

pub outcomes : OutcomesLead
outcomes = record {
  ask_again = λ left v ne rest. iff_trans (asked_again v (asking (suc left)) ne rest) (asking_suc left rest);
  ask_over = λ v ne rest. iff_trans (asked_again v (asking 0) ne rest) (asking_zero rest);
  ask_ready = λ left rest. first_of chip_is_ready chip_is_ready (after_transfer Begin begun) (asking left) rest refl;
  ask_fails = λ left rest. same nothing rest;
  begun = λ v rest. same polls rest;
  begin_fails = λ rest. same nothing rest;
  no_frame = λ rest. first_of 0 0 polls (after_transfer Length measured) rest refl;
  frame = λ v ne rest. second_of v 0 polls (after_transfer Length measured) rest ne;
  poll_fails = λ rest. same polls rest;
  no_words = no_words;
  words = λ l left is rest. subst (λ k. reading k (begins (frame_length l)) rest ↔ MayFollow (place.In
      (Word left (begins (frame_length l))) Select) rest) (sym is) (reading_suc left (begins (frame_length l)) rest);
  length_fails = λ rest. same polls rest;
  word = λ left w f rest. reading_suc left (with_word w f) rest;
  refused = λ w f out rest. reading_ends (with_word w f) false out rest;
  accepted = λ w f fits rest. reading_ends (with_word w f) true fits rest;
  word_fails = λ left f rest. same polls rest;
}

start : (v : ℕ) → Leads place.Start (Read EN v) (place.Pin (bit_or v (2 ^ 23)))
start v rest = (to, λ m. (v, event-from (Read EN v) (event (Write EN (bit_or v (2 ^ 23))) ▸ asking 200) rest m))
  where
    to : MayFollow place.Start (Read EN v ∷ rest) → MayFollow (place.Pin (bit_or v (2 ^ 23))) rest
    to (u, m) =
        let s = event-to (Read EN u) (event (Write EN (bit_or u (2 ^ 23))) ▸ asking 200) (Read EN v) rest m in
        let is : u ≡ v = cc in
        subst (λ q. (event (Write EN (bit_or q (2 ^ 23))) ▸ asking 200) rest) is s.1

pub others : OthersLead
others = record {
  start = start;
  pin = λ v. pin_steps v (Write EN v) refl;
  between = λ e p leads rest. iff_trans (polls_first-to e rest, polls_first-from (e ∷ rest)) (leads rest);
  look = λ on v. look_steps on v (with_light (number on) v) refl;
  set = λ v. steps_event (Write OUT v) polls;
}
