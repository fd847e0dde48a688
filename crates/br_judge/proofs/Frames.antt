-- The words of a frame, and what the judge remembers of them.
use Rattle.std.proofs.Common.{◌≡◌, ◌≢◌, ◌⊎◌, inl, inr, ℕ, zero, suc, ◌+◌, ◌/◌, ◌%◌, ◌^◌, ◌<◌, ◌≤◌, Bool}
use Rattle.std.proofs.Common.{true, false, ◌&&◌, ◌==◌, if◌then◌else◌, nat_le, nat_lt, List, [], ◌∷◌, ◌++◌}
use Rattle.std.proofs.Common.{length, get_or, Some, None, refl, sym, ap, subst, ◌∙◌, arith, append_assoc}
use Rattle.std.proofs.lemmas.Bool.{and_parts, leb-true}
use Rattle.std.proofs.lemmas.Bool.Decides.{same_from_decides, Decides-like, Decides-and, Decides-eqb, eqb_tells}
use Rattle.std.proofs.lemmas.List.{get_or-take, length-take-le}
use Rattle.br_bytes.specs.declared.run.Event.{Event}
use Rattle.br_bytes.specs.Number.{word_bytes}
use Rattle.br_bytes.proofs.Words.{length-word_bytes}
use Rattle.br_judge.specs.declared.place.Frame.{Frame}
use Rattle.br_judge.specs.declared.place.Transfer.TheVariants.{Select}
use Rattle.br_judge.specs.declared.place.Purpose.TheVariants.{Word}
use Rattle.br_judge.specs.declared.place.Place.TheVariants as place
use Rattle.br_judge.specs.Languages.{Language, ◌▸◌, either, some, given}
use Rattle.br_judge.specs.Good.{read_bytes, write_bytes, read_word, failed_read, write_word}
use Rattle.br_judge.specs.Good.{failed_write, frame_words, words_for, first_bytes, is_accepted, light_of}
use Rattle.br_judge.specs.Places.{transfer, reading, after_frame, begins, with_word}
use Rattle.br_judge.specs.Places.{still_fits, light_after, number, polls, MayFollow}
use Rattle.br_judge.proofs.Sets.{nothing-to}
use Rattle.br_judge.proofs.Turns.{reading_zero, reading_suc}
use Rattle.br_judge.proofs.Words.{value_after, sent-to, sent-from, fails-to, fails-from, received_bytes, value_of_seven}

-- ---- one transfer

pub read-to : (a v : ℕ) (es : List Event) → transfer (read_bytes a) Select (Some v) es → read_word a v es
read-to a v es (f, g, h, sel, m) =
    let s = sent-to (read_bytes a) 0 v g m in
    let got = received_bytes (read_bytes a) s.3.0 s.0 s.3.1.1 in
    (f, g, h, sel, (s.0, s.1, s.2, (s.3.0, (s.3.1.0 ∙ value_of_seven s.3.0 got.0 got.1, s.3.1.1)), s.4))

pub read-from : (a v : ℕ) (es : List Event) → read_word a v es → transfer (read_bytes a) Select (Some v) es
read-from a v es (f, g, h, sel, (p, q, h', (rs, (is, x)), m)) =
    let got = received_bytes (read_bytes a) rs p x in
    (f, g, h, sel, sent-from (read_bytes a) 0 v g (p, q, h', (rs, (is ∙ sym (value_of_seven rs got.0 got.1), x)), m))

pub read_fails-to : (a : ℕ) (es : List Event) → transfer (read_bytes a) Select None es → failed_read a es
read_fails-to a es (f, g, h, sel, m) = (f, g, h, sel, fails-to (read_bytes a) 0 g m)

pub read_fails-from : (a : ℕ) (es : List Event) → failed_read a es → transfer (read_bytes a) Select None es
read_fails-from a es (f, g, h, sel, m) = (f, g, h, sel, fails-from (read_bytes a) 0 g m)

pub write-to : (a w v : ℕ) (es : List Event) → transfer (write_bytes a w) Select (Some v) es → write_word a w es
write-to a w v es (f, g, h, sel, m) =
    let s = sent-to (write_bytes a w) 0 v g m in
    (f, g, h, sel, (s.0, s.1, s.2, (s.3.0, s.3.1.1), s.4))

pub write-from : (a w : ℕ) (es : List Event) → write_word a w es
    → (v : ℕ) × transfer (write_bytes a w) Select (Some v) es
write-from a w es (f, g, h, sel, (p, q, h', (rs, x), m)) = (
  value_after 0 rs,
  (f, g, h, sel, sent-from (write_bytes a w) 0 (value_after 0 rs) g (p, q, h', (rs, (refl, x)), m)),
)

pub write_fails-to : (a w : ℕ) (es : List Event) → transfer (write_bytes a w) Select None es → failed_write a w es
write_fails-to a w es (f, g, h, sel, m) = (f, g, h, sel, fails-to (write_bytes a w) 0 g m)

pub write_fails-from : (a w : ℕ) (es : List Event) → failed_write a w es → transfer (write_bytes a w) Select None es
write_fails-from a w es (f, g, h, sel, m) = (f, g, h, sel, fails-from (write_bytes a w) 0 g m)

-- ---- the words of a frame

-- what is known after these words
abbrev pub known_after : List ℕ → Frame → Frame
known_after [] f = f
known_after (w ∷ ws) f = known_after ws (with_word w f)

-- all of so many words, and then what the frame calls for; or some of them, and then a failed read
abbrev pub words_of_frame : ℕ → Frame → Language
words_of_frame left f =
    either (some λ (ws : List ℕ).
    given (length ws ≡ left) (frame_words ws ▸ after_frame (known_after ws f).fits (known_after ws f).light))
    (some λ (ws : List ℕ). given (length ws < left) (frame_words ws ▸ failed_read 0 ▸ polls))

pub reading-to : (left : ℕ) (f : Frame) (es : List Event) → reading left f es → words_of_frame left f es
reading-to zero f es m = inl ([], (refl, ([], es, refl, refl, (reading_zero f es).0 m)))
reading-to (suc left) f es m = by (λ w q. reading-to left (with_word w f) q) ((reading_suc left f es).0 m)
  where
    more : (w : ℕ) (p q : List Event) → es ≡ p ++ q → read_word 0 w p → words_of_frame left (with_word w f) q
        → words_of_frame (suc left) f es
    more w p q h r (inl (ws, (is, (x, y, h', fw, k)))) =
        inl (
          w ∷ ws,
          (ap suc is, (p ++ x, y, h ∙ ap (λ z. p ++ z) h' ∙ sym (append_assoc p x y), (p, x, refl, r, fw), k)),
        )
    more w p q h r (inr (ws, (lt, (x, y, h', fw, k)))) =
        inr (
          w ∷ ws,
          (omega arith, (p ++ x, y, h ∙ ap (λ z. p ++ z) h' ∙ sym (append_assoc p x y), (p, x, refl, r, fw), k)),
        )

    by : ((w : ℕ) (q : List Event) → reading left (with_word w f) q → words_of_frame left (with_word w f) q) →
        MayFollow (place.In (Word left f) Select) es → words_of_frame (suc left) f es
    by rest (Some w, (p, q, h, a, k)) = more w p q h (read-to 0 w p a) (rest w q k)
    by rest (None, (p, q, h, a, k)) = inr ([], (omega arith, ([], es, refl, refl, (p, q, h, read_fails-to 0 p a, k))))

pub reading-from : (left : ℕ) (f : Frame) (es : List Event) → words_of_frame left f es → reading left f es
reading-from zero f es (inl ([], (is, (x, y, h, n, k)))) =
    (reading_zero f es).1 (nothing-to (after_frame f.fits f.light) es x y h n k)
reading-from zero f es (inl (w ∷ ws, (is, m))) = absurd (omega arith)
reading-from zero f es (inr (ws, (lt, m))) = absurd (omega arith)
reading-from (suc left) f es (inl ([], (is, m))) = absurd (omega arith)
reading-from (suc left) f es (inl (w ∷ ws, (is, (x, y, h, (p, q, h', r, fw), k)))) =
    let e : es ≡ p ++ (q ++ y) = h ∙ ap (λ z. z ++ y) h' ∙ append_assoc p q y in
    let fewer : length ws ≡ left = omega arith in
    (reading_suc left f es).1 (
      Some w,
      (
        p,
        q ++ y,
        e,
        read-from 0 w p r,
        reading-from left (with_word w f) (q ++ y) (inl (ws, (fewer, (q, y, refl, fw, k)))),
      ),
    )
reading-from (suc left) f es (inr ([], (lt, (x, y, h, n, k)))) =
    let s = nothing-to (failed_read 0 ▸ polls) es x y h n k in
    (reading_suc left f es).1 (None, (s.0, s.1, s.2, read_fails-from 0 s.0 s.3, s.4))
reading-from (suc left) f es (inr (w ∷ ws, (lt, (x, y, h, (p, q, h', r, fw), k)))) =
    let e : es ≡ p ++ (q ++ y) = h ∙ ap (λ z. z ++ y) h' ∙ append_assoc p q y in
    let fewer : length ws < left = omega arith in
    (reading_suc left f es).1 (
      Some w,
      (
        p,
        q ++ y,
        e,
        read-from 0 w p r,
        reading-from left (with_word w f) (q ++ y) (inr (ws, (fewer, (q, y, refl, fw, k)))),
      ),
    )

-- ---- what is known of a frame

-- after eleven words nothing more is learnt
late : (ws : List ℕ) (fits light : Bool) → known_after ws (record { index = 11; fits = fits; light = light })
    ≡ record { index = 11; fits = fits; light = light }
late [] fits light = refl
late (w ∷ ws) fits light = late ws fits light

both_false : (b c x y : Bool) → (if b then (false && x) else (if c then (false && y) else false)) ≡ false
both_false true c x y = refl
both_false false true x y = refl
both_false false false x y = refl

-- what was refused stays refused
refused : (ws : List ℕ) (i : ℕ) (light : Bool)
    → (known_after ws (record { index = i; fits = false; light = light })).fits ≡ false
refused [] i light = refl
refused (w ∷ ws) i light =
    let next : ℕ = if nat_lt i 11 then i + 1 else i in
    let lit : Bool = light_after i w light in
    let still : still_fits i w false ≡ false = both_false (i == 3) (i == 5) (w % 65536 == 8) (w / 2 ^ 24 % 256 == 17) in
    subst (λ b. (known_after ws (record { index = next; fits = b; light = lit })).fits ≡ false) (sym still)
    (refused ws next lit)

-- where eleven words came, the tests that were made are those of bytes 12, 13, 23 and 42
record Eleven (ws : List ℕ) (fits : Bool) : Type 0 where
  known : known_after ws (record { index = 0; fits = fits; light = false }) ≡
      record {
        index = 11;
        fits = (fits && (get_or ws 3 0 % 65536 == 8)) && (get_or ws 5 0 / 2 ^ 24 % 256 == 17);
        light = get_or ws 10 0 / 65536 % 2 == 1;
      }
  at_12 : get_or (word_bytes ws) 12 0 ≡ get_or ws 3 0 % 256
  at_13 : get_or (word_bytes ws) 13 0 ≡ get_or ws 3 0 / 256 % 256
  at_23 : get_or (word_bytes ws) 23 0 ≡ get_or ws 5 0 / 256 / 256 / 256 % 256
  at_42 : get_or (word_bytes ws) 42 0 ≡ get_or ws 10 0 / 256 / 256 % 256

eleven : (ws : List ℕ) (fits : Bool) → 11 ≤ length ws → Eleven ws fits
eleven (w0 ∷ w1 ∷ w2 ∷ w3 ∷ w4 ∷ w5 ∷ w6 ∷ w7 ∷ w8 ∷ w9 ∷ w10 ∷ ws) fits h = record {
  known = late ws ((fits && (w3 % 65536 == 8)) && (w5 / 2 ^ 24 % 256 == 17)) (w10 / 65536 % 2 == 1);
  at_12 = refl;
  at_13 = refl;
  at_23 = refl;
  at_42 = refl;
}
eleven ws fits h = absurd (omega arith)

type_and_zero : (w : ℕ) → (w % 65536 == 8) ≡ ((w % 256 == 8) && (w / 256 % 256 == 0))
type_and_zero w =
    same_from_decides (w % 65536 == 8) ((w % 256 == 8) && (w / 256 % 256 == 0))
    (Decides-like (w % 65536 == 8) (λ (h : w % 65536 ≡ 8). (of-word h, of-rest h)) (λ (a, b). of-bytes a b)
    (Decides-eqb (w % 65536) 8))
    (Decides-and (w % 256 == 8) (w / 256 % 256 == 0) (Decides-eqb (w % 256) 8) (Decides-eqb (w / 256 % 256) 0))
  where
    of-word : w % 65536 ≡ 8 → w % 256 ≡ 8
    of-word h = omega arith

    of-rest : w % 65536 ≡ 8 → w / 256 % 256 ≡ 0
    of-rest h = omega arith

    of-bytes : w % 256 ≡ 8 → w / 256 % 256 ≡ 0 → w % 65536 ≡ 8
    of-bytes a b = omega arith

top_byte : (w : ℕ) → w / 256 / 256 / 256 % 256 ≡ w / 2 ^ 24 % 256
top_byte w = omega arith

light_bit : (w : ℕ) → number (w / 65536 % 2 == 1) ≡ w / 256 / 256 % 256 % 2
light_bit w = by (eqb_tells (w / 65536 % 2) 1)
  where
    by : (((w / 65536 % 2 == 1) ≡ true) × (w / 65536 % 2 ≡ 1)) ⊎ (((w / 65536 % 2 == 1) ≡ false) × (w / 65536 % 2 ≢ 1))
        → number (w / 65536 % 2 == 1) ≡ w / 256 / 256 % 256 % 2
    by (inl (is, h)) = rw is (omega arith)
    by (inr (is, h)) = rw is (omega arith)

-- how many bytes a frame has
length_first : (n : ℕ) (ws : List ℕ) → length ws ≡ words_for n → length (first_bytes n ws) ≡ n
length_first n ws h =
    let all = length-word_bytes ws in
    length-take-le n (word_bytes ws) (omega arith)

abbrev in_range : ℕ → Bool
in_range n = nat_le 43 n && nat_le n 1520

in_range-true : (n : ℕ) → in_range n ≡ true → 43 ≤ n
in_range-true n h = leb-true 43 n (and_parts (nat_le 43 n) (nat_le n 1520) h).0

-- a byte of a frame that is long enough
byte_at : (n : ℕ) (ws : List ℕ) (i : ℕ) → i < n → get_or (first_bytes n ws) i 0 ≡ get_or (word_bytes ws) i 0
byte_at n ws i h = get_or-take n (word_bytes ws) i 0 h

and_assoc3 : (a b c d : Bool) → ((a && (b && c)) && d) ≡ (((a && b) && c) && d)
and_assoc3 true b c d = refl
and_assoc3 false b c d = refl

pub fits_is : (n : ℕ) (ws : List ℕ) → length ws ≡ words_for n
    → (known_after ws (begins n)).fits ≡ is_accepted (first_bytes n ws)
fits_is n ws h = by (in_range n) refl
  where
    long : length (first_bytes n ws) ≡ n
    long = length_first n ws h

    at : ℕ → ℕ
    at i = get_or (first_bytes n ws) i 0

    by : (b : Bool) → in_range n ≡ b → (known_after ws (begins n)).fits ≡ is_accepted (first_bytes n ws)
    by false out =
        let left : (known_after ws (begins n)).fits ≡ false =
        subst (λ b. (known_after ws (record { index = 0; fits = b; light = false })).fits ≡ false) (sym out)
        (refused ws 0 false) in
        let right : is_accepted (first_bytes n ws) ≡ false =
        rw (long, out) refl in
        left ∙ sym right
    by true within =
        let many : 43 ≤ n = in_range-true n within in
        let enough : 11 ≤ length ws = omega arith in
        let e = eleven ws (in_range n) enough in
        let left : (known_after ws (begins n)).fits
        ≡ (in_range n && (get_or ws 3 0 % 65536 == 8)) && (get_or ws 5 0 / 2 ^ 24 % 256 == 17) =
        ap (λ f. f.fits) e.known in
        let a12 : at 12 ≡ get_or ws 3 0 % 256 = byte_at n ws 12 (omega arith) ∙ e.at_12 in
        let a13 : at 13 ≡ get_or ws 3 0 / 256 % 256 = byte_at n ws 13 (omega arith) ∙ e.at_13 in
        let a23 : at 23 ≡ get_or ws 5 0 / 2 ^ 24 % 256 = byte_at n ws 23 (omega arith) ∙ e.at_23
        ∙ top_byte (get_or ws 5 0) in
        let right : is_accepted (first_bytes n ws) ≡
        (((in_range n && (get_or ws 3 0 % 256 == 8)) && (get_or ws 3 0 / 256 % 256 == 0))
        && (get_or ws 5 0 / 2 ^ 24 % 256 == 17)) =
        rw (long, a12, a13, a23) refl in
        left
        ∙ ap (λ b. (in_range n && b) && (get_or ws 5 0 / 2 ^ 24 % 256 == 17)) (type_and_zero (get_or ws 3 0))
        ∙ and_assoc3 (in_range n) (get_or ws 3 0 % 256 == 8) (get_or ws 3 0 / 256 % 256 == 0)
        (get_or ws 5 0 / 2 ^ 24 % 256 == 17)
        ∙ sym right

accepted_long : (bytes : List ℕ) → is_accepted bytes ≡ true → 43 ≤ length bytes
accepted_long bytes h =
    let low : Bool = nat_le 43 (length bytes) in
    let range : Bool = low && nat_le (length bytes) 1520 in
    let kind : Bool = range && (get_or bytes 12 0 == 8) in
    let both : Bool = kind && (get_or bytes 13 0 == 0) in
    let c = and_parts both (get_or bytes 23 0 == 17) h in
    let b = and_parts kind (get_or bytes 13 0 == 0) c.0 in
    let a = and_parts range (get_or bytes 12 0 == 8) b.0 in
    leb-true 43 (length bytes) (and_parts low (nat_le (length bytes) 1520) a.0).0

pub light_is : (n : ℕ) (ws : List ℕ) → length ws ≡ words_for n → is_accepted (first_bytes n ws) ≡ true
    → number (known_after ws (begins n)).light ≡ light_of (first_bytes n ws)
light_is n ws h accepted =
    let long : length (first_bytes n ws) ≡ n = length_first n ws h in
    let many : 43 ≤ n = subst (λ q. 43 ≤ q) long (accepted_long (first_bytes n ws) accepted) in
    let enough : 11 ≤ length ws = omega arith in
    let e = eleven ws (in_range n) enough in
    let left : (known_after ws (begins n)).light ≡ (get_or ws 10 0 / 65536 % 2 == 1) = ap (λ f. f.light) e.known in
    let right : get_or (first_bytes n ws) 42 0 ≡ get_or ws 10 0 / 256 / 256 % 256 =
    byte_at n ws 42 (omega arith) ∙ e.at_42 in
    ap number left ∙ light_bit (get_or ws 10 0) ∙ ap (λ q. q % 2) (sym right)
