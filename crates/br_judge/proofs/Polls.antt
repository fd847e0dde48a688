-- A poll is a transfer that asks whether a frame waits, and what its outcome calls for.
use Rattle.std.proofs.Common.{◌≡◌, ◌≢◌, inl, inr, ℕ, zero, suc, Bool, true, false, List, [], ◌∷◌}
use Rattle.std.proofs.Common.{◌++◌, length, Some, None, refl, sym, ap, subst, ◌∙◌, append_assoc}
use Rattle.br_bytes.specs.declared.run.Event.{Event}
use Rattle.br_judge.specs.declared.place.Purpose.TheVariants.{Poll, Length}
use Rattle.br_judge.specs.Languages.{◌▸◌}
use Rattle.br_judge.specs.Good.{read_word, frame_words, words_for, frame_length, first_bytes, is_accepted}
use Rattle.br_judge.specs.Good.{light_of, set_light, failed_poll, frame, accepted_frame, refused_frame, poll}
use Rattle.br_judge.specs.Places.{reading, after_frame, after_transfer, begins, number, polls, measured, polled}
use Rattle.br_judge.proofs.Sets.{times_zero-to, times_suc-to, times_suc-from}
use Rattle.br_judge.proofs.Frames.{read-to, read-from, read_fails-to, read_fails-from, known_after}
use Rattle.br_judge.proofs.Frames.{words_of_frame, reading-to, reading-from, fits_is, light_is}

-- after the length of a frame: its words and what it calls for, or a failed poll
whole-to : (n : ℕ) (ws : List ℕ) (es : List Event) → length ws ≡ words_for n → (b : Bool)
    → is_accepted (first_bytes n ws) ≡ b →
    (frame_words ws ▸ after_frame b (known_after ws (begins n)).light) es → reading (words_for n) (begins n) es
whole-to n ws es h b is m =
    let fits : b ≡ (known_after ws (begins n)).fits = sym is ∙ sym (fits_is n ws h) in
    reading-from (words_for n) (begins n) es
    (inl (ws, (h, subst (λ q. (frame_words ws ▸ after_frame q (known_after ws (begins n)).light) es) fits m)))

refused-to : (es f g : List Event) (bytes : List ℕ) → es ≡ f ++ g → refused_frame bytes f → polls g
    → after_transfer Poll polled es
refused-to es f g bytes h (out, (f1, f2, h1, (w, (ne, rw1)), (l, (f3, f4, h2, rl, (ws, ((is, bs), fw)))))) k =
    let n : ℕ = frame_length l in
    let outside : is_accepted (first_bytes n ws) ≡ false = subst (λ q. is_accepted q ≡ false) bs out in
    let e1 : es ≡ f1 ++ (f2 ++ g) = h ∙ ap (λ q. q ++ g) h1 ∙ append_assoc f1 f2 g in
    let e2 : f2 ++ g ≡ f3 ++ (f4 ++ g) = ap (λ q. q ++ g) h2 ∙ append_assoc f3 f4 g in (
      Some w,
      (
        f1,
        f2 ++ g,
        e1,
        read-from 0x7C w f1 rw1,
        inr (
          ne,
          (
            Some l,
            (f3, f4 ++ g, e2, read-from 0x40 l f3 rl, whole-to n ws (f4 ++ g) is false outside (f4, g, refl, fw, k)),
          ),
        ),
      ),
    )

accepted-to : (es f g : List Event) (bytes : List ℕ) → es ≡ f ++ g
    → (accepted_frame bytes ▸ set_light (light_of bytes)) f → polls g → after_transfer Poll polled es
accepted-to es f g bytes h
    (fa, fb, hab, (yes', (f1, f2, h1, (w, (ne, rw1)), (l, (f3, f4, h2, rl, (ws, ((is, bs), fw)))))), light) k =
    let n : ℕ = frame_length l in
    let good : is_accepted (first_bytes n ws) ≡ true = subst (λ q. is_accepted q ≡ true) bs yes' in
    let lit : light_of bytes ≡ number (known_after ws (begins n)).light = ap light_of bs
    ∙ sym (light_is n ws is good) in
    let set : set_light (number (known_after ws (begins n)).light) fb = subst (λ q. set_light q fb) lit light in
    let t : List Event = fb ++ g in
    let e0 : es ≡ fa ++ t = h ∙ ap (λ q. q ++ g) hab ∙ append_assoc fa fb g in
    let e1 : es ≡ f1 ++ (f2 ++ t) = e0 ∙ ap (λ q. q ++ t) h1 ∙ append_assoc f1 f2 t in
    let e2 : f2 ++ t ≡ f3 ++ (f4 ++ t) = ap (λ q. q ++ t) h2 ∙ append_assoc f3 f4 t in (
      Some w,
      (
        f1,
        f2 ++ t,
        e1,
        read-from 0x7C w f1 rw1,
        inr (
          ne,
          (
            Some l,
            (
              f3,
              f4 ++ t,
              e2,
              read-from 0x40 l f3 rl,
              whole-to n ws (f4 ++ t) is true good (f4, t, refl, fw, (fb, g, refl, set, k)),
            ),
          ),
        ),
      ),
    )

failed-to : (es f g : List Event) → es ≡ f ++ g → failed_poll f → polls g → after_transfer Poll polled es
failed-to es f g h (inl r) k = (None, (f, g, h, read_fails-from 0x7C f r, k))
failed-to es f g h (inr (inl (f1, f2, h1, (w, (ne, rw1)), r))) k =
    let e1 : es ≡ f1 ++ (f2 ++ g) = h ∙ ap (λ q. q ++ g) h1 ∙ append_assoc f1 f2 g in
    (Some w, (f1, f2 ++ g, e1, read-from 0x7C w f1 rw1, inr (ne, (None, (f2, g, refl, read_fails-from 0x40 f2 r, k)))))
failed-to es f g h (inr (inr (f1, f2, h1, (w, (ne, rw1)), (l, (f3, f4, h2, rl, (ws, (lt, (f5, f6, h3, fw, r)))))))) k =
    let n : ℕ = frame_length l in
    let e1 : es ≡ f1 ++ (f2 ++ g) = h ∙ ap (λ q. q ++ g) h1 ∙ append_assoc f1 f2 g in
    let e2 : f2 ++ g ≡ f3 ++ (f4 ++ g) = ap (λ q. q ++ g) h2 ∙ append_assoc f3 f4 g in
    let e3 : f4 ++ g ≡ f5 ++ (f6 ++ g) = ap (λ q. q ++ g) h3 ∙ append_assoc f5 f6 g in (
      Some w,
      (
        f1,
        f2 ++ g,
        e1,
        read-from 0x7C w f1 rw1,
        inr (
          ne,
          (
            Some l,
            (
              f3,
              f4 ++ g,
              e2,
              read-from 0x40 l f3 rl,
              reading-from (words_for n) (begins n) (f4 ++ g)
                  (inr (ws, (lt, (f5, f6 ++ g, e3, fw, (f6, g, refl, r, k))))),
            ),
          ),
        ),
      ),
    )

poll-to : (es f g : List Event) → es ≡ f ++ g → poll f → polls g → after_transfer Poll polled es
poll-to es f g h (inl r) k = (Some 0, (f, g, h, read-from 0x7C 0 f r, inl (refl, k)))
poll-to es f g h (inr (inl m)) k = failed-to es f g h m k
poll-to es f g h (inr (inr (inl (bytes, m)))) k = refused-to es f g bytes h m k
poll-to es f g h (inr (inr (inr (bytes, m)))) k = accepted-to es f g bytes h m k

-- polls that begin with an event
pub polls_first-to : (e : Event) (rest : List Event) → polls (e ∷ rest) → after_transfer Poll polled (e ∷ rest)
polls_first-to e rest (zero, t) = let none : e ∷ rest ≡ [] = times_zero-to poll (e ∷ rest) t in cc
polls_first-to e rest (suc n, t) =
    let s = times_suc-to n poll (e ∷ rest) t in
    poll-to (e ∷ rest) s.0 s.1 s.2 s.3 (n, s.4)

more_polls : (es f g : List Event) → es ≡ f ++ g → poll f → polls g → polls es
more_polls es f g h p (n, t) = (suc n, times_suc-from n poll es (f, g, h, p, t))

-- a poll that found a frame, as far as the frame goes
found : (w l : ℕ) (ws : List ℕ) (es p q x y z t : List Event) → w ≢ 0 → es ≡ p ++ q → read_word 0x7C w p → q ≡ x ++ y
    → read_word 0x40 l x →
    y ≡ z ++ t → length ws ≡ words_for (frame_length l) → frame_words ws z →
    (f : List Event) × (es ≡ f ++ t) × frame (first_bytes (frame_length l) ws) f
found w l ws es p q x y z t ne h r h' r' h'' is fw =
    let e : es ≡ (p ++ (x ++ z)) ++ t =
    h ∙ ap (λ u. p ++ u) (h' ∙ ap (λ u. x ++ u) h'' ∙ sym (append_assoc x z t)) ∙ sym (append_assoc p (x ++ z) t) in
    (p ++ (x ++ z), e, (p, x ++ z, refl, (w, (ne, r)), (l, (x, z, refl, r', (ws, ((is, refl), fw))))))

whole-from : (w l : ℕ) (ws : List ℕ) (es p q x y z t : List Event) → w ≢ 0 → es ≡ p ++ q → read_word 0x7C w p
    → q ≡ x ++ y → read_word 0x40 l x →
    y ≡ z ++ t → length ws ≡ words_for (frame_length l) → frame_words ws z →
    (b : Bool) → is_accepted (first_bytes (frame_length l) ws) ≡ b →
    after_frame b (known_after ws (begins (frame_length l))).light t → polls es
whole-from w l ws es p q x y z t ne h r h' r' h'' is fw false out k =
    let s = found w l ws es p q x y z t ne h r h' r' h'' is fw in
    more_polls es s.0 t s.1 (inr (inr (inl (first_bytes (frame_length l) ws, (out, s.2))))) k
whole-from w l ws es p q x y z t ne h r h' r' h'' is fw true good (a, g, e, light, k) =
    let s = found w l ws es p q x y z t ne h r h' r' h'' is fw in
    let bytes : List ℕ = first_bytes (frame_length l) ws in
    let set : set_light (light_of bytes) a = subst (λ q. set_light q a) (light_is (frame_length l) ws is good) light in
    let e' : es ≡ (s.0 ++ a) ++ g = s.1 ∙ ap (λ u. s.0 ++ u) e ∙ sym (append_assoc s.0 a g) in
    more_polls es (s.0 ++ a) g e' (inr (inr (inr (bytes, (s.0, a, refl, (good, s.2), set))))) k

words-from : (w l : ℕ) (es p q x y : List Event) → w ≢ 0 → es ≡ p ++ q → read_word 0x7C w p → q ≡ x ++ y
    → read_word 0x40 l x →
    words_of_frame (words_for (frame_length l)) (begins (frame_length l)) y → polls es
words-from w l es p q x y ne h r h' r' (inl (ws, (is, (z, t, h'', fw, k)))) =
    whole-from w l ws es p q x y z t ne h r h' r' h'' is fw (is_accepted (first_bytes (frame_length l) ws)) refl
    (subst (λ b. after_frame b (known_after ws (begins (frame_length l))).light t) (fits_is (frame_length l) ws is) k)
words-from w l es p q x y ne h r h' r' (inr (ws, (lt, (z, t, h'', fw, (a, g, h3, fail, k))))) =
    let e : es ≡ (p ++ (x ++ (z ++ a))) ++ g =
    h ∙ ap (λ u. p ++ u) (h' ∙ ap (λ u. x ++ u) (h'' ∙ ap (λ u. z ++ u) h3 ∙ sym (append_assoc z a g))
    ∙ sym (append_assoc x (z ++ a) g))
    ∙ sym (append_assoc p (x ++ (z ++ a)) g) in
    more_polls es (p ++ (x ++ (z ++ a))) g e
    (inr (inl (inr
    (inr (p, x ++ (z ++ a), refl, (w, (ne, r)), (l, (x, z ++ a, refl, r', (ws, (lt, (z, a, refl, fw, fail))))))))))
    k

length-from : (w : ℕ) (es p q : List Event) → w ≢ 0 → es ≡ p ++ q → read_word 0x7C w p
    → after_transfer Length measured q → polls es
length-from w es p q ne h r (Some l, (x, y, h', a, k)) =
    words-from w l es p q x y ne h r h' (read-to 0x40 l x a)
    (reading-to (words_for (frame_length l)) (begins (frame_length l)) y k)
length-from w es p q ne h r (None, (x, y, h', a, k)) =
    let e : es ≡ (p ++ x) ++ y = h ∙ ap (λ u. p ++ u) h' ∙ sym (append_assoc p x y) in
    more_polls es (p ++ x) y e (inr (inl (inr (inl (p, x, refl, (w, (ne, r)), read_fails-to 0x40 x a))))) k

pub polls_first-from : (es : List Event) → after_transfer Poll polled es → polls es
polls_first-from es (Some w, (p, q, h, a, inl (is, k))) =
    more_polls es p q h (inl (subst (λ v. read_word 0x7C v p) is (read-to 0x7C w p a))) k
polls_first-from es (Some w, (p, q, h, a, inr (ne, k))) = length-from w es p q ne h (read-to 0x7C w p a) k
polls_first-from es (None, (p, q, h, a, k)) = more_polls es p q h (inr (inl (inl (read_fails-to 0x7C p a)))) k
