-- The start: asking whether the chip is ready, and letting it receive.
use Rattle.std.proofs.Common.{◌≡◌, ◌≢◌, ◌⊎◌, inl, inr, ℕ, zero, suc, ◌^◌, List, [], ◌++◌, Some}
use Rattle.std.proofs.Common.{None, refl, sym, ap, subst, ◌∙◌, append_assoc, append-nil, bit_or}
use Rattle.br_bytes.specs.declared.run.Event.{Event}
use Rattle.br_bytes.specs.declared.run.Event.TheVariants.{Read, Write}
use Rattle.br_judge.specs.declared.place.Transfer.TheVariants.{Select}
use Rattle.br_judge.specs.declared.place.Purpose.TheVariants.{Ask, Begin}
use Rattle.br_judge.specs.declared.place.Place.TheVariants as place
use Rattle.br_judge.specs.Languages.{Language, ◌▸◌, event, either, times, up_to}
use Rattle.br_judge.specs.Good.{EN, pin, chip_is_ready, missed, read_word, failed_read, write_word, failed_write, Good}
use Rattle.br_judge.specs.Places.{asking, asked, begun, after_transfer, polls, MayFollow}
use Rattle.br_judge.proofs.Sets.{assoc-to, assoc-from, times_zero-to, times_zero-from, times_suc-to}
use Rattle.br_judge.proofs.Sets.{times_suc-from, up_to_none, up_to_more, up_to_zero-to, up_to_suc-to}
use Rattle.br_judge.proofs.Turns.{asking_zero, asking_suc}
use Rattle.br_judge.proofs.Words.{after_nothing}
use Rattle.br_judge.proofs.Frames.{read-to, read-from, read_fails-to, read_fails-from}
use Rattle.br_judge.proofs.Frames.{write-to, write-from, write_fails-to, write_fails-from}

-- after the chip is ready
abbrev beginning : Language
beginning = either (failed_write 0x74 1) (write_word 0x74 1 ▸ polls)

beginning-to : (es : List Event) → after_transfer Begin begun es → beginning es
beginning-to es (Some v, (p, q, h, a, k)) = inr (p, q, h, write-to 0x74 1 v p a, k)
beginning-to es (None, (p, q, h, a, n)) =
    inl (subst (failed_write 0x74 1) (sym (after_nothing es p q h n)) (write_fails-to 0x74 1 p a))

beginning-from : (es : List Event) → beginning es → after_transfer Begin begun es
beginning-from es (inl m) = (None, (es, [], sym (append-nil es), write_fails-from 0x74 1 es m, refl))
beginning-from es (inr (p, q, h, w, k)) = let s = write-from 0x74 1 p w in (Some s.0, (p, q, h, s.1, k))

-- the last answer of the chip, and what follows it
abbrev answered : Language
answered = either (failed_read 0x64) (read_word 0x64 chip_is_ready ▸ beginning)

-- the chip is asked n + 1 times at most
abbrev tries : ℕ → Language
tries n = either (times (suc n) missed) (up_to n missed ▸ answered)

-- after the chip's first answer
missed-to : (n : ℕ) (es p q : List Event) (v : ℕ) → es ≡ p ++ q → v ≢ chip_is_ready → read_word 0x64 v p → tries n q
    → tries (suc n) es
missed-to n es p q v h ne r (inl t) = inl (times_suc-from (suc n) missed es (p, q, h, (v, (ne, r)), t))
missed-to n es p q v h ne r (inr m) = inr (up_to_more n missed answered es (p, q, h, (v, (ne, r)), m))

first-to : (n : ℕ) (es p q : List Event) (v : ℕ) → es ≡ p ++ q → read_word 0x64 v p
    → ((ne : v ≢ chip_is_ready) → asking n q → tries n es) →
    asked (asking n) (Some v) q → tries n es
first-to n es p q v h r again (inl (is, m)) =
    inr (up_to_none n missed answered es (inr (p, q, h, subst (λ u. read_word 0x64 u p) is r, beginning-to q m)))
first-to n es p q v h r again (inr (ne, m)) = again ne m

asking-to : (n : ℕ) (es : List Event) → asking (suc n) es → tries n es
asking-to zero es m = by ((asking_suc 0 es).0 m)
  where
    by : MayFollow (place.In (Ask 0) Select) es → tries 0 es
    by (Some v, (p, q, h, a, k)) =
        first-to 0 es p q v h (read-to 0x64 v p a)
        (λ ne m. let none : q ≡ [] = (asking_zero q).0 m in
        inl (times_suc-from 0 missed es
        (p, q, h, (v, (ne, read-to 0x64 v p a)), subst (times 0 missed) (sym none) (times_zero-from missed)))) k
    by (None, (p, q, h, a, n)) = inr (up_to_none 0 missed answered es
        (inl (subst (failed_read 0x64) (sym (after_nothing es p q h n)) (read_fails-to 0x64 p a))))
asking-to (suc n) es m = by (asking-to n) ((asking_suc (suc n) es).0 m)
  where
    by : ((q : List Event) → asking (suc n) q → tries n q) → MayFollow (place.In (Ask (suc n)) Select) es
        → tries (suc n) es
    by rest (Some v, (p, q, h, a, k)) =
        first-to (suc n) es p q v h (read-to 0x64 v p a)
        (λ ne m. missed-to n es p q v h ne (read-to 0x64 v p a) (rest q m)) k
    by rest (None, (p, q, h, a, k)) =
        inr (up_to_none (suc n) missed answered es
        (inl (subst (failed_read 0x64) (sym (after_nothing es p q h k)) (read_fails-to 0x64 p a))))

answered-from : (n : ℕ) (es : List Event) → answered es → asking (suc n) es
answered-from n es (inl m) = (asking_suc n es).1 (None, (es, [], sym (append-nil es), read_fails-from 0x64 es m, refl))
answered-from n es (inr (p, q, h, r, k)) =
    (asking_suc n es).1
    (Some chip_is_ready, (p, q, h, read-from 0x64 chip_is_ready p r, inl (refl, beginning-from q k)))

again-from : (n : ℕ) (es p q : List Event) (v : ℕ) → es ≡ p ++ q → v ≢ chip_is_ready → read_word 0x64 v p → asking n q
    → asking (suc n) es
again-from n es p q v h ne r m = (asking_suc n es).1 (Some v, (p, q, h, read-from 0x64 v p r, inr (ne, m)))

asking-from : (n : ℕ) (es : List Event) → tries n es → asking (suc n) es
asking-from zero es (inl t) = by (times_suc-to 0 missed es t)
  where
    by : (missed ▸ times 0 missed) es → asking 1 es
    by (p, q, h, (v, (ne, r)), t) = again-from 0 es p q v h ne r ((asking_zero q).1 (times_zero-to missed q t))
asking-from zero es (inr m) = answered-from 0 es (up_to_zero-to missed answered es m)
asking-from (suc n) es (inl t) = by (asking-from n) (times_suc-to (suc n) missed es t)
  where
    by : ((q : List Event) → tries n q → asking (suc n) q) → (missed ▸ times (suc n) missed) es
        → asking (suc (suc n)) es
    by rest (p, q, h, (v, (ne, r)), t) = again-from (suc n) es p q v h ne r (rest q (inl t))
asking-from (suc n) es (inr m) = by (asking-from n) (up_to_suc-to n missed answered es m)
  where
    by : ((q : List Event) → tries n q → asking (suc n) q) → answered es ⊎ (missed ▸ up_to n missed ▸ answered) es
        → asking (suc (suc n)) es
    by rest (inl a) = answered-from (suc n) es a
    by rest (inr (p, q, h, (v, (ne, r)), k)) = again-from (suc n) es p q v h ne r (rest q (inr k))

-- ---- the whole

pinned-to : (es f g : List Event) → es ≡ f ++ g → pin f → asking 200 g → MayFollow place.Start es
pinned-to es f g h (v, m) k =
    (v, assoc-to (event (Read EN v)) (event (Write EN (bit_or v (2 ^ 23)))) (asking 200) es (f, g, h, m, k))

pinned-from : (es : List Event) → MayFollow place.Start es → (pin ▸ asking 200) es
pinned-from es (v, m) =
    let s = assoc-from (event (Read EN v)) (event (Write EN (bit_or v (2 ^ 23)))) (asking 200) es m in
    (s.0, s.1, s.2, (v, s.3), s.4)

pub good-to : (es : List Event) → Good es → MayFollow place.Start es
good-to es (inl (inl (f, g, h, p, t))) = pinned-to es f g h p (asking-from 199 g (inl t))
good-to es (inl (inr (inl (f, g, h, p, (x, y, h', u, r))))) =
    pinned-to es f g h p (asking-from 199 g (inr (x, y, h', u, inl r)))
good-to es (inl (inr (inr (f, g, h, p, (x, y, h', u, (a, b, h'', r, w)))))) =
    pinned-to es f g h p (asking-from 199 g (inr (x, y, h', u, inr (a, b, h'', r, inl w))))
good-to es (inr (f, g, h, (p, q, h', pin, (x, y, h'', u, (a, b, h3, r, w))), k)) =
    let e : es ≡ p ++ (x ++ (a ++ (b ++ g))) =
    h ∙ ap (λ z. z ++ g) (h' ∙ ap (λ z. p ++ z) (h'' ∙ ap (λ z. x ++ z) h3))
    ∙ append_assoc p (x ++ (a ++ b)) g
    ∙ ap (λ z. p ++ z) (append_assoc x (a ++ b) g ∙ ap (λ z. x ++ z) (append_assoc a b g)) in
    pinned-to es p (x ++ (a ++ (b ++ g))) e pin
    (asking-from 199 (x ++ (a ++ (b ++ g)))
    (inr (x, a ++ (b ++ g), refl, u, inr (a, b ++ g, refl, r, inr (b, g, refl, w, k)))))

good-tries : (es f g : List Event) → es ≡ f ++ g → pin f → tries 199 g → Good es
good-tries es f g h p (inl t) = inl (inl (f, g, h, p, t))
good-tries es f g h p (inr (x, y, h', u, inl r)) = inl (inr (inl (f, g, h, p, (x, y, h', u, r))))
good-tries es f g h p (inr (x, y, h', u, inr (a, b, h'', r, inl w))) =
    inl (inr (inr (f, g, h, p, (x, y, h', u, (a, b, h'', r, w)))))
good-tries es f g h p (inr (x, y, h', u, inr (a, b, h'', r, inr (c, d, h3, w, k)))) =
    let e : es ≡ (f ++ (x ++ (a ++ c))) ++ d =
    h ∙ ap (λ z. f ++ z) (h' ∙ ap (λ z. x ++ z) (h'' ∙ ap (λ z. a ++ z) h3 ∙ sym (append_assoc a c d))
    ∙ sym (append_assoc x (a ++ c) d))
    ∙ sym (append_assoc f (x ++ (a ++ c)) d) in
    inr (f ++ (x ++ (a ++ c)), d, e, (f, x ++ (a ++ c), refl, p, (x, a ++ c, refl, u, (a, c, refl, r, w))), k)

pub good-from : (es : List Event) → MayFollow place.Start es → Good es
good-from es m =
    let s = pinned-from es m in
    good-tries es s.0 s.1 s.2 s.3 (asking-to 199 s.1 s.4)
