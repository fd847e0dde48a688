-- A transfer from its start is a read or a write of a word, or a failed one.
use Rattle.std.proofs.Common.{◌≡◌, inl, inr, ℕ, suc, ◌+◌, ◌*◌, ◌%◌, ◌^◌, ◌<◌, List, [], ◌∷◌, ◌++◌, length, drop}
use Rattle.std.proofs.Common.{Some, None, refl, sym, ap, subst, ◌∙◌, arith, append_assoc, append-nil, lit<}
use Rattle.br_bytes.specs.declared.run.Event.{Event}
use Rattle.br_bytes.specs.declared.run.Event.TheVariants.{Write}
use Rattle.br_bytes.specs.Buffers.{AreBytes}
use Rattle.br_bytes.specs.Number.{number_of}
use Rattle.br_judge.specs.declared.place.Exchange.TheVariants.{Put}
use Rattle.br_judge.specs.Languages.{Language, ◌▸◌, event, some, given}
use Rattle.br_judge.specs.Good.{TX, spi_put, failed_put, spi_get, failed_get, exchange}
use Rattle.br_judge.specs.Good.{failed_exchange, exchanges, failed_exchanges, release}
use Rattle.br_judge.specs.Places.{waiting, receiving, exchanging, with_byte, transferring}
use Rattle.br_judge.proofs.Sets.{nothing-to}

-- a list and then nothing
pub after_nothing : (es f b : List Event) → es ≡ f ++ b → b ≡ [] → es ≡ f
after_nothing es f b h n = h ∙ ap (λ q. f ++ q) n ∙ append-nil f

-- ---- a byte

got-to : (r : ℕ) (es : List Event) → receiving 999 (Some r) es → spi_get r es
got-to r es (Some w, (f, b, h, (p, q, h', u, rd), (is, n))) =
    let same : w % 256 ≡ r = cc in
    (p, q, after_nothing es f b h n ∙ h', u, (w, (same, rd)))
got-to r es (None, (f, b, h, t, (is, n))) = cc

got-from : (r : ℕ) (es : List Event) → spi_get r es → receiving 999 (Some r) es
got-from r es (p, q, h, u, (w, (same, rd))) =
    (Some w, (es, [], sym (append-nil es), (p, q, h, u, rd), (ap Some (sym same), refl)))

got_none-to : (es : List Event) → receiving 999 None es → failed_get es
got_none-to es (Some w, (f, b, h, t, (is, n))) = cc
got_none-to es (None, (f, b, h, t, (is, n))) = subst failed_get (sym (after_nothing es f b h n)) t

got_none-from : (es : List Event) → failed_get es → receiving 999 None es
got_none-from es t = (None, (es, [], sym (append-nil es), t, (refl, refl)))

-- a wait and a write are a put
put-to : (b w : ℕ) (K : Language) (es f g : List Event) → es ≡ f ++ g → waiting TX 999 (Some w) f
    → (event (Write TX b) ▸ K) g → (spi_put b ▸ K) es
put-to b w K es f g h (f1, f2, h1, u, rd) (g1, g2, h2, ev, k) =
    let e1 : f ++ g1 ≡ f1 ++ (f2 ++ g1) = ap (λ q. q ++ g1) h1 ∙ append_assoc f1 f2 g1 in
    let e : es ≡ (f ++ g1) ++ g2 = h ∙ ap (λ q. f ++ q) h2 ∙ sym (append_assoc f g1 g2) in
    (f ++ g1, g2, e, (f1, f2 ++ g1, e1, u, (f2, g1, refl, (w, rd), ev)), k)

put-from : (b : ℕ) (K : Language) (es : List Event) → (spi_put b ▸ K) es
    → (w : ℕ) × (waiting TX 999 (Some w) ▸ event (Write TX b) ▸ K) es
put-from b K es (f, g, h, (f1, f2, h1, u, (p, q, h2, (w, rd), ev)), k) =
    let e : es ≡ (f1 ++ p) ++ (q ++ g) =
    h ∙ ap (λ x. x ++ g) (h1 ∙ ap (λ x. f1 ++ x) h2 ∙ sym (append_assoc f1 p q)) ∙ append_assoc (f1 ++ p) q g in
    (w, (f1 ++ p, q ++ g, e, (f1, p, refl, u, rd), (q, g, refl, ev, k)))

pub exchange-to : (b r : ℕ) (es : List Event) → exchanging b (Put 999) (Some r) es → exchange b r es
exchange-to b r es (Some w, (f, g, h, a, k)) =
    let s = put-to b w (receiving 999 (Some r)) es f g h a k in
    (s.0, s.1, s.2, s.3, got-to r s.1 s.4)
exchange-to b r es (None, (f, g, h, a, (is, n))) = cc

exchange-from : (b r : ℕ) (es : List Event) → exchange b r es → exchanging b (Put 999) (Some r) es
exchange-from b r es (f, g, h, put, get) =
    let s = put-from b (receiving 999 (Some r)) es (f, g, h, put, got-from r g get) in
    (Some s.0, s.1)

failed-to : (b : ℕ) (es : List Event) → exchanging b (Put 999) None es → failed_exchange b es
failed-to b es (Some w, (f, g, h, a, k)) =
    let s = put-to b w (receiving 999 None) es f g h a k in
    inr (s.0, s.1, s.2, s.3, got_none-to s.1 s.4)
failed-to b es (None, (f, g, h, a, (is, n))) = inl (subst failed_put (sym (after_nothing es f g h n)) a)

failed-from : (b : ℕ) (es : List Event) → failed_exchange b es → exchanging b (Put 999) None es
failed-from b es (inl t) = (None, (es, [], sym (append-nil es), t, (refl, refl)))
failed-from b es (inr (f, g, h, put, t)) =
    let s = put-from b (receiving 999 None) es (f, g, h, put, got_none-from g t) in
    (Some s.0, s.1)

-- ---- bytes

-- the last four bytes received after these
abbrev pub value_after : ℕ → List ℕ → ℕ
value_after u [] = u
value_after u (r ∷ rs) = value_after (with_byte u r) rs

-- the bytes are sent and the chip is released
abbrev pub sent : List ℕ → ℕ → ℕ → Language
sent bs u v = (some λ (rs : List ℕ). given (v ≡ value_after u rs) (exchanges bs rs)) ▸ release

pub sent-to : (bs : List ℕ) (u v : ℕ) (es : List Event) → transferring bs u (Some v) es → sent bs u v es
sent-to [] u v es (is, m) =
    let same : v ≡ u = cc in
    ([], es, refl, ([], (same, refl)), m)
sent-to (b ∷ bs) u v es (Some r, (f, g, h, a, k)) =
    let s = sent-to bs (with_byte u r) v g k in (
      f ++ s.0,
      s.1,
      h ∙ ap (λ q. f ++ q) s.2 ∙ sym (append_assoc f s.0 s.1),
      (r ∷ s.3.0, (s.3.1.0, (f, s.0, refl, exchange-to b r f a, s.3.1.1))),
      s.4,
    )
sent-to (b ∷ bs) u v es (None, (f, g, h, a, (is, k))) = cc

pub sent-from : (bs : List ℕ) (u v : ℕ) (es : List Event) → sent bs u v es → transferring bs u (Some v) es
sent-from [] u v es (f, g, h, ([], (is, n)), m) = (ap Some is, nothing-to release es f g h n m)
sent-from [] u v es (f, g, h, (r ∷ rs, (is, n)), m) = absurd n
sent-from (b ∷ bs) u v es (f, g, h, ([], (is, n)), m) = absurd n
sent-from (b ∷ bs) u v es (f, g, h, (r ∷ rs, (is, (p, q, h', x, y))), m) =
    let e : es ≡ p ++ (q ++ g) = h ∙ ap (λ x. x ++ g) h' ∙ append_assoc p q g in (
      Some r,
      (p, q ++ g, e, exchange-from b r p x, sent-from bs (with_byte u r) v (q ++ g) (q, g, refl, (rs, (is, y)), m)),
    )

pub fails-to : (bs : List ℕ) (u : ℕ) (es : List Event) → transferring bs u None es → (failed_exchanges bs ▸ release) es
fails-to [] u es (is, m) = cc
fails-to (b ∷ bs) u es (Some r, (f, g, h, a, k)) =
    let s = fails-to bs (with_byte u r) g k in (
      f ++ s.0,
      s.1,
      h ∙ ap (λ q. f ++ q) s.2 ∙ sym (append_assoc f s.0 s.1),
      inr (r, (f, s.0, refl, exchange-to b r f a, s.3)),
      s.4,
    )
fails-to (b ∷ bs) u es (None, (f, g, h, a, (is, k))) = (f, g, h, inl (failed-to b f a), k)

pub fails-from : (bs : List ℕ) (u : ℕ) (es : List Event) → (failed_exchanges bs ▸ release) es
    → transferring bs u None es
fails-from [] u es (f, g, h, n, m) = absurd n
fails-from (b ∷ bs) u es (f, g, h, inl t, m) = (None, (f, g, h, failed-from b f t, (refl, m)))
fails-from (b ∷ bs) u es (f, g, h, inr (r, (p, q, h', x, y)), m) =
    let e : es ≡ p ++ (q ++ g) = h ∙ ap (λ x. x ++ g) h' ∙ append_assoc p q g in
    (Some r, (p, q ++ g, e, exchange-from b r p x, fails-from bs (with_byte u r) (q ++ g) (q, g, refl, y, m)))

-- ---- words

-- a byte is received for each byte that is sent
pub received_bytes : (bs rs : List ℕ) (es : List Event) → exchanges bs rs es → (length rs ≡ length bs) × AreBytes rs
received_bytes [] [] es m = (refl, tt)
received_bytes [] (r ∷ rs) es m = absurd m
received_bytes (b ∷ bs) [] es m = absurd m
received_bytes (b ∷ bs) (r ∷ rs) es (p, q, h, (f, g, h', put, (x, y, h'', u, (w, (same, rd)))), m) =
    let s = received_bytes bs rs q m in
    let fits : r < 256 = subst (λ q. q < 256) same (omega arith) in
    (ap suc s.0, (fits, s.1))

-- four bytes in turn are the number that they stand for
four_bytes : (u a b c d : ℕ) → u < 2 ^ 32 → a < 256 → b < 256 → c < 256 → d < 256 →
    with_byte (with_byte (with_byte (with_byte u a) b) c) d ≡ a + 256 * (b + 256 * (c + 256 * (d + 256 * 0)))
four_bytes u a b c d hu ha hb hc hd = omega arith

with_byte_fits : (u r : ℕ) → u < 2 ^ 32 → with_byte u r < 2 ^ 32
with_byte_fits u r hu = omega arith

pub value_of_seven : (rs : List ℕ) → length rs ≡ 7 → AreBytes rs → value_after 0 rs ≡ number_of (drop 3 rs)
value_of_seven [] h are = cc
value_of_seven (a ∷ []) h are = absurd (omega arith)
value_of_seven (a ∷ b ∷ []) h are = absurd (omega arith)
value_of_seven (a ∷ b ∷ c ∷ []) h are = absurd (omega arith)
value_of_seven (a ∷ b ∷ c ∷ d ∷ []) h are = absurd (omega arith)
value_of_seven (a ∷ b ∷ c ∷ d ∷ e ∷ []) h are = absurd (omega arith)
value_of_seven (a ∷ b ∷ c ∷ d ∷ e ∷ f ∷ []) h are = absurd (omega arith)
value_of_seven (a ∷ b ∷ c ∷ d ∷ e ∷ f ∷ g ∷ []) h (ha, (hb, (hc, (hd, (he, (hf, (hg, z))))))) =
    let u : ℕ = with_byte (with_byte (with_byte 0 a) b) c in
    let fits : u < 2 ^ 32 = with_byte_fits (with_byte (with_byte 0 a) b) c
    (with_byte_fits (with_byte 0 a) b (with_byte_fits 0 a (lit< tt))) in
    four_bytes u d e f g fits hd he hf hg
value_of_seven (a ∷ b ∷ c ∷ d ∷ e ∷ f ∷ g ∷ x ∷ rs) h are = absurd (omega arith)
