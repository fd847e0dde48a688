-- Laws of sets of lists of events.
use Rattle.std.proofs.Common.{◌≡◌, ◌⊎◌, inl, inr, ◌↔◌, ℕ, zero, suc, ◌≤◌, List, [], ◌∷◌}
use Rattle.std.proofs.Common.{◌++◌, Option, refl, sym, ap, subst, ◌∙◌, append_assoc, arith}
use Rattle.br_bytes.specs.declared.run.Event.{Event}
use Rattle.br_judge.specs.declared.place.Moved.{Moved}
use Rattle.br_judge.specs.declared.place.Moved.TheVariants.{On, Over, Departs}
use Rattle.br_judge.specs.Languages.{Language, ◌▸◌, event, times, up_to}
use Rattle.br_judge.specs.Places.{Piece, joined, rest_of}

-- two sets with the same lists
abbrev pub Same : Language → Language → Type 0
Same A B = (es : List Event) → A es ↔ B es

-- after this event, what may follow in the first is the second
abbrev pub Steps : Language → Event → Language → Type 0
Steps A e B = (rest : List Event) → A (e ∷ rest) ↔ B rest

abbrev pub never : Language
never es = ⊥

pub iff_trans : {P Q R : Type 0} → (P ↔ Q) → (Q ↔ R) → (P ↔ R)
iff_trans a b = (λ p. b.0 (a.0 p), λ r. a.1 (b.1 r))

-- ---- sequences

pub assoc-to : (A B C : Language) (es : List Event) → ((A ▸ B) ▸ C) es → (A ▸ B ▸ C) es
assoc-to A B C es (front, back, h, (f, m, h', a, b), c) =
    (f, m ++ back, h ∙ ap (λ q. q ++ back) h' ∙ append_assoc f m back, a, (m, back, refl, b, c))

pub assoc-from : (A B C : Language) (es : List Event) → (A ▸ B ▸ C) es → ((A ▸ B) ▸ C) es
assoc-from A B C es (front, back, h, a, (m, c, h', b, k)) =
    (front ++ m, c, h ∙ ap (λ q. front ++ q) h' ∙ sym (append_assoc front m c), (front, m, refl, a, b), k)

-- after nothing
pub nothing-to : (K : Language) (es f b : List Event) → es ≡ f ++ b → f ≡ [] → K b → K es
nothing-to K es f b h e k = let q : es ≡ [] ++ b = h ∙ ap (λ f. f ++ b) e in subst K (sym q) k

first_event : (e x : Event) (rest f b : List Event) → e ∷ rest ≡ f ++ b → f ≡ x ∷ [] → (e ≡ x) × (rest ≡ b)
first_event e x rest f b h hf =
    let q : e ∷ rest ≡ x ∷ b = h ∙ ap (λ f. f ++ b) hf in
    let head : e ≡ x = cc in
    let tail : rest ≡ b = cc in
    (head, tail)

-- a list that begins with an event
pub event-to : (x : Event) (K : Language) (e : Event) (rest : List Event) → (event x ▸ K) (e ∷ rest) → (e ≡ x) × K rest
event-to x K e rest (f, b, h, hf, k) =
    let p = first_event e x rest f b h hf in
    (p.0, subst K (sym p.1) k)

pub event-from : (x : Event) (K : Language) (rest : List Event) → K rest → (event x ▸ K) (x ∷ rest)
event-from x K rest k = (x ∷ [], rest, refl, refl, k)

pub event_empty : (x : Event) (K : Language) → (event x ▸ K) [] → ⊥
event_empty x K (f, b, h, hf, k) = let q : [] ≡ x ∷ b = h ∙ ap (λ f. f ++ b) hf in cc

pub steps_event : (x : Event) (K : Language) → Steps (event x ▸ K) x K
steps_event x K rest = (λ m. (event-to x K x rest m).1, event-from x K rest)

pub steps_other : (x e : Event) (K : Language) → (e ≡ x → ⊥) → Steps (event x ▸ K) e never
steps_other x e K other rest = (λ m. other (event-to x K e rest m).0, λ m. absurd m)

-- the front of a list with something in it is empty, or has the first of it
pub seq-to : (A B : Language) (e : Event) (rest front back : List Event) → e ∷ rest ≡ front ++ back → A front → B back →
    (A [] × B (e ∷ rest)) ⊎ ((f b : List Event) × (rest ≡ f ++ b) × A (e ∷ f) × B b)
seq-to A B e rest [] back h a b = inl (a, subst B (sym h) b)
seq-to A B e rest (x ∷ f) back h a b =
    let head : x ≡ e = cc in
    let tail : rest ≡ f ++ back = cc in
    inr (f, back, tail, subst (λ q. A (q ∷ f)) head a, b)

-- ---- repetition

pub times_zero-to : (L : Language) (es : List Event) → times 0 L es → es ≡ []
unfolding times
times_zero-to L es h = h

pub times_zero-from : (L : Language) → times 0 L []
unfolding times
times_zero-from L = refl

pub times_suc-to : (n : ℕ) (L : Language) (es : List Event) → times (suc n) L es → (L ▸ times n L) es
unfolding times
times_suc-to n L es h = h

pub times_suc-from : (n : ℕ) (L : Language) (es : List Event) → (L ▸ times n L) es → times (suc n) L es
unfolding times
times_suc-from n L es h = h

pub up_to_none : (n : ℕ) (L K : Language) (es : List Event) → K es → (up_to n L ▸ K) es
up_to_none n L K es k = ([], es, refl, (0, (omega arith, times_zero-from L)), k)

pub up_to_more : (n : ℕ) (L K : Language) (es : List Event) → (L ▸ up_to n L ▸ K) es → (up_to (suc n) L ▸ K) es
up_to_more n L K es (f, b, h, l, (g, c, h', (k, (le, t)), x)) = (
  f ++ g,
  c,
  h ∙ ap (λ q. f ++ q) h' ∙ sym (append_assoc f g c),
  (suc k, (omega arith, times_suc-from k L (f ++ g) (f, g, refl, l, t))),
  x,
)

pub up_to_zero-to : (L K : Language) (es : List Event) → (up_to 0 L ▸ K) es → K es
up_to_zero-to L K es (f, b, h, (zero, (le, t)), k) = nothing-to K es f b h (times_zero-to L f t) k
up_to_zero-to L K es (f, b, h, (suc n, (le, t)), k) = absurd (omega arith)

pub up_to_suc-to : (n : ℕ) (L K : Language) (es : List Event) → (up_to (suc n) L ▸ K) es → K es ⊎ (L ▸ up_to n L ▸ K) es
up_to_suc-to n L K es (f, b, h, (zero, (le, t)), k) = inl (nothing-to K es f b h (times_zero-to L f t) k)
up_to_suc-to n L K es (f, b, h, (suc m, (le, t)), k) =
    let fits : m ≤ n = omega arith in
    let s = assoc-to L (times m L) K es (f, b, h, times_suc-to m L f t, k) in
    inr (s.0, s.1, s.2, s.3, (s.4.0, s.4.1, s.4.2, (m, (fits, s.4.3)), s.4.4))

-- ---- pieces with an outcome

-- what may follow, by what an event made of a place
abbrev pub joined_rest : {P : Type 0} → (P → Piece) → Moved P → Piece → Language
joined_rest within (On p) K es = joined (within p) K es
joined_rest within (Over o) K es = K o es
joined_rest within Departs K es = ⊥

pub joined_empty : (A K : Piece) → ((o : Option ℕ) → A o [] → ⊥) → joined A K [] → ⊥
joined_empty A K none (o, ([], b, h, a, k)) = none o a
joined_empty A K none (o, (x ∷ f, b, h, a, k)) = cc

steps-to : {P : Type 0} (within : P → Piece) (m : Moved P) (K : Piece) (o : Option ℕ) (rest f b : List Event) →
    rest ≡ f ++ b → rest_of within m o f → K o b → joined_rest within m K rest
steps-to within (On p) K o rest f b h r k = (o, (f, b, h, r, k))
steps-to within (Over p) K o rest f b h r k = nothing-to (K p) rest f b h r.1 (subst (λ q. K q b) r.0 k)
steps-to within Departs K o rest f b h r k = absurd r

steps-from : {P : Type 0} (within : P → Piece) (m : Moved P) (A K : Piece) (e : Event) →
    ((o : Option ℕ) (rest : List Event) → A o (e ∷ rest) ↔ rest_of within m o rest) →
    (rest : List Event) → joined_rest within m K rest → joined A K (e ∷ rest)
steps-from within (On p) A K e steps rest (o, (f, b, h, r, k)) = (o, (e ∷ f, b, ap (λ q. e ∷ q) h, (steps o f).1 r, k))
steps-from within (Over p) A K e steps rest k = (p, (e ∷ [], rest, refl, (steps p []).1 (refl, refl), k))
steps-from within Departs A K e steps rest k = absurd k

pub steps_joined : {P : Type 0} (within : P → Piece) (m : Moved P) (A K : Piece) (e : Event) →
    ((o : Option ℕ) → A o [] → ⊥) →
    ((o : Option ℕ) (rest : List Event) → A o (e ∷ rest) ↔ rest_of within m o rest) →
    Steps (joined A K) e (joined_rest within m K)
steps_joined within m A K e none steps rest = (to, steps-from within m A K e steps rest)
  where
    by : (o : Option ℕ) → (A o [] × K o (e ∷ rest)) ⊎ ((f b : List Event) × (rest ≡ f ++ b) × A o (e ∷ f) × K o b)
        → joined_rest within m K rest
    by o (inl (a, k)) = absurd (none o a)
    by o (inr (f, b, h, a, k)) = steps-to within m K o rest f b h ((steps o f).0 a) k

    to : joined A K (e ∷ rest) → joined_rest within m K rest
    to (o, (f, b, h, a, k)) = by o (seq-to (A o) (K o) e rest f b h a k)

pub joined_same : (A B K : Piece) → ((o : Option ℕ) → Same (A o) (B o)) → Same (joined A K) (joined B K)
joined_same A B K same es = (
  λ (o, (f, b, h, a, k)). (o, (f, b, h, (same o f).0 a, k)),
  λ (o, (f, b, h, a, k)). (o, (f, b, h, (same o f).1 a, k)),
)
