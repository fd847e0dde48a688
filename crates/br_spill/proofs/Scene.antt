-- How a state of the program in register form stands beside one of the program that it comes from: each set
-- name's word is in its place, and the memory has extra bytes, those of the function's own buffer and of what its
-- callers hold.
use Rattle.std.proofs.Common.{◌≡◌, ◌≢◌, ℕ, ◌+◌, ◌*◌, ◌%◌, ◌^◌, ◌<◌, ◌≤◌, ◌==◌, ◌&&◌, ◌||◌, nat_le}
use Rattle.std.proofs.Common.{nat_lt, Bool, true, false, if◌then◌else◌, length, Option, Some}
use Rattle.std.proofs.Common.{None, ◌⊎◌, inl, inr, refl, sym, ap, subst, ◌∙◌, arith, IsTrue}
use Rattle.std.specs.FinMap as map
use Rattle.std.proofs.lemmas.Bool.Decides.{nat_tests}
use Rattle.br_words.specs.Layout.{stack_base, stack_end}
use Rattle.br_bytes.specs.Number.{low_bytes}
use Rattle.br_bytes.specs.Memory.{Memory, place, put_number}
use Rattle.br_bytes.specs.Buffers.{AreWords, AreChoices}
use Rattle.br_flatimp.specs.Values.{Locals, with_local}
use Rattle.br_flatimp.specs.Runs.{State, set_to}
use Rattle.br_spill.specs.Spill.{Layout, holds_names, is_inside, Fits}
use Rattle.br_spill.specs.declared.place.Place.{Place}
use Rattle.br_spill.specs.declared.place.Place.TheVariants.{Register, Slot}
use Rattle.br_spill.proofs.Follows.{Shown}
use Rattle.br_spill.proofs.Extra.{Extra, Byte, Extends, equal_or, low_bytes-length, with_extra}
use Rattle.br_spill.proofs.Extra.{extra-other, extra-some, Stands, stands-kept, stands-written, extra-put}

-- ---- a function at work

-- where its buffer stands, and the extra bytes that it must leave as they are
pub record Frame : Type 0 where
  pub base : ℕ
  pub size : ℕ
  pub outer : Extra
  pub low : stack_base ≤ base
  pub high : base + size ≤ stack_end
  pub over : (x : ℕ) → x < stack_base → outer x ≡ None

pub record Scene : Type 0 where
  pub layout : Layout
  pub names : ℕ
  pub fits : Fits names layout
  pub frame : Frame
  pub size : frame.size ≡ 4 * layout.slots

-- two states but for their variables
pub record Outside (e : Extra) (s t : State) : Type 0 where
  pub memory : Extends e s.memory t.memory
  pub trace : s.trace ≡ t.trace
  pub answers : s.answers ≡ t.answers
  pub words : AreWords t.answers
  pub choices : AreChoices s.choices
  pub fuel : s.fuel ≡ t.fuel

-- a word stands in a place
abbrev pub Holds : ℕ → Extra → Place → Locals → ℕ → Type 0
Holds base e (Register r) l v = l r ≡ Some v
Holds base e (Slot k) l v = Stands e (base + 4 * k) (low_bytes 4 v)

-- a word, and in a place
pub record Held (base : ℕ) (e : Extra) (p : Place) (l : Locals) (v : ℕ) : Type 0 where
  pub word : v < 2 ^ 32
  pub holds : Holds base e p l v

pub record At (g : Scene) (s t : State) : Type 0 where
  pub extra : Extra
  pub outside : Outside extra s t
  pub inner : (x : ℕ) → g.frame.base ≤ x → x < g.frame.base + g.frame.size → (extra x ≢ None) × (g.frame.outer x ≡ None)
  pub others : (x : ℕ) → (x < g.frame.base) ⊎ (g.frame.base + g.frame.size ≤ x) → extra x ≡ g.frame.outer x
  pub base : g.layout.slots ≢ 0 → s.locals 3 ≡ Some g.frame.base
  pub held : (x v : ℕ) → x < g.names → t.locals x ≡ Some v → Held g.frame.base extra (g.layout.place x) s.locals v

-- ---- what is shown

byte-shown : (o mine theirs : Option ℕ) → Byte o mine theirs → o ≡ None → mine ≡ theirs
byte-shown None mine theirs h none = h.0
byte-shown (Some b) mine theirs h none = absurd (cc none)

pub outside-shown : (e : Extra) (s t : State) → Outside e s t → ((x : ℕ) → x < stack_base → e x ≡ None) → Shown s t
outside-shown e s t h over = record {
  trace = h.trace;
  bytes = λ a low high. byte-shown (e a) (map.get s.memory a) (map.get t.memory a) (h.memory a) (over a high);
}

pub at-over : (g : Scene) (s t : State) (h : At g s t) → (x : ℕ) → x < stack_base → h.extra x ≡ None
at-over g s t h x less =
    let low = g.frame.low in
    h.others x (inl (omega (arith, less, low))) ∙ g.frame.over x less

pub at-shown : (g : Scene) (s t : State) → At g s t → Shown s t
at-shown g s t h = outside-shown h.extra s t h.outside (at-over g s t h)

-- ---- registers

-- a register that holds no name and not the buffer's address
pub record Free (g : Scene) (r : ℕ) : Type 0 where
  pub base : g.layout.slots ≢ 0 → r ≢ 3
  pub apart : (x : ℕ) → x < g.names → g.layout.place x ≢ Register r

pub in_register : (g : Scene) (x r : ℕ) → x < g.names → g.layout.place x ≡ Register r
    → holds_names g.layout.registers g.layout.slots r ≡ true
in_register g x r less is =
    subst (λ p. IsTrue (is_inside g.layout.registers g.layout.slots p)) is (g.fits.inside x less)

pub in_slot : (g : Scene) (x k : ℕ) → x < g.names → g.layout.place x ≡ Slot k → k < g.layout.slots
in_slot g x k less is =
    by (subst (λ p. IsTrue (is_inside g.layout.registers g.layout.slots p)) is (g.fits.inside x less))
  where
    by : nat_lt k g.layout.slots ≡ true → k < g.layout.slots
    by e = grind (arith, nat_tests)

pub not_passing : (registers slots r : ℕ) → holds_names registers slots r ≡ true → 10 ≤ r → r ≤ 17 → ⊥
not_passing registers slots r is low high = by (nat_le r 9) (nat_le 18 r) refl refl is
  where
    by : (a b : Bool) → nat_le r 9 ≡ a → nat_le 18 r ≡ b
        → ((nat_le 3 r && a) || (b && nat_lt r registers)) && ((slots == 0) || nat_le 6 r) ≡ true → ⊥
    by true b e f is = absurd (grind (arith, nat_tests))
    by false true e f is = absurd (grind (arith, nat_tests))
    by false false e f is = absurd (none (nat_le 3 r) ((slots == 0) || nat_le 6 r) is)
      where
        none : (a b : Bool) → ((a && false) || false) && b ≡ true → ⊥
        none true true is = absurd (cc is)
        none true false is = absurd (cc is)
        none false true is = absurd (cc is)
        none false false is = absurd (cc is)

-- with a buffer, names begin at 6
pub from_six : (registers slots r : ℕ) → holds_names registers slots r ≡ true → slots ≢ 0 → 6 ≤ r
from_six registers slots r is some = by (slots == 0) (nat_le 6 r) refl refl
    (second ((nat_le 3 r && nat_le r 9) || (nat_le 18 r && nat_lt r registers)) ((slots == 0) || nat_le 6 r) is)
  where
    second : (a b : Bool) → (a && b) ≡ true → b ≡ true
    second true b e = e
    second false b e = absurd (cc e)

    by : (a b : Bool) → (slots == 0) ≡ a → nat_le 6 r ≡ b → (a || b) ≡ true → 6 ≤ r
    by true b e f is = absurd (some (grind (arith, nat_tests)))
    by false true e f is = grind (arith, nat_tests)
    by false false e f is = absurd (cc is)

pub free-passing : (g : Scene) (r : ℕ) → 10 ≤ r → r ≤ 17 → Free g r
free-passing g r low high = record {
  base = λ some same. omega (arith, low, same);
  apart = λ x less is. not_passing g.layout.registers g.layout.slots r (in_register g x r less is) low high;
}

pub free-spare : (g : Scene) (r : ℕ) → g.layout.slots ≢ 0 → 4 ≤ r → r ≤ 5 → Free g r
free-spare g r some low high = record {
  base = λ some same. omega (arith, low, same);
  apart = λ x less is. let six = from_six g.layout.registers g.layout.slots r (in_register g x r less is) some in
      omega (arith, six, high);
}

pub holds-locals : (base : ℕ) (e : Extra) (p : Place) (l k : Locals) (v : ℕ) → ((r : ℕ) → p ≡ Register r → k r ≡ l r)
    → Holds base e p l v → Holds base e p k v
holds-locals base e (Register r) l k v same h = same r refl ∙ h
holds-locals base e (Slot n) l k v same h = h

-- what changes no name's register and not the buffer's address
pub at-locals : (g : Scene) (s t : State) (l : Locals) → At g s t → (g.layout.slots ≢ 0 → l 3 ≡ s.locals 3)
    → ((x r : ℕ) → x < g.names → g.layout.place x ≡ Register r → l r ≡ s.locals r) → At g (record s { locals = l }) t
at-locals g s t l h base same = record {
  extra = h.extra;
  outside = record {
    memory = h.outside.memory;
    trace = h.outside.trace;
    answers = h.outside.answers;
    words = h.outside.words;
    choices = h.outside.choices;
    fuel = h.outside.fuel;
  };
  inner = h.inner;
  others = h.others;
  base = λ some. base some ∙ h.base some;
  held = λ x v less is.
      let k = h.held x v less is in
      record {
        word = k.word;
        holds =
            holds-locals g.frame.base h.extra (g.layout.place x) s.locals l v (λ r place. same x r less place) k.holds;
      };
}

pub at-free : (g : Scene) (s t : State) (r : ℕ) (l : Locals) → At g s t → Free g r
    → ((y : ℕ) → y ≢ r → l y ≡ s.locals y) → At g (record s { locals = l }) t
at-free g s t r l h free same =
    at-locals g s t l h (λ some. same 3 (λ e. free.base some (sym e)))
    (λ x q less is. same q (λ e. free.apart x less (is ∙ ap Register e)))

-- ---- set names

pub with-same : (x v : ℕ) (l : Locals) → with_local x v l x ≡ Some v
with-same x v l = ap (λ b. if b then Some v else l x) (equals x)
  where
    equals : (x : ℕ) → (x == x) ≡ true
    equals x = grind (arith, nat_tests)

pub with-other : (x v y : ℕ) (l : Locals) → y ≢ x → with_local x v l y ≡ l y
with-other x v y l ne = ap (λ b. if b then Some v else l y) (differs y x ne)
  where
    differs : (y x : ℕ) → y ≢ x → (y == x) ≡ false
    differs y x ne = grind (arith, nat_tests)

some-same : (v w : ℕ) (o : Option ℕ) → o ≡ Some v → o ≡ Some w → v ≡ w
some-same v w o e f = let g : Some v ≡ Some w = sym e ∙ f in cc g

-- a name that is set, and one that is another
held-set : (base : ℕ) (e : Extra) (p : Place) (l : Locals) (m : Locals) (x v y w : ℕ) → v < 2 ^ 32 → (y ≡ x) ⊎ (y ≢ x)
    → with_local x v m y ≡ Some w → (y ≡ x → Holds base e p l v) → (y ≢ x → m y ≡ Some w → Held base e p l w)
    → Held base e p l w
held-set base e p l m x v y w word (inl same) is here there =
    let equal : v ≡ w = some-same v w (with_local x v m y) (ap (with_local x v m) same ∙ with-same x v m) is in
    subst (Held base e p l) equal (record { word = word; holds = here same })
held-set base e p l m x v y w word (inr ne) is here there = there ne (sym (with-other x v y m ne) ∙ is)

pub at-register : (g : Scene) (s t : State) (x r v : ℕ) → At g s t → x < g.names → g.layout.place x ≡ Register r
    → v < 2 ^ 32 → At g (set_to r v s) (set_to x v t)
at-register g s t x r v h less place word = record {
  extra = h.extra;
  outside = record {
    memory = h.outside.memory;
    trace = h.outside.trace;
    answers = h.outside.answers;
    words = h.outside.words;
    choices = h.outside.choices;
    fuel = h.outside.fuel;
  };
  inner = h.inner;
  others = h.others;
  base = λ some. with-other r v 3 s.locals (λ same. let six = from_six g.layout.registers g.layout.slots r
      (in_register g x r less place) some in omega (arith, six, same)) ∙ h.base some;
  held = λ y w below is.
      held-set g.frame.base h.extra (g.layout.place y) (with_local r v s.locals) t.locals x v y w word (equal_or y x) is
      (λ same. subst (λ p. Holds g.frame.base h.extra p (with_local r v s.locals) v)
      (sym (ap g.layout.place same ∙ place)) (with-same r v s.locals))
      (λ ne old.
      let k = h.held y w below old in
      record {
        word = k.word;
        holds = holds-locals g.frame.base h.extra (g.layout.place y) s.locals (with_local r v s.locals) w
            (λ q there. with-other r v q s.locals (λ same.
            ne (g.fits.apart y x below less (there ∙ ap Register same ∙ sym place)))) k.holds;
      });
}

-- ---- words of the buffer

-- an address in the buffer is a word
pub slot-place : (g : Scene) (k i : ℕ) → k < g.layout.slots → i < 4
    → place (g.frame.base + 4 * k + i) ≡ g.frame.base + 4 * k + i
slot-place g k i inside less = by g.frame.base g.frame.size g.layout.slots g.frame.high g.size inside
  where
    by : (b size slots : ℕ) → b + size ≤ stack_end → size ≡ 4 * slots → k < slots
        → (b + 4 * k + i) % 2 ^ 32 ≡ b + 4 * k + i
    by b size slots high is inside = omega (arith, high, is, inside, less)

slot-inside : (g : Scene) (k i : ℕ) → k < g.layout.slots → i < 4
    → (g.frame.base ≤ g.frame.base + 4 * k + i) × (g.frame.base + 4 * k + i < g.frame.base + g.frame.size)
slot-inside g k i inside less = by g.frame.base g.frame.size g.layout.slots g.size inside
  where
    by : (b size slots : ℕ) → size ≡ 4 * slots → k < slots → (b ≤ b + 4 * k + i) × (b + 4 * k + i < b + size)
    by b size slots is inside = (omega arith, omega (arith, is, inside, less))

slots-apart : (b j k i m : ℕ) → j ≢ k → i < 4 → m < 4 → b + 4 * j + i ≢ b + 4 * k + m
slots-apart b j k i m ne l r = omega arith

-- a word of the buffer is there
pub slot-owned : (g : Scene) (s t : State) (h : At g s t) (k : ℕ) → k < g.layout.slots → (i : ℕ) → i < 4
    → h.extra (place (g.frame.base + 4 * k + i)) ≢ None
slot-owned g s t h k inside i less =
    let within = slot-inside g k i inside less in
    subst (λ q. h.extra q ≢ None) (sym (slot-place g k i inside less))
    ((h.inner (g.frame.base + 4 * k + i) within.0 within.1).0)

-- a word put away
pub record Stored (g : Scene) (s t2 : State) (k v : ℕ) : Type 0 where
  pub memory : Memory
  pub is : put_number s.memory (g.frame.base + 4 * k) 4 v ≡ Some memory
  pub related : At g (record s { memory = memory }) t2

below_four : (i v : ℕ) → i < length (low_bytes 4 v) → i < 4
below_four i v l = subst (λ n. i < n) (low_bytes-length 4 v) l

pub at-slot : (g : Scene) (s t : State) (x k v : ℕ) → At g s t → x < g.names → g.layout.place x ≡ Slot k → v < 2 ^ 32
    → Stored g s (set_to x v t) k v
at-slot g s t x k v h less there word =
    let inside = in_slot g x k less there in
    let a = g.frame.base + 4 * k in
    let bs = low_bytes 4 v in
    let e2 = with_extra h.extra a bs in
    let puts = extra-put 4 h.extra s.memory t.memory a v h.outside.memory (slot-owned g s t h k inside) in
    record {
      memory = puts.memory;
      is = puts.is;
      related = record {
        extra = e2;
        outside = record {
          memory = puts.extends;
          trace = h.outside.trace;
          answers = h.outside.answers;
          words = h.outside.words;
          choices = h.outside.choices;
          fuel = h.outside.fuel;
        };
        inner = λ q low high. (stays q ((h.inner q low high).0), (h.inner q low high).1);
        others = λ q out. extra-other bs h.extra a q (λ i l same. outside q i inside (below_four i v l) out same)
            ∙ h.others q out;
        base = h.base;
        held = λ y w below is.
            held-set g.frame.base e2 (g.layout.place y) s.locals t.locals x v y w word (equal_or y x) is
            (λ same. subst (λ p. Holds g.frame.base e2 p s.locals v) (sym (ap g.layout.place same ∙ there))
            (stands-written bs h.extra a (few v)))
            (λ ne old.
            let o = h.held y w below old in
            record { word = o.word; holds = kept inside y w below ne (g.layout.place y) refl o.holds });
      };
    }
  where
    few : (v : ℕ) → length (low_bytes 4 v) < 2 ^ 32
    few v = let is = low_bytes-length 4 v in omega (arith, is)

    stays : (q : ℕ) → h.extra q ≢ None → with_extra h.extra (g.frame.base + 4 * k) (low_bytes 4 v) q ≢ None
    stays q some none =
        some (sym (extra-other (low_bytes 4 v) h.extra (g.frame.base + 4 * k) q
        (λ i l same. extra-some (low_bytes 4 v) h.extra (g.frame.base + 4 * k) q i l same none)) ∙ none)

    outside : (q i : ℕ) → k < g.layout.slots → i < 4 → (q < g.frame.base) ⊎ (g.frame.base + g.frame.size ≤ q)
        → q ≡ place (g.frame.base + 4 * k + i) → ⊥
    outside q i inside less out same = by out (slot-inside g k i inside less) (same ∙ slot-place g k i inside less)
      where
        by : (q < g.frame.base) ⊎ (g.frame.base + g.frame.size ≤ q) → (g.frame.base ≤ g.frame.base + 4 * k + i)
            × (g.frame.base + 4 * k + i < g.frame.base + g.frame.size) → q ≡ g.frame.base + 4 * k + i → ⊥
        by (inl l) within same = let low = within.0 in omega (arith, l, low, same)
        by (inr l) within same = let high = within.1 in omega (arith, l, high, same)

    kept : k < g.layout.slots → (y w : ℕ) → y < g.names → y ≢ x → (p : Place) → g.layout.place y ≡ p
        → Holds g.frame.base h.extra p s.locals w
        → Holds g.frame.base (with_extra h.extra (g.frame.base + 4 * k) (low_bytes 4 v)) p s.locals w
    kept inside y w below ne (Register r) is old = old
    kept inside y w below ne (Slot j) is old =
        let differ : j ≢ k = λ same. ne (g.fits.apart y x below less (is ∙ ap Slot same ∙ sym there)) in
        stands-kept (low_bytes 4 w) h.extra (with_extra h.extra (g.frame.base + 4 * k) (low_bytes 4 v))
        (g.frame.base + 4 * j)
        (λ i l.
        extra-other (low_bytes 4 v) h.extra (g.frame.base + 4 * k) (place (g.frame.base + 4 * j + i)) (λ m n same.
        slots-apart g.frame.base j k i m differ (below_four i w l) (below_four m v n)
        (sym (slot-place g j i (in_slot g y j below is) (below_four i w l)) ∙ same
        ∙ slot-place g k m inside (below_four m v n)))) old
