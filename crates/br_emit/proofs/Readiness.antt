-- What has to hold before code is written, of pieces one after another.
use Rattle.std.proofs.Common.{◌≡◌, ℕ, suc, ◌+◌, ◌-◌, ◌<◌, ◌≤◌, ◌≢◌, ◌==◌, ◌||◌, Bool, true, false, List, [], ◌∷◌, ◌++◌}
use Rattle.std.proofs.Common.{length, drop, refl, sym, ap, subst, ◌∙◌, arith, append_assoc, append-nil, length-append}
use Rattle.br_emit.specs.Code.{Item, item_word, words_at, AllFit}
use Rattle.br_emit.specs.Sizes.{IsFront}
use Rattle.std.specs.Prelude.{slice_set, get_or}
use Rattle.std.proofs.lemmas.List.{get_or-set_same, get_or-set_other, length-set}
use Rattle.std.proofs.lemmas.Bool.Decides.{nat_tests}
use Rattle.br_flatimp.specs.Liveness.{is_in}
use Rattle.br_emit.specs.Buffer.{Written, appended, Noted, noted}
use Rattle.br_emit.specs.Marks.{marked}
use Rattle.br_emit.specs.Ready.{Ready}

pub words_long : (place : ℕ) (items : List Item) → length (words_at place items) ≡ length items
words_long place [] = refl
words_long place (i ∷ items) = let rest = words_long (place + 1) items in omega (arith, rest)

pub words_both : (place : ℕ) (a b : List Item)
    → words_at place (a ++ b) ≡ words_at place a ++ words_at (place + length a) b
words_both place [] b = let here : place ≡ place + 0 = omega arith in ap (λ q. words_at q b) here
words_both place (i ∷ a) b =
    let there : place + 1 + length a ≡ place + suc (length a) = omega arith in
    ap (λ q. item_word place i ∷ q)
    (words_both (place + 1) a b ∙ ap (λ q. words_at (place + 1) a ++ words_at q b) there)

pub appended_nothing : (w : Written) → appended w [] ≡ w
appended_nothing w =
    let same : w.words ++ [] ≡ w.words = append-nil w.words in
    let room : w.room - 0 ≡ w.room = omega arith in
    ap (λ q. record { words = q; room = w.room - 0 }) same ∙ ap (λ q. record { words = w.words; room = q }) room

pub appended_twice : (w : Written) (a b : List Item) → appended (appended w a) b ≡ appended w (a ++ b)
appended_twice w a b =
    let at = length w.words in
    let long : length (w.words ++ words_at at a) ≡ at + length a = length-append w.words (words_at at a)
    ∙ ap (λ n. at + n) (words_long at a) in
    let words : w.words ++ words_at at a ++ words_at (length (w.words ++ words_at at a)) b
    ≡ w.words ++ words_at at (a ++ b) =
    ap (λ q. w.words ++ words_at at a ++ words_at q b) long
    ∙ append_assoc w.words (words_at at a) (words_at (at + length a) b)
    ∙ ap (λ q. w.words ++ q) (sym (words_both at a b)) in
    let size = length-append a b in
    let room : w.room - length a - length b ≡ w.room - length (a ++ b) = omega arith in
    ap (λ q. record { words = q; room = w.room - length a - length b }) words
    ∙ ap (λ q. record { words = w.words ++ words_at at (a ++ b); room = q }) room

pub fit_front : (a b : List Item) → AllFit (a ++ b) → AllFit a
fit_front [] b fit = tt
fit_front (i ∷ a) b fit = (fit.0, fit_front a b fit.1)

pub fit_back : (a b : List Item) → AllFit (a ++ b) → AllFit b
fit_back [] b fit = fit
fit_back (i ∷ a) b fit = fit_back a b fit.1

pub fit_both : (a b : List Item) → AllFit a → AllFit b → AllFit (a ++ b)
fit_both [] b here there = there
fit_both (i ∷ a) b here there = (here.0, fit_both a b here.1 there)

drop_front : (p q : List ℕ) → drop (length p) (p ++ q) ≡ q
drop_front [] q = refl
drop_front (x ∷ p) q = drop_front p q

-- what is left after a list and what stands after it
left_after : (p q l : List ℕ) → IsFront (p ++ q) l → drop (length p) l ≡ q ++ drop (length (p ++ q)) l
left_after p q l front =
    ap (drop (length p)) (sym front) ∙ ap (drop (length p)) (append_assoc p q (drop (length (p ++ q)) l))
    ∙ drop_front p (q ++ drop (length (p ++ q)) l)

pub drop_both : (p q l : List ℕ) → IsFront (p ++ q) l → drop (length q) (drop (length p) l) ≡ drop (length (p ++ q)) l
drop_both p q l front = ap (drop (length q)) (left_after p q l front) ∙ drop_front q (drop (length (p ++ q)) l)

front_of : (p q l : List ℕ) → IsFront (p ++ q) l → IsFront p l
front_of p q l front =
    ap (λ r. p ++ r) (left_after p q l front) ∙ sym (append_assoc p q (drop (length (p ++ q)) l)) ∙ front

back_of : (p q l : List ℕ) → IsFront (p ++ q) l → IsFront q (drop (length p) l)
back_of p q l front = ap (λ r. q ++ r) (drop_both p q l front) ∙ sym (left_after p q l front)

pub ready_front : (a b : List Item) (p q : List ℕ) (w : Written) (l : List ℕ) → Ready (a ++ b) (p ++ q) w l
    → Ready a p w l
ready_front a b p q w l ready =
    let size = length-append a b in
    record {
      room = let room = ready.room in omega arith;
      few = let few = ready.few in omega arith;
      front = front_of p q l ready.front;
    }

pub ready_back : (a b : List Item) (p q : List ℕ) (w : Written) (l : List ℕ) → Ready (a ++ b) (p ++ q) w l
    → Ready b q (appended w a) (drop (length p) l)
ready_back a b p q w l ready =
    let size = length-append a b in
    record {
      room = let room = ready.room in omega arith;
      few = let few = ready.few in omega arith;
      front = back_of p q l ready.front;
    }

-- ---- lengths

pub noted_twice : (n : Noted) (a b : List ℕ) → noted (noted n a) b ≡ noted n (a ++ b)
noted_twice n a b =
    let size = length-append a b in
    let room : n.room - length a - length b ≡ n.room - length (a ++ b) = omega arith in
    ap (λ q. record { numbers = q; room = n.room - length a - length b }) (append_assoc n.numbers a b)
    ∙ ap (λ q. record { numbers = n.numbers ++ (a ++ b); room = q }) room

seam : (xs ys : List ℕ) (y a : ℕ) → slice_set (xs ++ y ∷ ys) (length xs) a ≡ xs ++ a ∷ ys
seam [] ys y a = refl
seam (x ∷ xs) ys y a = ap (λ r. x ∷ r) (seam xs ys y a)

set_second : (xs ys : List ℕ) (a b : ℕ) → slice_set (xs ++ a ∷ 0 ∷ ys) (length xs + 1) b ≡ xs ++ a ∷ b ∷ ys
set_second xs ys a b =
    ap (λ r. slice_set r (length xs + 1) b) (sym (append_assoc xs (a ∷ []) (0 ∷ ys)))
    ∙ ap (λ n. slice_set ((xs ++ a ∷ []) ++ 0 ∷ ys) n b) (sym (length-append xs (a ∷ [])))
    ∙ seam (xs ++ a ∷ []) ys 0 b
    ∙ append_assoc xs (a ∷ []) (b ∷ ys)

-- two lengths that were reserved before others
pub set_both : (xs p q : List ℕ) (a b : ℕ)
    → slice_set (slice_set (xs ++ 0 ∷ 0 ∷ [] ++ p ++ q) (length xs) a) (length xs + 1) b ≡ xs ++ (a ∷ b ∷ (p ++ q))
set_both xs p q a b =
    let whole : xs ++ 0 ∷ 0 ∷ [] ++ p ++ q ≡ xs ++ 0 ∷ 0 ∷ (p ++ q) = append_assoc (xs ++ 0 ∷ 0 ∷ []) p q
    ∙ append_assoc xs (0 ∷ 0 ∷ []) (p ++ q) in
    ap (λ r. slice_set (slice_set r (length xs) a) (length xs + 1) b) whole
    ∙ ap (λ r. slice_set r (length xs + 1) b) (seam xs (0 ∷ (p ++ q)) 0 a)
    ∙ set_second xs (p ++ q) a b

-- the second of two parts has its room
pub room_left : (n0 n1 n2 : Noted) (ps qs : List ℕ) → n1 ≡ noted n0 (0 ∷ 0 ∷ []) → n2 ≡ noted n1 ps
    → 2 + length ps + length qs ≤ n0.room → length qs ≤ n2.room
room_left n0 n1 n2 ps qs e1 e2 room =
    let r1 : n1.room ≡ n0.room - 2 = ap (λ n. n.room) e1 in
    let r2 : n2.room ≡ n1.room - length ps = ap (λ n. n.room) e2 in
    omega arith

pub two_noted : (n0 n1 n2 n3 n4 : Noted) (at a b : ℕ) (ps qs : List ℕ) → at ≡ length n0.numbers
    → n1 ≡ noted n0 (0 ∷ 0 ∷ []) → n2 ≡ noted n1 ps → n3 ≡ noted n2 qs
    → n4 ≡ record { numbers = slice_set (slice_set n3.numbers at a) (at + 1) b; room = n3.room }
    → n4 ≡ noted n0 (a ∷ b ∷ (ps ++ qs))
two_noted n0 n1 n2 n3 n4 at a b ps qs here e1 e2 e3 e4 =
    let x1 : n1.numbers ≡ n0.numbers ++ 0 ∷ 0 ∷ [] = ap (λ n. n.numbers) e1 in
    let x2 : n2.numbers ≡ n1.numbers ++ ps = ap (λ n. n.numbers) e2 in
    let x3 : n3.numbers ≡ n2.numbers ++ qs = ap (λ n. n.numbers) e3 in
    let r1 : n1.room ≡ n0.room - 2 = ap (λ n. n.room) e1 in
    let r2 : n2.room ≡ n1.room - length ps = ap (λ n. n.room) e2 in
    let r3 : n3.room ≡ n2.room - length qs = ap (λ n. n.room) e3 in
    let size = length-append ps qs in
    let all : n3.numbers ≡ n0.numbers ++ 0 ∷ 0 ∷ [] ++ ps ++ qs = x3 ∙ ap (λ x. x ++ qs) (x2 ∙ ap (λ x. x ++ ps) x1) in
    let numbers : slice_set (slice_set n3.numbers at a) (at + 1) b ≡ n0.numbers ++ (a ∷ b ∷ (ps ++ qs)) =
    ap (λ x. slice_set (slice_set x at a) (at + 1) b) all
    ∙ ap (λ i. slice_set (slice_set (n0.numbers ++ 0 ∷ 0 ∷ [] ++ ps ++ qs) i a) (i + 1) b) here
    ∙ set_both n0.numbers ps qs a b in
    let room : n3.room ≡ n0.room - length (a ∷ b ∷ (ps ++ qs)) = omega arith in
    e4 ∙ ap (λ x. record { numbers = x; room = n3.room }) numbers
    ∙ ap (λ r. record { numbers = n0.numbers ++ (a ∷ b ∷ (ps ++ qs)); room = r }) room

-- ---- flags

pub marked_twice : (flags : List Bool) (a b : List ℕ) → marked (marked flags a) b ≡ marked flags (a ++ b)
marked_twice flags [] b = refl
marked_twice flags (x ∷ a) b = marked_twice (slice_set flags x true) a b

or_nothing : (a : Bool) → a ≡ (a || false)
or_nothing true = refl
or_nothing false = refl

or_true : (a : Bool) → (a || true) ≡ true
or_true true = refl
or_true false = refl

or_assoc : (a b c : Bool) → ((a || b) || c) ≡ (a || (b || c))
or_assoc true b c = refl
or_assoc false b c = refl

-- a flag is set where it was, or where its number is among those that were marked
pub flag_of : (flags : List Bool) (xs : List ℕ) (r : ℕ) → r < length flags
    → get_or (marked flags xs) r false ≡ (get_or flags r false || is_in xs r)
flag_of flags [] r inside = or_nothing (get_or flags r false)
flag_of flags (x ∷ xs) r inside =
    let size : length (slice_set flags x true) ≡ length flags = length-set flags x true in
    flag_of (slice_set flags x true) xs r (subst (λ n. r < n) (sym size) inside)
    ∙ ap (λ b. b || is_in xs r) (by (x == r) refl)
    ∙ or_assoc (get_or flags r false) (x == r) (is_in xs r)
  where
    by : (b : Bool) → (x == r) ≡ b → get_or (slice_set flags x true) r false ≡ (get_or flags r false || (x == r))
    by true e = let same : x ≡ r = grind (arith, nat_tests) in
        rw e (subst (λ q. get_or (slice_set flags q true) r false ≡ (get_or flags r false || true)) (sym same)
        (get_or-set_same flags r true false inside ∙ sym (or_true (get_or flags r false))))
    by false e = let other : r ≢ x = grind (arith, nat_tests) in
        rw e (get_or-set_other flags x r true false other ∙ or_nothing (get_or flags r false))
