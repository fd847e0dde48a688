-- The registers that a function saves, as those of a set.
use Rattle.std.proofs.Common.{◌≡◌, ℕ, zero, suc, ◌+◌, ◌-◌, ◌<◌, ◌≤◌, if◌then◌else◌, Bool, true, false, List}
use Rattle.std.proofs.Common.{[], ◌∷◌, ◌++◌, length, refl, sym, ap, ◌∙◌, arith, append_assoc, length-append}
use Rattle.std.specs.Prelude.{All, filter}
use Rattle.std.proofs.lemmas.List.Elements.{All-nil, All-cons}
use Rattle.br_flatimp.specs.declared.program.FlatFunc.{FlatFunc}
use Rattle.br_flatimp.specs.Runs.{Forgets}
use Rattle.br_emit.specs.Code.{count_up, registers, is_saved, saves, touches, framed}
use Rattle.br_emit.specs.Registers.{has}

-- one register or none
abbrev pub one_if : Bool → ℕ → List ℕ
one_if b r = if b then r ∷ [] else []

filter_step : (p : ℕ → Bool) (r : ℕ) (rs : List ℕ) → filter p (r ∷ rs) ≡ one_if (p r) r ++ filter p rs
filter_step p r rs = pick (p r)
  where
    pick : (b : Bool) → (if b then r ∷ filter p rs else filter p rs) ≡ one_if b r ++ filter p rs
    pick true = refl
    pick false = refl

pub keep_more : (p : ℕ → Bool) (found found' whole : List ℕ) (r : ℕ) → r < 32 → found' ≡ found ++ one_if (p r) r
    → found ++ filter p (count_up r (32 - r)) ≡ whole
    → found' ++ filter p (count_up (r + 1) (32 - (r + 1))) ≡ whole
keep_more p found found' whole r inside new before =
    let n : 32 - r ≡ suc (32 - (r + 1)) = omega arith in
    let step : filter p (count_up r (32 - r)) ≡ one_if (p r) r ++ filter p (count_up (r + 1) (32 - (r + 1))) =
    ap (λ n. filter p (count_up r n)) n ∙ filter_step p r (count_up (r + 1) (32 - (r + 1))) in
    ap (λ f. f ++ filter p (count_up (r + 1) (32 - (r + 1)))) new
    ∙ append_assoc found (one_if (p r) r) (filter p (count_up (r + 1) (32 - (r + 1))))
    ∙ ap (λ q. found ++ q) (sym step)
    ∙ before

one_most : (b : Bool) (r : ℕ) → length (one_if b r) ≤ 1
one_most true r = omega arith
one_most false r = omega arith

pub keep_few : (b : Bool) (found found' : List ℕ) (r : ℕ) → found' ≡ found ++ one_if b r → length found + 2 ≤ r
    → length found' + 2 ≤ r + 1
keep_few b found found' r new few =
    let size = ap length new ∙ length-append found (one_if b r) in
    let one = one_most b r in
    omega arith

filter_same : (p q : ℕ → Bool) (a n : ℕ) → ((r : ℕ) → r < a + n → p r ≡ q r)
    → filter p (count_up a n) ≡ filter q (count_up a n)
filter_same p q a zero same = refl
filter_same p q a (suc n) same =
    filter_step p a (count_up (a + 1) n)
    ∙ ap (λ b. one_if b a ++ filter p (count_up (a + 1) n)) (same a (omega arith))
    ∙ ap (λ rs. one_if (q a) a ++ rs) (filter_same p q (a + 1) n (λ r less. same r (omega arith)))
    ∙ sym (filter_step q a (count_up (a + 1) n))

small : (p : ℕ → Bool) (a n : ℕ) → a + n ≤ 32 → All (λ r. r < 32) (filter p (count_up a n))
small p a zero less = All-nil (λ r. r < 32)
small p a (suc n) less = pick (p a) (small p (a + 1) n (omega arith)) (omega arith)
  where
    pick : (b : Bool) → All (λ r. r < 32) (filter p (count_up (a + 1) n)) → a < 32
        → All (λ r. r < 32) (if b then a ∷ filter p (count_up (a + 1) n) else filter p (count_up (a + 1) n))
    pick true h k = All-cons (λ r. r < 32) a (filter p (count_up (a + 1) n)) k h
    pick false h k = h

pub saves_small : (forgets : Forgets) (n : ℕ) (f : FlatFunc) → All (λ r. r < 32) (saves forgets n f)
saves_small forgets n f = small (is_saved forgets n f) 3 29 (omega arith)

filter_most : (p : ℕ → Bool) (xs : List ℕ) → length (filter p xs) ≤ length xs
filter_most p [] = omega arith
filter_most p (x ∷ xs) = pick (p x) (filter_most p xs)
  where
    pick : (b : Bool) → length (filter p xs) ≤ length xs
        → length (if b then x ∷ filter p xs else filter p xs) ≤ suc (length xs)
    pick true h = omega arith
    pick false h = omega arith

pub saves_few : (forgets : Forgets) (n : ℕ) (f : FlatFunc) → length (saves forgets n f) ≤ 29
saves_few forgets n f = filter_most (is_saved forgets n f) registers

-- the registers of a set that are the ones to save
pub saves_from : (set : ℕ) (forgets : Forgets) (n : ℕ) (f : FlatFunc)
    → ((r : ℕ) → r < 32 → has set r ≡ is_saved forgets n f r) → filter (has set) registers ≡ saves forgets n f
saves_from set forgets n f same = filter_same (has set) (is_saved forgets n f) 3 29 (λ r inside. same r inside)

pub framed_few : (near : Bool) (forgets : Forgets) (n : ℕ) (f : FlatFunc) → length (framed near forgets n f) ≤ 30
framed_few near forgets n f = by (touches near forgets f 1) (saves_few forgets n f)
  where
    by : (t : Bool) → length (saves forgets n f) ≤ 29
        → length (if t then 1 ∷ saves forgets n f else saves forgets n f) ≤ 30
    by true h = omega arith
    by false h = omega arith

pub framed_small : (near : Bool) (forgets : Forgets) (n : ℕ) (f : FlatFunc)
    → All (λ r. r < 32) (framed near forgets n f)
framed_small near forgets n f = by (touches near forgets f 1) (saves_small forgets n f)
  where
    by : (t : Bool) → All (λ r. r < 32) (saves forgets n f)
        → All (λ r. r < 32) (if t then 1 ∷ saves forgets n f else saves forgets n f)
    by true h = All-cons (λ r. r < 32) 1 (saves forgets n f) (omega arith) h
    by false h = h
