-- Functions whose names all have registers: each of their statements but a call is one statement with registers
-- for names.
use Rattle.std.proofs.Common.{◌≡◌, ℕ, ◌<◌, ◌≤◌, ◌==◌, ◌||◌, nat_lt, Bool, true, false, suc, List}
use Rattle.std.proofs.Common.{[], ◌∷◌, ◌++◌, append-nil, map, refl, sym, ap, subst, ◌∙◌, arith}
use Rattle.std.proofs.lemmas.Bool.Decides.{nat_tests}
use Rattle.br_flatimp.specs.declared.program.Operand.TheVariants as operand
use Rattle.br_flatimp.specs.declared.program.Cond.TheVariants.{NonZero, Compare}
use Rattle.br_flatimp.specs.declared.program.Stmt.{Stmt}
use Rattle.br_flatimp.specs.declared.program.Stmt.TheOpen.{Stmt-F}
use Rattle.br_flatimp.specs.declared.program.Stmt.TheViews.{roll-Stmt}
use Rattle.br_flatimp.specs.Parts.{written, read}
use Rattle.br_flatimp.specs.Liveness.{is_in}
use Rattle.br_flatimp.specs.Renaming.{renamed_step}
use Rattle.br_flatimp.specs.WellFormed.{are_below}
use Rattle.br_spill.specs.Spill.{Layout, is_inside, Fits, at, put, pass, passes, takes, joined, spilled_step}
use Rattle.br_spill.specs.declared.place.Place.{Place}
use Rattle.br_spill.specs.declared.place.Place.TheVariants.{Register, Slot}
use Rattle.br_spill.proofs.Form.{and-first, and-second}
use Rattle.br_spill.proofs.Scene.{not_passing}

-- ---- registers of names

pub record Plain (l : Layout) (names : ℕ) : Type 0 where
  pub to : ℕ → ℕ
  pub place : (x : ℕ) → x < names → l.place x ≡ Register (to x)
  pub apart : (x y : ℕ) → x < names → y < names → to x ≡ to y → x ≡ y
  -- no word is passed in it
  pub free : (x r : ℕ) → x < names → 10 ≤ r → r ≤ 17 → to x ≡ r → ⊥

pub plain : (names : ℕ) (l : Layout) → Fits names l → l.slots ≡ 0 → Plain l names
plain names l fits none = record {
  to = λ x. at (l.place x) 4;
  place = in_register;
  apart = λ x y less under same.
      fits.apart x y less under (in_register x less ∙ ap Register same ∙ sym (in_register y under));
  free = λ x r less low high is.
      not_passing l.registers l.slots r (subst (λ p. is_inside l.registers l.slots p ≡ true)
      (in_register x less ∙ ap Register is) (fits.inside x less)) low high;
}
  where
    in_register : (x : ℕ) → x < names → l.place x ≡ Register (at (l.place x) 4)
    in_register x less =
        by (l.place x) (subst (λ n. is_inside l.registers n (l.place x) ≡ true) none (fits.inside x less))
      where
        by : (p : Place) → is_inside l.registers 0 p ≡ true → p ≡ Register (at p 4)
        by (Register r) h = refl
        by (Slot k) h = absurd (below-none k h)
          where
            below-none : (k : ℕ) → nat_lt k 0 ≡ true → ⊥
            below-none k h = grind (arith, nat_tests)

-- ---- names that are below a count

below : (x n : ℕ) → nat_lt x n ≡ true → x < n
below x n e = grind (arith, nat_tests)

pub first-below : (names x : ℕ) (xs : List ℕ) → are_below names (x ∷ xs) ≡ true → x < names
first-below names x xs h = below x names (and-first (nat_lt x names) (are_below names xs) h)

pub rest-below : (names x : ℕ) (xs : List ℕ) → are_below names (x ∷ xs) ≡ true → are_below names xs ≡ true
rest-below names x xs h = and-second (nat_lt x names) (are_below names xs) h

same-test : (a b c d : ℕ) → (a ≡ b → c ≡ d) → (c ≡ d → a ≡ b) → (a == b) ≡ (c == d)
same-test a b c d there back = by (a == b) (c == d) refl refl
  where
    equal : (m n : ℕ) → (m == n) ≡ true → m ≡ n
    equal m n e = grind (arith, nat_tests)

    test : (m n : ℕ) → m ≡ n → (m == n) ≡ true
    test m n e = grind (arith, nat_tests)

    by : (p q : Bool) → (a == b) ≡ p → (c == d) ≡ q → p ≡ q
    by true true e f = refl
    by false false e f = refl
    by true false e f = sym (test c d (there (equal a b e))) ∙ f
    by false true e f = sym e ∙ test a b (back (equal c d f))

-- a register is among those of names where its name is among them
pub is_in-registers : (l : Layout) (names : ℕ) (g : Plain l names) (xs : List ℕ) (x : ℕ)
    → are_below names xs ≡ true → x < names
    → is_in (map g.to xs) (g.to x) ≡ is_in xs x
is_in-registers l names g [] x h less = refl
is_in-registers l names g (y ∷ ys) x h less =
    ap (λ b. b || is_in (map g.to ys) (g.to x))
    (same-test (g.to y) (g.to x) y x (g.apart y x (first-below names y ys h) less) (ap g.to))
    ∙ ap (λ b. (y == x) || b) (is_in-registers l names g ys x (rest-below names y ys h) less)

-- ---- one statement for a statement

abbrev pub is_call : {X : Type 0} → Stmt-F X → Bool
is_call (Stmt-F.Call xs g ys) = true
is_call (Stmt-F.Lit x n) = false
is_call (Stmt-F.Copy x y) = false
is_call (Stmt-F.Op x op y z) = false
is_call (Stmt-F.Load x size y offset) = false
is_call (Stmt-F.Store size y z offset) = false
is_call (Stmt-F.Table x size bytes y) = false
is_call (Stmt-F.Stackalloc x n body) = false
is_call (Stmt-F.If test first second) = false
is_call (Stmt-F.Loop first test last) = false
is_call (Stmt-F.Read x y) = false
is_call (Stmt-F.Write y z) = false

-- a statement with the statements of its parts joined
abbrev pub with_joined : Stmt-F (List Stmt) → Stmt-F Stmt
with_joined (Stmt-F.Stackalloc x n body) = Stmt-F.Stackalloc x n (joined body)
with_joined (Stmt-F.If test first second) = Stmt-F.If test (joined first) (joined second)
with_joined (Stmt-F.Loop first test last) = Stmt-F.Loop (joined first) test (joined last)
with_joined (Stmt-F.Lit x n) = Stmt-F.Lit x n
with_joined (Stmt-F.Copy x y) = Stmt-F.Copy x y
with_joined (Stmt-F.Op x op y z) = Stmt-F.Op x op y z
with_joined (Stmt-F.Load x size y offset) = Stmt-F.Load x size y offset
with_joined (Stmt-F.Store size y z offset) = Stmt-F.Store size y z offset
with_joined (Stmt-F.Table x size bytes y) = Stmt-F.Table x size bytes y
with_joined (Stmt-F.Call xs g ys) = Stmt-F.Call xs g ys
with_joined (Stmt-F.Read x y) = Stmt-F.Read x y
with_joined (Stmt-F.Write y z) = Stmt-F.Write y z

module _ (l : Layout) (names : ℕ) (g : Plain l names)
  where
    first-place : (x : ℕ) (xs : List ℕ) → are_below names (x ∷ xs) ≡ true → l.place x ≡ Register (g.to x)
    first-place x xs h = g.place x (first-below names x xs h)

    second-place : (x y : ℕ) (ys : List ℕ) → are_below names (x ∷ y ∷ ys) ≡ true → l.place y ≡ Register (g.to y)
    second-place x y ys h = first-place y ys (rest-below names x (y ∷ ys) h)

    pub one-statement : (y : Stmt-F (List Stmt)) → is_call y ≡ false → are_below names (written y) ≡ true
        → are_below names (read y) ≡ true
        → spilled_step l y ≡ roll-Stmt (renamed_step g.to (with_joined y)) ∷ []
    one-statement (Stmt-F.Lit x n) c h k = rw (first-place x [] h) refl
    one-statement (Stmt-F.Copy x y) c h k = rw (first-place x [] h, first-place y [] k) refl
    one-statement (Stmt-F.Op x op y (operand.Name z)) c h k =
        rw (first-place x [] h, first-place y (z ∷ []) k, second-place y z [] k) refl
    one-statement (Stmt-F.Op x op y (operand.Const n)) c h k = rw (first-place x [] h, first-place y [] k) refl
    one-statement (Stmt-F.Load x size y offset) c h k = rw (first-place x [] h, first-place y [] k) refl
    one-statement (Stmt-F.Store size y z offset) c h k = rw (first-place y (z ∷ []) k, second-place y z [] k) refl
    one-statement (Stmt-F.Table x size bytes y) c h k = rw (first-place x [] h, first-place y [] k) refl
    one-statement (Stmt-F.Stackalloc x n body) c h k = rw (first-place x [] h) refl
    one-statement (Stmt-F.If (NonZero y) first second) c h k = rw (first-place y [] k) refl
    one-statement (Stmt-F.If (Compare rel y z) first second) c h k =
        rw (first-place y (z ∷ []) k, second-place y z [] k) refl
    one-statement (Stmt-F.Loop first (NonZero y) last) c h k = rw (first-place y [] k, append-nil (joined first)) refl
    one-statement (Stmt-F.Loop first (Compare rel y z) last) c h k =
        rw (first-place y (z ∷ []) k, second-place y z [] k, append-nil (joined first)) refl
    one-statement (Stmt-F.Call xs f ys) c h k = absurd (cc c)
    one-statement (Stmt-F.Read x y) c h k = rw (first-place x [] h, first-place y [] k) refl
    one-statement (Stmt-F.Write y z) c h k = rw (first-place y (z ∷ []) k, second-place y z [] k) refl

-- ---- copies

-- a register to each of names in order, and from them
abbrev pub taken : (ℕ → ℕ) → List ℕ → ℕ → List Stmt
taken to [] from = []
taken to (x ∷ xs) from = roll-Stmt (Stmt-F.Copy (to x) from) ∷ taken to xs (suc from)

abbrev pub passed : (ℕ → ℕ) → List ℕ → ℕ → List Stmt
passed to [] reg = []
passed to (y ∷ ys) reg = roll-Stmt (Stmt-F.Copy reg (to y)) ∷ passed to ys (suc reg)

pub takes-copies : (l : Layout) (names : ℕ) (g : Plain l names) (xs : List ℕ) (from : ℕ) → are_below names xs ≡ true
    → takes (map l.place xs) from ≡ taken g.to xs from
takes-copies l names g [] from h = refl
takes-copies l names g (x ∷ xs) from h =
    ap (λ p. put p from ++ takes (map l.place xs) (suc from)) (g.place x (first-below names x xs h))
    ∙ ap (λ rest. roll-Stmt (Stmt-F.Copy (g.to x) from) ∷ rest)
    (takes-copies l names g xs (suc from) (rest-below names x xs h))

pub passes-copies : (l : Layout) (names : ℕ) (g : Plain l names) (ys : List ℕ) (reg : ℕ) → are_below names ys ≡ true
    → passes (map l.place ys) reg ≡ passed g.to ys reg
passes-copies l names g [] reg h = refl
passes-copies l names g (y ∷ ys) reg h =
    ap (λ p. pass p reg ++ passes (map l.place ys) (suc reg)) (g.place y (first-below names y ys h))
    ∙ ap (λ rest. roll-Stmt (Stmt-F.Copy reg (g.to y)) ∷ rest)
    (passes-copies l names g ys (suc reg) (rest-below names y ys h))
