-- The layouts of a count of names give each name a place of its own.
use Rattle.std.proofs.Common.{min, ◌&&◌, ◌≡◌, ℕ, ◌+◌, ◌-◌, ◌<◌, ◌≤◌, nat_le, nat_lt, Bool}
use Rattle.std.proofs.Common.{true, false, if◌then◌else◌, List, [], ◌∷◌, refl, ap, arith}
use Rattle.std.proofs.lemmas.Bool.Decides.{nat_tests}
use Rattle.br_flatimp.specs.declared.program.FlatFunc.{FlatFunc}
use Rattle.std.specs.List.{list_all}
use Rattle.br_flatimp.specs.WellFormed.{is_list_of_names, is_well_formed_statement, is_well_formed_head}
use Rattle.br_flatimp.specs.WellFormed.{is_well_formed_function, names_differ, IsWellFormed}
use Rattle.br_spill.proofs.Form.{and-first, and-second, both}
use Rattle.br_spill.specs.Spill.{Layout, holds_names, is_inside, Fits, register_of, few_places, more_places}
use Rattle.br_spill.specs.Spill.{wide_places, layout_of, wide_layout, layout_by, spilled_function}
use Rattle.br_spill.specs.Spill.{program_by, spilled_program, SpilledFunctions, is_narrow}
use Rattle.br_spill.specs.declared.place.Kind.{Kind}
use Rattle.br_spill.specs.declared.place.Kind.TheVariants.{Narrow, Wide}
use Rattle.br_spill.specs.declared.place.Place.TheVariants.{Register, Slot}

register-same : (r q : ℕ) → Register r ≡ Register q → r ≡ q
register-same r q e = cc e

slot-same : (r q : ℕ) → Slot r ≡ Slot q → r ≡ q
slot-same r q e = cc e

-- ---- registers

few-inside : (x : ℕ) → x < 21 → holds_names 32 0 (register_of 3 x) ≡ true
few-inside x less = by (nat_lt x 7) refl
  where
    by : (b : Bool) → nat_lt x 7 ≡ b → holds_names 32 0 (if b then 3 + x else min x 20 + 3 + 8) ≡ true
    by true e = low (3 + x) (omega arith) (let l : x < 7 = grind (arith, nat_tests) in omega (arith, l))
      where
        low : (r : ℕ) → 3 ≤ r → r ≤ 9 → holds_names 32 0 r ≡ true
        low r a b = grind (arith, nat_tests)
    by false e =
        high (min x 20 + 3 + 8) (let l : 7 ≤ x = grind (arith, nat_tests) in omega (arith, l)) (omega (arith, less))
      where
        high : (r : ℕ) → 18 ≤ r → r ≤ 31 → holds_names 32 0 r ≡ true
        high r a b = grind (arith, nat_tests)

more-inside : (slots x : ℕ) → x < 18 → holds_names 32 slots (register_of 6 x) ≡ true
more-inside slots x less = by (nat_lt x 4) refl
  where
    by : (b : Bool) → nat_lt x 4 ≡ b → holds_names 32 slots (if b then 6 + x else min x 20 + 6 + 8) ≡ true
    by true e = low (6 + x) (omega arith) (let l : x < 4 = grind (arith, nat_tests) in omega (arith, l))
      where
        low : (r : ℕ) → 6 ≤ r → r ≤ 9 → holds_names 32 slots r ≡ true
        low r a b = grind (arith, nat_tests)
    by false e =
        high (min x 20 + 6 + 8) (let l : 4 ≤ x = grind (arith, nat_tests) in omega (arith, l)) (omega (arith, less))
      where
        high : (r : ℕ) → 18 ≤ r → r ≤ 31 → holds_names 32 slots r ≡ true
        high r a b = grind (arith, nat_tests)

few-apart : (x y : ℕ) → x ≤ 20 → y ≤ 20 → register_of 3 x ≡ register_of 3 y → x ≡ y
few-apart x y r s e = by (nat_lt x 7) (nat_lt y 7) refl refl e
  where
    by : (a b : Bool) → nat_lt x 7 ≡ a → nat_lt y 7 ≡ b
        → (if a then 3 + x else min x 20 + 3 + 8) ≡ (if b then 3 + y else min y 20 + 3 + 8) → x ≡ y
    by true true f g e = omega (arith, e)
    by false false f g e = omega (arith, e, r, s)
    by true false f g e = let l : x < 7 = grind (arith, nat_tests) in absurd (omega (arith, e, l))
    by false true f g e = let l : y < 7 = grind (arith, nat_tests) in absurd (omega (arith, e, l))

more-apart : (x y : ℕ) → x ≤ 20 → y ≤ 20 → register_of 6 x ≡ register_of 6 y → x ≡ y
more-apart x y r s e = by (nat_lt x 4) (nat_lt y 4) refl refl e
  where
    by : (a b : Bool) → nat_lt x 4 ≡ a → nat_lt y 4 ≡ b
        → (if a then 6 + x else min x 20 + 6 + 8) ≡ (if b then 6 + y else min y 20 + 6 + 8) → x ≡ y
    by true true f g e = omega (arith, e)
    by false false f g e = omega (arith, e, r, s)
    by true false f g e = let l : x < 4 = grind (arith, nat_tests) in absurd (omega (arith, e, l))
    by false true f g e = let l : y < 4 = grind (arith, nat_tests) in absurd (omega (arith, e, l))

places-apart : (x y : ℕ) → x ≤ 1048575 → y ≤ 1048575 → more_places x ≡ more_places y → x ≡ y
places-apart x y small small2 e = by (nat_lt x 18) (nat_lt y 18) refl refl e
  where
    by : (a b : Bool) → nat_lt x 18 ≡ a → nat_lt y 18 ≡ b → (if a then Register (register_of 6 x)
        else Slot (min x 1048575 - 18)) ≡ (if b then Register (register_of 6 y) else Slot (min y 1048575 - 18)) → x ≡ y
    by true true f g e =
        let l : x < 18 = grind (arith, nat_tests) in
        let r : y < 18 = grind (arith, nat_tests) in
        more-apart x y (omega (arith, l)) (omega (arith, r)) (register-same (register_of 6 x) (register_of 6 y) e)
    by false false f g e =
        let is = slot-same (min x 1048575 - 18) (min y 1048575 - 18) e in
        let l : 18 ≤ x = grind (arith, nat_tests) in
        let r : 18 ≤ y = grind (arith, nat_tests) in
        omega (arith, is, l, r, small, small2)
    by true false f g e = absurd (cc e)
    by false true f g e = absurd (cc e)

-- ---- layouts

pub layout-fits : (names : ℕ) → names ≤ 1048576 → Fits names (layout_of names)
layout-fits names most = by (nat_le names 21) refl
  where
    by : (b : Bool)
        → nat_le names 21 ≡ b → Fits names (if b then record { place = few_places; slots = 0; registers = 32 }
        else record { place = more_places; slots = min names 1048576 - 18; registers = 32 })
    by true e =
        let few : names ≤ 21 = grind (arith, nat_tests) in
        record {
          inside = λ x less. few-inside x (omega (arith, few, less));
          apart = λ x y less under same. few-apart x y (omega (arith, few, less)) (omega (arith, few, under))
              (register-same (register_of 3 x) (register_of 3 y) same);
          few = omega arith;
          enough = omega arith;
          most = omega arith;
        }
    by false e = record {
      inside = λ x less. inside x less (nat_lt x 18) refl;
      apart = λ x y less under same. places-apart x y (omega (arith, less, most)) (omega (arith, under, most)) same;
      few = omega arith;
      enough = omega arith;
      most = omega arith;
    }
      where
        inside : (x : ℕ) → x < names → (b : Bool) → nat_lt x 18 ≡ b → is_inside 32 (min names 1048576 - 18) (if b
            then Register (register_of 6 x) else Slot (min x 1048575 - 18)) ≡ true
        inside x less true f = more-inside (min names 1048576 - 18) x (grind (arith, nat_tests))
        inside x less false f =
            let l : 18 ≤ x = grind (arith, nat_tests) in
            slot (min x 1048575 - 18) (min names 1048576 - 18) (omega (arith, l, less, most))
          where
            slot : (a b : ℕ) → a < b → nat_lt a b ≡ true
            slot a b l = grind (arith, nat_tests)

-- the layout, by the test of the count
abbrev layout_where : ℕ → Bool → Layout
layout_where names b = if b then record { place = few_places; slots = 0; registers = 32 }
    else record { place = more_places; slots = min names 1048576 - 18; registers = 32 }

pub few-slots : (names : ℕ) → names ≤ 21 → (layout_of names).slots ≡ 0
few-slots names few = ap (λ b. (layout_where names b).slots) (test names few)
  where
    test : (names : ℕ) → names ≤ 21 → nat_le names 21 ≡ true
    test names few = grind (arith, nat_tests)

-- by this layout each name is a register of register form
narrow-registers : (names : ℕ) → (layout_of names).registers ≡ 32
narrow-registers names = by (nat_le names 21)
  where
    by : (b : Bool) → (layout_where names b).registers ≡ 32
    by true = refl
    by false = refl

pub program-narrow : (fs : List FlatFunc) → list_all is_narrow (spilled_program fs) ≡ true
program-narrow [] = refl
program-narrow (f ∷ fs) =
    both (is_narrow (spilled_function (layout_of f.names) f)) (list_all is_narrow (spilled_program fs))
    (ap (λ n. nat_le n 32) (narrow-registers f.names)) (program-narrow fs)

-- ---- wide layouts

abbrev wide_where : ℕ → Bool → Layout
wide_where names b = if b then record { place = wide_places; slots = 0; registers = 32 + names } else layout_of names

pub wide-fits : (names : ℕ) → names ≤ 1048576 → Fits names (wide_layout names)
wide-fits names most = by (nat_le names 1048544) refl
  where
    holds : (r : ℕ) → 32 ≤ r → r < 32 + names → holds_names (32 + names) 0 r ≡ true
    holds r low high = grind (arith, nat_tests)

    by : (b : Bool) → nat_le names 1048544 ≡ b → Fits names (wide_where names b)
    by true e =
        let few : names ≤ 1048544 = grind (arith, nat_tests) in
        record {
          inside = λ x less. holds (32 + min x 1048543) (omega arith) (omega (arith, few, less));
          apart = λ x y less under same. let is = register-same (32 + min x 1048543) (32 + min y 1048543) same in
              omega (arith, is, few, less, under);
          few = omega arith;
          enough = omega arith;
          most = omega (arith, few);
        }
    by false e = layout-fits names most

wide-where : (names : ℕ) → names ≤ 1048544 → wide_layout names ≡ wide_where names true
wide-where names few = ap (wide_where names) (test names few)
  where
    test : (names : ℕ) → names ≤ 1048544 → nat_le names 1048544 ≡ true
    test names few = grind (arith, nat_tests)

pub wide-registers : (names : ℕ) → names ≤ 1048544 → (wide_layout names).registers ≡ 32 + names
wide-registers names few = ap (λ l. l.registers) (wide-where names few)

pub wide-slots : (names : ℕ) → names ≤ 1048544 → (wide_layout names).slots ≡ 0
wide-slots names few = ap (λ l. l.slots) (wide-where names few)

-- ---- programs

by-fits : (kind : Kind) (names : ℕ) → names ≤ 1048576 → Fits names (layout_by kind names)
by-fits Narrow names most = layout-fits names most
by-fits Wide names most = wide-fits names most

program-spilled : (kind : Kind) (fs : List FlatFunc) → list_all is_well_formed_head fs ≡ true
    → SpilledFunctions (program_by kind fs) fs
program-spilled kind [] h = tt
program-spilled kind (f ∷ fs) h = (
  (
    layout_by kind f.names,
    by-fits kind f.names (most f (and-first (is_well_formed_head f) (list_all is_well_formed_head fs) h)),
    refl,
  ),
  program-spilled kind fs (and-second (is_well_formed_head f) (list_all is_well_formed_head fs) h),
)
  where
    at-most : (a b : ℕ) → nat_le a b ≡ true → a ≤ b
    at-most a b e = grind (arith, nat_tests)

    most : (f : FlatFunc) → is_well_formed_head f ≡ true → f.names ≤ 1048576
    most f h = at-most f.names 1048576
        (three (nat_le f.names 1048576) (is_list_of_names f.names f.args) (is_list_of_names f.names f.results) h)
      where
        three : (a b c : Bool) → (a && b && c) ≡ true → a ≡ true
        three true b c h = refl
        three false b c h = absurd (cc h)

-- heads that are well formed, of functions that are
heads : (ps fs : List FlatFunc) → list_all (is_well_formed_function ps) fs ≡ true
    → list_all is_well_formed_head fs ≡ true
heads ps [] h = refl
heads ps (f ∷ fs) h =
    both (is_well_formed_head f) (list_all is_well_formed_head fs)
    (and-first (is_well_formed_head f) (list_all (is_well_formed_statement ps f.names) f.body)
    (and-first (is_well_formed_function ps f) (list_all (is_well_formed_function ps) fs) h))
    (heads ps fs (and-second (is_well_formed_function ps f) (list_all (is_well_formed_function ps) fs) h))

pub well-formed-spilled : (kind : Kind) (fs : List FlatFunc) → IsWellFormed fs
    → SpilledFunctions (program_by kind fs) fs
well-formed-spilled kind fs h =
    program-spilled kind fs (heads fs fs (and-second (names_differ fs) (list_all (is_well_formed_function fs) fs) h))
