-- A program has at most one fault.
use Rattle.std.proofs.Common.{◌≡◌, ℕ, zero, suc, ◌+◌, ◌*◌, ◌/◌, ◌%◌, ◌<◌, ◌≤◌, ◌==◌, if◌then◌else◌, List, [], ◌∷◌, Some}
use Rattle.std.proofs.Common.{length, get_or, map, refl, sym, ap, subst, ◌∙◌, arith, ⊎_elim, Contains}
use Rattle.std.proofs.lemmas.Bool.{cases_order}
use Rattle.br_syntax.specs.declared.program.Func.{Func}
use Rattle.br_syntax.specs.FaultOrder.{IsLowest}
use Rattle.br_syntax.specs.NameFaults as names
use Rattle.br_measure.specs.declared.faults.NameFault.{NameFault}
use Rattle.br_measure.specs.declared.faults.NameFault.TheVariants.{DuplicateFunction, UnknownFunction, WrongArguments}
use Rattle.br_measure.specs.declared.faults.NameFault.TheVariants.{WrongResults, UnknownAction, TooLarge, Recursion}
use Rattle.br_measure.specs.declared.faults.NameFault.TheVariants.{StackTooDeep}
use Rattle.br_measure.specs.Measure.{measure}
use Rattle.br_measure.specs.Names.{place, name_faults}
use Rattle.br_measure.specs.Faults.{IsRecursive, IsTooDeep, IsLaterFault, IsFault}
use Rattle.br_measure.proofs.FoundFaults.{no_name}
use Rattle.br_measure.proofs.SameFaults.{told, faults_same}

-- the fault of names at a place
abbrev fault_at : ℕ → ℕ → NameFault
fault_at at kind =
    if kind == 0 then DuplicateFunction at
    else (if kind == 1 then UnknownFunction at
    else (if kind == 2 then WrongArguments at
    else (if kind == 3 then WrongResults at
    else UnknownAction at)))

back : (n : names.NameFault) → fault_at (place (told n) / 5) (place (told n) % 5) ≡ told n
back (names.DuplicateFunction at) = let q : 5 * at / 5 ≡ at = omega arith in let r : 5 * at % 5 ≡ 0 =
    omega arith in rw (q, r) refl
back (names.UnknownFunction at) = let q : (5 * at + 1) / 5 ≡ at = omega arith in let r : (5 * at + 1) % 5 ≡ 1 =
    omega arith in rw (q, r) refl
back (names.WrongArguments at) = let q : (5 * at + 2) / 5 ≡ at = omega arith in let r : (5 * at + 2) % 5 ≡ 2 =
    omega arith in rw (q, r) refl
back (names.WrongResults at) = let q : (5 * at + 3) / 5 ≡ at = omega arith in let r : (5 * at + 3) % 5 ≡ 3 =
    omega arith in rw (q, r) refl
back (names.UnknownAction at) = let q : (5 * at + 4) / 5 ≡ at = omega arith in let r : (5 * at + 4) % 5 ≡ 4 =
    omega arith in rw (q, r) refl

-- faults of names at one place are the same
same_place : (n m : names.NameFault) → place (told n) ≡ place (told m) → told n ≡ told m
same_place n m e = sym (back n) ∙ ap (λ (p : ℕ). fault_at (p / 5) (p % 5)) e ∙ back m

-- what stands among faults of names is one
told_at : (ns : List names.NameFault) (k : ℕ) (x : NameFault) → k < length (map told ns) → get_or (map told ns) k x ≡ x
    → (n : names.NameFault) × (told n ≡ x)
told_at [] k x inside is = absurd (omega arith)
told_at (n ∷ ns) zero x inside is = (n, is)
told_at (n ∷ ns) (suc k) x inside is = told_at ns k x (omega arith) is

stands_told : (fs : List Func) (x : NameFault) → Contains (name_faults fs) x → (n : names.NameFault) × (told n ≡ x)
stands_told fs x c =
    let here = subst (λ (xs : List NameFault). Contains xs x) (faults_same fs) c in
    told_at (names.name_faults fs) here.0 x here.1 here.2

one_lowest : (fs : List Func) (x y : NameFault) → IsLowest place (name_faults fs) x → IsLowest place (name_faults fs) y
    → x ≡ y
one_lowest fs x y a b =
    let n = stands_told fs x a.stands in
    let m = stands_told fs y b.stands in
    let up : place x ≤ place y =
    subst (λ (z : NameFault). place x ≤ place z) b.stands.2 (a.lowest b.stands.0 y b.stands.1) in
    let down : place y ≤ place x =
    subst (λ (z : NameFault). place y ≤ place z) a.stands.2 (b.lowest a.stands.0 x a.stands.1) in
    let same : place (told n.0) ≡ place (told m.0) = ap place n.1 ∙ omega arith ∙ sym (ap place m.1) in
    sym n.1 ∙ same_place n.0 m.0 same ∙ m.1

one_first : (P : ℕ → Type 0) (f g : ℕ) → P f → ((h : ℕ) → h < f → P h → ⊥) → P g → ((h : ℕ) → h < g → P h → ⊥) → f ≡ g
one_first P f g here first there last =
    ⊎_elim (λ e. e) (λ o. ⊎_elim (λ less. absurd (last f less here)) (λ more. absurd (first g more there)) o)
    (cases_order f g)

one_function : (fs : List Func) (f s t : ℕ) → IsTooDeep fs f s → IsTooDeep fs f t → s ≡ t
one_function fs f s t a b =
    let both : Some a.function ≡ Some b.function = sym a.at ∙ b.at in
    let same : a.function ≡ b.function = cc in
    a.bytes ∙ ap (measure fs) same ∙ sym b.bytes

-- the least of the functions that are too deep, whatever they need
abbrev Deep : List Func → ℕ → Type 0
Deep fs f = (s : ℕ) × IsTooDeep fs f s

one_deep : (fs : List Func) (f s g t : ℕ) → IsTooDeep fs f s → ((h r : ℕ) → h < f → IsTooDeep fs h r → ⊥)
    → IsTooDeep fs g t → ((h r : ℕ) → h < g → IsTooDeep fs h r → ⊥) → StackTooDeep f s ≡ StackTooDeep g t
one_deep fs f s g t here first there last =
    let same : f ≡ g = one_first (Deep fs) f g (s, here) (λ h less d. first h d.0 less d.1) (t, there)
    (λ h less d. last h d.0 less d.1) in
    let moved : IsTooDeep fs g s = subst (λ (h : ℕ). IsTooDeep fs h s) same here in
    let bytes : s ≡ t = one_function fs g s t moved there in
    cc

one_later : (fs : List Func) (x y : NameFault) → IsLaterFault fs x → IsLaterFault fs y → x ≡ y
one_later fs (TooLarge b) (TooLarge c) p q = let same : b ≡ c = p.1 ∙ sym q.1 in ap TooLarge same
one_later fs (TooLarge b) (Recursion g) p q = absurd (omega (arith, p.0, q.0))
one_later fs (TooLarge b) (StackTooDeep g t) p q = absurd (omega (arith, p.0, q.0))
one_later fs (TooLarge b) (DuplicateFunction to) p q = absurd q
one_later fs (TooLarge b) (UnknownFunction to) p q = absurd q
one_later fs (TooLarge b) (WrongArguments to) p q = absurd q
one_later fs (TooLarge b) (WrongResults to) p q = absurd q
one_later fs (TooLarge b) (UnknownAction to) p q = absurd q
one_later fs (Recursion f) (TooLarge c) p q = absurd (omega (arith, p.0, q.0))
one_later fs (Recursion f) (Recursion g) p q = let same : f ≡ g =
    one_first (IsRecursive fs) f g p.1 p.2 q.1 q.2 in ap Recursion same
one_later fs (Recursion f) (StackTooDeep g t) p q = absurd (q.1 f p.1.0 p.1.1)
one_later fs (Recursion f) (DuplicateFunction to) p q = absurd q
one_later fs (Recursion f) (UnknownFunction to) p q = absurd q
one_later fs (Recursion f) (WrongArguments to) p q = absurd q
one_later fs (Recursion f) (WrongResults to) p q = absurd q
one_later fs (Recursion f) (UnknownAction to) p q = absurd q
one_later fs (StackTooDeep f s) (TooLarge c) p q = absurd (omega (arith, p.0, q.0))
one_later fs (StackTooDeep f s) (Recursion g) p q = absurd (p.1 g q.1.0 q.1.1)
one_later fs (StackTooDeep f s) (StackTooDeep g t) p q = one_deep fs f s g t p.2 p.3 q.2 q.3
one_later fs (StackTooDeep f s) (DuplicateFunction to) p q = absurd q
one_later fs (StackTooDeep f s) (UnknownFunction to) p q = absurd q
one_later fs (StackTooDeep f s) (WrongArguments to) p q = absurd q
one_later fs (StackTooDeep f s) (WrongResults to) p q = absurd q
one_later fs (StackTooDeep f s) (UnknownAction to) p q = absurd q
one_later fs (DuplicateFunction at) y p q = absurd p
one_later fs (UnknownFunction at) y p q = absurd p
one_later fs (WrongArguments at) y p q = absurd p
one_later fs (WrongResults at) y p q = absurd p
one_later fs (UnknownAction at) y p q = absurd p

pub one_fault : (fs : List Func) (x y : NameFault) → IsFault fs x → IsFault fs y → x ≡ y
one_fault fs x y p q =
    ⊎_elim
    (λ a. ⊎_elim (λ b. one_lowest fs x y a b) (λ b. absurd (no_name fs b.0 x a)) q)
    (λ a. ⊎_elim (λ b. absurd (no_name fs a.0 y b)) (λ b. one_later fs x y a.1 b.1) q)
    p
