-- The rows of statements with parts, from the last to the first, and turns at the end of a list.
use Rattle.std.proofs.Common.{◌≡◌, ℕ, zero, suc, ◌+◌, ◌<◌, ◌≤◌, List, [], ◌∷◌, ◌++◌, map, reverse}
use Rattle.std.proofs.Common.{length, get_or, take, drop, refl, sym, ap, ◌∙◌, append_assoc, arith}
use Rattle.std.proofs.lemmas.List.{map-append, reverse-append}
use Rattle.std.proofs.lemmas.Grind.{common_steps}
use denote.Param.Weighed.{most}
use Rattle.br_flatimp.specs.declared.program.Cond.{Cond}
use Rattle.br_flatimp.specs.declared.program.Stmt.{Stmt}
use Rattle.br_flatimp.specs.declared.program.Stmt.TheOpen.{Stmt-F}
use Rattle.br_flatimp.specs.declared.program.Stmt.TheVariants.{Stackalloc, If, Loop, rolls-Stackalloc}
use Rattle.br_flatimp.specs.declared.program.Stmt.TheVariants.{rolls-If, rolls-Loop}
use Rattle.br_flatimp.specs.declared.program.Stmt.TheFolds.{fold-roll-Stmt}
use Rattle.br_flatimp.specs.Values.{Names}
use Rattle.br_flatimp.specs.Liveness.{Live, Moment, live, live_step, moments, before_all, at_test}
use Rattle.br_live.specs.declared.bit_set.BitSet.{BitSet}
use Rattle.br_live.specs.BitSets.{set_of}
use Rattle.br_live.specs.Tables.{Row, row, rows_after}

pub at_most : {X : Type 0} (size : X → ℕ) (xs : List X) (k : ℕ) (d : X) → k < length xs
    → size (get_or xs k d) ≤ most size xs
at_most size [] k d inside = absurd (omega arith)
at_most size (x ∷ xs) zero d inside = omega arith
at_most size (x ∷ xs) (suc k) d inside = omega (arith, at_most size xs k d (omega arith))

abbrev pub row_with : ℕ → Names → Row
row_with b set = record { bound = b; set = set }

-- a set that is added at the end
pub pushed : (xs : List BitSet) (s : BitSet) (b : ℕ) (set : Names) → s.bound ≡ b → set_of s ≡ set
    → map row (xs ++ s ∷ []) ≡ map row xs ++ row_with b set ∷ []
pushed xs s b set h k =
    map-append row xs (s ∷ [])
    ∙ ap (λ (n : ℕ). map row xs ++ row_with n (set_of s) ∷ []) h
    ∙ ap (λ (e : Names). map row xs ++ row_with b e ∷ []) k

-- ---- the rows of statements with parts

backward-one : (b : ℕ) (a : Names) (xs : List Moment)
    → reverse (row_with b a ∷ rows_after b xs) ≡ reverse (rows_after b xs) ++ row_with b a ∷ []
backward-one b a xs = reverse-append (row_with b a ∷ []) (rows_after b xs)

pub backward-append : (b : ℕ) (xs ys : List Moment)
    → reverse (rows_after b (xs ++ ys)) ≡ reverse (rows_after b ys) ++ reverse (rows_after b xs)
backward-append b xs ys =
    ap reverse (map-append (λ (m : Moment). row_with b m.after) xs ys)
    ∙ reverse-append (rows_after b xs) (rows_after b ys)

backward-two : (b : ℕ) (a : Names) (xs ys : List Moment) → reverse (row_with b a ∷ rows_after b (xs ++ ys))
    ≡ (reverse (rows_after b ys) ++ reverse (rows_after b xs)) ++ row_with b a ∷ []
backward-two b a xs ys =
    backward-one b a (xs ++ ys) ∙ ap (λ (rs : List Row). rs ++ row_with b a ∷ []) (backward-append b xs ys)

pub backward-stackalloc : (b x n : ℕ) (body : List Stmt) (a : Names) →
    reverse (rows_after b ((live (Stackalloc x n body)).moments a))
    ≡ reverse (rows_after b (moments (map live body) a)) ++ row_with b a ∷ []
backward-stackalloc b x n body a =
    ap (λ (l : Live). reverse (rows_after b (l.moments a)))
    (ap live (sym (rolls-Stackalloc x n body)) ∙ fold-roll-Stmt Live live_step (Stmt-F.Stackalloc x n body))
    ∙ backward-one b a (moments (map live body) a)

pub backward-if : (b : ℕ) (test : Cond) (first second : List Stmt) (a : Names) →
    reverse (rows_after b ((live (If test first second)).moments a))
    ≡ (reverse (rows_after b (moments (map live second) a)) ++ reverse (rows_after b (moments (map live first) a)))
    ++ row_with b a ∷ []
backward-if b test first second a =
    ap (λ (l : Live). reverse (rows_after b (l.moments a)))
    (ap live (sym (rolls-If test first second)) ∙ fold-roll-Stmt Live live_step (Stmt-F.If test first second))
    ∙ backward-two b a (moments (map live first) a) (moments (map live second) a)

pub backward-loop : (b : ℕ) (first : List Stmt) (test : Cond) (last : List Stmt) (a : Names) →
    let t : Names = at_test (map live first) test (map live last) a in
    reverse (rows_after b ((live (Loop first test last)).moments a))
    ≡ (reverse (rows_after b (moments (map live last) (before_all first t)))
    ++ reverse (rows_after b (moments (map live first) t))) ++ row_with b a ∷ []
backward-loop b first test last a =
    let t : Names = at_test (map live first) test (map live last) a in
    ap (λ (l : Live). reverse (rows_after b (l.moments a)))
    (ap live (sym (rolls-Loop first test last)) ∙ fold-roll-Stmt Live live_step (Stmt-F.Loop first test last))
    ∙ backward-two b a (moments (map live first) t) (moments (map live last) (before_all first t))

-- what is added in two parts and then a row
pub in_two : (olds later earlier : List Row) (r : Row)
    → ((olds ++ later) ++ earlier) ++ r ∷ [] ≡ olds ++ ((later ++ earlier) ++ r ∷ [])
in_two olds later earlier r =
    ap (λ (rs : List Row). rs ++ r ∷ []) (append_assoc olds later earlier)
    ∙ append_assoc olds (later ++ earlier) (r ∷ [])

-- ---- the last of a list

pub last_one : {X : Type 0} (xs ys : List X) (x y : X) → xs ++ x ∷ [] ≡ ys ++ y ∷ [] → (xs ≡ ys) × (x ≡ y)
last_one [] [] x y h = (refl, cc h)
last_one [] (e ∷ []) x y h = absurd (cc h)
last_one [] (e ∷ f ∷ ys) x y h = absurd (cc h)
last_one (e ∷ []) [] x y h = absurd (cc h)
last_one (e ∷ f ∷ xs) [] x y h = absurd (cc h)
last_one (e ∷ xs) (f ∷ ys) x y h =
    let rest = last_one xs ys x y (cc h) in
    (cc (h, rest.0), rest.1)

-- a list whose end is in three parts
pub three : {X : Type 0} (rest f l : List X) (t : X) → rest ++ (f ++ (l ++ t ∷ [])) ≡ ((rest ++ f) ++ l) ++ t ∷ []
three rest f l t = sym (append_assoc rest f (l ++ t ∷ [])) ∙ sym (append_assoc (rest ++ f) l (t ∷ []))

-- the elements up to the next
pub take_next : {X : Type 0} (xs : List X) (k : ℕ) (d : X) → k < length xs
    → take (k + 1) xs ≡ take k xs ++ get_or xs k d ∷ []
take_next xs k d inside = grind (arith, common_steps)

pub drop_next : {X : Type 0} (xs : List X) (k : ℕ) (d : X) → k < length xs → drop k xs ≡ get_or xs k d ∷ drop (k + 1) xs
drop_next xs k d inside = grind (arith, common_steps)
