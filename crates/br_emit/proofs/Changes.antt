-- The registers that statements change, and those that their calls may change.
use Rattle.std.proofs.Common.{◌≡◌, ℕ, ◌+◌, ◌<◌, ◌||◌, Bool, true, false, List, [], ◌∷◌}
use Rattle.std.proofs.Common.{◌++◌, length, ◌==◌, drop, get_or, refl, sym, ap, ◌∙◌}
use Rattle.std.specs.List.{flat_map, list_any}
use Rattle.br_flatimp.specs.declared.program.Stmt.{Stmt}
use Rattle.br_flatimp.specs.declared.program.Stmt.TheOpen.{Stmt-F}
use Rattle.br_flatimp.specs.declared.program.Stmt.TheVariants.{Stackalloc}
use Rattle.br_flatimp.specs.Liveness.{is_in}
use Rattle.br_flatimp.specs.Parts.{written, gathered, own_callees}
use Rattle.br_flatimp.specs.Runs.{Forgets}
use Rattle.br_emit.specs.Registers.{has, forgets_of}
use Rattle.br_emit.proofs.Bits.{in-append}
use Rattle.br_emit.proofs.Unrolling.{drop_next, gathered_buffer}

-- a register that lists write, or that calls of functions may change
abbrev pub changes_at : Forgets → List ℕ → List ℕ → ℕ → Bool
changes_at forgets writes calls x = is_in writes x || list_any (λ g. forgets g x) calls

any-append : (p : ℕ → Bool) (xs ys : List ℕ) → list_any p (xs ++ ys) ≡ (list_any p xs || list_any p ys)
any-append p [] ys = refl
any-append p (x ∷ xs) ys = by (p x) (any-append p xs ys)
  where
    by : (b : Bool) → list_any p (xs ++ ys) ≡ (list_any p xs || list_any p ys)
        → (b || list_any p (xs ++ ys)) ≡ ((b || list_any p xs) || list_any p ys)
    by true h = refl
    by false h = h

swap : (a b c d : Bool) → ((a || b) || (c || d)) ≡ ((a || c) || (b || d))
swap true b c d = refl
swap false true true d = refl
swap false true false d = refl
swap false false true d = refl
swap false false false d = refl

pub changes-append : (forgets : Forgets) (w w' c c' : List ℕ) (x : ℕ)
    → changes_at forgets (w ++ w') (c ++ c') x ≡ (changes_at forgets w c x || changes_at forgets w' c' x)
changes-append forgets w w' c c' x =
    ap (λ b. b || list_any (λ g. forgets g x) (c ++ c')) (in-append w w' x)
    ∙ ap (λ b. (is_in w x || is_in w' x) || b) (any-append (λ g. forgets g x) c c')
    ∙ swap (is_in w x) (is_in w' x) (list_any (λ g. forgets g x) c) (list_any (λ g. forgets g x) c')

-- the statements so far are in the set
abbrev pub Changed : List ℕ → ℕ → ℕ → List Stmt → Type 0
Changed sets set i body =
    (x : ℕ) → x < 32 → (has set x || changes_at (forgets_of sets) (flat_map (gathered written) (drop i body))
    (flat_map (gathered own_callees) (drop i body)) x)
    ≡ changes_at (forgets_of sets) (flat_map (gathered written) body) (flat_map (gathered own_callees) body) x

or_assoc : (a b c : Bool) → ((a || b) || c) ≡ (a || (b || c))
or_assoc true b c = refl
or_assoc false b c = refl

pub changed_step : (sets : List ℕ) (set set' one i : ℕ) (body : List Stmt) (s : Stmt) → i < length body
    → s ≡ get_or body i s → ((x : ℕ) → has set' x ≡ (has set x || has one x))
    → ((x : ℕ) → x < 32 → has one x ≡ changes_at (forgets_of sets) (gathered written s) (gathered own_callees s) x)
    → Changed sets set i body → Changed sets set' (i + 1) body
changed_step sets set set' one i body s inside is joined here so_far x below =
    let w = flat_map (gathered written) (drop (i + 1) body) in
    let c = flat_map (gathered own_callees) (drop (i + 1) body) in
    ap (λ b. b || changes_at (forgets_of sets) w c x) (joined x ∙ ap (λ b. has set x || b) (here x below))
    ∙ or_assoc (has set x) (changes_at (forgets_of sets) (gathered written s) (gathered own_callees s) x)
    (changes_at (forgets_of sets) w c x)
    ∙ ap (λ b. has set x || b)
    (sym (changes-append (forgets_of sets) (gathered written s) w (gathered own_callees s) c x))
    ∙ ap (λ (q : List Stmt). has set x || changes_at (forgets_of sets) (flat_map (gathered written) q)
    (flat_map (gathered own_callees) q) x) (sym (drop_next body i s inside is))
    ∙ so_far x below

-- what statements say of themselves, one after another
abbrev pub own_gathered : (Stmt-F (List ℕ) → List ℕ) → List Stmt → List ℕ
own_gathered own body = flat_map (gathered own) body

pub two_gathered : (forgets : Forgets) (s : Stmt) (first second inside1 inside2 : List Stmt) (x : ℕ) → inside1 ≡ first
    → inside2 ≡ second
    → gathered written s ≡ own_gathered written first ++ own_gathered written second
    → gathered own_callees s ≡ own_gathered own_callees first ++ own_gathered own_callees second
    → changes_at forgets (own_gathered written inside1
    ++ own_gathered written inside2) (own_gathered own_callees inside1 ++ own_gathered own_callees inside2) x
    ≡ changes_at forgets (gathered written s) (gathered own_callees s) x
two_gathered forgets s first second inside1 inside2 x same1 same2 writes calls =
    ap (λ q. changes_at forgets (own_gathered written q ++ own_gathered written inside2)
    (own_gathered own_callees q ++ own_gathered own_callees inside2) x) same1
    ∙ ap (λ q. changes_at forgets (own_gathered written first ++ own_gathered written q)
    (own_gathered own_callees first ++ own_gathered own_callees q) x) same2
    ∙ ap (λ q. changes_at forgets q (own_gathered own_callees first ++ own_gathered own_callees second) x) (sym writes)
    ∙ ap (λ q. changes_at forgets (gathered written s) q x) (sym calls)

pub changed_buffer : (sets : List ℕ) (s : Stmt) (y n : ℕ) (body inside : List Stmt) (own one : ℕ)
    → s ≡ Stackalloc y n body → inside ≡ body
    → ((x : ℕ) → x < 32 → has own x ≡ is_in (y ∷ []) x)
    → ((x : ℕ) → x < 32
    → has one x ≡ changes_at (forgets_of sets) (own_gathered written inside) (own_gathered own_callees inside) x)
    → (x : ℕ) → x < 32
    → (has own x || has one x) ≡ changes_at (forgets_of sets) (gathered written s) (gathered own_callees s) x
changed_buffer sets s y n body inside own one is same owned part x below =
    ap (λ b. b || has one x) (owned x below)
    ∙ ap (λ b. is_in (y ∷ []) x || b) (part x below
    ∙ ap (λ q. changes_at (forgets_of sets) (own_gathered written q) (own_gathered own_callees q) x) same)
    ∙ joined (y == x) (is_in (own_gathered written body) x)
    (list_any (λ g. forgets_of sets g x) (own_gathered own_callees body))
    ∙ ap (λ q. changes_at (forgets_of sets) q (own_gathered own_callees body) x)
    (sym (gathered_buffer written s y n body is))
    ∙ ap (λ q. changes_at (forgets_of sets) (gathered written s) q x) (sym (gathered_buffer own_callees s y n body is))
  where
    joined : (a w k : Bool) → ((a || false) || (w || k)) ≡ ((a || w) || k)
    joined true w k = refl
    joined false w k = refl
