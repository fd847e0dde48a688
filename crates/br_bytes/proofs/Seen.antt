-- Lemmas on the memory that ranges make.
use Rattle.std.proofs.Common.{◌≡◌, ℕ, suc, ◌+◌, ◌-◌, ◌^◌, ◌<◌, ◌≤◌, Bool, true, false, nat_le, List, []}
use Rattle.std.proofs.Common.{◌∷◌, length, Option, Some, None, cond, refl, sym, ap, subst, ◌∙◌, arith}
use Rattle.std.proofs.lemmas.Bool.Decides.{nat_tests}
use Rattle.std.proofs.lemmas.List.{nil_from_length}
use Rattle.std.specs.Prelude.{slice_get}
use Rattle.std.specs.Ordering.{nat_cmp, is_eq, eq_by_cmp}
use Rattle.std.specs.declared.cmp.Ordering.{Ordering}
use Rattle.std.specs.declared.cmp.Ordering.TheVariants.{Less, Equal, Greater}
use Rattle.std.specs.FinMap as map
use Rattle.std.specs.Cmp.{nat_cmp_total}
use Rattle.br_bytes.specs.Memory.{Memory, place, with_bytes}
use Rattle.br_bytes.specs.Range.{Range, end_of, join, runs_of, ranges, or_else, byte_in}
use Rattle.br_bytes.specs.Range.{byte_of, AreApart, entries_at, entries_of, memory_of}
use Rattle.br_bytes.proofs.Ranged.{below_range, within_range}

abbrev pub range : ℕ → List ℕ → Range
range a bs = record { start = a; bytes = bs }

is_below : (q a : ℕ) → nat_cmp q a ≡ Less → q < a
is_below q a e = grind (arith, nat_tests)

is_above : (q a : ℕ) → nat_cmp q a ≡ Greater → a < q
is_above q a e = grind (arith, nat_tests)

less : (q a : ℕ) → q < a → nat_cmp q a ≡ Less
less q a h = grind (arith, nat_tests)

-- a range with one byte more in front
step_at : (a b : ℕ) (bs : List ℕ) (q : ℕ) → q ≡ a → byte_in (range a (b ∷ bs)) q ≡ Some b
step_at a b bs q e =
    let z : q - a ≡ 0 = omega (arith, e) in
    within_range (range a (b ∷ bs)) q (omega (arith, e)) ∙ ap (slice_get (b ∷ bs)) z

step_above : (a b : ℕ) (bs : List ℕ) (q : ℕ) → a < q → byte_in (range a (b ∷ bs)) q ≡ byte_in (range (a + 1) bs) q
step_above a b bs q h =
    let z : q - a ≡ suc (q - (a + 1)) = omega arith in
    within_range (range a (b ∷ bs)) q (omega arith) ∙ ap (slice_get (b ∷ bs)) z
    ∙ sym (within_range (range (a + 1) bs) q (omega arith))

step : (a b : ℕ) (bs : List ℕ) (q : ℕ)
    → byte_in (range a (b ∷ bs)) q ≡ cond (eq_by_cmp nat_cmp q a) (Some b) (byte_in (range (a + 1) bs) q)
step a b bs q = go (nat_cmp q a) refl
  where
    go : (o : Ordering) → nat_cmp q a ≡ o
        → byte_in (range a (b ∷ bs)) q ≡ cond (is_eq o) (Some b) (byte_in (range (a + 1) bs) q)
    go Equal e = step_at a b bs q (map.nat_cmp-IsAntisymmetric q a e)
    go Less e = let h = is_below q a e in
        below_range (range a (b ∷ bs)) q h ∙ sym (below_range (range (a + 1) bs) q (omega (arith, h)))
    go Greater e = step_above a b bs q (is_above q a e)

none_empty : (a q : ℕ) → byte_in (range a []) q ≡ None
none_empty a q = go (nat_le a q)
  where
    go : (t : Bool) → cond t (slice_get {X = ℕ} [] (q - a)) None ≡ None
    go true = refl
    go false = refl

cond_or : (t : Bool) (b : ℕ) (o p : Option ℕ) → cond t (Some b) (or_else o p) ≡ or_else (cond t (Some b) o) p
cond_or true b o p = refl
cond_or false b o p = refl

find_at : (bs : List ℕ) (a : ℕ) (es : List (ℕ × ℕ)) (q : ℕ)
    → map.find nat_cmp q (entries_at a bs es) ≡ or_else (byte_in (range a bs) q) (map.find nat_cmp q es)
find_at [] a es q = ap (λ o. or_else o (map.find nat_cmp q es)) (sym (none_empty a q))
find_at (b ∷ bs) a es q =
    ap (cond (eq_by_cmp nat_cmp q a) (Some b)) (find_at bs (a + 1) es q)
    ∙ cond_or (eq_by_cmp nat_cmp q a) b (byte_in (range (a + 1) bs) q) (map.find nat_cmp q es)
    ∙ ap (λ o. or_else o (map.find nat_cmp q es)) (sym (step a b bs q))

find_of : (rs : List Range) (q : ℕ) → map.find nat_cmp q (entries_of rs) ≡ byte_of rs q
find_of [] q = refl
find_of (r ∷ rs) q = find_at r.bytes r.start (entries_of rs) q ∙ ap (or_else (byte_in r q)) (find_of rs q)

-- what the memory that ranges make has at an address
pub get_of : (rs : List Range) (q : ℕ) → map.get (memory_of rs) q ≡ byte_of rs q
get_of rs q = map.get-from_entries nat_cmp_total (entries_of rs) q ∙ find_of rs q

-- what a memory with bytes more has
pub get_with : (bs : List ℕ) (m : Memory) (a q : ℕ) → a + length bs ≤ 2 ^ 32
    → map.get (with_bytes m a bs) q ≡ or_else (byte_in (range a bs) q) (map.get m q)
get_with [] m a q h = ap (λ o. or_else o (map.get m q)) (sym (none_empty a q))
get_with (b ∷ bs) m a q h =
    let here : place a ≡ a = omega arith in
    map.get-insert nat_cmp_total (with_bytes m (a + 1) bs) (place a) b q
    ∙ ap (λ k. cond (eq_by_cmp nat_cmp q k) (Some b) (map.get (with_bytes m (a + 1) bs) q)) here
    ∙ ap (cond (eq_by_cmp nat_cmp q a) (Some b)) (get_with bs m (a + 1) q (omega arith))
    ∙ cond_or (eq_by_cmp nat_cmp q a) b (byte_in (range (a + 1) bs) q) (map.get m q)
    ∙ ap (λ o. or_else o (map.get m q)) (sym (step a b bs q))

-- the first of entries, if there is one, stands at an address or above
abbrev FirstFrom : ℕ → List (ℕ × ℕ) → Type 0
FirstFrom a [] = Unit {0}
FirstFrom a (e ∷ es) = a ≤ e.0

first_from_at : (bs : List ℕ) (a : ℕ) (es : List (ℕ × ℕ)) → FirstFrom (a + length bs) es
    → FirstFrom a (entries_at a bs es)
first_from_at [] a es h = let z : a + 0 ≡ a = omega arith in subst (λ k. FirstFrom k es) z h
first_from_at (b ∷ bs) a es h = let z : a ≤ a = omega arith in z

first_filled : (bs : List ℕ) (low a : ℕ) (es : List (ℕ × ℕ)) → 0 < length bs → low ≤ a
    → FirstFrom low (entries_at a bs es)
first_filled [] low a es h l = absurd (omega arith)
first_filled (b ∷ bs) low a es h l = l

first_apart : (rs : List Range) (low : ℕ) → AreApart low rs → FirstFrom low (entries_of rs)
first_apart [] low h = tt
first_apart (r ∷ rs) low h = first_filled r.bytes low r.start (entries_of rs) h.1 h.0

first_sooner : (es : List (ℕ × ℕ)) (a : ℕ) → FirstFrom (a + 1) es → FirstFrom a es
first_sooner [] a h = tt
first_sooner (e ∷ es) a h = omega (arith, h)

put_front : (k v : ℕ) (es : List (ℕ × ℕ)) → FirstFrom (k + 1) es → map.put nat_cmp k v es ≡ (k, v) ∷ es
put_front k v [] h = refl
put_front k v (e ∷ es) h = grind (arith, nat_tests)

-- the entries of the memory that ranges make
entries_at_of : (bs : List ℕ) (a : ℕ) (es : List (ℕ × ℕ))
    → map.entries {R = nat_cmp} (map.from_entries es) ≡ es → FirstFrom (a + length bs) es
    → map.entries {R = nat_cmp} (map.from_entries (entries_at a bs es)) ≡ entries_at a bs es
entries_at_of [] a es same h = same
entries_at_of (b ∷ bs) a es same h =
    let z : a + length (b ∷ bs) ≡ a + 1 + length bs = omega arith in
    let h2 = subst (λ k. FirstFrom k es) z h in
    map.entries-insert nat_cmp_total (map.from_entries (entries_at (a + 1) bs es)) a b
    ∙ ap (map.put nat_cmp a b) (entries_at_of bs (a + 1) es same h2)
    ∙ put_front a b (entries_at (a + 1) bs es) (first_from_at bs (a + 1) es h2)

no_entries : map.entries {X = ℕ} {R = nat_cmp} map.empty ≡ []
no_entries = nil_from_length (map.entries {X = ℕ} {R = nat_cmp} map.empty)
    (sym (map.len-entries {X = ℕ} {R = nat_cmp} map.empty) ∙ map.len-empty nat_cmp ℕ)

entries_are : (rs : List Range) (low : ℕ) → AreApart low rs → map.entries (memory_of rs) ≡ entries_of rs
entries_are [] low h = no_entries
entries_are (r ∷ rs) low h = entries_at_of r.bytes r.start (entries_of rs) (entries_are rs (end_of r + 1) h.3)
    (first_sooner (entries_of rs) (end_of r) (first_apart rs (end_of r + 1) h.3))

-- the first of ranges, if there is one, begins above an address
abbrev Gap : ℕ → List Range → Type 0
Gap a [] = Unit {0}
Gap a (r ∷ rs) = a < r.start

join_apart : (a b : ℕ) (rs : List Range) → Gap (a + 1) rs → join a b rs ≡ range a (b ∷ []) ∷ rs
join_apart a b [] h = refl
join_apart a b (r ∷ rs) h = grind (arith, nat_tests)

join_touching : (a b : ℕ) (bs : List ℕ) (rs : List Range) → join a b (range (a + 1) bs ∷ rs) ≡ range a (b ∷ bs) ∷ rs
join_touching a b bs rs = grind (arith, nat_tests)

runs_at : (bs : List ℕ) (a : ℕ) (es : List (ℕ × ℕ)) → 0 < length bs → Gap (a + length bs) (runs_of es)
    → runs_of (entries_at a bs es) ≡ range a bs ∷ runs_of es
runs_at [] a es h g = absurd (omega arith)
runs_at (b ∷ []) a es h g = join_apart a b (runs_of es) g
runs_at (b ∷ c ∷ bs) a es h g =
    let z : a + length (b ∷ c ∷ bs) ≡ a + 1 + length (c ∷ bs) = omega arith in
    ap (join a b) (runs_at (c ∷ bs) (a + 1) es (omega arith) (subst (λ k. Gap k (runs_of es)) z g))
    ∙ join_touching a b (c ∷ bs) (runs_of es)

gap_apart : (rs : List Range) (low : ℕ) → AreApart (low + 1) rs → Gap low rs
gap_apart [] low h = tt
gap_apart (r ∷ rs) low h = omega (arith, h.0)

runs_are : (rs : List Range) (low : ℕ) → AreApart low rs → runs_of (entries_of rs) ≡ rs
runs_are [] low h = refl
runs_are (r ∷ rs) low h =
    let rest = runs_are rs (end_of r + 1) h.3 in
    runs_at r.bytes r.start (entries_of rs) h.1 (subst (Gap (end_of r)) (sym rest) (gap_apart rs (end_of r) h.3))
    ∙ ap (λ zs. r ∷ zs) rest

-- ranges that are apart are the maximal runs of the memory that they make
pub ranges_of : (rs : List Range) (low : ℕ) → AreApart low rs → ranges (memory_of rs) ≡ rs
ranges_of rs low h = ap runs_of (entries_are rs low h) ∙ runs_are rs low h
