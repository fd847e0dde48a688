-- What is live in a function is live by its new names in the function that took them. So no statement there is
-- dead where none was before.
use Rattle.std.proofs.Common.{◌≡◌, ℕ, Bool, true, false, ◌&&◌, ◌||◌, not, IsTrue, inl}
use Rattle.std.proofs.Common.{inr, List, [], ◌∷◌, ◌++◌, map, refl, sym, ap, subst, ◌∙◌}
use Rattle.std.specs.List.{AllByRecursion, list_any}
use Rattle.std.proofs.lemmas.List.Folds.{list_any-append}
use Rattle.br_flatimp.specs.declared.program.Cond.{Cond}
use Rattle.br_flatimp.specs.declared.program.Cond.TheVariants.{NonZero, Compare}
use Rattle.br_flatimp.specs.declared.program.Operand.TheVariants as operand
use Rattle.br_flatimp.specs.declared.program.FlatFunc.{FlatFunc}
use Rattle.br_flatimp.specs.declared.program.Stmt.{Stmt, map-Stmt}
use Rattle.br_flatimp.specs.declared.program.Stmt.TheOpen.{Stmt-F}
use Rattle.br_flatimp.specs.declared.program.Stmt.TheViews.{roll-Stmt}
use Rattle.br_flatimp.specs.declared.program.Stmt.TheFolds.{fold-roll-Stmt, ind-Stmt}
use Rattle.br_flatimp.specs.Values.{Names}
use Rattle.br_flatimp.specs.Parts.{test_names}
use Rattle.br_flatimp.specs.Liveness.{nothing, is_in, union, without, Within, Live, Moment}
use Rattle.br_flatimp.specs.Liveness.{at_test, entry, live, live_step, moments, is_dead}
use Rattle.br_flatimp.specs.Liveness.{has_no_dead, has_no_dead_but_copies, function_moments}
use Rattle.br_flatimp.specs.Renaming.{IsApart, renamed, renamed_step, renamed_test}
use Rattle.br_flatimp.proofs.Live.{pointwise-entry}
use Rattle.br_regalloc_check.specs.Accepted.{MayRename}
use Rattle.br_regalloc_check.specs.Assigned.{function_renamed}
use Rattle.br_regalloc_check.proofs.Lists.{all-split, or_left, or_right, or_cases, and_both}
use Rattle.br_regalloc_check.proofs.Lists.{both_and, not_of, not_from, in_map, not-in-map}
use Rattle.br_regalloc_check.proofs.Renames.{fold-renamed}

-- ---- tests

or-first : (a b : Bool) → (a || b) ≡ false → a ≡ false
or-first true b h = absurd (cc h)
or-first false b h = refl

or-second : (a b : Bool) → (a || b) ≡ false → b ≡ false
or-second true b h = absurd (cc h)
or-second false b h = h

neither : (a b : Bool) → a ≡ false → b ≡ false → (a || b) ≡ false
neither a b e f = rw (e, f) refl

-- A statement that only writes a name: where that name is live by its new name if it was live before, the statement
-- is not dead, unless it does not count.
still-live : (p q counts : Bool) → (IsTrue p → IsTrue q) → ((not (p || false) && counts) || false) ≡ false
    → ((not (q || false) && counts) || false) ≡ false
still-live true q counts f h = rw (f refl) refl
still-live false q true f h = absurd (cc h)
still-live false true false f h = refl
still-live false false false f h = refl

-- a dead statement that counts, where copies may be left aside
abbrev is_bad : Bool → Moment → Bool
is_bad copies m = is_dead m && (copies || not m.is_copy)

-- moments of two parts
two-parts : (bad : Moment → Bool) (o1 o2 n1 n2 : List Moment) → (list_any bad o1 ≡ false → list_any bad n1 ≡ false)
    → (list_any bad o2 ≡ false → list_any bad n2 ≡ false)
    → list_any bad (o1 ++ o2) ≡ false → list_any bad (n1 ++ n2) ≡ false
two-parts bad o1 o2 n1 n2 f g h =
    let whole = sym (list_any-append bad o1 o2) ∙ h in
    list_any-append bad n1 n2
    ∙ neither (list_any bad n1) (list_any bad n2)
    (f (or-first (list_any bad o1) (list_any bad o2) whole))
    (g (or-second (list_any bad o1) (list_any bad o2) whole))

-- ---- sets

grows-entry : (cs : List Stmt) (small large : Names) → Within small large
    → Within (entry (map live cs) small) (entry (map live cs) large)
grows-entry cs small large h x e = pointwise-entry cs small large x (h x) e

within-union : (a b p q : Names) → Within a p → Within b q → Within (union a b) (union p q)
within-union a b p q h k x e = elim (or_cases (a x) (b x) e)
    [ inl i ↦ or_left (p x) (q x) (h x i) | inr i ↦ or_right (p x) (q x) (k x i) ]

module _ (copies : Bool) (to : ℕ → ℕ)
  where
    abbrev bad : Moment → Bool
    bad = is_bad copies

    -- each name of the first set is in the second by its new name
    abbrev Reaches : Names → Names → Type 0
    Reaches a b = (x : ℕ) → IsTrue (a x) → IsTrue (b (to x))

    abbrev May : List Moment → Type 0
    May = AllByRecursion (MayRename to)

    reaches-union : (a b p q : Names) → Reaches a p → Reaches b q → Reaches (union a b) (union p q)
    reaches-union a b p q h k x e = elim (or_cases (a x) (b x) e)
        [ inl i ↦ or_left (p (to x)) (q (to x)) (h x i) | inr i ↦ or_right (p (to x)) (q (to x)) (k x i) ]

    reaches-test : (test : Cond) → Reaches (is_in (test_names test)) (is_in (test_names (renamed_test to test)))
    reaches-test (NonZero y) = in_map to (y ∷ [])
    reaches-test (Compare rel y z) = in_map to (y ∷ z ∷ [])

    reaches-without : (ws : List ℕ) (small large b : Names) → Within small large
        → ((w : ℕ) → IsTrue (is_in ws w) → IsApart to w large) → Reaches small b
        → Reaches (without small ws) (without b (map to ws))
    reaches-without ws small large b within apart reaches x h =
        let both = and_both (small x) (not (is_in ws x)) h in
        both_and (b (to x)) (not (is_in (map to ws) (to x))) (reaches x both.0)
        (not_of (is_in (map to ws) (to x))
        (not-in-map to ws x (λ w i. apart w i x (within x both.0)) (not_from (is_in ws x) both.1)))

    -- ---- statements

    -- A statement and what is live of it with other names. What is live before it is told for a smaller set than that
    -- for which it may be renamed, since a loop's test begins with nothing live after the loop.
    record Keeps (new old : Live) : Type 0 where
      reaches : (small large b : Names) → Within small large → May (old.moments large) → Reaches small b
          → Reaches (old.before small) (new.before b)
      quiet : (a b : Names) → May (old.moments a) → Reaches a b → list_any bad (old.moments a) ≡ false
          → list_any bad (new.moments b) ≡ false

    abbrev Stays : Stmt → Type 0
    Stays c = Keeps (live (renamed to c)) (live c)

    abbrev Known : Type 0
    Known = (c : Stmt) × Stays c

    abbrev stmts : List Known → List Stmt
    stmts cs = map (λ e. e.0) cs

    abbrev olds : List Known → List Live
    olds cs = map live (stmts cs)

    abbrev news : List Known → List Live
    news cs = map live (map (renamed to) (stmts cs))

    all-reach : (cs : List Known) (small large b : Names) → Within small large → May (moments (olds cs) large)
        → Reaches small b
        → Reaches (entry (olds cs) small) (entry (news cs) b)
    all-reach [] small large b within may reaches = reaches
    all-reach (e ∷ cs) small large b within may reaches =
        let split = all-split (MayRename to) ((live e.0).moments (entry (olds cs) large)) (moments (olds cs) large) may
        in
        e.1.reaches (entry (olds cs) small) (entry (olds cs) large) (entry (news cs) b)
        (grows-entry (stmts cs) small large within) split.0
        (all-reach cs small large b within split.1 reaches)

    all-quiet : (cs : List Known) (a b : Names) → May (moments (olds cs) a) → Reaches a b
        → list_any bad (moments (olds cs) a) ≡ false
        → list_any bad (moments (news cs) b) ≡ false
    all-quiet [] a b may reaches h = refl
    all-quiet (e ∷ cs) a b may reaches h =
        let one = (live e.0).moments (entry (olds cs) a) in
        let split = all-split (MayRename to) one (moments (olds cs) a) may in
        two-parts bad one (moments (olds cs) a) ((live (renamed to e.0)).moments (entry (news cs) b))
        (moments (news cs) b)
        (e.1.quiet (entry (olds cs) a) (entry (news cs) b) split.0 (all-reach cs a a b (λ x i. i) split.1 reaches))
        (all-quiet cs a b split.1 reaches) h

    abbrev opened : Stmt-F Known → Stmt-F Stmt
    opened y = map-Stmt Known Stmt (λ e. e.0) y

    abbrev LayerKeeps : Stmt-F Stmt → Type 0
    LayerKeeps z = Keeps (live_step (map-Stmt Stmt Live live (renamed_step to (map-Stmt Stmt Stmt (renamed to) z))))
        (live_step (map-Stmt Stmt Live live z))

    -- what is live before a statement with no parts
    simple : (ws rs : List ℕ) (small large b : Names) → Within small large
        → ((w : ℕ) → IsTrue (is_in ws w) → IsApart to w large) → Reaches small b
        → Reaches (union (without small ws) (is_in rs)) (union (without b (map to ws)) (is_in (map to rs)))
    simple ws rs small large b within apart reaches =
        reaches-union (without small ws) (is_in rs) (without b (map to ws)) (is_in (map to rs))
        (reaches-without ws small large b within apart reaches) (in_map to rs)

    layer : (y : Stmt-F Known) → LayerKeeps (opened y)
    layer (Stmt-F.Lit x n) = record {
      reaches = λ small large b within may r. simple (x ∷ []) [] small large b within may.0.apart r;
      quiet = λ a b may r. still-live (a x) (b (to x)) (copies || true) (r x);
    }
    layer (Stmt-F.Copy x y) = record {
      reaches = λ small large b within may r. simple (x ∷ []) (y ∷ []) small large b within may.0.apart r;
      quiet = λ a b may r. still-live (a x) (b (to x)) (copies || false) (r x);
    }
    layer (Stmt-F.Op x op y (operand.Name z)) = record {
      reaches = λ small large b within may r. simple (x ∷ []) (y ∷ z ∷ []) small large b within may.0.apart r;
      quiet = λ a b may r. still-live (a x) (b (to x)) (copies || true) (r x);
    }
    layer (Stmt-F.Op x op y (operand.Const n)) = record {
      reaches = λ small large b within may r. simple (x ∷ []) (y ∷ []) small large b within may.0.apart r;
      quiet = λ a b may r. still-live (a x) (b (to x)) (copies || true) (r x);
    }
    layer (Stmt-F.Load x size y offset) = record {
      reaches = λ small large b within may r. simple (x ∷ []) (y ∷ []) small large b within may.0.apart r;
      quiet = λ a b may r. still-live (a x) (b (to x)) (copies || true) (r x);
    }
    layer (Stmt-F.Store size y z offset) = record {
      reaches = λ small large b within may r. simple [] (y ∷ z ∷ []) small large b within may.0.apart r;
      quiet = λ a b may r h. refl;
    }
    layer (Stmt-F.Table x size bytes y) = record {
      reaches = λ small large b within may r. simple (x ∷ []) (y ∷ []) small large b within may.0.apart r;
      quiet = λ a b may r. still-live (a x) (b (to x)) (copies || true) (r x);
    }
    layer (Stmt-F.Stackalloc x n body) = record {
      reaches = λ small large b within may r.
          reaches-without (x ∷ []) (entry (olds body) small) (entry (olds body) large) (entry (news body) b)
          (grows-entry (stmts body) small large within) may.0.apart
          (all-reach body small large b within may.1 r);
      quiet = λ a b may r. all-quiet body a b may.1 r;
    }
    layer (Stmt-F.If test first second) = record {
      reaches = λ small large b within may r.
          let split = all-split (MayRename to) (moments (olds first) large) (moments (olds second) large) may.1 in
          reaches-union (is_in (test_names test)) (union (entry (olds first) small) (entry (olds second) small))
          (is_in (test_names (renamed_test to test))) (union (entry (news first) b) (entry (news second) b))
          (reaches-test test)
          (reaches-union (entry (olds first) small) (entry (olds second) small) (entry (news first) b)
          (entry (news second) b)
          (all-reach first small large b within split.0 r) (all-reach second small large b within split.1 r));
      quiet = λ a b may r.
          let split = all-split (MayRename to) (moments (olds first) a) (moments (olds second) a) may.1 in
          two-parts bad (moments (olds first) a) (moments (olds second) a) (moments (news first) b)
          (moments (news second) b)
          (all-quiet first a b split.0 r) (all-quiet second a b split.1 r);
    }
    layer (Stmt-F.Loop first test last) = record {
      reaches = λ small large b within may r.
          let split = all-split (MayRename to) (moments (olds first) (tests large))
          (moments (olds last) (entry (olds first) (tests large))) may.1 in
          all-reach first (tests small) (tests large) (tests2 b)
          (within-union (is_in (test_names test)) (union small back) (is_in (test_names test)) (union large back)
          (λ x i. i) (within-union small back large back within (λ x i. i)))
          split.0 (reaches-tests small large b split.0 split.1 r);
      quiet = λ a b may r.
          let split = all-split (MayRename to) (moments (olds first) (tests a))
          (moments (olds last) (entry (olds first) (tests a))) may.1 in
          let reach = reaches-tests a a b split.0 split.1 r in
          two-parts bad (moments (olds first) (tests a)) (moments (olds last) (entry (olds first) (tests a)))
          (moments (news first) (tests2 b)) (moments (news last) (entry (news first) (tests2 b)))
          (all-quiet first (tests a) (tests2 b) split.0 reach)
          (all-quiet last (entry (olds first) (tests a)) (entry (news first) (tests2 b)) split.1
          (all-reach first (tests a) (tests a) (tests2 b) (λ x i. i) split.0 reach));
    }
      where
        back : Names
        back = entry (olds last) (entry (olds first) nothing)

        back2 : Names
        back2 = entry (news last) (entry (news first) nothing)

        tests : Names → Names
        tests a = at_test (olds first) test (olds last) a

        tests2 : Names → Names
        tests2 b = at_test (news first) (renamed_test to test) (news last) b

        -- what is live at the test, where the parts may be renamed for a set
        reaches-tests : (a large b : Names) → May (moments (olds first) (tests large))
            → May (moments (olds last) (entry (olds first) (tests large))) → Reaches a b → Reaches (tests a) (tests2 b)
        reaches-tests a large b one two r =
            let none = all-reach first nothing (tests large) nothing (λ x i. absurd (cc i)) one (λ x i. absurd (cc i))
            in
            let turn = all-reach last (entry (olds first) nothing) (entry (olds first) (tests large))
            (entry (news first) nothing)
            (grows-entry (stmts first) nothing (tests large) (λ x i. absurd (cc i))) two none in
            reaches-union (is_in (test_names test)) (union a back) (is_in (test_names (renamed_test to test)))
            (union b back2) (reaches-test test)
            (reaches-union a back b back2 r turn)
    layer (Stmt-F.Call xs g ys) = record {
      reaches = λ small large b within may r. simple xs ys small large b within may.0.apart r;
      quiet = λ a b may r h. refl;
    }
    layer (Stmt-F.Read x y) = record {
      reaches = λ small large b within may r. simple (x ∷ []) (y ∷ []) small large b within may.0.apart r;
      quiet = λ a b may r h. refl;
    }
    layer (Stmt-F.Write y z) = record {
      reaches = λ small large b within may r. simple [] (y ∷ z ∷ []) small large b within may.0.apart r;
      quiet = λ a b may r h. refl;
    }

    statement-stays : (c : Stmt) → Stays c
    statement-stays = ind-Stmt Stays (λ x y is.
        subst (λ old. Keeps (live (renamed to (roll-Stmt x))) old) (sym (fold-roll-Stmt Live live_step x))
        (subst (λ new. Keeps new (live_step (map-Stmt Stmt Live live x))) (sym (fold-renamed live_step to x))
        (subst LayerKeeps is (layer y))))

    known : List Stmt → List Known
    known [] = []
    known (c ∷ cs) = (c, statement-stays c) ∷ known cs

    stmts-known : (cs : List Stmt) → stmts (known cs) ≡ cs
    unfolding known
    stmts-known [] = refl
    stmts-known (c ∷ cs) = ap (λ ds. c ∷ ds) (stmts-known cs)

    pub body-quiet : (cs : List Stmt) (a b : Names) → May (moments (map live cs) a) → Reaches a b
        → list_any bad (moments (map live cs) a) ≡ false
        → list_any bad (moments (map live (map (renamed to) cs)) b) ≡ false
    body-quiet cs a b =
        subst (λ ds. May (moments (map live ds) a) → Reaches a b → list_any bad (moments (map live ds) a) ≡ false
        → list_any bad (moments (map live (map (renamed to) ds)) b) ≡ false) (stmts-known cs)
        (all-quiet (known cs) a b)

-- a count of all dead statements
all-count : (ms : List Moment) → list_any (is_bad true) ms ≡ list_any is_dead ms
all-count [] = refl
all-count (m ∷ ms) =
    ap (λ b. b || list_any (is_bad true) ms) (and-true (is_dead m)) ∙ ap (λ b. is_dead m || b) (all-count ms)
  where
    and-true : (b : Bool) → (b && true) ≡ b
    and-true true = refl
    and-true false = refl

module _ (to : ℕ → ℕ) (f : FlatFunc) (may : AllByRecursion (MayRename to) (function_moments f))
  where
    still-quiet : (copies : Bool) → list_any (is_bad copies) (function_moments f) ≡ false
        → list_any (is_bad copies) (function_moments (function_renamed to f)) ≡ false
    still-quiet copies h =
        body-quiet copies to f.body (is_in f.results) (is_in (map to f.results)) may (in_map to f.results) h

    -- A function with new names has no dead statement where the one that it comes from has none.
    pub none-dead : IsTrue (has_no_dead f) → IsTrue (has_no_dead (function_renamed to f))
    none-dead h =
        not_of (list_any is_dead (function_moments (function_renamed to f)))
        (sym (all-count (function_moments (function_renamed to f)))
        ∙ still-quiet true (all-count (function_moments f) ∙ not_from (list_any is_dead (function_moments f)) h))

    -- So it is where copies are left aside.
    pub none-dead-but-copies : IsTrue (has_no_dead_but_copies f)
        → IsTrue (has_no_dead_but_copies (function_renamed to f))
    none-dead-but-copies h =
        not_of (list_any (is_bad false) (function_moments (function_renamed to f)))
        (still-quiet false (not_from (list_any (is_bad false) (function_moments f)) h))
