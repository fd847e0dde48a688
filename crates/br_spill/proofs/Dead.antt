-- A function whose names all have registers has no dead statement but copies where the one that it comes from has
-- no dead one: what is live there is live here, in the registers of its names.
use Rattle.std.proofs.Common.{◌≡◌, ℕ, zero, suc, ◌+◌, ◌%◌, ◌<◌, ◌≤◌, ◌==◌, ◌&&◌, ◌||◌, not, nat_lt}
use Rattle.std.proofs.Common.{Bool, true, false, List, [], ◌∷◌, ◌++◌, append_assoc, append-nil}
use Rattle.std.proofs.Common.{map, length, refl, sym, ap, subst, ◌∙◌, slice_get, arith}
use Rattle.std.specs.List.{list_all, list_any}
use Rattle.std.proofs.lemmas.Bool.Decides.{nat_tests}
use Rattle.std.proofs.lemmas.List.{map-append}
use Rattle.std.proofs.lemmas.List.Folds.{list_any-append}
use Rattle.br_flatimp.specs.declared.program.Operand.TheVariants as operand
use Rattle.br_flatimp.specs.declared.program.Cond.{Cond}
use Rattle.br_flatimp.specs.declared.program.Cond.TheVariants.{NonZero, Compare}
use Rattle.br_flatimp.specs.declared.program.Stmt.{Stmt, map-Stmt}
use Rattle.br_flatimp.specs.declared.program.Stmt.TheOpen.{Stmt-F}
use Rattle.br_flatimp.specs.declared.program.Stmt.TheViews.{roll-Stmt}
use Rattle.br_flatimp.specs.declared.program.Stmt.TheFolds.{fold-roll-Stmt, ind-Stmt}
use Rattle.br_flatimp.specs.declared.program.FlatFunc.{FlatFunc}
use Rattle.br_flatimp.specs.Values.{Names}
use Rattle.br_flatimp.specs.Liveness.{nothing, is_in, union, without, Moment, Live, entry, moments, at_test}
use Rattle.br_flatimp.specs.Liveness.{live_step, live, is_dead, has_no_dead, has_no_dead_but_copies}
use Rattle.br_flatimp.specs.Parts.{test_names}
use Rattle.br_flatimp.specs.Renaming.{renamed_test}
use Rattle.br_flatimp.specs.WellFormed.{is_immediate, operand_fits, all_differ, counts_fit, are_below, fits}
use Rattle.br_flatimp.specs.WellFormed.{is_well_formed_statement, is_well_formed_head, is_well_formed_function}
use Rattle.br_spill.specs.Spill.{Layout, Fits, in_order, passes, takes, joined}
use Rattle.br_spill.specs.Spill.{spilled_step, spilled, in_buffer, spilled_function}
use Rattle.br_spill.proofs.Form.{and-first, and-second, step}
use Rattle.br_spill.proofs.Formed.{Layer, layer-facts, head-of, few-at}
use Rattle.br_spill.proofs.Plain.{Plain, plain, first-below, rest-below, is_in-registers}
use Rattle.br_spill.proofs.Plain.{one-statement, taken, passed, takes-copies, passes-copies}

-- ---- statements in turn

entry-append : (xs ys : List Live) (end : Names) → entry (xs ++ ys) end ≡ entry xs (entry ys end)
entry-append [] ys end = refl
entry-append (x ∷ xs) ys end = ap x.before (entry-append xs ys end)

moments-append : (xs ys : List Live) (end : Names)
    → moments (xs ++ ys) end ≡ moments xs (entry ys end) ++ moments ys end
moments-append [] ys end = refl
moments-append (x ∷ xs) ys end =
    ap (λ e. x.moments e ++ moments (xs ++ ys) end) (entry-append xs ys end)
    ∙ ap (λ ms. x.moments (entry xs (entry ys end)) ++ ms) (moments-append xs ys end)
    ∙ sym (append_assoc (x.moments (entry xs (entry ys end))) (moments xs (entry ys end)) (moments ys end))

live-roll : (y : Stmt-F Stmt) → live (roll-Stmt y) ≡ live_step (map-Stmt Stmt Live live y)
live-roll y = fold-roll-Stmt Live live_step y

-- a dead statement that is no copy
abbrev is_wasted : Moment → Bool
is_wasted m = is_dead m && not m.is_copy

-- ---- tests

or-first : (a b : Bool) → (a || b) ≡ false → a ≡ false
or-first true b h = absurd (cc h)
or-first false b h = refl

or-second : (a b : Bool) → (a || b) ≡ false → b ≡ false
or-second true b h = absurd (cc h)
or-second false b h = h

neither : (a b : Bool) → a ≡ false → b ≡ false → (a || b) ≡ false
neither a b e f = rw (e, f) refl

or-true : (a b : Bool) → b ≡ true → (a || b) ≡ true
or-true true b e = refl
or-true false b e = e

-- what is live and not written stays so, whatever is read
stays : (a i o : Bool) → a ≡ true → i ≡ false → ((a && not i) || o) ≡ true
stays a i o e f = rw (e, f) refl

lifted : (p q i o : Bool) → (p ≡ true → q ≡ true) → ((p && not i) || o) ≡ true → ((q && not i) || o) ≡ true
lifted true q i o f h = rw (f refl) h
lifted false q i o f h = or-true (q && not i) o h

still-live : (p q : Bool) → (p ≡ true → q ≡ true) → (not (p || false) || false) ≡ false
    → ((not (q || false) && true) || false) ≡ false
still-live true q f h = rw (f refl) refl
still-live false q f h = absurd (cc h)

copy-quiet : (q : Bool) → ((not (q || false) && false) || false) ≡ false
copy-quiet true = refl
copy-quiet false = refl

-- statements of two parts
two-parts : (o1 o2 n1 n2 : List Moment) → (list_any is_dead o1 ≡ false → list_any is_wasted n1 ≡ false)
    → (list_any is_dead o2 ≡ false → list_any is_wasted n2 ≡ false)
    → list_any is_dead ((o1 ++ o2) ++ []) ≡ false → list_any is_wasted ((n1 ++ n2) ++ []) ≡ false
two-parts o1 o2 n1 n2 f g h =
    let whole = sym (ap (list_any is_dead) (append-nil (o1 ++ o2)) ∙ list_any-append is_dead o1 o2) ∙ h in
    ap (list_any is_wasted) (append-nil (n1 ++ n2)) ∙ list_any-append is_wasted n1 n2
    ∙ neither (list_any is_wasted n1) (list_any is_wasted n2)
    (f (or-first (list_any is_dead o1) (list_any is_dead o2) whole))
    (g (or-second (list_any is_dead o1) (list_any is_dead o2) whole))

-- ---- copies

taken-quiet : (to : ℕ → ℕ) (xs : List ℕ) (from : ℕ) (end : Names)
    → list_any is_wasted (moments (map live (taken to xs from)) end) ≡ false
taken-quiet to [] from end = refl
taken-quiet to (x ∷ xs) from end =
    let rest = map live (taken to xs (suc from)) in
    ap (λ s. list_any is_wasted (moments (s ∷ rest) end)) (live-roll (Stmt-F.Copy (to x) from))
    ∙ neither (not (entry rest end (to x) || false) && false) (list_any is_wasted (moments rest end))
    (none (not (entry rest end (to x) || false))) (taken-quiet to xs (suc from) end)
  where
    none : (b : Bool) → (b && false) ≡ false
    none true = refl
    none false = refl

passed-quiet : (to : ℕ → ℕ) (ys : List ℕ) (reg : ℕ) (end : Names)
    → list_any is_wasted (moments (map live (passed to ys reg)) end) ≡ false
passed-quiet to [] reg end = refl
passed-quiet to (y ∷ ys) reg end =
    let rest = map live (passed to ys (suc reg)) in
    ap (λ s. list_any is_wasted (moments (s ∷ rest) end)) (live-roll (Stmt-F.Copy reg (to y)))
    ∙ neither (not (entry rest end reg || false) && false) (list_any is_wasted (moments rest end))
    (none (not (entry rest end reg || false))) (passed-quiet to ys (suc reg) end)
  where
    none : (b : Bool) → (b && false) ≡ false
    none true = refl
    none false = refl

-- what is live after words are taken and is no register that takes one is live before
taken-keeps : (to : ℕ → ℕ) (xs : List ℕ) (from : ℕ) (end : Names) (r : ℕ) → is_in (map to xs) r ≡ false → end r ≡ true
    → entry (map live (taken to xs from)) end r ≡ true
taken-keeps to [] from end r h e = e
taken-keeps to (x ∷ xs) from end r h e =
    let rest = map live (taken to xs (suc from)) in
    let here = or-first (to x == r) (is_in (map to xs) r) h in
    ap (λ s. s.before (entry rest end) r) (live-roll (Stmt-F.Copy (to x) from))
    ∙ stays (entry rest end r) ((to x == r) || false) (is_in (from ∷ []) r)
    (taken-keeps to xs (suc from) end r (or-second (to x == r) (is_in (map to xs) r) h) e) (ap (λ b. b || false) here)

-- a register in which no word is passed
abbrev IsFree : ℕ → Type 0
IsFree r = (k : ℕ) → 10 ≤ k → k ≤ 17 → r ≡ k → ⊥

is-other : (k r : ℕ) → IsFree r → 10 ≤ k → k ≤ 17 → (k == r) ≡ false
is-other k r free low high = by (k == r) refl
  where
    by : (b : Bool) → (k == r) ≡ b → b ≡ false
    by true e = absurd (free k low high (grind (arith, nat_tests)))
    by false e = refl

passed-keeps : (to : ℕ → ℕ) (ys : List ℕ) (reg : ℕ) (end : Names) (r : ℕ) → 10 ≤ reg → reg + length ys ≤ 18 → IsFree r
    → end r ≡ true
    → entry (map live (passed to ys reg)) end r ≡ true
passed-keeps to [] reg end r low high free e = e
passed-keeps to (y ∷ ys) reg end r low high free e =
    let rest = map live (passed to ys (suc reg)) in
    ap (λ s. s.before (entry rest end) r) (live-roll (Stmt-F.Copy reg (to y)))
    ∙ stays (entry rest end r) ((reg == r) || false) (is_in (to y ∷ []) r)
    (passed-keeps to ys (suc reg) end r (omega (arith, low)) (omega (arith, high)) free e)
    (ap (λ b. b || false) (is-other reg r free low (omega (arith, high))))

passing-others : (n a r : ℕ) → 10 ≤ a → a + n ≤ 18 → IsFree r → is_in (in_order a n) r ≡ false
passing-others zero a r low high free = refl
passing-others (suc n) a r low high free =
    neither (a == r) (is_in (in_order (suc a) n) r) (is-other a r free low (omega (arith, high)))
    (passing-others n (suc a) r (omega (arith, low)) (omega (arith, high)) free)

module _ (ps : List FlatFunc) (few : (g n m : ℕ) → counts_fit (slice_get ps g) n m ≡ true → (n ≤ 8) × (m ≤ 8))
    (l : Layout) (names : ℕ) (g : Plain l names)
  where
    -- what is live by its name is live in its register
    abbrev Covers : Names → Names → Type 0
    Covers a b = (x : ℕ) → x < names → a x ≡ true → b (g.to x) ≡ true

    free : (x : ℕ) → x < names → IsFree (g.to x)
    free x less k low high is = g.free x k less low high is

    -- the words of names that are passed are live before
    passed-reads : (ys : List ℕ) (reg : ℕ) (end : Names) (y : ℕ) → are_below names ys ≡ true → 10 ≤ reg
        → reg + length ys ≤ 18 → y < names → is_in ys y ≡ true
        → entry (map live (passed g.to ys reg)) end (g.to y) ≡ true
    passed-reads [] reg end y h low high less is = absurd (cc is)
    passed-reads (z ∷ zs) reg end y h low high less is =
        ap (λ s. s.before (entry rest end) (g.to y)) (live-roll (Stmt-F.Copy reg (g.to z)))
        ∙ by (z == y) refl (λ later. passed-reads zs (suc reg) end y (rest-below names z zs h) (omega (arith, low))
        (omega (arith, high)) less later)
      where
        rest : List Live
        rest = map live (passed g.to zs (suc reg))

        same : is_in (g.to z ∷ []) (g.to y) ≡ ((z == y) || false)
        same = is_in-registers l names g (z ∷ []) y
            (ap (λ b. b && true) (and-first (nat_lt z names) (are_below names zs) h)) less

        by : (b : Bool) → (z == y) ≡ b → (is_in zs y ≡ true → entry rest end (g.to y) ≡ true)
            → ((entry rest end (g.to y) && not (is_in (reg ∷ []) (g.to y))) || is_in (g.to z ∷ []) (g.to y)) ≡ true
        by true e later = or-true (entry rest end (g.to y) && not (is_in (reg ∷ []) (g.to y)))
            (is_in (g.to z ∷ []) (g.to y)) (same ∙ ap (λ b. b || false) e)
        by false e later =
            stays (entry rest end (g.to y)) (is_in (reg ∷ []) (g.to y)) (is_in (g.to z ∷ []) (g.to y))
            (later (sym (ap (λ b. b || is_in zs y) e) ∙ is))
            (ap (λ b. b || false) (is-other reg (g.to y) (free y less) low (omega (arith, high))))

    -- ---- sets

    covers-in : (rs : List ℕ) → are_below names rs ≡ true → Covers (is_in rs) (is_in (map g.to rs))
    covers-in rs h x less is = is_in-registers l names g rs x h less ∙ is

    covers-test : (test : Cond) → are_below names (test_names test) ≡ true
        → Covers (is_in (test_names test)) (is_in (test_names (renamed_test g.to test)))
    covers-test (NonZero y) h = covers-in (y ∷ []) h
    covers-test (Compare rel y z) h = covers-in (y ∷ z ∷ []) h

    covers-union : (a b p q : Names) → Covers a p → Covers b q → Covers (union a b) (union p q)
    covers-union a b p q h k x less is = by (a x) refl is
      where
        by : (c : Bool) → a x ≡ c → (c || b x) ≡ true → (p (g.to x) || q (g.to x)) ≡ true
        by true e i = ap (λ v. v || q (g.to x)) (h x less e)
        by false e i = or-true (p (g.to x)) (q (g.to x)) (k x less i)

    covers-without : (a b : Names) (ws : List ℕ) → are_below names ws ≡ true → Covers a b
        → Covers (without a ws) (without b (map g.to ws))
    covers-without a b ws h k x less is =
        rw (is_in-registers l names g ws x h less, k x less (and-first (a x) (not (is_in ws x)) is))
        (and-second (a x) (not (is_in ws x)) is)

    covers-before : (a b : Names) (ws rs : List ℕ) → are_below names ws ≡ true → are_below names rs ≡ true → Covers a b
        → Covers (union (without a ws) (is_in rs)) (union (without b (map g.to ws)) (is_in (map g.to rs)))
    covers-before a b ws rs h k c =
        covers-union (without a ws) (is_in rs) (without b (map g.to ws)) (is_in (map g.to rs))
        (covers-without a b ws h c) (covers-in rs k)

    -- ---- statements

    -- statements in place of others: what is live before those is live before these, and with no dead
    -- statement there is none here but copies
    record Keeps (a b : Names) (news olds : List Live) : Type 0 where
      before : Covers (entry olds a) (entry news b)
      quiet : list_any is_dead (moments olds a) ≡ false → list_any is_wasted (moments news b) ≡ false

    abbrev Spills : Stmt → Type 0
    Spills c =
        is_well_formed_statement ps names c ≡ true → (a b : Names) → Covers a b
        → Keeps a b (map live (spilled l c)) (live c ∷ [])

    abbrev Known : Type 0
    Known = (c : Stmt) × Spills c

    abbrev stmts : List Known → List Stmt
    stmts cs = map (λ e. e.0) cs

    abbrev well : List Stmt → Bool
    well cs = list_all (λ ok. ok) (map (is_well_formed_statement ps names) cs)

    keeps-append : (a b : Names) (news more olds others : List Live) → Keeps (entry others a) (entry more b) news olds
        → Keeps a b more others
        → Keeps a b (news ++ more) (olds ++ others)
    keeps-append a b news more olds others k n = record {
      before = λ x less h.
          ap (λ e. e (g.to x)) (entry-append news more b)
          ∙ k.before x less (sym (ap (λ e. e x) (entry-append olds others a)) ∙ h);
      quiet = λ h.
          let both = sym (ap (list_any is_dead) (moments-append olds others a)
          ∙ list_any-append is_dead (moments olds (entry others a)) (moments others a)) ∙ h in
          ap (list_any is_wasted) (moments-append news more b)
          ∙ list_any-append is_wasted (moments news (entry more b)) (moments more b)
          ∙ neither (list_any is_wasted (moments news (entry more b))) (list_any is_wasted (moments more b))
          (k.quiet
          (or-first (list_any is_dead (moments olds (entry others a))) (list_any is_dead (moments others a)) both))
          (n.quiet (or-second (list_any is_dead (moments olds (entry others a)))
          (list_any is_dead (moments others a)) both));
    }

    keeps-all : (a b : Names) (cs : List Known) → well (stmts cs) ≡ true → Covers a b
        → Keeps a b (map live (joined (map (spilled l) (stmts cs)))) (map live (stmts cs))
    keeps-all a b [] h c = record { before = c; quiet = λ e. refl }
    keeps-all a b (s ∷ cs) h c =
        let rest = joined (map (spilled l) (stmts cs)) in
        let more = keeps-all a b cs (and-second (is_well_formed_statement ps names s.0) (well (stmts cs)) h) c in
        let here = s.1 (and-first (is_well_formed_statement ps names s.0) (well (stmts cs)) h)
        (entry (map live (stmts cs)) a) (entry (map live rest) b) more.before in
        subst (λ news. Keeps a b news (live s.0 ∷ map live (stmts cs))) (sym (map-append live (spilled l s.0) rest))
        (keeps-append a b (map live (spilled l s.0)) (map live rest) (live s.0 ∷ []) (map live (stmts cs)) here more)

    abbrev opened : Stmt-F Known → Stmt-F Stmt
    opened y = map-Stmt Known Stmt (λ e. e.0) y

    abbrev LayerKeeps : Stmt-F Stmt → Type 0
    LayerKeeps z =
        step (fits ps names) (map-Stmt Stmt Bool (is_well_formed_statement ps names) z) ≡ true
        → (a b : Names) → Covers a b
        → Keeps a b (map live (spilled_step l (map-Stmt Stmt (List Stmt) (spilled l) z)))
        (live_step (map-Stmt Stmt Live live z) ∷ [])

    -- one statement for a statement
    one : (a b : Names) (y : Stmt-F Stmt) (xs : List Stmt) (olds : List Live) → xs ≡ roll-Stmt y ∷ []
        → Keeps a b (live_step (map-Stmt Stmt Live live y) ∷ []) olds → Keeps a b (map live xs) olds
    one a b y xs olds is k =
        subst (λ news. Keeps a b news olds) (sym (ap (map live) is ∙ ap (λ s. s ∷ []) (live-roll y))) k

    layer : (y : Stmt-F Known) → LayerKeeps (opened y)
    layer (Stmt-F.Lit x n) h a b c =
        let k = layer-facts names (x ∷ []) [] true true h in
        one a b (Stmt-F.Lit (g.to x) n) (spilled_step l (Stmt-F.Lit x n)) (live_step (Stmt-F.Lit x n) ∷ [])
        (one-statement l names g (Stmt-F.Lit x n) refl k.writes refl) (record {
          before = covers-before a b (x ∷ []) [] k.writes refl c;
          quiet = still-live (a x) (b (g.to x)) (c x (first-below names x [] k.writes));
        })
    layer (Stmt-F.Copy x y) h a b c =
        let k = layer-facts names (x ∷ []) (y ∷ []) true true h in
        one a b (Stmt-F.Copy (g.to x) (g.to y)) (spilled_step l (Stmt-F.Copy x y)) (live_step (Stmt-F.Copy x y) ∷ [])
        (one-statement l names g (Stmt-F.Copy x y) refl k.writes k.reads) (record {
          before = covers-before a b (x ∷ []) (y ∷ []) k.writes k.reads c;
          quiet = λ e. copy-quiet (b (g.to x));
        })
    layer (Stmt-F.Op x op y (operand.Name z)) h a b c =
        let k = layer-facts names (x ∷ []) (y ∷ z ∷ []) true true h in
        one a b (Stmt-F.Op (g.to x) op (g.to y) (operand.Name (g.to z)))
        (spilled_step l (Stmt-F.Op x op y (operand.Name z))) (live_step (Stmt-F.Op x op y (operand.Name z)) ∷ [])
        (one-statement l names g (Stmt-F.Op x op y (operand.Name z)) refl k.writes k.reads) (record {
          before = covers-before a b (x ∷ []) (y ∷ z ∷ []) k.writes k.reads c;
          quiet = still-live (a x) (b (g.to x)) (c x (first-below names x [] k.writes));
        })
    layer (Stmt-F.Op x op y (operand.Const n)) h a b c =
        let k = layer-facts names (x ∷ []) (y ∷ []) (operand_fits op (operand.Const n)) true h in
        one a b (Stmt-F.Op (g.to x) op (g.to y) (operand.Const n)) (spilled_step l (Stmt-F.Op x op y (operand.Const n)))
        (live_step (Stmt-F.Op x op y (operand.Const n)) ∷ [])
        (one-statement l names g (Stmt-F.Op x op y (operand.Const n)) refl k.writes k.reads) (record {
          before = covers-before a b (x ∷ []) (y ∷ []) k.writes k.reads c;
          quiet = still-live (a x) (b (g.to x)) (c x (first-below names x [] k.writes));
        })
    layer (Stmt-F.Load x size y offset) h a b c =
        let k = layer-facts names (x ∷ []) (y ∷ []) (is_immediate offset) true h in
        one a b (Stmt-F.Load (g.to x) size (g.to y) offset) (spilled_step l (Stmt-F.Load x size y offset))
        (live_step (Stmt-F.Load x size y offset) ∷ [])
        (one-statement l names g (Stmt-F.Load x size y offset) refl k.writes k.reads) (record {
          before = covers-before a b (x ∷ []) (y ∷ []) k.writes k.reads c;
          quiet = still-live (a x) (b (g.to x)) (c x (first-below names x [] k.writes));
        })
    layer (Stmt-F.Store size y z offset) h a b c =
        let k = layer-facts names [] (y ∷ z ∷ []) (is_immediate offset) true h in
        one a b (Stmt-F.Store size (g.to y) (g.to z) offset) (spilled_step l (Stmt-F.Store size y z offset))
        (live_step (Stmt-F.Store size y z offset) ∷ [])
        (one-statement l names g (Stmt-F.Store size y z offset) refl refl k.reads) (record {
          before = covers-before a b [] (y ∷ z ∷ []) refl k.reads c;
          quiet = λ e. refl;
        })
    layer (Stmt-F.Table x size bytes y) h a b c =
        let k = layer-facts names (x ∷ []) (y ∷ []) true true h in
        one a b (Stmt-F.Table (g.to x) size bytes (g.to y)) (spilled_step l (Stmt-F.Table x size bytes y))
        (live_step (Stmt-F.Table x size bytes y) ∷ [])
        (one-statement l names g (Stmt-F.Table x size bytes y) refl k.writes k.reads) (record {
          before = covers-before a b (x ∷ []) (y ∷ []) k.writes k.reads c;
          quiet = still-live (a x) (b (g.to x)) (c x (first-below names x [] k.writes));
        })
    layer (Stmt-F.Stackalloc x n body) h a b c =
        let formed = well (stmts body) in
        let k = layer-facts names (x ∷ []) [] (n % 4 == 0) (formed && true) h in
        let made = map (spilled l) (stmts body) in
        let news = map live (joined made) in
        let olds = map live (stmts body) in
        let inner = keeps-all a b body (and-first formed true k.parts) c in
        one a b (Stmt-F.Stackalloc (g.to x) n (joined made)) (spilled_step l (Stmt-F.Stackalloc x n made))
        (live_step (Stmt-F.Stackalloc x n olds) ∷ [])
        (one-statement l names g (Stmt-F.Stackalloc x n made) refl k.writes refl) (record {
          before = covers-without (entry olds a) (entry news b) (x ∷ []) k.writes inner.before;
          quiet = λ e. ap (list_any is_wasted) (append-nil (moments news b))
              ∙ inner.quiet (sym (ap (list_any is_dead) (append-nil (moments olds a))) ∙ e);
        })
    layer (Stmt-F.If test first second) h a b c =
        let one_formed = well (stmts first) in
        let two_formed = well (stmts second) in
        let k = layer-facts names [] (test_names test) true (one_formed && (two_formed && true)) h in
        let yes = map (spilled l) (stmts first) in
        let no = map (spilled l) (stmts second) in
        let n1 = map live (joined yes) in
        let n2 = map live (joined no) in
        let o1 = map live (stmts first) in
        let o2 = map live (stmts second) in
        let k1 = keeps-all a b first (and-first one_formed (two_formed && true) k.parts) c in
        let k2 = keeps-all a b second
        (and-first two_formed true (and-second one_formed (two_formed && true) k.parts)) c in
        one a b (Stmt-F.If (renamed_test g.to test) (joined yes) (joined no)) (spilled_step l (Stmt-F.If test yes no))
        (live_step (Stmt-F.If test o1 o2) ∷ [])
        (one-statement l names g (Stmt-F.If test yes no) refl refl k.reads) (record {
          before = covers-union (is_in (test_names test)) (union (entry o1 a) (entry o2 a))
              (is_in (test_names (renamed_test g.to test))) (union (entry n1 b) (entry n2 b))
              (covers-test test k.reads)
              (covers-union (entry o1 a) (entry o2 a) (entry n1 b) (entry n2 b) k1.before k2.before);
          quiet = two-parts (moments o1 a) (moments o2 a) (moments n1 b) (moments n2 b) k1.quiet k2.quiet;
        })
    layer (Stmt-F.Loop first test last) h a b c =
        let one_formed = well (stmts first) in
        let two_formed = well (stmts last) in
        let k = layer-facts names [] (test_names test) true (one_formed && (two_formed && true)) h in
        let f1 = and-first one_formed (two_formed && true) k.parts in
        let f2 = and-first two_formed true (and-second one_formed (two_formed && true) k.parts) in
        let begins = map (spilled l) (stmts first) in
        let turns = map (spilled l) (stmts last) in
        let n1 = map live (joined begins) in
        let n2 = map live (joined turns) in
        let o1 = map live (stmts first) in
        let o2 = map live (stmts last) in
        let renames = renamed_test g.to test in
        let none = keeps-all nothing nothing first f1 (λ x less e. absurd (cc e)) in
        let turn = keeps-all (entry o1 nothing) (entry n1 nothing) last f2 none.before in
        let tests : Covers (at_test o1 test o2 a) (at_test n1 renames n2 b) =
        covers-union (is_in (test_names test)) (union a (entry o2 (entry o1 nothing))) (is_in (test_names renames))
        (union b (entry n2 (entry n1 nothing)))
        (covers-test test k.reads)
        (covers-union a (entry o2 (entry o1 nothing)) b (entry n2 (entry n1 nothing)) c turn.before) in
        let k1 = keeps-all (at_test o1 test o2 a) (at_test n1 renames n2 b) first f1 tests in
        let k2 = keeps-all (entry o1 (at_test o1 test o2 a)) (entry n1 (at_test n1 renames n2 b)) last f2 k1.before in
        one a b (Stmt-F.Loop (joined begins) renames (joined turns)) (spilled_step l (Stmt-F.Loop begins test turns))
        (live_step (Stmt-F.Loop o1 test o2) ∷ [])
        (one-statement l names g (Stmt-F.Loop begins test turns) refl refl k.reads) (record {
          before = k1.before;
          quiet = two-parts (moments o1 (at_test o1 test o2 a)) (moments o2 (entry o1 (at_test o1 test o2 a)))
              (moments n1 (at_test n1 renames n2 b)) (moments n2 (entry n1 (at_test n1 renames n2 b)))
              k1.quiet k2.quiet;
        })
    layer (Stmt-F.Call xs f ys) h a b c = record {
      before = λ x less e. ap (λ news. entry news b (g.to x)) shows ∙ by x less (is_in ys x) refl e;
      quiet = λ e.
          ap (λ news. list_any is_wasted (moments news b)) shows
          ∙ ap (list_any is_wasted) (moments-append (map live gives) (call ∷ map live takes_back) b)
          ∙ list_any-append is_wasted (moments (map live gives) called) (moments (call ∷ map live takes_back) b)
          ∙ neither (list_any is_wasted (moments (map live gives) called))
          (list_any is_wasted (moments (call ∷ map live takes_back) b))
          (passed-quiet g.to ys 10 called) (taken-quiet g.to xs 10 b);
    }
      where
        counts : Bool
        counts = counts_fit (slice_get ps f) (length xs) (length ys)

        facts : Layer names xs ys (counts && all_differ xs) true
        facts = layer-facts names xs ys (counts && all_differ xs) true h

        both_few : (length xs ≤ 8) × (length ys ≤ 8)
        both_few = few f (length xs) (length ys) (and-first counts (all_differ xs) facts.fit)

        gives : List Stmt
        gives = passed g.to ys 10

        takes_back : List Stmt
        takes_back = taken g.to xs 10

        call : Live
        call = live_step (Stmt-F.Call (in_order 10 (length xs)) f (in_order 10 (length ys)))

        made : Stmt-F Stmt
        made = Stmt-F.Call (in_order 10 (length xs)) f (in_order 10 (length ys))

        shows : map live (spilled_step l (Stmt-F.Call xs f ys)) ≡ map live gives ++ call ∷ map live takes_back
        shows =
            ap (λ first. map live (first ++ roll-Stmt made ∷ takes (map l.place xs) 10))
            (passes-copies l names g ys 10 facts.reads)
            ∙ ap (λ last. map live (gives ++ roll-Stmt made ∷ last)) (takes-copies l names g xs 10 facts.writes)
            ∙ map-append live gives (roll-Stmt made ∷ takes_back)
            ∙ ap (λ s. map live gives ++ s ∷ map live takes_back) (live-roll made)

        returned : Names
        returned = entry (map live takes_back) b

        called : Names
        called = call.before returned

        by : (x : ℕ) → x < names → (v : Bool) → is_in ys x ≡ v → ((a x && not (is_in xs x)) || v) ≡ true
            → entry (map live gives ++ call ∷ map live takes_back) b (g.to x) ≡ true
        by x less v is e =
            ap (λ n. n (g.to x)) (entry-append (map live gives) (call ∷ map live takes_back) b) ∙ here v is e
          where
            low : 10 + length xs ≤ 18
            low = let few_results = both_few.0 in omega (arith, few_results)

            high : 10 + length ys ≤ 18
            high = let few_args = both_few.1 in omega (arith, few_args)

            here : (v : Bool) → is_in ys x ≡ v → ((a x && not (is_in xs x)) || v) ≡ true
                → entry (map live gives) called (g.to x) ≡ true
            here true is e = passed-reads ys 10 called x facts.reads (omega arith) high less is
            here false is e = across (a x) (is_in xs x) refl refl e
              where
                across : (p q : Bool) → a x ≡ p → is_in xs x ≡ q → ((p && not q) || false) ≡ true
                    → entry (map live gives) called (g.to x) ≡ true
                across true false i o e =
                    let after = taken-keeps g.to xs 10 b (g.to x) (is_in-registers l names g xs x facts.writes less ∙ o)
                    (c x less i) in
                    passed-keeps g.to ys 10 called (g.to x) (omega arith) high (free x less)
                    (stays (returned (g.to x))
                    (is_in (in_order 10 (length xs)) (g.to x)) (is_in (in_order 10 (length ys)) (g.to x)) after
                    (passing-others (length xs) 10 (g.to x) (omega arith) low (free x less)))
                across true true i o e = absurd (cc e)
                across false q i o e = absurd (cc e)
    layer (Stmt-F.Read x y) h a b c =
        let k = layer-facts names (x ∷ []) (y ∷ []) true true h in
        one a b (Stmt-F.Read (g.to x) (g.to y)) (spilled_step l (Stmt-F.Read x y)) (live_step (Stmt-F.Read x y) ∷ [])
        (one-statement l names g (Stmt-F.Read x y) refl k.writes k.reads) (record {
          before = covers-before a b (x ∷ []) (y ∷ []) k.writes k.reads c;
          quiet = λ e. refl;
        })
    layer (Stmt-F.Write y z) h a b c =
        let k = layer-facts names [] (y ∷ z ∷ []) true true h in
        one a b (Stmt-F.Write (g.to y) (g.to z)) (spilled_step l (Stmt-F.Write y z)) (live_step (Stmt-F.Write y z) ∷ [])
        (one-statement l names g (Stmt-F.Write y z) refl refl k.reads) (record {
          before = covers-before a b [] (y ∷ z ∷ []) refl k.reads c;
          quiet = λ e. refl;
        })

    statement-keeps : (c : Stmt) → Spills c
    statement-keeps = ind-Stmt Spills (λ x y is h a b c.
        let kept = subst LayerKeeps is (layer y) (sym (fold-roll-Stmt Bool (step (fits ps names)) x) ∙ h) a b c in
        subst (λ s. Keeps a b (map live (spilled l (roll-Stmt x))) (s ∷ [])) (sym (live-roll x))
        (subst (λ cs. Keeps a b (map live cs) (live_step (map-Stmt Stmt Live live x) ∷ []))
        (sym (fold-roll-Stmt (List Stmt) (spilled_step l) x)) kept))

    known : List Stmt → List Known
    known [] = []
    known (c ∷ cs) = (c, statement-keeps c) ∷ known cs

    stmts-known : (cs : List Stmt) → stmts (known cs) ≡ cs
    unfolding known
    stmts-known [] = refl
    stmts-known (c ∷ cs) = ap (λ ds. c ∷ ds) (stmts-known cs)

    well-all : (cs : List Stmt) → well cs ≡ list_all (is_well_formed_statement ps names) cs
    well-all [] = refl
    well-all (c ∷ cs) = ap (λ b. is_well_formed_statement ps names c && b) (well-all cs)

    -- the body of a function, with arguments taken before and results passed after
    pub body-quiet : (args results : List ℕ) (cs : List Stmt) → are_below names args ≡ true
        → are_below names results ≡ true → length results ≤ 8
        → list_all (is_well_formed_statement ps names) cs ≡ true
        → list_any is_dead (moments (map live cs) (is_in results)) ≡ false
        → list_any is_wasted (moments (map live (takes (map l.place args) 10 ++ (joined (map (spilled l) cs)
        ++ passes (map l.place results) 10))) (is_in (in_order 10 (length results)))) ≡ false
    body-quiet args results cs h k most formed none =
        let first = taken g.to args 10 in
        let middle = joined (map (spilled l) cs) in
        let last = passed g.to results 10 in
        let end = is_in (in_order 10 (length results)) in
        let is : takes (map l.place args) 10 ++ (middle ++ passes (map l.place results) 10)
        ≡ first ++ (middle ++ last) =
        ap (λ xs. xs ++ (middle ++ passes (map l.place results) 10)) (takes-copies l names g args 10 h)
        ∙ ap (λ xs. first ++ (middle ++ xs)) (passes-copies l names g results 10 k) in
        let ends = entry (map live last) end in
        let covered : Covers (is_in results) ends =
        λ x less e. passed-reads results 10 end x k (omega arith) (omega (arith, most)) less e in
        let inside : Keeps (is_in results) ends (map live middle) (map live cs) =
        subst (λ ds. Keeps (is_in results) ends (map live (joined (map (spilled l) ds))) (map live ds)) (stmts-known cs)
        (keeps-all (is_in results) ends (known cs) (ap well (stmts-known cs) ∙ well-all cs ∙ formed) covered) in
        ap (λ xs. list_any is_wasted (moments (map live xs) end)) is
        ∙ ap (λ xs. list_any is_wasted (moments xs end))
        (map-append live first (middle ++ last) ∙ ap (λ xs. map live first ++ xs) (map-append live middle last))
        ∙ quiet-append (map live first) (map live middle ++ map live last) end
        (taken-quiet g.to args 10 (entry (map live middle ++ map live last) end))
        (quiet-append (map live middle) (map live last) end (inside.quiet none) (passed-quiet g.to results 10 end))
      where
        quiet-append : (xs ys : List Live) (end : Names) → list_any is_wasted (moments xs (entry ys end)) ≡ false
            → list_any is_wasted (moments ys end) ≡ false
            → list_any is_wasted (moments (xs ++ ys) end) ≡ false
        quiet-append xs ys end e f =
            ap (list_any is_wasted) (moments-append xs ys end)
            ∙ list_any-append is_wasted (moments xs (entry ys end)) (moments ys end)
            ∙ neither (list_any is_wasted (moments xs (entry ys end))) (list_any is_wasted (moments ys end)) e f

not-true : (b : Bool) → not b ≡ true → b ≡ false
not-true true h = absurd (cc h)
not-true false h = refl

-- A function without words of a buffer has no dead statement but copies where the one that it comes from has none.
pub none-wasted : (ps : List FlatFunc) → list_all (is_well_formed_function ps) ps ≡ true → (l : Layout) (f : FlatFunc)
    → Fits f.names l → l.slots ≡ 0
    → is_well_formed_function ps f ≡ true → has_no_dead f ≡ true → has_no_dead_but_copies (spilled_function l f) ≡ true
none-wasted ps formed l f fits none h quiet =
    let head = head-of f
    (and-first (is_well_formed_head f) (list_all (is_well_formed_statement ps f.names) f.body) h) in
    let body = takes (map l.place f.args) 10
    ++ (joined (map (spilled l) f.body) ++ passes (map l.place f.results) 10) in
    let end = is_in (in_order 10 (length f.results)) in
    ap (λ n. not (list_any is_wasted (moments (map live (in_buffer n body)) end))) none
    ∙ ap not (body-quiet ps (few-at ps ps formed) l f.names (plain f.names l fits none) f.args f.results f.body
    head.args head.results head.few_results
    (and-second (is_well_formed_head f) (list_all (is_well_formed_statement ps f.names) f.body) h)
    (not-true (list_any is_dead (moments (map live f.body) (is_in f.results))) quiet))
