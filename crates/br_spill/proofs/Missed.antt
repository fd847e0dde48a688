-- A function whose names all have registers misses an operand only where the function that it comes from does.
use Rattle.std.proofs.Common.{◌≡◌, ℕ, suc, ◌%◌, ◌<◌, ◌==◌, ◌&&◌, ◌||◌, not, Bool, true, false, if◌then◌else◌, List}
use Rattle.std.proofs.Common.{[], ◌∷◌, ◌++◌, map, length, Option, None, refl, sym, ap, subst, ◌∙◌, slice_get}
use Rattle.std.specs.List.{list_all}
use Rattle.std.proofs.lemmas.List.{map-append}
use Rattle.br_flatimp.specs.declared.program.Operand.TheVariants as operand
use Rattle.br_flatimp.specs.declared.program.Stmt.{Stmt, map-Stmt}
use Rattle.br_flatimp.specs.declared.program.Stmt.TheOpen.{Stmt-F}
use Rattle.br_flatimp.specs.declared.program.Stmt.TheViews.{roll-Stmt}
use Rattle.br_flatimp.specs.declared.program.Stmt.TheFolds.{fold-roll-Stmt, ind-Stmt}
use Rattle.br_flatimp.specs.declared.program.FlatFunc.{FlatFunc}
use Rattle.br_flatimp.specs.Liveness.{is_in}
use Rattle.br_flatimp.specs.Parts.{test_names}
use Rattle.br_flatimp.specs.Renaming.{renamed_test}
use Rattle.br_flatimp.specs.WellFormed.{is_immediate, operand_fits, all_differ, counts_fit, are_below, fits}
use Rattle.br_flatimp.specs.WellFormed.{is_well_formed_statement, is_well_formed_head, is_well_formed_function}
use Rattle.br_flatimp.specs.Missed.{Shown, literal_of, fits_literal, is_missed}
use Rattle.br_flatimp.specs.Missed.{misses_after, shown_step, shown, has_no_missed}
use Rattle.br_spill.specs.Spill.{Layout, Fits, in_order, passes, takes, joined}
use Rattle.br_spill.specs.Spill.{spilled_step, spilled, in_buffer, spilled_function}
use Rattle.br_spill.proofs.Form.{and-first, and-second, step}
use Rattle.br_spill.proofs.Formed.{layer-facts, head-of}
use Rattle.br_spill.proofs.Plain.{Plain, plain, first-below, rest-below, is_in-registers}
use Rattle.br_spill.proofs.Plain.{one-statement, taken, passed, takes-copies, passes-copies}

-- ---- statements in turn

-- what statements show looking back, after others
abbrev turned : List Shown → List Shown → List Shown
turned [] earlier = earlier
turned (s ∷ rest) earlier = turned rest (s ∷ earlier)

turned-append : (xs ys earlier : List Shown) → turned (xs ++ ys) earlier ≡ turned ys (turned xs earlier)
turned-append [] ys earlier = refl
turned-append (x ∷ xs) ys earlier = turned-append xs ys (x ∷ earlier)

or-assoc : (a b c d : Bool) → (a || b || (c || d)) ≡ ((a || b || c) || d)
or-assoc true b c d = refl
or-assoc false true c d = refl
or-assoc false false c d = refl

or-alone : (a b : Bool) → (a || b || false) ≡ (a || b)
or-alone true b = refl
or-alone false true = refl
or-alone false false = refl

misses-append : (earlier xs ys : List Shown)
    → misses_after earlier (xs ++ ys) ≡ (misses_after earlier xs || misses_after (turned xs earlier) ys)
misses-append earlier [] ys = refl
misses-append earlier (x ∷ xs) ys =
    ap (λ b. is_missed x.operand earlier || x.misses || b) (misses-append (x ∷ earlier) xs ys)
    ∙ or-assoc (is_missed x.operand earlier) x.misses (misses_after (x ∷ earlier) xs)
    (misses_after (turned xs (x ∷ earlier)) ys)

shown-roll : (y : Stmt-F Stmt) → shown (roll-Stmt y) ≡ shown_step (map-Stmt Stmt Shown shown y)
shown-roll y = fold-roll-Stmt Shown shown_step y

-- ---- copies

abbrev copy_shown : ℕ → Shown
copy_shown x = record { written = x ∷ []; is_straight = true; literal = None; operand = None; misses = false }

taken-misses : (to : ℕ → ℕ) (xs : List ℕ) (from : ℕ) (earlier : List Shown)
    → misses_after earlier (map shown (taken to xs from)) ≡ false
taken-misses to [] from earlier = refl
taken-misses to (x ∷ xs) from earlier =
    ap (λ s. misses_after earlier (s ∷ map shown (taken to xs (suc from)))) (shown-roll (Stmt-F.Copy (to x) from))
    ∙ taken-misses to xs (suc from) (copy_shown (to x) ∷ earlier)

passed-misses : (to : ℕ → ℕ) (ys : List ℕ) (reg : ℕ) (earlier : List Shown)
    → misses_after earlier (map shown (passed to ys reg)) ≡ false
passed-misses to [] reg earlier = refl
passed-misses to (y ∷ ys) reg earlier =
    ap (λ s. misses_after earlier (s ∷ map shown (passed to ys (suc reg)))) (shown-roll (Stmt-F.Copy reg (to y)))
    ∙ passed-misses to ys (suc reg) (copy_shown reg ∷ earlier)

module _ (ps : List FlatFunc) (l : Layout) (names : ℕ) (g : Plain l names)
  where
    -- the literals of registers are those of their names
    abbrev Agree : List Shown → List Shown → Type 0
    Agree after before = (x : ℕ) → x < names → literal_of (g.to x) after ≡ literal_of x before

    abbrev NoLiterals : List Shown → Type 0
    NoLiterals earlier = (x : ℕ) → x < names → literal_of (g.to x) earlier ≡ None

    -- copies to registers give no literals
    taken-none : (xs : List ℕ) (from : ℕ) (earlier : List Shown) → NoLiterals earlier
        → NoLiterals (turned (map shown (taken g.to xs from)) earlier)
    taken-none [] from earlier h = h
    taken-none (x ∷ xs) from earlier h =
        subst (λ s. NoLiterals (turned (map shown (taken g.to xs (suc from))) (s ∷ earlier)))
        (sym (shown-roll (Stmt-F.Copy (g.to x) from)))
        (taken-none xs (suc from) (copy_shown (g.to x) ∷ earlier)
        (λ z less. by (is_in (g.to x ∷ []) (g.to z)) (literal_of (g.to z) earlier) (h z less)))
      where
        by : (b : Bool) (o : Option ℕ) → o ≡ None → (if b then None else o) ≡ None
        by true o e = refl
        by false o e = e

    -- what a statement shows in place of another
    record Alike (t s : Shown) : Type 0 where
      below : are_below names s.written ≡ true
      written : t.written ≡ map g.to s.written
      straight : t.is_straight ≡ s.is_straight
      literal : t.literal ≡ s.literal
      misses : t.misses ≡ s.misses
      missed : (after before : List Shown) → Agree after before → is_missed t.operand after ≡ is_missed s.operand before

    -- what statements show in place of one
    record Same (after before xs : List Shown) (s : Shown) : Type 0 where
      missed : misses_after after xs ≡ (is_missed s.operand before || s.misses)
      agree : Agree (turned xs after) (s ∷ before)

    alike : (after before : List Shown) (y : Stmt-F Stmt) (xs : List Stmt) (s : Shown) → xs ≡ roll-Stmt y ∷ []
        → Alike (shown_step (map-Stmt Stmt Shown shown y)) s → Agree after before → Same after before (map shown xs) s
    alike after before y xs s is a h =
        subst (λ shows. Same after before shows s) (sym (ap (map shown) is ∙ ap (λ t. t ∷ []) (shown-roll y))) (record {
          missed = or-alone (is_missed t.operand after) t.misses ∙ ap (λ b. b || t.misses) (a.missed after before h)
              ∙ ap (λ b. is_missed s.operand before || b) a.misses;
          agree = λ x less.
              rw (a.straight, a.literal, a.written, is_in-registers l names g s.written x a.below less, h x less) refl;
        })
      where
        t : Shown
        t = shown_step (map-Stmt Stmt Shown shown y)

    abbrev Spills : Stmt → Type 0
    Spills c =
        is_well_formed_statement ps names c ≡ true → (after before : List Shown) → Agree after before
        → Same after before (map shown (spilled l c)) (shown c)

    abbrev Known : Type 0
    Known = (c : Stmt) × Spills c

    abbrev stmts : List Known → List Stmt
    stmts cs = map (λ e. e.0) cs

    abbrev well : List Stmt → Bool
    well cs = list_all (λ ok. ok) (map (is_well_formed_statement ps names) cs)

    same-all : (after before : List Shown) (cs : List Known) → well (stmts cs) ≡ true → Agree after before
        → misses_after after (map shown (joined (map (spilled l) (stmts cs))))
        ≡ misses_after before (map shown (stmts cs))
    same-all after before [] h a = refl
    same-all after before (c ∷ cs) h a =
        let xs = map shown (spilled l c.0) in
        let rest = joined (map (spilled l) (stmts cs)) in
        let s = shown c.0 in
        let one = c.1 (and-first (is_well_formed_statement ps names c.0) (well (stmts cs)) h) after before a in
        let more = same-all (turned xs after) (s ∷ before) cs
        (and-second (is_well_formed_statement ps names c.0) (well (stmts cs)) h) one.agree in
        ap (misses_after after) (map-append shown (spilled l c.0) rest) ∙ misses-append after xs (map shown rest)
        ∙ ap (λ b. b || misses_after (turned xs after) (map shown rest)) one.missed
        ∙ ap (λ b. (is_missed s.operand before || s.misses) || b) more
        ∙ or-three (is_missed s.operand before) s.misses (misses_after (s ∷ before) (map shown (stmts cs)))
      where
        or-three : (a b c : Bool) → ((a || b) || c) ≡ (a || b || c)
        or-three true b c = refl
        or-three false true c = refl
        or-three false false c = refl

    part-same : (cs : List Known) → well (stmts cs) ≡ true
        → misses_after [] (map shown (joined (map (spilled l) (stmts cs)))) ≡ misses_after [] (map shown (stmts cs))
    part-same cs h = same-all [] [] cs h (λ x less. refl)

    abbrev opened : Stmt-F Known → Stmt-F Stmt
    opened y = map-Stmt Known Stmt (λ e. e.0) y

    abbrev LayerSame : Stmt-F Stmt → Type 0
    LayerSame z =
        step (fits ps names) (map-Stmt Stmt Bool (is_well_formed_statement ps names) z) ≡ true
        → (after before : List Shown) → Agree after before
        → Same after before (map shown (spilled_step l (map-Stmt Stmt (List Stmt) (spilled l) z)))
        (shown_step (map-Stmt Stmt Shown shown z))

    -- a statement without an operand that is a name
    quiet : (t s : Shown) → are_below names s.written ≡ true → t.written ≡ map g.to s.written
        → t.is_straight ≡ s.is_straight
        → t.literal ≡ s.literal → t.misses ≡ s.misses → t.operand ≡ None → s.operand ≡ None → Alike t s
    quiet t s h is straight literal misses e f = record {
      below = h;
      written = is;
      straight = straight;
      literal = literal;
      misses = misses;
      missed = λ after before a. ap (λ o. is_missed o after) e ∙ sym (ap (λ o. is_missed o before) f);
    }

    two-parts : (a b c d : Bool) → a ≡ c → b ≡ d → (a || (b || false)) ≡ (c || (d || false))
    two-parts a b c d e f = rw (e, f) refl

    layer : (y : Stmt-F Known) → LayerSame (opened y)
    layer (Stmt-F.Lit x n) h after before a =
        let k = layer-facts names (x ∷ []) [] true true h in
        alike after before (Stmt-F.Lit (g.to x) n) (spilled_step l (Stmt-F.Lit x n)) (shown_step (Stmt-F.Lit x n))
        (one-statement l names g (Stmt-F.Lit x n) refl k.writes refl)
        (quiet _ _ k.writes refl refl refl refl refl refl) a
    layer (Stmt-F.Copy x y) h after before a =
        let k = layer-facts names (x ∷ []) (y ∷ []) true true h in
        alike after before (Stmt-F.Copy (g.to x) (g.to y)) (spilled_step l (Stmt-F.Copy x y))
        (shown_step (Stmt-F.Copy x y))
        (one-statement l names g (Stmt-F.Copy x y) refl k.writes k.reads)
        (quiet _ _ k.writes refl refl refl refl refl refl) a
    layer (Stmt-F.Op x op y (operand.Name z)) h after before a =
        let k = layer-facts names (x ∷ []) (y ∷ z ∷ []) true true h in
        alike after before (Stmt-F.Op (g.to x) op (g.to y) (operand.Name (g.to z)))
        (spilled_step l (Stmt-F.Op x op y (operand.Name z))) (shown_step (Stmt-F.Op x op y (operand.Name z)))
        (one-statement l names g (Stmt-F.Op x op y (operand.Name z)) refl k.writes k.reads)
        (record {
          below = k.writes;
          written = refl;
          straight = refl;
          literal = refl;
          misses = refl;
          missed = λ p q e. ap (fits_literal op) (e z (first-below names z [] (rest-below names y (z ∷ []) k.reads)));
        }) a
    layer (Stmt-F.Op x op y (operand.Const n)) h after before a =
        let k = layer-facts names (x ∷ []) (y ∷ []) (operand_fits op (operand.Const n)) true h in
        alike after before (Stmt-F.Op (g.to x) op (g.to y) (operand.Const n))
        (spilled_step l (Stmt-F.Op x op y (operand.Const n))) (shown_step (Stmt-F.Op x op y (operand.Const n)))
        (one-statement l names g (Stmt-F.Op x op y (operand.Const n)) refl k.writes k.reads)
        (quiet _ _ k.writes refl refl refl refl refl refl) a
    layer (Stmt-F.Load x size y offset) h after before a =
        let k = layer-facts names (x ∷ []) (y ∷ []) (is_immediate offset) true h in
        alike after before (Stmt-F.Load (g.to x) size (g.to y) offset) (spilled_step l (Stmt-F.Load x size y offset))
        (shown_step (Stmt-F.Load x size y offset))
        (one-statement l names g (Stmt-F.Load x size y offset) refl k.writes k.reads)
        (quiet _ _ k.writes refl refl refl refl refl refl) a
    layer (Stmt-F.Store size y z offset) h after before a =
        let k = layer-facts names [] (y ∷ z ∷ []) (is_immediate offset) true h in
        alike after before (Stmt-F.Store size (g.to y) (g.to z) offset) (spilled_step l (Stmt-F.Store size y z offset))
        (shown_step (Stmt-F.Store size y z offset))
        (one-statement l names g (Stmt-F.Store size y z offset) refl refl k.reads)
        (quiet _ _ refl refl refl refl refl refl refl) a
    layer (Stmt-F.Table x size bytes y) h after before a =
        let k = layer-facts names (x ∷ []) (y ∷ []) true true h in
        alike after before (Stmt-F.Table (g.to x) size bytes (g.to y)) (spilled_step l (Stmt-F.Table x size bytes y))
        (shown_step (Stmt-F.Table x size bytes y))
        (one-statement l names g (Stmt-F.Table x size bytes y) refl k.writes k.reads)
        (quiet _ _ k.writes refl refl refl refl refl refl) a
    layer (Stmt-F.Stackalloc x n body) h after before a =
        let inner = well (stmts body) in
        let k = layer-facts names (x ∷ []) [] (n % 4 == 0) (inner && true) h in
        let made = map (spilled l) (stmts body) in
        alike after before (Stmt-F.Stackalloc (g.to x) n (joined made)) (spilled_step l (Stmt-F.Stackalloc x n made))
        (shown_step (Stmt-F.Stackalloc x n (map shown (stmts body))))
        (one-statement l names g (Stmt-F.Stackalloc x n made) refl k.writes refl)
        (quiet _ _ k.writes refl refl refl
        (ap (λ b. b || false) (part-same body (and-first inner true k.parts))) refl refl) a
    layer (Stmt-F.If test first second) h after before a =
        let one = well (stmts first) in
        let two = well (stmts second) in
        let k = layer-facts names [] (test_names test) true (one && (two && true)) h in
        let yes = map (spilled l) (stmts first) in
        let no = map (spilled l) (stmts second) in
        alike after before (Stmt-F.If (renamed_test g.to test) (joined yes) (joined no)) (spilled_step l
        (Stmt-F.If test yes no)) (shown_step (Stmt-F.If test (map shown (stmts first)) (map shown (stmts second))))
        (one-statement l names g (Stmt-F.If test yes no) refl refl k.reads)
        (quiet _ _ refl refl refl refl
        (two-parts (misses_after [] (map shown (joined yes))) (misses_after [] (map shown (joined no)))
        (misses_after [] (map shown (stmts first))) (misses_after [] (map shown (stmts second)))
        (part-same first (and-first one (two && true) k.parts))
        (part-same second (and-first two true (and-second one (two && true) k.parts)))) refl refl) a
    layer (Stmt-F.Loop first test last) h after before a =
        let one = well (stmts first) in
        let two = well (stmts last) in
        let k = layer-facts names [] (test_names test) true (one && (two && true)) h in
        let begins = map (spilled l) (stmts first) in
        let turns = map (spilled l) (stmts last) in
        alike after before (Stmt-F.Loop (joined begins) (renamed_test g.to test) (joined turns))
        (spilled_step l (Stmt-F.Loop begins test turns))
        (shown_step (Stmt-F.Loop (map shown (stmts first)) test (map shown (stmts last))))
        (one-statement l names g (Stmt-F.Loop begins test turns) refl refl k.reads)
        (quiet _ _ refl refl refl refl
        (two-parts (misses_after [] (map shown (joined begins))) (misses_after [] (map shown (joined turns)))
        (misses_after [] (map shown (stmts first))) (misses_after [] (map shown (stmts last)))
        (part-same first (and-first one (two && true) k.parts))
        (part-same last (and-first two true (and-second one (two && true) k.parts)))) refl refl) a
    layer (Stmt-F.Call xs f ys) h after before a =
        let counts = counts_fit (slice_get ps f) (length xs) (length ys) in
        let k = layer-facts names xs ys (counts && all_differ xs) true h in
        let call : Stmt-F Stmt = Stmt-F.Call (in_order 10 (length xs)) f (in_order 10 (length ys)) in
        let gives = passed g.to ys 10 in
        let takes_back = taken g.to xs 10 in
        let passing = turned (map shown gives) after in
        let is : spilled_step l (Stmt-F.Call xs f ys) ≡ gives ++ roll-Stmt call ∷ takes_back =
        ap (λ first. first ++ roll-Stmt call ∷ takes (map l.place xs) 10) (passes-copies l names g ys 10 k.reads)
        ∙ ap (λ last. gives ++ roll-Stmt call ∷ last) (takes-copies l names g xs 10 k.writes) in
        let shows : map shown (spilled_step l (Stmt-F.Call xs f ys))
        ≡ map shown gives ++ shown_step (map-Stmt Stmt Shown shown call) ∷ map shown takes_back =
        ap (map shown) is ∙ map-append shown gives (roll-Stmt call ∷ takes_back)
        ∙ ap (λ s. map shown gives ++ s ∷ map shown takes_back) (shown-roll call) in
        subst (λ list. Same after before list (shown_step (Stmt-F.Call xs f ys))) (sym shows) (record {
          missed =
              misses-append after (map shown gives) (shown_step (map-Stmt Stmt Shown shown call) ∷ map shown takes_back)
              ∙ ap (λ b. b || misses_after passing (shown_step (map-Stmt Stmt Shown shown call) ∷ map shown takes_back))
              (passed-misses g.to ys 10 after)
              ∙ taken-misses g.to xs 10 (shown_step (map-Stmt Stmt Shown shown call) ∷ passing);
          agree = λ x less.
              ap (literal_of (g.to x)) (turned-append (map shown gives)
              (shown_step (map-Stmt Stmt Shown shown call) ∷ map shown takes_back) after)
              ∙ taken-none xs 10 (shown_step (map-Stmt Stmt Shown shown call) ∷ passing) (λ z under. refl) x less;
        })
    layer (Stmt-F.Read x y) h after before a =
        let k = layer-facts names (x ∷ []) (y ∷ []) true true h in
        alike after before (Stmt-F.Read (g.to x) (g.to y)) (spilled_step l (Stmt-F.Read x y))
        (shown_step (Stmt-F.Read x y))
        (one-statement l names g (Stmt-F.Read x y) refl k.writes k.reads)
        (quiet _ _ k.writes refl refl refl refl refl refl) a
    layer (Stmt-F.Write y z) h after before a =
        let k = layer-facts names [] (y ∷ z ∷ []) true true h in
        alike after before (Stmt-F.Write (g.to y) (g.to z)) (spilled_step l (Stmt-F.Write y z))
        (shown_step (Stmt-F.Write y z))
        (one-statement l names g (Stmt-F.Write y z) refl refl k.reads)
        (quiet _ _ refl refl refl refl refl refl refl) a

    statement-same : (c : Stmt) → Spills c
    statement-same = ind-Stmt Spills (λ x y is h after before a.
        let same = subst LayerSame is (layer y) (sym (fold-roll-Stmt Bool (step (fits ps names)) x) ∙ h)
        after before a in
        subst (λ s. Same after before (map shown (spilled l (roll-Stmt x))) s) (sym (shown-roll x))
        (subst (λ cs. Same after before (map shown cs) (shown_step (map-Stmt Stmt Shown shown x)))
        (sym (fold-roll-Stmt (List Stmt) (spilled_step l) x)) same))

    known : List Stmt → List Known
    known [] = []
    known (c ∷ cs) = (c, statement-same c) ∷ known cs

    stmts-known : (cs : List Stmt) → stmts (known cs) ≡ cs
    unfolding known
    stmts-known [] = refl
    stmts-known (c ∷ cs) = ap (λ ds. c ∷ ds) (stmts-known cs)

    well-all : (cs : List Stmt) → well cs ≡ list_all (is_well_formed_statement ps names) cs
    well-all [] = refl
    well-all (c ∷ cs) = ap (λ b. is_well_formed_statement ps names c && b) (well-all cs)

    -- the body of a function, with arguments taken before and results passed after
    pub body-same : (args results : List ℕ) (cs : List Stmt) → are_below names args ≡ true
        → are_below names results ≡ true
        → list_all (is_well_formed_statement ps names) cs ≡ true
        → misses_after [] (map shown
        (takes (map l.place args) 10 ++ (joined (map (spilled l) cs) ++ passes (map l.place results) 10)))
        ≡ misses_after [] (map shown cs)
    body-same args results cs h k formed =
        let first = taken g.to args 10 in
        let middle = joined (map (spilled l) cs) in
        let last = passed g.to results 10 in
        let is : takes (map l.place args) 10 ++ (middle ++ passes (map l.place results) 10)
        ≡ first ++ (middle ++ last) =
        ap (λ xs. xs ++ (middle ++ passes (map l.place results) 10)) (takes-copies l names g args 10 h)
        ∙ ap (λ xs. first ++ (middle ++ xs)) (passes-copies l names g results 10 k) in
        let begun = turned (map shown first) [] in
        let inside : misses_after begun (map shown middle) ≡ misses_after [] (map shown cs) =
        subst (λ ds. misses_after begun (map shown (joined (map (spilled l) ds))) ≡ misses_after [] (map shown ds))
        (stmts-known cs)
        (same-all begun [] (known cs) (ap well (stmts-known cs) ∙ well-all cs ∙ formed)
        (taken-none args 10 [] (λ x less. refl))) in
        ap (λ xs. misses_after [] (map shown xs)) is
        ∙ ap (misses_after [])
        (map-append shown first (middle ++ last) ∙ ap (λ xs. map shown first ++ xs) (map-append shown middle last))
        ∙ misses-append [] (map shown first) (map shown middle ++ map shown last)
        ∙ ap (λ b. b || misses_after begun (map shown middle ++ map shown last)) (taken-misses g.to args 10 [])
        ∙ misses-append begun (map shown middle) (map shown last)
        ∙ ap (λ b. misses_after begun (map shown middle) || b)
        (passed-misses g.to results 10 (turned (map shown middle) begun))
        ∙ or-none (misses_after begun (map shown middle)) ∙ inside
      where
        or-none : (a : Bool) → (a || false) ≡ a
        or-none true = refl
        or-none false = refl

-- A function without words of a buffer misses an operand exactly where the one that it comes from does.
pub no-more-missed : (ps : List FlatFunc) (l : Layout) (f : FlatFunc) → Fits f.names l → l.slots ≡ 0
    → is_well_formed_function ps f ≡ true
    → has_no_missed (spilled_function l f) ≡ has_no_missed f
no-more-missed ps l f fits none h =
    let head = head-of f
    (and-first (is_well_formed_head f) (list_all (is_well_formed_statement ps f.names) f.body) h) in
    let body = takes (map l.place f.args) 10
    ++ (joined (map (spilled l) f.body) ++ passes (map l.place f.results) 10) in
    ap (λ n. not (misses_after [] (map shown (in_buffer n body)))) none
    ∙ ap not (body-same ps l f.names (plain f.names l fits none) f.args f.results f.body head.args head.results
    (and-second (is_well_formed_head f) (list_all (is_well_formed_statement ps f.names) f.body) h))
