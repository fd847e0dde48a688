-- A function with new names misses an operand only where the one that it comes from does: looking back from a
-- statement, the literal of a name that is live there is that of its new name.
use Rattle.std.proofs.Common.{◌≡◌, ℕ, Bool, true, false, ◌||◌, ◌==◌, not, IsTrue, if◌then◌else◌}
use Rattle.std.proofs.Common.{List, [], ◌∷◌, map, None, refl, sym, ap, subst, ◌∙◌}
use Rattle.std.specs.List.{AllByRecursion}
use Rattle.br_flatimp.specs.declared.program.Operand.TheVariants as operand
use Rattle.br_flatimp.specs.declared.program.FlatFunc.{FlatFunc}
use Rattle.br_flatimp.specs.declared.program.Stmt.{Stmt, map-Stmt}
use Rattle.br_flatimp.specs.declared.program.Stmt.TheOpen.{Stmt-F}
use Rattle.br_flatimp.specs.declared.program.Stmt.TheViews.{roll-Stmt}
use Rattle.br_flatimp.specs.declared.program.Stmt.TheFolds.{fold-roll-Stmt, ind-Stmt}
use Rattle.br_flatimp.specs.Values.{Names}
use Rattle.br_flatimp.specs.Liveness.{is_in, union, without, Live, Moment, at_test}
use Rattle.br_flatimp.specs.Liveness.{entry, live, live_step, moments, function_moments}
use Rattle.br_flatimp.specs.Missed.{Shown, literal_of, fits_literal, is_missed}
use Rattle.br_flatimp.specs.Missed.{misses_after, shown_step, shown, has_no_missed}
use Rattle.br_flatimp.specs.Renaming.{IsApart, renamed, renamed_step}
use Rattle.br_regalloc_check.specs.Accepted.{MayRename}
use Rattle.br_regalloc_check.specs.Assigned.{function_renamed}
use Rattle.br_regalloc_check.proofs.Lists.{all-split, or_left, or_right, both_and, not_of, in_head, in_map, not-in-map}
use Rattle.br_regalloc_check.proofs.Renames.{fold-renamed}

module _ (to : ℕ → ℕ)
  where
    abbrev May : List Moment → Type 0
    May = AllByRecursion (MayRename to)

    -- names that are live have the literals of their new names
    abbrev Agree : Names → List Shown → List Shown → Type 0
    Agree live news olds = (x : ℕ) → IsTrue (live x) → literal_of (to x) news ≡ literal_of x olds

    -- What a statement shows with other names, and by itself. Where it is straight, what it does not write and is
    -- live after it is live before it, and what it writes stays apart from what is live after it.
    record Alike (l : Live) (t s : Shown) : Type 0 where
      written : t.written ≡ map to s.written
      straight : t.is_straight ≡ s.is_straight
      literal : t.literal ≡ s.literal
      misses : (a : Names) → May (l.moments a) → t.misses ≡ s.misses
      missed : (a : Names) (news olds : List Shown) → Agree (l.before a) news olds → is_missed t.operand news
          ≡ is_missed s.operand olds
      kept : s.is_straight ≡ true → (a : Names) (x : ℕ) → IsTrue (a x) → is_in s.written x ≡ false
          → IsTrue (l.before a x)
      apart : s.is_straight ≡ true → (a : Names) → May (l.moments a) → (w : ℕ) → IsTrue (is_in s.written w)
          → IsApart to w a

    agree-next : (l : Live) (t s : Shown) (a : Names) (news olds : List Shown) → Alike l t s → May (l.moments a)
        → Agree (l.before a) news olds
        → Agree a (t ∷ news) (s ∷ olds)
    agree-next l t s a news olds k may agree x alive =
        ap (λ b. if b then (if is_in t.written (to x) then t.literal else literal_of (to x) news) else None) k.straight
        ∙ ap (λ ws. if s.is_straight then (if is_in ws (to x) then t.literal else literal_of (to x) news) else None)
        k.written
        ∙ ap (λ o. if s.is_straight then (if is_in (map to s.written) (to x) then o else literal_of (to x) news) else
        None) k.literal
        ∙ by s.is_straight refl
      where
        here : s.is_straight ≡ true → (b : Bool) → is_in s.written x ≡ b
            → (if is_in (map to s.written) (to x) then s.literal else literal_of (to x) news)
            ≡ (if b then s.literal else literal_of x olds)
        here sure true e = ap (λ b. if b then s.literal else literal_of (to x) news) (in_map to s.written x e)
        here sure false e =
            ap (λ b. if b then s.literal else literal_of (to x) news)
            (not-in-map to s.written x (λ w i. k.apart sure a may w i x alive) e)
            ∙ agree x (k.kept sure a x alive e)

        by : (b : Bool) → s.is_straight ≡ b
            → (if b then (if is_in (map to s.written) (to x) then s.literal else literal_of (to x) news) else None)
            ≡ (if b then (if is_in s.written x then s.literal else literal_of x olds) else None)
        by true sure = here sure (is_in s.written x) refl
        by false bends = refl

    -- ---- statements

    abbrev Stays : Stmt → Type 0
    Stays c = Alike (live c) (shown (renamed to c)) (shown c)

    abbrev Known : Type 0
    Known = (c : Stmt) × Stays c

    abbrev stmts : List Known → List Stmt
    stmts cs = map (λ e. e.0) cs

    abbrev lives : List Known → List Live
    lives cs = map live (stmts cs)

    abbrev news_of : List Known → List Shown
    news_of cs = map shown (map (renamed to) (stmts cs))

    abbrev olds_of : List Known → List Shown
    olds_of cs = map shown (stmts cs)

    all-same : (cs : List Known) (end : Names) (news olds : List Shown) → May (moments (lives cs) end)
        → Agree (entry (lives cs) end) news olds
        → misses_after news (news_of cs) ≡ misses_after olds (olds_of cs)
    all-same [] end news olds may agree = refl
    all-same (e ∷ cs) end news olds may agree =
        let a = entry (lives cs) end in
        let t = shown (renamed to e.0) in
        let s = shown e.0 in
        let split = all-split (MayRename to) ((live e.0).moments a) (moments (lives cs) end) may in
        ap (λ b. b || t.misses || misses_after (t ∷ news) (news_of cs)) (e.1.missed a news olds agree)
        ∙ ap (λ b. is_missed s.operand olds || b || misses_after (t ∷ news) (news_of cs)) (e.1.misses a split.0)
        ∙ ap (λ b. is_missed s.operand olds || s.misses || b)
        (all-same cs end (t ∷ news) (s ∷ olds) split.1 (agree-next (live e.0) t s a news olds e.1 split.0 agree))

    part-same : (cs : List Known) (end : Names) → May (moments (lives cs) end) → misses_after [] (news_of cs)
        ≡ misses_after [] (olds_of cs)
    part-same cs end may = all-same cs end [] [] may (λ x alive. refl)

    abbrev opened : Stmt-F Known → Stmt-F Stmt
    opened y = map-Stmt Known Stmt (λ e. e.0) y

    abbrev LayerAlike : Stmt-F Stmt → Type 0
    LayerAlike z =
        Alike (live_step (map-Stmt Stmt Live live z))
        (shown_step (map-Stmt Stmt Shown shown (renamed_step to (map-Stmt Stmt Stmt (renamed to) z))))
        (shown_step (map-Stmt Stmt Shown shown z))

    -- what is live after a statement with no parts and is not written
    stays-live : (ws rs : List ℕ) (a : Names) (x : ℕ) → IsTrue (a x) → is_in ws x ≡ false
        → IsTrue (union (without a ws) (is_in rs) x)
    stays-live ws rs a x alive e = or_left (without a ws x) (is_in rs x)
        (both_and (a x) (not (is_in ws x)) alive (not_of (is_in ws x) e))

    two-parts : (a b c d : Bool) → a ≡ c → b ≡ d → (a || (b || false)) ≡ (c || (d || false))
    two-parts a b c d e f = rw (e, f) refl

    layer : (y : Stmt-F Known) → LayerAlike (opened y)
    layer (Stmt-F.Lit x n) = record {
      written = refl;
      straight = refl;
      literal = refl;
      misses = λ a may. refl;
      missed = λ a news olds agree. refl;
      kept = λ sure. stays-live (x ∷ []) [];
      apart = λ sure a may. may.0.apart;
    }
    layer (Stmt-F.Copy x y) = record {
      written = refl;
      straight = refl;
      literal = refl;
      misses = λ a may. refl;
      missed = λ a news olds agree. refl;
      kept = λ sure. stays-live (x ∷ []) (y ∷ []);
      apart = λ sure a may. may.0.apart;
    }
    layer (Stmt-F.Op x op y (operand.Name z)) = record {
      written = refl;
      straight = refl;
      literal = refl;
      misses = λ a may. refl;
      missed = λ a news olds agree.
          ap (fits_literal op)
          (agree z (or_right (without a (x ∷ []) z) (is_in (y ∷ z ∷ []) z)
          (or_right (y == z) (is_in (z ∷ []) z) (in_head z []))));
      kept = λ sure. stays-live (x ∷ []) (y ∷ z ∷ []);
      apart = λ sure a may. may.0.apart;
    }
    layer (Stmt-F.Op x op y (operand.Const n)) = record {
      written = refl;
      straight = refl;
      literal = refl;
      misses = λ a may. refl;
      missed = λ a news olds agree. refl;
      kept = λ sure. stays-live (x ∷ []) (y ∷ []);
      apart = λ sure a may. may.0.apart;
    }
    layer (Stmt-F.Load x size y offset) = record {
      written = refl;
      straight = refl;
      literal = refl;
      misses = λ a may. refl;
      missed = λ a news olds agree. refl;
      kept = λ sure. stays-live (x ∷ []) (y ∷ []);
      apart = λ sure a may. may.0.apart;
    }
    layer (Stmt-F.Store size y z offset) = record {
      written = refl;
      straight = refl;
      literal = refl;
      misses = λ a may. refl;
      missed = λ a news olds agree. refl;
      kept = λ sure. stays-live [] (y ∷ z ∷ []);
      apart = λ sure a may. may.0.apart;
    }
    layer (Stmt-F.Table x size bytes y) = record {
      written = refl;
      straight = refl;
      literal = refl;
      misses = λ a may. refl;
      missed = λ a news olds agree. refl;
      kept = λ sure. stays-live (x ∷ []) (y ∷ []);
      apart = λ sure a may. may.0.apart;
    }
    layer (Stmt-F.Stackalloc x n body) = record {
      written = refl;
      straight = refl;
      literal = refl;
      misses = λ a may. ap (λ b. b || false) (part-same body a may.1);
      missed = λ a news olds agree. refl;
      kept = λ sure. absurd (cc sure);
      apart = λ sure. absurd (cc sure);
    }
    layer (Stmt-F.If test first second) = record {
      written = refl;
      straight = refl;
      literal = refl;
      misses = λ a may.
          let split = all-split (MayRename to) (moments (lives first) a) (moments (lives second) a) may.1 in
          two-parts (misses_after [] (news_of first)) (misses_after [] (news_of second))
          (misses_after [] (olds_of first)) (misses_after [] (olds_of second))
          (part-same first a split.0) (part-same second a split.1);
      missed = λ a news olds agree. refl;
      kept = λ sure. absurd (cc sure);
      apart = λ sure. absurd (cc sure);
    }
    layer (Stmt-F.Loop first test last) = record {
      written = refl;
      straight = refl;
      literal = refl;
      misses = λ a may.
          let t = at_test (lives first) test (lives last) a in
          let split = all-split (MayRename to) (moments (lives first) t) (moments (lives last) (entry (lives first) t))
          may.1 in
          two-parts (misses_after [] (news_of first)) (misses_after [] (news_of last)) (misses_after [] (olds_of first))
          (misses_after [] (olds_of last))
          (part-same first t split.0) (part-same last (entry (lives first) t) split.1);
      missed = λ a news olds agree. refl;
      kept = λ sure. absurd (cc sure);
      apart = λ sure. absurd (cc sure);
    }
    layer (Stmt-F.Call xs g ys) = record {
      written = refl;
      straight = refl;
      literal = refl;
      misses = λ a may. refl;
      missed = λ a news olds agree. refl;
      kept = λ sure. absurd (cc sure);
      apart = λ sure. absurd (cc sure);
    }
    layer (Stmt-F.Read x y) = record {
      written = refl;
      straight = refl;
      literal = refl;
      misses = λ a may. refl;
      missed = λ a news olds agree. refl;
      kept = λ sure. stays-live (x ∷ []) (y ∷ []);
      apart = λ sure a may. may.0.apart;
    }
    layer (Stmt-F.Write y z) = record {
      written = refl;
      straight = refl;
      literal = refl;
      misses = λ a may. refl;
      missed = λ a news olds agree. refl;
      kept = λ sure. stays-live [] (y ∷ z ∷ []);
      apart = λ sure a may. may.0.apart;
    }

    statement-stays : (c : Stmt) → Stays c
    statement-stays = ind-Stmt Stays (λ x y is.
        subst (λ l. Alike l (shown (renamed to (roll-Stmt x))) (shown (roll-Stmt x)))
        (sym (fold-roll-Stmt Live live_step x))
        (subst (λ s. Alike (live_step (map-Stmt Stmt Live live x)) (shown (renamed to (roll-Stmt x))) s)
        (sym (fold-roll-Stmt Shown shown_step x))
        (subst (λ t. Alike (live_step (map-Stmt Stmt Live live x)) t (shown_step (map-Stmt Stmt Shown shown x)))
        (sym (fold-renamed shown_step to x))
        (subst LayerAlike is (layer y)))))

    known : List Stmt → List Known
    known [] = []
    known (c ∷ cs) = (c, statement-stays c) ∷ known cs

    stmts-known : (cs : List Stmt) → stmts (known cs) ≡ cs
    unfolding known
    stmts-known [] = refl
    stmts-known (c ∷ cs) = ap (λ ds. c ∷ ds) (stmts-known cs)

    pub body-same : (cs : List Stmt) (end : Names) → May (moments (map live cs) end)
        → misses_after [] (map shown (map (renamed to) cs)) ≡ misses_after [] (map shown cs)
    body-same cs end =
        subst (λ ds. May (moments (map live ds) end) → misses_after [] (map shown (map (renamed to) ds))
        ≡ misses_after [] (map shown ds)) (stmts-known cs)
        (part-same (known cs) end)

-- A function with new names misses an operand exactly where the one that it comes from does.
pub none-missed : (to : ℕ → ℕ) (f : FlatFunc) → AllByRecursion (MayRename to) (function_moments f)
    → IsTrue (has_no_missed f) → IsTrue (has_no_missed (function_renamed to f))
none-missed to f may h = ap not (body-same to f.body (is_in f.results) may) ∙ h
