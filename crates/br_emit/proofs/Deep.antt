-- Calls, in code, however deep they are followed.
use Rattle.std.proofs.Common.{◌≡◌, ℕ, zero, suc, ◌+◌, ◌%◌, ◌≤◌, ◌==◌, ◌&&◌, ◌||◌, nat_le, List, [], ◌∷◌, length}
use Rattle.std.proofs.Common.{Option, Some, None, Bool, true, false, IsTrue, refl, sym, ap, subst, ◌∙◌, arith}
use Rattle.std.specs.Prelude.{slice_get}
use Rattle.std.specs.List.{list_all, list_any}
use Rattle.std.proofs.lemmas.Bool.Decides.{nat_tests}
use Rattle.br_bytes.specs.Runs.{OutOfFuel, Ends, with_defined, with_fuel, back_in}
use Rattle.br_flatimp.specs.declared.program.Stmt.TheOpen.{Stmt-F}
use Rattle.br_flatimp.specs.declared.program.FlatFunc.{FlatFunc}
use Rattle.br_flatimp.specs.Values.{with_locals, without_names, words_of}
use Rattle.br_flatimp.specs.Parts.{callees}
use Rattle.br_flatimp.specs.Liveness.{is_in}
use Rattle.br_flatimp.specs.WellFormed.{are_registers, is_passing, counts_fit, all_differ}
use Rattle.br_flatimp.specs.Runs.{State, Run, statement_step, function_of}
use Rattle.br_emit.specs.Code.{call_items, changes, touches, written_names}
use Rattle.br_emit.proofs.Stepping.{at}
use Rattle.br_emit.proofs.Pieces.{Shown, given}
use Rattle.br_emit.proofs.Leaves.{both, true_false, wrong_at_once}
use Rattle.br_emit.proofs.Looping.{out_of_fuel}
use Rattle.br_emit.proofs.Passing.{same_order}
use Rattle.br_emit.proofs.Statements.{is_fine, or_false}
use Rattle.br_emit.proofs.Calls.{World, ground, may_call, CallsAt}
use Rattle.br_emit.proofs.Calling.{Site, call_shown, changes_of}

-- ---- sets of names

out_of_all : (p : ℕ → Bool) (xs : List ℕ) (y : ℕ) → IsTrue (list_all p xs) → p y ≡ false → is_in xs y ≡ false
out_of_all p [] y h out = refl
out_of_all p (x ∷ xs) y h out =
    let two = both (p x) (list_all p xs) h in
    by (x == y) refl two.0 (out_of_all p xs y two.1 out)
  where
    by : (t : Bool) → (x == y) ≡ t → IsTrue (p x) → is_in xs y ≡ false → (x == y || is_in xs y) ≡ false
    by true e one rest = let same : x ≡ y = grind (arith, nat_tests) in absurd (true_false (sym one ∙ ap p same ∙ out))
    by false e one rest = rw (e, rest) refl

-- what one of a list has, some of the list has
some_has : (p : ℕ → Bool) (xs : List ℕ) (h : ℕ) → is_in xs h ≡ true → p h ≡ true → list_any p xs ≡ true
some_has p [] h is one = absurd (cc)
some_has p (x ∷ xs) h is one = by (some_has p xs h) (x == h) refl is
  where
    either : (a b : Bool) → b ≡ true → (a || b) ≡ true
    either true b e = refl
    either false b e = e

    here : (b : Bool) → p x ≡ true → (p x || b) ≡ true
    here b e = rw e refl

    by : (is_in xs h ≡ true → p h ≡ true → list_any p xs ≡ true) → (t : Bool) → (x == h) ≡ t → (t || is_in xs h) ≡ true
        → (p x || list_any p xs) ≡ true
    by again true e is = let same : x ≡ h = grind (arith, nat_tests) in here (list_any p xs) (ap p same ∙ one)
    by again false e is = either (p x) (list_any p xs) (again is one)

-- ---- a call of a well formed program

record Fitting (w : World) (xs ys : List ℕ) (h : ℕ) : Type 0 where
  callee : FlatFunc
  there : slice_get w.fs h ≡ Some callee
  size_xs : length xs ≡ length callee.results
  size_ys : length ys ≡ length callee.args

fitting : (w : World) (xs ys : List ℕ) (h : ℕ)
    → IsTrue (counts_fit (slice_get w.fs h) (length xs) (length ys) && all_differ xs) → Fitting w xs ys h
fitting w xs ys h fits =
    by (slice_get w.fs h) refl (both (counts_fit (slice_get w.fs h) (length xs) (length ys)) (all_differ xs) fits).0
  where
    same : (a b : ℕ) → IsTrue (a == b) → a ≡ b
    same a b e = grind (arith, nat_tests)

    by : (o : Option FlatFunc) → slice_get w.fs h ≡ o → IsTrue (counts_fit o (length xs) (length ys))
        → Fitting w xs ys h
    by None e fits = absurd (cc)
    by (Some c) e fits =
        let two = both (length xs == length c.results) (length ys == length c.args) fits in
        record {
          callee = c;
          there = e;
          size_xs = same (length xs) (length c.results) two.0;
          size_ys = same (length ys) (length c.args) two.1;
        }

record Allowed (w : World) (n : ℕ) (f : FlatFunc) (xs ys : List ℕ) (h : ℕ) : Type 0 where
  fits : Fitting w xs ys h
  passing_xs : IsTrue (is_passing xs)
  passing_ys : IsTrue (is_passing ys)
  touched : IsTrue (list_all (touches w.targets.near w.forgets f) xs)
  linking : touches w.targets.near w.forgets f 1 ≡ true
  calls : is_in (callees f) h ≡ true
  needs : w.need h ≤ w.limit n

allowed : (w : World) (n : ℕ) (f : FlatFunc) (xs ys : List ℕ) (h : ℕ) → IsTrue (is_fine {X = State → Run} w.fs
    (touches w.targets.near w.forgets f) (may_call f w.need (w.limit n)) (Stmt-F.Call xs h ys)) → Allowed w n f xs ys h
allowed w n f xs ys h ok =
    let h0 = both _ (touches w.targets.near w.forgets f 1 || false) ok in
    let h1 = both _ (list_all (may_call f w.need (w.limit n)) (h ∷ [])) h0.0 in
    let h2 = both _ (list_all (touches w.targets.near w.forgets f) xs) h1.0 in
    let h3 = both _ (counts_fit (slice_get w.fs h) (length xs) (length ys) && all_differ xs) h2.0 in
    let h4 = both (are_registers xs && are_registers ys) (is_passing xs && is_passing ys) h3.0 in
    let h5 = both (is_passing xs) (is_passing ys) h4.1 in
    let h6 = both (may_call f w.need (w.limit n) h) true h1.1 in
    let h7 = both (is_in (callees f) h) (nat_le (w.need h) (w.limit n)) h6.0 in
    record {
      fits = fitting w xs ys h h3.1;
      passing_xs = h5.0;
      passing_ys = h5.1;
      touched = h2.1;
      linking = or_false (touches w.targets.near w.forgets f 1) h0.1;
      calls = h7.0;
      needs = at_most (w.need h) (w.limit n) h7.1;
    }
  where
    at_most : (a b : ℕ) → IsTrue (nat_le a b) → a ≤ b
    at_most a b e = grind (arith, nat_tests)

abbrev site : (w : World) (n : ℕ) (f : FlatFunc) (sp : ℕ) (xs ys : List ℕ) (h : ℕ) → w.low ≤ sp → sp ≤ 0x80300000
    → sp % 4 ≡ 0 → w.low + w.limit n ≤ sp → slice_get w.fs n ≡ Some f
    → (a : Allowed w n f xs ys h) → Site w n f sp xs ys h a.fits.callee
site w n f sp xs ys h under top four room caller a =
    let c = a.fits.callee in
    let fn = w.functions h c a.fits.there in
    let own = w.functions n f caller in
    let needs = a.needs in
    record {
      under = under;
      top = top;
      four = four;
      callee = a.fits.there;
      is_called = own.calls h a.calls;
      room = omega arith;
      passing_xs = a.passing_xs;
      passing_ys = a.passing_ys;
      same_xs = same_order 10 xs c.results a.passing_xs fn.results a.fits.size_xs;
      same_ys = same_order 10 ys c.args a.passing_ys fn.args a.fits.size_ys;
      linking = a.linking;
      touched = λ y out. (
        out_of_all (touches w.targets.near w.forgets f) xs y a.touched out,
        kept y (changes_of w.targets.near w.forgets f y out) (w.forgets h y) refl,
      );
    }
  where
    kept : (y : ℕ) → changes w.forgets f y ≡ false → (t : Bool) → w.forgets h y ≡ t → w.forgets h y ≡ false
    kept y out false e = e
    kept y out true e =
        let any = some_has (λ g. w.forgets g y) (callees f) h a.calls e in
        absurd (true_false
        (sym (ap (λ q. is_in (written_names f) y || q) any ∙ or_true (is_in (written_names f) y)) ∙ out))
      where
        or_true : (p : Bool) → (p || true) ≡ true
        or_true true = refl
        or_true false = refl

-- ---- all depths

no_fuel : (u : State) (next : State → Run) → u.fuel ≡ 0 → with_fuel u next ≡ Ends OutOfFuel u
no_fuel u next e =
    subst (λ q. with_fuel (record u { fuel = q }) next ≡ Ends OutOfFuel (record u { fuel = q })) (sym e) refl

pub calls_at : (w : World) (d : ℕ) → CallsAt w d
calls_at w zero n f sp under top four room caller xs ys h ok free j s registers ram nest_fits multiple inside deep
    placed ready stands = by (words_of ys s.locals) refl
  where
    by : (o : Option (List ℕ)) → words_of ys s.locals ≡ o
        → Shown (ground w n f 0 sp under top four) (statement_step w.forgets (function_of w.forgets w.fs 0)
        (Stmt-F.Call xs h ys)) s (at w.code j registers ram s.answers s.trace) ram (sp + free)
        (j + length (call_items w.targets.near (w.targets.at h))) 2
    by None e = wrong_at_once (ground w n f 0 sp under top four)
        (statement_step w.forgets (function_of w.forgets w.fs 0) (Stmt-F.Call xs h ys)) s registers ram (sp + free) j
        (j + length (call_items w.targets.near (w.targets.at h))) 2
        (λ rest. ap (λ o. with_defined o (given s rest) (λ vs. with_fuel (given s rest) (λ t.
        back_in (with_locals xs) (without_names (w.forgets h) s.locals) (function_of w.forgets w.fs 0 h vs t)))) e)
    by (Some vs) e = out_of_fuel (ground w n f 0 sp under top four)
        (statement_step w.forgets (function_of w.forgets w.fs 0) (Stmt-F.Call xs h ys)) s registers ram (sp + free) j
        (j + length (call_items w.targets.near (w.targets.at h))) 2
        (λ rest. ap (λ o. with_defined o (given s rest) (λ vs. with_fuel (given s rest) (λ t.
        back_in (with_locals xs) (without_names (w.forgets h) s.locals) (function_of w.forgets w.fs 0 h vs t)))) e
        ∙ no_fuel (given s rest) (λ t. back_in (with_locals xs) (without_names (w.forgets h) s.locals)
        (function_of w.forgets w.fs 0 h vs t)) (omega arith)) (omega arith) stands
calls_at w (suc d) n f sp under top four room caller xs ys h ok free j s registers ram nest_fits multiple inside deep
    placed ready stands = by (calls_at w d) (words_of ys s.locals) refl
  where
    by : CallsAt w d → (o : Option (List ℕ)) → words_of ys s.locals ≡ o
        → Shown (ground w n f (suc d) sp under top four) (statement_step w.forgets (function_of w.forgets w.fs (suc d))
        (Stmt-F.Call xs h ys)) s (at w.code j registers ram s.answers s.trace) ram (sp + free)
        (j + length (call_items w.targets.near (w.targets.at h))) 2
    by again None e = wrong_at_once (ground w n f (suc d) sp under top four)
        (statement_step w.forgets (function_of w.forgets w.fs (suc d)) (Stmt-F.Call xs h ys)) s registers ram
        (sp + free) j (j + length (call_items w.targets.near (w.targets.at h))) 2
        (λ rest. ap (λ o. with_defined o (given s rest) (λ vs. with_fuel (given s rest) (λ t. back_in (with_locals xs)
        (without_names (w.forgets h) s.locals) (function_of w.forgets w.fs (suc d) h vs t)))) e)
    by again (Some vs) e = fuelled s.fuel refl
      where
        fuelled : (k : ℕ) → s.fuel ≡ k
            → Shown (ground w n f (suc d) sp under top four)
            (statement_step w.forgets (function_of w.forgets w.fs (suc d)) (Stmt-F.Call xs h ys)) s
            (at w.code j registers ram s.answers s.trace) ram (sp + free)
            (j + length (call_items w.targets.near (w.targets.at h))) 2
        fuelled zero none = out_of_fuel (ground w n f (suc d) sp under top four)
            (statement_step w.forgets (function_of w.forgets w.fs (suc d)) (Stmt-F.Call xs h ys)) s registers ram
            (sp + free) j (j + length (call_items w.targets.near (w.targets.at h))) 2
            (λ rest. ap (λ o. with_defined o (given s rest) (λ vs. with_fuel (given s rest) (λ t. back_in
            (with_locals xs) (without_names (w.forgets h) s.locals) (function_of w.forgets w.fs (suc d) h vs t)))) e
            ∙ no_fuel (given s rest) (λ t. back_in (with_locals xs) (without_names (w.forgets h) s.locals)
            (function_of w.forgets w.fs (suc d) h vs t)) none) none stands
        fuelled (suc k) some =
            let a = allowed w n f xs ys h ok in
            let st = site w n f sp xs ys h under top four room caller a in
            subst (λ q. Shown (ground w n f (suc d) sp under top four)
            (statement_step w.forgets (function_of w.forgets w.fs (suc d)) (Stmt-F.Call xs h ys))
            (record s { fuel = q }) (at w.code j registers ram s.answers s.trace) ram (sp + free)
            (j + length (call_items w.targets.near (w.targets.at h))) 2) (sym some)
            (call_shown w n f sp xs ys h a.fits.callee d st again free j k s registers ram vs inside (omega arith) e
            placed ready stands)
