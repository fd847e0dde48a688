-- What the checks of a function show of it: each of them, that it may take the new names.
use Rattle.std.proofs.Common.{◌≡◌, ℕ, ◌<◌, IsTrue, List, [], ◌∷◌, ◌++◌, map}
use Rattle.std.proofs.Common.{length, sym, ap, subst, ◌∙◌, append-nil, arith}
use Rattle.std.specs.Prelude.{slice_index}
use Rattle.std.specs.List.{flat_map}
use Rattle.std.proofs.lemmas.List.{length-map}
use Rattle.br_flatimp.specs.declared.program.FlatFunc.{FlatFunc}
use Rattle.br_flatimp.specs.declared.program.Stmt.{Stmt}
use Rattle.br_flatimp.specs.Parts.{function_names, statement_names}
use Rattle.br_flatimp.specs.Sizes.{function_count}
use Rattle.br_flatimp.specs.Liveness.{is_in, Moment, before_all, function_moments, live, moments}
use Rattle.br_flatimp.specs.WellFormed.{all_differ, are_below}
use Rattle.br_live.specs.Tables.{Row, rows_after}
use Rattle.br_regalloc_check.specs.Accepted.{AreApart, IsAccepted}
use Rattle.br_regalloc_check.specs.Walks.{AreApartBelow, HaveBound, StandsAt}
use Rattle.br_regalloc_check.proofs.Below.{below-append, below-in}
use Rattle.br_regalloc_check.proofs.Bounded.{IsBounded, apart-below, apart-everywhere}
use Rattle.br_regalloc_check.proofs.Bounded.{bounded-all, renames-below, renames-everywhere}
use Rattle.br_regalloc_check.proofs.Exact.{TestHolds, apart-points, start-apart}
use Rattle.br_regalloc_check.proofs.Lists.{differ-apart}
use Rattle.br_regalloc_check.proofs.Stands.{all-moments-count, bound-after}
use Rattle.br_regalloc_check.proofs.Walked.{May}

-- ---- the rows of a function

pub rows-count : (f : FlatFunc) (rows : List Row) → rows ≡ rows_after f.names (function_moments f)
    → length rows ≡ function_count f
rows-count f rows is =
    ap length is ∙ length-map (function_moments f) (λ (m : Moment). record { bound = f.names; set = m.after })
    ∙ all-moments-count f.body (is_in f.results)

pub rows-bound : (f : FlatFunc) (rows : List Row) (n : ℕ) → rows ≡ rows_after f.names (function_moments f) → n ≡ f.names
    → HaveBound n rows
rows-bound f rows n is same = subst (λ k. HaveBound k rows) (sym same)
    (subst (HaveBound f.names) (sym is) (bound-after f.names (function_moments f)))

pub rows-stand : (f : FlatFunc) (rows : List Row) → rows ≡ rows_after f.names (function_moments f)
    → StandsAt rows 0 f.names (moments (map live f.body) (is_in f.results))
rows-stand f rows is = ([], is ∙ sym (append-nil (rows_after f.names (function_moments f))))

-- ---- the names of a function

pub record NamesBelow (n : ℕ) (f : FlatFunc) : Type 0 where
  pub args : IsTrue (are_below n f.args)
  pub results : IsTrue (are_below n f.results)
  pub body : IsTrue (are_below n (flat_map statement_names f.body))

pub names-below : (n : ℕ) (f : FlatFunc) → IsTrue (are_below n (function_names f)) → NamesBelow n f
names-below n f h =
    let outer = below-append n (f.args ++ f.results) (flat_map statement_names f.body) h in
    let inner = below-append n f.args f.results outer.0 in
    record { args = inner.0; results = inner.1; body = outer.1 }

-- ---- from the checks, and to them

abbrev pub StartApart : FlatFunc → List ℕ → Type 0
StartApart f to = 0 < length f.body → AreApartBelow (length to) (slice_index to) (before_all f.body (is_in f.results))

start : (n : ℕ) (to : ℕ → ℕ) (body : List Stmt) (results : List ℕ) → IsBounded n (before_all body (is_in results))
    → IsTrue (all_differ (map to results))
    → (0 < length body → AreApartBelow n to (before_all body (is_in results)))
    → AreApart to (before_all body (is_in results))
start n to [] results few differ apart = λ x i z j same. differ-apart to results differ x z i j same
start n to (c ∷ body) results few differ apart =
    apart-everywhere n to (before_all (c ∷ body) (is_in results)) few (apart (omega arith))

pub accepted : TestHolds → (f : FlatFunc) (to : List ℕ) → IsTrue (are_below f.names (function_names f))
    → length to ≡ f.names → IsTrue (are_below f.names to)
    → IsTrue (all_differ (map (slice_index to) f.args)) → IsTrue (all_differ (map (slice_index to) f.results))
    → StartApart f to
    → May (length to) (slice_index to) (function_moments f) → IsAccepted f to
accepted law f to below count few args results apart may =
    let n : ℕ = length to in
    let all = names-below f.names f below in
    let in_results : IsBounded f.names (is_in f.results) = below-in f.names f.results all.results in
    let bounded = bounded-all f.names f.body all.body (is_in f.results) in_results in
    let written = renames-everywhere f.names (slice_index to) (function_moments f) bounded.1
    (subst (λ k. May k (slice_index to) (function_moments f)) count may) in
    let early = start f.names (slice_index to) f.body f.results bounded.0 results (subst (λ k. 0 < length f.body
    → AreApartBelow k (slice_index to) (before_all f.body (is_in f.results))) count apart) in
    record {
      count = count;
      below = few;
      args = args;
      results = results;
      points = apart-points (slice_index to) law f.body (is_in f.results) early written;
      written = written;
    }

pub start-checked : (f : FlatFunc) (to : List ℕ) → IsAccepted f to → StartApart f to
start-checked f to h some = apart-below (length to) (slice_index to) (before_all f.body (is_in f.results))
    (start-apart (slice_index to) f.body (is_in f.results) h.points)

pub walk-checked : (f : FlatFunc) (to : List ℕ) → IsAccepted f to
    → May (length to) (slice_index to) (function_moments f)
walk-checked f to h = renames-below (length to) (slice_index to) (function_moments f) h.written
