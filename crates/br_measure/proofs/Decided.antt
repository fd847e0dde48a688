-- Each program has a fault or is sound: the paths in a table are decided by allowing one function more
-- between the ends at a time.
use Rattle.std.proofs.Common.{◌≡◌, ℕ, zero, suc, ◌<◌, ◌≤◌, ◌⊎◌, Bool, true, false, ◌||◌, ◌&&◌, ltb, List, [], ◌∷◌, ◌++◌}
use Rattle.std.proofs.Common.{Option, Some, None, min, length, get_or, refl, sym, ap, ◌∙◌, arith, ⊎_elim, inl, inr}
use Rattle.std.proofs.lemmas.Bool.{false≢true, cases_lt, cases_eq, cases_Bool, or_cases, or_left, or_right, and_parts}
use Rattle.std.proofs.lemmas.Bool.{and_from, ltb-true, ltb-false, lt-ltb}
use Rattle.std.proofs.lemmas.Option.{slice_get-get_or}
use Rattle.std.specs.List.{slice_get}
use Rattle.br_syntax.specs.declared.program.Func.{Func}
use Rattle.br_syntax.specs.NameFaults as names_are
use Rattle.br_measure.specs.declared.faults.NameFault.{NameFault}
use Rattle.br_measure.specs.declared.faults.NameFault.TheVariants.{TooLarge, Recursion, StackTooDeep}
use Rattle.br_measure.specs.Bulk.{bulk, largest_bulk}
use Rattle.br_measure.specs.Measure.{measure, measure_within}
use Rattle.br_measure.specs.Names.{name_faults}
use Rattle.br_measure.specs.Lowest.{lowest}
use Rattle.br_measure.specs.Paths.{HasNoRecursion}
use Rattle.br_measure.specs.Table.{row, has, TablePath, Leads, IsTable, IsFirstLoop, call_table}
use Rattle.br_measure.specs.Faults.{IsFault, IsSound}
use Rattle.br_measure.proofs.FoundFaults.{lowest_is, none_lowest, recursive_in_table, none_in_table, function_at}
use Rattle.br_measure.proofs.Marking.{path_within}
use Rattle.br_measure.proofs.Rounds.{needs_at}
use Rattle.br_measure.proofs.SameFaults.{no_name_fault}
use Rattle.br_measure.proofs.TablePaths.{table_is}

module _ (t : List (List ℕ)) where
  -- whether a path leads from f to g with functions below k alone between them
  abbrev reach : ℕ → ℕ → ℕ → Bool
  reach zero f g = has (row t f) g
  reach (suc k) f g = reach k f g || (reach k f k && reach k k g)

  path_join : (f : ℕ) (hs : List ℕ) (m : ℕ) (is : List ℕ) (g : ℕ) → TablePath t f hs m → TablePath t m is g
      → TablePath t f (hs ++ m ∷ is) g
  path_join f [] m is g one two = (one, two)
  path_join f (h ∷ hs) m is g one two = (one.0, path_join h hs m is g one.1 two)

  join : (f m g : ℕ) → Leads t f m → Leads t m g → Leads t f g
  join f m g one two = (one.0 ++ m ∷ two.0, path_join f one.0 m two.0 g one.1 two.1)

  reach_leads : (k f g : ℕ) → reach k f g ≡ true → Leads t f g
  reach_leads zero f g r = ([], r)
  reach_leads (suc k) f g r =
      ⊎_elim (λ e. reach_leads k f g e)
      (λ e. let parts = and_parts (reach k f k) (reach k k g) e in join f k g (reach_leads k f k parts.0)
      (reach_leads k k g parts.1))
      (or_cases (reach k f g) (reach k f k && reach k k g) r)

  -- a call is a path
  call_reaches : (k f g : ℕ) → has (row t f) g ≡ true → reach k f g ≡ true
  call_reaches zero f g call = call
  call_reaches (suc k) f g call = or_left (reach k f g) (reach k f k && reach k k g) (call_reaches k f g call)

  over : (k f g : ℕ) → reach k f k ≡ true → reach k k g ≡ true → reach (suc k) f g ≡ true
  over k f g one two = or_right (reach k f g) (reach k f k && reach k k g)
      (and_from (reach k f k) (reach k k g) one two)

  to_last : (k f : ℕ) → reach (suc k) f k ≡ true → reach k f k ≡ true
  to_last k f r = ⊎_elim (λ e. e) (λ e. (and_parts (reach k f k) (reach k k k) e).0)
      (or_cases (reach k f k) (reach k f k && reach k k k) r)

  from_last : (k g : ℕ) → reach (suc k) k g ≡ true → reach k k g ≡ true
  from_last k g r = ⊎_elim (λ e. e) (λ e. (and_parts (reach k k k) (reach k k g) e).1)
      (or_cases (reach k k g) (reach k k k && reach k k g) r)

  through : (k f h g : ℕ) → h < k → reach k f h ≡ true → reach k h g ≡ true → reach k f g ≡ true
  through zero f h g below one two = absurd (omega arith)
  through (suc k) f h g below one two =
      ⊎_elim
      (λ (same : h ≡ k). over k f g (to_last k f (ap (λ (m : ℕ). reach (suc k) f m) (sym same) ∙ one))
      (from_last k g (ap (λ (m : ℕ). reach (suc k) m g) (sym same) ∙ two)))
      (λ ne.
      let less : h < k = omega arith in
      ⊎_elim
      (λ fh. ⊎_elim
      (λ hg. or_left (reach k f g) (reach k f k && reach k k g) (through k f h g less fh hg))
      (λ e. let parts = and_parts (reach k h k) (reach k k g) e in over k f g (through k f h k less fh parts.0) parts.1)
      (or_cases (reach k h g) (reach k h k && reach k k g) two))
      (λ d. let first = and_parts (reach k f k) (reach k k h) d in ⊎_elim
      (λ hg. over k f g first.0 (through k k h g less first.1 hg))
      (λ e. let parts = and_parts (reach k h k) (reach k k g) e in over k f g first.0 parts.1)
      (or_cases (reach k h g) (reach k h k && reach k k g) two))
      (or_cases (reach k f h) (reach k f k && reach k k h) one))
      (cases_eq h k)

  path_reaches : IsTable t → (f : ℕ) (hs : List ℕ) (g : ℕ) → TablePath t f hs g → reach (length t) f g ≡ true
  path_reaches table f [] g path = call_reaches (length t) f g path
  path_reaches table f (h ∷ hs) g path =
      through (length t) f h g (table f h path.0) (call_reaches (length t) f h path.0)
      (path_reaches table h hs g path.1)

-- the first number below n that passes a test, or that none passes
abbrev Search : (ℕ → Bool) → ℕ → Type 0
Search test n = ((k : ℕ) → k < n → test k ≡ false) ⊎
    ((f : ℕ) × (f < n) × (test f ≡ true) × ((g : ℕ) → g < f → test g ≡ false))

below_next : (test : ℕ → Bool) (n : ℕ) → ((k : ℕ) → k < n → test k ≡ false) → test n ≡ false → (k : ℕ) → k < suc n
    → test k ≡ false
below_next test n none here k less =
    ⊎_elim (λ (same : k ≡ n). ap test same ∙ here) (λ ne. none k (omega arith)) (cases_eq k n)

search_first : (test : ℕ → Bool) (n : ℕ) → Search test n
search_first test zero = inl (λ k less. absurd (omega arith))
search_first test (suc n) =
    ⊎_elim
    (λ none. ⊎_elim
    (λ yes. inr (n, omega arith, yes, none))
    (λ no. inl (below_next test n none no))
    (cases_Bool (test n)))
    (λ s. inr (s.0, omega (arith, s.1), s.2, s.3))
    (search_first test n)

-- the first function that has a path to itself, or that none has one
first_loop : (t : List (List ℕ)) → IsTable t → (o : Option ℕ) × IsFirstLoop t o
first_loop t table =
    let n = length t in
    ⊎_elim
    (λ none. (
      None,
      λ f leads. false≢true
          (sym (none f (path_within t table f leads.0 f leads.1)) ∙ path_reaches t table f leads.0 f leads.1),
    ))
    (λ s. (
      Some s.0,
      (
        reach_leads t n s.0 s.0 s.2,
        λ g less leads. false≢true
            (sym (s.3 g less) ∙ path_reaches t table g leads.0 g leads.1),
      ),
    ))
    (search_first (λ f. reach t n f f) n)

module _ (fs : List Func) where
  abbrev Outcome : Type 0
  Outcome = IsSound fs ⊎ ((fault : NameFault) × IsFault fs fault)

  abbrev test_deep : ℕ → Bool
  test_deep f = ltb 1048576 (needs_at (length fs) fs f)

  deep_test : (f : ℕ) (g : Func) → slice_get fs f ≡ Some g → 1048576 < measure fs g → test_deep f ≡ true
  deep_test f g at above =
      let same : needs_at (length fs) fs f ≡ measure fs g = ap (measure_within (length fs) fs) at in
      lt-ltb 1048576 (needs_at (length fs) fs f) (omega arith)

  by_stack : names_are.HasNoNameFault fs → bulk fs ≤ largest_bulk → HasNoRecursion fs → Search test_deep (length fs)
      → Outcome
  by_stack names small none found =
      ⊎_elim
      (λ shallow. inl (record {
        names = names;
        small = small;
        no_recursion = none;
        shallow = λ k d inside.
            let same : needs_at (length fs) fs k ≡ measure fs (get_or fs k d) =
            ap (measure_within (length fs) fs) (slice_get-get_or fs k d inside) in
            let below = ltb-false 1048576 (needs_at (length fs) fs k) (shallow k inside) in
            omega arith;
      }))
      (λ s.
      let g = function_at fs s.0 s.1 in
      let same : needs_at (length fs) fs s.0 ≡ measure fs g.0 = ap (measure_within (length fs) fs) g.1 in
      let above = ltb-true 1048576 (needs_at (length fs) fs s.0) s.2 in
      inr (
        StackTooDeep s.0 (measure fs g.0),
        inr (
          names,
          (
            small,
            none,
            record { function = g.0; at = g.1; bytes = refl; above = omega arith },
            λ h r less deep. false≢true (sym (s.3 h less) ∙ deep_test h deep.function deep.at deep.above),
          ),
        ),
      ))
      found

  by_calls : names_are.HasNoNameFault fs → bulk fs ≤ largest_bulk → (o : Option ℕ) → IsFirstLoop (call_table fs) o
      → Outcome
  by_calls names small None loop = by_stack names small (none_in_table fs loop) (search_first test_deep (length fs))
  by_calls names small (Some f) loop =
      let first = recursive_in_table fs f loop in
      inr (Recursion f, inr (names, (small, first.0, first.1)))

  by_bulk : names_are.HasNoNameFault fs → Outcome
  by_bulk names =
      ⊎_elim
      (λ large. inr (TooLarge (min (bulk fs) 4294967295), inr (names, (large, refl))))
      (λ small. let loop = first_loop (call_table fs) (table_is fs) in by_calls names small loop.0 loop.1)
      (cases_lt largest_bulk (bulk fs))

  by_names : (o : Option NameFault) → lowest (name_faults fs) ≡ o → Outcome
  by_names None is = by_bulk (no_name_fault fs (none_lowest (name_faults fs) is))
  by_names (Some x) is = inr (x, inl (lowest_is (name_faults fs) x is))

  pub fault_or_sound : Outcome
  fault_or_sound = by_names (lowest (name_faults fs)) refl
