-- The flat program of a program's simplest form refines the program, is well formed, and is sized by it.
use Rattle.std.proofs.Common.{◌≡◌, ℕ, zero, suc, ◌+◌, ◌<◌, ◌≤◌, List, [], ◌∷◌, map, sum, length, Option}
use Rattle.std.proofs.Common.{Some, None, slice_get, slice_index_or, refl, sym, ap, subst, ◌∙◌, arith}
use Rattle.std.specs.List.{sum_by, Contains}
use Rattle.std.specs.Option.{option_map}
use Rattle.std.proofs.lemmas.List.Sums.{sum-map, sum_by-cons}
use Rattle.std.proofs.lemmas.Option.{slice_get-map}
use Rattle.br_bytes.specs.Runs.{seen}
use Rattle.br_syntax.specs.declared.program.Func.{Func}
use Rattle.br_syntax.specs.NameFaults.{HasNoNameFault}
use Rattle.br_syntax.specs.Shape.{IsShaped}
use Rattle.br_source_meaning.specs.Values.{Name, no_locals}
use Rattle.br_source_meaning.specs.Runs.{State, Callee}
use Rattle.br_source_meaning.specs.Calls.{enter, function_of, run_function}
use Rattle.br_measure.specs.Bulk.{bulk, function_bulk}
use Rattle.br_measure.specs.Measure.{nested_buffers}
use Rattle.br_measure.specs.Paths as paths
use Rattle.br_simplify.specs.Simple.{simple_function, simple_program}
use Rattle.br_flatimp.specs.declared.program.FlatFunc.{FlatFunc}
use Rattle.br_flatimp.specs.Refines.{Refines, meaning}
use Rattle.br_flatimp.specs.WellFormed.{IsWellFormed}
use Rattle.br_flatten.specs.Flatten.{number, callee_number}
use Rattle.br_flatten.specs.Meaning.{source_signature, source_meaning}
use Rattle.br_flatten.specs.Programs.{AreFlat}
use Rattle.br_flatten.specs.Sized.{AreSized}
use Rattle.br_flatten.proofs.FlatPrograms.{flat-well_formed, flat-sized}
use Rattle.br_flatten.proofs.Programs.{flat-refines}

-- what is known of functions in their simplest form
pub record Laws : Type 0 where
  pub function : (call : Callee) (f : Func) → run_function call (simple_function f) ≡ run_function call f
  pub calls : (fs : List Func) (depth : ℕ) → function_of (simple_program fs) depth ≡ function_of fs depth
  pub names : (fs : List Func) → HasNoNameFault fs → HasNoNameFault (simple_program fs)
  pub limits : (fs : List Func) → IsShaped fs → IsShaped (simple_program fs)
  pub bulk : (f : Func) → function_bulk (simple_function f) ≤ function_bulk f
  pub nested : (f : Func) → nested_buffers (simple_function f) ≤ nested_buffers f
  pub callees : (f : Func) (x : Name) → Contains (paths.callees (simple_function f)) x → Contains (paths.callees f) x

module _ (laws : Laws)
  where
    -- ---- what callers see

    same_signatures : (fs : List Func) → map source_signature (simple_program fs) ≡ map source_signature fs
    same_signatures [] = refl
    same_signatures (f ∷ fs) = ap (λ ss. source_signature f ∷ ss) (same_signatures fs)

    same_enter : (call : Callee) (o : Option Func) (args : List ℕ) (s : State)
        → enter call (option_map simple_function o) args s ≡ enter call o args s
    same_enter call None args s = refl
    same_enter call (Some f) args s = ap (λ g. g args s) (laws.function call f)

    same_call : (fs : List Func) (g : ℕ) (args : List ℕ) (k : ℕ) (s : State)
        → enter (function_of (simple_program fs) k) (slice_get (simple_program fs) g) args s
        ≡ enter (function_of fs k) (slice_get fs g) args s
    same_call fs g args k s =
        ap (λ q. enter q (slice_get (simple_program fs) g) args s) (laws.calls fs k)
        ∙ ap (λ o. enter (function_of fs k) o args s) (slice_get-map simple_function fs g)
        ∙ same_enter (function_of fs k) (slice_get fs g) args s

    pub same_meaning : (fs : List Func) → source_meaning (simple_program fs) ≡ source_meaning fs
    same_meaning fs = λ i. record {
      signatures = same_signatures fs i;
      call = λ g args m answers choices fuel.
          seen (same_call fs g args fuel
          (record { locals = no_locals; memory = m; trace = []; answers = answers; choices = choices; fuel = fuel })
          i);
    }

    pub simple-refines : (fs : List Func) (qs : List FlatFunc) → HasNoNameFault fs
        → AreFlat (simple_program fs) (simple_program fs) qs → Refines (meaning qs) (source_meaning fs)
    simple-refines fs qs sound flats = subst (λ p. Refines (meaning qs) p) (same_meaning fs)
        (flat-refines (simple_program fs) qs (laws.names fs sound) flats)

    -- ---- sizes

    sum_more : (n : ℕ) (ns : List ℕ) → sum (n ∷ ns) ≡ n + sum ns
    sum_more n ns = omega (arith, sum_same (n ∷ ns), sum_same ns, sum_by-cons (λ m. m) n ns)
      where
        map_same : (ms : List ℕ) → map (λ m. m) ms ≡ ms
        map_same [] = refl
        map_same (m ∷ ms) = ap (λ q. m ∷ q) (map_same ms)

        sum_same : (ms : List ℕ) → sum ms ≡ sum_by (λ m. m) ms
        sum_same ms = ap sum (sym (map_same ms)) ∙ sum-map (λ m. m) ms

    pub smaller : (fs : List Func) → bulk (simple_program fs) ≤ bulk fs
    smaller [] = omega arith
    smaller (f ∷ fs) =
        omega (
          arith,
          sum_more (function_bulk (simple_function f)) (map function_bulk (simple_program fs)),
          sum_more (function_bulk f) (map function_bulk fs),
          laws.bulk f,
          smaller fs,
        )

    pub simple-well_formed : (fs : List Func) (qs : List FlatFunc) → HasNoNameFault fs → IsShaped fs → bulk fs ≤ 32768
        → AreFlat (simple_program fs) (simple_program fs) qs → IsWellFormed qs
    simple-well_formed fs qs sound shaped small flats = flat-well_formed (simple_program fs) qs flats
        (laws.names fs sound) (laws.limits fs shaped) (omega (arith, smaller fs, small))

    -- ---- callees

    same_names : (fs : List Func) → map (λ f. f.name) (simple_program fs) ≡ map (λ f. f.name) fs
    same_names [] = refl
    same_names (f ∷ fs) = ap (λ xs. f.name ∷ xs) (same_names fs)

    same_number : (fs : List Func) (x : Name) → callee_number (simple_program fs) x ≡ callee_number fs x
    same_number fs x = ap (λ xs. number xs x) (same_names fs)

    -- a name of which a number comes
    of_map : (F : Name → ℕ) (xs : List Name) (g k : ℕ) → k < length (map F xs) → slice_index_or (map F xs) k g ≡ g
        → (x : Name) × Contains xs x × (F x ≡ g)
    of_map F [] g k low is = absurd (omega arith)
    of_map F (x ∷ xs) g zero low is = (x, (zero, omega arith, refl), is)
    of_map F (x ∷ xs) g (suc k) low is =
        let rest = of_map F xs g k (omega arith) is in
        (rest.0, (suc rest.1.0, omega (arith, rest.1.1), rest.1.2), rest.2)

    to_map : (F : Name → ℕ) (xs : List Name) (x : Name) (k : ℕ) → k < length xs → slice_index_or xs k x ≡ x
        → Contains (map F xs) (F x)
    to_map F [] x k low is = absurd (omega arith)
    to_map F (y ∷ xs) x zero low is = (zero, omega arith, ap F is)
    to_map F (y ∷ xs) x (suc k) low is =
        let rest = to_map F xs x k (omega arith) is in
        (suc rest.0, omega (arith, rest.1), rest.2)

    among : (fs : List Func) (f : Func) (g : ℕ)
        → Contains (map (callee_number (simple_program fs)) (paths.callees (simple_function f))) g
        → Contains (map (callee_number fs) (paths.callees f)) g
    among fs f g has =
        let x = of_map (callee_number (simple_program fs)) (paths.callees (simple_function f)) g has.0 has.1 has.2 in
        let there = laws.callees f x.0 x.1 in
        subst (λ n. Contains (map (callee_number fs) (paths.callees f)) n) (sym (same_number fs x.0) ∙ x.2)
        (to_map (callee_number fs) (paths.callees f) x.0 there.0 there.1 there.2)

    sized_by : (fs gs : List Func) (qs : List FlatFunc) → AreSized (simple_program fs) (simple_program gs) qs
        → AreSized fs gs qs
    sized_by fs [] [] sized = tt
    sized_by fs [] (q ∷ qs) sized = absurd sized
    sized_by fs (g ∷ gs) [] sized = absurd sized
    sized_by fs (g ∷ gs) (q ∷ qs) sized =
        let s = sized.0 in (
          record {
            units = omega (arith, s.units, laws.bulk g);
            names = omega (arith, s.names, laws.bulk g);
            nest = omega (arith, s.nest, laws.nested g);
            callees = λ n has. among fs g n (s.callees n has);
          },
          sized_by fs gs qs sized.1,
        )

    pub simple-sized : (fs : List Func) (qs : List FlatFunc) → HasNoNameFault fs → IsShaped fs
        → AreFlat (simple_program fs) (simple_program fs) qs → AreSized fs fs qs
    simple-sized fs qs sound shaped flats =
        sized_by fs fs qs (flat-sized (simple_program fs) qs flats (laws.names fs sound) (laws.limits fs shaped))
