-- What functions in register form need is within the measures of those of the source, and none of them has a
-- path of calls to itself where none of the source has one.
use Rattle.std.proofs.Common.{◌≡◌, ℕ, zero, suc, ◌+◌, ◌*◌, ◌<◌, ◌≤◌, Bool, true, false, cond, if◌then◌else◌, max}
use Rattle.std.proofs.Common.{List, [], ◌∷◌, map, length, Some, None, refl, sym, ap, subst, ◌∙◌, slice_get, arith}
use Rattle.std.specs.Prelude.{unwrap_or, nat_lt, slice_index_or}
use Rattle.std.specs.Option.{option_map}
use Rattle.std.specs.List.{Contains, position_or_len}
use Rattle.std.specs.Str.{bytes_eq}
use Rattle.std.proofs.lemmas.Bool.{lt-ltb}
use Rattle.std.proofs.lemmas.Option.{slice_get_within}
use Rattle.std.proofs.lemmas.List.Recursion.{is_position_or_len}
use Rattle.br_syntax.specs.declared.program.Func.{Func}
use Rattle.br_syntax.specs.Functions.{function_named, number_named}
use Rattle.br_measure.specs.Bulk as source
use Rattle.br_measure.specs.Measure as source_stack
use Rattle.br_measure.specs.Paths as source_paths
use Rattle.br_flatimp.specs.declared.program.FlatFunc.{FlatFunc}
use Rattle.br_flatimp.specs.Parts.{callees}
use Rattle.br_flatimp.specs.Sizes.{Calls, CallPath, HasNoRecursion, largest, need, nest}
use Rattle.br_flatten.specs.Flatten.{callee_number}
use Rattle.br_flatten.specs.Sized.{AreSized}
use Rattle.br_compile.specs.Lowered.{HaveGrown}

-- ---- functions by name

-- the number of a name is that of the function that has it
callee_is : (fs : List Func) (x : List ℕ) → slice_get fs (callee_number fs x) ≡ function_named fs x
callee_is [] x = refl
callee_is (g ∷ gs) x = by (bytes_eq g.name x) (callee_is gs x)
  where
    by : (b : Bool) → slice_get gs (callee_number gs x) ≡ function_named gs x
        → slice_get (g ∷ gs) (if b then 0 else suc (callee_number gs x)) ≡ cond b (Some g) (function_named gs x)
    by true again = refl
    by false again = again

first_or_later : (b : Bool) (n : ℕ) → (if b then 0 else suc n) ≡ cond b 0 (1 + n)
first_or_later true n = refl
first_or_later false n = omega arith

where_named : (x : List ℕ) (fs : List Func) → callee_number fs x ≡ position_or_len (λ f. bytes_eq f.name x) fs
where_named x =
    is_position_or_len (λ fs. callee_number fs x) (λ f. bytes_eq f.name x) refl
    (λ g gs. first_or_later (bytes_eq g.name x) (callee_number gs x))

within_option : (n most : ℕ) → n < most → cond (nat_lt n most) (Some n) None ≡ Some n
within_option n most low = rw (lt-ltb n most low) refl

named_is : (fs : List Func) (x : List ℕ) → callee_number fs x < length fs
    → number_named fs x ≡ Some (callee_number fs x)
named_is fs x low =
    let is = where_named x fs in
    within_option (position_or_len (λ f. bytes_eq f.name x) fs) (length fs) (omega (arith, is, low)) ∙ ap Some (sym is)

-- ---- what the passes keep of each function

-- that measures add up, as br_measure says
abbrev pub MeasuresAdd : Type 0
MeasuresAdd = (fs : List Func) (f : ℕ) (caller : Func) → source_paths.HasNoRecursion fs → slice_get fs f ≡ Some caller
    → source_stack.measure fs caller ≡ 4 * source.function_bulk caller + 256 + source_stack.nested_buffers caller
    + source_stack.largest (map (λ x. unwrap_or (option_map (source_stack.measure fs) (function_named fs x)) 0)
    (source_paths.callees caller))

-- the function of the source that a function in register form comes from
record Source (fs gs : List Func) (n : ℕ) (q : FlatFunc) : Type 0 where
  pub func : Func
  pub at : slice_get gs n ≡ Some func
  pub nest : nest q ≤ source_stack.nested_buffers func + 4 * source.function_bulk func
  pub callees : (g : ℕ) → Contains (callees q) g → Contains (map (callee_number fs) (source_paths.callees func)) g

source_of : (fs gs : List Func) (ps qs : List FlatFunc) → AreSized fs gs ps → HaveGrown qs ps
    → (n : ℕ) (q : FlatFunc) → slice_get qs n ≡ Some q → Source fs gs n q
source_of fs [] [] [] sized grown n q at = absurd (cc)
source_of fs [] [] (r ∷ qs) sized grown n q at = absurd grown
source_of fs [] (p ∷ ps) qs sized grown n q at = absurd sized
source_of fs (f ∷ gs) [] qs sized grown n q at = absurd sized
source_of fs (f ∷ gs) (p ∷ ps) [] sized grown n q at = absurd grown
source_of fs (f ∷ gs) (p ∷ ps) (r ∷ qs) sized grown zero q at =
    let same : q ≡ r = cc in
    record {
      func = f;
      at = refl;
      nest = omega (arith, ap nest same, grown.0.nest, sized.0.nest, sized.0.names);
      callees =
          λ g called. sized.0.callees g (grown.0.callees g (subst (λ gs. Contains gs g) (ap callees same) called));
    }
source_of fs (f ∷ gs) (p ∷ ps) (r ∷ qs) sized grown (suc n) q at =
    let rest = source_of fs gs ps qs sized.1 grown.1 n q at in
    record { func = rest.func; at = rest.at; nest = rest.nest; callees = rest.callees }

-- ---- measures of callees

-- the measure of the function of a number
abbrev measure_at : List Func → ℕ → ℕ
measure_at fs n = unwrap_or (option_map (source_stack.measure fs) (slice_get fs n)) 0

abbrev measure_named : List Func → List ℕ → ℕ
measure_named fs x = unwrap_or (option_map (source_stack.measure fs) (function_named fs x)) 0

same_largest : (ns : List ℕ) → largest ns ≡ source_stack.largest ns
same_largest [] = refl
same_largest (n ∷ ns) = ap (max n) (same_largest ns)

-- a number of a list is within the largest
one_within : (F : ℕ → ℕ) (ns : List ℕ) (n k : ℕ) → k < length ns → slice_index_or ns k n ≡ n → F n ≤ largest (map F ns)
one_within F [] n k low is = absurd (omega arith)
one_within F (m ∷ ns) n zero low is = omega (arith, ap F is)
one_within F (m ∷ ns) n (suc k) low is = omega (arith, one_within F ns n k (omega arith) is)

-- so is the largest of numbers that are all in the list
largest_within : (F : ℕ → ℕ) (ms ns : List ℕ) → ((n : ℕ) → Contains ms n → Contains ns n)
    → largest (map F ms) ≤ largest (map F ns)
largest_within F [] ns among = omega arith
largest_within F (m ∷ ms) ns among =
    let first = among m (0, omega arith, refl) in
    omega (
      arith,
      one_within F ns m first.0 first.1 first.2,
      largest_within F ms ns (λ n has. among n (suc has.0, omega (arith, has.1), has.2)),
    )

by_number : (fs : List Func) (xs : List (List ℕ))
    → map (measure_at fs) (map (callee_number fs) xs) ≡ map (measure_named fs) xs
by_number fs [] = refl
by_number fs (x ∷ xs) =
    let first : measure_at fs (callee_number fs x) ≡ measure_named fs x =
    ap (λ o. unwrap_or (option_map (source_stack.measure fs) o) 0) (callee_is fs x) in
    ap (λ v. v ∷ map (measure_at fs) (map (callee_number fs) xs)) first
    ∙ ap (λ vs. measure_named fs x ∷ vs) (by_number fs xs)

module _ (adds : MeasuresAdd) (fs : List Func) (ps qs : List FlatFunc) (sized : AreSized fs fs ps)
    (grown : HaveGrown qs ps) (none : source_paths.HasNoRecursion fs)
  where
    source_at : (n : ℕ) (q : FlatFunc) → slice_get qs n ≡ Some q → Source fs fs n q
    source_at = source_of fs fs ps qs sized grown

    -- the measures bound what the functions need
    measures_bound : (n : ℕ) (q : FlatFunc) → slice_get qs n ≡ Some q
        → 120 + nest q + largest (map (measure_at fs) (callees q)) ≤ measure_at fs n
    measures_bound n q at =
        let s = source_at n q at in
        let here : measure_at fs n ≡ source_stack.measure fs s.func =
        ap (λ o. unwrap_or (option_map (source_stack.measure fs) o) 0) s.at in
        let all = map (callee_number fs) (source_paths.callees s.func) in
        let called = largest_within (measure_at fs) (callees q) all s.callees in
        let named : largest (map (measure_at fs) all)
        ≡ source_stack.largest (map (measure_named fs) (source_paths.callees s.func)) =
        same_largest (map (measure_at fs) all) ∙ ap source_stack.largest (by_number fs (source_paths.callees s.func)) in
        omega (arith, here, called, named, s.nest, adds fs n s.func none s.at)

    pub needs_within : ((bound : ℕ → ℕ)
        → ((n : ℕ) (q : FlatFunc) → slice_get qs n ≡ Some q → 120 + nest q + largest (map bound (callees q)) ≤ bound n)
        → (n : ℕ) (q : FlatFunc) → slice_get qs n ≡ Some q → need qs q ≤ bound n)
        → (n : ℕ) (q : FlatFunc) (f : Func) → slice_get qs n ≡ Some q → slice_get fs n ≡ Some f
        → need qs q ≤ source_stack.measure fs f
    needs_within bounded n q f at here =
        let is : measure_at fs n ≡ source_stack.measure fs f =
        ap (λ o. unwrap_or (option_map (source_stack.measure fs) o) 0) here in
        omega (arith, is, bounded (measure_at fs) measures_bound n q at)

    -- ---- paths of calls

    -- a name of which a number comes
    of_map : (xs : List (List ℕ)) (g k : ℕ) → k < length (map (callee_number fs) xs)
        → slice_index_or (map (callee_number fs) xs) k g ≡ g
        → (x : List ℕ) × Contains xs x × (callee_number fs x ≡ g)
    of_map [] g k low is = absurd (omega arith)
    of_map (x ∷ xs) g zero low is = (x, (zero, omega arith, refl), is)
    of_map (x ∷ xs) g (suc k) low is =
        let rest = of_map xs g k (omega arith) is in
        (rest.0, (suc rest.1.0, omega (arith, rest.1.1), rest.1.2), rest.2)

    call_of : (f g : ℕ) → g < length fs → Calls qs f g → source_paths.Calls fs f g
    call_of f g low c =
        let s = source_at f c.caller c.at in
        let called = s.callees g c.called in
        let named = of_map (source_paths.callees s.func) g called.0 called.1 called.2 in
        record {
          caller = s.func;
          at = s.at;
          name = named.0;
          called = named.1;
          named = named_is fs named.0 (omega (arith, named.2, low)) ∙ ap Some named.2;
        }

    caller_within : (f g : ℕ) → Calls qs f g → f < length fs
    caller_within f g c = let s = source_at f c.caller c.at in slice_get_within fs f s.func s.at

    begins_within : (f : ℕ) (between : List ℕ) (g : ℕ) → CallPath qs f between g → f < length fs
    begins_within f [] g calls = caller_within f g calls
    begins_within f (h ∷ hs) g path = caller_within f h path.0

    path_of : (f : ℕ) (between : List ℕ) (g : ℕ) → g < length fs → CallPath qs f between g
        → source_paths.CallPath fs f between g
    path_of f [] g low calls = call_of f g low calls
    path_of f (h ∷ hs) g low path = (call_of f h (begins_within h hs g path.1) path.0, path_of h hs g low path.1)

    pub no_recursion : HasNoRecursion qs
    no_recursion f between path = none f between (path_of f between f (begins_within f between f path) path)
