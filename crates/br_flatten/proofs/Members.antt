-- What holds of each function of a sound program, and how its flat function is made.
use Rattle.std.proofs.Common.{◌≡◌, ℕ, zero, suc, ◌+◌, ◌<◌, ◌≤◌, ◌==◌, ◌&&◌, max, min, Bool, true}
use Rattle.std.proofs.Common.{false, if◌then◌else◌, cond, List, [], ◌∷◌, ◌++◌, map, length, get_or}
use Rattle.std.proofs.Common.{take, drop, Some, refl, sym, ap, subst, ◌∙◌, arith, slice_get}
use Rattle.std.specs.List.{flat_map, list_all}
use Rattle.std.specs.Str.{bytes_eq}
use Rattle.std.proofs.lemmas.Bool.Decides.{Decides-eqb}
use Rattle.std.proofs.lemmas.Grind.{common_steps}
use Rattle.std.proofs.lemmas.List.{length-map}
use Rattle.std.proofs.lemmas.List.Sums.{sum-map, sum_by-cons}
use Rattle.br_syntax.specs.declared.program.Func.{Func}
use Rattle.br_syntax.specs.Functions.{function_named}
use Rattle.br_syntax.specs.NameFaults.{NameFault, HasNoNameFault}
use Rattle.br_syntax.specs.Shape.{is_shaped_function, IsShaped}
use Rattle.br_source_meaning.specs.Values.{Name}
use Rattle.br_measure.specs.Bulk.{bulk, commands_bulk, function_bulk}
use Rattle.br_measure.specs.Measure.{nested_buffers}
use Rattle.br_flatimp.specs.declared.program.Stmt.{Stmt}
use Rattle.br_flatimp.specs.declared.program.FlatFunc.{FlatFunc}
use Rattle.br_flatimp.specs.Parts.{statement_names, callees, throughout}
use Rattle.br_flatimp.specs.Sizes.{nest}
use Rattle.br_flatimp.specs.WellFormed.{counts_fit, values_fit}
use Rattle.br_flatten.specs.Scope.{Scope}
use Rattle.br_flatten.specs.Flatten.{above, number, callee_number, function_body, flat_function}
use Rattle.br_flatten.specs.Places.{first_places, with_names}
use Rattle.br_flatten.specs.Programs.{scope_of, IsNoLarger, IsFlat, AreFlat}
use Rattle.br_flatten.proofs.LeastAbove.{above-append}
use Rattle.br_flatten.proofs.Numbers.{and-first, and-second}
use Rattle.br_flatten.proofs.Commands.{faults, joins, none-first, none-second}
use Rattle.br_flatten.proofs.CommandSizes.{CallsFit}
use Rattle.br_flatten.proofs.DifferentNames.{duplicates, all-names}
use Rattle.br_flatten.proofs.ProgramSizes.{FunctionSized, function-sized}

-- ---- functions by name

abbrev body_faults : List Func → Func → List NameFault
body_faults fs f = joins (map (faults fs) f.body)

pub no-duplicates : (fs : List Func) → HasNoNameFault fs → duplicates [] fs ≡ []
no-duplicates fs sound = none-first (duplicates [] fs) (joins (map (body_faults fs) fs)) sound

pub all-numbered : (fs : List Func) (names : List Name) (i : ℕ) → HasNoNameFault fs
    → length fs ≤ i → with_names names (map (λ f. f.name) (drop i fs)) ≡ with_names [] (map (λ f. f.name) fs)
    → names ≡ map (λ f. f.name) fs
all-numbered fs names i sound past so_far =
    let none : drop i fs ≡ [] = grind (arith, common_steps) in
    ap (λ gs. with_names names (map (λ (f : Func). f.name) gs)) (sym none) ∙ so_far
    ∙ all-names fs (no-duplicates fs sound)

bulk-more : (f : Func) (fs : List Func) → bulk (f ∷ fs) ≡ function_bulk f + bulk fs
bulk-more f fs = omega (arith, sum-map function_bulk (f ∷ fs), sum-map function_bulk fs, sum_by-cons function_bulk f fs)

length-bulk : (fs : List Func) → length fs ≤ bulk fs
length-bulk [] = omega arith
length-bulk (f ∷ fs) = omega (arith, bulk-more f fs, length-bulk fs)

pub few-functions : (fs : List Func) → bulk fs ≤ 32768 → length fs ≤ 32768
few-functions fs small = omega (arith, length-bulk fs, small)

pub callee-at : (fs : List Func) (x : Name) (f : Func) → function_named fs x ≡ Some f
    → slice_get fs (callee_number fs x) ≡ Some f
callee-at [] x f e = absurd (cc e)
callee-at (g ∷ gs) x f e = by (bytes_eq g.name x) (callee-at gs x f) e
  where
    by : (b : Bool) → (function_named gs x ≡ Some f → slice_get gs (callee_number gs x) ≡ Some f)
        → cond b (Some g) (function_named gs x) ≡ Some f
        → slice_get (g ∷ gs) (if b then 0 else suc (callee_number gs x)) ≡ Some f
    by true again e = e
    by false again e = again e

-- the flat function of a function of a program
pub record Made (fs : List Func) (f : Func) (qs : List FlatFunc) (i : ℕ) : Type 0 where
  pub function : FlatFunc
  pub there : slice_get qs i ≡ Some function
  pub flat : IsFlat fs f function

pub made-at : (fs gs : List Func) (qs : List FlatFunc) → AreFlat fs gs qs → (i : ℕ) (f : Func) → slice_get gs i ≡ Some f
    → Made fs f qs i
made-at fs [] qs flat i f e = absurd (cc e)
made-at fs (g ∷ gs) [] flat i f e = absurd flat
made-at fs (g ∷ gs) (q ∷ qs) flat zero f e =
    let same : g ≡ f = cc e in
    record { function = q; there = refl; flat = subst (λ h. IsFlat fs h q) same flat.0 }
made-at fs (g ∷ gs) (q ∷ qs) flat (suc i) f e =
    let m = made-at fs gs qs flat.1 i f e in
    record { function = m.function; there = m.there; flat = m.flat }

pub calls-fit : (fs : List Func) (qs : List FlatFunc) → AreFlat fs fs qs → CallsFit fs qs
calls-fit fs qs flat x f named a r counts =
    let m = made-at fs fs qs flat (callee_number fs x) f (callee-at fs x f named) in
    let names = first_places f in
    let one = (Decides-eqb r (length (map (number names) f.results))).1
    (counts.outs ∙ sym (length-map f.results (number names))) in
    let two = (Decides-eqb a (length (map (number names) f.args))).1
    (counts.arguments ∙ sym (length-map f.args (number names))) in
    ap (λ o. counts_fit o r a) (m.there ∙ ap Some m.flat.is)
    ∙ ap (λ b. b && (a == length (map (number names) f.args))) one ∙ two

-- ---- one function of a program

pub record Member (fs gs : List Func) (f : Func) : Type 0 where
  pub none : joins (map (faults fs) f.body) ≡ []
  pub shaped : is_shaped_function f ≡ true
  pub small : function_bulk f ≤ bulk gs

pub member-at : (fs gs : List Func) → joins (map (body_faults fs) gs) ≡ [] → list_all is_shaped_function gs ≡ true
    → (i : ℕ) (f d : Func) → i < length gs → f ≡ get_or gs i d → Member fs gs f
member-at fs [] none shaped i f d less e = absurd (omega (arith, less))
member-at fs (g ∷ gs) none shaped zero f d less e =
    let more = bulk-more g gs in
    subst (Member fs (g ∷ gs))
    (sym e) (record {
      none = none-first (body_faults fs g) (joins (map (body_faults fs) gs)) none;
      shaped =
          and-first (is_shaped_function g) (list_all is_shaped_function gs) shaped;
      small = omega (arith, more);
    })
member-at fs (g ∷ gs) none shaped (suc i) f d less e =
    let m = member-at fs gs (none-second (body_faults fs g) (joins (map (body_faults fs) gs)) none)
    (and-second (is_shaped_function g) (list_all is_shaped_function gs) shaped) i f d (omega (arith, less)) e in
    let more = bulk-more g gs in
    let small = m.small in
    record { none = m.none; shaped = m.shaped; small = omega (arith, more, small) }

-- the program whose functions hold no literals
abbrev pub flat_program : List Func → List FlatFunc
flat_program fs = map (λ f. flat_function fs (scope_of f []) f) fs

plain-flat : (fs : List Func) (f : Func) → IsFlat fs f (flat_function fs (scope_of f []) f)
plain-flat fs f =
    record { held = []; is = refl; few = omega arith; small = record { units = omega arith; names = omega arith } }

all-flat : (fs gs : List Func) → AreFlat fs gs (map (λ f. flat_function fs (scope_of f []) f) gs)
all-flat fs [] = tt
all-flat fs (g ∷ gs) = (plain-flat fs g, all-flat fs gs)

-- the sizes of its flat function, whichever literals it holds
pub holding-sized : (fs gs : List Func) (qs : List FlatFunc) → CallsFit fs qs → (f : Func) → Member fs gs f
    → (held : List ℕ) → FunctionSized fs qs f (length held) (flat_function fs (scope_of f held) f)
holding-sized fs gs qs fits f m held = function-sized fs qs fits f held m.none m.shaped

-- the sizes of a flat function that is no larger than the one that holds none
pub sized-at : (fs gs : List Func) (qs : List FlatFunc) → CallsFit fs qs → (f : Func) (q : FlatFunc) → Member fs gs f
    → IsFlat fs f q → FunctionSized fs qs f 0 q
sized-at fs gs qs fits f q m flat =
    let s = holding-sized fs gs qs fits f m flat.held in
    let plain = holding-sized fs gs qs fits f m [] in
    let units1 = plain.units in
    let names1 = plain.names in
    let units2 = flat.small.units in
    let names2 = flat.small.names in
    let is = sym flat.is in
    record {
      names = omega (arith, units1, names1, names2);
      units = omega (arith, units1, units2);
      nest = subst (λ p. nest p ≤ nested_buffers f) is s.nest;
      callees = ap callees flat.is ∙ s.callees;
      values = ap (λ (p : FlatFunc). list_all (throughout (values_fit qs)) p.body) flat.is ∙ s.values;
      variables = s.variables;
      places = s.places;
    }

-- the room that a function needs
pub record Fits (fs : List Func) (f : Func) : Type 0 where
  pub variables : length (first_places f) ≤ 32768
  pub room : length (first_places f) + commands_bulk f.body ≤ 65536
  pub names : (held : List ℕ) → length held ≤ 8 → (flat_function fs (scope_of f held) f).names ≤ 4294967295

pub fits-at : (fs : List Func) → HasNoNameFault fs → IsShaped fs → bulk fs ≤ 32768 → (i : ℕ) (f d : Func)
    → i < length fs → f ≡ get_or fs i d → Fits fs f
fits-at fs sound shaped small i f d less e =
    let m = member-at fs fs (none-second (duplicates [] fs) (joins (map (body_faults fs) fs)) sound) shaped
    i f d less e in
    let s = plainly fs f m [] in
    let within = m.small in
    let few = s.variables in
    let places = s.places in
    record {
      variables = omega (arith, few, within, small);
      room = omega (arith, places, within, small);
      names = λ held most. let names = (plainly fs f m held).names in omega (arith, names, within, small, most);
    }
  where
    plainly : (fs : List Func) (f : Func) → Member fs fs f → (held : List ℕ)
        → FunctionSized fs (flat_program fs) f (length held) (flat_function fs (scope_of f held) f)
    plainly fs f m held =
        holding-sized fs fs (flat_program fs) (calls-fit fs (flat_program fs) (all-flat fs fs)) f m held

-- ---- a flat function that was made

pub function-made : (fs : List Func) (f : Func) (x : Name) (scope : Scope) (args results : List ℕ)
    (body : List Stmt) (top : ℕ)
    → x ≡ f.name → args ≡ map (number scope.names) f.args → results ≡ map (number scope.names) f.results
    → body ≡ function_body fs scope f
    → top ≡ max (max (min (above args) 4294967295) (min (above results) 4294967295))
    (min (above (flat_map statement_names body)) 4294967295)
    → (flat_function fs scope f).names ≤ 4294967295
    → record { name = x; args = args; results = results; names = top; body = body } ≡ flat_function fs scope f
function-made fs f x scope args results body top is_name one two three is_top fits =
    let A = map (number scope.names) f.args in
    let R = map (number scope.names) f.results in
    let S = flat_map statement_names (function_body fs scope f) in
    let whole : above (A ++ (R ++ S)) ≡ max (above A) (max (above R) (above S)) = above-append A (R ++ S)
    ∙ ap (max (above A)) (above-append R S) in
    let a : above args ≡ above A = ap above one in
    let r : above results ≡ above R = ap above two in
    let b : above (flat_map statement_names body) ≡ above S = ap (λ q. above (flat_map statement_names q)) three in
    let tops : top ≡ above (A ++ (R ++ S)) = omega (arith, is_top, whole, a, r, b, fits) in
    let made : Name → List ℕ → List ℕ → ℕ → List Stmt → FlatFunc =
    λ x args results top body. record { name = x; args = args; results = results; names = top; body = body } in
    ap (λ q. made q args results top body) is_name ∙ ap (λ q. made f.name q results top body) one
    ∙ ap (λ q. made f.name A q top body) two
    ∙ ap (λ q. made f.name A R q body) tops ∙ ap (made f.name A R (above (A ++ (R ++ S)))) three

pub plain-made : (fs : List Func) (f : Func) (ns : List Name) (q : FlatFunc) → ns ≡ first_places f
    → q ≡ flat_function fs (record { names = ns; held = [] }) f → IsFlat fs f q
plain-made fs f ns q listed is =
    let same : q ≡ flat_function fs (scope_of f []) f = is
    ∙ ap (λ (m : List Name). flat_function fs (record { names = m; held = [] }) f) listed in
    subst (IsFlat fs f) (sym same) (plain-flat fs f)

pub chosen-made : (fs : List Func) (f : Func) (ns : List Name) (held : List ℕ) (q p : FlatFunc) → ns ≡ first_places f
    → q ≡ flat_function fs (record { names = ns; held = held }) f
    → p ≡ flat_function fs (record { names = ns; held = [] }) f → length held ≤ 8 → IsNoLarger q p → IsFlat fs f q
chosen-made fs f ns held q p listed is plain few small = record {
  held = held;
  is = is ∙ ap (λ (m : List Name). flat_function fs (record { names = m; held = held }) f) listed;
  few = few;
  small = subst (IsNoLarger q)
      (plain ∙ ap (λ (m : List Name). flat_function fs (record { names = m; held = [] }) f) listed) small;
}

pub holding-names : (fs : List Func) (f : Func) (ns : List Name) (held : List ℕ) (most : ℕ) → ns ≡ first_places f
    → (flat_function fs (scope_of f held) f).names ≤ most
    → (flat_function fs (record { names = ns; held = held }) f).names ≤ most
holding-names fs f ns held most listed h =
    subst (λ (m : List Name). (flat_function fs (record { names = m; held = held }) f).names ≤ most) (sym listed) h

-- ---- the flat functions of a program

pub flat-append : (fs gs : List Func) (g : Func) (qs : List FlatFunc) (q : FlatFunc) → AreFlat fs gs qs → IsFlat fs g q
    → AreFlat fs (gs ++ g ∷ []) (qs ++ q ∷ [])
flat-append fs [] g [] q flat one = (one, tt)
flat-append fs [] g (p ∷ qs) q flat one = absurd flat
flat-append fs (h ∷ gs) g [] q flat one = absurd flat
flat-append fs (h ∷ gs) g (p ∷ qs) q flat one = (flat.0, flat-append fs gs g qs q flat.1 one)

-- the flat functions so far, one further
pub made-more : (fs hs : List Func) (i : ℕ) (f : Func) (flat more : List FlatFunc) (q : FlatFunc) → i < length fs
    → f ≡ get_or fs i f → hs ≡ fs → IsFlat hs f q → more ≡ flat ++ q ∷ []
    → AreFlat fs (take i fs) flat → AreFlat fs (take (i + 1) fs) more
made-more fs hs i f flat more q inside is same made pushed so_far =
    let split : take (i + 1) fs ≡ take i fs ++ f ∷ [] = grind (arith, common_steps) in
    subst (λ gs. AreFlat fs gs more) (sym split) (subst (AreFlat fs (take i fs ++ f ∷ [])) (sym pushed)
    (flat-append fs (take i fs) f flat q so_far (subst (λ gs. IsFlat gs f q) same made)))

pub made-all : (fs : List Func) (i : ℕ) (flat : List FlatFunc) → length fs ≤ i → AreFlat fs (take i fs) flat
    → AreFlat fs fs flat
made-all fs i flat past so_far =
    let all : take i fs ≡ fs = grind (arith, common_steps) in
    subst (λ gs. AreFlat fs gs flat) all so_far
