-- Functions and programs: with the same choices calls match at each depth, so the flat program refines.
use Rattle.std.proofs.Common.{◌≡◌, ℕ, zero, suc, true, ◌&&◌, List, [], ◌∷◌, map, length, Option}
use Rattle.std.proofs.Common.{Some, None, inl, inr, refl, sym, ap, subst, ◌∙◌, slice_get}
use Rattle.std.specs.List.{list_all}
use Rattle.std.specs.Option.{option_map}
use Rattle.std.proofs.lemmas.Option.{slice_get-map}
use Rattle.br_bytes.specs.Memory.{in_front}
use Rattle.br_bytes.specs.Runs.{Goes, Ends, Returns, returned}
use Rattle.br_syntax.specs.declared.program.Func.{Func}
use Rattle.br_syntax.specs.Functions.{function_named}
use Rattle.br_syntax.specs.NameFaults.{NameFault, DuplicateFunction, UnknownFunction, WrongArguments}
use Rattle.br_syntax.specs.NameFaults.{WrongResults, UnknownAction, duplicates_after, HasNoNameFault}
use Rattle.br_source_meaning.specs.Values as source
use Rattle.br_source_meaning.specs.Values.{Name}
use Rattle.br_source_meaning.specs.Runs as src
use Rattle.br_source_meaning.specs.Calls as calls
use Rattle.br_flatimp.specs.declared.program.FlatFunc.{FlatFunc}
use Rattle.br_flatimp.specs.Values.{Locals, no_locals, with_locals, words_of}
use Rattle.br_flatimp.specs.Matches.{SameOutside, CallMatches, IsSameDefined}
use Rattle.br_flatimp.specs.Refines.{Signature, Refines, signature, meaning}
use Rattle.br_flatimp.specs.Runs as flat
use Rattle.br_flatimp.specs.Runs.{State, Callee, forgets_none, begin}
use Rattle.br_flatimp.proofs.Programs.{matches-returned, matches-seen}
use Rattle.br_flatten.specs.Scope.{Scope, settings}
use Rattle.br_flatten.specs.Flatten.{number, is_listed, lists_names, lists_command, lists_function}
use Rattle.br_flatten.specs.Flatten.{callee_number, commands, function_body, flat_function}
use Rattle.br_flatten.specs.Programs.{scope_of, AreFlat}
use Rattle.br_flatten.specs.Meaning.{source_signature, source_meaning}
use Rattle.br_flatten.proofs.Numbers.{and-first, and-second, number-below}
use Rattle.br_flatten.proofs.Turns.{does, does-after}
use Rattle.br_flatten.proofs.Holders.{settings-set}
use Rattle.br_flatten.proofs.Expressions.{Holds}
use Rattle.br_flatten.proofs.Pieces.{At, at-locals, matches-from, holds-set_all}
use Rattle.br_flatten.proofs.Commands.{faults, joins, none-first, none-second, CalleesFit, commands-match}
use Rattle.br_flatten.proofs.FirstPlaces.{lists-places}
use Rattle.br_flatten.proofs.Members.{callee-at, made-at}

-- ---- results

words-none : (x : Name) (xs : List Name) (m : source.Locals) → m x ≡ None → calls.words_of (x ∷ xs) m ≡ None
words-none x xs m e = rw e refl

words-rest : (x : Name) (xs : List Name) (m : source.Locals) (v : ℕ) → m x ≡ Some v → calls.words_of xs m ≡ None
    → calls.words_of (x ∷ xs) m ≡ None
words-rest x xs m v e f = rw (e, f) refl

words-some : (x : Name) (xs : List Name) (m : source.Locals) (v : ℕ) (vs : List ℕ) → m x ≡ Some v
    → calls.words_of xs m ≡ Some vs → calls.words_of (x ∷ xs) m ≡ Some (v ∷ vs)
words-some x xs m v vs e f = rw (e, f) refl

clash : {X A : Type 0} (o : Option X) (v : X) → o ≡ None → o ≡ Some v → A
clash o v e f = absurd (cc (e, f))

holds-words : (scope : Scope) (xs : List Name) (l : Locals) (m : source.Locals) → lists_names scope.names xs ≡ true
    → Holds scope l m → IsSameDefined (words_of (map (number scope.names) xs) l) (calls.words_of xs m)
holds-words scope [] l m listed h = inr refl
holds-words scope (x ∷ xs) l m listed h =
    by (m x) (calls.words_of xs m)
    refl refl (h.variables x (and-first (is_listed scope.names x) (lists_names scope.names xs) listed))
    (holds-words scope xs l m (and-second (is_listed scope.names x) (lists_names scope.names xs) listed) h)
  where
    with_rest : (v : ℕ) (vs : List ℕ) → m x ≡ Some v → calls.words_of xs m ≡ Some vs → l (number scope.names x) ≡ Some v
        → IsSameDefined (words_of (map (number scope.names) xs) l) (calls.words_of xs m)
        → IsSameDefined (words_of (map (number scope.names) (x ∷ xs)) l) (calls.words_of (x ∷ xs) m)
    with_rest v vs e f there (inl none) = clash (calls.words_of xs m) vs none f
    with_rest v vs e f there (inr same) =
        inr (ap (λ o. in_front o (words_of (map (number scope.names) xs) l)) there ∙ ap (in_front (Some v)) (same ∙ f)
        ∙ sym (words-some x xs m v vs e f))

    by : (o : Option ℕ) (p : Option (List ℕ)) → m x ≡ o → calls.words_of xs m ≡ p
        → IsSameDefined (l (number scope.names x)) (m x)
        → IsSameDefined (words_of (map (number scope.names) xs) l) (calls.words_of xs m)
        → IsSameDefined (words_of (map (number scope.names) (x ∷ xs)) l) (calls.words_of (x ∷ xs) m)
    by None p e f one rest = inl (words-none x xs m e)
    by (Some v) None e f one rest = inl (words-rest x xs m v e f)
    by (Some v) (Some vs) e f (inl none) rest = clash (m x) v none e
    by (Some v) (Some vs) e f (inr same) rest = with_rest v vs e f (same ∙ e) rest

some_same : (a b : List ℕ) → Some a ≡ Some b → a ≡ b
some_same a b e = cc e

length-words : (xs : List Name) (m : source.Locals) (ws : List ℕ) → calls.words_of xs m ≡ Some ws
    → length ws ≡ length xs
length-words [] m ws is = let same = some_same [] ws is in ap length (sym same)
length-words (x ∷ xs) m ws is = by (m x) (calls.words_of xs m) refl refl (length-words xs m)
  where
    by : (o : Option ℕ) (p : Option (List ℕ)) → m x ≡ o → calls.words_of xs m ≡ p
        → ((vs : List ℕ) → calls.words_of xs m ≡ Some vs → length vs ≡ length xs) → length ws ≡ suc (length xs)
    by None p e f rest = clash (calls.words_of (x ∷ xs) m) ws (words-none x xs m e) is
    by (Some v) None e f rest = clash (calls.words_of (x ∷ xs) m) ws (words-rest x xs m v e f) is
    by (Some v) (Some vs) e f rest =
        let same = some_same (v ∷ vs) ws (sym (words-some x xs m v vs e f) ∙ is) in
        ap length (sym same) ∙ ap suc (rest vs f)

returned-count : (xs : List Name) (r : src.Run) (ws : List ℕ) (u : src.State)
    → returned (calls.words_of xs) r ≡ Returns ws u → length ws ≡ length xs
returned-count xs (Ends end s) ws u e = absurd (cc e)
returned-count xs (Goes s) ws u e = by (calls.words_of xs s.locals) refl e
  where
    by : (o : Option (List ℕ)) → calls.words_of xs s.locals ≡ o → returned (λ l. o) (Goes s) ≡ Returns ws u
        → length ws ≡ length xs
    by None is e = absurd (cc e)
    by (Some vs) is e = let same : vs ≡ ws = cc e in length-words xs s.locals ws (is ∙ ap Some same)

-- ---- functions of a program

abbrev body_faults : List Func → Func → List NameFault
body_faults fs f = joins (map (faults fs) f.body)

no-faults-at : (fs gs : List Func) → joins (map (body_faults fs) gs) ≡ [] → (i : ℕ) (f : Func) → slice_get gs i ≡ Some f
    → body_faults fs f ≡ []
no-faults-at fs [] none i f e = absurd (cc e)
no-faults-at fs (g ∷ gs) none zero f e = let same : g ≡ f = cc e in
    subst (λ h. body_faults fs h ≡ []) same (none-first (body_faults fs g) (joins (map (body_faults fs) gs)) none)
no-faults-at fs (g ∷ gs) none (suc i) f e =
    no-faults-at fs gs (none-second (body_faults fs g) (joins (map (body_faults fs) gs)) none) i f e

-- the words of the arguments, before any literal is held
holds-args : (scope : Scope) (xs : List Name) (vs : List ℕ) → lists_names scope.names xs ≡ true → length vs ≡ length xs
    → Holds (record { names = scope.names; held = [] }) (with_locals (map (number scope.names) xs) vs no_locals)
    (src.with_locals xs vs source.no_locals)
holds-args scope xs vs listed size =
    holds-set_all (record { names = scope.names; held = [] }) xs vs no_locals source.no_locals listed size
    (record { variables = λ x known. inr refl; literals = λ n y e. absurd (cc e) })

function-matches : (fs : List Func) (scope : Scope) (q : Callee) (p : src.Callee) → CalleesFit fs q p → (f : Func)
    → lists_function scope.names f ≡ true → body_faults fs f ≡ []
    → (vs : List ℕ) → length vs ≡ length f.args → (s : State) (t : src.State) → SameOutside s t
    → CallMatches SameOutside SameOutside (flat.run_function forgets_none q (flat_function fs scope f) vs s)
    (calls.run_function p f vs t)
function-matches fs scope q p fit f lists none vs size s t same =
    let names = scope.names in
    let args = and-first (lists_names names f.args)
    (lists_names names f.results && list_all (lists_command names) f.body) lists in
    let rest = and-second (lists_names names f.args)
    (lists_names names f.results && list_all (lists_command names) f.body) lists in
    let results = and-first (lists_names names f.results) (list_all (lists_command names) f.body) rest in
    let body = and-second (lists_names names f.results) (list_all (lists_command names) f.body) rest in
    let u : State = record s { locals = with_locals (map (number names) f.args) vs no_locals } in
    let v : src.State = record t { locals = src.with_locals f.args vs source.no_locals } in
    let passed = holds-args scope f.args vs args size in
    let set = settings-set scope q u in
    let w : State = record u { locals = set.locals } in
    let holds : Holds scope set.locals v.locals = record {
      variables = λ x listed. subst (λ o. IsSameDefined o (v.locals x))
          (sym (set.others (number names x) (number-below names x listed))) (passed.variables x listed);
      literals = set.literals;
    } in
    let start : At scope w v = at-locals scope s t set.locals v.locals holds same in
    matches-returned (At scope) SameOutside SameOutside (words_of (map (number names) f.results))
    (calls.words_of f.results) (does q (function_body fs scope f) u) (src.run_all p f.body v)
    (matches-from scope (does q (function_body fs scope f) u) (does q (commands fs scope f.body) w)
    (src.run_all p f.body v)
    (does-after q (settings scope) (commands fs scope f.body) u w set.runs)
    (commands-match fs scope q p fit f.body body none w v start))
    (λ a b h. (holds-words scope f.results a.locals b.locals results h.locals, h.outside))

entry-matches : (fs : List Func) (qs : List FlatFunc) → AreFlat fs fs qs → joins (map (body_faults fs) fs) ≡ []
    → (q : Callee) (p : src.Callee) → CalleesFit fs q p
    → (g : ℕ) (f : Func) → slice_get fs g ≡ Some f → (o : Option Func) → o ≡ Some f → (vs : List ℕ)
    → length vs ≡ length f.args → (s : State) (t : src.State) → SameOutside s t
    → CallMatches SameOutside SameOutside (flat.enter forgets_none q (slice_get qs g) vs s) (calls.enter p o vs t)
entry-matches fs qs flats none q p fit g f there o is vs size s t same =
    let m = made-at fs fs qs flats g f there in
    let scope = scope_of f m.flat.held in
    let whole = function-matches fs scope q p fit f (lists-places f) (no-faults-at fs fs none g f there) vs
    size s t same in
    let flat_there : slice_get qs g ≡ Some (flat_function fs scope f) = m.there ∙ ap Some m.flat.is in
    subst (λ r. CallMatches SameOutside SameOutside (flat.enter forgets_none q r vs s) (calls.enter p o vs t))
    (sym flat_there)
    (subst (λ r. CallMatches SameOutside SameOutside (flat.run_function forgets_none q (flat_function fs scope f) vs s)
    (calls.enter p r vs t)) (sym is) whole)

source-counts : (fs : List Func) (depth : ℕ) (x : Name) (f : Func) → function_named fs x ≡ Some f
    → (vs : List ℕ) (t : src.State) (ws : List ℕ) (u : src.State) → calls.function_of fs depth x vs t ≡ Returns ws u
    → length ws ≡ length f.results
source-counts fs zero x f named vs t ws u e = absurd (cc e)
source-counts fs (suc depth) x f named vs t ws u e =
    returned-count f.results (src.run_all (calls.function_of fs depth) f.body
    (record t { locals = src.with_locals f.args vs source.no_locals })) ws u
    (ap (λ o. calls.enter (calls.function_of fs depth) o vs t) (sym named) ∙ e)

callees-fit : (fs : List Func) (qs : List FlatFunc) → AreFlat fs fs qs → joins (map (body_faults fs) fs) ≡ []
    → (depth : ℕ) → CalleesFit fs (flat.function_of forgets_none qs depth) (calls.function_of fs depth)
callees-fit fs qs flats none zero = record {
  matches = λ x f named vs size s t same. (refl, same);
  counts = source-counts fs zero;
}
callees-fit fs qs flats none (suc depth) = record {
  matches = λ x f named vs size s t same.
      entry-matches fs qs flats none (flat.function_of forgets_none qs depth) (calls.function_of fs depth)
      (callees-fit fs qs flats none depth)
      (callee_number fs x) f (callee-at fs x f named) (function_named fs x) named vs size s t same;
  counts = source-counts fs (suc depth);
}

-- ---- programs

length-map : {X Y : Type 0} (h : X → Y) (xs : List X) → length (map h xs) ≡ length xs
length-map h [] = refl
length-map h (x ∷ xs) = ap suc (length-map h xs)

same-signature : (fs : List Func) (scope : Scope) (f : Func) → signature (flat_function fs scope f) ≡ source_signature f
same-signature fs scope f =
    ap (λ n. record { name = f.name; args = n; results = length (map (number scope.names) f.results) })
    (length-map (number scope.names) f.args)
    ∙ ap (λ n. record { name = f.name; args = length f.args; results = n }) (length-map (number scope.names) f.results)

same-signatures : (fs gs : List Func) (qs : List FlatFunc) → AreFlat fs gs qs
    → map signature qs ≡ map source_signature gs
same-signatures fs [] [] flats = refl
same-signatures fs [] (q ∷ qs) flats = absurd flats
same-signatures fs (g ∷ gs) [] flats = absurd flats
same-signatures fs (g ∷ gs) (q ∷ qs) flats =
    let one : signature q ≡ source_signature g = ap signature flats.0.is
    ∙ same-signature fs (scope_of g flats.0.held) g in
    ap (λ h. h ∷ map signature qs) one ∙ ap (λ hs. source_signature g ∷ hs) (same-signatures fs gs qs flats.1)

-- the function that a call from outside is of
record Called (fs : List Func) (g : ℕ) (args : List ℕ) : Type 0 where
  function : Func
  there : slice_get fs g ≡ Some function
  count : length args ≡ length function.args

called : (fs : List Func) (g : ℕ) (args : List ℕ) (h : Signature) → slice_get (map source_signature fs) g ≡ Some h
    → length args ≡ h.args → Called fs g args
called fs g args h there count = by (slice_get fs g) refl
  where
    found : option_map source_signature (slice_get fs g) ≡ Some h
    found = sym (slice_get-map source_signature fs g) ∙ there

    by : (o : Option Func) → slice_get fs g ≡ o → Called fs g args
    by None e = clash (option_map source_signature (slice_get fs g)) h (ap (option_map source_signature) e) found
    by (Some f) e =
        let same : Some (source_signature f) ≡ Some h = sym (ap (option_map source_signature) e) ∙ found in
        record { function = f; there = e; count = count ∙ sym (one (source_signature f) h same) }
      where
        one : (a b : Signature) → Some a ≡ Some b → a.args ≡ b.args
        one a b e = let same : a ≡ b = cc e in ap (λ q. q.args) same

pub flat-refines : (fs : List Func) (qs : List FlatFunc) → HasNoNameFault fs → AreFlat fs fs qs
    → Refines (meaning qs) (source_meaning fs)
flat-refines fs qs sound flats = record {
  same = same-signatures fs fs qs flats;
  calls = λ g args m answers choices fuel is good has.
      let none = none-second (duplicates_after NameFault DuplicateFunction UnknownFunction WrongArguments WrongResults
      UnknownAction [] fs) (joins (map (body_faults fs) fs)) sound in
      let start : State = begin m answers choices fuel in
      let first : src.State = record {
        locals = source.no_locals;
        memory = m;
        trace = [];
        answers = answers;
        choices =
            choices;
        fuel = fuel;
      } in
      let q = flat.function_of forgets_none qs fuel in
      let p = calls.function_of fs fuel in
      let c = called fs g args is.signature is.there is.count in
      let matches = entry-matches fs qs flats none q p (callees-fit fs qs flats none fuel) g c.function c.there
      (slice_get fs g) c.there args c.count start first
      (record { memory = refl; trace = refl; answers = refl; choices = refl; fuel = refl }) in (
        choices,
        good,
        matches-seen (flat.enter forgets_none q (slice_get qs g) args start) (calls.enter p
            (slice_get fs g) args first) matches has,
      );
}
