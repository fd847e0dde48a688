-- Programs in register form refine those that they come from.
use Rattle.std.proofs.Common.{◌≡◌, ◌≢◌, ℕ, zero, suc, ◌<◌, ◌≤◌, ◌&&◌, nat_le, Bool, true, false, List, [], ◌∷◌, ◌++◌}
use Rattle.std.proofs.Common.{map, length, Option, Some, None, inl, inr, refl, sym, ap, subst, ◌∙◌, arith, slice_get}
use Rattle.std.specs.Prelude.{IfSome}
use Rattle.std.specs.List.{list_all}
use Rattle.std.specs.Option.{option_map}
use Rattle.std.specs.FinMap as map
use Rattle.std.proofs.lemmas.Bool.Decides.{nat_tests}
use Rattle.std.proofs.lemmas.Option.{slice_get-map}
use Rattle.br_words.specs.Layout.{data_base, stack_base}
use Rattle.br_bytes.specs.declared.run.Choice.{Choice}
use Rattle.br_bytes.specs.declared.run.Outcome.TheVariants as outcome
use Rattle.br_bytes.specs.Memory.{Memory}
use Rattle.br_bytes.specs.Buffers.{AreWords, AreChoices}
use Rattle.br_bytes.specs.Runs.{Waiting, OutOfFuel, Undefined, NoChoice, Returns, Stops, seen}
use Rattle.br_flatimp.specs.declared.program.FlatFunc.{FlatFunc}
use Rattle.br_flatimp.specs.WellFormed.{are_below, all_differ, is_list_of_names, is_well_formed_statement}
use Rattle.br_flatimp.specs.WellFormed.{is_well_formed_head, is_well_formed_function, names_differ, IsWellFormed}
use Rattle.br_flatimp.specs.Refines.{Signature, IsInData, Shows, Refines, signature, meaning}
use Rattle.br_flatimp.specs.Runs.{State, Returned, Callee, forgets_none, enter, function_of, begin}
use Rattle.br_spill.specs.Spill.{Layout, Fits, in_order, spilled_function}
use Rattle.br_spill.specs.Spill.{SpilledFunctions, function_words_fit, HasWords}
use Rattle.br_spill.proofs.Follows.{given, CallChoosing, CallFollows, choices-append}
use Rattle.br_spill.proofs.Extra.{Extra, Extends}
use Rattle.br_spill.proofs.Scene.{Outside, outside-shown}
use Rattle.br_spill.proofs.Pieces.{and-first, and-second}
use Rattle.br_spill.proofs.Straight.{MakesWords}
use Rattle.br_spill.proofs.Calls.{ReturnsIn, CalleesFollow}
use Rattle.br_spill.proofs.Functions.{Sound, function-follows}

-- ---- functions of a program

three : (a b c : Bool) → (a && b && c) ≡ true → (a ≡ true) × (b ≡ true) × (c ≡ true)
three true true true h = (refl, refl, refl)
three true true false h = absurd (cc h)
three true false c h = absurd (cc h)
three false b c h = absurd (cc h)

at-most : (a b : ℕ) → nat_le a b ≡ true → a ≤ b
at-most a b e = grind (arith, nat_tests)

sound : (fs : List FlatFunc) (f : FlatFunc) → is_well_formed_function fs f ≡ true
    → function_words_fit f ≡ true → Sound fs f
sound fs f formed words =
    let head = three (nat_le f.names 1048576) (is_list_of_names f.names f.args) (is_list_of_names f.names f.results)
    (and-first (is_well_formed_head f) (list_all (is_well_formed_statement fs f.names) f.body) formed) in
    let args = three (nat_le (length f.args) 8) (are_below f.names f.args) (all_differ f.args) head.1 in
    let results = three (nat_le (length f.results) 8) (are_below f.names f.results) (all_differ f.results) head.2 in
    record {
      args = args.1;
      few_args = at-most (length f.args) 8 args.0;
      results = results.1;
      few_results = at-most (length f.results) 8 results.0;
      body = and-second (is_well_formed_head f) (list_all (is_well_formed_statement fs f.names) f.body) formed;
      words = words;
    }

-- a test that holds of all holds at each place
all-at : (test : FlatFunc → Bool) (fs : List FlatFunc) → list_all test fs ≡ true → (n : ℕ) (f : FlatFunc)
    → slice_get fs n ≡ Some f → test f ≡ true
all-at test [] h n f e = absurd (cc e)
all-at test (g ∷ gs) h zero f e = let same : g ≡ f = cc e in
    subst (λ g. test g ≡ true) same (and-first (test g) (list_all test gs) h)
all-at test (g ∷ gs) h (suc n) f e = all-at test gs (and-second (test g) (list_all test gs) h) n f e

-- the function of the same number in register form
record Spilled (qs : List FlatFunc) (n : ℕ) (f : FlatFunc) : Type 0 where
  layout : Layout
  fits : Fits f.names layout
  there : slice_get qs n ≡ Some (spilled_function layout f)

spilled-at : (qs ps : List FlatFunc) → SpilledFunctions qs ps → (n : ℕ) (f : FlatFunc) → slice_get ps n ≡ Some f
    → Spilled qs n f
spilled-at [] [] h n f e = absurd (cc e)
spilled-at [] (p ∷ ps) h n f e = absurd h
spilled-at (q ∷ qs) [] h n f e = absurd h
spilled-at (q ∷ qs) (p ∷ ps) h zero f e =
    let same : p ≡ f = cc e in
    subst (Spilled (q ∷ qs) 0) same (record { layout = h.0.0; fits = h.0.1; there = ap Some h.0.2 })
spilled-at (q ∷ qs) (p ∷ ps) h (suc n) f e =
    let rest = spilled-at qs ps h.1 n f e in
    record { layout = rest.layout; fits = rest.fits; there = rest.there }

-- ---- calls at each depth

few : (fs : List FlatFunc) → list_all (is_well_formed_function fs) fs ≡ true → HasWords fs → (n : ℕ) (f : FlatFunc)
    → slice_get fs n ≡ Some f → (length f.args ≤ 8) × (length f.results ≤ 8)
few fs formed words n f there =
    let s = sound fs f (all-at (is_well_formed_function fs) fs formed n f there)
    (all-at function_words_fit fs words n f there) in
    (s.few_args, s.few_results)

enter-follows : MakesWords → (qs ps : List FlatFunc) → list_all (is_well_formed_function ps) ps ≡ true → HasWords ps
    → SpilledFunctions qs ps → (q p : Callee) → CalleesFollow ps q p
    → (n : ℕ) (f : FlatFunc) → slice_get ps n ≡ Some f → (vs : List ℕ) → length vs ≡ length f.args → AreWords vs
    → (e : Extra) (s t : State) → Outside e s t → ((x : ℕ) → x < stack_base → e x ≡ None)
    → CallFollows (ReturnsIn e f) (enter forgets_none q (slice_get qs n) vs s)
    (λ ds. enter forgets_none p (slice_get ps n) vs (given t ds))
enter-follows makes qs ps formed words spilled q p callees n f there vs size are_words e s t h over =
    let other = spilled-at qs ps spilled n f there in
    let whole = function-follows makes ps other.layout f other.fits q p callees (sound ps
    f (all-at (is_well_formed_function ps) ps formed n f there) (all-at function_words_fit ps words n f there)) vs
    size are_words e s t h over in
    subst (λ o. CallFollows (ReturnsIn e f) (enter forgets_none q o vs s)
    (λ ds. enter forgets_none p (slice_get ps n) vs (given t ds))) (sym other.there)
    (subst (λ o. CallFollows (ReturnsIn e f) (enter forgets_none q (Some (spilled_function other.layout f)) vs s)
    (λ ds. enter forgets_none p o vs (given t ds))) (sym there) whole)

callees-follow : MakesWords → (qs ps : List FlatFunc)
    → list_all (is_well_formed_function ps) ps ≡ true → HasWords ps → SpilledFunctions qs ps → (depth : ℕ)
    → CalleesFollow ps (function_of forgets_none qs depth) (function_of forgets_none ps depth)
callees-follow makes qs ps formed words spilled zero = record {
  few = λ n f there. few ps formed words n f there;
  follows = λ n f there vs size are_words e s t h over. inr (record {
    used = [];
    good = tt;
    states = λ ds. given t ds;
    runs = λ rest. refl;
    shown = λ rest. let k = outside-shown e s t h over in record { trace = k.trace; bytes = k.bytes };
  });
}
callees-follow makes qs ps formed words spilled (suc depth) = record {
  few = λ n f there. few ps formed words n f there;
  follows = λ n f there vs size are_words e s t h over.
      enter-follows makes qs ps formed words spilled (function_of forgets_none qs depth) (function_of forgets_none ps
      depth) (callees-follow makes qs ps formed words spilled depth) n f there vs size are_words e s t h over;
}

-- ---- what calls show

-- choices with which the second call shows what the first does
record Answers (q : Returned) (p : CallChoosing) : Type 0 where
  choices : List Choice
  good : AreChoices choices
  shows : Shows (seen q) (seen (p choices))

answers : (e : Extra) (f : FlatFunc) (q : Returned) (p : CallChoosing) → ((x : ℕ) → x < stack_base → e x ≡ None)
    → CallFollows (ReturnsIn e f) q p → (seen q).outcome ≢ outcome.NoChoice → Answers q p
answers e f q p over (inl u) has = record {
  choices = u.used ++ [];
  good = choices-append u.used [] u.good tt;
  shows = inl (ap (λ r. (seen r).outcome) (u.runs []));
}
answers e f (Returns vs s) p over (inr k) has =
    let shown = outside-shown e s k.state k.related.outside over in
    record {
      choices = k.used ++ [];
      good = choices-append k.used [] k.good tt;
      shows =
          subst (λ r. Shows (seen (Returns vs s)) (seen r)) (sym (k.runs [])) (inr (refl, shown.trace, shown.bytes));
    }
answers e f (Stops NoChoice s) p over (inr k) has = absurd (has refl)
answers e f (Stops Undefined s) p over (inr k) has = absurd k
answers e f (Stops (Waiting a) s) p over (inr k) has =
    let shown = k.shown [] in
    record {
      choices = k.used ++ [];
      good = choices-append k.used [] k.good tt;
      shows = subst (λ r. Shows (seen (Stops (Waiting a) s)) (seen r)) (sym (k.runs []))
          (inr (refl, shown.trace, shown.bytes));
    }
answers e f (Stops OutOfFuel s) p over (inr k) has =
    let shown = k.shown [] in
    record {
      choices = k.used ++ [];
      good = choices-append k.used [] k.good tt;
      shows = subst (λ r. Shows (seen (Stops OutOfFuel s)) (seen r)) (sym (k.runs []))
          (inr (refl, shown.trace, shown.bytes));
    }

-- ---- programs

length-in_order : (n a : ℕ) → length (in_order a n) ≡ n
length-in_order zero a = refl
length-in_order (suc n) a = ap suc (length-in_order n (suc a))

same-signature : (l : Layout) (f : FlatFunc) → signature (spilled_function l f) ≡ signature f
same-signature l f =
    ap (λ n. record { name = f.name; args = n; results = length (in_order 10 (length f.results)) })
    (length-in_order (length f.args) 10)
    ∙ ap (λ n. record { name = f.name; args = length f.args; results = n }) (length-in_order (length f.results) 10)

same-signatures : (qs ps : List FlatFunc) → SpilledFunctions qs ps → map signature qs ≡ map signature ps
same-signatures [] [] h = refl
same-signatures [] (p ∷ ps) h = absurd h
same-signatures (q ∷ qs) [] h = absurd h
same-signatures (q ∷ qs) (p ∷ ps) h =
    ap (λ g. g ∷ map signature qs) (ap signature h.0.2 ∙ same-signature h.0.0 p)
    ∙ ap (λ gs. signature p ∷ gs) (same-signatures qs ps h.1)

-- the function that a call from outside is of
record Called (fs : List FlatFunc) (g : ℕ) (args : List ℕ) : Type 0 where
  function : FlatFunc
  there : slice_get fs g ≡ Some function
  count : length args ≡ length function.args

called : (fs : List FlatFunc) (g : ℕ) (args : List ℕ) (h : Signature) → slice_get (map signature fs) g ≡ Some h
    → length args ≡ h.args → Called fs g args
called fs g args h there count = by (slice_get fs g) refl
  where
    found : option_map signature (slice_get fs g) ≡ Some h
    found = sym (slice_get-map signature fs g) ∙ there

    by : (o : Option FlatFunc) → slice_get fs g ≡ o → Called fs g args
    by None e = let is = sym found ∙ ap (option_map signature) e in absurd (cc is)
    by (Some f) e =
        let same : Some (signature f) ≡ Some h = sym (ap (option_map signature) e) ∙ found in
        record { function = f; there = e; count = count ∙ sym (one (signature f) h same) }
      where
        one : (a b : Signature) → Some a ≡ Some b → a.args ≡ b.args
        one a b e = let same : a ≡ b = cc e in ap (λ q. q.args) same

-- a memory in the data region has no extra bytes beside itself
extends-itself : (m : Memory) → IsInData m → Extends (λ x. None) m m
extends-itself m h x = (refl, small (map.get m x) (h x))
  where
    small : (o : Option ℕ) → IfSome o (λ b. (data_base ≤ x) × (x < stack_base) × (b < 256)) → IfSome o (λ b. b < 256)
    small None k = tt
    small (Some b) k = k.2

pub spilled-refines : MakesWords → (qs ps : List FlatFunc) → IsWellFormed ps → HasWords ps → SpilledFunctions qs ps
    → Refines (meaning qs) (meaning ps)
spilled-refines makes qs ps formed words spilled = record {
  same = same-signatures qs ps spilled;
  calls = λ g args m given_answers choices fuel is good has.
      let start : State = begin m given_answers choices fuel in
      let q = function_of forgets_none qs fuel in
      let p = function_of forgets_none ps fuel in
      let c = called ps g args is.signature is.there is.count in
      let well = and-second (names_differ ps) (list_all (is_well_formed_function ps) ps) formed in
      let e : Extra = λ x. None in
      let follows = enter-follows makes qs ps well words spilled q p
      (callees-follow makes qs ps well words spilled fuel) g c.function c.there args c.count is.words e start start
      (record {
        memory = extends-itself m is.in_data;
        trace = refl;
        answers = refl;
        words = is.answer_words;
        choices = good;
        fuel = refl;
      }) (λ x less. refl) in
      let a = answers e c.function (enter forgets_none q (slice_get qs g) args start)
      (λ ds. enter forgets_none p (slice_get ps g) args (given start ds)) (λ x less. refl) follows has in
      (a.choices, a.good, a.shows);
}
