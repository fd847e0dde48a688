-- The image of a flat program that refines a program of the source implements that program.
use Rattle.std.proofs.Common.{◌≡◌, ◌≢◌, ◌⊎◌, inl, inr, ℕ, zero, suc, ◌+◌, ◌*◌, ◌≤◌, List, [], ◌∷◌, length}
use Rattle.std.proofs.Common.{map, Option, Some, None, refl, sym, ap, subst, ◌∙◌, slice_get, arith}
use Rattle.std.specs.Prelude.{unwrap_or}
use Rattle.std.specs.Option.{option_map}
use Rattle.std.proofs.lemmas.Option.{slice_get-map}
use Rattle.std.proofs.Math.Nat.{mul-le-mul_left, mul_assoc}
use Rattle.br_words.specs.declared.layout.Layout.TheVariants.{Two}
use Rattle.br_bytes.specs.declared.run.Event.{Event}
use Rattle.br_bytes.specs.declared.run.Choice.{Choice}
use Rattle.br_bytes.specs.declared.run.Outcome.{Outcome}
use Rattle.br_bytes.specs.declared.run.Outcome.TheVariants as outcome
use Rattle.br_bytes.specs.Memory.{Memory}
use Rattle.br_bytes.specs.Buffers.{AreWords}
use Rattle.br_bytes.specs.Called.{Called}
use Rattle.br_syntax.specs.declared.program.Func.{Func}
use Rattle.br_measure.specs.Bulk.{bulk}
use Rattle.br_measure.specs.Measure.{measure}
use Rattle.br_source_meaning.specs.Calls as source
use Rattle.br_flatimp.specs.declared.program.FlatFunc.{FlatFunc}
use Rattle.br_flatimp.specs.Refines.{Shows, IsSameData, IsCall, Refines, signature, meaning}
use Rattle.br_flatimp.specs.Sizes.{flat_bulk, need, needs}
use Rattle.br_flatimp.specs.Runs.{call}
use Rattle.br_flatten.specs.Meaning.{source_meaning, source_signature}
use Rattle.br_image.specs.declared.images.Entry.{Entry}
use Rattle.br_image.specs.declared.images.Image.{Image}
use Rattle.br_machine.specs.State.{MachineState, byte_of}
use Rattle.br_machine.specs.Start.{Leftover, IsLeftover, IsInData, start}
use Rattle.br_emit.specs.Reaches.{Reaches, ShowsEnd}
use Rattle.br_emit.specs.Emitted as emitted
use Rattle.br_emit.specs.Emitted.{ShowsProgram}
use Rattle.br_compile.specs.Implements.{rate, Follows, AllDescribed, Implements}

-- a call that the machine shows had its choices
has_choices : (s : MachineState) (answers : List ℕ) (o : Outcome) (trace : List Event) (m : Memory)
    (fuel need bound : ℕ)
    → Reaches s answers o trace m fuel need bound → o ≢ outcome.NoChoice
has_choices s answers o trace m fuel need bound r none =
    subst (λ x. ShowsEnd x fuel r.steps r.last) none r.shows_end

-- the same end, events and data are shown, within a larger bound
same_shown : (s : MachineState) (answers : List ℕ) (q p : Called) (fuel need bound most : ℕ)
    → q.outcome ≡ p.outcome → q.trace ≡ p.trace → IsSameData q.memory p.memory → bound ≤ most
    → Reaches s answers q.outcome q.trace q.memory fuel need bound
    → Reaches s answers p.outcome p.trace p.memory fuel need most
same_shown s answers q p fuel need bound most ends events same larger r = record {
  steps = r.steps;
  within = omega (arith, r.within, larger);
  last = r.last;
  runs = r.runs;
  shows_trace = r.shows_trace ∙ events;
  shows_memory = λ a low high. r.shows_memory a low high ∙ ap (λ b. unwrap_or b (byte_of s a)) (same a low high);
  shows_end = subst (λ x. ShowsEnd x fuel r.steps r.last) ends r.shows_end;
}

-- what is said of a call by `Follows`
abbrev OrShown : MachineState → List ℕ → ℕ → ℕ → ℕ → Called → Type 0
OrShown s answers fuel need most p =
    (p.outcome ≡ outcome.Undefined) ⊎ Reaches s answers p.outcome p.trace p.memory fuel need most

-- what a machine that shows a flat call shows of the source's, where that is undefined or shows the same
shown : (s : MachineState) (answers : List ℕ) (q p : Called) (fuel need bound most : ℕ)
    → bound ≤ most → Shows q p → OrShown s answers fuel need bound q → OrShown s answers fuel need most p
shown s answers q p fuel need bound most larger (inl undefined) h = inl undefined
shown s answers q p fuel need bound most larger (inr same) (inl undefined) = inl (sym same.0 ∙ undefined)
shown s answers q p fuel need bound most larger (inr same) (inr r) =
    inr (same_shown s answers q p fuel need bound most same.0 same.1 same.2 larger r)

-- a call that is undefined or shown by the machine had its choices
had_choices : (s : MachineState) (answers : List ℕ) (q : Called) (fuel need bound : ℕ)
    → OrShown s answers fuel need bound q → q.outcome ≢ outcome.NoChoice
had_choices s answers q fuel need bound (inl undefined) none = cc (undefined, none)
had_choices s answers q fuel need bound (inr r) none =
    has_choices s answers q.outcome q.trace q.memory fuel need bound r none

bounded : (fuel a b : ℕ) → a ≤ rate * b → (fuel + 1) * a ≤ (fuel + 1) * rate * b
bounded fuel a b few = omega (arith, mul-le-mul_left (fuel + 1) few, mul_assoc (fuel + 1) rate b)

-- a call from outside by number is one of the function that has the number
called_alike : (fs : List Func) (n : ℕ) (f : Func) (args : List ℕ) (m : Memory) (answers : List ℕ)
    (choices : List Choice) (fuel : ℕ)
    → slice_get fs n ≡ Some f
    → (source_meaning fs).call n args m answers choices fuel ≡ source.call fs f args m answers choices fuel
called_alike fs n f args m answers choices fuel here = rw here refl

module _ (qs : List FlatFunc) (fs : List Func) (refines : Refines (meaning qs) (source_meaning fs))
    (few : flat_bulk qs ≤ rate * bulk fs)
  where
    -- flat functions and those of the source have the same names and counts, each to each
    alike : (n : ℕ) (q : FlatFunc) (f : Func) → slice_get qs n ≡ Some q → slice_get fs n ≡ Some f
        → signature q ≡ source_signature f
    alike n q f there here =
        let first : slice_get (map signature qs) n ≡ Some (signature q) =
        slice_get-map signature qs n ∙ ap (option_map signature) there in
        let second : slice_get (map source_signature fs) n ≡ Some (source_signature f) =
        slice_get-map source_signature fs n ∙ ap (option_map source_signature) here in
        let same = refines.same in
        cc (first, second, same)

    -- the flat function of a function of the source
    flat_of : (n : ℕ) (f : Func) → slice_get fs n ≡ Some f → (q : FlatFunc) × (slice_get qs n ≡ Some q)
    flat_of n f here = by (slice_get qs n) refl
      where
        by : (o : Option FlatFunc) → slice_get qs n ≡ o → (q : FlatFunc) × (slice_get qs n ≡ Some q)
        by (Some q) is = (q, is)
        by None is =
            let none : slice_get (map signature qs) n ≡ None = slice_get-map signature qs n
            ∙ ap (option_map signature) is in
            let some : slice_get (map source_signature fs) n ≡ Some (source_signature f) =
            slice_get-map source_signature fs n ∙ ap (option_map source_signature) here in
            let same : slice_get (map signature qs) n ≡ slice_get (map source_signature fs) n =
            ap (λ l. slice_get l n) refines.same in
            absurd (cc (none, some, same))

    -- an entry of an image that shows its flat functions follows the function of the source
    follows_refined : (code : List ℕ) (entries : List Entry) → ShowsProgram qs entries code
        → (n : ℕ) (f : Func) (entry : Entry) → slice_get fs n ≡ Some f → slice_get entries n ≡ Some entry
        → (args : List ℕ) → length args ≡ length f.args → AreWords args
        → (m : Memory) → IsInData m → (answers : List ℕ) → AreWords answers
        → (j : Leftover) → IsLeftover j → (fuel : ℕ)
        → Follows Two code fs f entry args m answers j fuel
    follows_refined code entries shows n f entry here at args count words m inside answers are j left fuel =
        let q = flat_of n f here in
        let same = alike n q.0 f q.1 here in
        let is : IsCall (source_meaning fs) n args m answers = record {
          signature = source_signature f;
          there = slice_get-map source_signature fs n ∙ ap (option_map source_signature) here;
          count = count;
          words = words;
          in_data = inside;
          answer_words = are;
        } in
        let s = start Two code entry.offset args m j in
        let flat = shows n q.0 entry q.1 at fuel args (count ∙ ap (λ x. x.args) (sym same)) words m inside
        answers are j left in
        let ran = call qs n args m answers flat.0 fuel in
        let most = (fuel + 1) * rate * bulk fs in
        let has = had_choices s answers ran fuel entry.need ((fuel + 1) * flat_bulk qs) flat.2 in
        let matched = refines.calls n args m answers flat.0 fuel is flat.1 has in
        let both : OrShown s answers fuel entry.need most ((source_meaning fs).call n args m answers matched.0 fuel) =
        shown s answers ran ((source_meaning fs).call n args m answers matched.0 fuel) fuel entry.need
        ((fuel + 1) * flat_bulk qs) most
        (bounded fuel (flat_bulk qs) (bulk fs) few) matched.2 flat.2 in (
          matched.0,
          matched.1,
          subst (OrShown s answers fuel entry.need most) (called_alike fs n f args m answers
              matched.0 fuel here) both,
        )

    -- entries that describe flat functions with their needs describe those of the source, whose measures are no less
    described : (ps : List FlatFunc) (gs : List Func) (stack : List ℕ) (entries : List Entry)
        → map signature ps ≡ map source_signature gs → stack ≡ map (need qs) ps → emitted.AllDescribed ps stack entries
        → ((n : ℕ) (q : FlatFunc) (f : Func) → slice_get ps n ≡ Some q → slice_get gs n ≡ Some f
        → need qs q ≤ measure fs f)
        → AllDescribed fs gs entries
    described [] [] [] [] same are flat within = tt
    described [] [] (k ∷ stack) [] same are flat within = absurd flat
    described [] [] [] (e ∷ es) same are flat within = absurd flat
    described [] [] (k ∷ stack) (e ∷ es) same are flat within = absurd flat
    described [] (f ∷ gs) stack entries same are flat within = absurd (cc)
    described (q ∷ ps) [] stack entries same are flat within = absurd (cc)
    described (q ∷ ps) (f ∷ gs) [] entries same are flat within = absurd (cc)
    described (q ∷ ps) (f ∷ gs) (k ∷ stack) [] same are flat within = absurd flat
    described (q ∷ ps) (f ∷ gs) (k ∷ stack) (e ∷ es) same are flat within =
        let first : signature q ≡ source_signature f = cc in
        let rest : map signature ps ≡ map source_signature gs = cc in
        let needed : k ≡ need qs q = cc in
        let others : stack ≡ map (need qs) ps = cc in
        let is = flat.0 in (
          (
            is.name ∙ ap (λ x. x.name) first,
            is.args ∙ ap (λ x. x.args) first,
            is.results ∙ ap (λ x. x.results) first,
            omega (arith, is.need, needed, within zero q f refl refl),
          ),
          described ps gs stack es rest others flat.1 (λ n. within (suc n)),
        )

    -- The image of a flat program that refines the source implements the source, where what each function
    -- needs is within its measure.
    pub implements_refined : (i : Image) (stack : List ℕ) → stack ≡ needs qs
        → i.layout ≡ Two → length i.code ≤ flat_bulk qs
        → emitted.AllDescribed qs stack i.entries → ShowsProgram qs i.entries i.code
        → ((n : ℕ) (q : FlatFunc) (f : Func) → slice_get qs n ≡ Some q → slice_get fs n ≡ Some f
        → need qs q ≤ measure fs f)
        → Implements i fs
    implements_refined i stack are layout short flat shows within = record {
      described = described qs fs stack i.entries refines.same are flat within;
      short = omega (arith, short, few);
      follows = λ n f entry here at args count words m inside answers are j left fuel.
          subst (λ l. Follows l i.code fs f entry args m answers j fuel) (sym layout)
          (follows_refined i.code i.entries shows n f entry here at args count words m inside answers are j left fuel);
    }
