-- What is shown of a program whose calls forget names is shown of the program, where it refines that.
use Rattle.std.proofs.Common.{◌≡◌, ◌≢◌, ◌⊎◌, inl, inr, ℕ, zero, suc, List, []}
use Rattle.std.proofs.Common.{◌∷◌, length, map, Some, sym, ap, subst, ◌∙◌}
use Rattle.std.specs.Prelude.{slice_get, unwrap_or}
use Rattle.br_bytes.specs.declared.run.Outcome.{Outcome}
use Rattle.br_bytes.specs.declared.run.Outcome.TheVariants.{Undefined, NoChoice}
use Rattle.br_bytes.specs.Memory.{Memory}
use Rattle.br_bytes.specs.Buffers.{AreWords}
use Rattle.br_bytes.specs.Called.{Called}
use Rattle.br_words.specs.declared.layout.Layout.TheVariants.{Two}
use Rattle.br_flatimp.specs.declared.program.FlatFunc.{FlatFunc}
use Rattle.br_flatimp.specs.Refines.{Refines, IsCall, Shows, signature, forgetting, meaning}
use Rattle.br_flatimp.specs.Runs.{Forgets, call_forgetting, call}
use Rattle.br_machine.specs.Start.{Leftover, IsInData, start}
use Rattle.br_machine.specs.State.{MachineState, byte_of}
use Rattle.br_machine.specs.Steps.{Moment}
use Rattle.br_emit.specs.Reaches.{Reaches, ShowsEnd}
use Rattle.br_emit.specs.Laid.{EntryShown}

get_map : {X Y : Type 0} (h : X → Y) (xs : List X) (n : ℕ) (x : X) → slice_get xs n ≡ Some x
    → slice_get (map h xs) n ≡ Some (h x)
get_map h [] n x is = absurd (cc)
get_map h (y ∷ xs) zero x is = let same : y ≡ x = cc in ap (λ q. Some (h q)) same
get_map h (y ∷ xs) (suc n) x is = get_map h xs n x is

chosen : (o : Outcome) (fuel steps : ℕ) (m : Moment) → ShowsEnd o fuel steps m → o ≢ NoChoice
chosen o fuel steps m h e = none (subst (λ q. ShowsEnd q fuel steps m) e h)
  where
    none : ⊥ → ⊥
    none h = h

undefined_chosen : (o : Outcome) → o ≡ Undefined → o ≢ NoChoice
undefined_chosen o is e = clash (sym is ∙ e)
  where
    clash : Undefined ≡ NoChoice → ⊥
    clash e = absurd (cc)

-- what the machine shows of a call it shows of another that shows the same
pub reaches_too : (s : MachineState) (answers : List ℕ) (q p : Called) (fuel need bound : ℕ) → Shows q p
    → Reaches s answers q.outcome q.trace q.memory fuel need bound
    → (p.outcome ≡ Undefined) ⊎ Reaches s answers p.outcome p.trace p.memory fuel need bound
reaches_too s answers q p fuel need bound (inl undefined) r = inl undefined
reaches_too s answers q p fuel need bound (inr same) r = inr (record {
  steps = r.steps;
  within = r.within;
  last = r.last;
  runs = r.runs;
  shows_trace = r.shows_trace ∙ same.1;
  shows_memory = λ a low high. r.shows_memory a low high ∙ ap (λ o. unwrap_or o (byte_of s a)) (same.2 a low high);
  shows_end = subst (λ o. ShowsEnd o fuel r.steps r.last) same.0 r.shows_end;
})

still_undefined : (q p : Called) → Shows q p → q.outcome ≡ Undefined → p.outcome ≡ Undefined
still_undefined q p (inl undefined) is = undefined
still_undefined q p (inr same) is = sym same.0 ∙ is

pub usual_shown : (forgets : Forgets) (fs : List FlatFunc) → Refines (forgetting forgets fs) (meaning fs)
    → (n : ℕ) (f : FlatFunc) → slice_get fs n ≡ Some f
    → (code : List ℕ) (offset : ℕ) (args : List ℕ) (m : Memory) (answers : List ℕ) (j : Leftover) (fuel need bound : ℕ)
    → length args ≡ length f.args → AreWords args → IsInData m → AreWords answers
    → EntryShown code offset args m answers j fuel need bound
    (λ choices. call_forgetting forgets fs n args m answers choices fuel)
    → EntryShown code offset args m answers j fuel need bound (λ choices. call fs n args m answers choices fuel)
usual_shown forgets fs refines n f there code offset args m answers j fuel need bound count words data_is words'
    (choices, are, shown) =
    by shown
  where
    is_call : IsCall (meaning fs) n args m answers
    is_call = record {
      signature = signature f;
      there = get_map signature fs n f there;
      count = count;
      words = words;
      in_data = data_is;
      answer_words = words';
    }

    Wanted : Type 0
    Wanted = EntryShown code offset args m answers j fuel need bound (λ choices. call fs n args m answers choices fuel)

    by : (((call_forgetting forgets fs n args m answers choices fuel).outcome ≡ Undefined)
        ⊎ Reaches (start Two code offset args m j) answers (call_forgetting forgets
        fs n args m answers choices fuel).outcome (call_forgetting forgets fs n args m answers choices fuel).trace
        (call_forgetting forgets fs n args m answers choices fuel).memory fuel need bound) → Wanted
    by (inl undefined) =
        let q = call_forgetting forgets fs n args m answers choices fuel in
        let other = refines.calls n args m answers choices fuel is_call are (undefined_chosen q.outcome undefined) in
        (other.0, other.1, inl (still_undefined q (call fs n args m answers other.0 fuel) other.2 undefined))
    by (inr r) =
        let q = call_forgetting forgets fs n args m answers choices fuel in
        let other = refines.calls n args m answers choices fuel is_call are
        (chosen q.outcome fuel r.steps r.last r.shows_end) in (
          other.0,
          other.1,
          reaches_too (start Two code offset args m j) answers q (call fs n args m answers other.0
              fuel) fuel need bound other.2 r,
        )
