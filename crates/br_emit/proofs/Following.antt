-- Functions one after another.
use Rattle.std.proofs.Common.{◌≡◌, ℕ, ◌+◌, ◌-◌, ◌<◌, ◌≤◌, Bool, true, false, List, [], ◌∷◌, ◌++◌, get_or}
use Rattle.std.proofs.Common.{length, drop, refl, sym, ap, subst, ◌∙◌, arith, append-nil, length-append}
use Rattle.std.specs.List.{AllByRecursion}
use Rattle.br_flatimp.specs.declared.program.FlatFunc.{FlatFunc}
use Rattle.br_flatimp.specs.Sizes.{nest}
use Rattle.br_flatimp.specs.Runs.{Forgets}
use Rattle.br_emit.specs.Code.{AllFit, Targets, callable_items, entry_items}
use Rattle.br_emit.specs.Sizes.{IsFront, sized_all}
use Rattle.br_emit.specs.Buffer.{Written, appended}
use Rattle.br_emit.specs.Ready.{Ready}
use Rattle.br_emit.specs.Written.{one_items, rest_items, Writable}
use Rattle.br_emit.proofs.Readiness.{appended_twice, fit_both, ready_front}
use Rattle.br_emit.proofs.Unrolling.{drop_next}
use Rattle.br_emit.proofs.Totals.{callable_length, direct_length}

drop_all : (p : List ℕ) → drop (length p) p ≡ []
drop_all [] = refl
drop_all (x ∷ p) = drop_all p

pub front_whole : (p : List ℕ) → IsFront p p
front_whole p = ap (λ q. p ++ q) (drop_all p) ∙ append-nil p

-- the words of a body are no more than those of its function
pub body_few : (targets : Targets) (forgets : Forgets) (called : Bool) (n target : ℕ) (f : FlatFunc) (most : ℕ)
    → length (one_items targets forgets called n target f) ≤ most
    → (sized_all targets.near f.body (nest f)).words ≤ most
body_few targets forgets true n target f most few =
    let size = length-append (callable_items targets forgets n f) (entry_items targets.near target) in
    let words = callable_length targets forgets n f in
    omega arith
body_few targets forgets false n target f most few = let words = direct_length targets f in omega arith

pub record Called (targets : Targets) (forgets : Forgets) (n target : ℕ) (f : FlatFunc) (w : Written)
    (l : List ℕ) : Type 0 where
  pub ready : Ready (callable_items targets forgets n f) (sized_all targets.near f.body (nest f)).parts w l
  pub room : length (entry_items targets.near target) ≤ (appended w (callable_items targets forgets n f)).room

pub called_ready : (targets : Targets) (forgets : Forgets) (n target : ℕ) (f : FlatFunc) (w : Written) (l : List ℕ)
    → Ready (callable_items targets forgets n f ++ entry_items targets.near target) (sized_all targets.near f.body
    (nest f)).parts w l → Called targets forgets n target f w l
called_ready targets forgets n target f w l ready =
    let parts = (sized_all targets.near f.body (nest f)).parts in
    let size = length-append (callable_items targets forgets n f) (entry_items targets.near target) in
    record {
      ready = ready_front (callable_items targets forgets n f) (entry_items targets.near target)
          parts [] w l (subst (λ p. Ready (callable_items targets forgets n f ++ entry_items targets.near target) p w l)
          (sym (append-nil parts)) ready);
      room = let room = ready.room in omega arith;
    }

-- one function more
pub rest_next : (targets : Targets) (forgets : Forgets) (called : ℕ
    → Bool) (fs : List FlatFunc) (i n : ℕ) (f : FlatFunc) → i < length fs → f ≡ get_or fs i f
    → rest_items targets forgets called n (drop i fs) ≡ one_items targets forgets (called n) n (targets.at n) f
    ++ rest_items targets forgets called (n + 1) (drop (i + 1) fs)
rest_next targets forgets called fs i n f inside is =
    ap (rest_items targets forgets called n) (drop_next fs i f inside is)

pub record RestHere (targets : Targets) (forgets : Forgets) (called : ℕ → Bool) (n : ℕ) (f : FlatFunc) (w : Written)
    (most : ℕ) : Type 0 where
  pub room : length (one_items targets forgets (called n) n (targets.at n) f) ≤ w.room
  pub few : length (one_items targets forgets (called n) n (targets.at n) f) ≤ 1048576
  pub writable : Writable targets.near most f

pub rest_here : (targets : Targets) (forgets : Forgets) (called : ℕ
    → Bool) (fs : List FlatFunc) (i n : ℕ) (f : FlatFunc) (w : Written) (most : ℕ) → i < length fs → f ≡ get_or fs i f
    → length (rest_items targets forgets called n (drop i fs)) ≤ w.room
    → length (rest_items targets forgets called n (drop i fs)) ≤ 1048576
    → AllByRecursion (Writable targets.near most) (drop i fs) → RestHere targets forgets called n f w most
rest_here targets forgets called fs i n f w most inside is room few writable =
    let next = ap length (rest_next targets forgets called fs i n f inside is) in
    let size = length-append (one_items targets forgets (called n) n (targets.at n) f)
    (rest_items targets forgets called (n + 1) (drop (i + 1) fs)) in
    record {
      room = omega arith;
      few = omega arith;
      writable = (subst (AllByRecursion (Writable targets.near most)) (drop_next fs i f inside is) writable).0;
    }

pub record RestStep (targets : Targets) (forgets : Forgets) (called : ℕ → Bool) (fs : List FlatFunc) (i n : ℕ)
    (f : FlatFunc) (w w' : Written) (most : ℕ) : Type 0 where
  pub code : appended w' (rest_items targets forgets called (n + 1) (drop (i + 1) fs))
      ≡ appended w (rest_items targets forgets called n (drop i fs))
  pub fit : AllFit (one_items targets forgets (called n) n (targets.at n) f)
      → AllFit (rest_items targets forgets called (n + 1) (drop (i + 1) fs))
      → AllFit (rest_items targets forgets called n (drop i fs))
  pub room : length (rest_items targets forgets called (n + 1) (drop (i + 1) fs)) ≤ w'.room
  pub few : length (rest_items targets forgets called (n + 1) (drop (i + 1) fs)) ≤ 1048576
  pub writable : AllByRecursion (Writable targets.near most) (drop (i + 1) fs)

-- one function more
pub rest_step : (targets : Targets) (forgets : Forgets) (called : ℕ → Bool) (fs : List FlatFunc) (i n : ℕ)
    (f : FlatFunc) (w w' : Written) (most most' : ℕ) → i < length fs → f ≡ get_or fs i f
    → w' ≡ appended w (one_items targets forgets (called n) n (targets.at n) f) → most' ≡ most
    → length (rest_items targets forgets called n (drop i fs)) ≤ w.room
    → length (rest_items targets forgets called n (drop i fs)) ≤ 1048576
    → AllByRecursion (Writable targets.near most) (drop i fs) → RestStep targets forgets called fs i n f w w' most'
rest_step targets forgets called fs i n f w w' most most' inside is new kept room few writable =
    let here = one_items targets forgets (called n) n (targets.at n) f in
    let after = rest_items targets forgets called (n + 1) (drop (i + 1) fs) in
    let next = rest_next targets forgets called fs i n f inside is in
    let long = ap length next in
    let size = length-append here after in
    let left : w'.room ≡ w.room - length here = ap (λ q. q.room) new in
    record {
      code = ap (λ q. appended q after) new ∙ appended_twice w here after ∙ ap (appended w) (sym next);
      fit = λ h r. subst AllFit (sym next) (fit_both here after h r);
      room = omega arith;
      few = omega arith;
      writable = subst (λ m. AllByRecursion (Writable targets.near m) (drop (i + 1) fs)) (sym kept)
          (subst (AllByRecursion (Writable targets.near most)) (drop_next fs i f inside is) writable).1;
    }
