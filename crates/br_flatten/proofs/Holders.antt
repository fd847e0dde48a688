-- The numbers of held literals, and that the settings set them.
use Rattle.std.proofs.Common.{◌≡◌, ◌≢◌, ℕ, suc, ◌+◌, ◌<◌, ◌≤◌, ◌==◌, Bool, true, false}
use Rattle.std.proofs.Common.{if◌then◌else◌, List, [], ◌∷◌, length, Some, refl, sym, ap, ◌∙◌, arith}
use Rattle.std.proofs.lemmas.Bool.Decides.{Decides-eqb}
use Rattle.br_bytes.specs.Runs.{Goes}
use Rattle.br_flatimp.specs.declared.program.Stmt.TheOpen.{Stmt-F}
use Rattle.br_flatimp.specs.declared.program.Stmt.TheViews.{roll-Stmt}
use Rattle.br_flatimp.specs.Values.{Locals}
use Rattle.br_flatimp.specs.Runs.{State, Callee, set_to}
use Rattle.br_flatten.specs.Scope.{Scope, temporaries, holder_from, holder, settings_from}
use Rattle.br_flatten.proofs.Numbers.{with-same, with-other}
use Rattle.br_flatten.proofs.Turns.{does, does-after, does-one}

-- a number after those of the variables, and before the temporaries
pub record Between (low high y : ℕ) : Type 0 where
  pub above : low ≤ y
  pub below : y < high

from-between : (first : ℕ) (ks : List ℕ) (n y : ℕ) → holder_from first ks n ≡ Some y
    → Between first (first + length ks) y
from-between first [] n y e = absurd (cc e)
from-between first (k ∷ ks) n y e = by (k == n) (from-between (suc first) ks n y) e
  where
    by : (b : Bool) → (holder_from (suc first) ks n ≡ Some y → Between (suc first) (suc first + length ks) y)
        → (if b then Some first else holder_from (suc first) ks n) ≡ Some y
        → Between first (first + length (k ∷ ks)) y
    by true again e = let same : first ≡ y = cc e in record { above = omega (arith, same); below = omega (arith, same) }
    by false again e =
        let there = again e in
        let above = there.above in
        let below = there.below in
        record { above = omega (arith, above); below = omega (arith, below) }

pub holder-between : (scope : Scope) (n y : ℕ) → holder scope n ≡ Some y
    → Between (length scope.names) (temporaries scope) y
holder-between scope n y e = from-between (length scope.names) scope.held n y e

-- ---- settings

-- a run of settings, which sets each held literal and nothing else
pub record SetFrom (call : Callee) (first : ℕ) (ks : List ℕ) (s : State) : Type 0 where
  pub locals : Locals
  pub runs : does call (settings_from first ks) s ≡ Goes (record s { locals = locals })
  pub literals : (n y : ℕ) → holder_from first ks n ≡ Some y → locals y ≡ Some n
  pub others : (y : ℕ) → y < first → locals y ≡ s.locals y

set-first : (call : Callee) (first k : ℕ) (ks : List ℕ) (s : State) → SetFrom call (suc first) ks (set_to first k s)
    → SetFrom call first (k ∷ ks) s
set-first call first k ks s rest = record {
  locals = rest.locals;
  runs = does-after call (roll-Stmt (Stmt-F.Lit first k) ∷ []) (settings_from (suc first) ks) s (set_to first k s)
      (does-one call (Stmt-F.Lit first k) s) ∙ rest.runs;
  literals = λ n y e. by n y (k == n) refl e;
  others = λ y less. rest.others y (omega (arith, less)) ∙ with-other first k y s.locals (apart y less);
}
  where
    apart : (y : ℕ) → y < first → y ≢ first
    apart y less e = absurd (omega (arith, less, e))

    by : (n y : ℕ) (b : Bool) → (k == n) ≡ b → (if b then Some first else holder_from (suc first) ks n) ≡ Some y
        → rest.locals y ≡ Some n
    by n y true same e =
        let here : first ≡ y = cc e in
        ap rest.locals (sym here) ∙ rest.others first (omega arith) ∙ with-same first k s.locals
        ∙ ap Some ((Decides-eqb k n).0 same)
    by n y false same e = rest.literals n y e

set-from : (call : Callee) (first : ℕ) (ks : List ℕ) (s : State) → SetFrom call first ks s
set-from call first [] s =
    record { locals = s.locals; runs = refl; literals = λ n y e. absurd (cc e); others = λ y less. refl }
set-from call first (k ∷ ks) s = set-first call first k ks s (set-from call (suc first) ks (set_to first k s))

pub settings-set : (scope : Scope) (call : Callee) (s : State) → SetFrom call (length scope.names) scope.held s
settings-set scope call s = set-from call (length scope.names) scope.held s
