-- A program whose functions took new names is one whose functions are renamed.
use Rattle.std.proofs.Common.{◌≡◌, ℕ, inl, inr, List, [], ◌∷◌, map, refl, sym, ap, subst, ◌∙◌}
use Rattle.std.specs.Prelude.{slice_index}
use Rattle.std.specs.List.{AllByRecursion}
use Rattle.br_flatimp.specs.declared.program.FlatFunc.{FlatFunc}
use Rattle.br_flatimp.specs.declared.program.Proposal.{Proposal}
use Rattle.br_flatimp.specs.declared.program.Cond.{Cond}
use Rattle.br_flatimp.specs.declared.program.Cond.TheVariants.{NonZero, Compare}
use Rattle.br_flatimp.specs.declared.program.Operand.{Operand}
use Rattle.br_flatimp.specs.declared.program.Operand.TheVariants as operand
use Rattle.br_flatimp.specs.declared.program.Stmt.{Stmt, map-Stmt}
use Rattle.br_flatimp.specs.declared.program.Stmt.TheOpen.{Stmt-F}
use Rattle.br_flatimp.specs.declared.program.Stmt.TheViews.{roll-Stmt}
use Rattle.br_flatimp.specs.declared.program.Stmt.TheFolds.{fold-roll-Stmt, ind-Stmt}
use Rattle.br_flatimp.specs.Liveness.{Moment, function_moments}
use Rattle.br_flatimp.specs.Runs.{forgets_none}
use Rattle.br_flatimp.specs.Renaming.{Allows, RenamedFunction, RenamedFunctions, renamed}
use Rattle.br_flatimp.specs.Renaming.{renamed_operand, renamed_step, renamed_test}
use Rattle.br_regalloc_check.specs.Accepted.{IsAccepted, MayRename}
use Rattle.br_regalloc_check.specs.Assigned.{AreAssigned, IsAssigned, function_renamed}
use Rattle.br_regalloc_check.proofs.Lists.{all-change, differ-apart}

-- ---- the same names

map_same : (xs : List ℕ) → map (λ x. x) xs ≡ xs
map_same [] = refl
map_same (x ∷ xs) = ap (λ ys. x ∷ ys) (map_same xs)

same_operand : (z : Operand) → renamed_operand (λ x. x) z ≡ z
same_operand (operand.Name y) = refl
same_operand (operand.Const c) = refl

same_test : (t : Cond) → renamed_test (λ x. x) t ≡ t
same_test (NonZero y) = refl
same_test (Compare rel y z) = refl

abbrev Stays : Stmt → Type 0
Stays c = renamed (λ x. x) c ≡ c

abbrev Each : Type 0
Each = (c : Stmt) × Stays c

all-stay : (cs : List Each) → map (renamed (λ x. x)) (map (λ e. e.0) cs) ≡ map (λ e. e.0) cs
all-stay [] = refl
all-stay (e ∷ cs) = ap (λ d. d ∷ map (renamed (λ x. x)) (map (λ c. c.0) cs)) e.1 ∙ ap (λ ds. e.0 ∷ ds) (all-stay cs)

abbrev opened : Stmt-F Each → Stmt-F Stmt
opened y = map-Stmt Each Stmt (λ e. e.0) y

layer-stays : (y : Stmt-F Each) → renamed_step (λ x. x) (map-Stmt Stmt Stmt (renamed (λ x. x)) (opened y)) ≡ opened y
layer-stays (Stmt-F.Lit x n) = refl
layer-stays (Stmt-F.Copy x y) = refl
layer-stays (Stmt-F.Op x op y z) = ap (λ w. Stmt-F.Op x op y w) (same_operand z)
layer-stays (Stmt-F.Load x size y offset) = refl
layer-stays (Stmt-F.Store size y z offset) = refl
layer-stays (Stmt-F.Table x size bytes y) = refl
layer-stays (Stmt-F.Stackalloc x n body) = ap (λ b. Stmt-F.Stackalloc x n b) (all-stay body)
layer-stays (Stmt-F.If test first second) =
    ap (λ t. Stmt-F.If t (map (renamed (λ x. x)) (map (λ e. e.0) first))
    (map (renamed (λ x. x)) (map (λ e. e.0) second))) (same_test test)
    ∙ ap (λ b. Stmt-F.If test b (map (renamed (λ x. x)) (map (λ e. e.0) second))) (all-stay first)
    ∙ ap (λ b. Stmt-F.If test (map (λ e. e.0) first) b) (all-stay second)
layer-stays (Stmt-F.Loop first test last) =
    ap (λ t. Stmt-F.Loop (map (renamed (λ x. x)) (map (λ e. e.0) first)) t
    (map (renamed (λ x. x)) (map (λ e. e.0) last))) (same_test test)
    ∙ ap (λ b. Stmt-F.Loop b test (map (renamed (λ x. x)) (map (λ e. e.0) last))) (all-stay first)
    ∙ ap (λ b. Stmt-F.Loop (map (λ e. e.0) first) test b) (all-stay last)
layer-stays (Stmt-F.Call xs g ys) =
    ap (λ zs. Stmt-F.Call zs g (map (λ x. x) ys)) (map_same xs) ∙ ap (λ zs. Stmt-F.Call xs g zs) (map_same ys)
layer-stays (Stmt-F.Read x y) = refl
layer-stays (Stmt-F.Write y z) = refl

statement-stays : (c : Stmt) → Stays c
statement-stays = ind-Stmt Stays (λ x y is.
    fold-roll-Stmt Stmt (λ z. roll-Stmt (renamed_step (λ n. n) z)) x
    ∙ ap roll-Stmt
    (subst (λ z. renamed_step (λ n. n) (map-Stmt Stmt Stmt (renamed (λ n. n)) z) ≡ z) is (layer-stays y)))

body-stays : (cs : List Stmt) → map (renamed (λ x. x)) cs ≡ cs
body-stays [] = refl
body-stays (c ∷ cs) = ap (λ d. d ∷ map (renamed (λ x. x)) cs) (statement-stays c) ∙ ap (λ ds. c ∷ ds) (body-stays cs)

-- ---- functions

all-allowed : (ms : List Moment) → AllByRecursion (Allows (λ x. x) forgets_none) ms
all-allowed [] = tt
all-allowed (m ∷ ms) = (record { apart = λ x i z also same. same; kept = λ g x i alive other. refl }, all-allowed ms)

same-function : (f : FlatFunc) → RenamedFunction (λ x. x) forgets_none f f
same-function f = record {
  name = refl;
  args = sym (map_same f.args);
  results = sym (map_same f.results);
  body = sym (body-stays f.body);
  apart = λ x i z also same. same;
  allowed = all-allowed (function_moments f);
}

pub new-function : (f : FlatFunc) (to : List ℕ) → IsAccepted f to
    → RenamedFunction (slice_index to) forgets_none (function_renamed (slice_index to) f) f
new-function f to h = record {
  name = refl;
  args = refl;
  results = refl;
  body = refl;
  apart = λ x i z also same. differ-apart (slice_index to) f.args h.args x z i also same;
  allowed = all-change (MayRename (slice_index to)) (MayRename (slice_index to)) (Allows (slice_index to) forgets_none)
      (λ m k l. record { apart = k.apart; kept = λ g x i alive other. refl }) (function_moments f) h.written h.written;
}

one-renamed : (q f : FlatFunc) (p : Proposal) → IsAssigned q f p → (to : ℕ → ℕ) × RenamedFunction to forgets_none q f
one-renamed q f p (inl h) = (
  slice_index p.to,
  subst (λ g. RenamedFunction (slice_index p.to) forgets_none g f) (sym h.1) (new-function f p.to h.0),
)
one-renamed q f p (inr h) = (λ x. x, subst (λ g. RenamedFunction (λ x. x) forgets_none g f) (sym h.1) (same-function f))

pub all-renamed : (qs fs : List FlatFunc) (ps : List Proposal) → AreAssigned qs fs ps
    → RenamedFunctions forgets_none qs fs
all-renamed [] [] [] h = tt
all-renamed (q ∷ qs) (f ∷ fs) (p ∷ ps) h = (one-renamed q f p h.0, all-renamed qs fs ps h.1)
all-renamed [] [] (p ∷ ps) h = absurd h
all-renamed [] (f ∷ fs) ps h = absurd h
all-renamed (q ∷ qs) [] ps h = absurd h
all-renamed (q ∷ qs) (f ∷ fs) [] h = absurd h
