-- What operations ask as tests, and the test that holds where another does not.
use Rattle.std.proofs.Common.{◌≡◌, ◌≢◌, ℕ, ◌<◌, ◌≤◌, ◌==◌, Bool, true, false, not, []}
use Rattle.std.proofs.Common.{◌∷◌, ◌++◌, Option, Some, None, refl, sym, ap, ◌∙◌, arith}
use Rattle.std.proofs.lemmas.Bool.Decides.{Decides-eqb}
use Rattle.br_words.specs.declared.operation.BinOp.{BinOp}
use Rattle.br_words.specs.declared.operation.BinOp.TheVariants as op
use Rattle.br_words.specs.Words.{flag, value_of_op}
use Rattle.br_bytes.specs.Runs.{Goes}
use Rattle.br_flatimp.specs.declared.program.Rel.{Rel}
use Rattle.br_flatimp.specs.declared.program.Rel.TheVariants as rel
use Rattle.br_flatimp.specs.declared.program.Cond.{Cond}
use Rattle.br_flatimp.specs.declared.program.Cond.TheVariants.{NonZero, Compare}
use Rattle.br_flatimp.specs.declared.program.Stmt.TheOpen.{Stmt-F}
use Rattle.br_flatimp.specs.declared.program.Stmt.TheViews.{roll-Stmt}
use Rattle.br_flatimp.specs.Parts.{test_names}
use Rattle.br_flatimp.specs.Values.{Locals, with_local, compares, compared, test_word}
use Rattle.br_flatimp.specs.Runs.{State, Run, Callee}
use Rattle.br_flatten.specs.Flatten.{above}
use Rattle.br_flatten.specs.Tests.{Test, relation, opposite, asks_zero, zero_before, turned, next_turned, negation}
use Rattle.br_flatten.proofs.Numbers.{with-same, with-other}
use Rattle.br_flatten.proofs.Turns.{does, does-after, does-one}

-- ---- operations

pub relation-value : (o : BinOp) (r : Rel) → relation o ≡ Some r → (a b : ℕ) → flag (compares r a b) ≡ value_of_op o a b
relation-value op.Lts r e a b = ap (λ q. flag (compares q a b)) (same r e)
  where
    same : (r : Rel) → Some rel.Lts ≡ Some r → r ≡ rel.Lts
    same r e = cc e
relation-value op.Ltu r e a b = ap (λ q. flag (compares q a b)) (same r e)
  where
    same : (r : Rel) → Some rel.Ltu ≡ Some r → r ≡ rel.Ltu
    same r e = cc e
relation-value op.Eq r e a b = ap (λ q. flag (compares q a b)) (same r e)
  where
    same : (r : Rel) → Some rel.Eq ≡ Some r → r ≡ rel.Eq
    same r e = cc e
relation-value op.Add r e a b = absurd (cc e)
relation-value op.Sub r e a b = absurd (cc e)
relation-value op.Mul r e a b = absurd (cc e)
relation-value op.Mulhuu r e a b = absurd (cc e)
relation-value op.Divu r e a b = absurd (cc e)
relation-value op.Remu r e a b = absurd (cc e)
relation-value op.And r e a b = absurd (cc e)
relation-value op.Or r e a b = absurd (cc e)
relation-value op.Xor r e a b = absurd (cc e)
relation-value op.Sru r e a b = absurd (cc e)
relation-value op.Slu r e a b = absurd (cc e)
relation-value op.Srs r e a b = absurd (cc e)

-- an operation that asks whether a word is 0
pub record IsZeroTest (o : BinOp) (right : Option ℕ) : Type 0 where
  pub literal : right ≡ Some 0
  pub value : (a : ℕ) → flag (a == 0) ≡ value_of_op o a 0

pub zero_test : (o : BinOp) (right : Option ℕ) → asks_zero o right ≡ true → IsZeroTest o right
zero_test op.Eq None e = absurd (cc e)
zero_test op.Eq (Some n) e = record { literal = ap Some ((Decides-eqb n 0).0 e); value = λ a. refl }
zero_test op.Lts right e = absurd (cc e)
zero_test op.Ltu right e = absurd (cc e)
zero_test op.Add right e = absurd (cc e)
zero_test op.Sub right e = absurd (cc e)
zero_test op.Mul right e = absurd (cc e)
zero_test op.Mulhuu right e = absurd (cc e)
zero_test op.Divu right e = absurd (cc e)
zero_test op.Remu right e = absurd (cc e)
zero_test op.And right e = absurd (cc e)
zero_test op.Or right e = absurd (cc e)
zero_test op.Xor right e = absurd (cc e)
zero_test op.Sru right e = absurd (cc e)
zero_test op.Slu right e = absurd (cc e)
zero_test op.Srs right e = absurd (cc e)

-- ---- runs of tests

-- a run after which a test has a word, and which changes no name below a number
pub record Tests (f : State → Run) (s : State) (cond : Cond) (v free after : ℕ) : Type 0 where
  pub locals : Locals
  pub runs : f s ≡ Goes (record s { locals = locals })
  pub word : test_word cond locals ≡ Some v
  pub others : (y : ℕ) → y < free → locals y ≡ s.locals y
  pub below : above (test_names cond) ≤ after
  pub grows : free ≤ after

not_twice : (b : Bool) → not (not b) ≡ b
not_twice true = refl
not_twice false = refl

opposite-compares : (r : Rel) (a b : ℕ) → compares (opposite r) a b ≡ not (compares r a b)
opposite-compares rel.Eq a b = refl
opposite-compares rel.Ne a b = sym (not_twice (compares rel.Eq a b))
opposite-compares rel.Lts a b = refl
opposite-compares rel.Ges a b = sym (not_twice (compares rel.Lts a b))
opposite-compares rel.Ltu a b = refl
opposite-compares rel.Geu a b = sym (not_twice (compares rel.Ltu a b))

not_flag : (b : Bool) → flag (not b) ≡ flag (flag b == 0)
not_flag true = refl
not_flag false = refl

opposite-compared : (r : Rel) (o p : Option ℕ) (v : ℕ) → compared r o p ≡ Some v
    → compared (opposite r) o p ≡ Some (flag (v == 0))
opposite-compared r None p v e = absurd (cc e)
opposite-compared r (Some a) None v e = absurd (cc e)
opposite-compared r (Some a) (Some b) v e =
    let word : flag (compares r a b) ≡ v = cc e in
    ap (λ c. Some (flag c)) (opposite-compares r a b) ∙ ap Some (not_flag (compares r a b))
    ∙ ap (λ w. Some (flag (w == 0))) word

-- a name that holds the literal 0, below a number
pub record HoldsZero (s : State) (free y : ℕ) : Type 0 where
  pub word : s.locals y ≡ Some 0
  pub below : y < free

pub negation-tests : (call : Callee) (s : State) (t : Test) (zero : Option ℕ) (v free : ℕ)
    → ((y : ℕ) → zero ≡ Some y → HoldsZero s free y) → Tests (does call t.before) s t.cond v free t.next
    → Tests (does call (negation zero t).before) s (negation zero t).cond (flag (v == 0)) free (negation zero t).next
negation-tests call s t zero v free holds tests = by zero t.cond t.next holds tests
  where
    apart : (y after : ℕ) → y < after → y ≢ after
    apart y after less e = absurd (omega (arith, less, e))

    by : (zero : Option ℕ) (cond : Cond) (after : ℕ) → ((y : ℕ) → zero ≡ Some y → HoldsZero s free y)
        → Tests (does call t.before) s cond v free after
        → Tests (does call (t.before ++ zero_before zero cond after)) s (turned zero cond after) (flag (v == 0)) free
        (next_turned zero cond after)
    by zero (Compare r y z) after holds d = record {
      locals = d.locals;
      runs = does-after call t.before [] s (record s { locals = d.locals }) d.runs;
      word = opposite-compared r (d.locals y) (d.locals z) v d.word;
      others = d.others;
      below = d.below;
      grows = d.grows;
    }
    by (Some k) (NonZero y) after holds d =
        let h = holds k refl in
        let inside = h.below in
        let below = d.below in
        let grows = d.grows in
        record {
          locals = d.locals;
          runs = does-after call t.before [] s (record s { locals = d.locals }) d.runs;
          word = ap (λ o. compared rel.Eq o (d.locals k)) d.word
              ∙ ap (compared rel.Eq (Some v)) (d.others k inside ∙ h.word);
          others = d.others;
          below = omega (arith, below, inside, grows);
          grows = grows;
        }
    by None (NonZero y) after holds d =
        let below = d.below in
        let grows = d.grows in
        let u : State = record s { locals = d.locals } in
        let locals : Locals = with_local after 0 d.locals in
        record {
          locals = locals;
          runs = does-after call t.before (roll-Stmt (Stmt-F.Lit after 0) ∷ []) s u d.runs
              ∙ does-one call (Stmt-F.Lit after 0) u;
          word = ap (λ o. compared rel.Eq o (locals after)) (with-other after 0 y d.locals (apart y after
              (omega (arith, below))) ∙ d.word) ∙ ap (compared rel.Eq (Some v)) (with-same after 0 d.locals);
          others =
              λ y less. with-other after 0 y d.locals (apart y after (omega (arith, less, grows))) ∙ d.others y less;
          below = omega (arith, below);
          grows = omega (arith, grows);
        }
