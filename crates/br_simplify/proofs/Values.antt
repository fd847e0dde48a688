-- Expressions in their simplest form have the same words.
use Rattle.std.proofs.Common.{◌≡◌, ℕ, ◌-◌, ◌*◌, ◌/◌, ◌%◌, ◌^◌, ◌<◌, ◌==◌, ◌&&◌, Bool, true}
use Rattle.std.proofs.Common.{false, not, if◌then◌else◌, List, [], ◌∷◌, map, Option, Some}
use Rattle.std.proofs.Common.{None, nat_lt, unwrap_or, refl, sym, ap, subst, ◌∙◌, arith}
use Rattle.std.specs.Int.{w32, trailing_zeros}
use Rattle.std.specs.Option.{option_and_then}
use Rattle.std.proofs.lemmas.Bool.Decides.{nat_tests, Decides-eqb}
use Rattle.std.proofs.lemmas.Nat.{and_comm, or_comm, xor_comm, and_mask, pow_pos}
use Rattle.br_words.specs.declared.operation.BinOp.{BinOp}
use Rattle.br_words.specs.declared.operation.BinOp.TheVariants as op
use Rattle.br_words.specs.Size.{size_of}
use Rattle.br_words.specs.Words.{flag, value_of_op}
use Rattle.br_bytes.specs.Memory.{Memory, get_number}
use Rattle.br_bytes.specs.Buffers.{table_number}
use Rattle.br_syntax.specs.declared.program.Expr.{Expr, out-Expr, roll-out-Expr, map-Expr}
use Rattle.br_syntax.specs.declared.program.Expr.TheOpen.{Expr-F}
use Rattle.br_syntax.specs.declared.program.Expr.TheViews.{roll-Expr}
use Rattle.br_syntax.specs.declared.program.Expr.TheFolds.{fold-roll-Expr, ind-Expr}
use Rattle.br_source_meaning.specs.Values.{Locals, value, value_step, values, both, selected}
use Rattle.br_simplify.specs.declared.conditions.Test.{Test}
use Rattle.br_simplify.specs.Simple.{commutes, exponent, by_power, by_exponent, simple_form, literal_step}
use Rattle.br_simplify.specs.Simple.{literal, with_literal, by_literals, simple_operation, asks_zero}
use Rattle.br_simplify.specs.Simple.{asked_step, asked, compares, simple_test, test_of, part_test}
use Rattle.br_simplify.specs.Simple.{choice_by, simple_choice, expression_step, simple_expression}

-- ---- operations

commuting : (o : BinOp) → commutes o ≡ true → (a b : ℕ) → value_of_op o a b ≡ value_of_op o b a
commuting op.Add e a b = omega arith
commuting op.Mul e a b = ap (λ n. n % 2 ^ 32) (exchanged a b)
  where
    exchanged : (a b : ℕ) → a * b ≡ b * a
    exchanged a b = grind arith
commuting op.Mulhuu e a b = ap (λ n. n / 2 ^ 32) (exchanged a b)
  where
    exchanged : (a b : ℕ) → a * b ≡ b * a
    exchanged a b = grind arith
commuting op.And e a b = and_comm a b
commuting op.Or e a b = or_comm a b
commuting op.Xor e a b = xor_comm a b
commuting op.Eq e a b = ap flag (equal a b)
  where
    equal : (a b : ℕ) → (a == b) ≡ (b == a)
    equal a b = grind (arith, nat_tests)
commuting op.Sub e a b = absurd (cc e)
commuting op.Divu e a b = absurd (cc e)
commuting op.Remu e a b = absurd (cc e)
commuting op.Sru e a b = absurd (cc e)
commuting op.Slu e a b = absurd (cc e)
commuting op.Srs e a b = absurd (cc e)
commuting op.Lts e a b = absurd (cc e)
commuting op.Ltu e a b = absurd (cc e)

-- a power of two
record Power (n k : ℕ) : Type 0 where
  low : k < 32
  is : n ≡ 2 ^ k

power : (n k : ℕ) → exponent n ≡ Some k → Power n k
power n k e = by (trailing_zeros w32 n) e
  where
    by : (j : ℕ) → (if nat_lt j 32 && (2 ^ j == n) then Some j else None) ≡ Some k → Power n k
    by j e = with (nat_lt j 32) (2 ^ j == n) refl refl e
      where
        some_same : (a b : ℕ) → Some a ≡ Some b → a ≡ b
        some_same a b e = cc e

        with : (b c : Bool) → nat_lt j 32 ≡ b → (2 ^ j == n) ≡ c
            → (if b && c then Some j else None) ≡ Some k → Power n k
        with true true f g e =
            let same : j ≡ k = some_same j k e in
            let low : j < 32 = grind (arith, nat_tests) in
            let is : 2 ^ j ≡ n = (Decides-eqb (2 ^ j) n).0 g in
            record { low = omega (arith, same, low); is = sym is ∙ ap (λ i. 2 ^ i) same }
        with true false f g e = absurd (cc e)
        with false true f g e = absurd (cc e)
        with false false f g e = absurd (cc e)

no_zero : (n k : ℕ) → n ≡ 2 ^ k → (n == 0) ≡ false
no_zero n k e =
    let above = pow_pos k in
    let some : 0 < n = omega (arith, above, e) in
    grind (arith, nat_tests)

power_value : (o : BinOp) (n k : ℕ) → Power n k → (a : ℕ)
    → value_of_op (by_power o n k).op a (by_power o n k).literal ≡ value_of_op o a n
power_value op.Mul n k p a =
    let same : k % 32 ≡ k = omega (arith, p.low) in
    ap (λ j. a * 2 ^ j % 2 ^ 32) same ∙ ap (λ m. a * m % 2 ^ 32) (sym p.is)
power_value op.Divu n k p a =
    let same : k % 32 ≡ k = omega (arith, p.low) in
    ap (λ j. a / 2 ^ j) same ∙ ap (λ m. a / m) (sym p.is)
    ∙ sym (ap (λ b. if b then 2 ^ 32 - 1 else a / n) (no_zero n k p.is))
power_value op.Remu n k p a =
    ap (λ m. value_of_op op.And a (m - 1)) p.is ∙ and_mask a k ∙ ap (λ m. a % m) (sym p.is)
    ∙ sym (ap (λ b. if b then a else a % n) (no_zero n k p.is))
power_value op.Add n k p a = refl
power_value op.Sub n k p a = refl
power_value op.Mulhuu n k p a = refl
power_value op.And n k p a = refl
power_value op.Or n k p a = refl
power_value op.Xor n k p a = refl
power_value op.Sru n k p a = refl
power_value op.Slu n k p a = refl
power_value op.Srs n k p a = refl
power_value op.Lts n k p a = refl
power_value op.Ltu n k p a = refl
power_value op.Eq n k p a = refl

form_value : (o : BinOp) (n a : ℕ) → value_of_op (simple_form o n).op a (simple_form o n).literal ≡ value_of_op o a n
form_value o n a = by (exponent n) refl
  where
    by : (k : Option ℕ) → exponent n ≡ k
        → value_of_op (by_exponent o n k).op a (by_exponent o n k).literal ≡ value_of_op o a n
    by None e = refl
    by (Some k) e = power_value o n k (power n k e) a

-- ---- words

module _ (l : Locals) (m : Memory) where
  literal_rolled : (y : Expr-F Expr) (n : ℕ) → literal_step y ≡ Some n → value l m (roll-Expr y) ≡ Some n
  literal_rolled (Expr-F.Literal k) n e = fold-roll-Expr (Option ℕ) (value_step l m) (Expr-F.Literal k) ∙ e
  literal_rolled (Expr-F.Var x) n e = absurd (cc e)
  literal_rolled (Expr-F.Load size a) n e = absurd (cc e)
  literal_rolled (Expr-F.Table size bytes i) n e = absurd (cc e)
  literal_rolled (Expr-F.Op o a b) n e = absurd (cc e)
  literal_rolled (Expr-F.Ite test a b) n e = absurd (cc e)

  pub literal_value : (e : Expr) (n : ℕ) → literal e ≡ Some n → value l m e ≡ Some n
  literal_value e n is = ap (value l m) (sym (roll-out-Expr e)) ∙ literal_rolled (out-Expr e) n is

  op_value : (o : BinOp) (a b : Expr)
      → value l m (roll-Expr (Expr-F.Op o a b)) ≡ both (value_of_op o) (value l m a) (value l m b)
  op_value o a b = fold-roll-Expr (Option ℕ) (value_step l m) (Expr-F.Op o a b)

  ite_value : (test a b : Expr)
      → value l m (roll-Expr (Expr-F.Ite test a b)) ≡ selected (value l m test) (value l m a) (value l m b)
  ite_value test a b = fold-roll-Expr (Option ℕ) (value_step l m) (Expr-F.Ite test a b)

  both_same : (f g : ℕ → ℕ → ℕ) (n k : ℕ) → ((a : ℕ) → f a k ≡ g a n) → (o : Option ℕ)
      → both f o (Some k) ≡ both g o (Some n)
  both_same f g n k same None = refl
  both_same f g n k same (Some a) = ap Some (same a)

  with_literal_value : (o : BinOp) (n : ℕ) (a : Expr)
      → value l m (with_literal (simple_form o n) a) ≡ both (value_of_op o) (value l m a) (Some n)
  with_literal_value o n a =
      let f = simple_form o n in
      op_value f.op a (roll-Expr (Expr-F.Literal f.literal))
      ∙ ap (both (value_of_op f.op) (value l m a))
      (fold-roll-Expr (Option ℕ) (value_step l m) (Expr-F.Literal f.literal))
      ∙ both_same (value_of_op f.op) (value_of_op o) n f.literal (form_value o n) (value l m a)

  exchanged : (f : ℕ → ℕ → ℕ) → ((a b : ℕ) → f a b ≡ f b a) → (o p : Option ℕ) → both f o p ≡ both f p o
  exchanged f same None None = refl
  exchanged f same None (Some b) = refl
  exchanged f same (Some a) None = refl
  exchanged f same (Some a) (Some b) = ap Some (same a b)

  pub operation_value : (o : BinOp) (a b : Expr)
      → value l m (simple_operation o a b) ≡ both (value_of_op o) (value l m a) (value l m b)
  operation_value o a b = by (literal a) (literal b) refl refl
    where
      moved : (c : Bool) → commutes o ≡ c → (k : ℕ) → value l m a ≡ Some k
          → value l m (if c then with_literal (simple_form o k) b else roll-Expr (Expr-F.Op o a b))
          ≡ both (value_of_op o) (value l m a) (value l m b)
      moved true free k is =
          with_literal_value o k b ∙ exchanged (value_of_op o) (commuting o free) (value l m b) (Some k)
          ∙ sym (ap (λ p. both (value_of_op o) p (value l m b)) is)
      moved false kept k is = op_value o a b

      by : (p q : Option ℕ) → literal a ≡ p → literal b ≡ q
          → value l m (by_literals o a b p q) ≡ both (value_of_op o) (value l m a) (value l m b)
      by (Some j) (Some k) e f =
          fold-roll-Expr (Option ℕ) (value_step l m) (Expr-F.Literal (value_of_op o j k))
          ∙ sym (ap (λ p. both (value_of_op o) p (value l m b)) (literal_value a j e)
          ∙ ap (both (value_of_op o) (Some j)) (literal_value b k f))
      by None (Some k) e f =
          with_literal_value o k a ∙ sym (ap (both (value_of_op o) (value l m a)) (literal_value b k f))
      by (Some k) None e f = moved (commutes o) refl k (literal_value a k e)
      by None None e f = op_value o a b

-- ---- tests

-- whether a word is 0, where there is one
abbrev pub truth : Option ℕ → Option Bool
truth None = None
truth (Some v) = Some (v == 0)

abbrev pub other : Option Bool → Option Bool
other None = None
other (Some b) = Some (not b)

-- what a test says, where its parts may be exchanged
abbrev pub turned : Bool → Option Bool → Option Bool
turned true o = other o
turned false o = o

other_twice : (o : Option Bool) → other (other o) ≡ o
other_twice None = refl
other_twice (Some true) = refl
other_twice (Some false) = refl

zero_truth : (o : Option ℕ) → truth (both (value_of_op op.Eq) o (Some 0)) ≡ other (truth o)
zero_truth None = refl
zero_truth (Some v) = by (v == 0)
  where
    by : (b : Bool) → Some (flag b == 0) ≡ Some (not b)
    by true = refl
    by false = refl

-- an operation that asks whether a word is 0
record AsksZero (o : BinOp) (right : Option ℕ) : Type 0 where
  is_zero : right ≡ Some 0
  is_eq : o ≡ op.Eq

zero_test : (o : BinOp) (right : Option ℕ) → asks_zero o right ≡ true → AsksZero o right
zero_test op.Eq None e = absurd (cc e)
zero_test op.Eq (Some n) e = record { is_zero = ap Some ((Decides-eqb n 0).0 e); is_eq = refl }
zero_test op.Lts right e = absurd (cc e)
zero_test op.Ltu right e = absurd (cc e)
zero_test op.Add right e = absurd (cc e)
zero_test op.Sub right e = absurd (cc e)
zero_test op.Mul right e = absurd (cc e)
zero_test op.Mulhuu right e = absurd (cc e)
zero_test op.Divu right e = absurd (cc e)
zero_test op.Remu right e = absurd (cc e)
zero_test op.And right e = absurd (cc e)
zero_test op.Or right e = absurd (cc e)
zero_test op.Xor right e = absurd (cc e)
zero_test op.Sru right e = absurd (cc e)
zero_test op.Slu right e = absurd (cc e)
zero_test op.Srs right e = absurd (cc e)

-- the word that is asked, and what is around it
pub record AskedIn (y : Expr-F Expr) (a : Expr) : Type 0 where
  pub zero : Expr
  pub is : y ≡ Expr-F.Op op.Eq a zero
  pub is_zero : literal zero ≡ Some 0

pub asked_in : (y : Expr-F Expr) (a : Expr) → asked_step y ≡ Some a → AskedIn y a
asked_in (Expr-F.Op o c b) a e = by (asks_zero o (literal b)) refl e
  where
    some_same : (c a : Expr) → Some c ≡ Some a → c ≡ a
    some_same c a e = cc e

    by : (q : Bool) → asks_zero o (literal b) ≡ q → (if q then Some c else None) ≡ Some a → AskedIn (Expr-F.Op o c b) a
    by true asks e =
        let z = zero_test o (literal b) asks in
        record {
          zero = b;
          is = ap (λ p. Expr-F.Op p c b) z.is_eq ∙ ap (λ d. Expr-F.Op op.Eq d b) (some_same c a e);
          is_zero = z.is_zero;
        }
    by false asks e = absurd (cc e)
asked_in (Expr-F.Literal n) a e = absurd (cc e)
asked_in (Expr-F.Var x) a e = absurd (cc e)
asked_in (Expr-F.Load size c) a e = absurd (cc e)
asked_in (Expr-F.Table size bytes i) a e = absurd (cc e)
asked_in (Expr-F.Ite test c b) a e = absurd (cc e)

module _ (l : Locals) (m : Memory) where
  asked_truth : (e a : Expr) → asked e ≡ Some a → truth (value l m e) ≡ other (truth (value l m a))
  asked_truth e a is =
      let k = asked_in (out-Expr e) a is in
      ap (λ d. truth (value l m d)) (sym (roll-out-Expr e) ∙ ap roll-Expr k.is) ∙ ap truth (op_value l m op.Eq a k.zero)
      ∙ ap (λ o. truth (both (value_of_op op.Eq) (value l m a) o)) (literal_value l m k.zero 0 k.is_zero)
      ∙ zero_truth (value l m a)

  pub test_truth : (e : Expr) → truth (value l m (simple_test e)) ≡ truth (value l m e)
  test_truth e = by (asked e) refl
    where
      by_second : (a : Expr) → asked e ≡ Some a → (p : Option Expr) → asked a ≡ p
          → truth (value l m (unwrap_or p e)) ≡ truth (value l m e)
      by_second a is None f = refl
      by_second a is (Some b) f =
          sym (asked_truth e a is ∙ ap other (asked_truth a b f) ∙ other_twice (truth (value l m b)))

      by : (o : Option Expr) → asked e ≡ o
          → truth (value l m (unwrap_or (option_and_then asked o) e)) ≡ truth (value l m e)
      by None is = refl
      by (Some a) is = by_second a is (asked a) refl

  pub part_truth : (e : Expr)
      → turned (part_test e).exchanged (truth (value l m (part_test e).word)) ≡ truth (value l m e)
  part_truth e = by (asked (simple_test e)) refl ∙ test_truth e
    where
      kept : (a : Expr) → asked (simple_test e) ≡ Some a → (c : Bool)
          → (t : Test) → t ≡ (if c then record { word = simple_test e; exchanged = false }
          else record { word = a; exchanged = true })
          → turned t.exchanged (truth (value l m t.word)) ≡ truth (value l m (simple_test e))
      kept a is true t same = ap (λ (t : Test). turned t.exchanged (truth (value l m t.word))) same
      kept a is false t same =
          ap (λ (t : Test). turned t.exchanged (truth (value l m t.word))) same ∙ sym (asked_truth (simple_test e) a is)

      by : (o : Option Expr) → asked (simple_test e) ≡ o
          → turned (test_of (simple_test e) o).exchanged (truth (value l m (test_of (simple_test e) o).word))
          ≡ truth (value l m (simple_test e))
      by None is = refl
      by (Some a) is = kept a is (compares a) (test_of (simple_test e) (Some a)) refl

  -- ---- conditional expressions

  abbrev by_truth : Option Bool → Option ℕ → Option ℕ → Option ℕ
  by_truth None a b = None
  by_truth (Some z) a b = if z then b else a

  selected_by : (o a b : Option ℕ) → selected o a b ≡ by_truth (truth o) a b
  selected_by None a b = refl
  selected_by (Some v) a b = refl

  by_other : (o : Option Bool) (a b : Option ℕ) → by_truth (other o) a b ≡ by_truth o b a
  by_other None a b = refl
  by_other (Some true) a b = refl
  by_other (Some false) a b = refl

  pub choice_value : (test a b : Expr)
      → value l m (simple_choice test a b) ≡ selected (value l m test) (value l m a) (value l m b)
  choice_value test a b = by (literal test) refl
    where
      part : (z : Bool) → value l m (if z then b else a) ≡ (if z then value l m b else value l m a)
      part true = refl
      part false = refl

      tested : (t : Test) (x : Bool) → t.exchanged ≡ x → turned x (truth (value l m t.word)) ≡ truth (value l m test)
          → value l m (if x then roll-Expr (Expr-F.Ite t.word b a) else roll-Expr (Expr-F.Ite t.word a b))
          ≡ by_truth (truth (value l m test)) (value l m a) (value l m b)
      tested t true e same =
          ite_value l m t.word b a ∙ selected_by (value l m t.word) (value l m b) (value l m a)
          ∙ sym (by_other (truth (value l m t.word)) (value l m a) (value l m b))
          ∙ ap (λ o. by_truth o (value l m a) (value l m b)) same
      tested t false e same =
          ite_value l m t.word a b ∙ selected_by (value l m t.word) (value l m a) (value l m b)
          ∙ ap (λ o. by_truth o (value l m a) (value l m b)) same

      by : (o : Option ℕ) → literal test ≡ o
          → value l m (choice_by a b o (part_test test)) ≡ selected (value l m test) (value l m a) (value l m b)
      by (Some n) is =
          part (n == 0) ∙ sym (ap (λ o. selected o (value l m a) (value l m b)) (literal_value l m test n is))
      by None is = tested (part_test test) (part_test test).exchanged refl (part_truth test)
          ∙ sym (selected_by (value l m test) (value l m a) (value l m b))

  -- ---- every expression

  abbrev Same : Expr → Type 0
  Same e = value l m (simple_expression e) ≡ value l m e

  abbrev Known : Type 0
  Known = (e : Expr) × Same e

  layer : (y : Expr-F Known)
      → value l m (expression_step (map-Expr Expr Expr simple_expression (map-Expr Known Expr (λ e. e.0) y)))
      ≡ value_step l m (map-Expr Expr (Option ℕ) (value l m) (map-Expr Known Expr (λ e. e.0) y))
  layer (Expr-F.Literal n) = fold-roll-Expr (Option ℕ) (value_step l m) (Expr-F.Literal n)
  layer (Expr-F.Var x) = fold-roll-Expr (Option ℕ) (value_step l m) (Expr-F.Var x)
  layer (Expr-F.Load size a) =
      fold-roll-Expr (Option ℕ) (value_step l m) (Expr-F.Load size (simple_expression a.0))
      ∙ ap (option_and_then (λ a. get_number m a (size_of size))) a.1
  layer (Expr-F.Table size bytes i) =
      fold-roll-Expr (Option ℕ) (value_step l m) (Expr-F.Table size bytes (simple_expression i.0))
      ∙ ap (option_and_then (λ i. table_number bytes i (size_of size))) i.1
  layer (Expr-F.Op o a b) =
      operation_value l m o (simple_expression a.0) (simple_expression b.0)
      ∙ ap (λ p. both (value_of_op o) p (value l m (simple_expression b.0))) a.1
      ∙ ap (both (value_of_op o) (value l m a.0)) b.1
  layer (Expr-F.Ite c a b) =
      choice_value (simple_expression c.0) (simple_expression a.0) (simple_expression b.0)
      ∙ ap (λ p. selected p (value l m (simple_expression a.0)) (value l m (simple_expression b.0))) c.1
      ∙ ap (λ p. selected (value l m c.0) p (value l m (simple_expression b.0))) a.1
      ∙ ap (selected (value l m c.0) (value l m a.0)) b.1

  pub same_value : (e : Expr) → Same e
  same_value = ind-Expr Same (λ x y is.
      let one = subst (λ z. value l m (expression_step (map-Expr Expr Expr simple_expression z))
      ≡ value_step l m (map-Expr Expr (Option ℕ) (value l m) z)) is (layer y) in
      ap (value l m) (fold-roll-Expr Expr expression_step x) ∙ one ∙ sym (fold-roll-Expr (Option ℕ) (value_step l m) x))

  pub same_values : (es : List Expr) → values l m (map simple_expression es) ≡ values l m es
  same_values [] = refl
  same_values (e ∷ es) =
      ap (option_and_then (λ v. option_and_then (λ vs. Some (v ∷ vs)) (values l m (map simple_expression es))))
      (same_value e)
      ∙ ap (λ o. option_and_then (λ v. option_and_then (λ vs. Some (v ∷ vs)) o) (value l m e)) (same_values es)
