-- What a statement with parts is in register form, and programs whose calls lead to higher ranks alone.
use Rattle.std.proofs.Common.{◌≡◌, ℕ, ◌<◌, ◌&&◌, Bool, true, false, IsTrue, nat_le, nat_lt, List, []}
use Rattle.std.proofs.Common.{◌∷◌, length, get_or, map, refl, sym, ap, subst, ◌∙◌, arith, zero, suc}
use Rattle.std.specs.List.{list_all}
use Rattle.std.proofs.lemmas.Bool.{and_parts, ltb-true}
use Rattle.std.proofs.lemmas.Option.{slice_get_within}
use Rattle.br_flatimp.specs.declared.program.Cond.{Cond}
use Rattle.br_flatimp.specs.declared.program.Stmt.{Stmt}
use Rattle.br_flatimp.specs.declared.program.Stmt.TheOpen.{Stmt-F}
use Rattle.br_flatimp.specs.declared.program.Stmt.TheVariants.{Stackalloc, If, Loop, Call, rolls-Stackalloc}
use Rattle.br_flatimp.specs.declared.program.Stmt.TheVariants.{rolls-If, rolls-Loop, rolls-Call}
use Rattle.br_flatimp.specs.declared.program.Stmt.TheFolds.{fold-roll-Stmt}
use Rattle.br_flatimp.specs.declared.program.FlatFunc.{FlatFunc}
use Rattle.br_flatimp.specs.Parts.{callees, parts, test_names, throughout}
use Rattle.br_flatimp.specs.Sizes.{Calls, CallPath, HasNoRecursion}
use Rattle.br_flatimp.specs.WellFormed.{are_registers, is_passing, uses_registers}
use Rattle.br_flatimp.proofs.Decided.{all-made}
use Rattle.br_stack_need.proofs.Rounds.{get_or_map, map_length}

-- ---- statements

abbrev step : Stmt-F Bool → Bool
step y = uses_registers y && list_all (list_all (λ ok. ok)) (parts y)

abbrev each : List Stmt → Bool
each = list_all (throughout uses_registers)

pub registers-stackalloc : (x n : ℕ) (body : List Stmt)
    → throughout uses_registers (Stackalloc x n body) ≡ ((nat_le 3 x && nat_le x 31) && each body)
registers-stackalloc x n body =
    ap (throughout uses_registers) (sym (rolls-Stackalloc x n body))
    ∙ fold-roll-Stmt Bool step (Stmt-F.Stackalloc x n body)
    ∙ ap (λ b. uses_registers {X = Bool} (Stmt-F.Stackalloc x n []) && (b && true))
    (all-made (throughout uses_registers) body)
    ∙ plain (nat_le 3 x && nat_le x 31) (each body)
  where
    plain : (a b : Bool) → ((((a && true) && true) && true) && (b && true)) ≡ (a && b)
    plain true true = refl
    plain true false = refl
    plain false b = refl

two : (a b c : Bool) → (((true && a) && true) && (b && (c && true))) ≡ (a && (b && c))
two true true true = refl
two true true false = refl
two true false c = refl
two false b c = refl

pub registers-if : (test : Cond) (first second : List Stmt) → throughout uses_registers (If test first second)
    ≡ (are_registers (test_names test) && (each first && each second))
registers-if test first second =
    ap (throughout uses_registers) (sym (rolls-If test first second))
    ∙ fold-roll-Stmt Bool step (Stmt-F.If test first second)
    ∙ ap (λ b. own && (b && (list_all (λ ok. ok) (map (throughout uses_registers) second) && true)))
    (all-made (throughout uses_registers) first)
    ∙ ap (λ b. own && (each first && (b && true))) (all-made (throughout uses_registers) second)
    ∙ two (are_registers (test_names test)) (each first) (each second)
  where
    own : Bool
    own = (true && are_registers (test_names test)) && true

pub registers-loop : (first : List Stmt) (test : Cond) (last : List Stmt)
    → throughout uses_registers (Loop first test last) ≡ (are_registers (test_names test) && (each first && each last))
registers-loop first test last =
    ap (throughout uses_registers) (sym (rolls-Loop first test last))
    ∙ fold-roll-Stmt Bool step (Stmt-F.Loop first test last)
    ∙ ap (λ b. own && (b && (list_all (λ ok. ok) (map (throughout uses_registers) last) && true)))
    (all-made (throughout uses_registers) first)
    ∙ ap (λ b. own && (each first && (b && true))) (all-made (throughout uses_registers) last)
    ∙ two (are_registers (test_names test)) (each first) (each last)
  where
    own : Bool
    own = (true && are_registers (test_names test)) && true

pub registers-call : (xs : List ℕ) (g : ℕ) (ys : List ℕ) → throughout uses_registers (Call xs g ys)
    ≡ (are_registers xs && are_registers ys && (is_passing xs && is_passing ys))
registers-call xs g ys =
    ap (throughout uses_registers) (sym (rolls-Call xs g ys))
    ∙ fold-roll-Stmt Bool step (Stmt-F.Call xs g ys)
    ∙ plain (are_registers xs && are_registers ys && (is_passing xs && is_passing ys))
  where
    plain : (a : Bool) → (a && true) ≡ a
    plain true = refl
    plain false = refl

pub ruleset registers_of_parts = (registers-stackalloc, registers-if, registers-loop, registers-call)

-- ---- calls

abbrev pub row_rises : List ℕ → List (List ℕ) → ℕ → Bool
row_rises ranks table f = list_all (λ g. nat_lt (get_or ranks f 0) (get_or ranks g 0)) (get_or table f [])

one_of : (p : ℕ → Bool) (xs : List ℕ) (k x : ℕ) → IsTrue (list_all p xs) → k < length xs → get_or xs k x ≡ x
    → IsTrue (p x)
one_of p [] k x all inside is = absurd (omega arith)
one_of p (y ∷ ys) zero x all inside is = subst (λ q. IsTrue (p q)) is (and_parts (p y) (list_all p ys) all).0
one_of p (y ∷ ys) (suc k) x all inside is = one_of p ys k x (and_parts (p y) (list_all p ys) all).1 (omega arith) is

module _ (fs : List FlatFunc) (ranks : List ℕ) (table : List (List ℕ)) (table_is : table ≡ map callees fs)
    (rises : (f : ℕ) → f < length table → IsTrue (row_rises ranks table f)) where
  call_rises : (f g : ℕ) → Calls fs f g → get_or ranks f 0 < get_or ranks g 0
  call_rises f g call =
      let rows : length table ≡ length fs = ap (λ (t : List (List ℕ)). length t) table_is ∙ map_length callees fs in
      let inside = slice_get_within fs f call.caller call.at in
      let its_row : get_or table f [] ≡ callees call.caller = ap (λ (t : List (List ℕ)). get_or t f []) table_is
      ∙ get_or_map callees fs f call.caller [] call.at in
      let all = subst (λ (ns : List ℕ). IsTrue (list_all (λ h. nat_lt (get_or ranks f 0) (get_or ranks h 0)) ns))
      its_row (rises f (omega (arith, rows))) in
      ltb-true (get_or ranks f 0) (get_or ranks g 0) (one_of (λ h. nat_lt (get_or ranks f 0) (get_or ranks h 0))
      (callees call.caller) call.called.0 g all call.called.1 call.called.2)

  path_rises : (f : ℕ) (between : List ℕ) (g : ℕ) → CallPath fs f between g → get_or ranks f 0 < get_or ranks g 0
  path_rises f [] g path = call_rises f g path
  path_rises f (h ∷ hs) g path = omega (arith, call_rises f h path.0, path_rises h hs g path.1)

  pub no_recursion : HasNoRecursion fs
  no_recursion f between path = omega (arith, path_rises f between f path)
