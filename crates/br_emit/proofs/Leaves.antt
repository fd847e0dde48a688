-- Statements without parts, in code.
use Rattle.std.proofs.Common.{◌≡◌, ◌≢◌, ℕ, ◌+◌, ◌^◌, ◌<◌, ◌≤◌, ◌==◌, nat_le, ◌&&◌, if◌then◌else◌, List, [], ◌∷◌}
use Rattle.std.proofs.Common.{length, Option, Some, None, Bool, true, false, IsTrue, refl, sym, ap, subst, ◌∙◌, arith}
use Rattle.std.proofs.lemmas.Bool.Decides.{nat_tests}
use Rattle.br_words.specs.declared.operation.BinOp.{BinOp}
use Rattle.br_words.specs.Words.{wrapped, value_of_op}
use Rattle.br_bytes.specs.declared.run.Choice.{Choice}
use Rattle.br_bytes.specs.Runs.{Undefined, Goes, Ends, with_defined}
use Rattle.br_flatimp.specs.declared.program.Operand.{Operand}
use Rattle.br_flatimp.specs.declared.program.Operand.TheVariants as operand
use Rattle.br_flatimp.specs.declared.program.Stmt.TheOpen.{Stmt-F}
use Rattle.br_flatimp.specs.Values.{Locals, with_local, operand_word}
use Rattle.br_flatimp.specs.Parts.{operand_names}
use Rattle.br_flatimp.specs.WellFormed.{are_registers, operand_fits}
use Rattle.br_flatimp.specs.Runs.{State, Run, Forgets, Callee, set_to, statement_step}
use Rattle.br_emit.specs.Code.{constant_items, copy_items, op_items, statement_items, Targets}
use Rattle.br_emit.proofs.Stepping.{at, reads}
use Rattle.br_emit.proofs.Pieces.{untouched_rests, other_rests, Rests, Ground, Placed, Ready}
use Rattle.br_emit.proofs.Pieces.{Stands, kept_refl, Shown, On, Wrong, Simulates, given}
use Rattle.br_emit.proofs.Setting.{ready_runs, good_of}
use Rattle.br_emit.proofs.Operations.{SetsWithin, constant_sets, by_name_sets, by_constant_sets, copy_sets, word_reads}
use Rattle.br_machine.specs.Steps.{Runs}

-- ---- tests that hold

pub both : (a b : Bool) → IsTrue (a && b) → IsTrue a × IsTrue b
both true true h = (refl, refl)
both true false h = absurd (cc)
both false b h = absurd (cc)

-- a name that is a register
pub record IsName (x : ℕ) : Type 0 where
  pub low : 3 ≤ x
  pub high : x ≤ 31

pub first_name : (x : ℕ) (xs : List ℕ) → IsTrue (are_registers (x ∷ xs)) → IsName x × IsTrue (are_registers xs)
first_name x xs h =
    let two = both (nat_le 3 x && nat_le x 31) (are_registers xs) h in
    let ends = both (nat_le 3 x) (nat_le x 31) two.0 in
    (record { low = low x ends.0; high = high x ends.1 }, two.1)
  where
    low : (x : ℕ) → IsTrue (nat_le 3 x) → 3 ≤ x
    low x e = grind (arith, nat_tests)

    high : (x : ℕ) → IsTrue (nat_le x 31) → x ≤ 31
    high x e = grind (arith, nat_tests)

pub nonzero : (x : ℕ) → IsName x → x ≢ 0
nonzero x name = let low = name.low in omega arith

-- a word that a register holds
pub word_read : (code registers ram answers : List ℕ) (j y a : ℕ) → Ready code registers ram answers j
    → reads registers y ≡ a → a < 2 ^ 32
word_read code registers ram answers j y a ready is = let words = ready.is in
    subst (λ q. q < 2 ^ 32) is (word_reads registers y words.words)

pub true_false : true ≡ false → ⊥
true_false e = absurd (cc)

-- a name that may be written
abbrev pub Touches : Ground → ℕ → Type 0
Touches g x = g.touched x ≡ true

-- ---- a name is set

-- with a name set, the others' words stay
pub values_set : (locals : Locals) (registers registers' : List ℕ) (x v : ℕ)
    → ((y w : ℕ) → 3 ≤ y → y ≤ 31 → locals y ≡ Some w → reads registers y ≡ w)
    → reads registers' x ≡ v → ((y : ℕ) → y ≢ x → y ≢ 1 → reads registers' y ≡ reads registers y)
    → (y w : ℕ) → 3 ≤ y → y ≤ 31 → with_local x v locals y ≡ Some w → reads registers' y ≡ w
values_set locals registers registers' x v values value others y w low high is = by (y == x) refl is
  where
    by : (b : Bool) → (y == x) ≡ b → (if b then Some v else locals y) ≡ Some w → reads registers' y ≡ w
    by true e h =
        let same : y ≡ x = grind (arith, nat_tests) in
        let also : v ≡ w = cc in
        ap (reads registers') same ∙ value ∙ also
    by false e h =
        let ne : y ≢ x = grind (arith, nat_tests) in
        others y ne (omega arith) ∙ values y w low high h

-- the same, where x1 may be changed too
pub sets_with_link : (g : Ground) (f : State → Run) (s : State) (registers ram : List ℕ) (b j k x v limit : ℕ)
    → ((rest : List Choice) → f (given s rest) ≡ Goes (given (set_to x v s) rest))
    → IsName x → g.touched x ≡ true → Ready g.code registers ram s.answers j → Stands b g.sp s registers ram
    → (registers' : List ℕ) (steps : ℕ) → steps ≤ limit → Runs g.low steps (at g.code j registers ram s.answers s.trace)
    (at g.code (j + k) registers' ram s.answers s.trace)
    → reads registers' x ≡ v → ((y : ℕ) → y ≢ x → Rests g y → reads registers' y ≡ reads registers y)
    → Shown g f s (at g.code j registers ram s.answers s.trace) ram b (j + k) limit
sets_with_link g f s registers ram b j k x v limit goes name touched ready stands registers' steps few runs
    value others =
    let low = name.low in
    On (record {
      choices = [];
      chosen = tt;
      after = set_to x v s;
      goes = goes;
      registers = registers';
      ram' = ram;
      steps = steps;
      runs = runs;
      ready = ready_runs g registers ram s.answers registers' ram s.answers s.trace s.trace j (j + k) steps ready runs;
      stands = record {
        values = values_set s.locals registers registers' x v stands.values value
            (λ y ne one. others y ne (other_rests g y one));
        held = stands.held;
        pointer = others 2 (omega arith) (other_rests g 2 (omega arith)) ∙ stands.pointer;
      };
      untouched = λ y low out. others y (λ same. absurd (true_false (sym touched ∙ ap g.touched (sym same) ∙ out)))
          (untouched_rests g y out);
      kept = kept_refl b s.memory ram;
      paced = record { takes = omega arith; least = omega arith; most = omega arith };
    })

pub sets_on : (g : Ground) (f : State → Run) (s : State) (registers ram : List ℕ) (b j k x v limit : ℕ)
    → ((rest : List Choice) → f (given s rest) ≡ Goes (given (set_to x v s) rest))
    → IsName x → g.touched x ≡ true → Ready g.code registers ram s.answers j → Stands b g.sp s registers ram
    → SetsWithin g j k registers ram s.answers s.trace x v limit
    → Shown g f s (at g.code j registers ram s.answers s.trace) ram b (j + k) limit
sets_on g f s registers ram b j k x v limit goes name touched ready stands within =
    let sets = within.sets in
    sets_with_link g f s registers ram b j k x v limit goes name touched ready stands sets.registers' within.steps
    within.few sets.runs sets.value (λ y ne rests. sets.others y ne)

-- a run that has no meaning at once
pub wrong_at_once : (g : Ground) (f : State → Run) (s : State) (registers ram : List ℕ) (b j end bulk : ℕ)
    → ((rest : List Choice) → f (given s rest) ≡ Ends Undefined (given s rest))
    → Shown g f s (at g.code j registers ram s.answers s.trace) ram b end bulk
wrong_at_once g f s registers ram b j end bulk ends =
    Wrong (record { choices = []; chosen = tt; after = λ rest. given s rest; ends = ends })

-- ---- statements that set a name

pub lit_simulates : (g : Ground) (targets : Targets) (forgets : Forgets) (call : Callee) (x n : ℕ)
    → IsTrue (are_registers (x ∷ [])) → Touches g x
    → Simulates g (statement_step forgets call (Stmt-F.Lit x n)) (statement_items targets (Stmt-F.Lit x n)) 0 2
lit_simulates g targets forgets call x n named touches free j s registers ram room multiple inside deep placed
    ready stands =
    let name = (first_name x [] named).0 in
    let low = name.low in
    sets_on g (statement_step forgets call (Stmt-F.Lit x n)) s registers ram (g.sp + free) j
    (length (constant_items x n)) x n 2 (λ rest. refl) name touches ready stands
    (constant_sets g j registers ram s.answers s.trace x n (good_of g.code registers ram s.answers j ready) placed
    (omega arith))

-- the register of a name whose word is set
pub name_value : (s : State) (b sp : ℕ) (registers ram : List ℕ) (y v : ℕ) → Stands b sp s registers ram → IsName y
    → s.locals y ≡ Some v → reads registers y ≡ v
name_value s b sp registers ram y v stands name is = stands.values y v name.low name.high is

pub copy_simulates : (g : Ground) (targets : Targets) (forgets : Forgets) (call : Callee) (x y : ℕ)
    → IsTrue (are_registers (x ∷ [])) → Touches g x → IsTrue (are_registers (y ∷ []))
    → Simulates g (statement_step forgets call (Stmt-F.Copy x y)) (statement_items targets (Stmt-F.Copy x y)) 0 1
copy_simulates g targets forgets call x y named touches named' free j s registers ram room multiple inside deep placed
    ready stands = by (s.locals y) refl
  where
    by : (o : Option ℕ) → s.locals y ≡ o → Shown g (statement_step forgets call (Stmt-F.Copy x y)) s (at g.code j
        registers ram s.answers s.trace) ram (g.sp + free) (j + length (copy_items x y)) 1
    by None e = wrong_at_once g (statement_step forgets call (Stmt-F.Copy x y)) s registers ram (g.sp + free) j _ 1
        (λ rest. ap (λ o. with_defined o (given s rest) (λ v. Goes (set_to x v (given s rest)))) e)
    by (Some v) e =
        let name = (first_name x [] named).0 in
        let name' = (first_name y [] named').0 in
        sets_on g (statement_step forgets call (Stmt-F.Copy x y)) s registers ram (g.sp + free) j
        (length (copy_items x y)) x v 1
        (λ rest. ap (λ o. with_defined o (given s rest) (λ v. Goes (set_to x v (given s rest)))) e) name
        touches ready stands
        (copy_sets g j registers ram s.answers s.trace x y v ready placed (nonzero x name)
        (name_value s (g.sp + free) g.sp registers ram y v stands name' e))

pub op_simulates : (g : Ground) (targets : Targets) (forgets : Forgets) (call : Callee) (x : ℕ) (o : BinOp)
    (y : ℕ) (z : Operand)
    → IsTrue (are_registers (x ∷ [])) → Touches g x → IsTrue (are_registers (y ∷ operand_names z))
    → IsTrue (operand_fits o z)
    → Simulates g (statement_step forgets call (Stmt-F.Op x o y z)) (statement_items targets (Stmt-F.Op x o y z)) 0 2
op_simulates g targets forgets call x o y z named touches named' fit free j s registers ram room multiple inside deep
    placed ready stands = by z (s.locals y) (operand_word z s.locals) refl refl named' fit placed
  where
    goes : (z : Operand) (p q : Option ℕ) → s.locals y ≡ p → operand_word z s.locals ≡ q → (rest : List Choice)
        → statement_step forgets call (Stmt-F.Op x o y z) (given s rest) ≡ with_defined p (given s rest)
        (λ a. with_defined q (given s rest) (λ b. Goes (set_to x (value_of_op o a b) (given s rest))))
    goes z p q e k rest =
        ap (λ p. with_defined p (given s rest) (λ a. with_defined (operand_word z s.locals) (given s rest)
        (λ b. Goes (set_to x (value_of_op o a b) (given s rest))))) e
        ∙ ap (λ q. with_defined p (given s rest)
        (λ a. with_defined q (given s rest) (λ b. Goes (set_to x (value_of_op o a b) (given s rest))))) k

    by : (z : Operand) (p q : Option ℕ) → s.locals y ≡ p → operand_word z s.locals ≡ q
        → IsTrue (are_registers (y ∷ operand_names z)) → IsTrue (operand_fits o z) → Placed g.code j (op_items x o y z)
        → Shown g (statement_step forgets call (Stmt-F.Op x o y z)) s (at g.code j registers ram s.answers s.trace) ram
        (g.sp + free) (j + length (op_items x o y z)) 2
    by z None q e k named' fit placed = wrong_at_once g (statement_step forgets call (Stmt-F.Op x o y z)) s registers
        ram (g.sp + free) j _ 2 (goes z None q e k)
    by z (Some a) None e k named' fit placed = wrong_at_once g (statement_step forgets call (Stmt-F.Op x o y z)) s
        registers ram (g.sp + free) j _ 2 (goes z (Some a) None e k)
    by (operand.Name z) (Some a) (Some b) e k named' fit placed =
        let name = (first_name x [] named).0 in
        let low = name.low in
        let two = first_name y (z ∷ []) named' in
        let other = (first_name z [] two.1).0 in
        let is = name_value s (g.sp + free) g.sp registers ram y a stands two.0 e in
        let also = name_value s (g.sp + free) g.sp registers ram z b stands other k in
        sets_on g (statement_step forgets call (Stmt-F.Op x o y (operand.Name z))) s registers ram (g.sp + free) j
        (length (op_items x o y (operand.Name z))) x (value_of_op o a b) 2
        (goes (operand.Name z) (Some a) (Some b) e k) name touches ready stands
        (by_name_sets g j registers ram s.answers s.trace o x y z a b (good_of g.code registers ram s.answers j ready)
        placed (omega arith) is also
        (word_read g.code registers ram s.answers j y a ready is)
        (word_read g.code registers ram s.answers j z b ready also))
    by (operand.Const c) (Some a) (Some b) e k named' fit placed =
        let name = (first_name x [] named).0 in
        let low = name.low in
        let one = first_name y [] named' in
        let is = name_value s (g.sp + free) g.sp registers ram y a stands one.0 e in
        let same : wrapped c ≡ b = cc in
        sets_on g (statement_step forgets call (Stmt-F.Op x o y (operand.Const c))) s registers ram (g.sp + free) j
        (length (op_items x o y (operand.Const c))) x (value_of_op o a b) 2
        (goes (operand.Const c) (Some a) (Some b) e k) name touches ready stands
        (subst (λ q. SetsWithin g j (length (op_items x o y (operand.Const c))) registers ram s.answers s.trace x
        (value_of_op o a q) 2) same
        (by_constant_sets g j registers ram s.answers s.trace o x y a c (good_of g.code registers ram s.answers j ready)
        placed (omega arith) fit is))
