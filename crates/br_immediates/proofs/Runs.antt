-- Statements with constants run as those that they come from, where the known literals hold.
use Rattle.std.proofs.Common.{◌≡◌, ℕ, zero, suc, ◌-◌, ◌%◌, ◌^◌, ◌<◌, ◌==◌, ◌&&◌, ◌||◌, Bool, true}
use Rattle.std.proofs.Common.{false, if◌then◌else◌, List, [], ◌∷◌, map, Option, Some, None, inl}
use Rattle.std.proofs.Common.{inr, pos, negsuc, nat_lt, refl, sym, ap, subst, ◌∙◌, arith, slice_get}
use mathlib.Core.Path.{fun_ext}
use Rattle.std.specs.FinMap as map
use Rattle.std.specs.Bool.{⊤}
use Rattle.std.specs.List.{list_all}
use Rattle.std.proofs.lemmas.Bool.Decides.{nat_tests}
use Rattle.br_words.specs.Words.{signed, wrapped, value_of_op}
use Rattle.br_words.specs.Size.{size_of}
use Rattle.br_words.specs.declared.operation.BinOp.{BinOp}
use Rattle.br_words.specs.Device.{is_device_word}
use Rattle.br_bytes.specs.declared.run.Choice.{Choice}
use Rattle.br_bytes.specs.declared.run.Event.TheVariants.{Read, Write}
use Rattle.br_bytes.specs.Memory.{Memory, get_number, put_number}
use Rattle.br_bytes.specs.Buffers.{table_number}
use Rattle.br_bytes.specs.Called.{Called}
use Rattle.br_bytes.specs.Runs as runs
use Rattle.br_bytes.specs.Runs.{Goes, Ends, Undefined, then_do, in_turn, with_defined, choose}
use Rattle.br_bytes.specs.Runs.{with_buffer, loop, read_device, write_device, happens, returned, seen}
use Rattle.br_flatimp.specs.declared.program.Operand.{Operand}
use Rattle.br_flatimp.specs.declared.program.Operand.TheVariants as operand
use Rattle.br_flatimp.specs.declared.program.Stmt.{Stmt, map-Stmt}
use Rattle.br_flatimp.specs.declared.program.Stmt.TheOpen.{Stmt-F}
use Rattle.br_flatimp.specs.declared.program.Stmt.TheViews.{roll-Stmt}
use Rattle.br_flatimp.specs.declared.program.Stmt.TheFolds.{fold-roll-Stmt, ind-Stmt}
use Rattle.br_flatimp.specs.declared.program.FlatFunc.{FlatFunc}
use Rattle.br_flatimp.specs.Parts.{parts, throughout}
use Rattle.br_flatimp.specs.Values.{Locals, no_locals, with_local, with_locals}
use Rattle.br_flatimp.specs.Values.{words_of, operand_word, moved, test_word}
use Rattle.br_flatimp.specs.WellFormed.{fits_operation}
use Rattle.br_flatimp.specs.Runs.{State, Run, Callee, Forgets, forgets_none, set_to, statement_step}
use Rattle.br_flatimp.specs.Runs.{run, run_all, run_function, enter, function_of, begin}
use Rattle.br_flatimp.specs.Matches.{IsSameDefined}
use Rattle.br_flatimp.specs.Refines.{Refines, signature, meaning}
use Rattle.br_immediates.specs.Immediates.{Literals, no_literals, literals_after, operand_of, with_constant}
use Rattle.br_immediates.specs.Immediates.{made_all, turn, with_constants, function_with_constants}
use Rattle.br_immediates.specs.Immediates.{program_with_constants, is_word, literal_fits, function_literals_fit}
use Rattle.br_immediates.proofs.Turns.{layer, turn-roll, fold-made}

-- ---- what is known

-- each known name has its word, which is one
record Holds (known : Literals) (locals : Locals) : Type 0 where
  same : (x : ℕ) → IsSameDefined (locals x) (known x)
  words : (x : ℕ) → is_word (known x) ≡ true

holds-none : (locals : Locals) → Holds no_literals locals
holds-none locals = record { same = λ x. inl refl; words = λ x. refl }

-- a name gets a word, and from a literal it is known
holds-write : (known : Literals) (locals : Locals) (x v : ℕ) (o : Option ℕ) → IsSameDefined (Some v) o
    → is_word o ≡ true → Holds known locals
    → Holds (λ z. if (x == z) || false then o else known z) (with_local x v locals)
holds-write known locals x v o is word h = record { same = λ z. by z (x == z) refl; words = λ z. fit z (x == z) refl }
  where
    by : (z : ℕ) (b : Bool) → (x == z) ≡ b → IsSameDefined (with_local x v locals z)
        (if (x == z) || false then o else known z)
    by z true e =
        let f : (z == x) ≡ true = grind (arith, nat_tests) in
        rw (e, f) is
    by z false e =
        let f : (z == x) ≡ false = grind (arith, nat_tests) in
        rw (e, f) (h.same z)

    fit : (z : ℕ) (b : Bool) → (x == z) ≡ b → is_word (if (x == z) || false then o else known z) ≡ true
    fit z true e = rw e word
    fit z false e = rw e (h.words z)

holds-unknown : (known : Literals) (locals : Locals) (x v : ℕ) → Holds known locals
    → Holds (λ z. if (x == z) || false then None else known z) (with_local x v locals)
holds-unknown known locals x v h = holds-write known locals x v None (inl refl) refl h

-- ---- states that a run goes on in

-- a run goes on in a state of a kind, or has ended
abbrev Leaves : (State → Type 0) → Run → Type 0
Leaves P (Goes t) = P t
Leaves P (Ends end t) = ⊤

leaves-any : (P : State → Type 0) → ((t : State) → P t) → (r : Run) → Leaves P r
leaves-any P all (Goes t) = all t
leaves-any P all (Ends end t) = tt

leaves-defined : {X : Type 0} (P : State → Type 0) (o : Option X) (s : State) (f : X → Run) → ((x : X) → Leaves P (f x))
    → Leaves P (with_defined o s f)
leaves-defined P None s f h = tt
leaves-defined P (Some x) s f h = h x

leaves-choose : (P : State → Type 0) (b : Bool) (q r : Run) → Leaves P q → Leaves P r → Leaves P (choose b q r)
leaves-choose P true q r h k = h
leaves-choose P false q r h k = k

leaves-read : (P : State → Type 0) (a : ℕ) (keep : ℕ → Locals → Locals) (vs : List ℕ) (s : State)
    → ((v : ℕ) (rest : List ℕ) → P (happens (Read a v) (record s { locals = keep v s.locals; answers = rest })))
    → Leaves P (read_device keep a (record s { answers = vs }))
leaves-read P a keep [] s h =
    leaves-choose P (is_device_word a) (Ends (runs.Waiting a) (record s { answers = [] }))
    (Ends Undefined (record s { answers = [] })) tt tt
leaves-read P a keep (v ∷ vs) s h =
    leaves-choose P (is_device_word a) (Goes (happens (Read a v) (record s { locals = keep v s.locals; answers = vs })))
    (Ends Undefined (record s { answers = v ∷ vs })) (h v vs) tt

then_do-same : (P : State → Type 0) (r : Run) (f g : State → Run) → Leaves P r → ((t : State) → P t → f t ≡ g t)
    → then_do r f ≡ then_do r g
then_do-same P (Goes t) f g h same = same t h
then_do-same P (Ends end t) f g h same = refl

-- after a statement what is known then holds
abbrev Knows : Literals → State → Type 0
Knows known t = Holds known t.locals

leaves-known : (forgets : Forgets) (call : Callee) (known : Literals) (y : Stmt-F (State → Run)) (s : State)
    → Holds known s.locals → literal_fits y ≡ true
    → Leaves (Knows (literals_after y known)) (statement_step forgets call y s)
leaves-known forgets call known (Stmt-F.Lit x n) s h fit = holds-write known s.locals x n (Some n) (inr refl) fit h
leaves-known forgets call known (Stmt-F.Copy x y) s h fit =
    leaves-defined (Knows (literals_after {X = State → Run} (Stmt-F.Copy x y) known)) (s.locals y) s
    (λ v. Goes (set_to x v s)) (λ v. holds-unknown known s.locals x v h)
leaves-known forgets call known (Stmt-F.Op x op y z) s h fit =
    let P = Knows (literals_after {X = State → Run} (Stmt-F.Op x op y z) known) in
    leaves-defined P (s.locals y) s (λ a. with_defined (operand_word z s.locals) s
    (λ b. Goes (set_to x (value_of_op op a b) s))) (λ a.
    leaves-defined P (operand_word z s.locals) s (λ b. Goes (set_to x (value_of_op op a b) s))
    (λ b. holds-unknown known s.locals x (value_of_op op a b) h))
leaves-known forgets call known (Stmt-F.Load x size y offset) s h fit =
    let P = Knows (literals_after {X = State → Run} (Stmt-F.Load x size y offset) known) in
    leaves-defined P (s.locals y) s (λ a. with_defined (get_number s.memory (moved a offset) (size_of size)) s
    (λ v. Goes (set_to x v s))) (λ a.
    leaves-defined P (get_number s.memory (moved a offset) (size_of size)) s (λ v. Goes (set_to x v s))
    (λ v. holds-unknown known s.locals x v h))
leaves-known forgets call known (Stmt-F.Store size y z offset) s h fit =
    let P = Knows (literals_after {X = State → Run} (Stmt-F.Store size y z offset) known) in
    leaves-defined P (s.locals y) s (λ a. with_defined (s.locals z) s
    (λ v. with_defined (put_number s.memory (moved a offset) (size_of size) v) s
    (λ m. Goes (record s { memory = m })))) (λ a.
    leaves-defined P (s.locals z) s (λ v. with_defined (put_number s.memory (moved a offset) (size_of size) v) s
    (λ m. Goes (record s { memory = m }))) (λ v.
    leaves-defined P (put_number s.memory (moved a offset) (size_of size) v) s (λ m. Goes (record s { memory = m }))
    (λ m. h)))
leaves-known forgets call known (Stmt-F.Table x size bytes y) s h fit =
    let P = Knows (literals_after {X = State → Run} (Stmt-F.Table x size bytes y) known) in
    leaves-defined P (s.locals y) s (λ i. with_defined (table_number bytes i (size_of size)) s
    (λ v. Goes (set_to x v s))) (λ i.
    leaves-defined P (table_number bytes i (size_of size)) s (λ v. Goes (set_to x v s))
    (λ v. holds-unknown known s.locals x v h))
leaves-known forgets call known (Stmt-F.Read x y) s h fit =
    let P = Knows (literals_after {X = State → Run} (Stmt-F.Read x y) known) in
    leaves-defined P (s.locals y) s (λ a. read_device (with_local x) a s) (λ a.
    leaves-read P a (with_local x) s.answers s (λ v rest. holds-unknown known s.locals x v h))
leaves-known forgets call known (Stmt-F.Write y z) s h fit =
    let P = Knows (literals_after {X = State → Run} (Stmt-F.Write y z) known) in
    leaves-defined P (s.locals y) s (λ a. with_defined (s.locals z) s (λ v. write_device a v s)) (λ a.
    leaves-defined P (s.locals z) s (λ v. write_device a v s) (λ v.
    leaves-choose P (is_device_word a) (Goes (happens (Write a v) s)) (Ends Undefined s) h tt))
leaves-known forgets call known (Stmt-F.Stackalloc x n body) s h fit =
    leaves-any (Knows no_literals) (λ t. holds-none t.locals)
    (statement_step forgets call (Stmt-F.Stackalloc x n body) s)
leaves-known forgets call known (Stmt-F.If test first second) s h fit =
    leaves-any (Knows no_literals) (λ t. holds-none t.locals)
    (statement_step forgets call (Stmt-F.If test first second) s)
leaves-known forgets call known (Stmt-F.Loop first test last) s h fit =
    leaves-any (Knows no_literals) (λ t. holds-none t.locals)
    (statement_step forgets call (Stmt-F.Loop first test last) s)
leaves-known forgets call known (Stmt-F.Call xs g ys) s h fit =
    leaves-any (Knows no_literals) (λ t. holds-none t.locals) (statement_step forgets call (Stmt-F.Call xs g ys) s)

-- ---- operands

back : (n : ℕ) → nat_lt n (2 ^ 32) ≡ true → wrapped (signed n) ≡ n
back n less = by (nat_lt n (2 ^ 31)) refl
  where
    below : n < 2 ^ 32
    below = grind (arith, nat_tests)

    by : (b : Bool) → nat_lt n (2 ^ 31) ≡ b → wrapped (if b then pos n else negsuc (2 ^ 32 - 1 - n)) ≡ n
    by true e = whole n below
      where
        whole : (n : ℕ) → n < 2 ^ 32 → n % 2 ^ 32 ≡ n
        whole n less = omega (arith, less)
    by false e = turned n below
      where
        turned : (n : ℕ) → n < 2 ^ 32 → 2 ^ 32 - 1 - (2 ^ 32 - 1 - n) % 2 ^ 32 ≡ n
        turned n less = omega (arith, less)

-- a known word as a constant, or the name
name-same : (op : BinOp) (y : ℕ) (locals : Locals) (o : Option ℕ) → IsSameDefined (locals y) o → is_word o ≡ true
    → operand_word (operand_of op y o) locals ≡ locals y
name-same op y locals None is word = refl
name-same op y locals (Some n) (inl none) word = absurd (cc none)
name-same op y locals (Some n) (inr is) word = by (fits_operation op (signed n))
  where
    by : (b : Bool) → operand_word (if b then operand.Const (signed n) else operand.Name y) locals ≡ locals y
    by true = ap Some (back n word) ∙ sym is
    by false = refl

constant-same : (op : BinOp) (known : Literals) (locals : Locals) (z : Operand) → Holds known locals
    → operand_word (with_constant op known z) locals ≡ operand_word z locals
constant-same op known locals (operand.Name y) h = name-same op y locals (known y) (h.same y) (h.words y)
constant-same op known locals (operand.Const c) h = refl

-- ---- statements

pub and-first : (a b : Bool) → (a && b) ≡ true → a ≡ true
and-first true b e = refl
and-first false b e = absurd (cc e)

pub and-second : (a b : Bool) → (a && b) ≡ true → b ≡ true
and-second true b e = e
and-second false b e = absurd (cc e)

abbrev fits_throughout : Stmt → Bool
fits_throughout = throughout literal_fits

record SameRun (forgets : Forgets) (call : Callee) (c : Stmt) : Type 0 where
  same : (known : Literals) (s : State) → Holds known s.locals → fits_throughout c ≡ true
      → run forgets call ((turn c).made known) s ≡ run forgets call c s
  leaves : (known : Literals) (s : State) → Holds known s.locals → fits_throughout c ≡ true
      → Leaves (Knows ((turn c).after known)) (run forgets call c s)

abbrev Each : Forgets → Callee → Type 0
Each forgets call = (c : Stmt) × SameRun forgets call c

abbrev stmts : (forgets : Forgets) (call : Callee) → List (Each forgets call) → List Stmt
stmts forgets call cs = map (λ e. e.0) cs

all-same : (forgets : Forgets) (call : Callee) (known : Literals) (cs : List (Each forgets call)) (s : State)
    → Holds known s.locals → list_all (λ ok. ok) (map fits_throughout (stmts forgets call cs)) ≡ true
    → in_turn (map (run forgets call) (made_all known (map turn (stmts forgets call cs)))) s ≡ in_turn
    (map (run forgets call) (stmts forgets call cs)) s
all-same forgets call known [] s h fit = refl
all-same forgets call known (e ∷ cs) s h fit =
    let next : Literals = (turn e.0).after known in
    let one : fits_throughout e.0 ≡ true =
    and-first (fits_throughout e.0) (list_all (λ ok. ok) (map fits_throughout (stmts forgets call cs))) fit in
    let rest = and-second (fits_throughout e.0) (list_all (λ ok. ok) (map fits_throughout (stmts forgets call cs)))
    fit in
    let made : State → Run = in_turn (map (run forgets call) (made_all next (map turn (stmts forgets call cs)))) in
    ap (λ r. then_do r made) (e.1.same known s h one)
    ∙ then_do-same (Knows next) (run forgets call e.0 s) made (in_turn (map (run forgets call) (stmts forgets call cs)))
    (e.1.leaves known s h one)
    (λ t k. all-same forgets call next cs t k rest)

-- a part, in which nothing is known at first
part-same : (forgets : Forgets) (call : Callee) (cs : List (Each forgets call))
    → list_all (λ ok. ok) (map fits_throughout (stmts forgets call cs)) ≡ true
    → in_turn (map (run forgets call) (made_all no_literals (map turn (stmts forgets call cs)))) ≡ in_turn
    (map (run forgets call) (stmts forgets call cs))
part-same forgets call cs fit = fun_ext (λ s. all-same forgets call no_literals cs s (holds-none s.locals) fit)

abbrev opened : (forgets : Forgets) (call : Callee) → Stmt-F (Each forgets call) → Stmt-F Stmt
opened forgets call y = map-Stmt (Each forgets call) Stmt (λ e. e.0) y

abbrev fits_step : Stmt-F Bool → Bool
fits_step y = literal_fits y && list_all (list_all (λ ok. ok)) (parts y)

abbrev StepSame : Forgets → Callee → Literals → State → Stmt-F Stmt → Type 0
StepSame forgets call known s z =
    fits_step (map-Stmt Stmt Bool fits_throughout z) ≡ true
    → statement_step forgets call (map-Stmt Stmt (State → Run) (run forgets call) (layer known z)) s ≡ statement_step
    forgets call (map-Stmt Stmt (State → Run) (run forgets call) z) s

step-same : (forgets : Forgets) (call : Callee) (known : Literals) (y : Stmt-F (Each forgets call)) (s : State)
    → Holds known s.locals → StepSame forgets call known s (opened forgets call y)
step-same forgets call known (Stmt-F.Lit x n) s h fit = refl
step-same forgets call known (Stmt-F.Copy x y) s h fit = refl
step-same forgets call known (Stmt-F.Op x op y z) s h fit =
    ap (λ o. with_defined (s.locals y) s (λ a. with_defined o s (λ b. Goes (set_to x (value_of_op op a b) s))))
    (constant-same op known s.locals z h)
step-same forgets call known (Stmt-F.Load x size y offset) s h fit = refl
step-same forgets call known (Stmt-F.Store size y z offset) s h fit = refl
step-same forgets call known (Stmt-F.Table x size bytes y) s h fit = refl
step-same forgets call known (Stmt-F.Stackalloc x n body) s h fit =
    let ok = list_all (λ ok. ok) (map fits_throughout (stmts forgets call body)) in
    ap (λ f. with_buffer (with_local x) n f s) (part-same forgets call body (and-first ok true fit))
step-same forgets call known (Stmt-F.If test first second) s h fit =
    let one = list_all (λ ok. ok) (map fits_throughout (stmts forgets call first)) in
    let two = list_all (λ ok. ok) (map fits_throughout (stmts forgets call second)) in
    let made : State → Run =
    in_turn (map (run forgets call) (made_all no_literals (map turn (stmts forgets call second)))) in
    let was : State → Run = in_turn (map (run forgets call) (stmts forgets call first)) in
    ap (λ f. with_defined (test_word test s.locals) s (λ v. choose (v == 0) (made s) (f s)))
    (part-same forgets call first (and-first one (two && true) fit))
    ∙ ap (λ f. with_defined (test_word test s.locals) s (λ v. choose (v == 0) (f s) (was s)))
    (part-same forgets call second (and-first two true (and-second one (two && true) fit)))
step-same forgets call known (Stmt-F.Loop first test last) s h fit =
    let one = list_all (λ ok. ok) (map fits_throughout (stmts forgets call first)) in
    let two = list_all (λ ok. ok) (map fits_throughout (stmts forgets call last)) in
    let made : State → Run =
    in_turn (map (run forgets call) (made_all no_literals (map turn (stmts forgets call last)))) in
    let was : State → Run = in_turn (map (run forgets call) (stmts forgets call first)) in
    ap (λ f. then_do (f s) (λ t. loop t.fuel (λ u. test_word test u.locals) (λ u. then_do (made u) f) t))
    (part-same forgets call first (and-first one (two && true) fit))
    ∙ ap (λ f. then_do (was s) (λ t. loop t.fuel (λ u. test_word test u.locals) (λ u. then_do (f u) was) t))
    (part-same forgets call last (and-first two true (and-second one (two && true) fit)))
step-same forgets call known (Stmt-F.Call xs g ys) s h fit = refl
step-same forgets call known (Stmt-F.Read x y) s h fit = refl
step-same forgets call known (Stmt-F.Write y z) s h fit = refl

-- what a statement changes and whether its literal is a word do not depend on its parts
after-map : {X Y : Type 0} (f : X → Y) (known : Literals) (y : Stmt-F X)
    → literals_after (map-Stmt X Y f y) known ≡ literals_after y known
after-map f known (Stmt-F.Lit x n) = refl
after-map f known (Stmt-F.Copy x y) = refl
after-map f known (Stmt-F.Op x op y z) = refl
after-map f known (Stmt-F.Load x size y offset) = refl
after-map f known (Stmt-F.Store size y z offset) = refl
after-map f known (Stmt-F.Table x size bytes y) = refl
after-map f known (Stmt-F.Stackalloc x n body) = refl
after-map f known (Stmt-F.If test first second) = refl
after-map f known (Stmt-F.Loop first test last) = refl
after-map f known (Stmt-F.Call xs g ys) = refl
after-map f known (Stmt-F.Read x y) = refl
after-map f known (Stmt-F.Write y z) = refl

fits-map : {X Y : Type 0} (f : X → Y) (y : Stmt-F X) → literal_fits (map-Stmt X Y f y) ≡ literal_fits y
fits-map f (Stmt-F.Lit x n) = refl
fits-map f (Stmt-F.Copy x y) = refl
fits-map f (Stmt-F.Op x op y z) = refl
fits-map f (Stmt-F.Load x size y offset) = refl
fits-map f (Stmt-F.Store size y z offset) = refl
fits-map f (Stmt-F.Table x size bytes y) = refl
fits-map f (Stmt-F.Stackalloc x n body) = refl
fits-map f (Stmt-F.If test first second) = refl
fits-map f (Stmt-F.Loop first test last) = refl
fits-map f (Stmt-F.Call xs g ys) = refl
fits-map f (Stmt-F.Read x y) = refl
fits-map f (Stmt-F.Write y z) = refl

roll-leaves : (forgets : Forgets) (call : Callee) (x : Stmt-F Stmt) (known : Literals) (s : State)
    → Holds known s.locals → fits_throughout (roll-Stmt x) ≡ true
    → Leaves (Knows ((turn (roll-Stmt x)).after known)) (run forgets call (roll-Stmt x) s)
roll-leaves forgets call x known s h fit =
    let bools = map-Stmt Stmt Bool fits_throughout x in
    let ran = map-Stmt Stmt (State → Run) (run forgets call) x in
    let own : literal_fits x ≡ true =
    sym (fits-map fits_throughout x) ∙ and-first (literal_fits bools) (list_all (list_all (λ ok. ok)) (parts bools))
    (sym (fold-roll-Stmt Bool fits_step x) ∙ fit) in
    let known_is : literals_after ran known ≡ (turn (roll-Stmt x)).after known =
    after-map (run forgets call) known x ∙ sym (after-map turn known x)
    ∙ sym (ap (λ t. t.after known) (turn-roll x)) in
    let start = leaves-known forgets call known ran s h (fits-map (run forgets call) x ∙ own) in
    subst (λ k. Leaves (Knows k) (run forgets call (roll-Stmt x) s)) known_is
    (subst (λ f. Leaves (Knows (literals_after ran known)) (f s))
    (sym (fold-roll-Stmt (State → Run) (statement_step forgets call) x)) start)

statement-same : (forgets : Forgets) (call : Callee) (c : Stmt) → SameRun forgets call c
statement-same forgets call = ind-Stmt (SameRun forgets call) (λ x y is. record {
  same = λ known s h fit.
      ap (λ f. f s) (fold-made (statement_step forgets call) known x)
      ∙ subst (StepSame forgets call known s) is (step-same forgets call known y s h)
      (sym (fold-roll-Stmt Bool fits_step x) ∙ fit)
      ∙ sym (ap (λ f. f s) (fold-roll-Stmt (State → Run) (statement_step forgets call) x));
  leaves = roll-leaves forgets call x;
})

body-same : (forgets : Forgets) (call : Callee) (known : Literals) (cs : List Stmt) (s : State) → Holds known s.locals
    → list_all fits_throughout cs ≡ true → run_all forgets call (with_constants known cs) s ≡ run_all forgets call cs s
body-same forgets call known [] s h fit = refl
body-same forgets call known (c ∷ cs) s h fit =
    let next : Literals = (turn c).after known in
    let one = and-first (fits_throughout c) (list_all fits_throughout cs) fit in
    let rest = and-second (fits_throughout c) (list_all fits_throughout cs) fit in
    let it = statement-same forgets call c in
    ap (λ r. then_do r (run_all forgets call (with_constants next cs))) (it.same known s h one)
    ∙ then_do-same (Knows next) (run forgets call c s) (run_all forgets call (with_constants next cs))
    (run_all forgets call cs) (it.leaves known s h one)
    (λ t k. body-same forgets call next cs t k rest)

-- ---- functions and programs

function-same : (forgets : Forgets) (call : Callee) (f : FlatFunc) → function_literals_fit f ≡ true
    → (args : List ℕ) (s : State) → run_function forgets call (function_with_constants f) args s ≡ run_function forgets
    call f args s
function-same forgets call f fit args s =
    let t : State = record s { locals = with_locals f.args args no_locals } in
    ap (returned (words_of f.results)) (body-same forgets call no_literals f.body t (holds-none t.locals) fit)

enter-same : (forgets : Forgets) (call : Callee) (fs : List FlatFunc) → list_all function_literals_fit fs ≡ true
    → (g : ℕ) (args : List ℕ) (s : State) → enter forgets call (slice_get (program_with_constants fs) g) args s ≡ enter
    forgets call (slice_get fs g) args s
enter-same forgets call [] fit g args s = refl
enter-same forgets call (f ∷ fs) fit zero args s =
    function-same forgets call f (and-first (function_literals_fit f) (list_all function_literals_fit fs) fit) args s
enter-same forgets call (f ∷ fs) fit (suc g) args s =
    enter-same forgets call fs (and-second (function_literals_fit f) (list_all function_literals_fit fs) fit) g args s

callees-same : (forgets : Forgets) (fs : List FlatFunc) → list_all function_literals_fit fs ≡ true → (depth : ℕ)
    → function_of forgets (program_with_constants fs) depth ≡ function_of forgets fs depth
callees-same forgets fs fit zero = refl
callees-same forgets fs fit (suc depth) = fun_ext (λ g. fun_ext (λ args. fun_ext (λ s.
    ap (λ call. enter forgets call (slice_get (program_with_constants fs) g) args s) (callees-same forgets fs fit depth)
    ∙ enter-same forgets (function_of forgets fs depth) fs fit g args s)))

signatures-same : (fs : List FlatFunc) → map signature (program_with_constants fs) ≡ map signature fs
signatures-same [] = refl
signatures-same (f ∷ fs) = ap (λ ss. signature f ∷ ss) (signatures-same fs)

call-same : (fs : List FlatFunc) → list_all function_literals_fit fs ≡ true
    → (g : ℕ) (args : List ℕ) (m : Memory) (answers : List ℕ) (choices : List Choice) (fuel : ℕ)
    → (meaning (program_with_constants fs)).call g args m answers choices fuel ≡ (meaning fs).call g args m answers
    choices fuel
call-same fs fit g args m answers choices fuel =
    let start : State = begin m answers choices fuel in
    ap seen (ap (λ call. enter forgets_none call (slice_get (program_with_constants fs) g) args start)
    (callees-same forgets_none fs fit fuel)
    ∙ enter-same forgets_none (function_of forgets_none fs fuel) fs fit g args start)

pub program-refines : (fs : List FlatFunc) → list_all function_literals_fit fs ≡ true
    → Refines (meaning (program_with_constants fs)) (meaning fs)
program-refines fs fit = record {
  same = signatures-same fs;
  calls = λ g args m answers choices fuel is good has.
      let same = call-same fs fit g args m answers choices fuel in (
        choices,
        good,
        inr (
          ap (λ (c : Called). c.outcome) same,
          ap (λ (c : Called). c.trace) same,
          (λ a low high. ap (λ (c : Called). map.get c.memory a) same),
        ),
      );
}
