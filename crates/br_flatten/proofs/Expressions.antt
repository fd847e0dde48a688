-- The statements of an expression set a name to its word where it has one, and change no other name but the
-- temporaries that were free.
use Rattle.std.proofs.Common.{◌≡◌, ◌≢◌, inl, inr, ℕ, suc, ◌<◌, ◌≤◌, ◌==◌, ◌&&◌, Bool, true, false, if◌then◌else◌, List}
use Rattle.std.proofs.Common.{[], ◌∷◌, ◌++◌, Option, Some, None, refl, sym, ap, subst, ◌∙◌, append_assoc, arith, ℤ, pos}
use Rattle.std.specs.Option.{option_map, option_and_then}
use Rattle.br_words.specs.declared.size.Size.{Size}
use Rattle.br_words.specs.declared.operation.BinOp.{BinOp}
use Rattle.br_words.specs.Size.{size_of}
use Rattle.br_words.specs.Words.{flag, wrapped, value_of_op}
use Rattle.br_bytes.specs.Number.{number_of}
use Rattle.br_bytes.specs.Memory as memory
use Rattle.br_bytes.specs.Memory.{Memory, get_number}
use Rattle.br_bytes.specs.Buffers.{table_number}
use Rattle.br_bytes.specs.Runs.{Goes, with_defined, choose}
use Rattle.br_syntax.specs.declared.program.Expr.{Expr, map-Expr}
use Rattle.br_syntax.specs.declared.program.Expr.TheOpen.{Expr-F}
use Rattle.br_syntax.specs.declared.program.Expr.TheViews.{roll-Expr}
use Rattle.br_syntax.specs.declared.program.Expr.TheFolds.{fold-roll-Expr, ind-Expr}
use Rattle.br_source_meaning.specs.Values as source
use Rattle.br_source_meaning.specs.Values.{Name, value, value_step, both, selected}
use Rattle.br_flatimp.specs.declared.program.Operand.TheVariants as operand
use Rattle.br_flatimp.specs.declared.program.Rel.{Rel}
use Rattle.br_flatimp.specs.declared.program.Cond.TheVariants.{NonZero}
use Rattle.br_flatimp.specs.declared.program.Stmt.{Stmt}
use Rattle.br_flatimp.specs.declared.program.Stmt.TheOpen.{Stmt-F}
use Rattle.br_flatimp.specs.declared.program.Stmt.TheViews.{roll-Stmt}
use Rattle.br_flatimp.specs.Values.{Locals, with_local, moved, compared}
use Rattle.br_flatimp.specs.Matches.{IsSameDefined}
use Rattle.br_flatimp.specs.Runs.{State, Run, Callee, set_to}
use Rattle.br_flatten.specs.Tests.{relation, asks_zero, negation}
use Rattle.br_flatten.specs.Constants.{constant, left_constant, byte_offset}
use Rattle.br_flatten.specs.Scope.{Scope, temporaries, holder}
use Rattle.br_flatten.specs.Flatten.{number, is_listed, lists_step, lists_expression, Flat, place}
use Rattle.br_flatten.specs.Flatten.{next, unless_variable, code, compared_test, itself, with_constant}
use Rattle.br_flatten.specs.Flatten.{by_constants, by_offsets, operation, expression_step, expression}
use Rattle.br_flatten.proofs.Numbers.{and-first, and-second, number-below, with-same}
use Rattle.br_flatten.proofs.Numbers.{with-other, same_bytes, place-moved}
use Rattle.br_flatten.proofs.Holders.{holder-between}
use Rattle.br_flatten.proofs.Turns.{does, does-after, does-one}
use Rattle.br_flatten.proofs.Literals.{stands, exchanged, offset-stands}
use Rattle.br_flatten.proofs.Comparisons.{relation-value, zero_test, Tests, HoldsZero, negation-tests}

-- ---- what holds of an expression

-- each set variable stands in its number's name, and each held literal in its
pub record Holds (scope : Scope) (l : Locals) (m : source.Locals) : Type 0 where
  pub variables : (x : Name) → is_listed scope.names x ≡ true → IsSameDefined (l (number scope.names x)) (m x)
  pub literals : (n y : ℕ) → holder scope n ≡ Some y → l y ≡ Some n

-- a run sets a name to a word, and changes no other name below a number
pub record Sets (f : State → Run) (s : State) (x v free : ℕ) : Type 0 where
  pub locals : Locals
  pub runs : f s ≡ Goes (record s { locals = locals })
  pub value : locals x ≡ Some v
  pub others : (y : ℕ) → y < free → y ≢ x → locals y ≡ s.locals y

-- a run after which a word stands at a place, and which changes no name below a number
pub record Placed (f : State → Run) (s : State) (at v free after : ℕ) : Type 0 where
  pub locals : Locals
  pub runs : f s ≡ Goes (record s { locals = locals })
  pub value : locals at ≡ Some v
  pub others : (y : ℕ) → y < free → locals y ≡ s.locals y
  pub below : at < after
  pub grows : free ≤ after

-- what holds of the statements of a word
pub record Claim (scope : Scope) (call : Callee) (lists : Bool) (flat : Flat)
    (word : source.Locals → Memory → Option ℕ) : Type 0 where
  pub variable : (y : ℕ) → flat.variable ≡ Some y → lists ≡ true → y < temporaries scope
  pub literal : (n : ℕ) → flat.literal ≡ Some n → (m : source.Locals) (k : Memory) → word m k ≡ Some n
  pub variable_word : (y : ℕ) → flat.variable ≡ Some y → lists ≡ true → (s : State) (m : source.Locals) (v : ℕ)
      → Holds scope s.locals m → word m s.memory ≡ Some v → s.locals y ≡ Some v
  pub into : (x free : ℕ) (s : State) (m : source.Locals) (v : ℕ) → lists ≡ true → temporaries scope ≤ free
      → Holds scope s.locals m → word m s.memory ≡ Some v → Sets (does call (flat.into x free)) s x v free

pub holds-kept : (scope : Scope) (l k : Locals) (m : source.Locals) (free : ℕ) → temporaries scope ≤ free
    → ((y : ℕ) → y < free → k y ≡ l y) → Holds scope l m → Holds scope k m
holds-kept scope l k m free le same h = record {
  variables = λ x listed.
      let below = number-below scope.names x listed in
      subst (λ o. IsSameDefined o (m x)) (sym (same (number scope.names x) (omega (arith, below, le))))
      (h.variables x listed);
  literals =
      λ n y e. let below = (holder-between scope n y e).below in same y (omega (arith, below, le)) ∙ h.literals n y e;
}

pub placed : (scope : Scope) (call : Callee) (lists : Bool) (flat : Flat) (word : source.Locals → Memory → Option ℕ)
    → Claim scope call lists flat word
    → (free : ℕ) (s : State) (m : source.Locals) (v : ℕ) → lists ≡ true → temporaries scope ≤ free
    → Holds scope s.locals m → word m s.memory ≡ Some v
    → Placed (does call (code flat free)) s (place flat.variable free) v free (next flat.variable free)
placed scope call lists flat word claim free s m v listed le holds is = by flat.variable refl
  where
    by : (o : Option ℕ) → flat.variable ≡ o
        → Placed (does call (unless_variable o (flat.into free (suc free)))) s (place o free) v free (next o free)
    by (Some y) e =
        let below = claim.variable y e listed in
        record {
          locals = s.locals;
          runs = refl;
          value = claim.variable_word y e listed s m v holds is;
          others = λ y less. refl;
          below = omega (arith, below, le);
          grows = omega arith;
        }
    by None e =
        let sets = claim.into free (suc free) s m v listed (omega (arith, le)) holds is in
        record {
          locals = sets.locals;
          runs = sets.runs;
          value = sets.value;
          others = λ y less.
              sets.others y (omega (arith, less)) (apart y less);
          below = omega arith;
          grows = omega arith;
        }
      where
        apart : (y : ℕ) → y < free → y ≢ free
        apart y less e = absurd (omega (arith, less, e))

-- a last statement that sets the name
sets_last : (f : State → Run) (s : State) (l : Locals) (x v free : ℕ)
    → f s ≡ Goes (set_to x v (record s { locals = l })) → ((y : ℕ) → y < free → l y ≡ s.locals y) → Sets f s x v free
sets_last f s l x v free e same = record {
  locals = with_local x v l;
  runs = e;
  value = with-same x v l;
  others = λ y less ne. with-other x v y l ne ∙ same y less;
}

-- ---- the forms

none_is_not : {A : Type 0} (y : ℕ) → None ≡ Some y → A
none_is_not y e = absurd (cc e)

literal-claim : (scope : Scope) (call : Callee) (n : ℕ)
    → Claim scope call true (expression_step scope (Expr-F.Literal n)) (λ m k. Some n)
literal-claim scope call n = record {
  variable = λ y e listed. (holder-between scope n y e).below;
  literal = λ k e m memory. e;
  variable_word = λ y e listed s m v holds is. holds.literals n y e ∙ is;
  into = λ x free s m v listed le holds is.
      let same : n ≡ v = cc is in
      sets_last (does call (roll-Stmt (Stmt-F.Lit x n) ∷ [])) s s.locals x v free
      (does-one call (Stmt-F.Lit x n) s ∙ ap (λ w. Goes (set_to x w s)) same) (λ y less. refl);
}

there : (a b : Option ℕ) (v : ℕ) → IsSameDefined a b → b ≡ Some v → a ≡ Some v
there a b v (inl none) is = absurd (clash none is)
  where
    clash : b ≡ None → b ≡ Some v → ⊥
    clash e f = absurd (cc (e, f))
there a b v (inr same) is = same ∙ is

variable-claim : (scope : Scope) (call : Callee) (z : Name)
    → Claim scope call (is_listed scope.names z) (expression_step scope (Expr-F.Var z)) (λ m k. m z)
variable-claim scope call z = record {
  variable = λ y e listed. let same : number scope.names z ≡ y = cc e in
      let below = number-below scope.names z listed in omega (arith, same, below);
  literal = λ k e m memory. none_is_not k e;
  variable_word = λ y e listed s m v holds is. let same : number scope.names z ≡ y = cc e in subst
      (λ q. s.locals q ≡ Some v) same (there (s.locals (number scope.names z)) (m z) v (holds.variables z listed) is);
  into = λ x free s m v listed le holds is.
      let word = there (s.locals (number scope.names z)) (m z) v (holds.variables z listed) is in
      sets_last (does call (roll-Stmt (Stmt-F.Copy x (number scope.names z)) ∷ [])) s s.locals x v free
      (does-one call (Stmt-F.Copy x (number scope.names z)) s
      ∙ ap (λ o. with_defined o s (λ w. Goes (set_to x w s))) word) (λ y less. refl);
}

-- a word, and what is made of it
record Then (f : ℕ → Option ℕ) (o : Option ℕ) (v : ℕ) : Type 0 where
  word : ℕ
  first : o ≡ Some word
  second : f word ≡ Some v

then_there : (f : ℕ → Option ℕ) (o : Option ℕ) (v : ℕ) → option_and_then f o ≡ Some v → Then f o v
then_there f None v e = absurd (cc e)
then_there f (Some w) v e = record { word = w; first = refl; second = e }

table-claim : (scope : Scope) (call : Callee) (lists : Bool) (flat : Flat) (word : source.Locals → Memory → Option ℕ)
    → Claim scope call lists flat word → (size : Size) (bytes : List ℕ)
    → Claim scope call lists (expression_step scope (Expr-F.Table size bytes flat))
    (λ m k. option_and_then (λ i. table_number bytes i (size_of size)) (word m k))
table-claim scope call lists flat word claim size bytes = record {
  variable = λ y e listed. none_is_not y e;
  literal = λ k e m memory. none_is_not k e;
  variable_word = λ y e listed. none_is_not y e;
  into = λ x free s m v listed le holds is.
      let two = then_there (λ i. table_number bytes i (size_of size)) (word m s.memory) v is in
      let p = placed scope call lists flat word claim free s m two.word listed le holds two.first in
      let t : State = record s { locals = p.locals } in
      let y : Stmt-F Stmt = Stmt-F.Table x size bytes (place flat.variable free) in
      sets_last (does call (code flat free ++ roll-Stmt y ∷ [])) s p.locals x v free
      (does-after call (code flat free) (roll-Stmt y ∷ []) s t p.runs ∙ does-one call y t
      ∙ ap
      (λ o. with_defined o t (λ i. with_defined (table_number bytes i (size_of size)) t (λ v. Goes (set_to x v t))))
      p.value
      ∙ ap (λ o. with_defined o t (λ v. Goes (set_to x v t))) two.second) p.others;
}

record Both (f : ℕ → ℕ → ℕ) (o p : Option ℕ) (v : ℕ) : Type 0 where
  one : ℕ
  two : ℕ
  first : o ≡ Some one
  second : p ≡ Some two
  made : f one two ≡ v

both_there : (f : ℕ → ℕ → ℕ) (o p : Option ℕ) (v : ℕ) → both f o p ≡ Some v → Both f o p v
both_there f None p v e = absurd (cc e)
both_there f (Some a) None v e = absurd (cc e)
both_there f (Some a) (Some b) v e = record { one = a; two = b; first = refl; second = refl; made = cc e }

-- two operands in turn, whose words an operation makes one word of
record Operands (f : State → Run) (s : State) (made : ℕ → ℕ → ℕ) (first second v free after : ℕ) : Type 0 where
  locals : Locals
  one : ℕ
  two : ℕ
  runs : f s ≡ Goes (record s { locals = locals })
  value : locals first ≡ Some one
  other : locals second ≡ Some two
  is_made : made one two ≡ v
  others : (y : ℕ) → y < free → locals y ≡ s.locals y
  below : first < after
  below' : second < after
  grows : free ≤ after

operands : (scope : Scope) (call : Callee) (lists more : Bool) (one two : Flat) (word other : source.Locals → Memory
    → Option ℕ) → Claim scope call lists one word → Claim scope call more two other → (op : BinOp)
    → (free : ℕ) (s : State) (m : source.Locals) (v : ℕ) → (lists && more) ≡ true → temporaries scope ≤ free
    → Holds scope s.locals m → both (value_of_op op) (word m s.memory) (other m s.memory) ≡ Some v
    → Operands (does call (code one free ++ code two (next one.variable free))) s (value_of_op op) (place one.variable
    free) (place two.variable (next one.variable free)) v free (next two.variable (next one.variable free))
operands scope call lists more one two word other claim claim' op free s m v listed le holds is =
    let w = both_there (value_of_op op) (word m s.memory) (other m s.memory) v is in
    let p = placed scope call lists one word claim free s m w.one (and-first lists more listed) le holds w.first in
    let t : State = record s { locals = p.locals } in
    let grows = p.grows in
    let below = p.below in
    let after = next one.variable free in
    let q = placed scope call more two other claim' after t m w.two (and-second lists more listed)
    (omega (arith, grows, le)) (holds-kept scope s.locals p.locals m free le p.others holds) w.second in
    let grows' = q.grows in
    record {
      locals = q.locals;
      one = w.one;
      two = w.two;
      runs = does-after call (code one free) (code two after) s t p.runs ∙ q.runs;
      value = q.others (place one.variable free) below ∙ p.value;
      other = q.value;
      is_made = w.made;
      others = λ z less. q.others z (omega (arith, less, grows)) ∙ p.others z less;
      below = omega (arith, below, grows');
      below' = q.below;
      grows = omega (arith, grows, grows');
    }

-- an operand in turn, and an operation on it and a constant
constant-sets : (scope : Scope) (call : Callee) (lists : Bool) (one : Flat) (word : source.Locals → Memory → Option ℕ)
    → Claim scope call lists one word → (op : BinOp) (c : ℤ)
    → (x free : ℕ) (s : State) (m : source.Locals) (a v : ℕ) → lists ≡ true → temporaries scope ≤ free
    → Holds scope s.locals m → word m s.memory ≡ Some a → value_of_op op a (wrapped c) ≡ v
    → Sets (does call (with_constant op one c x free)) s x v free
constant-sets scope call lists one word claim op c x free s m a v listed le holds is made =
    let p = placed scope call lists one word claim free s m a listed le holds is in
    let u : State = record s { locals = p.locals } in
    let y : Stmt-F Stmt = Stmt-F.Op x op (place one.variable free) (operand.Const c) in
    sets_last (does call (code one free ++ roll-Stmt y ∷ [])) s p.locals x v free
    (does-after call (code one free) (roll-Stmt y ∷ []) s u p.runs ∙ does-one call y u
    ∙ ap (λ o. with_defined o u (λ a. Goes (set_to x (value_of_op op a (wrapped c)) u))) p.value
    ∙ ap (λ r. Goes (set_to x r u)) made)
    p.others

some_same : (a b : ℕ) → Some a ≡ Some b → a ≡ b
some_same a b e = cc e

op-claim : (scope : Scope) (call : Callee) (lists more : Bool) (one two : Flat) (word other : source.Locals → Memory
    → Option ℕ) → Claim scope call lists one word → Claim scope call more two other → (op : BinOp)
    → Claim scope call (lists && more) (expression_step scope (Expr-F.Op op one two))
    (λ m k. both (value_of_op op) (word m k) (other m k))
op-claim scope call lists more one two word other claim claim' op = record {
  variable = λ y e listed. none_is_not y e;
  literal = λ k e m memory. none_is_not k e;
  variable_word = λ y e listed. none_is_not y e;
  into = by (constant op two.literal) (left_constant op one.literal) refl refl;
}
  where
    by : (c d : Option ℤ) → constant op two.literal ≡ c → left_constant op one.literal ≡ d
        → (x free : ℕ) (s : State) (m : source.Locals) (v : ℕ) → (lists && more) ≡ true → temporaries scope ≤ free
        → Holds scope s.locals m → both (value_of_op op) (word m s.memory) (other m s.memory) ≡ Some v
        → Sets (does call (by_constants c d op one two x free)) s x v free
    by (Some c) d e f x free s m v listed le holds is =
        let w = both_there (value_of_op op) (word m s.memory) (other m s.memory) v is in
        let z = stands op two.literal c e in
        let same : w.two ≡ z.word = some_same w.two z.word (sym w.second ∙ claim'.literal z.word z.is m s.memory) in
        constant-sets scope call lists one word claim op c x free s m w.one v (and-first lists more listed) le holds
        w.first (ap (value_of_op op w.one) (z.same ∙ sym same) ∙ w.made)
    by None (Some d) e f x free s m v listed le holds is =
        let w = both_there (value_of_op op) (word m s.memory) (other m s.memory) v is in
        let y = exchanged op one.literal d f in
        let z = y.stands in
        let same : w.one ≡ z.word = some_same w.one z.word (sym w.first ∙ claim.literal z.word z.is m s.memory) in
        constant-sets scope call more two other claim' op d x free s m w.two v (and-second lists more listed) le
        holds w.second
        (y.exchanges w.two (wrapped d) ∙ ap (λ q. value_of_op op q w.two) (z.same ∙ sym same) ∙ w.made)
    by None None e f x free s m v listed le holds is =
        let p = operands scope call lists more one two word other claim claim' op free s m v listed le holds is in
        let u : State = record s { locals = p.locals } in
        let after = next one.variable free in
        let first = place one.variable free in
        let second = place two.variable after in
        let y : Stmt-F Stmt = Stmt-F.Op x op first (operand.Name second) in
        sets_last (does call (code one free ++ (code two after ++ roll-Stmt y ∷ []))) s p.locals x v free
        (ap (λ body. does call body s) (sym (append_assoc (code one free) (code two after) (roll-Stmt y ∷ [])))
        ∙ does-after call (code one free ++ code two after) (roll-Stmt y ∷ []) s u p.runs ∙ does-one call y u
        ∙ ap (λ o. with_defined o u
        (λ a. with_defined (p.locals second) u (λ b. Goes (set_to x (value_of_op op a b) u)))) p.value
        ∙ ap (λ o. with_defined o u (λ b. Goes (set_to x (value_of_op op p.one b) u))) p.other
        ∙ ap (λ r. Goes (set_to x r u)) p.is_made)
        p.others

-- ---- tests and addresses

-- a run after which a word stands at a place, and an address is that word with a byte offset
pub record Addressed (f : State → Run) (s : State) (at : ℕ) (offset : ℤ) (v free after : ℕ) : Type 0 where
  pub locals : Locals
  pub word : ℕ
  pub runs : f s ≡ Goes (record s { locals = locals })
  pub value : locals at ≡ Some word
  pub same : memory.place (moved word offset) ≡ memory.place v
  pub others : (y : ℕ) → y < free → locals y ≡ s.locals y
  pub below : at < after
  pub grows : free ≤ after

-- what holds of the statements of a word, of its test and of the bytes at it
pub record Claims (scope : Scope) (call : Callee) (lists : Bool) (flat : Flat)
    (word : source.Locals → Memory → Option ℕ) : Type 0 where
  pub words : Claim scope call lists flat word
  pub tests : (free : ℕ) (s : State) (m : source.Locals) (v : ℕ) → lists ≡ true → temporaries scope ≤ free
      → Holds scope s.locals m → word m s.memory ≡ Some v
      → Tests (does call (flat.test free).before) s (flat.test free).cond v free (flat.test free).next
  pub addresses : (free : ℕ) (s : State) (m : source.Locals) (v : ℕ) → lists ≡ true → temporaries scope ≤ free
      → Holds scope s.locals m → word m s.memory ≡ Some v
      → Addressed (does call (flat.address free).before) s (flat.address free).at (flat.address free).offset v free
      (flat.address free).next

word-tests : (scope : Scope) (call : Callee) (lists : Bool) (flat : Flat) (word : source.Locals → Memory → Option ℕ)
    → Claim scope call lists flat word
    → (free : ℕ) (s : State) (m : source.Locals) (v : ℕ) → lists ≡ true → temporaries scope ≤ free
    → Holds scope s.locals m → word m s.memory ≡ Some v
    → Tests (does call (code flat free)) s (NonZero (place flat.variable free)) v free (next flat.variable free)
word-tests scope call lists flat word claim free s m v listed le holds is =
    let p = placed scope call lists flat word claim free s m v listed le holds is in
    let below = p.below in
    record {
      locals = p.locals;
      runs = p.runs;
      word = p.value;
      others = p.others;
      below = omega (arith, below);
      grows = p.grows;
    }

word-addressed : (scope : Scope) (call : Callee) (lists : Bool) (flat : Flat) (word : source.Locals → Memory → Option ℕ)
    → Claim scope call lists flat word
    → (free : ℕ) (s : State) (m : source.Locals) (v : ℕ) → lists ≡ true → temporaries scope ≤ free
    → Holds scope s.locals m → word m s.memory ≡ Some v
    → Addressed (does call (code flat free)) s (place flat.variable free) (pos 0) v free (next flat.variable free)
word-addressed scope call lists flat word claim free s m v listed le holds is =
    let p = placed scope call lists flat word claim free s m v listed le holds is in
    record {
      locals = p.locals;
      word = v;
      runs = p.runs;
      value = p.value;
      same = place-moved v;
      others = p.others;
      below = p.below;
      grows = p.grows;
    }

itself-claims : (scope : Scope) (call : Callee) (lists : Bool) (variable literal : Option ℕ) (into : ℕ → ℕ → List Stmt)
    (word : source.Locals → Memory → Option ℕ)
    → Claim scope call lists (itself variable literal into) word
    → Claims scope call lists (itself variable literal into) word
itself-claims scope call lists variable literal into word claim =
    let flat = itself variable literal into in
    record {
      words = claim;
      tests =
          λ free s m v listed le holds is. word-tests scope call lists flat word claim free s m v listed le holds is;
      addresses = λ free s m v listed le holds is.
          word-addressed scope call lists flat word claim free s m v listed le holds is;
    }

load-claim : (scope : Scope) (call : Callee) (lists : Bool) (flat : Flat) (word : source.Locals → Memory → Option ℕ)
    → Claims scope call lists flat word → (size : Size)
    → Claim scope call lists (expression_step scope (Expr-F.Load size flat))
    (λ m k. option_and_then (λ a. get_number k a (size_of size)) (word m k))
load-claim scope call lists flat word claim size = record {
  variable = λ y e listed. none_is_not y e;
  literal = λ k e m memory. none_is_not k e;
  variable_word = λ y e listed. none_is_not y e;
  into = λ x free s m v listed le holds is.
      let two = then_there (λ a. get_number s.memory a (size_of size)) (word m s.memory) v is in
      let a = flat.address free in
      let p = claim.addresses free s m two.word listed le holds two.first in
      let t : State = record s { locals = p.locals } in
      let y : Stmt-F Stmt = Stmt-F.Load x size a.at a.offset in
      sets_last (does call (a.before ++ roll-Stmt y ∷ [])) s p.locals x v free
      (does-after call a.before (roll-Stmt y ∷ []) s t p.runs ∙ does-one call y t
      ∙ ap (λ o. with_defined o t (λ b.
      with_defined (get_number t.memory (moved b a.offset) (size_of size)) t (λ v. Goes (set_to x v t)))) p.value
      ∙ ap (λ o. with_defined (option_map number_of o) t (λ v. Goes (set_to x v t)))
      (same_bytes s.memory (size_of size) (moved p.word a.offset) two.word p.same)
      ∙ ap (λ o. with_defined o t (λ v. Goes (set_to x v t))) two.second) p.others;
}

op-claims : (scope : Scope) (call : Callee) (lists more : Bool) (one two : Flat) (word other : source.Locals → Memory
    → Option ℕ) → Claims scope call lists one word → Claims scope call more two other → (op : BinOp)
    → Claims scope call (lists && more) (expression_step scope (Expr-F.Op op one two))
    (λ m k. both (value_of_op op) (word m k) (other m k))
op-claims scope call lists more one two word other claim claim' op = record {
  words = whole;
  tests = by (asks_zero op two.literal) refl (relation op) refl;
  addresses = at (byte_offset op two.literal) refl (byte_offset op one.literal) refl;
}
  where
    whole : Claim scope call (lists && more) (expression_step scope (Expr-F.Op op one two))
        (λ m k. both (value_of_op op) (word m k) (other m k))
    whole = op-claim scope call lists more one two word other claim.words claim'.words op

    at : (c : Option ℤ) → byte_offset op two.literal ≡ c → (d : Option ℤ) → byte_offset op one.literal ≡ d
        → (free : ℕ) (s : State) (m : source.Locals) (v : ℕ) → (lists && more) ≡ true → temporaries scope ≤ free
        → Holds scope s.locals m → both (value_of_op op) (word m s.memory) (other m s.memory) ≡ Some v
        → Addressed (does call (by_offsets c d (operation op one two) one two free).before) s
        (by_offsets c d (operation op one two) one two free).at
        (by_offsets c d (operation op one two) one two free).offset v free
        (by_offsets c d (operation op one two) one two free).next
    at (Some c) e d f free s m v listed le holds is =
        let w = both_there (value_of_op op) (word m s.memory) (other m s.memory) v is in
        let z = offset-stands op two.literal c e in
        let same : w.two ≡ z.word =
        some_same w.two z.word (sym w.second ∙ claim'.words.literal z.word z.is m s.memory) in
        let p = placed scope call lists one word claim.words free s m w.one (and-first lists more listed) le
        holds w.first in
        record {
          locals = p.locals;
          word = w.one;
          runs = p.runs;
          value = p.value;
          same = ap memory.place (z.moves w.one ∙ ap (value_of_op op w.one) (sym same) ∙ w.made);
          others = p.others;
          below = p.below;
          grows = p.grows;
        }
    at None e (Some d) f free s m v listed le holds is =
        let w = both_there (value_of_op op) (word m s.memory) (other m s.memory) v is in
        let z = offset-stands op one.literal d f in
        let same : w.one ≡ z.word = some_same w.one z.word (sym w.first ∙ claim.words.literal z.word z.is m s.memory) in
        let p = placed scope call more two other claim'.words free s m w.two (and-second lists more listed) le
        holds w.second in
        record {
          locals = p.locals;
          word = w.two;
          runs = p.runs;
          value = p.value;
          same = ap memory.place
              (z.moves w.two ∙ z.exchanges w.two z.word ∙ ap (λ q. value_of_op op q w.two) (sym same) ∙ w.made);
          others = p.others;
          below = p.below;
          grows = p.grows;
        }
    at None e None f free s m v listed le holds is =
        word-addressed scope call (lists && more) (expression_step scope (Expr-F.Op op one two))
        (λ m k. both (value_of_op op) (word m k) (other m k)) whole free s m v listed le holds is

    by : (b : Bool) → asks_zero op two.literal ≡ b → (o : Option Rel) → relation op ≡ o
        → (free : ℕ) (s : State) (m : source.Locals) (v : ℕ) → (lists && more) ≡ true → temporaries scope ≤ free
        → Holds scope s.locals m → both (value_of_op op) (word m s.memory) (other m s.memory) ≡ Some v
        → Tests (does call (if b then negation two.variable (one.test free)
        else compared_test o (operation op one two) one two free).before) s
        (if b then negation two.variable (one.test free) else compared_test o (operation op one two) one two free).cond
        v free
        (if b then negation two.variable (one.test free) else compared_test o (operation op one two) one two free).next
    by true asks o e free s m v listed le holds is =
        let w = both_there (value_of_op op) (word m s.memory) (other m s.memory) v is in
        let z = zero_test op two.literal asks in
        let t = one.test free in
        let d = claim.tests free s m w.one (and-first lists more listed) le holds w.first in
        let zero : w.two ≡ 0 = some_same w.two 0 (sym w.second ∙ claim'.words.literal 0 z.literal m s.memory) in
        let same : flag (w.one == 0) ≡ v = z.value w.one ∙ ap (value_of_op op w.one) (sym zero) ∙ w.made in
        let held : (y : ℕ) → two.variable ≡ Some y → HoldsZero s free y =
        λ y e. let below = claim'.words.variable y e (and-second lists more listed) in
        record {
          word = claim'.words.variable_word y e (and-second lists more listed) s m 0 holds (claim'.words.literal
              0 z.literal m s.memory);
          below = omega (arith, below, le);
        } in
        subst (λ u. Tests (does call (negation two.variable t).before) s (negation two.variable t).cond u free
        (negation two.variable t).next) same
        (negation-tests call s t two.variable w.one free held d)
    by false asks None e free s m v listed le holds is =
        word-tests scope call (lists && more) (expression_step scope (Expr-F.Op op one two))
        (λ m k. both (value_of_op op) (word m k) (other m k)) whole free s m v listed le holds is
    by false asks (Some r) e free s m v listed le holds is =
        let p = operands scope call lists more one two word other claim.words claim'.words op free s m v listed
        le holds is in
        let below = p.below in
        let below' = p.below' in
        let second = place two.variable (next one.variable free) in
        record {
          locals = p.locals;
          runs = p.runs;
          word = ap (λ o. compared r o (p.locals second)) p.value ∙ ap (compared r (Some p.one)) p.other
              ∙ ap Some (relation-value op r e p.one p.two ∙ p.is_made);
          others = p.others;
          below = omega (arith, below, below');
          grows = p.grows;
        }

record Chosen (o a b : Option ℕ) (v : ℕ) : Type 0 where
  test : ℕ
  first : o ≡ Some test
  part : (if test == 0 then b else a) ≡ Some v

chosen : (o a b : Option ℕ) (v : ℕ) → selected o a b ≡ Some v → Chosen o a b v
chosen None a b v e = absurd (cc e)
chosen (Some w) a b v e = record { test = w; first = refl; part = e }

ite-claim : (scope : Scope) (call : Callee) (tests lists more : Bool)
    (test one two : Flat) (asked word other : source.Locals → Memory → Option ℕ) → Claims scope call tests test asked
    → Claim scope call lists one word → Claim scope call more two other
    → Claim scope call (tests && (lists && more)) (expression_step scope (Expr-F.Ite test one two))
    (λ m k. selected (asked m k) (word m k) (other m k))
ite-claim scope call tests lists more test one two asked word other claim claim1 claim2 = record {
  variable = λ y e listed. none_is_not y e;
  literal = λ k e m memory. none_is_not k e;
  variable_word = λ y e listed. none_is_not y e;
  into = λ x free s m v listed le holds is.
      let w = chosen (asked m s.memory) (word m s.memory) (other m s.memory) v is in
      let rest = and-second tests (lists && more) listed in
      let t = test.test free in
      let p = claim.tests free s m w.test (and-first tests (lists && more) listed) le holds w.first in
      let u : State = record s { locals = p.locals } in
      let y : Stmt-F Stmt = Stmt-F.If t.cond (one.into x free) (two.into x free) in
      let kept = holds-kept scope s.locals p.locals m free le p.others holds in
      let runs = does-after call t.before (roll-Stmt y ∷ []) s u p.runs ∙ does-one call y u
      ∙ ap
      (λ o. with_defined o u (λ v. choose (v == 0) (does call (two.into x free) u) (does call (one.into x free) u)))
      p.word in
      by x free s v p.locals p.others (does call (t.before ++ roll-Stmt y ∷ [])) (does call (one.into x free))
      (does call (two.into x free)) (w.test == 0) (word m s.memory) (other m s.memory) runs w.part
      (λ e. claim1.into x free u m v (and-first lists more rest) le kept e)
      (λ e. claim2.into x free u m v (and-second lists more rest) le kept e);
}
  where
    lifted : (x free : ℕ) (s : State) (v : ℕ) (l : Locals) → ((y : ℕ) → y < free → l y ≡ s.locals y) → (f g : State
        → Run) → f s ≡ g (record s { locals = l }) → Sets g (record s { locals = l }) x v free → Sets f s x v free
    lifted x free s v l same f g e sets = record {
      locals = sets.locals;
      runs = e ∙ sets.runs;
      value = sets.value;
      others = λ y less ne. sets.others y less ne ∙ same y less;
    }

    by : (x free : ℕ) (s : State) (v : ℕ) (l : Locals) → ((y : ℕ) → y < free → l y ≡ s.locals y)
        → (f g h : State → Run) (c : Bool) (a b : Option ℕ)
        → f s ≡ choose c (h (record s { locals = l })) (g (record s { locals = l })) → (if c then b else a) ≡ Some v
        → (a ≡ Some v → Sets g (record s { locals = l }) x v free)
        → (b ≡ Some v → Sets h (record s { locals = l }) x v free) → Sets f s x v free
    by x free s v l same f g h true a b e is first second = lifted x free s v l same f h e (second is)
    by x free s v l same f g h false a b e is first second = lifted x free s v l same f g e (first is)

-- ---- every expression

abbrev pub ExpressionClaim : Scope → Callee → Expr → Type 0
ExpressionClaim scope call e =
    Claims scope call (lists_expression scope.names e) (expression scope e) (λ m k. value m k e)

abbrev Known : Scope → Callee → Type 0
Known scope call = (e : Expr) × ExpressionClaim scope call e

abbrev LayerClaim : Scope → Callee → Expr-F Expr → Type 0
LayerClaim scope call y =
    Claims scope call (lists_step scope.names (map-Expr Expr Bool (lists_expression scope.names) y))
    (expression_step scope (map-Expr Expr Flat (expression scope) y))
    (λ m k. value_step m k (map-Expr Expr (Option ℕ) (value m k) y))

layer : (scope : Scope) (call : Callee) (y : Expr-F (Known scope call))
    → LayerClaim scope call (map-Expr (Known scope call) Expr (λ e. e.0) y)
layer scope call (Expr-F.Literal n) = itself-claims scope call true (holder scope n) (Some n)
    (λ x free. roll-Stmt (Stmt-F.Lit x n) ∷ []) (λ m k. Some n) (literal-claim scope call n)
layer scope call (Expr-F.Var x) = itself-claims scope call (is_listed scope.names x) (Some (number scope.names x)) None
    (λ z free. roll-Stmt (Stmt-F.Copy z (number scope.names x)) ∷ []) (λ m k. m x) (variable-claim scope call x)
layer scope call (Expr-F.Load size a) =
    let flat = expression_step scope (Expr-F.Load size (expression scope a.0)) in
    itself-claims scope call (lists_expression scope.names a.0) None None flat.into
    (λ m k. option_and_then (λ a. get_number k a (size_of size)) (value m k a.0))
    (load-claim scope call (lists_expression scope.names a.0) (expression scope a.0) (λ m k. value m k a.0) a.1 size)
layer scope call (Expr-F.Table size bytes i) =
    let flat = expression_step scope (Expr-F.Table size bytes (expression scope i.0)) in
    itself-claims scope call (lists_expression scope.names i.0) None None flat.into
    (λ m k. option_and_then (λ i. table_number bytes i (size_of size)) (value m k i.0))
    (table-claim scope call (lists_expression scope.names i.0) (expression scope i.0) (λ m k. value m k i.0)
    i.1.words size bytes)
layer scope call (Expr-F.Op op a b) =
    op-claims scope call (lists_expression scope.names a.0) (lists_expression scope.names b.0) (expression scope a.0)
    (expression scope b.0) (λ m k. value m k a.0) (λ m k. value m k b.0) a.1 b.1 op
layer scope call (Expr-F.Ite c a b) =
    let flat = expression_step scope
    (Expr-F.Ite (expression scope c.0) (expression scope a.0) (expression scope b.0)) in
    itself-claims scope call
    (lists_expression scope.names c.0 && (lists_expression scope.names a.0 && lists_expression scope.names b.0))
    None None flat.into (λ m k. selected (value m k c.0) (value m k a.0) (value m k b.0))
    (ite-claim scope call (lists_expression scope.names c.0) (lists_expression scope.names a.0)
    (lists_expression scope.names b.0) (expression scope c.0) (expression scope a.0) (expression scope b.0)
    (λ m k. value m k c.0) (λ m k. value m k a.0) (λ m k. value m k b.0) c.1 a.1.words b.1.words)

pub expression_claim : (scope : Scope) (call : Callee) (e : Expr) → ExpressionClaim scope call e
expression_claim scope call = ind-Expr (ExpressionClaim scope call) (λ x y is.
    let step = subst (LayerClaim scope call) is (layer scope call y) in
    let lists = fold-roll-Expr Bool (lists_step scope.names) x in
    let flat = fold-roll-Expr Flat (expression_step scope) x in
    let words : (λ m k. value m k (roll-Expr x)) ≡ (λ m k. value_step m k (map-Expr Expr (Option ℕ) (value m k) x)) =
    λ i m k. fold-roll-Expr (Option ℕ) (value_step m k) x i in
    let one = subst (λ b. Claims scope call b (expression_step scope (map-Expr Expr Flat (expression scope) x))
    (λ m k. value_step m k (map-Expr Expr (Option ℕ) (value m k) x))) (sym lists) step in
    let two = subst (λ f. Claims scope call (lists_expression scope.names (roll-Expr x)) f
    (λ m k. value_step m k (map-Expr Expr (Option ℕ) (value m k) x))) (sym flat) one in
    subst (λ w. Claims scope call (lists_expression scope.names (roll-Expr x)) (expression scope (roll-Expr x)) w)
    (sym words) two)
