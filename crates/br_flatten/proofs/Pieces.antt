-- Pieces of commands in flat statements: operands in turn, devices, variables that are set, and loops.
use Rattle.std.proofs.Common.{◌≡◌, ◌≢◌, inl, inr, ℕ, zero, suc, ◌<◌, ◌≤◌, ◌==◌, Bool, true, false, if◌then◌else◌, List}
use Rattle.std.proofs.Common.{[], ◌∷◌, ◌++◌, map, length, Option, Some, None, refl, sym, ap, subst, ◌∙◌, arith, codes}
use Rattle.std.specs.Option.{option_map, option_and_then}
use Rattle.std.specs.Str.{bytes_eq}
use Rattle.std.proofs.lemmas.Slice.Eq.{bytes_eq-Decides}
use Rattle.br_bytes.specs.declared.run.Event.TheVariants.{Read, Write}
use Rattle.br_bytes.specs.Number.{low_bytes}
use Rattle.br_bytes.specs.Memory as memory
use Rattle.br_bytes.specs.Memory.{Memory, in_front, bytes_at, put_number, with_bytes}
use Rattle.br_bytes.specs.Runs.{OutOfFuel, Undefined, Goes, Ends, then_do, with_defined}
use Rattle.br_bytes.specs.Runs.{choose, with_fuel, loop, read_device, write_device}
use Rattle.br_syntax.specs.declared.program.Expr.{Expr}
use Rattle.br_source_meaning.specs.Values as source
use Rattle.br_source_meaning.specs.Values.{Name, value, values, without_local}
use Rattle.br_source_meaning.specs.Runs as src
use Rattle.br_source_meaning.specs.Runs.{read_by, write_by, interact}
use Rattle.br_flatimp.specs.declared.program.Stmt.TheOpen.{Stmt-F}
use Rattle.br_flatimp.specs.Values.{Locals, with_local, with_locals, words_of}
use Rattle.br_flatimp.specs.Matches.{SameOutside, Beside, Matches, IsSameDefined}
use Rattle.br_flatimp.specs.Runs.{State, Run, Callee}
use Rattle.br_flatimp.proofs.Matches.{matches-undefined, matches-then_do, matches-choose}
use Rattle.br_flatimp.proofs.Matches.{matches-with_fuel, matches-read_device, matches-write_device}
use Rattle.br_flatten.specs.Scope.{Scope, temporaries}
use Rattle.br_flatten.specs.Flatten.{number, is_listed, lists_names, lists_expression}
use Rattle.br_flatten.specs.Flatten.{lists_expressions, place, next, code, codes_of, places_of}
use Rattle.br_flatten.specs.Flatten.{read_statements, write_statements, device_statements, expression}
use Rattle.br_flatten.proofs.Numbers.{and-first, and-second, number-below, number-same}
use Rattle.br_flatten.proofs.Numbers.{with-same, with-other, same_bytes, same_written}
use Rattle.br_flatten.proofs.Holders.{holder-between}
use Rattle.br_flatten.proofs.Turns.{does, does-after, does-one}
use Rattle.br_flatten.proofs.Expressions.{Holds, holds-kept, placed, expression_claim}

-- a flat state and a state of the source: each set variable stands in its number's name
abbrev pub At : Scope → State → src.State → Type 0
At scope = Beside (Holds scope)

abbrev pub Out : State → src.State → Type 0
Out = SameOutside

abbrev pub AtMatches : Scope → Run → src.Run → Type 0
AtMatches scope = Matches (At scope) Out

pub at-locals : (scope : Scope) (s : State) (t : src.State) (l : Locals) (m : source.Locals) → Holds scope l m
    → SameOutside s t → At scope (record s { locals = l }) (record t { locals = m })
at-locals scope s t l m holds h = record {
  locals = holds;
  outside = record { memory = h.memory; trace = h.trace; answers = h.answers; choices = h.choices; fuel = h.fuel };
}

-- what the second run finds there may be taken as there
pub matches-source : {X : Type 0} (scope : Scope) (q : Run) (o : Option X) (t : src.State) (g : X → src.Run)
    → ((x : X) → o ≡ Some x → AtMatches scope q (g x)) → AtMatches scope q (with_defined o t g)
matches-source scope q None t g next = matches-undefined (At scope) Out q t
matches-source scope q (Some x) t g next = next x refl

pub matches-from : (scope : Scope) (q r : Run) (p : src.Run) → q ≡ r → AtMatches scope r p → AtMatches scope q p
matches-from scope q r p e h = subst (λ x. AtMatches scope x p) (sym e) h

-- ---- variables that are set

pub holds-changed : (scope : Scope) (l k : Locals) (m : source.Locals) (x : Name) (v : ℕ)
    → is_listed scope.names x ≡ true → k (number scope.names x) ≡ Some v
    → ((y : ℕ) → y < temporaries scope → y ≢ number scope.names x → k y ≡ l y) → Holds scope l m
    → Holds scope k (source.with_local x v m)
holds-changed scope l k m x v listed here same h = record {
  variables = λ z listed'. by z listed' (bytes_eq z x) refl;
  literals = λ n y e.
      let at = holder-between scope n y e in
      same y at.below (beyond y at.above) ∙ h.literals n y e;
}
  where
    beyond : (y : ℕ) → length scope.names ≤ y → y ≢ number scope.names x
    beyond y above e = let below = number-below scope.names x listed in absurd (omega (arith, above, below, e))

    apart : (z : Name) → is_listed scope.names z ≡ true → bytes_eq z x ≡ false
        → number scope.names z ≢ number scope.names x
    apart z listed' differ e = let equal = (bytes_eq-Decides z x).1 (number-same scope.names z x listed' e) in
        absurd (clash equal differ)
      where
        clash : bytes_eq z x ≡ true → bytes_eq z x ≡ false → ⊥
        clash e f = absurd (cc (e, f))

    by : (z : Name) → is_listed scope.names z ≡ true → (b : Bool) → bytes_eq z x ≡ b
        → IsSameDefined (k (number scope.names z)) (if b then Some v else m z)
    by z listed' true e = inr (ap (λ q. k (number scope.names q)) ((bytes_eq-Decides z x).0 e) ∙ here)
    by z listed' false e =
        let below = number-below scope.names z listed' in
        subst (λ o. IsSameDefined o (m z))
        (sym (same (number scope.names z) (omega (arith, below)) (apart z listed' e))) (h.variables z listed')

pub holds-set : (scope : Scope) (l : Locals) (m : source.Locals) (x : Name) (v : ℕ) → is_listed scope.names x ≡ true
    → Holds scope l m → Holds scope (with_local (number scope.names x) v l) (source.with_local x v m)
holds-set scope l m x v listed h =
    holds-changed scope l (with_local (number scope.names x) v l) m x v listed (with-same (number scope.names x) v l)
    (λ y less ne. with-other (number scope.names x) v y l ne) h

pub holds-unset : (scope : Scope) (l : Locals) (m : source.Locals) (x : Name) → Holds scope l m
    → Holds scope l (without_local x m)
holds-unset scope l m x h = record { variables = λ z listed. by z listed (bytes_eq z x); literals = h.literals }
  where
    by : (z : Name) → is_listed scope.names z ≡ true → (b : Bool)
        → IsSameDefined (l (number scope.names z)) (if b then None else m z)
    by z listed true = inl refl
    by z listed false = h.variables z listed

pub holds-set_all : (scope : Scope) (xs : List Name) (vs : List ℕ) (l : Locals) (m : source.Locals)
    → lists_names scope.names xs ≡ true → length vs ≡ length xs → Holds scope l m
    → Holds scope (with_locals (map (number scope.names) xs) vs l) (src.with_locals xs vs m)
holds-set_all scope [] vs l m listed size h = h
holds-set_all scope (x ∷ xs) [] l m listed size h = absurd (omega (arith, size))
holds-set_all scope (x ∷ xs) (v ∷ vs) l m listed size h =
    let same : length vs ≡ length xs = omega (arith, size) in
    let first = and-first (is_listed scope.names x) (lists_names scope.names xs) listed in
    holds-set_all scope xs vs (with_local (number scope.names x) v l) (source.with_local x v m) (and-second
    (is_listed scope.names x) (lists_names scope.names xs) listed) same (holds-set scope l m x v first h)

-- ---- bytes in memory

pub put-same : (m : Memory) (a b n v : ℕ) → memory.place a ≡ memory.place b → put_number m a n v ≡ put_number m b n v
put-same m a b n v same =
    ap (option_map (λ _. with_bytes m a (low_bytes n v))) (same_bytes m n a b same)
    ∙ ap (λ k. option_map (λ _. k) (bytes_at m b n)) (same_written m (low_bytes n v) a b same)

-- ---- operands in turn

record Then {X Y : Type 0} (f : X → Option Y) (o : Option X) (v : Y) : Type 0 where
  word : X
  first : o ≡ Some word
  second : f word ≡ Some v

then_there : {X Y : Type 0} (f : X → Option Y) (o : Option X) (v : Y) → option_and_then f o ≡ Some v → Then f o v
then_there f None v e = absurd (cc e)
then_there f (Some w) v e = record { word = w; first = refl; second = e }

pub record AllPlaced (f : State → Run) (s : State) (places vs : List ℕ) (free : ℕ) : Type 0 where
  pub locals : Locals
  pub runs : f s ≡ Goes (record s { locals = locals })
  pub words : words_of places locals ≡ Some vs
  pub others : (y : ℕ) → y < free → locals y ≡ s.locals y

pub all_placed : (scope : Scope) (call : Callee) (es : List Expr) (free : ℕ) (s : State) (m : source.Locals)
    (vs : List ℕ) → lists_expressions scope.names es ≡ true → temporaries scope ≤ free → Holds scope s.locals m
    → values m s.memory es ≡ Some vs
    → AllPlaced (does call (codes_of (map (expression scope) es) free)) s
    (places_of (map (expression scope) es) free) vs free
all_placed scope call [] free s m vs listed le holds is =
    record { locals = s.locals; runs = refl; words = is; others = λ y less. refl }
all_placed scope call (e ∷ es) free s m vs listed le holds is =
    let one = then_there (λ v. option_and_then (λ vs. Some (v ∷ vs)) (values m s.memory es))
    (value m s.memory e) vs is in
    let two = then_there (λ vs. Some (one.word ∷ vs)) (values m s.memory es) vs one.second in
    let p = placed scope call (lists_expression scope.names e)
    (expression scope e) (λ m k. value m k e) (expression_claim scope call e).words free s m one.word
    (and-first (lists_expression scope.names e) (lists_expressions scope.names es) listed) le holds one.first in
    let t : State = record s { locals = p.locals } in
    let grows = p.grows in
    let first = place ((expression scope e).variable) free in
    let after = next ((expression scope e).variable) free in
    let q = all_placed scope call es
    after t m two.word (and-second (lists_expression scope.names e) (lists_expressions scope.names es) listed)
    (omega (arith, grows, le)) (holds-kept scope s.locals p.locals m free le p.others holds) two.first in
    record {
      locals = q.locals;
      runs = does-after call (code (expression scope e) free) (codes_of (map (expression scope) es) after) s t p.runs
          ∙ q.runs;
      words = ap (λ o. in_front o (words_of (places_of (map (expression scope) es) after) q.locals))
          (q.others first p.below ∙ p.value) ∙ ap (in_front (Some one.word)) q.words ∙ two.second;
      others = λ y less. q.others y (omega (arith, less, grows)) ∙ p.others y less;
    }

pub length-values : (m : source.Locals) (k : Memory) (es : List Expr) (vs : List ℕ) → values m k es ≡ Some vs
    → length vs ≡ length es
length-values m k [] vs is = let same : [] ≡ vs = cc is in ap length (sym same)
length-values m k (e ∷ es) vs is =
    let one = then_there (λ v. option_and_then (λ vs. Some (v ∷ vs)) (values m k es)) (value m k e) vs is in
    let two = then_there (λ vs. Some (one.word ∷ vs)) (values m k es) vs one.second in
    let same : one.word ∷ two.word ≡ vs = some_same (one.word ∷ two.word) vs two.second in
    ap length (sym same) ∙ ap suc (length-values m k es two.word two.first)
  where
    some_same : (a b : List ℕ) → Some a ≡ Some b → a ≡ b
    some_same a b e = cc e

-- ---- devices

record OneWord (places : List ℕ) (l : Locals) (a : ℕ) : Type 0 where
  at : ℕ
  is : places ≡ at ∷ []
  word : l at ≡ Some a

front_none : (o : Option ℕ) (vs : List ℕ) → in_front o None ≡ Some vs → ⊥
front_none None vs e = absurd (cc e)
front_none (Some v) vs e = absurd (cc e)

record Front (o : Option ℕ) (p : Option (List ℕ)) (v : ℕ) (vs : List ℕ) : Type 0 where
  first : o ≡ Some v
  rest : p ≡ Some vs

front : (o : Option ℕ) (p : Option (List ℕ)) (v : ℕ) (vs : List ℕ) → in_front o p ≡ Some (v ∷ vs) → Front o p v vs
front None p v vs e = absurd (cc e)
front (Some w) None v vs e = absurd (cc e)
front (Some w) (Some ws) v vs e = let a : w ≡ v = cc e in let b : ws ≡ vs = cc e in
    record { first = ap Some a; rest = ap Some b }

front_some : (o : Option ℕ) (p : Option (List ℕ)) → in_front o p ≡ Some [] → ⊥
front_some None p e = absurd (cc e)
front_some (Some w) None e = absurd (cc e)
front_some (Some w) (Some ws) e = absurd (cc e)

no_words : (places : List ℕ) (l : Locals) → words_of places l ≡ Some [] → places ≡ []
no_words [] l e = refl
no_words (y ∷ ys) l e = absurd (front_some (l y) (words_of ys l) e)

one_word : (places : List ℕ) (l : Locals) (a : ℕ) → words_of places l ≡ Some (a ∷ []) → OneWord places l a
one_word [] l a e = absurd (cc e)
one_word (y ∷ ys) l a e =
    let f = front (l y) (words_of ys l) a [] e in
    record { at = y; is = ap (λ q. y ∷ q) (no_words ys l f.rest); word = f.first }

record TwoWords (places : List ℕ) (l : Locals) (a b : ℕ) : Type 0 where
  at : ℕ
  other : ℕ
  is : places ≡ at ∷ other ∷ []
  word : l at ≡ Some a
  second : l other ≡ Some b

two_words : (places : List ℕ) (l : Locals) (a b : ℕ) → words_of places l ≡ Some (a ∷ b ∷ []) → TwoWords places l a b
two_words [] l a b e = absurd (cc e)
two_words (y ∷ ys) l a b e =
    let f = front (l y) (words_of ys l) a (b ∷ []) e in
    let r = one_word ys l b f.rest in
    record { at = y; other = r.at; is = ap (λ q. y ∷ q) r.is; word = f.first; second = r.word }

read-matches : (scope : Scope) (call : Callee) (xs : List Name) (places vs : List ℕ) (s : State) (t : src.State)
    → lists_names scope.names xs ≡ true → words_of places s.locals ≡ Some vs → At scope s t
    → AtMatches scope (does call (read_statements (map (number scope.names) xs) places) s) (read_by xs vs t)
read-matches scope call [] places vs s t listed is h =
    matches-undefined (At scope) Out (does call (read_statements [] places) s) t
read-matches scope call (x ∷ []) places [] s t listed is h =
    matches-undefined (At scope) Out (does call (read_statements (number scope.names x ∷ []) places) s) t
read-matches scope call (x ∷ []) places (a ∷ b ∷ vs) s t listed is h =
    matches-undefined (At scope) Out (does call (read_statements (number scope.names x ∷ []) places) s) t
read-matches scope call (x ∷ y ∷ xs) places vs s t listed is h =
    matches-undefined (At scope) Out (does call (read_statements (map (number scope.names) (x ∷ y ∷ xs)) places) s) t
read-matches scope call (x ∷ []) places (a ∷ []) s t listed is h =
    let w = one_word places s.locals a is in
    matches-from scope (does call (read_statements (number scope.names x ∷ []) places) s)
    (read_device (with_local (number scope.names x)) a s) (read_device (source.with_local x) a t)
    (ap (λ q. does call (read_statements (number scope.names x ∷ []) q) s) w.is
    ∙ does-one call (Stmt-F.Read (number scope.names x) w.at) s
    ∙ ap (λ o. with_defined o s (λ a. read_device (with_local (number scope.names x)) a s)) w.word)
    (matches-read_device (At scope) Out a (with_local (number scope.names x)) (source.with_local x) s t
    h.outside.answers h.outside (λ v rest is. record {
      locals = holds-set scope s.locals t.locals x v (and-first (is_listed scope.names x) true listed) h.locals;
      outside = record {
        memory = h.outside.memory;
        trace = ap (λ e. e ++ Read a v ∷ []) h.outside.trace;
        answers = refl;
        choices = h.outside.choices;
        fuel = h.outside.fuel;
      };
    }))

write-matches : (scope : Scope) (call : Callee) (xs : List Name) (places vs : List ℕ) (s : State) (t : src.State)
    → words_of places s.locals ≡ Some vs → At scope s t
    → AtMatches scope (does call (write_statements (map (number scope.names) xs) places) s) (write_by xs vs t)
write-matches scope call (x ∷ xs) places vs s t is h =
    matches-undefined (At scope) Out (does call (write_statements (map (number scope.names) (x ∷ xs)) places) s) t
write-matches scope call [] places [] s t is h =
    matches-undefined (At scope) Out (does call (write_statements [] places) s) t
write-matches scope call [] places (a ∷ []) s t is h =
    matches-undefined (At scope) Out (does call (write_statements [] places) s) t
write-matches scope call [] places (a ∷ v ∷ w ∷ vs) s t is h =
    matches-undefined (At scope) Out (does call (write_statements [] places) s) t
write-matches scope call [] places (a ∷ v ∷ []) s t is h =
    let w = two_words places s.locals a v is in
    matches-from scope (does call (write_statements [] places) s) (write_device a v s) (write_device a v t)
    (ap (λ q. does call (write_statements [] q) s) w.is ∙ does-one call (Stmt-F.Write w.at w.other) s
    ∙ ap (λ o. with_defined o s (λ a. with_defined (s.locals w.other) s (λ v. write_device a v s))) w.word
    ∙ ap (λ o. with_defined o s (λ v. write_device a v s)) w.second)
    (matches-write_device (At scope) Out a v s t (record {
      locals = h.locals;
      outside = record {
        memory = h.outside.memory;
        trace = ap (λ e. e ++ Write a v ∷ []) h.outside.trace;
        answers = h.outside.answers;
        choices = h.outside.choices;
        fuel = h.outside.fuel;
      };
    }))

pub device-matches : (scope : Scope) (call : Callee) (xs : List Name) (action : Name) (places vs : List ℕ) (s : State)
    (t : src.State) → lists_names scope.names xs ≡ true → words_of places s.locals ≡ Some vs → At scope s t
    → AtMatches scope (does call (device_statements action (map (number scope.names) xs) places) s)
    (interact xs action vs t)
device-matches scope call xs action places vs s t listed is h =
    by (bytes_eq action (codes "MMIOREAD")) (bytes_eq action (codes "MMIOWRITE"))
    (read-matches scope call xs places vs s t listed is h) (write-matches scope call xs places vs s t is h)
  where
    by : (b c : Bool)
        → AtMatches scope (does call (read_statements (map (number scope.names) xs) places) s) (read_by xs vs t)
        → AtMatches scope (does call (write_statements (map (number scope.names) xs) places) s) (write_by xs vs t)
        → AtMatches scope (does call (if b then read_statements (map (number scope.names) xs) places
        else write_statements (map (number scope.names) xs) places) s)
        (choose b (read_by xs vs t) (choose c (write_by xs vs t) (Ends Undefined t)))
    by true c read write = read
    by false true read write = write
    by false false read write =
        matches-undefined (At scope) Out (does call (write_statements (map (number scope.names) xs) places) s) t

-- ---- loops

-- a relation of the states of a loop, which have all but their variables in common
pub record Relates (related : State → src.State → Type 0) : Type 0 where
  pub outside : (s : State) (t : src.State) → related s t → Out s t
  pub spent : (s : State) (t : src.State) (k : ℕ) → related s t
      → related (record s { fuel = k }) (record t { fuel = k })

-- the statements of a test, from related states where it has a word
pub record Tested (related : State → src.State → Type 0) (first : State → Run) (test : State → Option ℕ) (s : State)
    (t : src.State) (v : ℕ) : Type 0 where
  pub after : State
  pub runs : first s ≡ Goes after
  pub word : test after ≡ Some v
  pub stays : related after t
  pub fuel : after.fuel ≡ s.fuel

then-again : (r : Run) (f g : State → Run) → then_do (then_do r f) g ≡ then_do r (λ u. then_do (f u) g)
then-again (Goes s) f g = refl
then-again (Ends end s) f g = refl

pub at-relates : (scope : Scope) → Relates (At scope)
at-relates scope = record {
  outside = λ s t h. h.outside;
  spent = λ s t k h. record {
    locals = h.locals;
    outside = record {
      memory = h.outside.memory;
      trace = h.outside.trace;
      answers = h.outside.answers;
      choices = h.outside.choices;
      fuel = refl;
    };
  };
}

abbrev Found : (State → src.State → Type 0) → Run → src.Run → Type 0
Found related = Matches related Out

found-source : {X : Type 0} (related : State → src.State → Type 0) (q : Run) (o : Option X) (t : src.State) (g : X
    → src.Run) → ((x : X) → o ≡ Some x → Found related q (g x)) → Found related q (with_defined o t g)
found-source related q None t g next = matches-undefined related Out q t
found-source related q (Some x) t g next = next x refl

pub found-from : (related : State → src.State → Type 0) (q r : Run) (p : src.Run) → q ≡ r → Matches related Out r p
    → Matches related Out q p
found-from related q r p e h = subst (λ x. Matches related Out x p) (sym e) h

pub loop-matches : (related : State → src.State → Type 0) → Relates related
    → (first last : State → Run) (test : State → Option ℕ) (val : src.State → Option ℕ) (body : src.State → src.Run)
    → ((s : State) (t : src.State) (v : ℕ) → related s t → val t ≡ Some v → Tested related first test s t v)
    → ((s : State) (t : src.State) → related s t → Matches related Out (last s) (body t))
    → (bound : ℕ) (s : State) (t : src.State) → related s t
    → Matches related Out (then_do (first s) (loop bound test (λ u. then_do (last u) first))) (loop bound val body t)
loop-matches related rules first last test val body tested turns zero s t h =
    found-source related (then_do (first s) (loop 0 test (λ u. then_do (last u) first))) (val t) t
    (λ v. choose (v == 0) (Goes t) (Ends OutOfFuel t)) (λ v is.
    let d = tested s t v h is in
    let u = d.after in
    let stays = d.stays in
    found-from related (then_do (first s) (loop 0 test (λ u. then_do (last u) first)))
    (choose (v == 0) (Goes u) (Ends OutOfFuel u)) (choose (v == 0) (Goes t) (Ends OutOfFuel t))
    (ap (λ r. then_do r (loop 0 test (λ u. then_do (last u) first))) d.runs
    ∙ ap (λ o. with_defined o u (λ v. choose (v == 0) (Goes u) (Ends OutOfFuel u))) d.word)
    (matches-choose related Out (v == 0) (Goes u) (Ends OutOfFuel u) (Goes t) (Ends OutOfFuel t) (λ e. stays)
    (λ e. (refl, rules.outside u t stays))))
loop-matches related rules first last test val body tested turns (suc bound) s t h =
    let turn : State → Run = λ u. then_do (last u) first in
    let again : State → Run = λ u. then_do (turn u) (loop bound test turn) in
    let other : src.State → src.Run = λ u. then_do (body u) (loop bound val body) in
    found-source related (then_do (first s) (loop (suc bound) test turn)) (val t) t
    (λ v. choose (v == 0) (Goes t) (with_fuel t other)) (λ v is.
    let d = tested s t v h is in
    let u = d.after in
    let stays = d.stays in
    let outside = rules.outside u t stays in
    found-from related (then_do (first s) (loop (suc bound) test turn)) (choose (v == 0) (Goes u) (with_fuel u again))
    (choose (v == 0) (Goes t) (with_fuel t other))
    (ap (λ r. then_do r (loop (suc bound) test turn)) d.runs
    ∙ ap (λ o. with_defined o u (λ v. choose (v == 0) (Goes u) (with_fuel u again))) d.word)
    (matches-choose related Out (v == 0) (Goes u) (with_fuel u again) (Goes t) (with_fuel t other) (λ e. stays) (λ e.
    matches-with_fuel related Out u t again other outside.fuel (λ none. outside) (λ k has.
    let a : State = record u { fuel = k } in
    let b : src.State = record t { fuel = k } in
    found-from related (again a) (then_do (last a) (λ w. then_do (first w) (loop bound test turn))) (other b)
    (then-again (last a) first (loop bound test turn))
    (matches-then_do related related Out (last a) (body b) (λ w. then_do (first w) (loop bound test turn))
    (loop bound val body) (turns a b (rules.spent u t k stays))
    (λ x y there here i. loop-matches related rules first last test val body tested turns bound x y i))))))

loop-undefined : (n : ℕ) (val : src.State → Option ℕ) (body : src.State → src.Run) (t : src.State) → val t ≡ None
    → loop n val body t ≡ Ends Undefined t
loop-undefined zero val body t e = ap (λ o. with_defined o t (λ v. choose (v == 0) (Goes t) (Ends OutOfFuel t))) e
loop-undefined (suc n) val body t e =
    ap (λ o. with_defined o t (λ v. choose (v == 0) (Goes t) (with_fuel t (λ u. then_do (body u) (loop n val body))))) e

pub while-matches : (related : State → src.State → Type 0) → Relates related
    → (first last : State → Run) (test : State → Option ℕ) (val : src.State → Option ℕ) (body : src.State → src.Run)
    → ((s : State) (t : src.State) (v : ℕ) → related s t → val t ≡ Some v → Tested related first test s t v)
    → ((s : State) (t : src.State) → related s t → Matches related Out (last s) (body t))
    → (s : State) (t : src.State) → related s t
    → Matches related Out (then_do (first s) (λ w. loop w.fuel test (λ u. then_do (last u) first) w))
    (loop t.fuel val body t)
while-matches related rules first last test val body tested turns s t h =
    by (val t) refl (loop-matches related rules first last test val body tested turns t.fuel s t h)
  where
    by : (o : Option ℕ) → val t ≡ o → Matches related Out (then_do (first s)
        (loop t.fuel test (λ u. then_do (last u) first))) (loop t.fuel val body t)
        → Matches related Out (then_do (first s) (λ w. loop w.fuel test (λ u. then_do (last u) first) w))
        (loop t.fuel val body t)
    by None e matches =
        let q = then_do (first s) (λ w. loop w.fuel test (λ u. then_do (last u) first) w) in
        subst (λ p. Matches related Out q p) (sym (loop-undefined t.fuel val body t e))
        (matches-undefined related Out q t)
    by (Some v) e matches =
        let turn : State → Run = λ u. then_do (last u) first in
        let d = tested s t v h e in
        let u = d.after in
        let outside = rules.outside s t h in
        found-from related (then_do (first s) (λ w. loop w.fuel test turn w))
        (then_do (first s) (loop t.fuel test turn)) (loop t.fuel val body t)
        (ap (λ r. then_do r (λ w. loop w.fuel test turn w)) d.runs ∙ ap (λ n. loop n test turn u) (d.fuel
        ∙ outside.fuel) ∙ sym (ap (λ r. then_do r (loop t.fuel test turn)) d.runs))
        matches
