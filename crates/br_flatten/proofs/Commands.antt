-- The statements of a command match it: from related states they come to related states with the same end.
use Rattle.std.proofs.Common.{◌≡◌, ℕ, ◌<◌, ◌≤◌, ◌==◌, ◌&&◌, Bool, true, false, if◌then◌else◌, List, [], ◌∷◌}
use Rattle.std.proofs.Common.{◌++◌, map, length, Option, Some, None, inr, refl, sym, ap, subst, ◌∙◌, arith}
use Rattle.std.specs.List.{list_all}
use Rattle.std.proofs.lemmas.Bool.Decides.{Decides-eqb}
use Rattle.br_words.specs.declared.size.Size.{Size}
use Rattle.br_words.specs.Size.{size_of}
use Rattle.br_bytes.specs.Memory.{put_number, with_bytes}
use Rattle.br_bytes.specs.Buffers.{is_good, without_range}
use Rattle.br_bytes.specs.Runs.{Goes, then_do, in_turn, with_defined, choose}
use Rattle.br_bytes.specs.Runs.{with_fuel, loop, with_buffer, back_in, Returns}
use Rattle.br_syntax.specs.declared.program.Expr.{Expr}
use Rattle.br_syntax.specs.declared.program.Cmd.{Cmd, map-Cmd}
use Rattle.br_syntax.specs.declared.program.Cmd.TheOpen.{Cmd-F}
use Rattle.br_syntax.specs.declared.program.Cmd.TheViews.{roll-Cmd}
use Rattle.br_syntax.specs.declared.program.Cmd.TheFolds.{fold-roll-Cmd, ind-Cmd}
use Rattle.br_syntax.specs.declared.program.Func.{Func}
use Rattle.br_syntax.specs.Functions.{function_named}
use Rattle.br_syntax.specs.NameFaults.{NameFault, DuplicateFunction, UnknownFunction, WrongArguments, WrongResults}
use Rattle.br_syntax.specs.NameFaults.{UnknownAction, joined_faults, call_faults, faults_step, command_faults}
use Rattle.br_source_meaning.specs.Values as source
use Rattle.br_source_meaning.specs.Values.{Name, value, values, without_local}
use Rattle.br_source_meaning.specs.Runs as src
use Rattle.br_flatimp.specs.declared.program.Stmt.{Stmt}
use Rattle.br_flatimp.specs.declared.program.Stmt.TheOpen.{Stmt-F}
use Rattle.br_flatimp.specs.declared.program.Stmt.TheViews.{roll-Stmt}
use Rattle.br_flatimp.specs.Values.{Locals, with_local, with_locals, moved, test_word}
use Rattle.br_flatimp.specs.Matches.{SameOutside, CallMatches}
use Rattle.br_flatimp.specs.Runs.{State, Run, Callee}
use Rattle.br_flatimp.proofs.Matches.{matches-then_do, matches-with_defined, matches-choose}
use Rattle.br_flatimp.proofs.Matches.{matches-with_fuel, given, matches-with_buffer, matches-back_in}
use Rattle.br_flatten.specs.Scope.{Scope, temporaries}
use Rattle.br_flatten.specs.Flatten.{number, is_listed, lists_names, lists_expression}
use Rattle.br_flatten.specs.Flatten.{lists_expressions, lists_command_step, lists_command, place}
use Rattle.br_flatten.specs.Flatten.{next, code, codes_of, places_of, device_statements, expression}
use Rattle.br_flatten.specs.Flatten.{branches, joined, callee_number, command_step, command}
use Rattle.br_flatten.proofs.Numbers.{and-first, and-second}
use Rattle.br_flatten.proofs.Turns.{does, does-append, does-after, does-one}
use Rattle.br_flatten.proofs.Comparisons.{Tests}
use Rattle.br_flatten.proofs.Expressions.{holds-kept, Placed, placed, Addressed, expression_claim}
use Rattle.br_flatten.proofs.Pieces.{At, Out, AtMatches, at-locals, matches-source, matches-from, holds-changed}
use Rattle.br_flatten.proofs.Pieces.{holds-set, holds-unset, holds-set_all, put-same, all_placed, length-values}
use Rattle.br_flatten.proofs.Pieces.{device-matches, Tested, at-relates, found-from, while-matches}

-- ---- faults

abbrev pub faults : List Func → Cmd → List NameFault
faults = command_faults NameFault DuplicateFunction UnknownFunction WrongArguments WrongResults UnknownAction

abbrev pub layer_faults : List Func → Cmd-F (List NameFault) → List NameFault
layer_faults = faults_step NameFault DuplicateFunction UnknownFunction WrongArguments WrongResults UnknownAction

abbrev pub joins : List (List NameFault) → List NameFault
joins = joined_faults NameFault DuplicateFunction UnknownFunction WrongArguments WrongResults UnknownAction

pub none-first : {X : Type 0} (xs ys : List X) → xs ++ ys ≡ [] → xs ≡ []
none-first [] ys e = refl
none-first (x ∷ xs) ys e = absurd (cc e)

pub none-second : {X : Type 0} (xs ys : List X) → xs ++ ys ≡ [] → ys ≡ []
none-second [] ys e = e
none-second (x ∷ xs) ys e = absurd (cc e)

if_none : (b : Bool) (x : NameFault) → (if b then [] else x ∷ []) ≡ [] → b ≡ true
if_none true x e = refl
if_none false x e = absurd (cc e)

-- ---- callees

-- functions that match by their numbers and scope, and return as many words as they have results
pub record CalleesFit (fs : List Func) (q : Callee) (p : src.Callee) : Type 0 where
  pub matches : (x : Name) (f : Func) → function_named fs x ≡ Some f
      → (vs : List ℕ) → length vs ≡ length f.args → (s : State) (t : src.State) → SameOutside s t
      → CallMatches SameOutside SameOutside (q (callee_number fs x) vs s) (p x vs t)
  pub counts : (x : Name) (f : Func) → function_named fs x ≡ Some f
      → (vs : List ℕ) (t : src.State) (ws : List ℕ) (u : src.State) → p x vs t ≡ Returns ws u
      → length ws ≡ length f.results

-- ---- words of expressions

-- an expression that has a word in the second state, placed in the first
word_placed : (scope : Scope) (call : Callee) (e : Expr) (free : ℕ) (s : State) (t : src.State) (v : ℕ)
    → lists_expression scope.names e ≡ true → temporaries scope ≤ free → At scope s t
    → value t.locals t.memory e ≡ Some v
    → Placed (does call (code (expression scope e) free)) s (place ((expression scope e).variable) free) v free
    (next ((expression scope e).variable) free)
word_placed scope call e free s t v listed le h is =
    placed scope call (lists_expression scope.names e) (expression scope e) (λ m k. value m k e)
    (expression_claim scope call e).words free s t.locals v listed le h.locals
    (subst (λ m. value t.locals m e ≡ Some v) (sym h.outside.memory) is)

-- its test
word_tested : (scope : Scope) (call : Callee) (e : Expr) (free : ℕ) (s : State) (t : src.State) (v : ℕ)
    → lists_expression scope.names e ≡ true → temporaries scope ≤ free → At scope s t
    → value t.locals t.memory e ≡ Some v
    → Tests (does call ((expression scope e).test free).before) s ((expression scope e).test free).cond v free
    ((expression scope e).test free).next
word_tested scope call e free s t v listed le h is =
    (expression_claim scope call e).tests free s t.locals v listed le h.locals
    (subst (λ m. value t.locals m e ≡ Some v) (sym h.outside.memory) is)

-- the bytes at it
word_addressed : (scope : Scope) (call : Callee) (e : Expr) (free : ℕ) (s : State) (t : src.State) (v : ℕ)
    → lists_expression scope.names e ≡ true → temporaries scope ≤ free → At scope s t
    → value t.locals t.memory e ≡ Some v
    → Addressed (does call ((expression scope e).address free).before) s ((expression scope e).address free).at
    ((expression scope e).address free).offset v free ((expression scope e).address free).next
word_addressed scope call e free s t v listed le h is =
    (expression_claim scope call e).addresses free s t.locals v listed le h.locals
    (subst (λ m. value t.locals m e ≡ Some v) (sym h.outside.memory) is)

after_placed : (scope : Scope) (s : State) (t : src.State) (l : Locals) (free : ℕ) → temporaries scope ≤ free
    → ((y : ℕ) → y < free → l y ≡ s.locals y) → At scope s t → At scope (record s { locals = l }) t
after_placed scope s t l free le same h =
    at-locals scope s t l t.locals (holds-kept scope s.locals l t.locals free le same h.locals) h.outside

le_itself : (n : ℕ) → n ≤ n
le_itself n = omega arith

set-matches : (scope : Scope) (call : Callee) (x : Name) (e : Expr) (s : State) (t : src.State)
    → is_listed scope.names x ≡ true → lists_expression scope.names e ≡ true → At scope s t
    → AtMatches scope (does call ((expression scope e).into (number scope.names x) (temporaries scope)) s)
    (with_defined (value t.locals t.memory e) t (λ v. Goes (src.set_to x v t)))
set-matches scope call x e s t listed listed' h =
    let q = does call ((expression scope e).into (number scope.names x) (temporaries scope)) s in
    matches-source scope q (value t.locals t.memory e) t (λ v. Goes (src.set_to x v t)) (λ v is.
    let claim = (expression_claim scope call e).words in
    let sets = claim.into (number scope.names x) (temporaries scope) s t.locals v listed'
    (le_itself (temporaries scope)) h.locals (subst (λ m. value t.locals m e ≡ Some v) (sym h.outside.memory) is) in
    matches-from scope q (Goes (record s { locals = sets.locals })) (Goes (src.set_to x v t)) sets.runs
    (at-locals scope s t sets.locals (source.with_local x v t.locals)
    (holds-changed scope s.locals sets.locals t.locals x v listed sets.value sets.others h.locals) h.outside))

store-matches : (scope : Scope) (call : Callee) (fs : List Func) (size : Size) (a e : Expr) (s : State) (t : src.State)
    → lists_expression scope.names a ≡ true → lists_expression scope.names e ≡ true → At scope s t
    → AtMatches scope (does call (command_step fs scope (Cmd-F.Store size a e)) s)
    (with_defined (value t.locals t.memory a) t (λ a. with_defined (value t.locals t.memory e) t
    (λ v. with_defined (put_number t.memory a (size_of size) v) t (λ m. Goes (record t { memory = m })))))
store-matches scope call fs size a e s t listed listed' h =
    let q = does call (command_step fs scope (Cmd-F.Store size a e)) s in
    let n = size_of size in
    matches-source scope q (value t.locals t.memory a) t (λ a. with_defined (value t.locals t.memory e) t
    (λ v. with_defined (put_number t.memory a n v) t (λ m. Goes (record t { memory = m })))) (λ b is.
    matches-source scope q (value t.locals t.memory e) t
    (λ v. with_defined (put_number t.memory b n v) t (λ m. Goes (record t { memory = m }))) (λ v is'.
    let free = temporaries scope in
    let one = (expression scope a).address free in
    let two = expression scope e in
    let p = word_addressed scope call a free s t b listed (le_itself free) h is in
    let u : State = record s { locals = p.locals } in
    let h1 = after_placed scope s t p.locals free (le_itself free) p.others h in
    let after = one.next in
    let grows = p.grows in
    let r = word_placed scope call e after u t v listed' grows h1 is' in
    let w : State = record s { locals = r.locals } in
    let h2 = after_placed scope u t r.locals after grows r.others h1 in
    let second = place two.variable after in
    let y : Stmt-F Stmt = Stmt-F.Store size one.at second one.offset in
    let value : r.locals one.at ≡ Some p.word = r.others one.at p.below ∙ p.value in
    matches-from scope q (with_defined (put_number t.memory b n v) w (λ m. Goes (record w { memory = m })))
    (with_defined (put_number t.memory b n v) t (λ m. Goes (record t { memory = m })))
    (does-after call one.before (code two after ++ roll-Stmt y ∷ []) s u p.runs
    ∙ does-after call (code two after) (roll-Stmt y ∷ []) u w r.runs ∙ does-one call y w
    ∙ ap (λ o. with_defined o w (λ a. with_defined (r.locals second) w (λ v.
    with_defined (put_number w.memory (moved a one.offset) n v) w (λ m. Goes (record w { memory = m }))))) value
    ∙ ap (λ o. with_defined o w (λ v. with_defined (put_number w.memory (moved p.word one.offset) n v) w
    (λ m. Goes (record w { memory = m })))) r.value
    ∙ ap (λ o. with_defined o w (λ m. Goes (record w { memory = m })))
    (put-same s.memory (moved p.word one.offset) b n v p.same ∙ ap (λ m. put_number m b n v) h.outside.memory))
    (matches-with_defined (At scope) Out (put_number t.memory b n v) (put_number t.memory b n v) w t
    (λ m. Goes (record w { memory = m })) (λ m. Goes (record t { memory = m })) (inr refl) (λ m has. record {
      locals = h2.locals;
      outside = record {
        memory = refl;
        trace = h.outside.trace;
        answers = h.outside.answers;
        choices = h.outside.choices;
        fuel = h.outside.fuel;
      };
    }))))

stackalloc-matches : (scope : Scope) (x : Name) (n : ℕ) (f : State
    → Run) (g : src.State → src.Run) (s : State) (t : src.State) → is_listed scope.names x ≡ true
    → ((u : State) (v : src.State) → At scope u v → AtMatches scope (f u) (g v)) → At scope s t
    → AtMatches scope (with_buffer (with_local (number scope.names x)) n f s) (with_buffer (source.with_local x) n g t)
stackalloc-matches scope x n f g s t listed body h =
    matches-with_buffer (At scope) (At scope) Out n (with_local (number scope.names x)) (source.with_local x) f g s t
    h.outside.choices
    (λ c good. subst (λ m. is_good n m c ≡ true) h.outside.memory good)
    (λ c rest is good.
    body (given (with_local (number scope.names x)) c rest s) (given (source.with_local x) c rest t) (record {
      locals = holds-set scope s.locals t.locals x c.addr listed h.locals;
      outside = record {
        memory = ap (λ m. with_bytes m c.addr c.bytes) h.outside.memory;
        trace = h.outside.trace;
        answers = h.outside.answers;
        choices = refl;
        fuel = h.outside.fuel;
      };
    }))
    (λ c rest u v is good k. record {
      locals = k.locals;
      outside = record {
        memory = ap (λ m. without_range m c.addr n) k.outside.memory;
        trace = k.outside.trace;
        answers = k.outside.answers;
        choices = k.outside.choices;
        fuel = k.outside.fuel;
      };
    })

if-matches : (scope : Scope) (call : Callee) (e : Expr) (one two : List Stmt) (g1 g2 : src.State
    → src.Run) (s : State) (t : src.State) → lists_expression scope.names e ≡ true
    → ((u : State) (v : src.State) → At scope u v → AtMatches scope (does call one u) (g1 v))
    → ((u : State) (v : src.State) → At scope u v → AtMatches scope (does call two u) (g2 v)) → At scope s t
    → AtMatches scope (does call (branches ((expression scope e).test (temporaries scope)) one two) s)
    (with_defined (value t.locals t.memory e) t (λ v. choose (v == 0) (g2 t) (g1 t)))
if-matches scope call e one two g1 g2 s t listed first second h =
    let free = temporaries scope in
    let test = (expression scope e).test free in
    let y : Stmt-F Stmt = Stmt-F.If test.cond one two in
    let q = does call (test.before ++ roll-Stmt y ∷ []) s in
    matches-source scope q (value t.locals t.memory e) t (λ v. choose (v == 0) (g2 t) (g1 t)) (λ v is.
    let p = word_tested scope call e free s t v listed (le_itself free) h is in
    let u : State = record s { locals = p.locals } in
    let k = after_placed scope s t p.locals free (le_itself free) p.others h in
    matches-from scope q (choose (v == 0) (does call two u) (does call one u)) (choose (v == 0) (g2 t) (g1 t))
    (does-after call test.before (roll-Stmt y ∷ []) s u p.runs ∙ does-one call y u
    ∙ ap (λ o. with_defined o u (λ v. choose (v == 0) (does call two u) (does call one u))) p.word)
    (matches-choose (At scope) Out (v == 0) (does call two u) (does call one u) (g2 t) (g1 t) (λ e. second u t k)
    (λ e. first u t k)))

test-word : (scope : Scope) (call : Callee) (e : Expr) → lists_expression scope.names e ≡ true
    → (s : State) (t : src.State) (v : ℕ) → At scope s t → value t.locals t.memory e ≡ Some v
    → Tested (At scope) (does call ((expression scope e).test (temporaries scope)).before)
    (λ u. test_word ((expression scope e).test (temporaries scope)).cond u.locals) s t v
test-word scope call e listed s t v h is =
    let free = temporaries scope in
    let p = word_tested scope call e free s t v listed (le_itself free) h is in
    record {
      after = record s { locals = p.locals };
      runs = p.runs;
      word = p.word;
      stays = after_placed scope s t p.locals free (le_itself free) p.others h;
      fuel = refl;
    }

call-matches : (fs : List Func) (scope : Scope) (q : Callee) (p : src.Callee) → CalleesFit fs q p
    → (place : ℕ) (xs : List Name) (callee : Name) (es : List Expr) (s : State) (t : src.State)
    → lists_names scope.names xs ≡ true → lists_expressions scope.names es ≡ true
    → layer_faults fs (Cmd-F.Call place xs callee es) ≡ [] → At scope s t
    → AtMatches scope (does q (command_step fs scope (Cmd-F.Call place xs callee es)) s)
    (with_defined (values t.locals t.memory es) t
    (λ vs. with_fuel t (λ u. back_in (src.with_locals xs) t.locals (p callee vs u))))
call-matches fs scope q p fit place xs callee es s t listed listed' fault h = by (function_named fs callee) refl fault
  where
    by : (o : Option Func) → function_named fs callee ≡ o → call_faults NameFault DuplicateFunction UnknownFunction
        WrongArguments WrongResults UnknownAction place (length es) (length xs) o ≡ []
        → AtMatches scope (does q (command_step fs scope (Cmd-F.Call place xs callee es)) s)
        (with_defined (values t.locals t.memory es) t
        (λ vs. with_fuel t (λ u. back_in (src.with_locals xs) t.locals (p callee vs u))))
    by None e none = absurd (cc none)
    by (Some f) e none =
        let arguments = if_none (length es == length f.args)
        (WrongArguments place) (none-first (if length es == length f.args then [] else WrongArguments place ∷ [])
        (if length xs == length f.results then [] else WrongResults place ∷ []) none) in
        let results = if_none (length xs == length f.results)
        (WrongResults place) (none-second (if length es == length f.args then [] else WrongArguments place ∷ [])
        (if length xs == length f.results then [] else WrongResults place ∷ []) none) in
        let es_count : length es ≡ length f.args = (Decides-eqb (length es) (length f.args)).0 arguments in
        let xs_count : length xs ≡ length f.results = (Decides-eqb (length xs) (length f.results)).0 results in
        let free = temporaries scope in
        let flats = map (expression scope) es in
        let g = callee_number fs callee in
        let y : Stmt-F Stmt = Stmt-F.Call (map (number scope.names) xs) g (places_of flats free) in
        let flat = does q (codes_of flats free ++ roll-Stmt y ∷ []) s in
        matches-source scope flat (values t.locals t.memory es) t
        (λ vs. with_fuel t (λ u. back_in (src.with_locals xs) t.locals (p callee vs u))) (λ vs is.
        let a = all_placed scope q es free s t.locals vs listed' (le_itself free) h.locals
        (subst (λ m. values t.locals m es ≡ Some vs) (sym h.outside.memory) is) in
        let u : State = record s { locals = a.locals } in
        let k = after_placed scope s t a.locals free (le_itself free) a.others h in
        let one : State → Run = λ w. back_in (with_locals (map (number scope.names) xs)) a.locals (q g vs w) in
        let two : src.State → src.Run = λ w. back_in (src.with_locals xs) t.locals (p callee vs w) in
        matches-from scope flat (with_fuel u one) (with_fuel t two)
        (does-after q (codes_of flats free) (roll-Stmt y ∷ []) s u a.runs ∙ does-one q y u
        ∙ ap (λ o. with_defined o u
        (λ vs. with_fuel u (λ w. back_in (with_locals (map (number scope.names) xs)) a.locals (q g vs w)))) a.words)
        (matches-with_fuel (At scope) Out u t one two h.outside.fuel (λ none. k.outside) (λ n has.
        let v : State = record u { fuel = n } in
        let w : src.State = record t { fuel = n } in
        let same : SameOutside v w = record {
          memory = h.outside.memory;
          trace = h.outside.trace;
          answers =
              h.outside.answers;
          choices = h.outside.choices;
          fuel = refl;
        } in
        matches-back_in Out (At scope) Out (with_locals (map (number scope.names) xs)) (src.with_locals xs) a.locals
        t.locals (q g vs v) (p callee vs w)
        (fit.matches callee f e vs (length-values t.locals t.memory es vs is ∙ es_count) v w same)
        (λ ws c d returns same.
        at-locals scope c d (with_locals (map (number scope.names) xs) ws a.locals) (src.with_locals xs ws t.locals)
        (holds-set_all scope xs ws a.locals t.locals listed (fit.counts callee f e vs w ws d returns ∙ sym xs_count)
        k.locals) same))))

interact-matches : (fs : List Func) (scope : Scope) (q : Callee) (place : ℕ) (xs : List Name) (action : Name)
    (es : List Expr) (s : State) (t : src.State)
    → lists_names scope.names xs ≡ true → lists_expressions scope.names es ≡ true → At scope s t
    → AtMatches scope (does q (command_step fs scope (Cmd-F.Interact place xs action es)) s)
    (with_defined (values t.locals t.memory es) t (λ vs. src.interact xs action vs t))
interact-matches fs scope q place xs action es s t listed listed' h =
    let free = temporaries scope in
    let flats = map (expression scope) es in
    let rest = device_statements action (map (number scope.names) xs) (places_of flats free) in
    let flat = does q (codes_of flats free ++ rest) s in
    matches-source scope flat (values t.locals t.memory es) t (λ vs. src.interact xs action vs t) (λ vs is.
    let a = all_placed scope q es free s t.locals vs listed' (le_itself free) h.locals
    (subst (λ m. values t.locals m es ≡ Some vs) (sym h.outside.memory) is) in
    let u : State = record s { locals = a.locals } in
    let k = after_placed scope s t a.locals free (le_itself free) a.others h in
    matches-from scope flat (does q rest u) (src.interact xs action vs t)
    (does-after q (codes_of flats free) rest s u a.runs)
    (device-matches scope q xs action (places_of flats free) vs u t listed a.words k))

-- ---- every command

abbrev pub CommandMatches : List Func → Scope → Callee → src.Callee → Cmd → Type 0
CommandMatches fs scope q p c =
    lists_command scope.names c ≡ true → faults fs c ≡ [] → (s : State) (t : src.State) → At scope s t
    → AtMatches scope (does q (command fs scope c) s) (src.run p c t)

abbrev Known : List Func → Scope → Callee → src.Callee → Type 0
Known fs scope q p = (c : Cmd) × CommandMatches fs scope q p c

abbrev cmds : (fs : List Func) (scope : Scope) (q : Callee) (p : src.Callee) → List (Known fs scope q p) → List Cmd
cmds fs scope q p cs = map (λ e. e.0) cs

known-all : (fs : List Func) (scope : Scope) (q : Callee) (p : src.Callee) (cs : List (Known fs scope q p))
    → list_all (λ ok. ok) (map (lists_command scope.names) (cmds fs scope q p cs)) ≡ true
    → joins (map (faults fs) (cmds fs scope q p cs)) ≡ [] → (s : State) (t : src.State) → At scope s t
    → AtMatches scope (does q (joined (map (command fs scope) (cmds fs scope q p cs))) s)
    (in_turn (map (src.run p) (cmds fs scope q p cs)) t)
known-all fs scope q p [] listed none s t h = h
known-all fs scope q p (c ∷ cs) listed none s t h =
    let one = lists_command scope.names c.0 in
    let rest = list_all (λ ok. ok) (map (lists_command scope.names) (cmds fs scope q p cs)) in
    let body = joined (map (command fs scope) (cmds fs scope q p cs)) in
    let others = in_turn (map (src.run p) (cmds fs scope q p cs)) in
    let more = joins (map (faults fs) (cmds fs scope q p cs)) in
    matches-from scope (does q (command fs scope c.0 ++ body) s)
    (then_do (does q (command fs scope c.0) s) (does q body)) (then_do (src.run p c.0 t) others)
    (does-append q (command fs scope c.0) body s)
    (matches-then_do (At scope) (At scope) Out (does q (command fs scope c.0) s) (src.run p c.0 t) (does q body) others
    (c.1 (and-first one rest listed) (none-first (faults fs c.0) more none) s t h)
    (λ u v there here k.
    known-all fs scope q p cs (and-second one rest listed) (none-second (faults fs c.0) more none) u v k))

abbrev LayerMatches : List Func → Scope → Callee → src.Callee → Cmd-F Cmd → Type 0
LayerMatches fs scope q p y =
    lists_command_step scope.names (map-Cmd Cmd Bool (lists_command scope.names) y) ≡ true
    → layer_faults fs (map-Cmd Cmd (List NameFault) (faults fs) y) ≡ [] → (s : State) (t : src.State) → At scope s t
    → AtMatches scope (does q (command_step fs scope (map-Cmd Cmd (List Stmt) (command fs scope) y)) s)
    (src.command_step p (map-Cmd Cmd (src.State → src.Run) (src.run p) y) t)

layer : (fs : List Func) (scope : Scope) (q : Callee) (p : src.Callee) → CalleesFit fs q p
    → (y : Cmd-F (Known fs scope q p)) → LayerMatches fs scope q p (map-Cmd (Known fs scope q p) Cmd (λ e. e.0) y)
layer fs scope q p fit Cmd-F.Skip listed none s t h = h
layer fs scope q p fit (Cmd-F.Set x e) listed none s t h =
    set-matches scope q x e s t (and-first (is_listed scope.names x) (lists_expression scope.names e) listed)
    (and-second (is_listed scope.names x) (lists_expression scope.names e) listed) h
layer fs scope q p fit (Cmd-F.Unset x) listed none s t h =
    at-locals scope s t s.locals (without_local x t.locals) (holds-unset scope s.locals t.locals x h.locals) h.outside
layer fs scope q p fit (Cmd-F.Store size a e) listed none s t h =
    store-matches scope q fs size a e s t (and-first (lists_expression scope.names a) (lists_expression scope.names e)
    listed) (and-second (lists_expression scope.names a) (lists_expression scope.names e) listed) h
layer fs scope q p fit (Cmd-F.Stackalloc x n body) listed none s t h =
    let cs = cmds fs scope q p body in
    let rest = list_all (λ ok. ok) (map (lists_command scope.names) cs) in
    let flat = joined (map (command fs scope) cs) in
    let others = in_turn (map (src.run p) cs) in
    matches-from scope (does q (roll-Stmt (Stmt-F.Stackalloc (number scope.names x) n flat) ∷ []) s) (with_buffer
    (with_local (number scope.names x)) n (does q flat) s) (with_buffer (source.with_local x) n others t)
    (does-one q (Stmt-F.Stackalloc (number scope.names x) n flat) s)
    (stackalloc-matches scope x n (does q flat) others s t (and-first (is_listed scope.names x) rest listed)
    (λ u v k. known-all fs scope q p body (and-second (is_listed scope.names x) rest listed) none u v k) h)
layer fs scope q p fit (Cmd-F.If e first second) listed none s t h =
    let one = cmds fs scope q p first in
    let two = cmds fs scope q p second in
    let lists1 = list_all (λ ok. ok) (map (lists_command scope.names) one) in
    let lists2 = list_all (λ ok. ok) (map (lists_command scope.names) two) in
    let faults1 = joins (map (faults fs) one) in
    let faults2 = joins (map (faults fs) two) in
    let both = and-second (lists_expression scope.names e) (lists1 && lists2) listed in
    if-matches scope q e (joined (map (command fs scope) one)) (joined (map (command fs scope) two))
    (in_turn (map (src.run p) one)) (in_turn (map (src.run p) two)) s t
    (and-first (lists_expression scope.names e) (lists1 && lists2) listed)
    (λ u v k. known-all fs scope q p first (and-first lists1 lists2 both) (none-first faults1 faults2 none) u v k)
    (λ u v k. known-all fs scope q p second (and-second lists1 lists2 both) (none-second faults1 faults2 none) u v k) h
layer fs scope q p fit (Cmd-F.While e body) listed none s t h =
    let cs = cmds fs scope q p body in
    let rest = list_all (λ ok. ok) (map (lists_command scope.names) cs) in
    let flat = joined (map (command fs scope) cs) in
    let others = in_turn (map (src.run p) cs) in
    let test = (expression scope e).test (temporaries scope) in
    let y : Stmt-F Stmt = Stmt-F.Loop test.before test.cond flat in
    found-from (At scope) (does q (roll-Stmt y ∷ []) s)
    (then_do (does q test.before s)
    (λ w. loop w.fuel (λ u. test_word test.cond u.locals) (λ u. then_do (does q flat u) (does q test.before)) w))
    (loop t.fuel (λ u. value u.locals u.memory e) others t)
    (does-one q y s)
    (while-matches (At scope) (at-relates scope) (does q test.before) (does q flat) (λ u. test_word test.cond u.locals)
    (λ u. value u.locals u.memory e) others
    (test-word scope q e (and-first (lists_expression scope.names e) rest listed))
    (λ u v k. known-all fs scope q p body (and-second (lists_expression scope.names e) rest listed) none u v k) s t h)
layer fs scope q p fit (Cmd-F.Seq body) listed none s t h = known-all fs scope q p body listed none s t h
layer fs scope q p fit (Cmd-F.Call place xs callee es) listed none s t h =
    call-matches fs scope q
    p fit place xs callee es s t (and-first (lists_names scope.names xs) (lists_expressions scope.names es) listed)
    (and-second (lists_names scope.names xs) (lists_expressions scope.names es) listed) none h
layer fs scope q p fit (Cmd-F.Interact place xs action es) listed none s t h =
    interact-matches fs scope
    q place xs action es s t (and-first (lists_names scope.names xs) (lists_expressions scope.names es) listed)
    (and-second (lists_names scope.names xs) (lists_expressions scope.names es) listed) h

pub command-matches : (fs : List Func) (scope : Scope) (q : Callee) (p : src.Callee) → CalleesFit fs q p → (c : Cmd)
    → CommandMatches fs scope q p c
command-matches fs scope q p fit = ind-Cmd (CommandMatches fs scope q p) (λ x y is listed none s t h.
    let lists = fold-roll-Cmd Bool (lists_command_step scope.names) x in
    let found = fold-roll-Cmd (List NameFault) (layer_faults fs) x in
    let flat = fold-roll-Cmd (List Stmt) (command_step fs scope) x in
    let does_it = fold-roll-Cmd (src.State → src.Run) (src.command_step p) x in
    let step = subst (LayerMatches fs scope q p) is (layer fs scope q p fit y) (sym lists ∙ listed)
    (sym found ∙ none) s t h in
    let one = subst
    (λ b. AtMatches scope (does q b s) (src.command_step p (map-Cmd Cmd (src.State → src.Run) (src.run p) x) t))
    (sym flat) step in
    subst (λ f. AtMatches scope (does q (command fs scope (roll-Cmd x)) s) (f t)) (sym does_it) one)

pub commands-match : (fs : List Func) (scope : Scope) (q : Callee) (p : src.Callee) → CalleesFit fs q p
    → (cs : List Cmd)
    → list_all (lists_command scope.names) cs ≡ true → joins (map (faults fs) cs) ≡ [] → (s : State) (t : src.State)
    → At scope s t
    → AtMatches scope (does q (joined (map (command fs scope) cs)) s) (src.run_all p cs t)
commands-match fs scope q p fit [] listed none s t h = h
commands-match fs scope q p fit (c ∷ cs) listed none s t h =
    let body = joined (map (command fs scope) cs) in
    let more = joins (map (faults fs) cs) in
    let rest = list_all (lists_command scope.names) cs in
    matches-from scope (does q (command fs scope c ++ body) s) (then_do (does q (command fs scope c) s) (does q body))
    (then_do (src.run p c t) (src.run_all p cs))
    (does-append q (command fs scope c) body s)
    (matches-then_do (At scope) (At scope) Out (does q (command fs scope c) s) (src.run p c t) (does q body)
    (src.run_all p cs)
    (command-matches fs scope q p fit c (and-first (lists_command scope.names c) rest listed)
    (none-first (faults fs c) more none) s t h)
    (λ u v there here k. commands-match fs scope q p fit cs (and-second (lists_command scope.names c) rest listed)
    (none-second (faults fs c) more none) u v k))
