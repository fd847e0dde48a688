-- Lemmas on work that is pending.
use Rattle.std.proofs.Common.{◌≡◌, ℕ, List, [], ◌∷◌, ◌++◌, Option, Some, None, Bor, Result, Ok, Err, refl, sym, ap, ◌∙◌}
use Rattle.br_syntax.specs.declared.program.Cmd.{Cmd}
use Rattle.br_source_meaning.specs.Runs.{State, End, Undefined, Run, Goes, Ends, Returns, Stops, then_do, with_fuel}
use Rattle.br_source_meaning.specs.Runs.{Callee, with_locals, back_in, run_all}
use Rattle.br_source_meaning.specs.Values.{Name, Locals, no_locals}
use Rattle.br_source_meaning.specs.Calls.{words_of, returned}
use Rattle.br_source_meaning.specs.Names.{names_at}
use Rattle.br_source_meaning.specs.Variables.{locals_of}
use Rattle.br_source_meaning.specs.Running.{names_of, locals_in, own_of, state_of, end_of, Leads, LeadsBack, IsDefined}
use Rattle.br_source_meaning.specs.Pending.{resume, after, after_all, finish, does, LeavesWork, Resumes, Pauses, Starts}
use Rattle.br_source_meaning.specs.declared.variables.Variables.{Variables}
use Rattle.br_source_meaning.specs.declared.numbered.NumberedCmd.{NumberedCmd}
use Rattle.br_source_meaning.specs.declared.numbered.NumberedFunc.{NumberedFunc}
use Rattle.br_base.specs.declared.failure.OrMemory.{OrMemory}
use Rattle.br_base.specs.declared.failure.OrMemory.TheVariants.{Memory, Fault}
use Rattle.br_source_meaning.specs.declared.running.Stop.{Stop}
use Rattle.br_source_meaning.specs.declared.running.Running.{Running}
use Rattle.br_source_meaning.specs.Numbered.{named_commands, named_function}
use Rattle.br_source_meaning.specs.declared.pending.Body.{Body}
use Rattle.br_source_meaning.specs.declared.pending.Work.{Work}
use Rattle.br_source_meaning.specs.declared.pending.Frame.{Frame}
use Rattle.br_source_meaning.specs.declared.pending.Frame.TheVariants as frame
use Rattle.br_source_meaning.proofs.Deep.{unspent-then}
use Rattle.br_source_meaning.proofs.Kept.{set-first}

after-push : (own : List Name) (fs : List Frame) (f : Frame) → after_all own (fs ++ f ∷ []) ≡ after_all (after own f) fs
after-push own [] f = refl
after-push own (g ∷ gs) f = ap (λ names. after names g) (after-push own gs f)

finish-push : (names own : List Name) (call : Callee) (fs : List Frame) (f : Frame) (r : Run)
    → finish names own call (fs ++ f ∷ []) r ≡ finish names (after own f) call fs (then_do r (resume names own call f))
finish-push names own call [] f r = refl
finish-push names own call (g ∷ gs) f r =
    ap (λ q. then_do q (resume names (after_all own (gs ++ f ∷ [])) call g)) (finish-push names own call gs f r)
    ∙ ap (λ n. then_do (finish names (after own f) call gs (then_do r (resume names own call f)))
    (resume names n call g)) (after-push own gs f)

-- the same of frames that are named
pub pushed : (names own : List Name) (call : Callee) (old new : List Frame) (f : Frame) (r : Run) → new ≡ old ++ f ∷ []
    → finish names own call new r ≡ finish names (after own f) call old (then_do r (resume names own call f))
pushed names own call old new f r is = ap (λ fs. finish names own call fs r) is ∙ finish-push names own call old f r

-- what follows a body's end where the body is a function's
return-then : (keep : List ℕ → Locals → Locals) (own : Locals) (results : Locals → Option (List ℕ)) (r : Run)
    → then_do r (λ t. back_in keep own (returned results (Goes t))) ≡ back_in keep own (returned results r)
return-then keep own results (Goes t) = refl
return-then keep own results (Ends end t) = refl

-- a function's body is pending, and its end before that
pub entered : (names own : List Name) (call : Callee) (old mid new : List Frame) (from to : Bor (List ℕ))
    (caller : Variables) (body : Body) (results : List Name) (cs : List Cmd) (locals : Locals) (s : State) → mid
    ≡ old ++ frame.Return from to caller ∷ [] → new ≡ mid ++ frame.Body body ∷ [] → names_at own from.now ≡ results
    → named_commands names own body.commands.now ≡ cs → locals_in caller ≡ locals → finish names own call new (Goes s)
    ≡ finish names (names_of caller) call old
    (back_in (with_locals (names_at (names_of caller) to.now)) locals (returned (words_of results) (run_all call cs s)))
entered names own call old mid new from to caller body results cs locals s first second is_from is_body is_locals =
    let keep : List ℕ → Locals → Locals = with_locals (names_at (names_of caller) to.now) in
    let all : Run = run_all call (named_commands names own body.commands.now) s in
    pushed names own call mid new (frame.Body body) (Goes s) second
    ∙ pushed names own call old mid (frame.Return from to caller) all first
    ∙ ap (finish names (names_of caller) call old)
    (return-then keep (locals_in caller) (words_of (names_at own from.now)) all)
    ∙ ap (λ l. finish names (names_of caller) call old
    (back_in keep l (returned (words_of (names_at own from.now)) all))) is_locals
    ∙ ap (λ xs. finish names (names_of caller) call old (back_in keep locals (returned (words_of xs) all))) is_from
    ∙ ap (λ cs. finish names (names_of caller) call old
    (back_in keep locals (returned (words_of results) (run_all call cs s)))) is_body

pub finish-ends : (names own : List Name) (call : Callee) (fs : List Frame) (end : End) (s : State)
    → finish names own call fs (Ends end s) ≡ Ends end s
finish-ends names own call [] end s = refl
finish-ends names own call (g ∷ gs) end s =
    ap (λ q. then_do q (resume names (after_all own gs) call g)) (finish-ends names own call gs end s)

-- a body's first command leaves work, and the rest of the body is pending
pub resumes-first : (result : Result Work (OrMemory Stop)) (names own : List Name) (call : Callee) (r : Running)
    (old new : List Frame) (rest : Body) (q : Run) → own_of r ≡ own → new ≡ old ++ frame.Body rest ∷ []
    → LeavesWork result names call r q
    → Resumes result names call r new old (then_do q (run_all call (named_commands names own rest.commands.now)))
resumes-first (Ok w) names own call r old new rest q same is h =
    ap (λ n. finish names (own_of r) call old (then_do q (run_all call (named_commands names n rest.commands.now))))
    (sym same)
    ∙ ap (λ q. finish names (own_of r) call old
    (then_do q (run_all call (named_commands names (own_of r) rest.commands.now)))) h
    ∙ sym (pushed names (own_of r) call old new (frame.Body rest) (does names (own_of r) call w (state_of r)) is)
resumes-first (Err (Fault e)) names own call r old new rest q same is h =
    ap (λ q. then_do q (run_all call (named_commands names own rest.commands.now))) h
resumes-first (Err Memory) names own call r old new rest q same is h = tt

-- what leaves work where nothing is pending after it
pub resumes-alone : (result : Result Work (OrMemory Stop)) (names : List Name) (call : Callee) (r : Running)
    (old : List Frame) (q : Run) → LeavesWork result names call r q → Resumes result names call r old old q
resumes-alone (Ok w) names call r old q h = ap (finish names (own_of r) call old) h
resumes-alone (Err (Fault e)) names call r old q h = h
resumes-alone (Err Memory) names call r old q h = tt

-- an end passes all that is pending
pub pauses-ends : (e : OrMemory Stop) (names own : List Name) (call : Callee) (r : Running)
    (old new pending : List Frame) (q : Run) → Resumes (Err e) names call r new old q
    → Pauses (Err e) names call r pending (finish names own call old q)
pauses-ends (Fault e) names own call r old new pending q h = ap (finish names own call old) h
    ∙ finish-ends names own call old (end_of e) (state_of r)
pauses-ends Memory names own call r old new pending q h = tt

-- ends as the commands end by them

pub paused-leads : (T : Type 0) (e : OrMemory Stop) (names : List Name) (call : Callee) (r : Running)
    (pending : List Frame) (q : Run) → Pauses (Err e) names call r pending q → Leads {T = T} (Err e) r q
paused-leads T (Fault e) names call r pending q h = h
paused-leads T Memory names call r pending q h = tt

pub unspent-leads : (T : Type 0) (e : OrMemory Stop) (names own : List Name) (call : Callee) (r : Running)
    (pending : List Frame) (s : State) (next : State → Run) (q : Run) → q
    ≡ finish names own call pending (with_fuel s next) → Leads {T = T} (Err e) r (with_fuel s Goes)
    → Leads {T = T} (Err e) r q
unspent-leads T (Fault e) names own call r pending s next q is h =
    is ∙ ap (finish names own call pending) (unspent-then (end_of e) s (state_of r) next h)
    ∙ finish-ends names own call pending (end_of e) (state_of r)
unspent-leads T Memory names own call r pending s next q is h = tt

pub unbegun-leads : (T : Type 0) (e : OrMemory Stop) (names own : List Name) (call : Callee) (r : Running)
    (new old : List Frame) (b q : Run) → q ≡ finish names own call old b
    → Starts {T = T} (Err e) names own call r new old b → Leads {T = T} (Err e) r q
unbegun-leads T (Fault e) names own call r new old b q is h = is ∙ ap (finish names own call old) h
    ∙ finish-ends names own call old (end_of e) (state_of r)
unbegun-leads T Memory names own call r new old b q is h = tt

-- ---- results that are read

read-some : (results : Locals → Option (List ℕ)) (s : State) (vs : List ℕ) → results s.locals ≡ Some vs
    → returned results (Goes s) ≡ Returns vs s
read-some results s vs is = rw is refl

read-none : (results : Locals → Option (List ℕ)) (s : State) → results s.locals ≡ None → returned results (Goes s)
    ≡ Stops Undefined s
read-none results s is = rw is refl

-- the end of a call, where the results are set
pub resumes-caller : (names own : List Name) (call : Callee) (f : Frame) (from to : Bor (List ℕ)) (caller : Variables)
    (s : State) (vs : List ℕ) → f ≡ frame.Return from to caller → words_of (names_at own from.now) s.locals ≡ Some vs
    → resume names own call f s
    ≡ Goes (record s { locals = with_locals (names_at (names_of caller) to.now) vs (locals_in caller) })
resumes-caller names own call f from to caller s vs is read =
    ap (λ f. resume names own call f s) is
    ∙ ap (back_in (with_locals (names_at (names_of caller) to.now)) (locals_in caller))
    (read-some (words_of (names_at own from.now)) s vs read)

-- and where one is not
resumes-nothing : (names own : List Name) (call : Callee) (f : Frame) (from to : Bor (List ℕ)) (caller : Variables)
    (s : State) → f ≡ frame.Return from to caller → words_of (names_at own from.now) s.locals ≡ None
    → resume names own call f s ≡ Ends Undefined s
resumes-nothing names own call f from to caller s is read =
    ap (λ f. resume names own call f s) is
    ∙ ap (back_in (with_locals (names_at (names_of caller) to.now)) (locals_in caller))
    (read-none (words_of (names_at own from.now)) s read)

pub resumes-undefined : (e : OrMemory Stop) (names : List Name) (call : Callee) (r : Running) (old : List Frame)
    (f : Frame) (from to : Bor (List ℕ)) (caller : Variables) → f ≡ frame.Return from to caller
    → IsDefined (Err e) (words_of (names_at (own_of r) from.now) (state_of r).locals)
    → Resumes (Err e) names call r old old (resume names (own_of r) call f (state_of r))
resumes-undefined (Fault e) names call r old f from to caller is h =
    resumes-nothing names (own_of r) call f from to caller (state_of r) is h.1
    ∙ ap (λ e. Ends (end_of e) (state_of r)) (sym h.0)
resumes-undefined Memory names call r old f from to caller is h = tt

-- a function's body that ends before its results are read
pub back-ends : (T : Type 0) (e : OrMemory Stop) (r : Running) (results : Locals → Option (List ℕ)) (p q : Run) → p ≡ q
    → Leads {T = T} (Err e) r p → LeadsBack (Err e) r (returned results q)
back-ends T (Fault e) r results p q is h = ap (returned results) (sym is ∙ h)
back-ends T Memory r results p q is h = tt

-- and one whose results are
pub back-read : (result : Result (List ℕ) (OrMemory Stop)) (r : Running) (results : Locals → Option (List ℕ))
    (p q : Run) → p ≡ q → p ≡ Goes (state_of r) → IsDefined result (results (state_of r).locals)
    → LeadsBack result r (returned results q)
back-read (Ok vs) r results p q is goes h = ap (returned results) (sym is ∙ goes) ∙ read-some results (state_of r) vs h
back-read (Err (Fault e)) r results p q is goes h = ap (returned results) (sym is ∙ goes)
    ∙ read-none results (state_of r) h.1 ∙ ap (λ e. Stops (end_of e) (state_of r)) (sym h.0)
back-read (Err Memory) r results p q is goes h = tt

-- a function's body begins with its arguments as its only variables
pub begun : (names : List Name) (call : Callee) (f : NumberedFunc) (v after : Variables) (ks vs : List ℕ)
    (cs : List NumberedCmd) (s : State) → v.names.now ≡ f.names → locals_in v ≡ no_locals → after.names.now
    ≡ v.names.now → locals_of (names_of v) after.words ≡ with_locals (names_at (names_of v) ks) vs (locals_in v) → ks
    ≡ f.args → cs ≡ f.body
    → run_all call (named_commands names (names_of after) cs) (record s { locals = locals_in after })
    ≡ run_all call (named_function names f).body
    (record s { locals = with_locals (named_function names f).args vs no_locals })
begun names call f v after ks vs cs s own none same set is_args is_body =
    let body : List Cmd = (named_function names f).body in
    ap (λ cs. run_all call (named_commands names (names_of after) cs) (record s { locals = locals_in after })) is_body
    ∙ ap (λ (n : List Name). run_all call (named_commands names n f.body) (record s { locals = locals_in after }))
    (same ∙ own)
    ∙ ap (λ l. run_all call body (record s { locals = l }))
    (set-first f.names v after ks vs own none same set
    ∙ ap (λ ks. with_locals (names_at f.names ks) vs no_locals) is_args)
