-- Functions in register form: arguments are taken from registers and results put there, within the buffer where
-- there is one.
use Rattle.std.proofs.Common.{◌≡◌, ◌≢◌, ℕ, zero, suc, ◌+◌, ◌-◌, ◌*◌, ◌<◌, ◌≤◌, nat_lt, Bool, true, false, List, [], ◌∷◌}
use Rattle.std.proofs.Common.{◌++◌, map, length, Option, Some, None, ◌⊎◌, inl, inr, refl, sym, ap, subst, ◌∙◌, arith}
use mathlib.Core.Path.{fun_ext}
use Rattle.std.specs.FinMap as map
use Rattle.std.specs.List.{list_all}
use Rattle.std.proofs.lemmas.Bool.Decides.{nat_tests}
use Rattle.br_words.specs.Layout.{stack_base, stack_end}
use Rattle.br_bytes.specs.declared.run.Choice.{Choice}
use Rattle.br_bytes.specs.Memory.{place}
use Rattle.br_bytes.specs.Buffers.{AreWords, AreChoices, without_range}
use Rattle.br_bytes.specs.Runs.{Goes, Ends, then_do, with_defined, with_buffer, returned}
use Rattle.br_flatimp.specs.declared.program.Stmt.{Stmt}
use Rattle.br_flatimp.specs.declared.program.Stmt.TheOpen.{Stmt-F}
use Rattle.br_flatimp.specs.declared.program.Stmt.TheViews.{roll-Stmt}
use Rattle.br_flatimp.specs.declared.program.FlatFunc.{FlatFunc}
use Rattle.br_flatimp.specs.Parts.{throughout}
use Rattle.br_flatimp.specs.Values.{no_locals, with_local, with_locals, words_of}
use Rattle.br_flatimp.specs.WellFormed.{are_below, is_well_formed_statement}
use Rattle.br_flatimp.specs.Runs.{State, Run, Callee, forgets_none, run_all, run_function}
use Rattle.br_spill.specs.Spill.{Layout, Fits, passes, takes, in_order, joined}
use Rattle.br_spill.specs.Spill.{spilled, in_buffer, spilled_function, words_fit}
use Rattle.br_spill.proofs.Follows.{given, Choosing, Follows, follows-from, follows-goes}
use Rattle.br_spill.proofs.Follows.{follows-then, follows-weaker, follows-source, begun}
use Rattle.br_spill.proofs.Follows.{taken_back, follows-own_buffer, CallFollows, follows-returned}
use Rattle.br_spill.proofs.Extra.{Extra, Extends, with_extra, extra-other, extra-some, with_extra-extends, without-own}
use Rattle.br_spill.proofs.Scene.{Frame, Scene, Outside, At, with-same, with-other}
use Rattle.br_spill.proofs.Pieces.{does, does-append, does-after, defined, all_passed, all_taken, words-same}
use Rattle.br_spill.proofs.Straight.{MakesWords}
use Rattle.br_spill.proofs.Control.{does-one, Good, good_parts, buffer-place, free_at}
use Rattle.br_spill.proofs.Calls.{ReturnsIn, CalleesFollow, words-back, length-words}
use Rattle.br_spill.proofs.Statements.{statements-follow}

-- a function that has ended, with its results in the registers that pass them
record Ended (g : Scene) (f : FlatFunc) (s t : State) : Type 0 where
  words : List ℕ
  are_words : AreWords words
  first : words_of (in_order 10 (length f.results)) s.locals ≡ Some words
  second : words_of f.results t.locals ≡ Some words
  related : At g s t

-- the results are read
abbrev checked : FlatFunc → State → Run
checked f u = with_defined (words_of f.results u.locals) u (λ vs. Goes u)

returned-checked : (f : FlatFunc) (r : Run)
    → returned (words_of f.results) (then_do r (checked f)) ≡ returned (words_of f.results) r
returned-checked f (Ends end u) = refl
returned-checked f (Goes u) = by (words_of f.results u.locals) refl
  where
    by : (o : Option (List ℕ)) → words_of f.results u.locals ≡ o
        → returned (words_of f.results) (with_defined (words_of f.results u.locals) u (λ vs. Goes u))
        ≡ returned (words_of f.results) (Goes u)
    by None e = rw e refl
    by (Some vs) e = ap (returned (words_of f.results)) (defined (words_of f.results u.locals) vs u (λ vs. Goes u) e)

results-follow : (g : Scene) (q : Callee) (f : FlatFunc) → are_below g.names f.results ≡ true → length f.results ≤ 8
    → (u v : State) → At g u v
    → Follows (Ended g f) (does q (passes (map g.layout.place f.results) 10) u) (λ ds. checked f (given v ds))
results-follow g q f inside few u v h =
    follows-source (Ended g f) (does q (passes (map g.layout.place f.results) 10) u) (words_of f.results v.locals) v
    (λ ds vs. Goes (given v ds)) (λ ws is.
    let a = all_passed g q f.results u v 10 ws h inside is (omega arith) (omega (arith, few)) in
    let after : State = record u { locals = a.locals } in
    follows-from (Ended g f) (does q (passes (map g.layout.place f.results) 10) u) (Goes after)
    (λ ds. Goes (given v ds)) a.runs
    (follows-goes (Ended g f) after v
    (record { words = ws; are_words = a.are_words; first = a.words; second = is; related = a.related })))

-- what holds of a function of a program
pub record Sound (fs : List FlatFunc) (f : FlatFunc) : Type 0 where
  pub args : are_below f.names f.args ≡ true
  pub few_args : length f.args ≤ 8
  pub results : are_below f.names f.results ≡ true
  pub few_results : length f.results ≤ 8
  pub body : list_all (is_well_formed_statement fs f.names) f.body ≡ true
  pub words : list_all (throughout words_fit) f.body ≡ true

abbrev scene : (l : Layout) (f : FlatFunc) → Fits f.names l → (frame : Frame) → frame.size ≡ 4 * l.slots → Scene
scene l f fits frame size = record { layout = l; names = f.names; fits = fits; frame = frame; size = size }

abbrev whole_body : Layout → FlatFunc → List Stmt
whole_body l f = takes (map l.place f.args) 10 ++ (joined (map (spilled l) f.body) ++ passes (map l.place f.results) 10)

-- the body of the function that it comes from, and its results
abbrev other_body : Callee → FlatFunc → List ℕ → State → Choosing
other_body p f vs t ds = then_do
    (run_all forgets_none p f.body (record (given t ds) { locals = with_locals f.args vs no_locals })) (checked f)

body-follows : MakesWords → (fs : List FlatFunc) (l : Layout) (f : FlatFunc) (fits : Fits f.names l) (frame : Frame)
    (size : frame.size ≡ 4 * l.slots) (q p : Callee) → CalleesFollow fs q p → Sound fs f
    → (vs : List ℕ) (s t : State) → At (scene l f fits frame size) s (record t { locals = no_locals })
    → words_of (in_order 10 (length f.args)) s.locals ≡ Some vs → AreWords vs
    → Follows (Ended (scene l f fits frame size) f) (does q (whole_body l f) s) (other_body p f vs t)
body-follows makes fs l f fits frame size q p callees sound vs s t h is words =
    let g = scene l f fits frame size in
    let few = sound.few_args in
    let w = all_taken g q f.args s (record t { locals = no_locals }) 10 vs h sound.args is words (omega arith)
    (omega (arith, few)) in
    let t1 : State = record t { locals = with_locals f.args vs no_locals } in
    let body = joined (map (spilled l) f.body) in
    let passing = passes (map l.place f.results) 10 in
    follows-from (Ended g f) (does q (whole_body l f) s) (then_do (does q body w.after) (does q passing))
    (other_body p f vs t)
    (does-after q (takes (map l.place f.args) 10) (body ++ passing) s w.after w.runs
    ∙ does-append q body passing w.after)
    (follows-then (At g) (Ended g f) (does q body w.after) (λ ds. run_all forgets_none p f.body (given t1 ds))
    (does q passing) (checked f)
    (statements-follow makes fs g q p callees f.body sound.body sound.words w.after t1 w.related)
    (λ u v k. results-follow g q f sound.results sound.few_results u v k))

-- ---- with and without a buffer

-- a function that has ended, back among the extra bytes of its caller
record Finished (e : Extra) (f : FlatFunc) (s t : State) : Type 0 where
  words : List ℕ
  are_words : AreWords words
  first : words_of (in_order 10 (length f.results)) s.locals ≡ Some words
  second : words_of f.results t.locals ≡ Some words
  outside : Outside e s t

-- a scene whose buffer stands at an address
record EndedIn (e : Extra) (f : FlatFunc) (a n : ℕ) (s t : State) : Type 0 where
  scene : Scene
  base : scene.frame.base ≡ a
  size : scene.frame.size ≡ n
  outer : scene.frame.outer ≡ e
  ended : Ended scene f s t

outer-same : (g : Scene) (s t : State) (h : At g s t) → g.frame.size ≡ 0 → h.extra ≡ g.frame.outer
outer-same g s t h none = fun_ext (λ x. h.others x (by x (nat_lt x g.frame.base) refl))
  where
    by : (x : ℕ) (b : Bool) → nat_lt x g.frame.base ≡ b → (x < g.frame.base) ⊎ (g.frame.base + g.frame.size ≤ x)
    by x true e = inl (grind (arith, nat_tests))
    by x false e = inr (past g.frame.base g.frame.size none (grind (arith, nat_tests)))
      where
        past : (b n : ℕ) → n ≡ 0 → b ≤ x → b + n ≤ x
        past b n none le = omega (arith, none, le)

-- the buffer leaves the memory
buffer-leaves : (g : Scene) (s t : State) → At g s t
    → Extends g.frame.outer (without_range s.memory g.frame.base g.frame.size) t.memory
buffer-leaves g s t h =
    without-own g.frame.outer h.extra s.memory t.memory g.frame.base g.frame.size h.outside.memory h.inner h.others

finish : (e : Extra) (f : FlatFunc) (c : Choice) (n : ℕ) (s t : State) → EndedIn e f c.addr n s t
    → Finished e f (taken_back c n s) t
finish e f c n s t k =
    let h = k.ended.related in
    let g = k.scene in
    let one = subst (λ o. Extends o (without_range s.memory g.frame.base g.frame.size) t.memory) k.outer
    (buffer-leaves g s t h) in
    let two = subst (λ a. Extends e (without_range s.memory a g.frame.size) t.memory) k.base one in
    record {
      words = k.ended.words;
      are_words = k.ended.are_words;
      first = k.ended.first;
      second = k.ended.second;
      outside = record {
        memory = subst (λ m. Extends e (without_range s.memory c.addr m) t.memory) k.size two;
        trace = h.outside.trace;
        answers = h.outside.answers;
        words = h.outside.words;
        choices = h.outside.choices;
        fuel = h.outside.fuel;
      };
    }

-- a frame with no buffer, and one with a buffer where a choice is
abbrev no_frame : (e : Extra) → ((x : ℕ) → x < stack_base → e x ≡ None) → Frame
no_frame e over = record { base = stack_base; size = 0; outer = e; low = omega arith; high = omega arith; over = over }

start-none : (l : Layout) (f : FlatFunc) (fits : Fits f.names l) (e : Extra) (over : (x : ℕ) → x < stack_base
    → e x ≡ None) (size : 0 ≡ 4 * l.slots) (s t : State) → l.slots ≡ 0 → Outside e s t
    → At (scene l f fits (no_frame e over) size) s (record t { locals = no_locals })
start-none l f fits e over size s t none h = record {
  extra = e;
  outside = record {
    memory = h.memory;
    trace = h.trace;
    answers = h.answers;
    words = h.words;
    choices = h.choices;
    fuel = h.fuel;
  };
  inner = λ x low high. absurd (omega (arith, low, high));
  others = λ x out. refl;
  base = λ some. absurd (some none);
  held = λ x v less is. absurd (cc is);
}

abbrev buffer_frame : (e : Extra) → ((x : ℕ) → x < stack_base → e x ≡ None) → (c : Choice) (n : ℕ) → stack_base ≤ c.addr
    → c.addr + n ≤ stack_end → Frame
buffer_frame e over c n low high = record { base = c.addr; size = n; outer = e; low = low; high = high; over = over }

start-buffer : (l : Layout) (f : FlatFunc) (fits : Fits f.names l) (e : Extra) (over : (x : ℕ) → x < stack_base
    → e x ≡ None) (c : Choice) (n : ℕ) (size : n ≡ 4 * l.slots) (rest : List Choice) (s t : State)
    → Outside e s t → (good : Good n s.memory c) → AreChoices rest
    → At (scene l f fits (buffer_frame e over c n good.low good.high) size) (given (begun (with_local 3) c s) rest)
    (record t { locals = no_locals })
start-buffer l f fits e over c n size rest s t h good choices = record {
  extra = with_extra e c.addr c.bytes;
  outside = record {
    memory = with_extra-extends c.bytes e s.memory t.memory c.addr h.memory none;
    trace = h.trace;
    answers = h.answers;
    words = h.words;
    choices = choices;
    fuel = h.fuel;
  };
  inner = λ q low high. (some q low high, (free_at n e s.memory t.memory c h.memory good q low high).0);
  others =
      λ q out. extra-other c.bytes e c.addr q (λ i l same. apart q out i (buffer-place n s.memory c good i l) same);
  base = λ some. with-same 3 c.addr s.locals;
  held = λ x v less is. absurd (cc is);
}
  where
    none : (i : ℕ) → i < length c.bytes → map.get t.memory (place (c.addr + i)) ≡ None
    none i l =
        let here = buffer-place n s.memory c good i l in
        let under = here.1 in
        let count = good.count in
        ap (map.get t.memory) here.0
        ∙ (free_at n e s.memory t.memory c h.memory good (c.addr + i) (omega arith) (omega (arith, under, count))).1

    some : (q : ℕ) → c.addr ≤ q → q < c.addr + n → with_extra e c.addr c.bytes q ≢ None
    some q low high =
        let count = good.count in
        let l : q - c.addr < length c.bytes = omega (arith, low, high, count) in
        let here : c.addr + (q - c.addr) ≡ q = omega (arith, low) in
        extra-some c.bytes e c.addr q (q - c.addr) l (sym ((buffer-place n s.memory c good (q - c.addr) l).0 ∙ here))

    apart : (q : ℕ) → (q < c.addr) ⊎ (c.addr + n ≤ q) → (i : ℕ)
        → (place (c.addr + i) ≡ c.addr + i) × (c.addr + i < c.addr + length c.bytes) → q ≡ place (c.addr + i) → ⊥
    apart q (inl l) i here same = let is = same ∙ here.0 in omega (arith, l, is)
    apart q (inr l) i here same = let is = same ∙ here.0 in let under = here.1 in let count = good.count in
        omega (arith, l, is, under, count)

pub function-follows : MakesWords → (fs : List FlatFunc) (l : Layout) (f : FlatFunc) → Fits f.names l → (q p : Callee)
    → CalleesFollow fs q p → Sound fs f
    → (vs : List ℕ) → length vs ≡ length f.args → AreWords vs → (e : Extra) (s t : State) → Outside e s t
    → ((x : ℕ) → x < stack_base → e x ≡ None)
    → CallFollows (ReturnsIn e f) (run_function forgets_none q (spilled_function l f) vs s)
    (λ ds. run_function forgets_none p f vs (given t ds))
function-follows makes fs l f fits q p callees sound vs size words e s t h over =
    subst (λ r. CallFollows (ReturnsIn e f) (run_function forgets_none q (spilled_function l f) vs s) r)
    (fun_ext (λ ds. returned-checked f
    (run_all forgets_none p f.body (record (given t ds) { locals = with_locals f.args vs no_locals }))))
    (follows-returned (Finished e f) (ReturnsIn e f) (words_of (in_order 10 (length f.results))) (words_of f.results)
    (does q (in_buffer l.slots (whole_body l f)) s1) (other_body p f vs t) (by l.slots refl)
    (λ u v k. record {
      words = k.words;
      first = k.first;
      second = k.second;
      related =
          record { outside = k.outside; words = k.are_words; count = length-words f.results v.locals k.words k.second };
    }))
  where
    s1 : State
    s1 = record s { locals = with_locals (in_order 10 (length f.args)) vs no_locals }

    there : words_of (in_order 10 (length f.args)) s1.locals ≡ Some vs
    there = words-back (length f.args) 10 vs no_locals size

    outside : Outside e s1 t
    outside = record {
      memory = h.memory;
      trace = h.trace;
      answers = h.answers;
      words = h.words;
      choices = h.choices;
      fuel = h.fuel;
    }

    by : (n : ℕ) → l.slots ≡ n → Follows (Finished e f) (does q (in_buffer n (whole_body l f)) s1) (other_body p f vs t)
    by zero none =
        let none_of_four : 0 ≡ 4 * l.slots = omega (arith, none) in
        let g = scene l f fits (no_frame e over) none_of_four in
        follows-weaker (Ended g f) (Finished e f) (does q (whole_body l f) s1) (other_body p f vs t)
        (body-follows makes fs l f fits (no_frame e over) none_of_four q p callees sound vs s1 t
        (start-none l f fits e over none_of_four s1 t none outside) there words)
        (λ u v k. record {
          words = k.words;
          are_words = k.are_words;
          first = k.first;
          second = k.second;
          outside = subst (λ o. Outside o u v) (outer-same g u v k.related refl) k.related.outside;
        })
    by (suc n) some =
        let bytes = 4 * suc n in
        let all : bytes ≡ 4 * l.slots = omega (arith, some) in
        let y : Stmt-F Stmt = Stmt-F.Stackalloc 3 bytes (whole_body l f) in
        follows-from (Finished e f) (does q (roll-Stmt y ∷ []) s1)
        (with_buffer (with_local 3) bytes (does q (whole_body l f)) s1) (other_body p f vs t) (does-one q y s1)
        (follows-own_buffer (Finished e f) (λ c. EndedIn e f c.addr bytes) bytes (with_local 3)
        (does q (whole_body l f)) (other_body p f vs t) s1 h.choices
        (λ c rest is choices good.
        let parts = good_parts bytes s1.memory c good in
        let frame = buffer_frame e over c bytes parts.low parts.high in
        let g = scene l f fits frame all in
        let s2 : State = given (begun (with_local 3) c s1) rest in
        let words_there = words-same (length f.args) 10 s1.locals s2.locals (omega arith) (let few = sound.few_args in
        omega (arith, few)) (λ y low high. with-other 3 c.addr y s1.locals (λ same. omega (arith, low, same)))
        ∙ there in
        follows-weaker (Ended g f) (EndedIn e f c.addr bytes) (does q (whole_body l f) s2) (other_body p f vs t)
        (body-follows makes fs l f fits frame all q p callees sound vs s2 t
        (start-buffer l f fits e over c bytes all rest s1 t outside parts choices) words_there words)
        (λ u v k. record { scene = g; base = refl; size = refl; outer = refl; ended = k }))
        (λ c u v is good k. finish e f c bytes u v k))
