-- The functions for bytes over SPI.
use Rattle.std.proofs.Common.{◌≡◌, ◌⊎◌, inl, inr, ℕ, zero, suc, ◌+◌, ◌%◌, List, [], ◌∷◌, ◌++◌, Option, Some}
use Rattle.std.proofs.Common.{bit_and, refl, sym, ap, subst, ◌∙◌, arith, append_assoc, append-nil, lit<}
use Rattle.std.proofs.lemmas.Nat.{and_mask}
use Rattle.br_words.specs.declared.operation.BinOp.TheVariants.{And}
use Rattle.br_bytes.specs.declared.run.Event.{Event}
use Rattle.br_bytes.specs.declared.run.Event.TheVariants.{Read, Write}
use Rattle.br_bytes.specs.Runs.{Goes, Ends, Returns, Stops, returned}
use Rattle.br_syntax.specs.declared.program.Expr.TheVariants.{Literal, Var, Op}
use Rattle.br_syntax.specs.declared.program.Cmd.{Cmd}
use Rattle.br_syntax.specs.declared.program.Cmd.TheVariants as cmd
use Rattle.br_syntax.specs.declared.program.Func.{Func}
use Rattle.br_source_meaning.specs.Values.{Name, Locals, no_locals}
use Rattle.br_source_meaning.specs.Runs.{State, Run, Returned, Callee, set_to, with_locals, run_all}
use Rattle.br_source_meaning.specs.Calls.{words_of, run_function, function_of}
use Rattle.br_judge.specs.Languages.{◌▸◌, times, up_to}
use Rattle.br_judge.specs.Good as good
use Rattle.br_judge.specs.Good.{TX, RX, IsLow, busy, ready}
use Rattle.br_lightbulb.specs.Names as name
use Rattle.br_lightbulb.specs.Spi.{write, wait_loop, spi_put, spi_get, spi_xchg}
use Rattle.br_lightbulb.specs.Shows.{Piece, Begins, ShowsPiece, put_piece, get_piece, exchange_piece, HasSpi}
use Rattle.br_lightbulb.proofs.Does.{Does, DoesCall, value-lit, value-var, value-op, does-set}
use Rattle.br_lightbulb.proofs.Does.{does-first, does-second, does-write, does-call}
use Rattle.br_lightbulb.proofs.Waiting.{Loops, Finishes, times_zero, does-wait}

-- ---- a function's body, and what the call shows

-- a state in which the body may end
abbrev pub Ended : State → Piece → List Name → State → Type 0
Ended s piece results t =
    (ws : List ℕ) × (words_of results t.locals ≡ Some ws) × (t.memory ≡ s.memory) ×
    ((es : List Event) × (t.trace ≡ s.trace ++ es) × piece ws es)

-- a state in which it may stop
abbrev pub Stopped : State → Piece → State → Type 0
Stopped s piece t = (es : List Event) × (t.trace ≡ s.trace ++ es) × Begins piece es

pub shows-body : (s : State) (piece : Piece) (results : List Name) (r : Run) →
    Does (Ended s piece results) (Stopped s piece) r → ShowsPiece s piece (returned (words_of results) r)
shows-body s piece results (Goes t) (ws, is, m, (es, e, p)) = rw is (es, e, m, p)
shows-body s piece results (Ends end t) h = h

-- ---- spi_put

abbrev Sending : ℕ → Locals → Type 0
Sending b l = (l name.bad ≡ Some 1) × (l name.b ≡ Some b)

abbrev Sends : ℕ → ℕ → Locals → Type 0
Sends b w l = (l name.bad ≡ Some 0) × (l name.b ≡ Some b)

abbrev send_ready : List Cmd
send_ready = cmd.Set name.bad (Literal 0) ∷ cmd.Set name.n (Literal 0) ∷ []

put_whole : (b w : ℕ) (es : List Event) → (up_to 999 (busy TX) ▸ ready TX w) es → good.spi_put b (es ++ Write TX b ∷ [])
put_whole b w es (f, g, h, u, r) = (
  f,
  g ++ Write TX b ∷ [],
  ap (λ q. q ++ Write TX b ∷ []) h
      ∙ append_assoc f g (Write TX b ∷ []),
  u,
  (g, Write TX b ∷ [], refl, (w, r), refl),
)

put_begins : (b left made : ℕ) (es : List Event) → left + made ≡ 1000 → times made (busy TX) es →
    Begins (put_piece b) es
put_begins b zero made es all t =
    let whole : made ≡ 1000 = omega arith in (
      1 ∷ [],
      [],
      inr (
        refl,
        subst (λ q. times 1000 (busy TX) q) (sym (append-nil es))
            (subst (λ k. times k (busy TX) es) whole t),
      ),
    )
put_begins b (suc left) made es all t = (
  0 ∷ [],
  Read TX 0 ∷ Write TX b ∷ [],
  inl (
    refl,
    (
      es,
      Read TX 0 ∷ Write TX b ∷ [],
      refl,
      (made, (omega arith, t)),
      (Read TX 0 ∷ [], Write TX b ∷ [], refl, (0, (lit< tt, refl)), refl),
    ),
  ),
)

put_stops : (b : ℕ) (s t : State) → Loops TX s.trace s.memory (Sending b) (Sends b) t → Stopped s (put_piece b) t
put_stops b s t (inl i) = (i.events, i.trace, put_begins b i.left i.made i.events i.all i.busy)
put_stops b s t (inr r) = (
  r.events,
  r.trace,
  (0 ∷ [], Write TX b ∷ [], inl (refl, put_whole b r.word r.events r.ready)),
)

put_finish : (C : Callee) (b : ℕ) (s : State) →
    Finishes C TX send_ready s.trace s.memory (Sending b) (Sends b) (Stopped s (put_piece b))
put_finish C b s w t es has keeps memory trace r =
    let Q : State → Type 0 = Loops TX s.trace s.memory (Sending b) (Sends b) in
    let S : State → Type 0 = Stopped s (put_piece b) in
    let t1 : State = set_to name.bad 0 t in
    does-set C name.bad (Literal 0) (cmd.Set name.n (Literal 0) ∷ []) t 0 Q S (value-lit t.locals t.memory 0)
    (does-set C name.n (Literal 0) [] t1 0 Q S (value-lit t1.locals t1.memory 0)
    (inr (record {
      word = w;
      n = refl;
      holds =
          (refl, keeps.1);
      memory = memory;
      events = es;
      trace = trace;
      ready = r;
    })))

same_count : (k : ℕ) (o : Option ℕ) → o ≡ Some k → o ≡ Some 0 → k ≡ 0
same_count k o h z = let e : Some k ≡ Some 0 = sym h ∙ z in cc

pub word_of : (x : Name) (l : Locals) (v : ℕ) → l x ≡ Some v → words_of (x ∷ []) l ≡ Some (v ∷ [])
word_of x l v h = rw h refl

put_ends : (C : Callee) (b : ℕ) (s t : State) → Loops TX s.trace s.memory (Sending b) (Sends b) t →
    t.locals name.n ≡ Some 0 →
    Does (Ended s (put_piece b) (name.bad ∷ [])) (Stopped s (put_piece b))
    (run_all C (cmd.If (Var name.bad) [] (write TX (Var name.b) ∷ []) ∷ []) t)
put_ends C b s t (inl i) over =
    let Q : State → Type 0 = Ended s (put_piece b) (name.bad ∷ []) in
    let none : i.left ≡ 0 = same_count i.left (t.locals name.n) i.n over in
    let whole : i.made ≡ 1000 = omega (arith, i.all) in
    does-first C (Var name.bad) [] (write TX (Var name.b) ∷ []) [] t 1 Q (Stopped s (put_piece b))
    (value-var t.locals t.memory name.bad 1 i.keeps.0) refl (
      1 ∷ [],
      word_of name.bad t.locals 1 i.keeps.0,
      i.memory,
      (i.events, i.trace, inr (refl, subst (λ k. times k (busy TX) i.events) whole i.busy)),
    )
put_ends C b s t (inr r) over =
    let Q : State → Type 0 = Ended s (put_piece b) (name.bad ∷ []) in
    does-second C (Var name.bad) [] (write TX (Var name.b) ∷ []) [] t 0 Q (Stopped s (put_piece b))
    (value-var t.locals t.memory name.bad 0 r.holds.0) refl
    (does-write C TX (Var name.b) [] t b Q (Stopped s (put_piece b)) refl
    (value-var t.locals t.memory name.b b r.holds.1) (
      0 ∷ [],
      word_of name.bad t.locals 0 r.holds.0,
      r.memory,
      (
        r.events ++ Write TX b ∷ [],
        ap (λ q. q ++ Write TX b ∷ []) r.trace
            ∙ append_assoc s.trace r.events (Write TX b ∷ []),
        inl (refl, put_whole b r.word r.events r.ready),
      ),
    ))

pub shows-put : (C : Callee) (b : ℕ) (s : State) → ShowsPiece s (put_piece b) (run_function C spi_put (b ∷ []) s)
shows-put C b s =
    let Q : State → Type 0 = Ended s (put_piece b) (name.bad ∷ []) in
    let S : State → Type 0 = Stopped s (put_piece b) in
    let rest : List Cmd = wait_loop TX send_ready ∷ cmd.If (Var name.bad) [] (write TX (Var name.b) ∷ []) ∷ [] in
    let s0 : State = record s { locals = with_locals (name.b ∷ []) (b ∷ []) no_locals } in
    let s1 : State = set_to name.bad 1 s0 in
    let s2 : State = set_to name.n 1000 s1 in
    shows-body s (put_piece b) (name.bad ∷ []) (run_all C spi_put.body s0)
    (does-set C name.bad (Literal 1) (cmd.Set name.n (Literal 1000) ∷ rest) s0 1 Q S (value-lit s0.locals s0.memory 1)
    (does-set C name.n (Literal 1000) rest s1 1000 Q S (value-lit s1.locals s1.memory 1000)
    (does-wait C TX send_ready (cmd.If (Var name.bad) [] (write TX (Var name.b) ∷ []) ∷ []) s.trace s.memory (Sending b)
    (Sends b) S Q refl
    (record { word = λ l v h. h; count = λ l v h. h }) (put_finish C b s) (put_stops b s) (put_ends C b s) s2
    (record {
      left = 1000;
      made = 0;
      all = refl;
      n = refl;
      keeps =
          (refl, refl);
      memory = refl;
      events = [];
      trace = sym (append-nil s.trace);
      busy = times_zero (busy TX);
    }))))

-- ---- spi_get

abbrev Receiving : Locals → Type 0
Receiving l = (l name.bad ≡ Some 1) × (l name.b ≡ Some 0)

abbrev Receives : ℕ → Locals → Type 0
Receives w l = (l name.bad ≡ Some 0) × (l name.b ≡ Some (w % 256))

abbrev get_ready : List Cmd
get_ready = cmd.Set name.bad (Literal 0) ∷ cmd.Set name.b (Op And (Var name.w) (Literal 255)) ∷ cmd.Set name.n
    (Literal 0) ∷ []

get_whole : (w : ℕ) (es : List Event) → (up_to 999 (busy RX) ▸ ready RX w) es → good.spi_get (w % 256) es
get_whole w es (f, g, h, u, r) = (f, g, h, u, (w, (refl, r)))

get_begins : (left made : ℕ) (es : List Event) → left + made ≡ 1000 → times made (busy RX) es → Begins get_piece es
get_begins zero made es all t =
    let whole : made ≡ 1000 = omega arith in (
      0 ∷ 1 ∷ [],
      [],
      inr (
        refl,
        subst (λ q. times 1000 (busy RX) q) (sym (append-nil es))
            (subst (λ k. times k (busy RX) es) whole t),
      ),
    )
get_begins (suc left) made es all t = (
  0 ∷ 0 ∷ [],
  Read RX 0 ∷ [],
  inl
      (0, refl, (es, Read RX 0 ∷ [], refl, (made, (omega arith, t)), (0, (refl, (lit< tt, refl))))),
)

get_stops : (s t : State) → Loops RX s.trace s.memory Receiving Receives t → Stopped s get_piece t
get_stops s t (inl i) = (i.events, i.trace, get_begins i.left i.made i.events i.all i.busy)
get_stops s t (inr r) = (
  r.events,
  r.trace,
  (
    r.word % 256 ∷ 0 ∷ [],
    [],
    inl (
      r.word % 256,
      refl,
      subst (good.spi_get (r.word % 256)) (sym (append-nil r.events))
          (get_whole r.word r.events r.ready),
    ),
  ),
)

get_finish : (C : Callee) (s : State) →
    Finishes C RX get_ready s.trace s.memory Receiving Receives (Stopped s get_piece)
get_finish C s w t es has keeps memory trace r =
    let Q : State → Type 0 = Loops RX s.trace s.memory Receiving Receives in
    let S : State → Type 0 = Stopped s get_piece in
    let t1 : State = set_to name.bad 0 t in
    let v : ℕ = bit_and w 255 in
    let t2 : State = set_to name.b v t1 in
    does-set C name.bad (Literal 0)
    (cmd.Set name.b (Op And (Var name.w) (Literal 255)) ∷ cmd.Set name.n (Literal 0) ∷ []) t 0 Q S
    (value-lit t.locals t.memory 0)
    (does-set C name.b (Op And (Var name.w) (Literal 255)) (cmd.Set name.n (Literal 0) ∷ []) t1 v Q S
    (value-op t1.locals t1.memory And (Var name.w) (Literal 255) w 255 (value-var t1.locals t1.memory name.w w has)
    (value-lit t1.locals t1.memory 255))
    (does-set C name.n (Literal 0) [] t2 0 Q S (value-lit t2.locals t2.memory 0)
    (inr (record {
      word = w;
      n = refl;
      holds =
          (refl, ap Some (and_mask w 8));
      memory = memory;
      events = es;
      trace = trace;
      ready = r;
    }))))

pub words_of_two : (x y : Name) (l : Locals) (u v : ℕ) → l x ≡ Some u → l y ≡ Some v →
    words_of (x ∷ y ∷ []) l ≡ Some (u ∷ v ∷ [])
words_of_two x y l u v h k = rw (h, k) refl

get_ends : (s t : State) → Loops RX s.trace s.memory Receiving Receives t → t.locals name.n ≡ Some 0 →
    Ended s get_piece (name.b ∷ name.bad ∷ []) t
get_ends s t (inl i) over =
    let none : i.left ≡ 0 = same_count i.left (t.locals name.n) i.n over in
    let whole : i.made ≡ 1000 = omega (arith, i.all) in (
      0 ∷ 1 ∷ [],
      words_of_two name.b name.bad t.locals 0 1 i.keeps.1 i.keeps.0,
      i.memory,
      (i.events, i.trace, inr (refl, subst (λ k. times k (busy RX) i.events) whole i.busy)),
    )
get_ends s t (inr r) over = (
  r.word % 256 ∷ 0 ∷ [],
  words_of_two name.b name.bad t.locals (r.word % 256) 0 r.holds.1 r.holds.0,
  r.memory,
  (r.events, r.trace, inl (r.word % 256, refl, get_whole r.word r.events r.ready)),
)

pub shows-get : (C : Callee) (s : State) → ShowsPiece s get_piece (run_function C spi_get [] s)
shows-get C s =
    let Q : State → Type 0 = Ended s get_piece (name.b ∷ name.bad ∷ []) in
    let S : State → Type 0 = Stopped s get_piece in
    let s0 : State = record s { locals = no_locals } in
    let s1 : State = set_to name.b 0 s0 in
    let s2 : State = set_to name.bad 1 s1 in
    let s3 : State = set_to name.n 1000 s2 in
    shows-body s get_piece (name.b ∷ name.bad ∷ []) (run_all C spi_get.body s0)
    (does-set C name.b (Literal 0) (cmd.Set name.bad (Literal 1) ∷ cmd.Set name.n (Literal 1000)
    ∷ wait_loop RX get_ready ∷ []) s0 0 Q S (value-lit s0.locals s0.memory 0)
    (does-set C name.bad (Literal 1) (cmd.Set name.n (Literal 1000) ∷ wait_loop RX get_ready ∷ []) s1 1 Q S
    (value-lit s1.locals s1.memory 1)
    (does-set C name.n (Literal 1000) (wait_loop RX get_ready ∷ []) s2 1000 Q S (value-lit s2.locals s2.memory 1000)
    (does-wait C RX get_ready [] s.trace s.memory Receiving Receives S Q refl
    (record { word = λ l v h. h; count = λ l v h. h }) (get_finish C s) (get_stops s) (get_ends s) s3
    (record {
      left = 1000;
      made = 0;
      all = refl;
      n = refl;
      keeps =
          (refl, refl);
      memory = refl;
      events = [];
      trace = sym (append-nil s.trace);
      busy = times_zero (busy RX);
    })))))

-- ---- spi_xchg

-- what is known of the functions that it calls
abbrev pub Puts : Callee → Type 0
Puts C = (b : ℕ) (s : State) → ShowsPiece s (put_piece b) (C name.spi_put (b ∷ []) s)

abbrev pub Gets : Callee → Type 0
Gets C = (s : State) → ShowsPiece s get_piece (C name.spi_get [] s)

get_some : good.spi_get 0 (Read RX 0 ∷ [])
get_some = ([], Read RX 0 ∷ [], refl, (0, (omega arith, times_zero (busy RX))), (0, (refl, (lit< tt, refl))))

-- the first events of a put are those of an exchange
begins_of_put : (b : ℕ) (es : List Event) → Begins (put_piece b) es → Begins (exchange_piece b) es
begins_of_put b es (ws, rest, inl (is, p)) = (
  0 ∷ 0 ∷ [],
  rest ++ Read RX 0 ∷ [],
  inl
      (0, refl, (es ++ rest, Read RX 0 ∷ [], sym (append_assoc es rest (Read RX 0 ∷ [])), p, get_some)),
)
begins_of_put b es (ws, rest, inr (is, p)) = (0 ∷ 1 ∷ [], rest, inr (refl, inl p))

-- and a put, and then the first events of a get
begins_of_get : (b : ℕ) (es fs : List Event) → good.spi_put b es → Begins get_piece fs →
    Begins (exchange_piece b) (es ++ fs)
begins_of_get b es fs put (ws, rest, inl (r, is, p)) =
    (r ∷ 0 ∷ [], rest, inl (r, refl, (es, fs ++ rest, append_assoc es fs rest, put, p)))
begins_of_get b es fs put (ws, rest, inr (is, p)) =
    (0 ∷ 1 ∷ [], rest, inr (refl, inr (es, fs ++ rest, append_assoc es fs rest, put, p)))

-- what a call shows, as the caller goes on
pub does-shown : (s : State) (piece : Piece) (Q : List ℕ → State → Type 0) (S : State → Type 0) (r : Returned) →
    ShowsPiece s piece r →
    ((ws : List ℕ) (t : State) (es : List Event) → t.trace ≡ s.trace ++ es → t.memory ≡ s.memory → piece ws es →
    Q ws t) →
    ((t : State) (es : List Event) → t.trace ≡ s.trace ++ es → Begins piece es → S t) → DoesCall Q S r
does-shown s piece Q S (Returns ws t) (es, e, m, p) goes stops = goes ws t es e m p
does-shown s piece Q S (Stops end t) (defined, (es, e, p)) goes stops = (defined, stops t es e p)

abbrev get_call : List Cmd
get_call = cmd.Call 0 (name.r ∷ name.bad ∷ []) name.spi_get [] ∷ []

abbrev last_part : List Cmd
last_part = cmd.If (Var name.bad) [] get_call ∷ []

joined_trace : (T es fs u w : List Event) → u ≡ T ++ es → w ≡ u ++ fs → w ≡ T ++ (es ++ fs)
joined_trace T es fs u w h k = k ∙ ap (λ q. q ++ fs) h ∙ append_assoc T es fs

-- after the byte was received
got : (b : ℕ) (s u : State) (es : List Event) → u.trace ≡ s.trace ++ es → u.memory ≡ s.memory → good.spi_put b es →
    (ws : List ℕ) (t : State) (fs : List Event) → t.trace ≡ u.trace ++ fs → t.memory ≡ u.memory → get_piece ws fs →
    Ended s (exchange_piece b) (name.r ∷ name.bad ∷ [])
    (record t { locals = with_locals (name.r ∷ name.bad ∷ []) ws u.locals })
got b s u es e m put ws t fs f k (inl (r, is, p)) = (
  r ∷ 0 ∷ [],
  subst (λ q. words_of (name.r ∷ name.bad ∷ []) (with_locals (name.r ∷ name.bad ∷ []) q u.locals) ≡ Some (r ∷ 0 ∷ []))
      (sym is) refl,
  k ∙ m,
  (es ++ fs, joined_trace s.trace es fs u.trace t.trace e f, inl (r, refl, (es, fs, refl, put, p))),
)
got b s u es e m put ws t fs f k (inr (is, p)) = (
  0 ∷ 1 ∷ [],
  subst (λ q. words_of (name.r ∷ name.bad ∷ []) (with_locals (name.r ∷ name.bad ∷ []) q u.locals) ≡ Some (0 ∷ 1 ∷ []))
      (sym is) refl,
  k ∙ m,
  (es ++ fs, joined_trace s.trace es fs u.trace t.trace e f, inr (refl, inr (es, fs, refl, put, p))),
)

-- after the byte was sent, or the port stayed busy
was_put : (C : Callee) (b : ℕ) (s u : State) (es : List Event) → Gets C → u.trace ≡ s.trace ++ es →
    u.memory ≡ s.memory → u.locals name.r ≡ Some 0 →
    ((u.locals name.bad ≡ Some 0) × good.spi_put b es) ⊎ ((u.locals name.bad ≡ Some 1) × good.failed_put es) →
    Does (Ended s (exchange_piece b) (name.r ∷ name.bad ∷ [])) (Stopped s (exchange_piece b)) (run_all C last_part u)
was_put C b s u es gets e m r (inl (bad, put)) =
    let Q : State → Type 0 = Ended s (exchange_piece b) (name.r ∷ name.bad ∷ []) in
    let S : State → Type 0 = Stopped s (exchange_piece b) in
    does-second C (Var name.bad) [] get_call [] u 0 Q S (value-var u.locals u.memory name.bad 0 bad) refl
    (does-call C (name.r ∷ name.bad ∷ []) name.spi_get [] [] u [] Q S refl (
      es,
      e,
      subst (Begins (exchange_piece b)) (append-nil es)
          (begins_of_get b es [] put (get_begins 1000 0 [] refl (times_zero (busy RX)))),
    )
    (λ k. does-shown (record u { fuel = k }) get_piece
    (λ ws t. Q (record t { locals = with_locals (name.r ∷ name.bad ∷ []) ws u.locals })) S
    (C name.spi_get [] (record u { fuel = k })) (gets (record u { fuel = k }))
    (got b s u es e m put)
    (λ t fs f p. (es ++ fs, joined_trace s.trace es fs u.trace t.trace e f, begins_of_get b es fs put p))))
was_put C b s u es gets e m r (inr (bad, fail)) =
    does-first C (Var name.bad) [] get_call [] u 1 (Ended s (exchange_piece b) (name.r ∷ name.bad ∷ []))
    (Stopped s (exchange_piece b)) (value-var u.locals u.memory name.bad 1 bad) refl
    (0 ∷ 1 ∷ [], words_of_two name.r name.bad u.locals 0 1 r bad, m, (es, e, inr (refl, inl fail)))

put_answer : (C : Callee) (b : ℕ) (s s1 : State) → Gets C → s1.trace ≡ s.trace → s1.memory ≡ s.memory →
    s1.locals name.r ≡ Some 0 →
    (ws : List ℕ) (t : State) (es : List Event) → t.trace ≡ s1.trace ++ es → t.memory ≡ s1.memory → put_piece b ws es →
    Does (Ended s (exchange_piece b) (name.r ∷ name.bad ∷ [])) (Stopped s (exchange_piece b))
    (run_all C last_part (record t { locals = with_locals (name.bad ∷ []) ws s1.locals }))
put_answer C b s s1 gets same kept r ws t es e m (inl (is, p)) =
    was_put C b s (record t { locals = with_locals (name.bad ∷ []) ws s1.locals }) es gets (e ∙ ap (λ q. q ++ es) same)
    (m ∙ kept)
    (subst (λ q. with_locals (name.bad ∷ []) q s1.locals name.r ≡ Some 0) (sym is) r)
    (inl (subst (λ q. with_locals (name.bad ∷ []) q s1.locals name.bad ≡ Some 0) (sym is) refl, p))
put_answer C b s s1 gets same kept r ws t es e m (inr (is, p)) =
    was_put C b s (record t { locals = with_locals (name.bad ∷ []) ws s1.locals }) es gets (e ∙ ap (λ q. q ++ es) same)
    (m ∙ kept)
    (subst (λ q. with_locals (name.bad ∷ []) q s1.locals name.r ≡ Some 0) (sym is) r)
    (inr (subst (λ q. with_locals (name.bad ∷ []) q s1.locals name.bad ≡ Some 1) (sym is) refl, p))

pub shows-exchange : (C : Callee) (b : ℕ) (s : State) → Puts C → Gets C →
    ShowsPiece s (exchange_piece b) (run_function C spi_xchg (b ∷ []) s)
shows-exchange C b s puts gets =
    let Q : State → Type 0 = Ended s (exchange_piece b) (name.r ∷ name.bad ∷ []) in
    let S : State → Type 0 = Stopped s (exchange_piece b) in
    let s0 : State = record s { locals = with_locals (name.b ∷ []) (b ∷ []) no_locals } in
    let s1 : State = set_to name.r 0 s0 in
    let none : Begins (exchange_piece b) [] = begins_of_put b [] (put_begins b 1000 0 [] refl (times_zero (busy TX))) in
    shows-body s (exchange_piece b) (name.r ∷ name.bad ∷ []) (run_all C spi_xchg.body s0)
    (does-set C name.r (Literal 0) (cmd.Call 0 (name.bad ∷ []) name.spi_put (Var name.b ∷ []) ∷ last_part) s0 0 Q S
    (value-lit s0.locals s0.memory 0)
    (does-call C (name.bad ∷ []) name.spi_put (Var name.b ∷ []) last_part s1 (b ∷ []) Q S
    (rw (value-var s1.locals s1.memory name.b b refl) refl)
    ([], sym (append-nil s.trace), none)
    (λ k. does-shown (record s1 { fuel = k }) (put_piece b)
    (λ ws t. Does Q S (run_all C last_part (record t { locals = with_locals (name.bad ∷ []) ws s1.locals }))) S
    (C name.spi_put (b ∷ []) (record s1 { fuel = k })) (puts b (record s1 { fuel = k }))
    (put_answer C b s s1 gets refl refl refl)
    (λ t es e p. (es, e, begins_of_put b es p)))))

-- ---- at any depth

puts_at : (fs : List Func) → HasSpi fs → (depth : ℕ) → Puts (function_of fs depth)
puts_at fs has zero b s = (tt, ([], sym (append-nil s.trace), put_begins b 1000 0 [] refl (times_zero (busy TX))))
puts_at fs has (suc depth) b s = rw has.put (shows-put (function_of fs depth) b s)

gets_at : (fs : List Func) → HasSpi fs → (depth : ℕ) → Gets (function_of fs depth)
gets_at fs has zero s = (tt, ([], sym (append-nil s.trace), get_begins 1000 0 [] refl (times_zero (busy RX))))
gets_at fs has (suc depth) s = rw has.get (shows-get (function_of fs depth) s)

pub put-pieces : (fs : List Func) → HasSpi fs →
    (depth b : ℕ) (s : State) → ShowsPiece s (put_piece b) (function_of fs depth name.spi_put (b ∷ []) s)
put-pieces fs has depth b s = puts_at fs has depth b s

pub get-pieces : (fs : List Func) → HasSpi fs →
    (depth : ℕ) (s : State) → ShowsPiece s get_piece (function_of fs depth name.spi_get [] s)
get-pieces fs has depth s = gets_at fs has depth s

pub exchange-pieces : (fs : List Func) → HasSpi fs →
    (depth b : ℕ) (s : State) → ShowsPiece s (exchange_piece b) (function_of fs depth name.spi_xchg (b ∷ []) s)
exchange-pieces fs has zero b s =
    (tt, ([], sym (append-nil s.trace), begins_of_put b [] (put_begins b 1000 0 [] refl (times_zero (busy TX)))))
exchange-pieces fs has (suc depth) b s =
    rw has.xchg (shows-exchange (function_of fs depth) b s (puts_at fs has depth) (gets_at fs has depth))
