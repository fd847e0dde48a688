-- The start: the light's pin becomes an output, and the chip is asked until it is ready.
use Rattle.std.proofs.Common.{◌≡◌, ◌≢◌, ◌⊎◌, inl, inr, ℕ, zero, suc, ◌+◌, ◌≤◌, Bool, true, false, List, [], ◌∷◌}
use Rattle.std.proofs.Common.{◌++◌, Some, ◌==◌, bit_or, refl, sym, ap, subst, ◌∙◌, arith, append_assoc, append-nil}
use Rattle.std.proofs.lemmas.Bool.{eqb-true}
use Rattle.std.proofs.lemmas.Bool.Decides.{nat_tests}
use Rattle.br_words.specs.declared.operation.BinOp.TheVariants.{Sub, Or, Eq}
use Rattle.br_words.specs.Words.{value_of_op, flag}
use Rattle.br_bytes.specs.declared.run.Event.{Event}
use Rattle.br_bytes.specs.declared.run.Event.TheVariants.{Read, Write}
use Rattle.br_bytes.specs.Memory.{Memory}
use Rattle.br_source_meaning.specs.Values.{Locals, no_locals, with_local}
use Rattle.br_source_meaning.specs.Runs.{State, Callee, with_locals, run_all}
use Rattle.br_source_meaning.specs.Calls.{run_function}
use Rattle.br_judge.specs.Languages.{◌▸◌, times, up_to}
use Rattle.br_judge.specs.Good as good
use Rattle.br_judge.specs.Good.{EN, chip_is_ready, missed, read_word, failed_read}
use Rattle.br_judge.specs.Good.{write_word, failed_write, failed_boot}
use Rattle.br_lightbulb.specs.Names as name
use Rattle.br_lightbulb.specs.Polls.{boot}
use Rattle.br_lightbulb.specs.Shows.{Begins, ShowsPiece, read_piece, write_piece, boot_piece}
use Rattle.br_lightbulb.proofs.Commands.{lit, var, op, Commands, done, set, cond, repeat, call, read, write}
use Rattle.br_lightbulb.proofs.Leads.{Leads, Stopping, upon, at_state, ends, sets, first_of_two}
use Rattle.br_lightbulb.proofs.Leads.{second_of_two, reads, writes, shown, Turns, repeats}
use Rattle.br_lightbulb.proofs.LanWrite.{writes_start}
use Rattle.br_lightbulb.proofs.Spi.{Ended, shows-body, word_of}
use Rattle.br_lightbulb.proofs.Waiting.{times_zero, times_more}
use Rattle.br_lightbulb.proofs.Words.{Words, fewer, reads_word, unready_read}

-- ---- lists of events

-- the pin is made an output
abbrev pinned : ℕ → List Event
pinned v = Read EN v ∷ Write EN (bit_or v 8388608) ∷ []

pin_is : (v : ℕ) → good.pin (pinned v)
pin_is v = (v, (Read EN v ∷ [], Write EN (bit_or v 8388608) ∷ [], refl, refl, refl))

-- the chip was asked until it was ready
abbrev Answered : List Event → Type 0
Answered = up_to 199 missed ▸ read_word 0x64 chip_is_ready

-- and never was, or a read has failed
abbrev GaveUp : List Event → Type 0
GaveUp es = times 200 missed es ⊎ (up_to 199 missed ▸ failed_read 0x64) es

gave_up : (v : ℕ) (es : List Event) → GaveUp es → failed_boot (pinned v ++ es)
gave_up v es (inl t) = inl (pinned v, es, refl, pin_is v, t)
gave_up v es (inr f) = inr (inl (pinned v, es, refl, pin_is v, f))

begun : (v : ℕ) (es fs : List Event) → Answered es → write_word 0x74 1 fs → good.boot (pinned v ++ (es ++ fs))
begun v es fs (f, g, e, u, r) w = (
  pinned v,
  es ++ fs,
  refl,
  pin_is v,
  (f, g ++ fs, ap (λ q. q ++ fs) e ∙ append_assoc f g fs, u, (g, fs, refl, r, w)),
)

not_begun : (v : ℕ) (es fs : List Event) → Answered es → failed_write 0x74 1 fs → failed_boot (pinned v ++ (es ++ fs))
not_begun v es fs (f, g, e, u, r) w =
    inr (inr (
      pinned v,
      es ++ fs,
      refl,
      pin_is v,
      (f, g ++ fs, ap (λ q. q ++ fs) e ∙ append_assoc f g fs, u, (g, fs, refl, r, w)),
    ))

-- ---- some list can always follow

answered_on : (v : ℕ) (es fs : List Event) → Answered es → Begins (write_piece 0x74 1) fs →
    Begins boot_piece (pinned v ++ (es ++ fs))
answered_on v es fs a (ws, more, inl (is, w)) = (
  0 ∷ [],
  more,
  inl (
    refl,
    subst (λ q. good.boot (pinned v ++ q)) (sym (append_assoc es fs more))
        (begun v es (fs ++ more) a w),
  ),
)
answered_on v es fs a (ws, more, inr (is, w)) = (
  1 ∷ [],
  more,
  inr (
    refl,
    subst (λ q. failed_boot (pinned v ++ q)) (sym (append_assoc es fs more))
        (not_begun v es (fs ++ more) a w),
  ),
)

answered_here : (v : ℕ) (es : List Event) → Answered es → Begins boot_piece (pinned v ++ es)
answered_here v es a = subst (λ q. Begins boot_piece (pinned v ++ q)) (append-nil es)
    (answered_on v es [] a (writes_start 0x74 1))

answered : (made : ℕ) (es fs : List Event) → made ≤ 199 → times made missed es → read_word 0x64 chip_is_ready fs →
    Answered (es ++ fs)
answered made es fs few t r = (es, fs, refl, (made, (few, t)), r)

failed_after : (made : ℕ) (es fs : List Event) → made ≤ 199 → times made missed es → failed_read 0x64 fs →
    GaveUp (es ++ fs)
failed_after made es fs few t r = inr (es, fs, refl, (made, (few, t)), r)

differs : (w : ℕ) → (w == chip_is_ready) ≡ false → w ≢ chip_is_ready
differs w h = grind (arith, nat_tests)

asked_here : (v left made : ℕ) (es : List Event) → left + made ≡ 200 → times made missed es →
    Begins boot_piece (pinned v ++ es)
asked_here v zero made es all t = (
  1 ∷ [],
  [],
  inr (
    refl,
    subst (λ q. failed_boot (pinned v ++ q)) (sym (append-nil es))
        (gave_up v es (inl (subst (λ k. times k missed es) (omega arith) t))),
  ),
)
asked_here v (suc left) made es all t =
    go (unready_read 0x64)
  where
    go : (fs : List Event) × failed_read 0x64 fs → Begins boot_piece (pinned v ++ es)
    go (fs, r) = (1 ∷ [], fs, inr (refl, gave_up v (es ++ fs) (failed_after made es fs (omega arith) t r)))

asked_on : (v left made : ℕ) (es fs : List Event) → suc left + made ≡ 200 → times made missed es →
    Begins (read_piece 0x64) fs → Begins boot_piece (pinned v ++ (es ++ fs))
asked_on v left made es fs all t (ws, more, inl (w, is, r)) = by (w == chip_is_ready) refl
  where
    by : (b : Bool) → (w == chip_is_ready) ≡ b → Begins boot_piece (pinned v ++ (es ++ fs))
    by true same =
        let ready : read_word 0x64 chip_is_ready (fs ++ more) =
        subst (λ k. read_word 0x64 k (fs ++ more)) (eqb-true w chip_is_ready same) r in
        fewer boot_piece (pinned v ++ (es ++ fs)) more
        (subst (λ q. Begins boot_piece (pinned v ++ q)) (sym (append_assoc es fs more))
        (answered_here v (es ++ (fs ++ more)) (answered made es (fs ++ more) (omega arith) t ready)))
    by false other =
        let again : missed (fs ++ more) = (w, (differs w other, r)) in
        fewer boot_piece (pinned v ++ (es ++ fs)) more
        (subst (λ q. Begins boot_piece (pinned v ++ q)) (sym (append_assoc es fs more))
        (asked_here v left (suc made) (es ++ (fs ++ more)) (omega arith)
        (times_more made missed es (fs ++ more) t again)))
asked_on v left made es fs all t (ws, more, inr (w, is, r)) = (
  1 ∷ [],
  more,
  inr (
    refl,
    subst (λ q. failed_boot (pinned v ++ q)) (sym (append_assoc es fs more))
        (gave_up v (es ++ (fs ++ more)) (failed_after made es (fs ++ more) (omega arith) t r)),
  ),
)

-- ---- the loop

-- the chip was asked so many times, and may be asked as often as is left
record Asks (l : Locals) (es : List Event) : Type 0 where
  left : ℕ
  made : ℕ
  all : left + made ≡ 200
  t : l name.t ≡ Some left
  bad : l name.bad ≡ Some 1
  missed : times made missed es

-- the chip was ready
record Ready (l : Locals) (es : List Event) : Type 0 where
  t : l name.t ≡ Some 0
  bad : l name.bad ≡ Some 0
  answered : Answered es

-- a read has failed
record Lost (l : Locals) (es : List Event) : Type 0 where
  t : l name.t ≡ Some 0
  bad : l name.bad ≡ Some 1
  gave_up : GaveUp es

data Progress (l : Locals) (es : List Event) : Type 0 where
  asks : Asks l es → Progress l es
  ready : Ready l es → Progress l es
  lost : Lost l es → Progress l es

abbrev Loops : List Event → Memory → State → Type 0
Loops U m t = (es : List Event) × (t.trace ≡ U ++ es) × (t.memory ≡ m) × Progress t.locals es

abbrev after_answer : Commands
after_answer =
    cond (var name.f) (set name.t (lit 0) done)
    (cond (op Eq (var name.w) (lit 0x87654321)) (set name.bad (lit 0) (set name.t (lit 0) done)) done done)
    done

abbrev each : Commands
each = set name.t (op Sub (var name.t) (lit 1)) (call (name.w ∷ name.f ∷ []) name.lan_read (lit 0x64 ∷ []) after_answer)

abbrev closing : Commands
closing = cond (var name.bad) done (call (name.bad ∷ []) name.lan_write (lit 0x74 ∷ lit 1 ∷ []) done) done

one_less : (k : ℕ) → suc k ≤ 200 → value_of_op Sub (suc k) 1 ≡ k
one_less k h = omega arith

-- where a run may stop after the pin was set
abbrev MayStop : ℕ → List Event → (List Event → Type 0) → Type 0
MayStop v U S = (es : List Event) → Begins boot_piece (pinned v ++ es) → S (U ++ es)

stops_at_turn : (v : ℕ) (U es : List Event) (S : List Event → Type 0) (l : Locals) → MayStop v U S → Progress l es →
    S (U ++ es)
stops_at_turn v U es S l may (asks a) = may es (asked_here v a.left a.made es a.all a.missed)
stops_at_turn v U es S l may (ready r) = may es (answered_here v es r.answered)
stops_at_turn v U es S l may (lost f) =
    may es (
      1 ∷ [],
      [],
      inr (
        refl,
        subst (λ q. failed_boot (pinned v ++ q)) (sym (append-nil es))
            (gave_up v es f.gave_up),
      ),
    )

-- the answer is looked at
looks : (C : Callee) (w left made : ℕ) (U es fs : List Event) (m : Memory) (S : List Event → Type 0) (l : Locals)
    (o : State) → suc left + made ≡ 200 → times made missed es →
    l name.t ≡ Some left → l name.bad ≡ Some 1 → read_word 0x64 w fs →
    Leads C S (Loops U m) after_answer (upon (with_locals (name.w ∷ name.f ∷ []) (w ∷ 0 ∷ []) l) m (U ++ (es ++ fs)) o)
looks C w left made U es fs m S l o all t count bad r = second_of_two {v = 0} refl refl (by (w == chip_is_ready) refl)
  where
    after : Locals
    after = with_locals (name.w ∷ name.f ∷ []) (w ∷ 0 ∷ []) l

    by : (b : Bool) → (w == chip_is_ready) ≡ b →
        Leads C S (Leads C S (Loops U m) done)
        (cond (op Eq (var name.w) (lit 0x87654321)) (set name.bad (lit 0) (set name.t (lit 0) done)) done done)
        (upon after m (U ++ (es ++ fs)) o)
    by true same =
        first_of_two {v = 1} (ap (λ b. Some (flag b)) same) refl
        (sets {v = 0} refl (sets {v = 0} refl (ends (ends (ends (
          es ++ fs,
          refl,
          refl,
          ready (record {
            t = refl;
            bad = refl;
            answered =
                answered made es fs (omega arith) t
                (subst (λ k. read_word 0x64 k fs) (eqb-true w chip_is_ready same) r);
          }),
        ))))))
    by false other =
        second_of_two {v = 0} (ap (λ b. Some (flag b)) other) refl (ends (ends (ends (
          es ++ fs,
          refl,
          refl,
          asks (record {
            left = left;
            made = suc made;
            all = omega arith;
            t = count;
            bad = bad;
            missed = times_more made missed es fs t (w, (differs w other, r));
          }),
        ))))

asks_turn : (C : Callee) (v left made : ℕ) (U es : List Event) (m : Memory) (S : List Event → Type 0) (t : State) →
    Words C → MayStop v U S → suc left + made ≡ 200 → times made missed es →
    t.locals name.t ≡ Some (suc left) → t.locals name.bad ≡ Some 1 →
    Leads C S (Loops U m) each (upon t.locals m (U ++ es) t)
asks_turn C v left made U es m S t known may all asked count bad =
    sets {v = left} (rw count (ap Some (one_less left (omega arith))))
    (reads_word U es known (λ fs p. may (es ++ fs) (asked_on v left made es fs all asked p))
    (λ w fs o r. looks C w left made U es fs m S (with_local name.t left t.locals) o all asked refl bad r)
    (λ w fs o r. first_of_two {v = 1} refl refl (sets {v = 0} refl (ends (ends (
      es ++ fs,
      refl,
      refl,
      lost (record {
        t = refl;
        bad = bad;
        gave_up =
            failed_after made es fs (omega arith) asked r;
      }),
    ))))))

-- ---- the whole

abbrev Answers : State → State → Type 0
Answers s = Ended s boot_piece (name.bad ∷ [])

moved : (T : List Event) (v : ℕ) (es : List Event) → (T ++ pinned v) ++ es ≡ T ++ (pinned v ++ es)
moved T v es = append_assoc T (pinned v) es

-- the start has failed
closes_failed : (C : Callee) (v : ℕ) (s t : State) (es : List Event) (S : List Event → Type 0) →
    t.locals name.bad ≡ Some 1 → GaveUp es →
    Leads C S (Answers s) closing (upon t.locals s.memory ((s.trace ++ pinned v) ++ es) t)
closes_failed C v s t es S bad g =
    first_of_two {v = 1} bad refl (ends
    (ends (
      1 ∷ [],
      word_of name.bad t.locals 1 bad,
      refl,
      (pinned v ++ es, moved s.trace v es, inr (refl, gave_up v es g)),
    )))

-- the chip is let receive
closes_ready : (C : Callee) (v : ℕ) (s t : State) (es : List Event) (S : List Event → Type 0) → Words C →
    MayStop v (s.trace ++ pinned v) S → t.locals name.bad ≡ Some 0 → Answered es →
    Leads C S (Answers s) closing (upon t.locals s.memory ((s.trace ++ pinned v) ++ es) t)
closes_ready C v s t es S known may bad a =
    second_of_two {v = 0} bad refl
    (shown {vs = 0x74 ∷ 1 ∷ []} {piece = write_piece 0x74 1} refl (known.writes 0x74 1) (writes_start 0x74 1)
    (λ fs p. subst S (sym (append_assoc (s.trace ++ pinned v) es fs)) (may (es ++ fs) (answered_on v es fs a p)))
    (λ ws fs o p. ends (ends (by ws fs o p))))
  where
    by : (ws : List ℕ) (fs : List Event) (o : State) → write_piece 0x74 1 ws fs →
        Answers s (upon (with_locals (name.bad ∷ []) ws t.locals) s.memory (((s.trace ++ pinned v) ++ es) ++ fs) o)
    by ws fs o (inl (is, w)) = (
      0 ∷ [],
      word_of name.bad (with_locals (name.bad ∷ []) ws t.locals) 0
          (subst (λ q. with_locals (name.bad ∷ []) q t.locals name.bad ≡ Some 0) (sym is) refl),
      refl,
      (
        pinned v ++ (es ++ fs),
        append_assoc (s.trace ++ pinned v) es fs
            ∙ moved s.trace v (es ++ fs),
        inl (refl, begun v es fs a w),
      ),
    )
    by ws fs o (inr (is, w)) = (
      1 ∷ [],
      word_of name.bad (with_locals (name.bad ∷ []) ws t.locals) 1
          (subst (λ q. with_locals (name.bad ∷ []) q t.locals name.bad ≡ Some 1) (sym is) refl),
      refl,
      (
        pinned v ++ (es ++ fs),
        append_assoc (s.trace ++ pinned v) es fs
            ∙ moved s.trace v (es ++ fs),
        inr (refl, not_begun v es fs a w),
      ),
    )

-- a turn of the loop
turn : (C : Callee) (v : ℕ) (s : State) (S : List Event → Type 0) → Words C → MayStop v (s.trace ++ pinned v) S →
    (t : State) → Loops (s.trace ++ pinned v) s.memory t →
    Turns C S (Loops (s.trace ++ pinned v) s.memory) (Leads C S (Answers s) closing) (var name.t) each t
turn C v s S known may t (es, e, m, asks a) = record {
  word = a.left;
  has = a.t;
  stops = subst S (sym e) (stops_at_turn v (s.trace ++ pinned v) es S t.locals may (asks a));
  over = λ is. at_state C S (Answers s) closing t s.memory ((s.trace ++ pinned v) ++ es) m e
      (closes_failed C v s t es S a.bad (inl (never a.left a.made a.all is a.missed)));
  on = λ is k. at_state C S (Loops (s.trace ++ pinned v) s.memory) each (record t { fuel = k }) s.memory
      ((s.trace ++ pinned v) ++ es) m e
      (again a.left a.all a.t is k);
}
  where
    never : (left made : ℕ) → left + made ≡ 200 → (left == 0) ≡ true → times made missed es → times 200 missed es
    never left made all none q = subst (λ k. times k missed es) (let z : left ≡ 0 = eqb-true left 0 none in omega arith)
        q

    again : (left : ℕ) → left + a.made ≡ 200 → t.locals name.t ≡ Some left → (left == 0) ≡ false → (k : ℕ) →
        Leads C S (Loops (s.trace ++ pinned v) s.memory) each
        (upon t.locals s.memory ((s.trace ++ pinned v) ++ es) (record t { fuel = k }))
    again zero all count some k = cc
    again (suc left) all count some k =
        asks_turn C v left a.made (s.trace ++ pinned v) es s.memory S (record t { fuel = k })
        known may all a.missed count a.bad
turn C v s S known may t (es, e, m, ready r) = record {
  word = 0;
  has = r.t;
  stops = subst S (sym e) (stops_at_turn v (s.trace ++ pinned v) es S t.locals may (ready r));
  over = λ is. at_state C S (Answers s) closing t s.memory ((s.trace ++ pinned v) ++ es) m e
      (closes_ready C v s t es S known may r.bad r.answered);
  on = λ is k. cc;
}
turn C v s S known may t (es, e, m, lost f) = record {
  word = 0;
  has = f.t;
  stops = subst S (sym e) (stops_at_turn v (s.trace ++ pinned v) es S t.locals may (lost f));
  over = λ is. at_state C S (Answers s) closing t s.memory ((s.trace ++ pinned v) ++ es) m e
      (closes_failed C v s t es S f.bad f.gave_up);
  on = λ is k. cc;
}

pub boots_start : Begins boot_piece []
boots_start = go (asked_here 0 200 0 [] refl (times_zero missed))
  where
    go : Begins boot_piece (pinned 0 ++ []) → Begins boot_piece []
    go (ws, more, p) = (ws, pinned 0 ++ more, p)

abbrev asking : Commands
asking = set name.bad (lit 1) (set name.t (lit 200) (repeat (var name.t) each closing))

pub shows-boot : (C : Callee) (s : State) → Words C → ShowsPiece s boot_piece (run_function C boot [] s)
shows-boot C s known =
    let s0 : State = record s { locals = no_locals } in
    let leads : Leads C (Stopping s.trace boot_piece) (Answers s)
    (read name.v 0x10012008 (write 0x10012008 (op Or (var name.v) (lit 0x800000)) asking)) s0 =
    reads refl ([], sym (append-nil s.trace), boots_start)
    (λ v vs. writes {v = bit_or v 8388608} refl refl
    (at_state C (Stopping s.trace boot_piece) (Answers s) asking
    (record s {
      locals = with_local name.v v no_locals;
      trace =
          (s.trace ++ Read EN v ∷ []) ++ Write EN (bit_or v 8388608) ∷ [];
      answers = vs;
    }) s.memory
    ((s.trace ++ pinned v) ++ []) refl
    (append_assoc s.trace (Read EN v ∷ []) (Write EN (bit_or v 8388608) ∷ []) ∙ sym (append-nil (s.trace ++ pinned v)))
    (sets {v = 1} refl (sets {v = 200} refl
    (repeats (Loops (s.trace ++ pinned v) s.memory) (turn C v s (Stopping s.trace boot_piece) known (stops s v)) (
      [],
      refl,
      refl,
      asks (record {
        left = 200;
        made = 0;
        all = refl;
        t = refl;
        bad = refl;
        missed =
            times_zero missed;
      }),
    )))))) in
    shows-body s boot_piece (name.bad ∷ []) (run_all C boot.body s0) leads.does
  where
    stops : (s : State) (v : ℕ) → MayStop v (s.trace ++ pinned v) (Stopping s.trace boot_piece)
    stops s v es b = (pinned v ++ es, moved s.trace v es, b)
