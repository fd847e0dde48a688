-- A word of the chip is written.
use Rattle.std.proofs.Common.{◌≡◌, ◌⊎◌, inl, inr, ℕ, zero, suc, ◌/◌, ◌<◌, ◌≤◌, List, [], ◌∷◌, ◌++◌}
use Rattle.std.proofs.Common.{drop, Some, refl, sym, ap, subst, ◌∙◌, arith, append_assoc, append-nil}
use Rattle.std.proofs.lemmas.Nat.{and_mask}
use Rattle.br_words.specs.declared.operation.BinOp.TheVariants.{And, Sru, Slu, Ltu}
use Rattle.br_words.specs.Words.{value_of_op}
use Rattle.br_bytes.specs.declared.run.Event.{Event}
use Rattle.br_bytes.specs.declared.run.Event.TheVariants.{Write}
use Rattle.br_bytes.specs.Memory.{Memory}
use Rattle.br_bytes.specs.Number.{low_bytes}
use Rattle.br_source_meaning.specs.Values.{Locals, no_locals}
use Rattle.br_source_meaning.specs.Runs.{State, Callee, with_locals, run_all}
use Rattle.br_source_meaning.specs.Calls.{run_function}
use Rattle.br_judge.specs.Good.{CS, write_bytes, exchanges, failed_exchanges, write_word, failed_write}
use Rattle.br_lightbulb.specs.Names as name
use Rattle.br_lightbulb.specs.Lan.{lan_write}
use Rattle.br_lightbulb.specs.Shows.{Begins, ShowsPiece, write_piece}
use Rattle.br_lightbulb.proofs.Commands.{lit, var, op, Commands, done, repeat, write}
use Rattle.br_lightbulb.proofs.Leads.{Leads, Stopping, upon, at_state, ends, sets}
use Rattle.br_lightbulb.proofs.Leads.{first_of_two, second_of_two, writes, Turns, repeats}
use Rattle.br_lightbulb.proofs.Transfers.{Sent, all_sent, some_exchanges, MayStop, Exchanges, exchanges_byte}
use Rattle.br_lightbulb.proofs.Opening.{exchange, unless_bad, opening, opens}
use Rattle.br_lightbulb.proofs.LanRead.{one_more, less, not_less, framed, next_index, closing}
use Rattle.br_lightbulb.proofs.Spi.{Ended, shows-body, word_of}

-- byte k of a word, as the firmware takes it
abbrev byte_sent : ℕ → ℕ → ℕ
byte_sent v k = value_of_op And (value_of_op Sru v (value_of_op Slu k 3)) 255

next_byte : (v k : ℕ) → k < 4 → drop k (low_bytes 4 v) ≡ byte_sent v k ∷ drop (suc k) (low_bytes 4 v)
next_byte v zero few = ap (λ b. b ∷ drop 1 (low_bytes 4 v)) (sym (and_mask (v / 1) 8 ∙ omega arith))
next_byte v (suc zero) few = ap (λ b. b ∷ drop 2 (low_bytes 4 v)) (sym (and_mask (v / 256) 8))
next_byte v (suc (suc zero)) few = ap (λ b. b ∷ drop 3 (low_bytes 4 v)) (sym (and_mask (v / 65536) 8 ∙ omega arith))
next_byte v (suc (suc (suc zero))) few = ap (λ b. b ∷ []) (sym (and_mask (v / 16777216) 8 ∙ omega arith))
next_byte v (suc (suc (suc (suc k)))) few = absurd (too_many k few)
  where
    too_many : (k : ℕ) → suc (suc (suc (suc k))) < 4 → ⊥
    too_many k h = omega arith

-- ---- the loop

-- so many bytes of the word were sent
record Sends (a v : ℕ) (l : Locals) (es : List Event) : Type 0 where
  k : ℕ
  received : List ℕ
  few : k ≤ 4
  bad : l name.bad ≡ Some 0
  i : l name.i ≡ Some k
  word : l name.v ≡ Some v
  sent : Sent (write_bytes a v) (drop k (low_bytes 4 v)) received es

-- a byte has failed
record Lost (a v : ℕ) (l : Locals) (es : List Event) : Type 0 where
  k : ℕ
  few : k ≤ 4
  bad : l name.bad ≡ Some 1
  i : l name.i ≡ Some k
  failed : failed_exchanges (write_bytes a v) es

abbrev Loops : ℕ → ℕ → List Event → Memory → State → Type 0
Loops a v U m t = (es : List Event) × (t.trace ≡ U ++ es) × (t.memory ≡ m) ×
    (Sends a v t.locals es ⊎ Lost a v t.locals es)

abbrev each : Commands
each = exchange (op And (op Sru (var name.v) (op Slu (var name.i) (lit 3))) (lit 255)) done

sends_turn : (C : Callee) (a v : ℕ) (U es : List Event) (m : Memory) (S : List Event → Type 0) (t : State) →
    Exchanges C → MayStop (write_bytes a v) U S → (g : Sends a v t.locals es) → g.k < 4 →
    Leads C S (Loops a v U m) (unless_bad each next_index) (upon t.locals m (U ++ es) t)
sends_turn C a v U es m S t known may g less =
    second_of_two {v = 0} g.bad refl
    (exchanges_byte (write_bytes a v) (drop (suc g.k) (low_bytes 4 v)) g.received (byte_sent v g.k) U es known may
    (rw (g.word, g.i) refl)
    (subst (λ (q : List ℕ). Sent (write_bytes a v) q g.received es) (next_byte v g.k less) g.sent)
    (λ r fs o byte sent. ends (sets {v = suc g.k} (rw g.i (ap Some (one_more g.k g.few)))
    (ends (
      fs,
      refl,
      refl,
      inl (record {
        k = suc g.k;
        received = g.received ++ r ∷ [];
        few = less;
        bad = refl;
        i = refl;
        word = g.word;
        sent = sent;
      }),
    ))))
    (λ fs o f. ends (sets {v = suc g.k} (rw g.i (ap Some (one_more g.k g.few)))
    (ends (fs, refl, refl, inr (record { k = suc g.k; few = less; bad = refl; i = refl; failed = f }))))))

lost_turn : (C : Callee) (a v : ℕ) (U es : List Event) (m : Memory) (S : List Event → Type 0) (t : State) →
    (g : Lost a v t.locals es) → g.k < 4 →
    Leads C S (Loops a v U m) (unless_bad each next_index) (upon t.locals m (U ++ es) t)
lost_turn C a v U es m S t g less =
    first_of_two {v = 1} g.bad refl
    (ends (sets {v = suc g.k} (rw g.i (ap Some (one_more g.k g.few)))
    (ends (es, refl, refl, inr (record { k = suc g.k; few = less; bad = g.bad; i = refl; failed = g.failed })))))

-- a run may stop at each turn
stops_at_turn : (a v : ℕ) (U es : List Event) (S : List Event → Type 0) (l : Locals) → MayStop (write_bytes a v) U S →
    (Sends a v l es ⊎ Lost a v l es) → S (U ++ es)
stops_at_turn a v U es S l may (inl g) = go (some_exchanges (drop g.k (low_bytes 4 v)))
  where
    go : (rs : List ℕ) × (fs : List Event) × exchanges (drop g.k (low_bytes 4 v)) rs fs → S (U ++ es)
    go (rs, fs, x) = may es fs (inl (g.received ++ rs, g.sent.on rs fs x))
stops_at_turn a v U es S l may (inr g) =
    may es [] (inr (subst (failed_exchanges (write_bytes a v)) (sym (append-nil es)) g.failed))

-- ---- the whole

whole : (a v : ℕ) (rs : List ℕ) (es : List Event) → exchanges (write_bytes a v) rs es →
    write_word a v (Write CS 2 ∷ (es ++ Write CS 0 ∷ []))
whole a v rs es x = (Write CS 2 ∷ [], es ++ Write CS 0 ∷ [], refl, refl, (es, Write CS 0 ∷ [], refl, (rs, x), refl))

whole_failed : (a v : ℕ) (es : List Event) → failed_exchanges (write_bytes a v) es →
    failed_write a v (Write CS 2 ∷ (es ++ Write CS 0 ∷ []))
whole_failed a v es x = (Write CS 2 ∷ [], es ++ Write CS 0 ∷ [], refl, refl, (es, Write CS 0 ∷ [], refl, x, refl))

abbrev Answers : ℕ → ℕ → State → State → Type 0
Answers a v s = Ended s (write_piece a v) (name.bad ∷ [])

-- the chip is released once the word was sent
released_sent : (C : Callee) (a v : ℕ) (s t : State) (es : List Event) (S : List Event → Type 0) →
    (g : Sends a v t.locals es) → g.k ≡ 4 →
    Leads C S (Answers a v s) closing (upon t.locals s.memory ((s.trace ++ Write CS 2 ∷ []) ++ es) t)
released_sent C a v s t es S g all =
    let none : drop g.k (low_bytes 4 v) ≡ [] = ap (λ k. drop k (low_bytes 4 v)) all in
    writes {v = 0} refl refl (ends (
      0 ∷ [],
      word_of name.bad t.locals 0 g.bad,
      refl,
      (
        Write CS 2 ∷ (es ++ Write CS 0 ∷ []),
        framed s.trace (Write CS 2) es (Write CS 0),
        inl (
          refl,
          whole a v g.received es
              (all_sent (write_bytes a v) g.received es
              (subst (λ (q : List ℕ). Sent (write_bytes a v) q g.received es) none g.sent)),
        ),
      ),
    ))

-- and where a byte has failed
released_lost : (C : Callee) (a v : ℕ) (s t : State) (es : List Event) (S : List Event → Type 0) →
    Lost a v t.locals es →
    Leads C S (Answers a v s) closing (upon t.locals s.memory ((s.trace ++ Write CS 2 ∷ []) ++ es) t)
released_lost C a v s t es S g =
    writes {v = 0} refl refl (ends (
      1 ∷ [],
      word_of name.bad t.locals 1 g.bad,
      refl,
      (
        Write CS 2 ∷ (es ++ Write CS 0 ∷ []),
        framed s.trace (Write CS 2) es (Write CS 0),
        inr
            (refl, whole_failed a v es g.failed),
      ),
    ))

-- a turn of the loop
turn : (C : Callee) (a v : ℕ) (s : State) (S : List Event → Type 0) → Exchanges C →
    MayStop (write_bytes a v) (s.trace ++ Write CS 2 ∷ []) S →
    (t : State) → Loops a v (s.trace ++ Write CS 2 ∷ []) s.memory t →
    Turns C S (Loops a v (s.trace ++ Write CS 2 ∷ []) s.memory) (Leads C S (Answers a v s) closing)
    (op Ltu (var name.i) (lit 4)) (unless_bad each next_index) t
turn C a v s S known may t (es, e, m, inl g) = record {
  word = value_of_op Ltu g.k 4;
  has = rw g.i refl;
  stops = subst S (sym e) (stops_at_turn a v (s.trace ++ Write CS 2 ∷ []) es S t.locals may (inl g));
  over = λ is. at_state C S (Answers a v s) closing t s.memory ((s.trace ++ Write CS 2 ∷ []) ++ es) m e
      (released_sent C a v s t es S g (not_less g.k g.few is));
  on = λ is k. at_state C S (Loops a v (s.trace ++ Write CS 2 ∷ []) s.memory) (unless_bad each next_index)
      (record t { fuel = k }) s.memory ((s.trace ++ Write CS 2 ∷ []) ++ es) m e
      (sends_turn C a v (s.trace ++ Write CS 2 ∷ []) es s.memory S (record t { fuel = k }) known may g (less g.k is));
}
turn C a v s S known may t (es, e, m, inr g) = record {
  word = value_of_op Ltu g.k 4;
  has = rw g.i refl;
  stops = subst S (sym e) (stops_at_turn a v (s.trace ++ Write CS 2 ∷ []) es S t.locals may (inr g));
  over = λ is. at_state C S (Answers a v s) closing t s.memory ((s.trace ++ Write CS 2 ∷ []) ++ es) m e
      (released_lost C a v s t es S g);
  on = λ is k. at_state C S (Loops a v (s.trace ++ Write CS 2 ∷ []) s.memory) (unless_bad each next_index)
      (record t { fuel = k }) s.memory ((s.trace ++ Write CS 2 ∷ []) ++ es) m e
      (lost_turn C a v (s.trace ++ Write CS 2 ∷ []) es s.memory S (record t { fuel = k }) g (less g.k is));
}

-- where a run may stop after the chip was selected
stops : (a v : ℕ) (s : State) →
    MayStop (write_bytes a v) (s.trace ++ Write CS 2 ∷ []) (Stopping s.trace (write_piece a v))
stops a v s es more (inl (rs, x)) = (
  Write CS 2 ∷ es,
  append_assoc s.trace (Write CS 2 ∷ []) es,
  (
    0 ∷ [],
    more ++ Write CS 0 ∷ [],
    inl (
      refl,
      subst (λ q. write_word a v (Write CS 2 ∷ q)) (append_assoc es more (Write CS 0 ∷ []))
          (whole a v rs (es ++ more) x),
    ),
  ),
)
stops a v s es more (inr x) = (
  Write CS 2 ∷ es,
  append_assoc s.trace (Write CS 2 ∷ []) es,
  (
    1 ∷ [],
    more ++ Write CS 0 ∷ [],
    inr (
      refl,
      subst (λ q. failed_write a v (Write CS 2 ∷ q)) (append_assoc es more (Write CS 0 ∷ []))
          (whole_failed a v (es ++ more) x),
    ),
  ),
)

pub writes_start : (a v : ℕ) → Begins (write_piece a v) []
writes_start a v = go (some_exchanges (write_bytes a v))
  where
    go : (rs : List ℕ) × (es : List Event) × exchanges (write_bytes a v) rs es → Begins (write_piece a v) []
    go (rs, es, x) = (0 ∷ [], Write CS 2 ∷ (es ++ Write CS 0 ∷ []), inl (refl, whole a v rs es x))

pub shows-write : (C : Callee) (a v : ℕ) (s : State) → Exchanges C →
    ShowsPiece s (write_piece a v) (run_function C lan_write (a ∷ v ∷ []) s)
shows-write C a v s known =
    let S : List Event → Type 0 = Stopping s.trace (write_piece a v) in
    let s0 : State = record s { locals = with_locals (name.a ∷ name.v ∷ []) (a ∷ v ∷ []) no_locals } in
    let cs : Commands = repeat (op Ltu (var name.i) (lit 4)) (unless_bad each next_index) closing in
    let leads : Leads C S (Answers a v s) (write 0x10024018 (lit 2) (opening 2 cs)) s0 =
    writes {v = 2} refl refl (by C a v s known) in
    shows-body s (write_piece a v) (name.bad ∷ []) (run_all C lan_write.body s0) leads.does
  where
    by : (C : Callee) (a v : ℕ) (s : State) → Exchanges C →
        Leads C (Stopping s.trace (write_piece a v)) (Answers a v s)
        (opening 2 (repeat (op Ltu (var name.i) (lit 4)) (unless_bad each next_index) closing))
        (upon (with_locals (name.a ∷ name.v ∷ []) (a ∷ v ∷ []) no_locals) s.memory (s.trace ++ Write CS 2 ∷ []) s)
    by C a v s known =
        at_state C (Stopping s.trace (write_piece a v)) (Answers a v s)
        (opening 2 (repeat (op Ltu (var name.i) (lit 4)) (unless_bad each next_index) closing))
        (upon (with_locals (name.a ∷ name.v ∷ []) (a ∷ v ∷ []) no_locals) s.memory (s.trace ++ Write CS 2 ∷ []) s)
        s.memory ((s.trace ++ Write CS 2 ∷ []) ++ []) refl (sym (append-nil (s.trace ++ Write CS 2 ∷ [])))
        (opens a v (low_bytes 4 v) (s.trace ++ Write CS 2 ∷ []) known (stops a v s) refl refl
        (λ l r0 r1 r2 es o k sent. repeats (Loops a v (s.trace ++ Write CS 2 ∷ []) s.memory)
        (turn C a v s (Stopping s.trace (write_piece a v)) known (stops a v s)) (
          es,
          refl,
          refl,
          inl (record {
            k = 0;
            received = r0 ∷ r1 ∷ r2 ∷ [];
            few = omega arith;
            bad = k.bad_is;
            i =
                k.i;
            word = k.v_is;
            sent = sent;
          }),
        ))
        (λ l es o k f. repeats (Loops a v (s.trace ++ Write CS 2 ∷ []) s.memory)
        (turn C a v s (Stopping s.trace (write_piece a v)) known (stops a v s))
        (es, refl, refl, inr (record { k = 0; few = omega arith; bad = k.bad_is; i = k.i; failed = f }))))
