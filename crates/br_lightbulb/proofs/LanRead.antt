-- A word of the chip is read.
use Rattle.std.proofs.Common.{◌≡◌, ◌⊎◌, inl, inr, ℕ, suc, ◌+◌, ◌*◌, ◌^◌, ◌<◌, ◌≤◌, true, false, List, [], ◌∷◌, ◌++◌}
use Rattle.std.proofs.Common.{length, drop, Some, ◌==◌, refl, sym, ap, subst, ◌∙◌, arith, append_assoc, append-nil}
use Rattle.std.proofs.lemmas.Grind.{or_before_shift}
use Rattle.std.proofs.lemmas.Bool.Decides.{nat_tests}
use Rattle.br_words.specs.declared.operation.BinOp.TheVariants.{Add, Or, Slu, Ltu}
use Rattle.br_words.specs.Words.{value_of_op}
use Rattle.br_bytes.specs.declared.run.Event.{Event}
use Rattle.br_bytes.specs.declared.run.Event.TheVariants.{Write}
use Rattle.br_bytes.specs.Memory.{Memory}
use Rattle.br_bytes.specs.Number.{number_of}
use Rattle.br_source_meaning.specs.Values.{Locals, no_locals, with_local}
use Rattle.br_source_meaning.specs.Runs.{State, Callee, with_locals, run_all}
use Rattle.br_source_meaning.specs.Calls.{run_function}
use Rattle.br_judge.specs.Good.{CS, read_bytes, exchanges, failed_exchanges, read_word, failed_read}
use Rattle.br_lightbulb.specs.Names as name
use Rattle.br_lightbulb.specs.Lan.{lan_read}
use Rattle.br_lightbulb.specs.Shows.{Begins, ShowsPiece, read_piece}
use Rattle.br_lightbulb.proofs.Commands.{lit, var, op, Commands, done, set, repeat, write}
use Rattle.br_lightbulb.proofs.Leads.{Leads, Stopping, upon, at_state, ends, sets}
use Rattle.br_lightbulb.proofs.Leads.{first_of_two, second_of_two, writes, Turns, repeats}
use Rattle.br_lightbulb.proofs.Transfers.{Sent, all_sent, some_exchanges, MayStop, Exchanges, exchanges_byte}
use Rattle.br_lightbulb.proofs.Opening.{exchange, unless_bad, opening, opens}
use Rattle.br_lightbulb.proofs.Spi.{Ended, shows-body, words_of_two}

-- ---- the word, byte by byte

-- what is sent in exchange for the bytes of the word
abbrev four_zeros : List ℕ
four_zeros = 0 ∷ 0 ∷ 0 ∷ 0 ∷ []

-- one more byte above those that came before it
pub record Joins (n r : ℕ) (ds : List ℕ) : Type 0 where
  pub sum : value_of_op Or n (value_of_op Slu r (value_of_op Slu (length ds) 3)) ≡ n + 256 ^ length ds * r
  pub number : n + 256 ^ length ds * r ≡ number_of (ds ++ r ∷ [])
  pub below : n + 256 ^ length ds * r < 256 ^ length (ds ++ r ∷ [])
  pub more : length (ds ++ r ∷ []) ≡ suc (length ds)
  pub next : drop (length ds) four_zeros ≡ 0 ∷ drop (length (ds ++ r ∷ [])) four_zeros

joins : (n r : ℕ) (ds : List ℕ) → length ds < 4 → n ≡ number_of ds → n < 256 ^ length ds → r < 256 → Joins n r ds
joins n r [] few is below byte = record {
  sum = or_before_shift n r 1 (2 ^ 32) refl below (omega arith) ∙ omega arith;
  number = omega arith;
  below = omega arith;
  more = refl;
  next = refl;
}
joins n r (d0 ∷ []) few is below byte = record {
  sum = or_before_shift n r 256 (2 ^ 32) refl below (omega arith) ∙ omega arith;
  number = omega arith;
  below = omega arith;
  more = refl;
  next = refl;
}
joins n r (d0 ∷ d1 ∷ []) few is below byte = record {
  sum = or_before_shift n r 65536 (2 ^ 32) refl below (omega arith) ∙ omega arith;
  number = omega arith;
  below = omega arith;
  more = refl;
  next = refl;
}
joins n r (d0 ∷ d1 ∷ d2 ∷ []) few is below byte = record {
  sum = or_before_shift n r 16777216 (2 ^ 32) refl below (omega arith) ∙ omega arith;
  number = omega arith;
  below = omega arith;
  more = refl;
  next = refl;
}
joins n r (d0 ∷ d1 ∷ d2 ∷ d3 ∷ ds) few is below byte = absurd (too_many (length ds) few)
  where
    too_many : (k : ℕ) → suc (suc (suc (suc k))) < 4 → ⊥
    too_many k h = omega arith

-- ---- the loop

abbrev left_after : List ℕ → List ℕ
left_after ds = drop (length ds) four_zeros

-- these bytes of the word were received
record Got (a : ℕ) (l : Locals) (es : List Event) : Type 0 where
  r0 : ℕ
  r1 : ℕ
  r2 : ℕ
  ds : List ℕ
  n : ℕ
  few : length ds ≤ 4
  bad : l name.bad ≡ Some 0
  i : l name.i ≡ Some (length ds)
  v : l name.v ≡ Some n
  number : n ≡ number_of ds
  below : n < 256 ^ length ds
  sent : Sent (read_bytes a) (left_after ds) (r0 ∷ r1 ∷ r2 ∷ ds) es

-- a byte has failed
record Lost (a : ℕ) (l : Locals) (es : List Event) : Type 0 where
  k : ℕ
  n : ℕ
  few : k ≤ 4
  bad : l name.bad ≡ Some 1
  i : l name.i ≡ Some k
  v : l name.v ≡ Some n
  failed : failed_exchanges (read_bytes a) es

abbrev Loops : ℕ → List Event → Memory → State → Type 0
Loops a U m t = (es : List Event) × (t.trace ≡ U ++ es) × (t.memory ≡ m) × (Got a t.locals es ⊎ Lost a t.locals es)

abbrev pub next_index : Commands
next_index = set name.i (op Add (var name.i) (lit 1)) done

abbrev each : Commands
each = exchange (lit 0) (set name.v (op Or (var name.v) (op Slu (var name.x) (op Slu (var name.i) (lit 3)))) done)

abbrev pub closing : Commands
closing = write 0x10024018 (lit 0) done

pub one_more : (k : ℕ) → k ≤ 4 → value_of_op Add k 1 ≡ suc k
one_more k h = omega arith

pub less : (k : ℕ) → (value_of_op Ltu k 4 == 0) ≡ false → k < 4
less k h = grind (arith, nat_tests)

pub not_less : (k : ℕ) → k ≤ 4 → (value_of_op Ltu k 4 == 0) ≡ true → k ≡ 4
not_less k few h = grind (arith, nat_tests)

-- a turn after which the bytes so far were received
got_turn : (C : Callee) (a : ℕ) (U es : List Event) (m : Memory) (S : List Event → Type 0) (t : State) → Exchanges C →
    MayStop (read_bytes a) U S → (g : Got a t.locals es) → length g.ds < 4 →
    Leads C S (Loops a U m) (unless_bad each next_index) (upon t.locals m (U ++ es) t)
got_turn C a U es m S t known may g less =
    second_of_two {v = 0} g.bad refl
    (exchanges_byte (read_bytes a) (drop (suc (length g.ds)) four_zeros) (g.r0 ∷ g.r1 ∷ g.r2 ∷ g.ds)
    0 U es known may refl
    (subst (λ (q : List ℕ). Sent (read_bytes a) q (g.r0 ∷ g.r1 ∷ g.r2 ∷ g.ds) es)
    ((joins g.n 0 g.ds less g.number g.below (omega arith)).next
    ∙ ap (λ k. 0 ∷ drop k four_zeros) (joins g.n 0 g.ds less g.number g.below (omega arith)).more) g.sent)
    (λ r fs o byte sent. let j : Joins g.n r g.ds = joins g.n r g.ds less g.number g.below byte in
    sets {v = g.n + 256 ^ length g.ds * r} (rw (g.v, g.i) (ap Some j.sum))
    (ends (sets {v = length (g.ds ++ r ∷ [])} (rw g.i (ap Some (one_more (length g.ds) g.few ∙ sym j.more)))
    (ends (
      fs,
      refl,
      refl,
      inl (record {
        r0 = g.r0;
        r1 = g.r1;
        r2 = g.r2;
        ds = g.ds ++ r ∷ [];
        n = g.n + 256 ^ length g.ds * r;
        few = omega (arith, j.more);
        bad = refl;
        i = refl;
        v = refl;
        number = j.number;
        below = j.below;
        sent = subst (λ k. Sent (read_bytes a) (drop k four_zeros) (g.r0 ∷ g.r1 ∷ g.r2 ∷ (g.ds ++ r ∷ [])) fs)
            (sym j.more) sent;
      }),
    )))))
    (λ fs o f. sets {v = value_of_op Or g.n (value_of_op Slu 0 (value_of_op Slu (length g.ds) 3))} (rw (g.v, g.i) refl)
    (ends (sets {v = suc (length g.ds)} (rw g.i (ap Some (one_more (length g.ds) g.few)))
    (ends (
      fs,
      refl,
      refl,
      inr (record {
        k = suc (length g.ds);
        n =
            value_of_op Or g.n (value_of_op Slu 0 (value_of_op Slu (length g.ds) 3));
        few = less;
        bad = refl;
        i = refl;
        v = refl;
        failed = f;
      }),
    ))))))

lost_turn : (C : Callee) (a : ℕ) (U es : List Event) (m : Memory) (S : List Event → Type 0) (t : State) →
    (g : Lost a t.locals es) → g.k < 4 →
    Leads C S (Loops a U m) (unless_bad each next_index) (upon t.locals m (U ++ es) t)
lost_turn C a U es m S t g less =
    first_of_two {v = 1} g.bad refl
    (ends (sets {v = suc g.k} (rw g.i (ap Some (one_more g.k g.few)))
    (ends (
      es,
      refl,
      refl,
      inr (record {
        k = suc g.k;
        n = g.n;
        few = less;
        bad = g.bad;
        i = refl;
        v = g.v;
        failed =
            g.failed;
      }),
    ))))

-- a run may stop at each turn
stops_at_turn : (a : ℕ) (U es : List Event) (S : List Event → Type 0) (l : Locals) → MayStop (read_bytes a) U S →
    (Got a l es ⊎ Lost a l es) → S (U ++ es)
stops_at_turn a U es S l may (inl g) = go (some_exchanges (left_after g.ds))
  where
    go : (rs : List ℕ) × (fs : List Event) × exchanges (left_after g.ds) rs fs → S (U ++ es)
    go (rs, fs, x) = may es fs (inl (g.r0 ∷ g.r1 ∷ g.r2 ∷ (g.ds ++ rs), g.sent.on rs fs x))
stops_at_turn a U es S l may (inr g) =
    may es [] (inr (subst (failed_exchanges (read_bytes a)) (sym (append-nil es)) g.failed))

-- ---- the whole

pub framed : (T : List Event) (e : Event) (es : List Event) (z : Event) →
    ((T ++ e ∷ []) ++ es) ++ z ∷ [] ≡ T ++ (e ∷ (es ++ z ∷ []))
framed T e es z = append_assoc (T ++ e ∷ []) es (z ∷ []) ∙ append_assoc T (e ∷ []) (es ++ z ∷ [])

whole : (a v : ℕ) (rs : List ℕ) (es : List Event) → v ≡ number_of (drop 3 rs) → exchanges (read_bytes a) rs es →
    read_word a v (Write CS 2 ∷ (es ++ Write CS 0 ∷ []))
whole a v rs es is x = (
  Write CS 2 ∷ [],
  es ++ Write CS 0 ∷ [],
  refl,
  refl,
  (es, Write CS 0 ∷ [], refl, (rs, (is, x)), refl),
)

whole_failed : (a : ℕ) (es : List Event) → failed_exchanges (read_bytes a) es →
    failed_read a (Write CS 2 ∷ (es ++ Write CS 0 ∷ []))
whole_failed a es x = (Write CS 2 ∷ [], es ++ Write CS 0 ∷ [], refl, refl, (es, Write CS 0 ∷ [], refl, x, refl))

abbrev Answers : ℕ → State → State → Type 0
Answers a s = Ended s (read_piece a) (name.v ∷ name.bad ∷ [])

-- the chip is released once four bytes of the word were received
released_got : (C : Callee) (a : ℕ) (s t : State) (es : List Event) (S : List Event → Type 0) →
    (g : Got a t.locals es) → length g.ds ≡ 4 →
    Leads C S (Answers a s) closing (upon t.locals s.memory ((s.trace ++ Write CS 2 ∷ []) ++ es) t)
released_got C a s t es S g all =
    let none : left_after g.ds ≡ [] = ap (λ k. drop k four_zeros) all in
    writes {v = 0} refl refl (ends (
      g.n ∷ 0 ∷ [],
      words_of_two name.v name.bad t.locals g.n 0 g.v g.bad,
      refl,
      (
        Write CS 2 ∷ (es ++ Write CS 0 ∷ []),
        framed s.trace (Write CS 2) es (Write CS 0),
        inl (
          g.n,
          refl,
          whole a g.n (g.r0 ∷ g.r1 ∷ g.r2 ∷ g.ds) es g.number
              (all_sent (read_bytes a) (g.r0 ∷ g.r1 ∷ g.r2 ∷ g.ds) es
              (subst (λ (q : List ℕ). Sent (read_bytes a) q (g.r0 ∷ g.r1 ∷ g.r2 ∷ g.ds) es) none g.sent)),
        ),
      ),
    ))

-- and where a byte has failed
released_lost : (C : Callee) (a : ℕ) (s t : State) (es : List Event) (S : List Event → Type 0) → Lost a t.locals es →
    Leads C S (Answers a s) closing (upon t.locals s.memory ((s.trace ++ Write CS 2 ∷ []) ++ es) t)
released_lost C a s t es S g =
    writes {v = 0} refl refl (ends (
      g.n ∷ 1 ∷ [],
      words_of_two name.v name.bad t.locals g.n 1 g.v g.bad,
      refl,
      (
        Write CS 2 ∷ (es ++ Write CS 0 ∷ []),
        framed s.trace (Write CS 2) es (Write CS 0),
        inr
            (g.n, refl, whole_failed a es g.failed),
      ),
    ))

-- a turn of the loop
turn : (C : Callee) (a : ℕ) (s : State) (S : List Event → Type 0) → Exchanges C →
    MayStop (read_bytes a) (s.trace ++ Write CS 2 ∷ []) S →
    (t : State) → Loops a (s.trace ++ Write CS 2 ∷ []) s.memory t →
    Turns C S (Loops a (s.trace ++ Write CS 2 ∷ []) s.memory) (Leads C S (Answers a s) closing)
    (op Ltu (var name.i) (lit 4)) (unless_bad each next_index) t
turn C a s S known may t (es, e, m, inl g) = record {
  word = value_of_op Ltu (length g.ds) 4;
  has = rw g.i refl;
  stops = subst S (sym e) (stops_at_turn a (s.trace ++ Write CS 2 ∷ []) es S t.locals may (inl g));
  over = λ is. at_state C S (Answers a s) closing t s.memory ((s.trace ++ Write CS 2 ∷ []) ++ es) m e
      (released_got C a s t es S g (not_less (length g.ds) g.few is));
  on = λ is k. at_state C S (Loops a (s.trace ++ Write CS 2 ∷ []) s.memory) (unless_bad each next_index)
      (record t { fuel = k }) s.memory ((s.trace ++ Write CS 2 ∷ []) ++ es) m e
      (got_turn C a (s.trace ++ Write CS 2 ∷ []) es s.memory S (record t { fuel = k }) known may g
      (less (length g.ds) is));
}
turn C a s S known may t (es, e, m, inr g) = record {
  word = value_of_op Ltu g.k 4;
  has = rw g.i refl;
  stops = subst S (sym e) (stops_at_turn a (s.trace ++ Write CS 2 ∷ []) es S t.locals may (inr g));
  over = λ is. at_state C S (Answers a s) closing t s.memory ((s.trace ++ Write CS 2 ∷ []) ++ es) m e
      (released_lost C a s t es S g);
  on = λ is k. at_state C S (Loops a (s.trace ++ Write CS 2 ∷ []) s.memory) (unless_bad each next_index)
      (record t { fuel = k }) s.memory ((s.trace ++ Write CS 2 ∷ []) ++ es) m e
      (lost_turn C a (s.trace ++ Write CS 2 ∷ []) es s.memory S (record t { fuel = k }) g (less g.k is));
}

-- where a run may stop after the chip was selected
stops : (a : ℕ) (s : State) → MayStop (read_bytes a) (s.trace ++ Write CS 2 ∷ []) (Stopping s.trace (read_piece a))
stops a s es more (inl (rs, x)) = (
  Write CS 2 ∷ es,
  append_assoc s.trace (Write CS 2 ∷ []) es,
  (
    number_of (drop 3 rs) ∷ 0 ∷ [],
    more ++ Write CS 0 ∷ [],
    inl (
      number_of (drop 3 rs),
      refl,
      subst (λ q. read_word a (number_of (drop 3 rs)) (Write CS 2 ∷ q))
          (append_assoc es more (Write CS 0 ∷ [])) (whole a (number_of (drop 3 rs)) rs (es ++ more) refl x),
    ),
  ),
)
stops a s es more (inr x) = (
  Write CS 2 ∷ es,
  append_assoc s.trace (Write CS 2 ∷ []) es,
  (
    0 ∷ 1 ∷ [],
    more ++ Write CS 0 ∷ [],
    inr (
      0,
      refl,
      subst (λ q. failed_read a (Write CS 2 ∷ q)) (append_assoc es more (Write CS 0 ∷ []))
          (whole_failed a (es ++ more) x),
    ),
  ),
)

pub reads_start : (a : ℕ) → Begins (read_piece a) []
reads_start a = go (some_exchanges (read_bytes a))
  where
    go : (rs : List ℕ) × (es : List Event) × exchanges (read_bytes a) rs es → Begins (read_piece a) []
    go (rs, es, x) = (
      number_of (drop 3 rs) ∷ 0 ∷ [],
      Write CS 2 ∷ (es ++ Write CS 0 ∷ []),
      inl
          (number_of (drop 3 rs), refl, whole a (number_of (drop 3 rs)) rs es refl x),
    )

pub shows-read : (C : Callee) (a : ℕ) (s : State) → Exchanges C →
    ShowsPiece s (read_piece a) (run_function C lan_read (a ∷ []) s)
shows-read C a s known =
    let S : List Event → Type 0 = Stopping s.trace (read_piece a) in
    let U : List Event = s.trace ++ Write CS 2 ∷ [] in
    let s0 : State = record s { locals = with_locals (name.a ∷ []) (a ∷ []) no_locals } in
    let cs : Commands = repeat (op Ltu (var name.i) (lit 4)) (unless_bad each next_index) closing in
    let leads : Leads C S (Answers a s) (set name.v (lit 0) (write 0x10024018 (lit 2) (opening 3 cs))) s0 =
    sets {v = 0} refl (writes {v = 2} refl refl (by C a s known)) in
    shows-body s (read_piece a) (name.v ∷ name.bad ∷ []) (run_all C lan_read.body s0) leads.does
  where
    by : (C : Callee) (a : ℕ) (s : State) → Exchanges C →
        Leads C (Stopping s.trace (read_piece a)) (Answers a s)
        (opening 3 (repeat (op Ltu (var name.i) (lit 4)) (unless_bad each next_index) closing))
        (upon (with_local name.v 0 (with_locals (name.a ∷ []) (a ∷ []) no_locals)) s.memory (s.trace ++ Write CS 2 ∷ [])
        s)
    by C a s known =
        at_state C (Stopping s.trace (read_piece a)) (Answers a s)
        (opening 3 (repeat (op Ltu (var name.i) (lit 4)) (unless_bad each next_index) closing))
        (upon (with_local name.v 0 (with_locals (name.a ∷ []) (a ∷ []) no_locals)) s.memory (s.trace ++ Write CS 2 ∷ [])
        s) s.memory ((s.trace ++ Write CS 2 ∷ []) ++ []) refl (sym (append-nil (s.trace ++ Write CS 2 ∷ [])))
        (opens a 0 four_zeros (s.trace ++ Write CS 2 ∷ []) known (stops a s) refl refl
        (λ l r0 r1 r2 es o v sent. repeats (Loops a (s.trace ++ Write CS 2 ∷ []) s.memory)
        (turn C a s (Stopping s.trace (read_piece a)) known (stops a s)) (
          es,
          refl,
          refl,
          inl (record {
            r0 = r0;
            r1 = r1;
            r2 = r2;
            ds = [];
            n = 0;
            few = omega arith;
            bad = v.bad_is;
            i =
                v.i;
            v = v.v_is;
            number = refl;
            below = omega arith;
            sent = sent;
          }),
        ))
        (λ l es o v f. repeats (Loops a (s.trace ++ Write CS 2 ∷ []) s.memory)
        (turn C a s (Stopping s.trace (read_piece a)) known (stops a s)) (
          es,
          refl,
          refl,
          inr (record {
            k = 0;
            n = 0;
            few = omega arith;
            bad = v.bad_is;
            i = v.i;
            v = v.v_is;
            failed = f;
          }),
        )))
