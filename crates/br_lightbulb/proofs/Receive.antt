-- A frame is read into a buffer.
use Rattle.std.proofs.Common.{◌≡◌, ◌⊎◌, inl, inr, ℕ, zero, suc, ◌+◌, ◌*◌, ◌^◌, ◌<◌, ◌≤◌, Bool, true}
use Rattle.std.proofs.Common.{false, List, [], ◌∷◌, ◌++◌, length, Some, ◌==◌, refl, sym, ap, subst}
use Rattle.std.proofs.Common.{◌∙◌, arith, append_assoc, append-nil, length-append, length-take-le}
use Rattle.std.specs.Prelude.{nat_lt, slice_index}
use Rattle.std.specs.List.{flat_map}
use Rattle.std.specs.FinMap as map
use Rattle.std.proofs.Math.ListN.{get_or-append}
use Rattle.std.proofs.lemmas.List.{get_or-take, get_or-append-add}
use Rattle.std.proofs.lemmas.Grind.{flat_map-append}
use Rattle.std.proofs.lemmas.Nat.{and_mask}
use Rattle.std.proofs.lemmas.Bool.Decides.{nat_tests}
use Rattle.br_words.specs.declared.operation.BinOp.TheVariants.{Add, And, Ltu}
use Rattle.br_words.specs.Words.{value_of_op, flag}
use Rattle.br_bytes.specs.declared.run.Event.{Event}
use Rattle.br_bytes.specs.Memory.{Memory, with_bytes}
use Rattle.br_bytes.specs.Number.{low_bytes}
use Rattle.br_bytes.specs.Runs.{Goes, Ends, returned}
use Rattle.br_syntax.specs.declared.program.Func.{Func}
use Rattle.br_source_meaning.specs.Values.{no_locals}
use Rattle.br_source_meaning.specs.Runs.{State, Run, Callee, with_locals, run_all}
use Rattle.br_source_meaning.specs.Calls.{words_of, run_function, function_of}
use Rattle.br_judge.specs.Languages.{Language, ◌▸◌, either, some}
use Rattle.br_judge.specs.Good.{words_for, frame_length, first_bytes, frame_words, read_word, failed_read}
use Rattle.br_lightbulb.specs.Names as name
use Rattle.br_lightbulb.specs.Frames.{receive}
use Rattle.br_lightbulb.specs.Shows.{Begins, IsBuffer, Holds, received, failed_receive}
use Rattle.br_lightbulb.specs.Shows.{BeginsFrame, Receives, read_piece, HasFirmware}
use Rattle.br_lightbulb.proofs.Boots.{words_at}
use Rattle.br_lightbulb.proofs.Buffers.{within, outside, sides, stored, still_buffer}
use Rattle.br_lightbulb.proofs.Commands.{lit, var, op, Commands, done, set, cond, repeat, call, store}
use Rattle.br_lightbulb.proofs.Does.{Does}
use Rattle.br_lightbulb.proofs.Leads.{Leads, upon, at_state, ends, sets, first_of_two}
use Rattle.br_lightbulb.proofs.Leads.{second_of_two, tests, stores, Turns, repeats}
use Rattle.br_lightbulb.proofs.LanRead.{reads_start}
use Rattle.br_lightbulb.proofs.Spi.{words_of_two}
use Rattle.br_lightbulb.proofs.Words.{Words, unready_read, reads_word}

-- ---- lists of events

-- some words of a frame whose length is known
abbrev Failing : ℕ → Language
Failing l es = (ws : List ℕ) × (length ws < words_for (frame_length l)) × (frame_words ws ▸ failed_read 0) es

-- one more word
more_words : (ws : List ℕ) (w : ℕ) (es fs : List Event) → frame_words ws es → read_word 0 w fs →
    frame_words (ws ++ w ∷ []) (es ++ fs)
more_words [] w es fs e r = (
  fs,
  [],
  subst (λ (q : List Event). q ++ fs ≡ fs ++ []) (sym e)
      (sym (append-nil fs)),
  r,
  refl,
)
more_words (x ∷ ws) w es fs (f, g, e, x_is, t) r =
    (f, g ++ fs, ap (λ q. q ++ fs) e ∙ append_assoc f g fs, x_is, more_words ws w g fs t r)

whole : (l : ℕ) (ws : List ℕ) (us es : List Event) → read_word 0x40 l us → frame_words ws es →
    length ws ≡ words_for (frame_length l) → received (first_bytes (frame_length l) ws) (us ++ es)
whole l ws us es r t all = (l, (us, es, refl, r, (ws, ((all, refl), t))))

failed : (l : ℕ) (us es : List Event) → read_word 0x40 l us → Failing l es → failed_receive (us ++ es)
failed l us es r (ws, few, t) = inr (l, (us, es, refl, r, (ws, (few, t))))

-- ---- some list can always follow

sooner : (es more : List Event) → BeginsFrame (es ++ more) → BeginsFrame es
sooner es more (rest, x) = (
  more ++ rest,
  subst (λ (q : List Event). either (some received) failed_receive q)
      (append_assoc es more rest) x,
)

words_ahead : (l : ℕ) (ws : List ℕ) (us es : List Event) → read_word 0x40 l us → frame_words ws es →
    length ws ≤ words_for (frame_length l) → BeginsFrame (us ++ es)
words_ahead l ws us es r t most = by (nat_lt (length ws) (words_for (frame_length l))) refl
  where
    all_there : (a b : ℕ) → a ≤ b → nat_lt a b ≡ false → a ≡ b
    all_there a b h k = grind (arith, nat_tests)

    not_all : (a b : ℕ) → nat_lt a b ≡ true → a < b
    not_all a b k = grind (arith, nat_tests)

    fails : nat_lt (length ws) (words_for (frame_length l)) ≡ true →
        (fs : List Event) × failed_read 0 fs → BeginsFrame (us ++ es)
    fails is (fs, f) = (
      fs,
      inr (subst failed_receive (sym (append_assoc us es fs))
          (failed l us (es ++ fs) r (ws, not_all (length ws) (words_for (frame_length l)) is, (es, fs, refl, t, f)))),
    )

    by : (b : Bool) → nat_lt (length ws) (words_for (frame_length l)) ≡ b → BeginsFrame (us ++ es)
    by true is = fails is (unready_read 0)
    by false is = (
      [],
      inl (
        first_bytes (frame_length l) ws,
        subst (received (first_bytes (frame_length l) ws))
            (sym (append-nil (us ++ es))) (whole l ws us es r t
            (all_there (length ws) (words_for (frame_length l)) most is)),
      ),
    )

-- in a word
word_ahead : (l : ℕ) (ws : List ℕ) (us es fs : List Event) → read_word 0x40 l us → frame_words ws es →
    length ws < words_for (frame_length l) → Begins (read_piece 0) fs → BeginsFrame (us ++ (es ++ fs))
word_ahead l ws us es fs r t few (words, more, inl (w, is, x)) =
    sooner (us ++ (es ++ fs)) more (subst BeginsFrame
    (ap (λ q. us ++ q) (sym (append_assoc es fs more)) ∙ sym (append_assoc us (es ++ fs) more))
    (words_ahead l (ws ++ w ∷ []) us (es ++ (fs ++ more)) r (more_words ws w es (fs ++ more) t x)
    (omega (arith, length-append ws (w ∷ [])))))
word_ahead l ws us es fs r t few (words, more, inr (w, is, x)) =
    sooner (us ++ (es ++ fs)) more (subst BeginsFrame
    (ap (λ q. us ++ q) (sym (append_assoc es fs more)) ∙ sym (append_assoc us (es ++ fs) more)) (
      [],
      inr (subst failed_receive (sym (append-nil (us ++ (es ++ (fs ++ more)))))
          (failed l us (es ++ (fs ++ more)) r (ws, few, (es, fs ++ more, refl, t, x)))),
    ))

-- in the length
length_ahead : (fs : List Event) → Begins (read_piece 0x40) fs → BeginsFrame fs
length_ahead fs (words, more, inl (l, is, x)) =
    sooner fs more (subst BeginsFrame (append-nil (fs ++ more)) (words_ahead l [] (fs ++ more) [] x refl (omega arith)))
length_ahead fs (words, more, inr (l, is, x)) = (more, inr (inl x))

-- ---- the bytes

abbrev bytes_of : List ℕ → List ℕ
bytes_of ws = flat_map (low_bytes 4) ws

pub many_bytes : (ws : List ℕ) → length (bytes_of ws) ≡ 4 * length ws
many_bytes [] = refl
many_bytes (w ∷ ws) =
    let e : length (bytes_of ws) ≡ 4 * length ws = many_bytes ws in
    let f : length (bytes_of (w ∷ ws)) ≡ 4 + length (bytes_of ws) = length-append (low_bytes 4 w) (bytes_of ws) in
    f ∙ omega arith

bytes_more : (ws : List ℕ) (w : ℕ) → bytes_of (ws ++ w ∷ []) ≡ bytes_of ws ++ low_bytes 4 w
bytes_more ws w = flat_map-append (low_bytes 4) ws (w ∷ []) ∙ ap (λ q. bytes_of ws ++ q) (append-nil (low_bytes 4 w))

-- a word is stored after those before it
holds_more : (m : Memory) (p w : ℕ) (ws : List ℕ) → IsBuffer m p 1520 → 4 * length ws < 1520 → Holds m p (bytes_of ws) →
    Holds (with_bytes m (p + 4 * length ws) (low_bytes 4 w)) p (bytes_of (ws ++ w ∷ []))
holds_more m p w ws b room h = subst (Holds (with_bytes m (p + 4 * length ws) (low_bytes 4 w)) p)
    (sym (bytes_more ws w)) (λ j long less. by j long less (sides (p + j) (p + 4 * length ws) 4))
  where
    n : ℕ
    n = 4 * length ws

    m' : Memory
    m' = with_bytes m (p + 4 * length ws) (low_bytes 4 w)

    fits : p + 1520 ≤ 2 ^ 32 → p + 4 * length ws + 4 ≤ 2 ^ 32
    fits k = omega arith

    total : length (bytes_of ws ++ low_bytes 4 w) ≡ 4 * length ws + 4
    total = length-append (bytes_of ws) (low_bytes 4 w) ∙ ap (λ k. k + 4) (many_bytes ws)

    by : (j : ℕ) → j < length (bytes_of ws ++ low_bytes 4 w) → j < 1520 →
        (((p + j < p + 4 * length ws) ⊎ (p + 4 * length ws + 4 ≤ p + j)) ⊎
        ((k : ℕ) × (k < 4) × (p + j ≡ p + 4 * length ws + k))) →
        map.get m' (p + j) ≡ Some (slice_index (bytes_of ws ++ low_bytes 4 w) j)
    by j long less (inl (inl low)) =
        let before : j < length (bytes_of ws) = omega (arith, many_bytes ws) in
        outside (low_bytes 4 w) m (p + 4 * length ws) (p + j) (fits b.below) (inl low)
        ∙ h j before less ∙ ap Some (sym (get_or-append (bytes_of ws) (low_bytes 4 w) 0 j before))
    by j long less (inl (inr high)) =
        absurd (never j (4 * length ws) p (length (bytes_of ws ++ low_bytes 4 w)) total long high)
      where
        never : (j n p t : ℕ) → t ≡ n + 4 → j < t → p + n + 4 ≤ p + j → ⊥
        never j n p t e f g = omega arith
    by j long less (inr (k, short, e)) =
        let index : j ≡ length (bytes_of ws) + k = omega (arith, many_bytes ws) in
        ap (map.get m') e ∙ within (low_bytes 4 w) m (p + 4 * length ws) k (fits b.below) short
        ∙ ap Some (sym (ap (λ q. slice_index (bytes_of ws ++ low_bytes 4 w) q) index
        ∙ get_or-append-add (bytes_of ws) (low_bytes 4 w) k 0))

-- a word that a buffer has no room for
holds_past : (m : Memory) (p w : ℕ) (ws : List ℕ) → 1520 ≤ 4 * length ws → Holds m p (bytes_of ws) →
    Holds m p (bytes_of (ws ++ w ∷ []))
holds_past m p w ws full h = subst (Holds m p) (sym (bytes_more ws w)) by
  where
    by : Holds m p (bytes_of ws ++ low_bytes 4 w)
    by j long less =
        let before : j < length (bytes_of ws) = omega (arith, many_bytes ws) in
        h j before less ∙ ap Some (sym (get_or-append (bytes_of ws) (low_bytes 4 w) 0 j before))

length_taken : (n : ℕ) (ws : List ℕ) → length ws ≡ words_for n → length (first_bytes n ws) ≡ n
length_taken n ws all = length-take-le n (bytes_of ws) (omega (arith, many_bytes ws))

holds_first : (m : Memory) (p n : ℕ) (ws : List ℕ) → length ws ≡ words_for n → Holds m p (bytes_of ws) →
    Holds m p (first_bytes n ws)
holds_first m p n ws all h j long less =
    let below : j < n = omega (arith, length_taken n ws all) in
    let there : j < length (bytes_of ws) = omega (arith, many_bytes ws) in
    h j there less ∙ ap Some (sym (get_or-take n (bytes_of ws) j 0 below))

-- ---- the loop

-- words were read, and stand in the buffer as far as it has room
record Gets (l p : ℕ) (t : State) (es : List Event) : Type 0 where
  ws : List ℕ
  few : length ws ≤ words_for (frame_length l)
  i : t.locals name.i ≡ Some (4 * length ws)
  n : t.locals name.n ≡ Some (frame_length l)
  bad : t.locals name.bad ≡ Some 0
  p_is : t.locals name.p ≡ Some p
  buffer : IsBuffer t.memory p 1520
  holds : Holds t.memory p (bytes_of ws)
  words : frame_words ws es

-- a read has failed
record Lost (l : ℕ) (t : State) (es : List Event) : Type 0 where
  k : ℕ
  i : t.locals name.i ≡ Some k
  n : t.locals name.n ≡ Some 0
  bad : t.locals name.bad ≡ Some 1
  failing : Failing l es

abbrev Loops : ℕ → ℕ → List Event → State → Type 0
Loops l p U t = (es : List Event) × (t.trace ≡ U ++ es) × (Gets l p t es ⊎ Lost l t es)

abbrev storing : Commands
storing =
    cond (op Ltu (var name.i) (lit 1520)) (store (op Add (var name.p) (var name.i)) (var name.w) done) done
    (set name.i (op Add (var name.i) (lit 4)) done)

abbrev each : Commands
each = call (name.w ∷ name.bad ∷ []) name.lan_read (lit 0 ∷ [])
    (cond (var name.bad) (set name.n (lit 0) done) storing done)

-- where a run may stop once the length was read
abbrev MayStop : ℕ → List Event → List Event → (List Event → Type 0) → Type 0
MayStop l us U S = (es : List Event) → BeginsFrame (us ++ es) → S (U ++ es)

room_for_word : (k : ℕ) → nat_lt (4 * k) 1520 ≡ true → 4 * k + 4 ≤ 1520
room_for_word k h = let g : 4 * k < 1520 = grind (arith, nat_tests) in omega arith

full : (k : ℕ) → nat_lt (4 * k) 1520 ≡ false → 1520 ≤ 4 * k
full k h = grind (arith, nat_tests)

more_left : (k l : ℕ) → nat_lt (4 * k) (frame_length l) ≡ true → k < words_for (frame_length l)
more_left k l h = let g : 4 * k < frame_length l = grind (arith, nat_tests) in omega arith

all_read : (k l : ℕ) → k ≤ words_for (frame_length l) → nat_lt (4 * k) (frame_length l) ≡ false →
    k ≡ words_for (frame_length l)
all_read k l few h = let g : frame_length l ≤ 4 * k = grind (arith, nat_tests) in omega arith

next_index : (k l : ℕ) (ws : List ℕ) (w : ℕ) → k ≡ length ws → k < words_for (frame_length l) →
    value_of_op Add (4 * k) 4 ≡ 4 * length (ws ++ w ∷ [])
next_index k l ws w e few = omega (arith, length-append ws (w ∷ []))

address : (p k : ℕ) → p + 1520 ≤ 2 ^ 32 → k + 4 ≤ 1520 → value_of_op Add p k ≡ p + k
address p k fits room = omega arith

-- a word was read
got_word : (C : Callee) (l p w : ℕ) (U es fs : List Event) (S : List Event → Type 0) (t o : State) →
    (g : Gets l p t es) → length g.ws < words_for (frame_length l) → read_word 0 w fs →
    Leads C S (Leads C S (Loops l p U) done) storing
    (upon (with_locals (name.w ∷ name.bad ∷ []) (w ∷ 0 ∷ []) t.locals) t.memory (U ++ (es ++ fs)) o)
got_word C l p w U es fs S t o g few r =
    tests (nat_lt (4 * length g.ws) 1520) (rw g.i refl)
    (λ is. let room : 4 * length g.ws + 4 ≤ 1520 = room_for_word (length g.ws) is in
    stores {p = p + 4 * length g.ws} {v = w} {m = with_bytes t.memory (p + 4 * length g.ws) (low_bytes 4 w)}
    (rw (g.p_is, g.i) (ap Some (address p (4 * length g.ws) g.buffer.below room))) refl
    (stored t.memory p 1520 (4 * length g.ws) w g.buffer room)
    (ends (sets {v = 4 * length (g.ws ++ w ∷ [])} (rw g.i (ap Some (next_index (length g.ws) l g.ws w refl few)))
    (ends (ends (
      es ++ fs,
      refl,
      inl (record {
        ws = g.ws ++ w ∷ [];
        few = omega (arith, length-append g.ws (w ∷ []));
        i = refl;
        n = g.n;
        bad = refl;
        p_is = g.p_is;
        buffer = still_buffer t.memory p 1520 (p + 4 * length g.ws) (low_bytes 4 w) g.buffer
            (fits p (length g.ws) g.buffer.below room);
        holds = holds_more t.memory p w g.ws g.buffer (omega arith) g.holds;
        words = more_words g.ws w es fs g.words r;
      }),
    ))))))
    (λ is. ends (sets {v = 4 * length (g.ws ++ w ∷ [])} (rw g.i (ap Some (next_index (length g.ws) l g.ws w refl few)))
    (ends (ends (
      es ++ fs,
      refl,
      inl (record {
        ws = g.ws ++ w ∷ [];
        few = omega (arith, length-append g.ws (w ∷ []));
        i = refl;
        n = g.n;
        bad = refl;
        p_is = g.p_is;
        buffer = g.buffer;
        holds = holds_past t.memory p w g.ws (full (length g.ws) is) g.holds;
        words = more_words g.ws w es fs g.words r;
      }),
    )))))
  where
    fits : (p k : ℕ) → p + 1520 ≤ 2 ^ 32 → 4 * k + 4 ≤ 1520 → p + 4 * k + 4 ≤ 2 ^ 32
    fits p k f room = omega arith

gets_turn : (C : Callee) (l p : ℕ) (us U es : List Event) (S : List Event → Type 0) (t : State) → Words C →
    MayStop l us U S → read_word 0x40 l us → (g : Gets l p t es) → length g.ws < words_for (frame_length l) →
    Leads C S (Loops l p U) each (upon t.locals t.memory (U ++ es) t)
gets_turn C l p us U es S t known may r g few =
    reads_word U es known (λ fs b. may (es ++ fs) (word_ahead l g.ws us es fs r g.words few b))
    (λ w fs o x. second_of_two {v = 0} refl refl (got_word C l p w U es fs S t o g few x))
    (λ w fs o x. first_of_two {v = 1} refl refl
    (sets {v = 0} refl (ends (ends (
      es ++ fs,
      refl,
      inr
          (record {
            k = 4 * length g.ws;
            i = g.i;
            n = refl;
            bad = refl;
            failing =
                (g.ws, few, (es, fs, refl, g.words, x));
          }),
    )))))

-- ---- the whole

-- a state in which the call may end
abbrev Answers : State → ℕ → State → Type 0
Answers s p t =
    (ws : List ℕ) × (words_of (name.n ∷ name.bad ∷ []) t.locals ≡ Some ws)
    × ((es : List Event) × (t.trace ≡ s.trace ++ es)
    × (((bytes : List ℕ) × (ws ≡ length bytes ∷ 0 ∷ []) × Holds t.memory p bytes × received bytes es)
    ⊎ ((n : ℕ) × (ws ≡ n ∷ 1 ∷ []) × failed_receive es)))

abbrev Stopped : State → List Event → Type 0
Stopped s tr = (es : List Event) × (tr ≡ s.trace ++ es) × BeginsFrame es

stops_here : (s : State) (l : ℕ) (us : List Event) → MayStop l us (s.trace ++ us) (Stopped s)
stops_here s l us es b = (us ++ es, append_assoc s.trace us es, b)

failing_ahead : (l : ℕ) (us es : List Event) → read_word 0x40 l us → Failing l es → BeginsFrame (us ++ es)
failing_ahead l us es r f = ([], inr (subst failed_receive (sym (append-nil (us ++ es))) (failed l us es r f)))

read_all : (l p : ℕ) (us es : List Event) (s t : State) → read_word 0x40 l us → t.trace ≡ (s.trace ++ us) ++ es →
    (g : Gets l p t es) → length g.ws ≡ words_for (frame_length l) → Answers s p t
read_all l p us es s t r e g all = (
  frame_length l ∷ 0 ∷ [],
  words_of_two name.n name.bad t.locals (frame_length l) 0 g.n g.bad,
  (
    us ++ es,
    e ∙ append_assoc s.trace us es,
    inl (
      first_bytes (frame_length l) g.ws,
      ap (λ k. k ∷ 0 ∷ [])
          (sym (length_taken (frame_length l) g.ws all)),
      holds_first t.memory p (frame_length l)
          g.ws all g.holds,
      whole l g.ws us es r g.words all,
    ),
  ),
)

turn : (C : Callee) (l p : ℕ) (us : List Event) (s : State) → Words C → read_word 0x40 l us →
    (t : State) → Loops l p (s.trace ++ us) t →
    Turns C (Stopped s) (Loops l p (s.trace ++ us)) (Leads C (Stopped s) (Leads C (Stopped s) (Answers s p) done) done)
    (op Ltu (var name.i) (var name.n)) each t
turn C l p us s known r t (es, e, inl g) = record {
  word = flag (nat_lt (4 * length g.ws) (frame_length l));
  has = rw (g.i, g.n) refl;
  stops = (us ++ es, e ∙ append_assoc s.trace us es, words_ahead l g.ws us es r g.words g.few);
  over = λ is. ends (ends (read_all l p us es s t r e g
      (all_read (length g.ws) l g.few (is_false (nat_lt (4 * length g.ws) (frame_length l)) is))));
  on = λ is k. at_state C (Stopped s) (Loops l p (s.trace ++ us)) each (record t { fuel = k }) t.memory
      ((s.trace ++ us) ++ es) refl e
      (gets_turn C l p us (s.trace ++ us) es (Stopped s) (record t { fuel = k }) known (stops_here s l us) r
      (record {
        ws = g.ws;
        few = g.few;
        i = g.i;
        n = g.n;
        bad = g.bad;
        p_is = g.p_is;
        buffer = g.buffer;
        holds =
            g.holds;
        words = g.words;
      })
      (more_left (length g.ws) l (is_true (nat_lt (4 * length g.ws) (frame_length l)) is)));
}
  where
    is_false : (b : Bool) → (flag b == 0) ≡ true → b ≡ false
    is_false true h = cc
    is_false false h = refl

    is_true : (b : Bool) → (flag b == 0) ≡ false → b ≡ true
    is_true true h = refl
    is_true false h = cc
turn C l p us s known r t (es, e, inr g) = record {
  word = value_of_op Ltu g.k 0;
  has = rw (g.i, g.n) refl;
  stops = (us ++ es, e ∙ append_assoc s.trace us es, failing_ahead l us es r g.failing);
  over = λ is. ends (ends (
    0 ∷ 1 ∷ [],
    words_of_two name.n name.bad t.locals 0 1 g.n g.bad,
    (us ++ es, e ∙ append_assoc s.trace us es, inr (0, refl, failed l us es r g.failing)),
  ));
  on = λ is k. absurd (none g.k is);
}
  where
    none : (k : ℕ) → (value_of_op Ltu k 0 == 0) ≡ false → ⊥
    none k h = grind (arith, nat_tests)

abbrev receiving : Commands
receiving =
    call (name.n ∷ name.bad ∷ []) name.lan_read (lit 0x40 ∷ [])
    (cond (var name.bad) done
    (set name.n (op And (var name.n) (lit 0xFFFF))
    (set name.i (lit 0) (repeat (op Ltu (var name.i) (var name.n)) each done)))
    done)

receives : (C : Callee) (p : ℕ) (s : State) → Words C → IsBuffer s.memory p 1520 → s.locals name.p ≡ Some p →
    Leads C (Stopped s) (Answers s p) receiving s
receives C p s known buffer p_is =
    at_state C (Stopped s) (Answers s p) receiving s s.memory (s.trace ++ []) refl (sym (append-nil s.trace))
    (reads_word s.trace [] known (λ fs b. (fs, refl, length_ahead fs b))
    (λ l us o r. second_of_two {v = 0} refl refl (sets {v = frame_length l} (ap Some (and_mask l 16)) (sets {v = 0} refl
    (repeats (Loops l p (s.trace ++ us)) (turn C l p us s known r) (
      [],
      sym (append-nil (s.trace ++ us)),
      inl
          (record {
            ws = [];
            few = omega arith;
            i = refl;
            n = refl;
            bad = refl;
            p_is = p_is;
            buffer = buffer;
            holds =
                λ j long less. absurd (none j long);
            words = refl;
          }),
    )))))
    (λ l us o f. first_of_two {v = 1} refl refl (ends (ends (l ∷ 1 ∷ [], refl, (us, refl, inr (l, refl, inl f)))))))
  where
    none : (j : ℕ) → j < 0 → ⊥
    none j h = omega arith

shows : (s : State) (p : ℕ) (r : Run) → Does (Answers s p) (λ t. Stopped s t.trace) r →
    Receives s p (returned (words_of (name.n ∷ name.bad ∷ [])) r)
shows s p (Goes t) (ws, is, h) = rw is h
shows s p (Ends end t) h = h

pub shows-receive : (C : Callee) (p : ℕ) (s : State) → Words C → IsBuffer s.memory p 1520 →
    Receives s p (run_function C receive (p ∷ []) s)
shows-receive C p s known buffer =
    let s0 : State = record s { locals = with_locals (name.p ∷ []) (p ∷ []) no_locals } in
    shows s p (run_all C receive.body s0) (receives C p s0 known buffer refl).does

pub receives_start : BeginsFrame []
receives_start = length_ahead [] (reads_start 0x40)

pub receive-pieces : (fs : List Func) → HasFirmware fs →
    (depth p : ℕ) (s : State) → IsBuffer s.memory p 1520 → Receives s p (function_of fs depth name.receive (p ∷ []) s)
receive-pieces fs has zero p s buffer = (tt, ([], sym (append-nil s.trace), receives_start))
receive-pieces fs has (suc depth) p s buffer =
    rw has.receive (shows-receive (function_of fs depth) p s (words_at fs has.words depth) buffer)
