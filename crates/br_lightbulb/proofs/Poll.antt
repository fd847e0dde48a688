-- One look at the chip.
use Rattle.std.proofs.Common.{◌≡◌, ◌≢◌, inl, inr, ℕ, zero, suc, ◌+◌, ◌%◌, ◌^◌, ◌≤◌, Bool}
use Rattle.std.proofs.Common.{true, false, List, [], ◌∷◌, ◌++◌, length, Some, ◌==◌, ◌&&◌}
use Rattle.std.proofs.Common.{refl, sym, ap, subst, ◌∙◌, arith, append_assoc, append-nil}
use Rattle.std.specs.Prelude.{nat_le}
use Rattle.std.proofs.lemmas.Bool.{eqb-true, leb-true}
use Rattle.std.proofs.lemmas.Bool.Decides.{nat_tests}
use Rattle.br_bytes.specs.declared.run.Choice.{Choice}
use Rattle.br_bytes.specs.declared.run.Event.{Event}
use Rattle.br_words.specs.Layout.{stack_base, stack_end}
use Rattle.br_bytes.specs.Buffers.{is_good, are_free}
use Rattle.br_bytes.specs.Memory.{Memory, with_bytes}
use Rattle.br_bytes.specs.Runs.{Goes, Ends, Returns, Stops, returned}
use Rattle.br_syntax.specs.declared.program.Func.{Func}
use Rattle.br_source_meaning.specs.Values.{no_locals}
use Rattle.br_source_meaning.specs.Runs.{State, Run, Returned, Callee, with_locals, run_all}
use Rattle.br_source_meaning.specs.Calls.{words_of, run_function, function_of}
use Rattle.br_judge.specs.Good as good
use Rattle.br_judge.specs.Good.{OUT, waits, frame, failed_read, is_accepted, set_light, light_of, with_light, read_word}
use Rattle.br_lightbulb.specs.Names as name
use Rattle.br_lightbulb.specs.Polls.{poll}
use Rattle.br_lightbulb.specs.Shows.{Begins, ShowsPiece, ShowsEvents, IsBuffer, Holds, received, failed_receive}
use Rattle.br_lightbulb.specs.Shows.{BeginsFrame, Receives, handle_piece, poll_piece, read_piece, HasFirmware}
use Rattle.br_lightbulb.proofs.Boots.{words_at}
use Rattle.br_lightbulb.proofs.Buffers.{new_buffer}
use Rattle.br_lightbulb.proofs.Commands.{lit, var, Commands, done, cond, call, buffer}
use Rattle.br_lightbulb.proofs.Does.{Does, DoesCall}
use Rattle.br_lightbulb.proofs.Handle.{starts, handle-pieces}
use Rattle.br_lightbulb.proofs.LanRead.{reads_start}
use Rattle.br_lightbulb.proofs.Leads.{Leads, Stopping, upon, at_state, ends, first_of_two}
use Rattle.br_lightbulb.proofs.Leads.{second_of_two, calls, shown_here, buffers}
use Rattle.br_lightbulb.proofs.Receive.{receives_start, receive-pieces}
use Rattle.br_lightbulb.proofs.Spi.{word_of}
use Rattle.br_lightbulb.proofs.Words.{Words, fewer, reads_word}

-- ---- lists of events

no_frame : (es : List Event) → read_word 0x7C 0 es → good.poll es
no_frame es r = inl r

not_asked : (es : List Event) → failed_read 0x7C es → good.poll es
not_asked es f = inr (inl (inl f))

-- a frame that is not received
not_received : (us es : List Event) → waits us → failed_receive es → good.poll (us ++ es)
not_received us es w (inl f) = inr (inl (inr (inl (us, es, refl, w, f))))
not_received us es w (inr f) = inr (inl (inr (inr (us, es, refl, w, f))))

-- a frame that is handled
handled : (bytes : List ℕ) (ws : List ℕ) (us es fs : List Event) → waits us → received bytes es →
    handle_piece bytes ws fs → good.poll (us ++ (es ++ fs))
handled bytes ws us es fs w r (none, inl (is, light)) =
    inr (inr (inr (bytes, (us ++ es, fs, sym (append_assoc us es fs), (is, (us, es, refl, w, r)), light))))
handled bytes ws us es fs w r (none, inr (is, nothing)) =
    inr (inr (inl (
      bytes,
      (
        is,
        subst (λ (q : List Event). frame bytes (us ++ q))
            (sym (append-nil es) ∙ ap (λ q. es ++ q) (sym nothing)) (us, es, refl, w, r),
      ),
    )))

-- ---- some list can always follow

handled_ahead : (bytes : List ℕ) (us es fs : List Event) → waits us → received bytes es →
    Begins (handle_piece bytes) fs → Begins poll_piece (us ++ (es ++ fs))
handled_ahead bytes us es fs w r (ws, more, h) = (
  0 ∷ [],
  more,
  (
    (0, refl),
    subst good.poll
        (ap (λ q. us ++ q) (sym (append_assoc es fs more)) ∙ sym (append_assoc us (es ++ fs) more))
        (handled bytes ws us es (fs ++ more) w r h),
  ),
)

frame_ahead : (us es : List Event) → waits us → BeginsFrame es → Begins poll_piece (us ++ es)
frame_ahead us es w (more, inl (bytes, r)) =
    fewer poll_piece (us ++ es) more
    (subst (Begins poll_piece) (ap (λ q. us ++ q) (append-nil (es ++ more)) ∙ sym (append_assoc us es more))
    (handled_ahead bytes us (es ++ more) [] w r (starts bytes)))
frame_ahead us es w (more, inr f) =
    (0 ∷ [], more, ((0, refl), subst good.poll (sym (append_assoc us es more)) (not_received us (es ++ more) w f)))

-- in the question whether a frame waits
asked_ahead : (fs : List Event) → Begins (read_piece 0x7C) fs → Begins poll_piece fs
asked_ahead fs (words, more, inr (w, is, f)) = (0 ∷ [], more, ((0, refl), not_asked (fs ++ more) f))
asked_ahead fs (words, more, inl (zero, is, r)) = (0 ∷ [], more, ((0, refl), no_frame (fs ++ more) r))
asked_ahead fs (words, more, inl (suc w, is, r)) =
    fewer poll_piece fs more (subst (Begins poll_piece) (append-nil (fs ++ more))
    (frame_ahead (fs ++ more) [] (suc w, (some w, r)) receives_start))
  where
    some : (w : ℕ) → suc w ≢ 0
    some w h = omega (arith, h)

-- ---- the commands

abbrev taking : Commands
taking =
    call (name.n ∷ name.bad ∷ []) name.receive (var name.p ∷ [])
    (cond (var name.bad) done (call [] name.handle (var name.p ∷ var name.n ∷ []) done) done)

abbrev polling : Commands
polling =
    call (name.w ∷ name.bad ∷ []) name.lan_read (lit 0x7C ∷ [])
    (cond (var name.bad) done (cond (var name.w) (buffer name.p 1520 taking done) done done) done)

-- what is known of the functions that it calls
pub record Frames (C : Callee) : Type 0 where
  pub receives : (p : ℕ) (s : State) → IsBuffer s.memory p 1520 → Receives s p (C name.receive (p ∷ []) s)
  pub handles : (bytes : List ℕ) (p : ℕ) (s : State) → p + 1520 ≤ 2 ^ 32 → Holds s.memory p bytes →
      ShowsPiece s (handle_piece bytes) (C name.handle (p ∷ length bytes ∷ []) s)

-- a state in which the call may end
abbrev Answers : List Event → State → Type 0
Answers T t = (ws : List ℕ) × (words_of (name.bad ∷ []) t.locals ≡ Some ws) ×
    ((es : List Event) × (t.trace ≡ T ++ es) × poll_piece ws es)

answers : (T : List Event) (t : State) (b : ℕ) (es : List Event) → t.locals name.bad ≡ Some b → t.trace ≡ T ++ es →
    good.poll es → Answers T t
answers T t b es bad e p = (b ∷ [], word_of name.bad t.locals b bad, (es, e, ((b, refl), p)))

-- the buffer that a frame is read into
both : (a b : Bool) → (a && b) ≡ true → (a ≡ true) × (b ≡ true)
both true b h = (refl, h)
both false b h = cc

is_buffer : (m : Memory) (c : Choice) → is_good 1520 m c ≡ true → IsBuffer (with_bytes m c.addr c.bytes) c.addr 1520
is_buffer m c good = new_buffer m c.addr 1520 c.bytes (eqb-true (length c.bytes) 1520 many)
    (in_stack (leb-true (c.addr + 1520) stack_end low))
  where
    first_three : Bool
    first_three = (c.addr % 4 == 0) && (length c.bytes == 1520) && nat_le stack_base c.addr

    bounded : (first_three && nat_le (c.addr + 1520) stack_end) ≡ true
    bounded = (both (first_three && nat_le (c.addr + 1520) stack_end) (are_free m c.addr c.bytes) good).0

    low : nat_le (c.addr + 1520) stack_end ≡ true
    low = (both first_three (nat_le (c.addr + 1520) stack_end) bounded).1

    aligned : ((c.addr % 4 == 0) && (length c.bytes == 1520)) ≡ true
    aligned = (both ((c.addr % 4 == 0) && (length c.bytes == 1520)) (nat_le stack_base c.addr)
        (both first_three (nat_le (c.addr + 1520) stack_end) bounded).0).0

    many : (length c.bytes == 1520) ≡ true
    many = (both (c.addr % 4 == 0) (length c.bytes == 1520) aligned).1

    in_stack : c.addr + 1520 ≤ stack_end → c.addr + 1520 ≤ 2 ^ 32
    in_stack h = omega arith

-- a frame is received, and handled where that has not failed
takes : {s : State} {Q : State → Type 0} (C : Callee) (T us : List Event) (p : ℕ) → Frames C → waits us →
    s.trace ≡ T ++ us → s.locals name.p ≡ Some p → IsBuffer s.memory p 1520 →
    ((t : State) → Answers T t → Q t) → Leads C (Stopping T poll_piece) Q taking s
takes {s} {Q} C T us p known w e p_is b next =
    calls {vs = p ∷ []} (rw p_is refl)
    (us, e, subst (Begins poll_piece) (append-nil us) (frame_ahead us [] w receives_start))
    (λ k. by (C name.receive (p ∷ []) (record s { fuel = k })) (known.receives p (record s { fuel = k }) b))
  where
    S : List Event → Type 0
    S = Stopping T poll_piece

    following : Commands
    following = cond (var name.bad) done (call [] name.handle (var name.p ∷ var name.n ∷ []) done) done

    joined : (t : State) (es : List Event) → t.trace ≡ s.trace ++ es → t.trace ≡ T ++ (us ++ es)
    joined t es h = h ∙ ap (λ q. q ++ es) e ∙ append_assoc T us es

    after : State → List ℕ → State
    after t ws = record t { locals = with_locals (name.n ∷ name.bad ∷ []) ws s.locals }

    -- it was received
    handling : (t : State) (bytes : List ℕ) (es : List Event) → t.trace ≡ T ++ (us ++ es) → Holds t.memory p bytes →
        received bytes es → Leads C S Q following (after t (length bytes ∷ 0 ∷ []))
    handling t bytes es h holds r =
        second_of_two {v = 0} refl refl
        (shown_here {vs = p ∷ length bytes ∷ []} {piece = handle_piece bytes} (rw p_is refl)
        (λ k. known.handles bytes p (record t {
          locals =
              with_locals (name.n ∷ name.bad ∷ []) (length bytes ∷ 0 ∷ []) s.locals;
          fuel = k;
        }) b.below holds)
        (starts bytes)
        (λ fs q. (us ++ (es ++ fs), ap (λ q. q ++ fs) h ∙ longer fs, handled_ahead bytes us es fs w r q))
        (λ ws fs o q. ends (ends (next _ (
          0 ∷ [],
          quiet ws q.0,
          (
            us ++ (es ++ fs),
            ap (λ q. q ++ fs) h
                ∙ longer fs,
            ((0, refl), handled bytes ws us es fs w r q),
          ),
        )))))
      where
        longer : (fs : List Event) → (T ++ (us ++ es)) ++ fs ≡ T ++ (us ++ (es ++ fs))
        longer fs = append_assoc T (us ++ es) fs ∙ ap (λ q. T ++ q) (append_assoc us es fs)

        quiet : (ws : List ℕ) → ws ≡ [] →
            words_of (name.bad ∷ []) (with_locals [] ws
            (with_locals (name.n ∷ name.bad ∷ []) (length bytes ∷ 0 ∷ []) s.locals)) ≡ Some (0 ∷ [])
        quiet ws is = subst (λ (q : List ℕ). words_of (name.bad ∷ [])
            (with_locals [] q (with_locals (name.n ∷ name.bad ∷ []) (length bytes ∷ 0 ∷ []) s.locals)) ≡ Some (0 ∷ []))
            (sym is) refl

    -- it was not
    failing : (t : State) (n : ℕ) (es : List Event) → t.trace ≡ T ++ (us ++ es) → failed_receive es →
        Leads C S Q following (after t (n ∷ 1 ∷ []))
    failing t n es h f = first_of_two {v = 1} refl refl
        (ends (ends (next _ (1 ∷ [], refl, (us ++ es, h, ((1, refl), not_received us es w f))))))

    by : (r : Returned) → Receives s p r → DoesCall (λ ws t. Leads C S Q following (after t ws)) (λ t. S t.trace) r
    by (Returns ws t) (es, h, inl (bytes, is, holds, r)) =
        subst (λ q. Leads C S Q following (after t q)) (sym is) (handling t bytes es (joined t es h) holds r)
    by (Returns ws t) (es, h, inr (n, is, f)) =
        subst (λ q. Leads C S Q following (after t q)) (sym is) (failing t n es (joined t es h) f)
    by (Stops end t) (defined, (es, h, more)) = (defined, (us ++ es, joined t es h, frame_ahead us es w more))

polls : (C : Callee) (s : State) → Words C → Frames C →
    Leads C (Stopping s.trace poll_piece) (Answers s.trace) polling s
polls C s words frames =
    at_state C (Stopping s.trace poll_piece) (Answers s.trace) polling s s.memory (s.trace ++ []) refl
    (sym (append-nil s.trace))
    (reads_word s.trace [] words (λ fs b. (fs, refl, asked_ahead fs b))
    (λ v us o r. second_of_two {v = 0} refl refl (by v us o r))
    (λ v us o f. first_of_two {v = 1} refl refl
    (ends (ends (answers s.trace (upon (with_locals (name.w ∷ name.bad ∷ []) (v ∷ 1 ∷ []) s.locals) s.memory
    (s.trace ++ us) o) 1 us refl refl (not_asked us f))))))
  where
    S : List Event → Type 0
    S = Stopping s.trace poll_piece

    some : (v : ℕ) → suc v ≢ 0
    some v h = omega (arith, h)

    positive : (v : ℕ) → (suc v == 0) ≡ false
    positive v = grind (arith, nat_tests)

    by : (v : ℕ) (us : List Event) (o : State) → read_word 0x7C v us →
        Leads C S (Leads C S (Answers s.trace) done) (cond (var name.w) (buffer name.p 1520 taking done) done done)
        (upon (with_locals (name.w ∷ name.bad ∷ []) (v ∷ 0 ∷ []) s.locals) s.memory (s.trace ++ us) o)
    by zero us o r = second_of_two {v = 0} refl refl
        (ends (ends (ends (answers s.trace
        (upon (with_locals (name.w ∷ name.bad ∷ []) (0 ∷ 0 ∷ []) s.locals) s.memory (s.trace ++ us) o) 0 us refl refl
        (no_frame us r)))))
    by (suc v) us o r =
        first_of_two {v = suc v} refl (positive v)
        (buffers (
          us,
          refl,
          subst (Begins poll_piece) (append-nil us)
              (frame_ahead us [] (suc v, (some v, r)) receives_start),
        )
        (λ c chosen good. takes C s.trace us c.addr frames (suc v, (some v, r)) refl refl (is_buffer s.memory c good)
        (λ t q. ends (ends (ends q)))))

shows : (s : State) (r : Run) → Does (Answers s.trace) (λ t. Stopping s.trace poll_piece t.trace) r →
    ShowsEvents s poll_piece (returned (words_of (name.bad ∷ [])) r)
shows s (Goes t) (ws, is, h) = rw is h
shows s (Ends end t) h = h

pub shows-poll : (C : Callee) (s : State) → Words C → Frames C → ShowsEvents s poll_piece (run_function C poll [] s)
shows-poll C s words frames = shows s (run_all C poll.body (record s { locals = no_locals }))
    (polls C (record s { locals = no_locals }) words frames).does

pub polls_start : Begins poll_piece []
polls_start = asked_ahead [] (reads_start 0x7C)

pub poll-pieces : (fs : List Func) → HasFirmware fs →
    (depth : ℕ) (s : State) → ShowsEvents s poll_piece (function_of fs depth name.poll [] s)
poll-pieces fs has zero s = (tt, ([], sym (append-nil s.trace), polls_start))
poll-pieces fs has (suc depth) s =
    rw has.poll (shows-poll (function_of fs depth) s (words_at fs has.words depth)
    (record { receives = receive-pieces fs has depth; handles = handle-pieces fs has depth }))
