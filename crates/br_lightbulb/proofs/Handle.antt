-- A frame is handled: the light is set where the frame is accepted.
use Rattle.std.proofs.Common.{◌≡◌, inl, inr, ℕ, zero, suc, ◌+◌, ◌*◌, ◌%◌, ◌^◌, ◌<◌, ◌≤◌}
use Rattle.std.proofs.Common.{Bool, true, false, List, [], ◌∷◌, length, Some, ◌==◌, bit_and}
use Rattle.std.proofs.Common.{bit_or, refl, sym, ap, ◌∙◌, arith, append_assoc, append-nil}
use Rattle.std.specs.Prelude.{nat_lt, nat_le, slice_index}
use Rattle.std.proofs.lemmas.Nat.{and_mask}
use Rattle.std.proofs.lemmas.Bool.Decides.{nat_tests}
use Rattle.br_words.specs.declared.operation.BinOp.TheVariants.{Add, And, Or, Slu, Ltu, Eq}
use Rattle.br_words.specs.Words.{value_of_op}
use Rattle.br_bytes.specs.declared.run.Event.{Event}
use Rattle.br_bytes.specs.declared.run.Event.TheVariants.{Read, Write}
use Rattle.br_syntax.specs.declared.program.Func.{Func}
use Rattle.br_source_meaning.specs.Values.{no_locals}
use Rattle.br_source_meaning.specs.Runs.{State, Callee, with_locals, run_all}
use Rattle.br_source_meaning.specs.Calls.{run_function, function_of}
use Rattle.br_judge.specs.Good.{OUT, is_accepted, with_light, light_of, set_light}
use Rattle.br_lightbulb.specs.Names as name
use Rattle.br_lightbulb.specs.Frames.{handle}
use Rattle.br_lightbulb.specs.Shows.{Begins, ShowsPiece, Holds, handle_piece, HasFirmware}
use Rattle.br_lightbulb.proofs.Buffers.{loads}
use Rattle.br_lightbulb.proofs.Commands.{Exp, lit, var, op, byte, Commands, done, cond, read, write, val}
use Rattle.br_lightbulb.proofs.Leads.{Leads, Stopping, ends, tests, reads, writes}
use Rattle.br_lightbulb.proofs.Spi.{Ended, shows-body}

-- ---- the commands

abbrev byte_of_frame : ℕ → Exp
byte_of_frame index = byte (op Add (var name.p) (lit index))

abbrev where_byte : ℕ → ℕ → Commands → Commands
where_byte index b commands = cond (op Eq (byte_of_frame index) (lit b)) commands done done

abbrev setting : Commands
setting =
    read name.v 0x1001200C
    (write 0x1001200C (op Or (op And (var name.v) (lit 0xFF7FFFFF))
    (op Slu (op And (byte_of_frame 42) (lit 1)) (lit 23))) done)

abbrev handling : Commands
handling =
    cond (op Ltu (var name.n) (lit 43)) done
    (cond (op Ltu (lit 1520) (var name.n)) done (where_byte 12 8 (where_byte 13 0 (where_byte 23 17 setting))) done)
    done

-- ---- the events

light_set : (k v : ℕ) → set_light k (Read OUT v ∷ Write OUT (with_light k v) ∷ [])
light_set k v = (v, (Read OUT v ∷ [], Write OUT (with_light k v) ∷ [], refl, refl, refl))

light_bits : (b : ℕ) → value_of_op Slu (value_of_op And b 1) 23 ≡ b % 2 * 2 ^ 23
light_bits b = ap (λ k. value_of_op Slu k 23) (and_mask b 1) ∙ omega arith

-- what a frame asks of the run
pub starts : (bytes : List ℕ) → Begins (handle_piece bytes) []
starts bytes = by (is_accepted bytes) refl
  where
    by : (b : Bool) → is_accepted bytes ≡ b → Begins (handle_piece bytes) []
    by true is = (
      [],
      Read OUT 0 ∷ Write OUT (with_light (light_of bytes) 0) ∷ [],
      (refl, inl (is, light_set (light_of bytes) 0)),
    )
    by false is = ([], [], (refl, inr (is, refl)))

-- ---- the whole

-- what is known where the call begins
record Given (bytes : List ℕ) (p : ℕ) (s : State) : Type 0 where
  fits : p + 1520 ≤ 2 ^ 32
  holds : Holds s.memory p bytes
  p_is : s.locals name.p ≡ Some p
  n_is : s.locals name.n ≡ Some (length bytes)

abbrev Answers : List ℕ → State → State → Type 0
Answers bytes s = Ended s (handle_piece bytes) []

byte_is : (bytes : List ℕ) (p i : ℕ) (s : State) → Given bytes p s → i < length bytes → i < 1520 →
    val s.locals s.memory (byte_of_frame i) ≡ Some (slice_index bytes i)
byte_is bytes p i s g long less = rw g.p_is (loads s.memory p i (slice_index bytes i) g.fits less (g.holds i long less))

-- nothing is done
refuses : (bytes : List ℕ) (s : State) → is_accepted bytes ≡ false → Answers bytes s s
refuses bytes s is = ([], refl, refl, ([], sym (append-nil s.trace), (refl, inr (is, refl))))

-- the light is set
accepts : (C : Callee) (bytes : List ℕ) (p : ℕ) (s : State) (Q : State → Type 0) → Given bytes p s → 42 < length bytes →
    is_accepted bytes ≡ true → ((t : State) → Answers bytes s t → Q t) →
    Leads C (Stopping s.trace (handle_piece bytes)) Q setting s
accepts C bytes p s Q g long is next =
    reads refl ([], sym (append-nil s.trace), starts bytes)
    (λ v vs. writes {v = with_light (light_of bytes) v} refl
    (rw (byte_is bytes p 42 s g long (omega arith))
    (ap (λ k. Some (bit_or (bit_and v 0xFF7FFFFF) k)) (light_bits (slice_index bytes 42))))
    (ends (next _ (
      [],
      refl,
      refl,
      (
        Read OUT v ∷ Write OUT (with_light (light_of bytes) v) ∷ [],
        append_assoc s.trace
            (Read OUT v ∷ []) (Write OUT (with_light (light_of bytes) v) ∷ []),
        (refl, inl (is, light_set (light_of bytes) v)),
      ),
    ))))

too_short : (bytes : List ℕ) → nat_lt (length bytes) 43 ≡ true → is_accepted bytes ≡ false
too_short bytes short =
    let a : nat_le 43 (length bytes) ≡ false = grind (arith, nat_tests) in
    rw a refl

too_long : (bytes : List ℕ) → nat_le 43 (length bytes) ≡ true → nat_lt 1520 (length bytes) ≡ true →
    is_accepted bytes ≡ false
too_long bytes a long =
    let b : nat_le (length bytes) 1520 ≡ false = grind (arith, nat_tests) in
    rw (a, b) refl

long_enough : (n : ℕ) → nat_lt n 43 ≡ false → nat_le 43 n ≡ true
long_enough n h = grind (arith, nat_tests)

short_enough : (n : ℕ) → nat_lt 1520 n ≡ false → nat_le n 1520 ≡ true
short_enough n h = grind (arith, nat_tests)

at_least : (n : ℕ) → nat_lt n 43 ≡ false → 43 ≤ n
at_least n h = grind (arith, nat_tests)

handles : (C : Callee) (bytes : List ℕ) (p : ℕ) (s : State) → Given bytes p s →
    Leads C (Stopping s.trace (handle_piece bytes)) (Answers bytes s) handling s
handles C bytes p s g =
    tests (nat_lt (length bytes) 43) (rw g.n_is refl)
    (λ short. ends (ends (refuses bytes s (too_short bytes short))))
    (λ least. tests (nat_lt 1520 (length bytes)) (rw g.n_is refl)
    (λ long. ends (ends (ends (refuses bytes s (too_long bytes (long_enough (length bytes) least) long)))))
    (λ most. let l : 43 ≤ length bytes = at_least (length bytes) least in
    let a : nat_le 43 (length bytes) ≡ true = long_enough (length bytes) least in
    let b : nat_le (length bytes) 1520 ≡ true = short_enough (length bytes) most in
    tests (slice_index bytes 12 == 8) (rw (byte_is bytes p 12 s g (omega arith) (omega arith)) refl)
    (λ e12. tests (slice_index bytes 13 == 0) (rw (byte_is bytes p 13 s g (omega arith) (omega arith)) refl)
    (λ e13. tests (slice_index bytes 23 == 17) (rw (byte_is bytes p 23 s g (omega arith) (omega arith)) refl)
    (λ e23. accepts C bytes p s (Leads C S
    (Leads C S (Leads C S (Leads C S (Leads C S (Answers bytes s) done) done) done) done) done) g (omega arith)
    (rw (a, b, e12, e13, e23) refl) (λ t q. ends (ends (ends (ends (ends q))))))
    (λ n23. ends (ends (ends (ends (ends (ends (refuses bytes s (rw (a, b, e12, e13, n23) refl)))))))))
    (λ n13. ends (ends (ends (ends (ends (refuses bytes s (rw (a, b, e12, n13) refl))))))))
    (λ n12. ends (ends (ends (ends (refuses bytes s (rw (a, b, n12) refl))))))))
  where
    S : List Event → Type 0
    S = Stopping s.trace (handle_piece bytes)

pub shows-handle : (C : Callee) (bytes : List ℕ) (p : ℕ) (s : State) → p + 1520 ≤ 2 ^ 32 → Holds s.memory p bytes →
    ShowsPiece s (handle_piece bytes) (run_function C handle (p ∷ length bytes ∷ []) s)
shows-handle C bytes p s fits holds =
    let s0 : State = record s { locals = with_locals (name.p ∷ name.n ∷ []) (p ∷ length bytes ∷ []) no_locals } in
    shows-body s (handle_piece bytes) [] (run_all C handle.body s0)
    (handles C bytes p s0 (record { fits = fits; holds = holds; p_is = refl; n_is = refl })).does

pub handle-pieces : (fs : List Func) → HasFirmware fs →
    (depth : ℕ) (bytes : List ℕ) (p : ℕ) (s : State) → p + 1520 ≤ 2 ^ 32 → Holds s.memory p bytes →
    ShowsPiece s (handle_piece bytes) (function_of fs depth name.handle (p ∷ length bytes ∷ []) s)
handle-pieces fs has zero bytes p s fits holds = (tt, ([], sym (append-nil s.trace), starts bytes))
handle-pieces fs has (suc depth) bytes p s fits holds =
    rw has.handle (shows-handle (function_of fs depth) bytes p s fits holds)
