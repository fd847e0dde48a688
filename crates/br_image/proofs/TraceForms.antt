-- What the text of a trace text's line tells.
use Rattle.std.proofs.Common.{◌≡◌, ◌≢◌, ◌⊎◌, inl, inr, ℕ, ◌+◌, ◌*◌, ◌^◌, ◌<◌, ◌==◌, List, [], ◌∷◌}
use Rattle.std.proofs.Common.{◌++◌, refl, ap, sym, ◌∙◌, arith, subst, length, drop, Option, Some, None}
use Rattle.std.specs.Prelude.{codes, slice_index, if◌then◌else◌}
use Rattle.br_bytes.specs.declared.run.Choice.{Choice}
use Rattle.br_image.specs.declared.traces.lines.Cause.{Cause}
use Rattle.br_image.specs.declared.traces.lines.Cause.TheVariants.{Illegal, FetchOutside, FetchMisaligned}
use Rattle.br_image.specs.declared.traces.lines.Cause.TheVariants.{AccessOutside, DeviceAccess, CodeWrite}
use Rattle.br_image.specs.declared.traces.lines.TraceForm.{TraceForm}
use Rattle.br_image.specs.declared.traces.lines.TraceForm.TheVariants as form
use Rattle.br_image.specs.declared.traces.lines.TraceLine.{TraceLine}
use Rattle.br_image.specs.declared.traces.lines.TraceLine.TheVariants.{Read, Write, Halted, Waiting}
use Rattle.br_image.specs.declared.traces.lines.TraceLine.TheVariants.{Trapped, Running, Mem}
use Rattle.br_image.specs.Text.{word_text}
use Rattle.br_image.specs.Forms.{IsTail}
use Rattle.br_image.specs.Fields.{bytes_field}
use Rattle.br_image.specs.ScriptLines.{range_fields, IsBuffer, IsRange}
use Rattle.br_image.specs.TraceLines.{trace_keyword, trace_form_of, cause_word, event_fields}
use Rattle.br_image.specs.TraceLines.{trace_tail, trace_line_text, IsTraceLine}
use Rattle.br_image.specs.TraceReading.{IsTraceContent, IsTraceLineOf}
use Rattle.br_image.proofs.Pieces.{Free, Free-append, Free-from_test}
use Rattle.br_image.proofs.Forms.{Free-word, word_text-injective}
use Rattle.br_image.proofs.Bytes.{Free-bytes_field, word_front, Free-word_fields}
use Rattle.br_image.proofs.Deciding.{same_bytes, number_below}
use Rattle.br_image.proofs.ScriptForms.{tail_split, split_word, words_tail, word_or_not, words_or_not}
use Rattle.br_image.proofs.ScriptForms.{only_word, buffer_or_not, range_or_not, range_fields-injective}
use Rattle.br_image.proofs.ScriptForms.{word_fields-injective, spaced_or_not, after}

-- ---- forms and causes by number

-- a number that tells a word by three of its bytes and its length
abbrev word_number : List ℕ → ℕ
word_number bytes = slice_index bytes 0 + 2 * slice_index bytes 1 + 4 * length bytes

abbrev pub trace_number : TraceForm → ℕ
trace_number f = word_number (trace_keyword f)

abbrev form_by : ℕ → TraceForm
form_by n =
    if n == 332 then form.Read else if n == 367 then form.Write else if n == 322 then form.Halted else if n == 341
    then form.Waiting
    else if n == 372 then form.Trapped else if n == 376 then form.Running else form.Mem

form_by-number : (f : TraceForm) → form_by (trace_number f) ≡ f
form_by-number form.Read = refl
form_by-number form.Write = refl
form_by-number form.Halted = refl
form_by-number form.Waiting = refl
form_by-number form.Trapped = refl
form_by-number form.Running = refl
form_by-number form.Mem = refl

number-below : (f : TraceForm) → trace_number f < 400
number-below form.Read = omega arith
number-below form.Write = omega arith
number-below form.Halted = omega arith
number-below form.Waiting = omega arith
number-below form.Trapped = omega arith
number-below form.Running = omega arith
number-below form.Mem = omega arith

keyword-injective : (f g : TraceForm) → trace_keyword f ≡ trace_keyword g → f ≡ g
keyword-injective f g e = sym (form_by-number f) ∙ (ap (λ t. form_by (word_number t)) e ∙ form_by-number g)

named_or_not : (word : List ℕ)
    → ((f : TraceForm) × (word ≡ trace_keyword f)) ⊎ ((f : TraceForm) → word ≢ trace_keyword f)
named_or_not word =
    elim (number_below (λ n. trace_keyword (form_by n)) word 400) [
      | inl found ↦ inl (form_by found.0, found.2)
      | inr none ↦ inr (λ f e. none (trace_number f) (number-below f) (e ∙ ap trace_keyword (sym (form_by-number f))))
    ]

abbrev cause_number : Cause → ℕ
cause_number c = word_number (cause_word c)

abbrev cause_by : ℕ → Cause
cause_by n =
    if n == 349 then Illegal else if n == 352 then FetchOutside else if n == 364 then FetchMisaligned else if n == 347
    then AccessOutside
    else if n == 350 then DeviceAccess else CodeWrite

cause_by-number : (c : Cause) → cause_by (cause_number c) ≡ c
cause_by-number Illegal = refl
cause_by-number FetchOutside = refl
cause_by-number FetchMisaligned = refl
cause_by-number AccessOutside = refl
cause_by-number DeviceAccess = refl
cause_by-number CodeWrite = refl

cause-below : (c : Cause) → cause_number c < 400
cause-below Illegal = omega arith
cause-below FetchOutside = omega arith
cause-below FetchMisaligned = omega arith
cause-below AccessOutside = omega arith
cause-below DeviceAccess = omega arith
cause-below CodeWrite = omega arith

cause_word-injective : (c d : Cause) → cause_word c ≡ cause_word d → c ≡ d
cause_word-injective c d e = sym (cause_by-number c) ∙ (ap (λ t. cause_by (word_number t)) e ∙ cause_by-number d)

cause_or_not : (word : List ℕ) → ((c : Cause) × (word ≡ cause_word c)) ⊎ ((c : Cause) → word ≢ cause_word c)
cause_or_not word =
    elim (number_below (λ n. cause_word (cause_by n)) word 400) [
      | inl found ↦ inl (cause_by found.0, found.2)
      | inr none ↦ inr (λ c e. none (cause_number c) (cause-below c) (e ∙ ap cause_word (sym (cause_by-number c))))
    ]

-- ---- words hold no space and no line feed

Free-keyword : (f : TraceForm) → Free 32 (trace_keyword f)
Free-keyword form.Read = Free-from_test 32 (codes "read") refl
Free-keyword form.Write = Free-from_test 32 (codes "write") refl
Free-keyword form.Halted = Free-from_test 32 (codes "halted") refl
Free-keyword form.Waiting = Free-from_test 32 (codes "waiting") refl
Free-keyword form.Trapped = Free-from_test 32 (codes "trapped") refl
Free-keyword form.Running = Free-from_test 32 (codes "running") refl
Free-keyword form.Mem = Free-from_test 32 (codes "mem") refl

one_line : (f : TraceForm) → Free 10 (trace_keyword f)
one_line form.Read = Free-from_test 10 (codes "read") refl
one_line form.Write = Free-from_test 10 (codes "write") refl
one_line form.Halted = Free-from_test 10 (codes "halted") refl
one_line form.Waiting = Free-from_test 10 (codes "waiting") refl
one_line form.Trapped = Free-from_test 10 (codes "trapped") refl
one_line form.Running = Free-from_test 10 (codes "running") refl
one_line form.Mem = Free-from_test 10 (codes "mem") refl

Free-cause : (c : Cause) → Free 32 (cause_word c)
Free-cause Illegal = Free-from_test 32 (codes "illegal") refl
Free-cause FetchOutside = Free-from_test 32 (codes "fetchoutside") refl
Free-cause FetchMisaligned = Free-from_test 32 (codes "fetchmisaligned") refl
Free-cause AccessOutside = Free-from_test 32 (codes "accessoutside") refl
Free-cause DeviceAccess = Free-from_test 32 (codes "deviceaccess") refl
Free-cause CodeWrite = Free-from_test 32 (codes "codewrite") refl

cause_line : (c : Cause) → Free 10 (cause_word c)
cause_line Illegal = Free-from_test 10 (codes "illegal") refl
cause_line FetchOutside = Free-from_test 10 (codes "fetchoutside") refl
cause_line FetchMisaligned = Free-from_test 10 (codes "fetchmisaligned") refl
cause_line AccessOutside = Free-from_test 10 (codes "accessoutside") refl
cause_line DeviceAccess = Free-from_test 10 (codes "deviceaccess") refl
cause_line CodeWrite = Free-from_test 10 (codes "codewrite") refl

tail_is : (l : TraceLine) → IsTail (trace_tail l)
tail_is (Read address value) = refl
tail_is (Write address value) = refl
tail_is (Halted words) = words_tail words
tail_is (Waiting address) = refl
tail_is (Trapped cause pc) = refl
tail_is Running = tt
tail_is (Mem range) = refl

Free-event : (a v : ℕ) → Free 10 (event_fields a v)
Free-event a v = (
  (λ e. absurd (omega arith)),
  Free-append 10 (word_text a) (32
      ∷ word_text v) (Free-word 10 a (omega arith)) ((λ e. absurd (omega arith)), Free-word 10 v (omega arith)),
)

Free-tail : (l : TraceLine) → Free 10 (trace_tail l)
Free-tail (Read address value) = Free-event address value
Free-tail (Write address value) = Free-event address value
Free-tail (Halted words) = Free-word_fields words
Free-tail (Waiting address) = ((λ e. absurd (omega arith)), Free-word 10 address (omega arith))
Free-tail (Trapped cause pc) = (
  (λ e. absurd (omega arith)),
  Free-append 10 (cause_word cause) (32
      ∷ word_text pc) (cause_line cause) ((λ e. absurd (omega arith)), Free-word 10 pc (omega arith)),
)
Free-tail Running = tt
Free-tail (Mem range) = (
  (λ e. absurd (omega arith)),
  Free-append 10 (word_text range.addr) (bytes_field range.bytes)
      (Free-word 10 range.addr (omega arith)) (Free-bytes_field range.bytes),
)

pub Free-trace_line : (l : TraceLine) → IsTraceLine l → Free 10 (trace_line_text l)
Free-trace_line l h =
    Free-append 10 (trace_keyword (trace_form_of l)) (trace_tail l) (one_line (trace_form_of l)) (Free-tail l)

-- ---- what a form says of a line

is_read : (l : TraceLine) → trace_form_of l ≡ form.Read → (a v : ℕ) × (l ≡ Read a v)
is_read (Read a v) h = (a, v, refl)
is_read l h =
    absurd (let n : trace_number (trace_form_of l) ≡ trace_number form.Read = ap trace_number h in omega arith)

is_write : (l : TraceLine) → trace_form_of l ≡ form.Write → (a v : ℕ) × (l ≡ Write a v)
is_write (Write a v) h = (a, v, refl)
is_write l h =
    absurd (let n : trace_number (trace_form_of l) ≡ trace_number form.Write = ap trace_number h in omega arith)

is_halted : (l : TraceLine) → trace_form_of l ≡ form.Halted → (words : List ℕ) × (l ≡ Halted words)
is_halted (Halted words) h = (words, refl)
is_halted l h =
    absurd (let n : trace_number (trace_form_of l) ≡ trace_number form.Halted = ap trace_number h in omega arith)

is_waiting : (l : TraceLine) → trace_form_of l ≡ form.Waiting → (a : ℕ) × (l ≡ Waiting a)
is_waiting (Waiting a) h = (a, refl)
is_waiting l h =
    absurd (let n : trace_number (trace_form_of l) ≡ trace_number form.Waiting = ap trace_number h in omega arith)

is_trapped : (l : TraceLine) → trace_form_of l ≡ form.Trapped → (c : Cause) × (pc : ℕ) × (l ≡ Trapped c pc)
is_trapped (Trapped c pc) h = (c, pc, refl)
is_trapped l h =
    absurd (let n : trace_number (trace_form_of l) ≡ trace_number form.Trapped = ap trace_number h in omega arith)

is_running : (l : TraceLine) → trace_form_of l ≡ form.Running → l ≡ Running
is_running Running h = refl
is_running l h =
    absurd (let n : trace_number (trace_form_of l) ≡ trace_number form.Running = ap trace_number h in omega arith)

is_mem : (l : TraceLine) → trace_form_of l ≡ form.Mem → (range : Choice) × (l ≡ Mem range)
is_mem (Mem range) h = (range, refl)
is_mem l h = absurd (let n : trace_number (trace_form_of l) ≡ trace_number form.Mem = ap trace_number h in omega arith)

-- ---- the same tail

event_same : (a v b w : ℕ) → a < 2 ^ 32 → v < 2 ^ 32 → b < 2 ^ 32 → w < 2 ^ 32 → event_fields a v ≡ event_fields b w
    → (a ≡ b) × (v ≡ w)
event_same a v b w ha hv hb hw e =
    let parts = word_front a b (32 ∷ word_text v) (32 ∷ word_text w) ha hb (ap (λ t. drop 1 t) e) in
    (parts.0, word_text-injective v w hv hw (ap (λ t. drop 1 t) parts.1))

trapped_same : (c d : Cause) (v w : ℕ) → v < 2 ^ 32 → w < 2 ^ 32 → trace_tail (Trapped c v) ≡ trace_tail (Trapped d w)
    → (c ≡ d) × (v ≡ w)
trapped_same c d v w h k e =
    let parts = tail_split (cause_word c) (cause_word d) (32 ∷ word_text v) (32 ∷ word_text w) (Free-cause c)
    (Free-cause d) refl refl (ap (λ t. drop 1 t) e) in
    (cause_word-injective c d parts.0, word_text-injective v w h k (ap (λ t. drop 1 t) parts.1))

IsSame : TraceLine → TraceLine → Type 0
IsSame l m = IsTraceLine m → trace_tail l ≡ trace_tail m → l ≡ m

same_content : (l m : TraceLine) → IsTraceLine l → trace_form_of m ≡ trace_form_of l → IsSame l m
unfolding IsSame
same_content (Read a v) m h f =
    let i = is_read m f in
    subst (λ x. IsSame (Read a v) x) (sym i.2)
    (λ k e. let s = event_same a v i.0 i.1 h.0 h.1 k.0 k.1 e in ap (λ x. Read x v) s.0 ∙ ap (λ x. Read i.0 x) s.1)
same_content (Write a v) m h f =
    let i = is_write m f in
    subst (λ x. IsSame (Write a v) x) (sym i.2)
    (λ k e. let s = event_same a v i.0 i.1 h.0 h.1 k.0 k.1 e in ap (λ x. Write x v) s.0 ∙ ap (λ x. Write i.0 x) s.1)
same_content (Halted words) m h f =
    let i = is_halted m f in
    subst (λ x. IsSame (Halted words) x) (sym i.1) (λ k e. ap Halted (word_fields-injective words i.0 h.1 k.1 e))
same_content (Waiting a) m h f =
    let i = is_waiting m f in
    subst (λ x. IsSame (Waiting a) x) (sym i.1)
    (λ k e. ap Waiting (word_text-injective a i.0 h k (ap (λ t. drop 1 t) e)))
same_content (Trapped c v) m h f =
    let i = is_trapped m f in
    subst (λ x. IsSame (Trapped c v) x) (sym i.2)
    (λ k e. let s = trapped_same c i.0 v i.1 h k e in ap (λ x. Trapped x v) s.0 ∙ ap (λ x. Trapped i.0 x) s.1)
same_content Running m h f = λ k e. sym (is_running m f)
same_content (Mem range) m h f =
    let i = is_mem m f in
    subst (λ x. IsSame (Mem range) x) (sym i.1) (λ k e. ap Mem (range_fields-injective range i.0 h.buffer k.buffer e))

pub trace_line-injective : (l m : TraceLine) → IsTraceLine l → IsTraceLine m
    → trace_line_text l ≡ trace_line_text m → l ≡ m
unfolding IsSame
trace_line-injective l m h k e =
    let parts = tail_split (trace_keyword (trace_form_of l)) (trace_keyword (trace_form_of m)) (trace_tail l)
    (trace_tail m)
    (Free-keyword (trace_form_of l)) (Free-keyword (trace_form_of m)) (tail_is l) (tail_is m) e in
    same_content l m h (sym (keyword-injective (trace_form_of l) (trace_form_of m) parts.0)) k parts.1

-- ---- from the first word and the tail to the line

pub line_from : (bytes word tail : List ℕ) (f : TraceForm) (o : Option TraceLine) → bytes ≡ word ++ tail → Free 32 word
    → IsTail tail → word ≡ trace_keyword f
    → IsTraceContent f tail o → IsTraceLineOf bytes o
line_from bytes word tail f (Some l) e h t w c = (
  c.1,
  e
      ∙ (ap (λ x. x ++ tail) (w ∙ ap trace_keyword (sym c.0)) ∙ ap (λ x. trace_keyword (trace_form_of l) ++ x) c.2),
)
line_from bytes word tail f None e h t w c = λ l k same.
    let parts = tail_split word (trace_keyword (trace_form_of l)) tail (trace_tail l) h (Free-keyword (trace_form_of l))
    t (tail_is l) (sym e ∙ same) in
    c l (keyword-injective (trace_form_of l) f (sym parts.0 ∙ w)) k parts.1

pub line_of_none : (bytes word tail : List ℕ) → bytes ≡ word ++ tail → Free 32 word → IsTail tail
    → ((f : TraceForm) → word ≢ trace_keyword f) → IsTraceLineOf bytes None
line_of_none bytes word tail e h t none = λ l k same.
    none (trace_form_of l) (tail_split word (trace_keyword (trace_form_of l)) tail (trace_tail l) h
    (Free-keyword (trace_form_of l)) t (tail_is l) (sym e ∙ same)).0

-- ---- each question has an answer

event_or_not : (xs : List ℕ)
    → ((a v : ℕ) × (a < 2 ^ 32) × (v < 2 ^ 32) × (xs ≡ event_fields a v))
    ⊎ ((a v : ℕ) → a < 2 ^ 32 → v < 2 ^ 32 → xs ≢ event_fields a v)
event_or_not xs =
    elim (word_or_not xs) [
      | inr none ↦ inr (λ a v h k. none a (32 ∷ word_text v) h)
      | inl one ↦ elim (only_word one.1) [
        | inl found ↦ inl (one.0, found.0, one.2, found.1, one.3 ∙ ap (λ t. 32 ∷ (word_text one.0 ++ t)) found.2)
        | inr none ↦ inr (λ a v h k e.
            none v k (word_front one.0 a one.1 (32 ∷ word_text v) one.2 h (ap (λ t. drop 1 t) (sym one.3 ∙ e))).1)
      ]
    ]

Known : TraceForm → List ℕ → Type 0
Known f tail = (o : Option TraceLine) × IsTraceContent f tail o

pub other_trace_line : (tail : List ℕ) (l m : TraceLine) → (IsTraceLine m → tail ≢ trace_tail m) → l ≡ m → IsTraceLine l
    → tail ≢ trace_tail l
other_trace_line tail l m h e = subst (λ x. IsTraceLine x → tail ≢ trace_tail x) (sym e) h

read_known : (tail : List ℕ) → Known form.Read tail
unfolding Known
read_known tail =
    elim (event_or_not tail) [
      | inl found ↦ (Some (Read found.0 found.1), (refl, (found.2, found.3), found.4))
      | inr none ↦
          (None, (λ m q. let i = is_read m q in other_trace_line tail m (Read i.0 i.1) (λ k. none i.0 i.1 k.0 k.1) i.2))
    ]

write_known : (tail : List ℕ) → Known form.Write tail
unfolding Known
write_known tail =
    elim (event_or_not tail) [
      | inl found ↦ (Some (Write found.0 found.1), (refl, (found.2, found.3), found.4))
      | inr none ↦ (
        None,
        (λ m q. let i = is_write m q in other_trace_line tail m (Write i.0 i.1) (λ k. none i.0 i.1 k.0 k.1) i.2),
      )
    ]

halted_known : (tail : List ℕ) → Known form.Halted tail
unfolding Known
halted_known tail =
    elim (words_or_not 8 tail) [
      | inl found ↦ (Some (Halted found.0), (refl, (found.1, found.2), found.3))
      | inr none ↦
          (None, (λ m q. let i = is_halted m q in other_trace_line tail m (Halted i.0) (λ k. none i.0 k.0 k.1) i.1))
    ]

waiting_known : (tail : List ℕ) → Known form.Waiting tail
unfolding Known
waiting_known tail =
    elim (only_word tail) [
      | inl found ↦ (Some (Waiting found.0), (refl, found.1, found.2))
      | inr none ↦
          (None, (λ m q. let i = is_waiting m q in other_trace_line tail m (Waiting i.0) (λ k. none i.0 k) i.1))
    ]

pub no_read : (tail : List ℕ) → ((a v : ℕ) → a < 2 ^ 32 → v < 2 ^ 32 → tail ≢ event_fields a v)
    → IsTraceContent form.Read tail None
no_read tail none = λ m q. let i = is_read m q in other_trace_line tail m (Read i.0 i.1) (λ k. none i.0 i.1 k.0 k.1) i.2

pub no_write : (tail : List ℕ) → ((a v : ℕ) → a < 2 ^ 32 → v < 2 ^ 32 → tail ≢ event_fields a v)
    → IsTraceContent form.Write tail None
no_write tail none =
    λ m q. let i = is_write m q in other_trace_line tail m (Write i.0 i.1) (λ k. none i.0 i.1 k.0 k.1) i.2

pub no_cause_word : (word : List ℕ) → word ≢ codes "illegal" → word ≢ codes "fetchoutside"
    → word ≢ codes "fetchmisaligned" → word ≢ codes "accessoutside" → word ≢ codes "deviceaccess"
    → word ≢ codes "codewrite" → (c : Cause) → word ≢ cause_word c
no_cause_word word a b c d e f Illegal = a
no_cause_word word a b c d e f FetchOutside = b
no_cause_word word a b c d e f FetchMisaligned = c
no_cause_word word a b c d e f AccessOutside = d
no_cause_word word a b c d e f DeviceAccess = e
no_cause_word word a b c d e f CodeWrite = f

-- what no trap line has after its first word
pub no_cause : (tail rest word more : List ℕ) → tail ≡ 32 ∷ rest → rest ≡ word ++ more → Free 32 word → IsTail more
    → ((c : Cause) → word ≢ cause_word c) → IsTraceContent form.Trapped tail None
no_cause tail rest word more e d h t none = λ m q.
    let i = is_trapped m q in
    other_trace_line tail m (Trapped i.0 i.1)
    (λ k same. none i.0 (tail_split word (cause_word i.0) more (32 ∷ word_text i.1) h (Free-cause i.0) t refl
    (sym d ∙ after tail rest (cause_word i.0 ++ 32 ∷ word_text i.1) e same)).0) i.2

pub no_pc : (tail rest word more : List ℕ) → tail ≡ 32 ∷ rest → rest ≡ word ++ more → Free 32 word → IsTail more
    → ((w : ℕ) → w < 2 ^ 32 → more ≢ 32 ∷ word_text w) → IsTraceContent form.Trapped tail None
no_pc tail rest word more e d h t none = λ m q.
    let i = is_trapped m q in
    other_trace_line tail m (Trapped i.0 i.1)
    (λ k same. none i.1 k (tail_split word (cause_word i.0) more (32 ∷ word_text i.1) h (Free-cause i.0) t refl
    (sym d ∙ after tail rest (cause_word i.0 ++ 32 ∷ word_text i.1) e same)).1) i.2

pub a_trap : (tail rest word more : List ℕ) (c : Cause) (pc : ℕ) → tail ≡ 32 ∷ rest → rest ≡ word ++ more
    → word ≡ cause_word c → pc < 2 ^ 32 → more ≡ 32 ∷ word_text pc
    → IsTraceContent form.Trapped tail (Some (Trapped c pc))
a_trap tail rest word more c pc e d w h k =
    (refl, h, e ∙ ap (λ t. 32 ∷ t) (d ∙ (ap (λ x. x ++ more) w ∙ ap (λ x. cause_word c ++ x) k)))

trapped_known : (tail : List ℕ) → Known form.Trapped tail
unfolding Known
trapped_known tail =
    elim (spaced_or_not tail) [
      | inr none ↦ (
        None,
        (λ m q. let i = is_trapped m q in
            other_trace_line tail m (Trapped i.0 i.1) (λ k. none (cause_word i.0 ++ 32 ∷ word_text i.1)) i.2),
      )
      | inl found ↦
          let s = split_word found.0 in
          elim (cause_or_not s.0) [
            | inr none ↦ (None, no_cause tail found.0 s.0 s.1 found.1 s.2 s.3 s.4 none)
            | inl cause ↦ elim (only_word s.1) [
              | inr none ↦ (None, no_pc tail found.0 s.0 s.1 found.1 s.2 s.3 s.4 none)
              | inl pc ↦
                  (Some (Trapped cause.0 pc.0), a_trap tail found.0 s.0 s.1 cause.0 pc.0 found.1 s.2 cause.1 pc.1 pc.2)
            ]
          ]
    ]

running_known : (tail : List ℕ) → Known form.Running tail
unfolding Known
running_known tail =
    elim (same_bytes tail []) [
      | inl same ↦ (Some Running, (refl, tt, same))
      | inr other ↦ (None, (λ m q. other_trace_line tail m Running (λ k. other) (is_running m q)))
    ]

pub no_trace_buffer : (tail : List ℕ) → ((c : Choice) → IsBuffer c → tail ≢ range_fields c)
    → IsTraceContent form.Mem tail None
no_trace_buffer tail none = λ m q. let i = is_mem m q in other_trace_line tail m (Mem i.0) (λ k. none i.0 k.buffer) i.1

pub no_trace_range : (tail : List ℕ) (c : Choice) → IsBuffer c → tail ≡ range_fields c → (IsRange c → ⊥)
    → IsTraceContent form.Mem tail None
no_trace_range tail c h e none = λ m q.
    let i = is_mem m q in
    other_trace_line tail m (Mem i.0)
    (λ k same. none (subst (λ x. IsRange x) (range_fields-injective i.0 c k.buffer h (sym same ∙ e)) k)) i.1

mem_known : (tail : List ℕ) → Known form.Mem tail
unfolding Known
mem_known tail =
    elim (buffer_or_not tail) [
      | inr none ↦ (None, no_trace_buffer tail none)
      | inl found ↦ elim (range_or_not found.0 found.1) [
        | inl range ↦ (Some (Mem found.0), (refl, range, found.2))
        | inr none ↦ (None, no_trace_range tail found.0 found.1 found.2 none)
      ]
    ]

content_known : (f : TraceForm) (tail : List ℕ) → Known f tail
content_known form.Read tail = read_known tail
content_known form.Write tail = write_known tail
content_known form.Halted tail = halted_known tail
content_known form.Waiting tail = waiting_known tail
content_known form.Trapped tail = trapped_known tail
content_known form.Running tail = running_known tail
content_known form.Mem tail = mem_known tail

told : (bytes : List ℕ) (o : Option TraceLine) → IsTraceLineOf bytes o
    → ((l : TraceLine) × IsTraceLine l × (bytes ≡ trace_line_text l))
    ⊎ ((l : TraceLine) → IsTraceLine l → bytes ≢ trace_line_text l)
told bytes (Some l) h = inl (l, h.0, h.1)
told bytes None h = inr h

pub trace_line_or_not : (bytes : List ℕ) → ((l : TraceLine) × IsTraceLine l × (bytes ≡ trace_line_text l))
    ⊎ ((l : TraceLine) → IsTraceLine l → bytes ≢ trace_line_text l)
unfolding Known
trace_line_or_not bytes =
    let s = split_word bytes in
    elim (named_or_not s.0) [
      | inr none ↦ told bytes None (line_of_none bytes s.0 s.1 s.2 s.3 s.4 none)
      | inl found ↦ let known = content_known found.0 s.1 in
          told bytes known.0 (line_from bytes s.0 s.1 found.0 known.0 s.2 s.3 s.4 found.1 known.1)
    ]
