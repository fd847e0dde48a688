-- What the text of a script's line tells.
use Rattle.std.proofs.Common.{◌≡◌, ◌≢◌, ◌⊎◌, inl, inr, ℕ, zero, suc, ◌+◌, ◌*◌, ◌^◌, ◌<◌, ◌≤◌, ◌==◌, List, [], ◌∷◌, ◌++◌}
use Rattle.std.proofs.Common.{refl, ap, sym, ◌∙◌, arith, append-nil, subst, length, take, drop, Option, Some, None}
use Rattle.std.specs.Prelude.{All, codes, slice_index, if◌then◌else◌}
use Rattle.std.specs.Fmt.{decimal}
use Rattle.std.proofs.lemmas.Bool.{cases_lt, cases_eq}
use Rattle.std.proofs.lemmas.List.{take-append-drop}
use Rattle.std.proofs.lemmas.List.Elements.{All-cons, All-nil, All-head, All-tail}
use Rattle.std.proofs.lemmas.Fmt.{decimal_injective}
use Rattle.br_base.specs.Name.{IsName}
use Rattle.br_words.specs.Layout.{data_base, stack_base}
use Rattle.br_bytes.specs.declared.run.Choice.{Choice}
use Rattle.br_image.specs.declared.scripts.lines.Form.{Form}
use Rattle.br_image.specs.declared.scripts.lines.Form.TheVariants as form
use Rattle.br_image.specs.declared.scripts.lines.ScriptLine.{ScriptLine}
use Rattle.br_image.specs.declared.scripts.lines.ScriptLine.TheVariants.{Run, Interp, Call, Args, Mem}
use Rattle.br_image.specs.declared.scripts.lines.ScriptLine.TheVariants.{Junk, Choose, Answer, Limit, End}
use Rattle.br_image.specs.Text.{word_text}
use Rattle.br_image.specs.Forms.{IsTail}
use Rattle.br_image.specs.Fields.{bytes_field, word_fields}
use Rattle.br_bytes.specs.Hexadecimal.{bytes_text}
use Rattle.br_image.specs.ScriptLines.{keyword, form_of, tail_of, range_fields, script_line_text}
use Rattle.br_image.specs.ScriptLines.{IsBuffer, IsRange, IsScriptLine, most_answers}
use Rattle.br_image.specs.ScriptReading.{IsContent, IsScriptLineOf}
use Rattle.br_image.proofs.Pieces.{Free, Free-append, Free-not, Free-from_test, Free-decimal, Free-name, cut}
use Rattle.br_image.proofs.Forms.{Free-word, word_text-injective}
use Rattle.br_image.proofs.Bytes.{Free-bytes_field, bytes_field-injective, bytes_text-injective}
use Rattle.br_image.proofs.Bytes.{word_front, fields_front, Free-word_fields}
use Rattle.br_image.proofs.Deciding.{cut_at, same_bytes, number_below, name_or_not}

-- ---- forms by number

-- a number that tells a form by its word
abbrev word_number : List ℕ → ℕ
word_number bytes = slice_index bytes 1 + 2 * slice_index bytes 2

abbrev pub form_number : Form → ℕ
form_number f = word_number (keyword f)

abbrev form_by : ℕ → Form
form_by n =
    if n == 342 then form.Run else if n == 324 then form.Interp else if n == 313 then form.Call else if n == 320
    then form.Args else if n == 319 then form.Mem
    else if n == 337 then form.Junk else if n == 326 then form.Choose else if n == 340 then form.Answer else if n == 323
    then form.Limit else form.End

form_by-number : (f : Form) → form_by (form_number f) ≡ f
form_by-number form.Run = refl
form_by-number form.Interp = refl
form_by-number form.Call = refl
form_by-number form.Args = refl
form_by-number form.Mem = refl
form_by-number form.Junk = refl
form_by-number form.Choose = refl
form_by-number form.Answer = refl
form_by-number form.Limit = refl
form_by-number form.End = refl

form_number-below : (f : Form) → form_number f < 400
form_number-below form.Run = omega arith
form_number-below form.Interp = omega arith
form_number-below form.Call = omega arith
form_number-below form.Args = omega arith
form_number-below form.Mem = omega arith
form_number-below form.Junk = omega arith
form_number-below form.Choose = omega arith
form_number-below form.Answer = omega arith
form_number-below form.Limit = omega arith
form_number-below form.End = omega arith

pub form_number-injective : (f g : Form) → form_number f ≡ form_number g → f ≡ g
form_number-injective f g e = sym (form_by-number f) ∙ (ap form_by e ∙ form_by-number g)

pub same_form : (f g : Form) → (f ≡ g) ⊎ (f ≢ g)
same_form f g =
    elim (cases_eq (form_number f) (form_number g)) [
      | inl same ↦ inl (form_number-injective f g same)
      | inr other ↦ inr (λ e. other (ap form_number e))
    ]

pub keyword-injective : (f g : Form) → keyword f ≡ keyword g → f ≡ g
keyword-injective f g e = form_number-injective f g (ap word_number e)

pub named_or_not : (word : List ℕ) → ((f : Form) × (word ≡ keyword f)) ⊎ ((f : Form) → word ≢ keyword f)
named_or_not word =
    elim (number_below (λ n. keyword (form_by n)) word 400) [
      | inl found ↦ inl (form_by found.0, found.2)
      | inr none ↦ inr (λ f e. none (form_number f) (form_number-below f) (e ∙ ap keyword (sym (form_by-number f))))
    ]

-- ---- the first word

pub Free-keyword : (f : Form) → Free 32 (keyword f)
Free-keyword form.Run = Free-from_test 32 (codes "brrun") refl
Free-keyword form.Interp = Free-from_test 32 (codes "brinterp") refl
Free-keyword form.Call = Free-from_test 32 (codes "call") refl
Free-keyword form.Args = Free-from_test 32 (codes "args") refl
Free-keyword form.Mem = Free-from_test 32 (codes "mem") refl
Free-keyword form.Junk = Free-from_test 32 (codes "junk") refl
Free-keyword form.Choose = Free-from_test 32 (codes "choice") refl
Free-keyword form.Answer = Free-from_test 32 (codes "answer") refl
Free-keyword form.Limit = Free-from_test 32 (codes "limit") refl
Free-keyword form.End = Free-from_test 32 (codes "end") refl

one_line : (f : Form) → Free 10 (keyword f)
one_line form.Run = Free-from_test 10 (codes "brrun") refl
one_line form.Interp = Free-from_test 10 (codes "brinterp") refl
one_line form.Call = Free-from_test 10 (codes "call") refl
one_line form.Args = Free-from_test 10 (codes "args") refl
one_line form.Mem = Free-from_test 10 (codes "mem") refl
one_line form.Junk = Free-from_test 10 (codes "junk") refl
one_line form.Choose = Free-from_test 10 (codes "choice") refl
one_line form.Answer = Free-from_test 10 (codes "answer") refl
one_line form.Limit = Free-from_test 10 (codes "limit") refl
one_line form.End = Free-from_test 10 (codes "end") refl

pub words_tail : (ws : List ℕ) → IsTail (word_fields ws)
words_tail [] = tt
words_tail (w ∷ ws) = refl

pub tail_is : (l : ScriptLine) → IsTail (tail_of l)
tail_is Run = refl
tail_is Interp = refl
tail_is (Call name) = refl
tail_is (Args words) = words_tail words
tail_is (Mem range) = refl
tail_is (Junk word) = refl
tail_is (Choose buffer) = refl
tail_is (Answer word times) = refl
tail_is (Limit n) = refl
tail_is End = tt

-- the first words of two texts, and what follows them
pub tail_split : (v w s t : List ℕ) → Free 32 v → Free 32 w → IsTail s → IsTail t → v ++ s ≡ w ++ t → (v ≡ w) × (s ≡ t)
tail_split v w [] [] h k p q e = (sym (append-nil v) ∙ (e ∙ append-nil w), refl)
tail_split v w [] (b ∷ t) h k p q e =
    let P : List ℕ → Type 0 = λ x. Free 32 x in
    absurd (Free-not 32 w t (subst P (sym (append-nil v) ∙ (e ∙ ap (λ c. w ++ c ∷ t) q)) h))
tail_split v w (a ∷ s) [] h k p q e =
    let P : List ℕ → Type 0 = λ x. Free 32 x in
    absurd (Free-not 32 v s (subst P (sym (append-nil w) ∙ (sym e ∙ ap (λ c. v ++ c ∷ s) p)) k))
tail_split v w (a ∷ s) (b ∷ t) h k p q e =
    let parts = cut 32 v w s t h k (ap (λ c. v ++ c ∷ s) (sym p) ∙ (e ∙ ap (λ c. w ++ c ∷ t) q)) in
    (parts.0, ap (λ c. c ∷ s) p ∙ (ap (λ x. 32 ∷ x) parts.1 ∙ ap (λ c. c ∷ t) (sym q)))

-- ---- what a form says of a line

pub is_run : (l : ScriptLine) → form_of l ≡ form.Run → l ≡ Run
is_run Run h = refl
is_run l h = absurd (let n : form_number (form_of l) ≡ form_number form.Run = ap form_number h in omega arith)

pub is_interp : (l : ScriptLine) → form_of l ≡ form.Interp → l ≡ Interp
is_interp Interp h = refl
is_interp l h = absurd (let n : form_number (form_of l) ≡ form_number form.Interp = ap form_number h in omega arith)

pub is_call : (l : ScriptLine) → form_of l ≡ form.Call → (name : List ℕ) × (l ≡ Call name)
is_call (Call name) h = (name, refl)
is_call l h = absurd (let n : form_number (form_of l) ≡ form_number form.Call = ap form_number h in omega arith)

pub is_args : (l : ScriptLine) → form_of l ≡ form.Args → (words : List ℕ) × (l ≡ Args words)
is_args (Args words) h = (words, refl)
is_args l h = absurd (let n : form_number (form_of l) ≡ form_number form.Args = ap form_number h in omega arith)

pub is_mem : (l : ScriptLine) → form_of l ≡ form.Mem → (range : Choice) × (l ≡ Mem range)
is_mem (Mem range) h = (range, refl)
is_mem l h = absurd (let n : form_number (form_of l) ≡ form_number form.Mem = ap form_number h in omega arith)

pub is_junk : (l : ScriptLine) → form_of l ≡ form.Junk → (word : ℕ) × (l ≡ Junk word)
is_junk (Junk word) h = (word, refl)
is_junk l h = absurd (let n : form_number (form_of l) ≡ form_number form.Junk = ap form_number h in omega arith)

pub is_choose : (l : ScriptLine) → form_of l ≡ form.Choose → (buffer : Choice) × (l ≡ Choose buffer)
is_choose (Choose buffer) h = (buffer, refl)
is_choose l h = absurd (let n : form_number (form_of l) ≡ form_number form.Choose = ap form_number h in omega arith)

pub is_answer : (l : ScriptLine) → form_of l ≡ form.Answer → (word times : ℕ) × (l ≡ Answer word times)
is_answer (Answer word times) h = (word, times, refl)
is_answer l h = absurd (let n : form_number (form_of l) ≡ form_number form.Answer = ap form_number h in omega arith)

pub is_limit : (l : ScriptLine) → form_of l ≡ form.Limit → (n : ℕ) × (l ≡ Limit n)
is_limit (Limit n) h = (n, refl)
is_limit l h = absurd (let n : form_number (form_of l) ≡ form_number form.Limit = ap form_number h in omega arith)

pub is_end : (l : ScriptLine) → form_of l ≡ form.End → l ≡ End
is_end End h = refl
is_end l h = absurd (let n : form_number (form_of l) ≡ form_number form.End = ap form_number h in omega arith)

-- ---- the same tail

make_choice : ℕ → List ℕ → Choice
make_choice addr bytes = record { addr = addr; bytes = bytes }

same_choice : (c d : Choice) → c.addr ≡ d.addr → c.bytes ≡ d.bytes → c ≡ d
unfolding make_choice
same_choice c d e h = let whole : make_choice c.addr c.bytes ≡ make_choice d.addr d.bytes = cc in whole

pub range_fields-injective : (c d : Choice) → IsBuffer c → IsBuffer d → range_fields c ≡ range_fields d → c ≡ d
range_fields-injective c d h k e =
    let parts = word_front c.addr d.addr (bytes_field c.bytes) (bytes_field d.bytes) h.address k.address
    (ap (λ t. drop 1 t) e) in
    same_choice c d parts.0 (bytes_field-injective c.bytes d.bytes h.bytes k.bytes parts.1)

words_same : (us vs ws : List ℕ) → ws ≡ vs ++ us → [] ≡ word_fields us → vs ≡ ws
words_same [] vs ws e h = sym (e ∙ append-nil vs)
words_same (u ∷ us) vs ws e h = absurd cc

pub word_fields-injective : (vs ws : List ℕ) → All (λ w. w < 2 ^ 32) vs → All (λ w. w < 2 ^ 32) ws
    → word_fields vs ≡ word_fields ws → vs ≡ ws
word_fields-injective vs ws h k e =
    let front = fields_front vs ws [] h k (append-nil (word_fields vs) ∙ e) in
    words_same front.0 vs ws front.2 front.3

IsSame : ScriptLine → ScriptLine → Type 0
IsSame l m = IsScriptLine m → tail_of l ≡ tail_of m → l ≡ m

same_content : (l m : ScriptLine) → IsScriptLine l → form_of m ≡ form_of l → IsSame l m
unfolding IsSame
same_content Run m h f = λ k e. sym (is_run m f)
same_content Interp m h f = λ k e. sym (is_interp m f)
same_content (Call name) m h f =
    let i = is_call m f in
    subst (λ x. IsSame (Call name) x) (sym i.1) (λ k e. ap Call (ap (λ t. drop 1 t) e))
same_content (Args words) m h f =
    let i = is_args m f in
    subst (λ x. IsSame (Args words) x) (sym i.1) (λ k e. ap Args (word_fields-injective words i.0 h.1 k.1 e))
same_content (Mem range) m h f =
    let i = is_mem m f in
    subst (λ x. IsSame (Mem range) x) (sym i.1) (λ k e. ap Mem (range_fields-injective range i.0 h.buffer k.buffer e))
same_content (Junk word) m h f =
    let i = is_junk m f in
    subst (λ x. IsSame (Junk word) x) (sym i.1)
    (λ k e. ap Junk (word_text-injective word i.0 h k (ap (λ t. drop 1 t) e)))
same_content (Choose buffer) m h f =
    let i = is_choose m f in
    subst (λ x. IsSame (Choose buffer) x) (sym i.1) (λ k e. ap Choose (range_fields-injective buffer i.0 h k e))
same_content (Answer word times) m h f =
    let i = is_answer m f in
    subst (λ x. IsSame (Answer word times) x) (sym i.2) (λ k e.
    let parts = word_front word i.0 (32 ∷ decimal times) (32 ∷ decimal i.1) h.fits k.fits (ap (λ t. drop 1 t) e) in
    let most = h.most in let most' = k.most in
    let count : times ≡ i.1 = decimal_injective times i.1 (omega arith) (omega arith) (ap (λ t. drop 1 t) parts.1) in
    ap (λ w. Answer w times) parts.0 ∙ ap (λ n. Answer i.0 n) count)
same_content (Limit n) m h f =
    let i = is_limit m f in
    subst (λ x. IsSame (Limit n) x) (sym i.1)
    (λ k e. ap Limit (decimal_injective n i.0 (omega arith) (omega arith) (ap (λ t. drop 1 t) e)))
same_content End m h f = λ k e. sym (is_end m f)

-- two lines with one text are equal
pub script_line-injective : (l m : ScriptLine) → IsScriptLine l → IsScriptLine m
    → script_line_text l ≡ script_line_text m → l ≡ m
unfolding IsSame
script_line-injective l m h k e =
    let parts = tail_split (keyword (form_of l)) (keyword (form_of m)) (tail_of l) (tail_of m)
    (Free-keyword (form_of l)) (Free-keyword (form_of m)) (tail_is l) (tail_is m) e in
    same_content l m h (sym (keyword-injective (form_of l) (form_of m) parts.0)) k parts.1

-- ---- no line holds a line feed

Free-tail : (l : ScriptLine) → IsScriptLine l → Free 10 (tail_of l)
Free-tail Run h = Free-from_test 10 (codes " 1") refl
Free-tail Interp h = Free-from_test 10 (codes " 1") refl
Free-tail (Call name) h = ((λ e. absurd (omega arith)), Free-name 10 name (omega arith) h)
Free-tail (Args words) h = Free-word_fields words
Free-tail (Mem range) h = (
  (λ e. absurd (omega arith)),
  Free-append 10 (word_text range.addr) (bytes_field range.bytes)
      (Free-word 10 range.addr (omega arith)) (Free-bytes_field range.bytes),
)
Free-tail (Junk word) h = ((λ e. absurd (omega arith)), Free-word 10 word (omega arith))
Free-tail (Choose buffer) h = (
  (λ e. absurd (omega arith)),
  Free-append 10 (word_text buffer.addr) (bytes_field
      buffer.bytes) (Free-word 10 buffer.addr (omega arith)) (Free-bytes_field buffer.bytes),
)
Free-tail (Answer word times) h =
    let most = h.most in (
      (λ e. absurd (omega arith)),
      Free-append 10 (word_text word) (32 ∷ decimal times) (Free-word 10 word (omega arith))
          ((λ e. absurd (omega arith)), Free-decimal 10 times (omega arith) (omega arith)),
    )
Free-tail (Limit n) h = ((λ e. absurd (omega arith)), Free-decimal 10 n (omega arith) (omega arith))
Free-tail End h = tt

pub Free-script_line : (l : ScriptLine) → IsScriptLine l → Free 10 (script_line_text l)
Free-script_line l h = Free-append 10 (keyword (form_of l)) (tail_of l) (one_line (form_of l)) (Free-tail l h)

-- ---- from the first word and the tail to the line

pub line_from : (bytes word tail : List ℕ) (f : Form) (o : Option ScriptLine) → bytes ≡ word ++ tail → Free 32 word
    → IsTail tail → word ≡ keyword f
    → IsContent f tail o → IsScriptLineOf bytes o
line_from bytes word tail f (Some l) e h t w c =
    (c.1, e ∙ (ap (λ x. x ++ tail) (w ∙ ap keyword (sym c.0)) ∙ ap (λ x. keyword (form_of l) ++ x) c.2))
line_from bytes word tail f None e h t w c = λ l k same.
    let parts = tail_split word (keyword (form_of l)) tail (tail_of l) h (Free-keyword (form_of l)) t (tail_is l)
    (sym e ∙ same) in
    c l (keyword-injective (form_of l) f (sym parts.0 ∙ w)) k parts.1

pub line_of_none : (bytes word tail : List ℕ) → bytes ≡ word ++ tail → Free 32 word → IsTail tail
    → ((f : Form) → word ≢ keyword f) → IsScriptLineOf bytes None
line_of_none bytes word tail e h t none = λ l k same.
    none (form_of l) (tail_split word (keyword (form_of l)) tail (tail_of l) h (Free-keyword (form_of l)) t (tail_is l)
    (sym e ∙ same)).0

-- ---- each question has an answer

pub word_or_not : (xs : List ℕ)
    → ((w : ℕ) × (rest : List ℕ) × (w < 2 ^ 32) × (xs ≡ 32 ∷ (word_text w ++ rest)))
    ⊎ ((w : ℕ) (rest : List ℕ) → w < 2 ^ 32 → xs ≢ 32 ∷ (word_text w ++ rest))
word_or_not [] = inr (λ w rest h e. absurd cc)
word_or_not (x ∷ xs) =
    elim (cases_eq x 32) [
      | inr other ↦ inr (λ w rest h e. other cc)
      | inl same ↦ elim (number_below word_text (take 8 xs) (2 ^ 32)) [
        | inr none ↦ inr (λ w rest h e. none w h (ap (λ t. take 8 (drop 1 t)) e))
        | inl found ↦ inl (
          found.0,
          drop 8 xs,
          found.1,
          ap (λ c. c ∷ xs) same
              ∙ ap (λ t. 32 ∷ t) (sym (take-append-drop 8 xs) ∙ ap (λ t. t ++ drop 8 xs) found.2),
        )
      ]
    ]

no_words : (xs : List ℕ) (x : ℕ) (ws : List ℕ) → length ws ≤ 0 → x ∷ xs ≢ word_fields ws
no_words xs x [] h e = absurd cc
no_words xs x (w ∷ ws) h e = absurd (omega arith)

first_word : (xs : List ℕ) (x : ℕ) (ws : List ℕ) → ((w : ℕ) (rest : List ℕ) → w < 2 ^ 32
    → x ∷ xs ≢ 32 ∷ (word_text w ++ rest)) → All (λ w. w < 2 ^ 32) ws → x ∷ xs ≢ word_fields ws
first_word xs x [] none h e = absurd cc
first_word xs x (w ∷ ws) none h e = none w (word_fields ws) (All-head (λ w. w < 2 ^ 32) w ws h) e

more_words : (xs rest : List ℕ) (v m : ℕ) (ws : List ℕ) → v < 2 ^ 32 → xs ≡ 32 ∷ (word_text v ++ rest)
    → ((us : List ℕ) → length us ≤ m → All (λ w. w < 2 ^ 32) us → rest ≢ word_fields us) → length ws ≤ suc m
    → All (λ w. w < 2 ^ 32) ws → xs ≢ word_fields ws
more_words xs rest v m [] small d none few h e = absurd cc
more_words xs rest v m (w ∷ ws) small d none few h e =
    let P : ℕ → Type 0 = λ w. w < 2 ^ 32 in
    none ws (omega arith) (All-tail P w ws h)
    (word_front v w rest (word_fields ws) small (All-head P w ws h) (ap (λ t. drop 1 t) (sym d ∙ e))).1

pub words_or_not : (m : ℕ) (xs : List ℕ)
    → ((ws : List ℕ) × (length ws ≤ m) × All (λ w. w < 2 ^ 32) ws × (xs ≡ word_fields ws))
    ⊎ ((ws : List ℕ) → length ws ≤ m → All (λ w. w < 2 ^ 32) ws → xs ≢ word_fields ws)
words_or_not m [] = inl ([], omega arith, All-nil (λ w. w < 2 ^ 32), refl)
words_or_not zero (x ∷ xs) = inr (λ ws few h. no_words xs x ws few)
words_or_not (suc m) (x ∷ xs) =
    elim (word_or_not (x ∷ xs)) [
      | inr none ↦ inr (λ ws few h. first_word xs x ws none h)
      | inl one ↦ elim (words_or_not m one.1) [
        | inl more ↦
            let few = more.1 in
            inl (
              one.0 ∷ more.0,
              omega arith,
              All-cons (λ w. w < 2 ^ 32) one.0 more.0 one.2 more.2,
              one.3
                  ∙ ap (λ t. 32 ∷ (word_text one.0 ++ t)) more.3,
            )
        | inr none ↦ inr (λ ws few h. more_words (x ∷ xs) one.1 one.0 m ws one.2 one.3 none few h)
      ]
    ]

no_bytes : (x : ℕ) (xs bs : List ℕ) → bs ≡ [] → x ∷ xs ≢ bytes_text bs
no_bytes x xs bs h e = let none : x ∷ xs ≡ [] = e ∙ ap bytes_text h in absurd cc

Byteless : List ℕ → Type 0
Byteless xs = (bs : List ℕ) → All (λ b. b < 256) bs → xs ≢ bytes_text bs

byteless_one : (x : ℕ) → Byteless (x ∷ [])
unfolding Byteless
byteless_one x [] h e = absurd cc
byteless_one x (b ∷ bs) h e = absurd cc

byteless_pair : (x y : ℕ) (xs : List ℕ) → ((b : ℕ) → b < 256 → x ∷ y ∷ [] ≢ bytes_text (b ∷ [])) → Byteless (x ∷ y ∷ xs)
unfolding Byteless
byteless_pair x y xs none [] h e = absurd cc
byteless_pair x y xs none (b ∷ bs) h e = none b (All-head (λ b. b < 256) b bs h) (ap (λ t. take 2 t) e)

byteless_rest : (x y : ℕ) (xs : List ℕ) → Byteless xs → Byteless (x ∷ y ∷ xs)
unfolding Byteless
byteless_rest x y xs none [] h e = absurd cc
byteless_rest x y xs none (b ∷ bs) h e = none bs (All-tail (λ b. b < 256) b bs h) (ap (λ t. drop 2 t) e)

pair_join : (x y b : ℕ) (xs bs : List ℕ) → x ∷ y ∷ [] ≡ bytes_text (b ∷ []) → xs ≡ bytes_text bs
    → x ∷ y ∷ xs ≡ bytes_text (b ∷ bs)
pair_join x y b xs bs e h = ap (λ t. t ++ xs) e ∙ ap (λ t. bytes_text (b ∷ []) ++ t) h

bytes_or_not : (xs : List ℕ) → ((bs : List ℕ) × All (λ b. b < 256) bs × (xs ≡ bytes_text bs)) ⊎ Byteless xs
bytes_or_not [] = inl ([], All-nil (λ b. b < 256), refl)
bytes_or_not (x ∷ []) = inr (byteless_one x)
bytes_or_not (x ∷ y ∷ xs) =
    elim (number_below (λ b. bytes_text (b ∷ [])) (x ∷ y ∷ []) 256) [
      | inr none ↦ inr (byteless_pair x y xs none)
      | inl one ↦ elim (bytes_or_not xs) [
        | inr none ↦ inr (byteless_rest x y xs none)
        | inl more ↦ inl (
          one.0 ∷ more.0,
          All-cons (λ b. b < 256) one.0 more.0 one.1 more.1,
          pair_join x y one.0 xs more.0 one.2 more.2,
        )
      ]
    ]

field_some : (x : ℕ) (xs bs : List ℕ) → x ≡ 32 → xs ≡ bytes_text bs → bs ≢ [] → x ∷ xs ≡ bytes_field bs
field_some x xs [] s e h = absurd (h refl)
field_some x xs (b ∷ bs) s e h = ap (λ c. c ∷ xs) s ∙ ap (λ t. 32 ∷ t) e

field_head : (x : ℕ) (xs bs : List ℕ) → x ∷ xs ≡ bytes_field bs → x ≡ 32
field_head x xs [] e = absurd cc
field_head x xs (b ∷ bs) e = cc

pub field_tail : (x : ℕ) (xs bs : List ℕ) → x ∷ xs ≡ bytes_field bs → (xs ≡ bytes_text bs) × (bs ≢ [])
field_tail x xs [] e = absurd cc
field_tail x xs (b ∷ bs) e = (ap (λ t. drop 1 t) e, (λ h. absurd cc))

some_bytes : (x : ℕ) (xs bs : List ℕ) → x ∷ xs ≡ bytes_text bs → bs ≢ []
some_bytes x xs bs e h = no_bytes x xs bs h e

pub bytes_field_or_not : (xs : List ℕ) → ((bs : List ℕ) × All (λ b. b < 256) bs × (xs ≡ bytes_field bs))
    ⊎ ((bs : List ℕ) → All (λ b. b < 256) bs → xs ≢ bytes_field bs)
unfolding Byteless
bytes_field_or_not [] = inl ([], All-nil (λ b. b < 256), refl)
bytes_field_or_not (x ∷ []) = inr
    (λ bs h e. let t = field_tail x [] bs e in t.1 (bytes_text-injective bs [] h (All-nil (λ b. b < 256)) (sym t.0)))
bytes_field_or_not (x ∷ y ∷ xs) =
    elim (cases_eq x 32) [
      | inr other ↦ inr (λ bs h e. other (field_head x (y ∷ xs) bs e))
      | inl same ↦ elim (bytes_or_not (y ∷ xs)) [
        | inl found ↦
            inl (found.0, found.1, field_some x (y ∷ xs) found.0 same found.2 (some_bytes y xs found.0 found.2))
        | inr none ↦ inr (λ bs h e. none bs h (field_tail x (y ∷ xs) bs e).0)
      ]
    ]

pub buffer_or_not : (xs : List ℕ)
    → ((c : Choice) × IsBuffer c × (xs ≡ range_fields c)) ⊎ ((c : Choice) → IsBuffer c → xs ≢ range_fields c)
buffer_or_not xs =
    elim (word_or_not xs) [
      | inr none ↦ inr (λ c h. none c.addr (bytes_field c.bytes) h.address)
      | inl one ↦ elim (bytes_field_or_not one.1) [
        | inl found ↦ inl (
          record { addr = one.0; bytes = found.0 },
          record { address = one.2; bytes = found.1 },
          one.3 ∙ ap (λ t. 32 ∷ (word_text one.0 ++ t)) found.2,
        )
        | inr none ↦ inr (λ c h e. none c.bytes h.bytes (word_front one.0 c.addr one.1 (bytes_field c.bytes) one.2
            h.address (ap (λ t. drop 1 t) (sym one.3 ∙ e))).1)
      ]
    ]

empty_or_not : (xs : List ℕ) → (xs ≡ []) ⊎ (xs ≢ [])
empty_or_not [] = inl refl
empty_or_not (x ∷ xs) = inr (λ e. absurd cc)

pub range_or_not : (c : Choice) → IsBuffer c → IsRange c ⊎ (IsRange c → ⊥)
range_or_not c h =
    elim (empty_or_not c.bytes) [
      | inl none ↦ inr (λ r. r.some none)
      | inr some ↦ elim (cases_lt c.addr data_base) [
        | inl below ↦ inr (λ r. let low = r.low in absurd (omega arith))
        | inr low ↦ elim (cases_lt stack_base (c.addr + length c.bytes)) [
          | inl past ↦ inr (λ r. let high = r.high in absurd (omega arith))
          | inr high ↦ inl (record { buffer = h; some = some; low = low; high = high })
        ]
      ]
    ]

-- ---- the content of each form

Known : Form → List ℕ → Type 0
Known f tail = (o : Option ScriptLine) × IsContent f tail o

-- a line of a form is not of another content
pub other_line : (f : Form) (tail : List ℕ) (l m : ScriptLine) → (IsScriptLine m → tail ≢ tail_of m) → l ≡ m
    → IsScriptLine l → tail ≢ tail_of l
other_line f tail l m h e = subst (λ x. IsScriptLine x → tail ≢ tail_of x) (sym e) h

fixed_known : (f : Form) (tail : List ℕ) (l : ScriptLine) → form_of l ≡ f → IsScriptLine l
    → ((m : ScriptLine) → form_of m ≡ f → m ≡ l) → Known f tail
unfolding Known
fixed_known f tail l h k only =
    elim (same_bytes tail (tail_of l)) [
      | inl same ↦ (Some l, (h, k, same))
      | inr other ↦ (None, (λ m q. other_line f tail m l (λ r. other) (only m q)))
    ]

pub spaced_or_not : (xs : List ℕ) → ((rest : List ℕ) × (xs ≡ 32 ∷ rest)) ⊎ ((rest : List ℕ) → xs ≢ 32 ∷ rest)
spaced_or_not [] = inr (λ rest e. absurd cc)
spaced_or_not (x ∷ xs) = elim (cases_eq x 32) [
  | inl same ↦ inl (xs, ap (λ c. c ∷ xs) same)
  | inr other ↦ inr (λ rest e. other cc)
]

pub after : (xs rest more : List ℕ) → xs ≡ 32 ∷ rest → xs ≡ 32 ∷ more → rest ≡ more
after xs rest more e h = ap (λ t. drop 1 t) (sym e ∙ h)

call_known : (tail : List ℕ) → Known form.Call tail
unfolding Known
call_known tail =
    elim (spaced_or_not tail) [
      | inr none ↦ (None, (λ m q. let i = is_call m q in other_line form.Call tail m (Call i.0) (λ k. none i.0) i.1))
      | inl found ↦ elim (name_or_not found.0) [
        | inl name ↦ (Some (Call found.0), (refl, name, found.1))
        | inr none ↦ (
          None,
          (λ m q. let i = is_call m q in other_line form.Call tail m (Call i.0)
              (λ k e. let P : List ℕ → Type 0 = λ t. IsName t in
              none (subst P (sym (after tail found.0 i.0 found.1 e)) k)) i.1),
        )
      ]
    ]

args_known : (tail : List ℕ) → Known form.Args tail
unfolding Known
args_known tail =
    elim (words_or_not 8 tail) [
      | inl found ↦ (Some (Args found.0), (refl, (found.1, found.2), found.3))
      | inr none ↦
          (None, (λ m q. let i = is_args m q in other_line form.Args tail m (Args i.0) (λ k. none i.0 k.0 k.1) i.1))
    ]

mem_known : (tail : List ℕ) → Known form.Mem tail
unfolding Known
mem_known tail =
    elim (buffer_or_not tail) [
      | inr none ↦
          (None, (λ m q. let i = is_mem m q in other_line form.Mem tail m (Mem i.0) (λ k. none i.0 k.buffer) i.1))
      | inl found ↦ elim (range_or_not found.0 found.1) [
        | inl range ↦ (Some (Mem found.0), (refl, range, found.2))
        | inr none ↦ (
          None,
          (λ m q. let i = is_mem m q in other_line form.Mem tail m (Mem i.0)
              (λ k e. none (subst (λ c. IsRange c)
              (range_fields-injective i.0 found.0 k.buffer found.1 (sym e ∙ found.2)) k)) i.1),
        )
      ]
    ]

pub only_word : (tail : List ℕ)
    → ((w : ℕ) × (w < 2 ^ 32) × (tail ≡ 32 ∷ word_text w)) ⊎ ((w : ℕ) → w < 2 ^ 32 → tail ≢ 32 ∷ word_text w)
only_word tail = elim (number_below (λ w. 32 ∷ word_text w) tail (2 ^ 32)) [
  | inl found ↦ inl (found.0, found.1, found.2)
  | inr none ↦ inr none
]

junk_known : (tail : List ℕ) → Known form.Junk tail
unfolding Known
junk_known tail =
    elim (only_word tail) [
      | inl found ↦ (Some (Junk found.0), (refl, found.1, found.2))
      | inr none ↦ (None, (λ m q. let i = is_junk m q in other_line form.Junk tail m (Junk i.0) (λ k. none i.0 k) i.1))
    ]

choose_known : (tail : List ℕ) → Known form.Choose tail
unfolding Known
choose_known tail =
    elim (buffer_or_not tail) [
      | inl found ↦ (Some (Choose found.0), (refl, found.1, found.2))
      | inr none ↦
          (None, (λ m q. let i = is_choose m q in other_line form.Choose tail m (Choose i.0) (λ k. none i.0 k) i.1))
    ]

answer_known : (tail : List ℕ) → Known form.Answer tail
unfolding Known
answer_known tail =
    elim (word_or_not tail) [
      | inr none ↦ (
        None,
        (λ m q. let i = is_answer m q in
            other_line form.Answer tail m (Answer i.0 i.1) (λ k. none i.0 (32 ∷ decimal i.1) k.fits) i.2),
      )
      | inl one ↦ elim (number_below (λ n. 32 ∷ decimal (suc n)) one.1 1000000) [
        | inl found ↦
            let below = found.1 in (
              Some (Answer one.0 (suc found.0)),
              (
                refl,
                record { fits = one.2; some = omega arith; most = omega arith },
                one.3 ∙ ap (λ t. 32 ∷ (word_text one.0 ++ t)) found.2,
              ),
            )
        | inr none ↦ (
          None,
          (λ m q. let i = is_answer m q in other_line form.Answer tail m (Answer i.0 i.1)
              (λ k e. no_answer one.1 i.1 none k.some k.most (word_front one.0 i.0 one.1 (32 ∷ decimal i.1) one.2 k.fits
              (ap (λ t. drop 1 t) (sym one.3 ∙ e))).1) i.2),
        )
      ]
    ]
  where
    no_answer : (rest : List ℕ) (n : ℕ) → ((k : ℕ) → k < 1000000 → rest ≢ 32 ∷ decimal (suc k)) → 1 ≤ n
        → n ≤ most_answers → rest ≢ 32 ∷ decimal n
    no_answer rest zero none some most = absurd (omega arith)
    no_answer rest (suc n) none some most = none n (omega arith)

limit_known : (tail : List ℕ) → Known form.Limit tail
unfolding Known
limit_known tail =
    elim (number_below (λ n. 32 ∷ decimal n) tail 1000001) [
      | inl found ↦ let below = found.1 in (Some (Limit found.0), (refl, omega arith, found.2))
      | inr none ↦ (
        None,
        (λ m q. let i = is_limit m q in other_line form.Limit tail m (Limit i.0) (λ k. none i.0 (omega arith)) i.1),
      )
    ]

content_known : (f : Form) (tail : List ℕ) → Known f tail
content_known form.Run tail = fixed_known form.Run tail Run refl tt is_run
content_known form.Interp tail = fixed_known form.Interp tail Interp refl tt is_interp
content_known form.Call tail = call_known tail
content_known form.Args tail = args_known tail
content_known form.Mem tail = mem_known tail
content_known form.Junk tail = junk_known tail
content_known form.Choose tail = choose_known tail
content_known form.Answer tail = answer_known tail
content_known form.Limit tail = limit_known tail
content_known form.End tail = fixed_known form.End tail End refl tt is_end

-- ---- what a reading finds

pub no_zero : (tail rest : List ℕ) (word times : ℕ) → word < 2 ^ 32 → tail ≡ 32 ∷ (word_text word ++ rest)
    → times ≤ most_answers → rest ≡ 32 ∷ decimal times → times ≡ 0
    → IsContent form.Answer tail None
no_zero tail rest word times small e most d none = λ l q.
    let i = is_answer l q in
    other_line form.Answer tail l (Answer i.0 i.1)
    (λ k same.
    let some = k.some in let within = k.most in
    let parts = word_front word i.0 rest (32 ∷ decimal i.1) small k.fits (ap (λ t. drop 1 t) (sym e ∙ same)) in
    let count : times ≡ i.1 =
    decimal_injective times i.1 (omega arith) (omega arith) (ap (λ t. drop 1 t) (sym d ∙ parts.1)) in
    absurd (omega arith)) i.2

pub no_buffer : (tail : List ℕ) → ((c : Choice) → IsBuffer c → tail ≢ range_fields c) → IsContent form.Mem tail None
no_buffer tail none = λ l q. let i = is_mem l q in other_line form.Mem tail l (Mem i.0) (λ k. none i.0 k.buffer) i.1

pub no_range : (tail : List ℕ) (c : Choice) → IsBuffer c → tail ≡ range_fields c → (IsRange c → ⊥)
    → IsContent form.Mem tail None
no_range tail c h e none = λ l q.
    let i = is_mem l q in
    other_line form.Mem tail l (Mem i.0)
    (λ k same. none (subst (λ x. IsRange x) (range_fields-injective i.0 c k.buffer h (sym same ∙ e)) k)) i.1

-- ---- lines

pub split_word : (bytes : List ℕ)
    → (word : List ℕ) × (tail : List ℕ) × (bytes ≡ word ++ tail) × Free 32 word × IsTail tail
split_word bytes = elim (cut_at 32 bytes) [
  | inl none ↦ (bytes, [], sym (append-nil bytes), none, tt)
  | inr found ↦ (found.0, 32 ∷ found.1, found.3, found.2, refl)
]

told : (bytes : List ℕ) (o : Option ScriptLine) → IsScriptLineOf bytes o
    → ((l : ScriptLine) × IsScriptLine l × (bytes ≡ script_line_text l))
    ⊎ ((l : ScriptLine) → IsScriptLine l → bytes ≢ script_line_text l)
told bytes (Some l) h = inl (l, h.0, h.1)
told bytes None h = inr h

pub script_line_or_not : (bytes : List ℕ)
    → ((l : ScriptLine) × IsScriptLine l × (bytes ≡ script_line_text l))
    ⊎ ((l : ScriptLine) → IsScriptLine l → bytes ≢ script_line_text l)
unfolding Known
script_line_or_not bytes =
    let s = split_word bytes in
    elim (named_or_not s.0) [
      | inr none ↦ told bytes None (line_of_none bytes s.0 s.1 s.2 s.3 s.4 none)
      | inl found ↦ let known = content_known found.0 s.1 in
          told bytes known.0 (line_from bytes s.0 s.1 found.0 known.0 s.2 s.3 s.4 found.1 known.1)
    ]
