-- A line's text tells its form.
use Rattle.std.proofs.Common.{◌≡◌, ◌≢◌, ℕ, ◌/◌, ◌%◌, ◌^◌, ◌<◌, ◌≤◌, List, ◌∷◌}
use Rattle.std.proofs.Common.{◌++◌, refl, ap, sym, ◌∙◌, arith, append_assoc, subst}
use Rattle.std.proofs.lemmas.List.{append_cancel_left}
use Rattle.std.specs.Prelude.{codes, slice_index, ◌==◌, false}
use Rattle.std.specs.Fmt.{decimal}
use Rattle.std.proofs.lemmas.Fmt.{decimal_injective}
use Rattle.std.proofs.lemmas.Bool.Decides.{nat_tests}
use Rattle.br_words.specs.declared.layout.Layout.{Layout}
use Rattle.br_words.specs.declared.layout.Layout.TheVariants.{One, Two}
use Rattle.br_words.specs.Layout.{most_words}
use Rattle.br_image.specs.declared.images.Entry.{Entry}
use Rattle.br_image.specs.declared.lines.Line.{Line}
use Rattle.br_image.specs.declared.lines.Line.TheVariants.{Header, Function, Count, Word, End}
use Rattle.br_image.specs.Text.{version_text, header_text, entry_text, word_text}
use Rattle.br_words.specs.Hexadecimal.{hex_digit}
use Rattle.br_image.specs.Forms.{numbers_text}
use Rattle.br_image.specs.Lines.{IsLine, IsEntryLine, line_text}
use Rattle.br_image.proofs.Pieces.{Free, Free-append, Free-from_test, Free-decimal, Free-name, cut}

pub hex_digit-above : (d : ℕ) → 48 ≤ hex_digit d
hex_digit-above d = grind (arith, nat_tests)

hex_digit-below : (d : ℕ) → d < 16 → hex_digit d < 103
hex_digit-below d h = grind (arith, nat_tests)

hex_digit-injective : (c d : ℕ) → c < 16 → d < 16 → hex_digit c ≡ hex_digit d → c ≡ d
hex_digit-injective c d h k e = grind (arith, nat_tests)

pub Free-digit : (c d : ℕ) → c < 48 → hex_digit d ≢ c
Free-digit c d low = let above = hex_digit-above d in omega arith

pub Free-word : (c w : ℕ) → c < 48 → Free c (word_text w)
Free-word c w low = (
  Free-digit c (w / 268435456 % 16) low,
  (
    Free-digit c (w / 16777216 % 16) low,
    (
      Free-digit c (w / 1048576 % 16) low,
      (
        Free-digit c (w / 65536 % 16) low,
        (
          Free-digit c (w / 4096 % 16) low,
          (Free-digit c (w / 256 % 16) low, (Free-digit c (w / 16 % 16) low, (Free-digit c (w % 16) low, tt))),
        ),
      ),
    ),
  ),
)

abbrev fields : List ℕ → ℕ → ℕ → ℕ → ℕ → List ℕ
fields name args results offset need = name ++ 32 ∷ numbers_text args results offset need

pub entry_text-fields : (e : Entry) → entry_text e ≡ codes "entry " ++ fields e.name e.args e.results e.offset e.need
entry_text-fields e = simp append_assoc

space_apart : (a b : ℕ) → a ≡ 32 → b ≡ 10 → a ≡ b → ⊥
space_apart a b h k e = absurd (omega arith)

Free-fields : (e : Entry) → IsEntryLine e → Free 10 (fields e.name e.args e.results e.offset e.need)
Free-fields e h =
    let name = h.name in let args = h.args in let results = h.results in let offset = h.offset in let need = h.need in
    let space = space_apart 32 10 refl refl in
    let four : Free 10 (decimal e.need) = Free-decimal 10 e.need (omega arith) (omega arith) in
    let three : Free 10 (decimal e.offset ++ 32 ∷ decimal e.need) = Free-append 10 (decimal e.offset)
    (32 ∷ decimal e.need) (Free-decimal 10 e.offset (omega arith) (omega arith)) (space, four) in
    let two : Free 10 (decimal e.results ++ 32 ∷ (decimal e.offset ++ 32 ∷ decimal e.need)) =
    Free-append 10 (decimal e.results) (32 ∷ (decimal e.offset ++ 32 ∷ decimal e.need))
    (Free-decimal 10 e.results (omega arith) (omega arith)) (space, three) in
    let one : Free 10 (decimal e.args ++ 32 ∷ (decimal e.results ++ 32 ∷ (decimal e.offset ++ 32 ∷ decimal e.need))) =
    Free-append 10 (decimal e.args) (32 ∷ (decimal e.results ++ 32 ∷ (decimal e.offset ++ 32 ∷ decimal e.need)))
    (Free-decimal 10 e.args (omega arith) (omega arith)) (space, two) in
    Free-append 10 e.name
    (32 ∷ (decimal e.args ++ 32 ∷ (decimal e.results ++ 32 ∷ (decimal e.offset ++ 32 ∷ decimal e.need))))
    (Free-name 10 e.name (omega arith) name) (space, one)

-- no layout has more words than this
pub most_within : (y : Layout) → most_words y ≤ 1048576
most_within One = omega arith
most_within Two = omega arith

Free-header : (c : ℕ) (y : Layout) → c ≡ 10 → Free c (header_text y)
Free-header c One h = rw h (Free-from_test 10 (codes "brimage 1") refl)
Free-header c Two h = rw h (Free-from_test 10 (codes "brimage 2") refl)

-- no line holds a line feed
pub Free-line : (y : Layout) (l : Line) → IsLine y l → Free 10 (line_text l)
Free-line y (Header own) h = Free-header 10 own refl
Free-line y (Function e) h =
    let P : List ℕ → Type 0 = λ t. Free 10 t in
    subst P (sym (entry_text-fields e)) (Free-append 10 (codes "entry ")
    (fields e.name e.args e.results e.offset e.need) (Free-from_test 10 (codes "entry ") refl) (Free-fields e h))
Free-line y (Count n) h =
    let within = most_within y in
    Free-append 10 (codes "code ") (decimal n) (Free-from_test 10 (codes "code ") refl)
    (Free-decimal 10 n (omega arith) (omega arith))
Free-line y (Word w) h = Free-word 10 w (omega arith)
Free-line y End h = Free-from_test 10 (codes "end") refl

make_entry : List ℕ → ℕ → ℕ → ℕ → ℕ → Entry
make_entry name args results offset need =
    record { name = name; args = args; results = results; offset = offset; need = need }

same_entry : (e f : Entry) → e.name ≡ f.name → e.args ≡ f.args → e.results ≡ f.results → e.offset ≡ f.offset
    → e.need ≡ f.need → e ≡ f
unfolding make_entry
same_entry e f a b c d g =
    let whole : make_entry e.name e.args e.results e.offset e.need
    ≡ make_entry f.name f.args f.results f.offset f.need = cc in whole

-- two entries with the same fields are equal
pub fields-injective : (e f : Entry) → IsEntryLine e → IsEntryLine f
    → fields e.name e.args e.results e.offset e.need ≡ fields f.name f.args f.results f.offset f.need → e ≡ f
fields-injective e f h k same =
    let args = h.args in let results = h.results in let offset = h.offset in let need = h.need in
    let args' = k.args in let results' = k.results in let offset' = k.offset in let need' = k.need in
    let one = cut 32 e.name f.name _ _ (Free-name 32 e.name (omega arith) h.name)
    (Free-name 32 f.name (omega arith) k.name) same in
    let two = cut 32 (decimal e.args) (decimal f.args) _ _ (Free-decimal 32 e.args (omega arith) (omega arith))
    (Free-decimal 32 f.args (omega arith) (omega arith)) one.1 in
    let three = cut 32 (decimal e.results) (decimal f.results) _ _ (Free-decimal 32 e.results (omega arith)
    (omega arith)) (Free-decimal 32 f.results (omega arith) (omega arith)) two.1 in
    let four = cut 32 (decimal e.offset) (decimal f.offset) _ _ (Free-decimal 32 e.offset (omega arith) (omega arith))
    (Free-decimal 32 f.offset (omega arith) (omega arith)) three.1 in
    same_entry e f one.0
    (decimal_injective e.args f.args (omega arith) (omega arith) two.0)
    (decimal_injective e.results f.results (omega arith) (omega arith) three.0)
    (decimal_injective e.offset f.offset (omega arith) (omega arith) four.0)
    (decimal_injective e.need f.need (omega arith) (omega arith) four.1)

pub word_text-injective : (v w : ℕ) → v < 2 ^ 32 → w < 2 ^ 32 → word_text v ≡ word_text w → v ≡ w
word_text-injective v w h k e =
    let d0 = hex_digit-injective (v / 268435456 % 16) (w / 268435456 % 16) (omega arith) (omega arith) cc in
    let d1 = hex_digit-injective (v / 16777216 % 16) (w / 16777216 % 16) (omega arith) (omega arith) cc in
    let d2 = hex_digit-injective (v / 1048576 % 16) (w / 1048576 % 16) (omega arith) (omega arith) cc in
    let d3 = hex_digit-injective (v / 65536 % 16) (w / 65536 % 16) (omega arith) (omega arith) cc in
    let d4 = hex_digit-injective (v / 4096 % 16) (w / 4096 % 16) (omega arith) (omega arith) cc in
    let d5 = hex_digit-injective (v / 256 % 16) (w / 256 % 16) (omega arith) (omega arith) cc in
    let d6 = hex_digit-injective (v / 16 % 16) (w / 16 % 16) (omega arith) (omega arith) cc in
    let d7 = hex_digit-injective (v % 16) (w % 16) (omega arith) (omega arith) cc in
    omega arith

-- the second byte of a word's text is a digit, so it is below g
second : (w c : ℕ) (a : ℕ) (xs : List ℕ) → word_text w ≡ a ∷ c ∷ xs → c < 103
second w c a xs e =
    let below = hex_digit-below (w / 16777216 % 16) (omega arith) in
    let same : hex_digit (w / 16777216 % 16) ≡ c = cc in
    omega arith

-- two texts that differ at a place
pub apart : (k : ℕ) (xs ys : List ℕ) → (slice_index xs k == slice_index ys k) ≡ false → xs ≡ ys → ⊥
apart k xs ys t e =
    let same : slice_index xs k ≡ slice_index ys k = ap (λ s. slice_index s k) e in
    grind (arith, nat_tests)

version_text-injective : (y z : Layout) → version_text y ≡ version_text z → y ≡ z
version_text-injective One One e = refl
version_text-injective One Two e = absurd (apart 0 (version_text One) (version_text Two) refl e)
version_text-injective Two One e = absurd (apart 0 (version_text Two) (version_text One) refl e)
version_text-injective Two Two e = refl

-- two lines with one text are equal
pub line_text-injective : (p q : Layout) (l m : Line) → IsLine p l → IsLine q m → line_text l ≡ line_text m → l ≡ m
line_text-injective p q (Header own) (Header own') h k e = ap Header
    (version_text-injective own own' (append_cancel_left (codes "brimage ") (version_text own) (version_text own') e))
line_text-injective p q (Function x) (Function y) h k e =
    ap Function (fields-injective x y h k
    (append_cancel_left (codes "entry ") _ _ (sym (entry_text-fields x) ∙ (e ∙ entry_text-fields y))))
line_text-injective p q (Count m) (Count n) h k e =
    let within = most_within p in
    let within' = most_within q in
    ap Count (decimal_injective m n (omega arith) (omega arith)
    (append_cancel_left (codes "code ") (decimal m) (decimal n) e))
line_text-injective p q (Word v) (Word w) h k e = ap Word (word_text-injective v w h k e)
line_text-injective p q End End h k e = refl
line_text-injective p q (Header own) (Function x) h k e =
    absurd (apart 0 (line_text (Header own)) (line_text (Function x)) refl e)
line_text-injective p q (Header own) (Count n) h k e =
    absurd (apart 0 (line_text (Header own)) (line_text (Count n)) refl e)
line_text-injective p q (Header own) (Word w) h k e = absurd (let b = second w 114 98 _ (sym e) in omega arith)
line_text-injective p q (Header own) End h k e = absurd (apart 0 (line_text (Header own)) (line_text End) refl e)
line_text-injective p q (Function x) (Header own) h k e =
    absurd (apart 0 (line_text (Function x)) (line_text (Header own)) refl e)
line_text-injective p q (Function x) (Count n) h k e =
    absurd (apart 0 (line_text (Function x)) (line_text (Count n)) refl e)
line_text-injective p q (Function x) (Word w) h k e = absurd (let b = second w 110 101 _ (sym e) in omega arith)
line_text-injective p q (Function x) End h k e = absurd (apart 2 (line_text (Function x)) (line_text End) refl e)
line_text-injective p q (Count n) (Header own) h k e =
    absurd (apart 0 (line_text (Count n)) (line_text (Header own)) refl e)
line_text-injective p q (Count n) (Function x) h k e =
    absurd (apart 0 (line_text (Count n)) (line_text (Function x)) refl e)
line_text-injective p q (Count n) (Word w) h k e = absurd (let b = second w 111 99 _ (sym e) in omega arith)
line_text-injective p q (Count n) End h k e = absurd (apart 0 (line_text (Count n)) (line_text End) refl e)
line_text-injective p q (Word w) (Header own) h k e = absurd (let b = second w 114 98 _ e in omega arith)
line_text-injective p q (Word w) (Function x) h k e = absurd (let b = second w 110 101 _ e in omega arith)
line_text-injective p q (Word w) (Count n) h k e = absurd (let b = second w 111 99 _ e in omega arith)
line_text-injective p q (Word w) End h k e = absurd (let b = second w 110 101 _ e in omega arith)
line_text-injective p q End (Header own) h k e = absurd (apart 0 (line_text End) (line_text (Header own)) refl e)
line_text-injective p q End (Function x) h k e = absurd (apart 2 (line_text End) (line_text (Function x)) refl e)
line_text-injective p q End (Count n) h k e = absurd (apart 0 (line_text End) (line_text (Count n)) refl e)
line_text-injective p q End (Word w) h k e = absurd (let b = second w 110 101 _ (sym e) in omega arith)
