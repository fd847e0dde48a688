-- What the pieces of a line say of the line.
use Rattle.std.proofs.Common.{◌≡◌, ◌≢◌, ℕ, ◌^◌, ◌<◌, ◌≤◌, List, ◌∷◌, ◌++◌, refl}
use Rattle.std.proofs.Common.{ap, sym, ◌∙◌, arith, subst, Option, Some, None}
use Rattle.std.specs.Prelude.{codes, IfSome, IfNone, MatchOption, IsSomeAnd}
use Rattle.std.specs.Option.{option_map}
use Rattle.std.specs.Fmt.{decimal}
use lib.Pointwise.{pointwise, bytes_decides}
use Rattle.std.proofs.Common.{true, false, eqb}
use Rattle.br_base.specs.Name.{IsName}
use Rattle.br_words.specs.declared.layout.Layout.{Layout}
use Rattle.br_words.specs.declared.layout.Layout.TheVariants.{One, Two}
use Rattle.br_words.specs.Layout.{most_words}
use Rattle.br_image.specs.declared.images.Entry.{Entry}
use Rattle.br_image.specs.declared.lines.Line.{Line}
use Rattle.br_image.specs.declared.lines.Line.TheVariants.{Header, Function, Count, Word, End}
use Rattle.br_image.specs.Text.{version_text, word_text}
use Rattle.br_image.specs.Lines.{IsLine, IsEntryLine, line_text}
use Rattle.br_image.specs.Forms.{Lacks, IsLineOf, fields_text}
use Rattle.br_image.proofs.Pieces.{Free, Free-not, Free-lacks, Lacks-free, Free-from_test, Free-decimal, Free-name, cut}
use Rattle.br_image.proofs.Forms.{Free-word, entry_text-fields, apart}

-- ---- a number and a space

pub field_space : (bytes rest : List ℕ) (n : ℕ) → Lacks 32 bytes → bytes ≡ decimal n ++ 32 ∷ rest → ⊥
field_space bytes rest n h e =
    let P : List ℕ → Type 0 = λ t. Free 32 t in
    Free-not 32 (decimal n) rest (subst P e (Free-lacks 32 bytes h))

pub field_digits : (bytes digits v w : List ℕ) (n : ℕ) → Lacks 32 digits → n < 2 ^ 64 → bytes ≡ digits ++ 32 ∷ v
    → bytes ≡ decimal n ++ 32 ∷ w → digits ≡ decimal n
field_digits bytes digits v w n h small d e =
    (cut 32 digits (decimal n) v w (Free-lacks 32 digits h) (Free-decimal 32 n (omega arith) small) (sym d ∙ e)).0

pub field_rest : (bytes v w : List ℕ) (m n : ℕ) → m < 2 ^ 64 → n < 2 ^ 64 → bytes ≡ decimal m ++ 32 ∷ v
    → bytes ≡ decimal n ++ 32 ∷ w → v ≡ w
field_rest bytes v w m n k h d e =
    (cut 32 (decimal m) (decimal n) v w (Free-decimal 32 m (omega arith) k) (Free-decimal 32 n (omega arith) h)
    (sym d ∙ e)).1

pub name_space : (bytes rest name : List ℕ) → Lacks 32 bytes → bytes ≡ name ++ 32 ∷ rest → ⊥
name_space bytes rest name h e =
    let P : List ℕ → Type 0 = λ t. Free 32 t in
    Free-not 32 name rest (subst P e (Free-lacks 32 bytes h))

pub name_rest : (bytes name v m w : List ℕ) → Lacks 32 name → IsName m → bytes ≡ name ++ 32 ∷ v → bytes ≡ m ++ 32 ∷ w
    → (name ≡ m) × (v ≡ w)
name_rest bytes name v m w h k d e =
    cut 32 name m v w (Free-lacks 32 name h) (Free-name 32 m (omega arith) k) (sym d ∙ e)

-- ---- the first word of a line

-- the first word and the rest of a line that has a space
abbrev Worded : List ℕ → List ℕ → Line → Type 0
Worded first rest (Header own) = (first ≡ codes "brimage") × (rest ≡ version_text own)
Worded first rest (Function e) = (first ≡ codes "entry") × (rest ≡ fields_text e)
Worded first rest (Count n) = (first ≡ codes "code") × (rest ≡ decimal n)
Worded first rest (Word w) = ⊥
Worded first rest End = ⊥

spaced : (first rest bytes : List ℕ) → Free 32 bytes → first ++ 32 ∷ rest ≡ bytes → ⊥
spaced first rest bytes h e =
    let P : List ℕ → Type 0 = λ t. Free 32 t in
    Free-not 32 first rest (subst P (sym e) h)

worded : (first rest : List ℕ) (l : Line) → Lacks 32 first → first ++ 32 ∷ rest ≡ line_text l → Worded first rest l
worded first rest (Header own) h e = cut 32 first (codes "brimage") rest (version_text own) (Free-lacks 32 first h)
    (Free-from_test 32 (codes "brimage") refl) e
worded first rest (Function x) h e = cut 32 first (codes "entry") rest (fields_text x) (Free-lacks 32 first h)
    (Free-from_test 32 (codes "entry") refl) (e ∙ entry_text-fields x)
worded first rest (Count n) h e =
    cut 32 first (codes "code") rest (decimal n) (Free-lacks 32 first h) (Free-from_test 32 (codes "code") refl) e
worded first rest (Word w) h e = spaced first rest (word_text w) (Free-word 32 w (omega arith)) e
worded first rest End h e = spaced first rest (codes "end") (Free-from_test 32 (codes "end") refl) e

not_version : (rest : List ℕ) (l : Line) → ((own : Layout) → rest ≢ version_text own)
    → Worded (codes "brimage") rest l → ⊥
not_version rest (Header own) h w = h own w.1
not_version rest (Function x) h w = apart 0 (codes "brimage") (codes "entry") refl w.0
not_version rest (Count n) h w = apart 0 (codes "brimage") (codes "code") refl w.0
not_version rest (Word n) h w = w
not_version rest End h w = w

neither : (rest : List ℕ) → rest ≢ codes "1" → rest ≢ codes "2" → (own : Layout) → rest ≢ version_text own
neither rest a b One = a
neither rest a b Two = b

pub line_version : (y : Layout) (rest : List ℕ) → rest ≢ codes "1" → rest ≢ codes "2"
    → IsLineOf y (codes "brimage" ++ 32 ∷ rest) None
line_version y rest a b l k e =
    let lacks : Lacks 32 (codes "brimage") =
    Lacks-free 32 (codes "brimage") (Free-from_test 32 (codes "brimage") refl) in
    not_version rest l (neither rest a b) (worded (codes "brimage") rest l lacks e)

not_entry : (y : Layout) (first rest : List ℕ) (l : Line) → first ≡ codes "entry" → IsLine y l
    → ((e : Entry) → IsEntryLine e → rest ≢ fields_text e) → Worded first rest l → ⊥
not_entry y first rest (Header own) h k none w = apart 0 (codes "brimage") (codes "entry") refl (sym w.0 ∙ h)
not_entry y first rest (Function x) h k none w = none x k w.1
not_entry y first rest (Count n) h k none w = apart 0 (codes "code") (codes "entry") refl (sym w.0 ∙ h)
not_entry y first rest (Word n) h k none w = w
not_entry y first rest End h k none w = w

pub line_entry : (y : Layout) (first rest : List ℕ) (o : Option Entry) → Lacks 32 first → first ≡ codes "entry"
    → IfSome o (λ e. IsEntryLine e × (rest ≡ fields_text e))
    → IfNone o ((e : Entry) → IsEntryLine e → rest ≢ fields_text e)
    → IsLineOf y (first ++ 32 ∷ rest) (option_map Function o)
line_entry y first rest (Some x) lacks h some none =
    (some.0, ap (λ t. t ++ 32 ∷ rest) h ∙ (ap (λ t. codes "entry" ++ 32 ∷ t) some.1 ∙ sym (entry_text-fields x)))
line_entry y first rest None lacks h some none =
    λ l k e. not_entry y first rest l h k none (worded first rest l lacks e)

not_code : (y : Layout) (first rest : List ℕ) (l : Line) → first ≡ codes "code" → IsLine y l
    → ((n : ℕ) → n ≤ most_words y → rest ≢ decimal n) → Worded first rest l → ⊥
not_code y first rest (Header own) h k none w = apart 0 (codes "brimage") (codes "code") refl (sym w.0 ∙ h)
not_code y first rest (Function x) h k none w = apart 0 (codes "entry") (codes "code") refl (sym w.0 ∙ h)
not_code y first rest (Count n) h k none w = none n k w.1
not_code y first rest (Word n) h k none w = w
not_code y first rest End h k none w = w

pub line_code : (y : Layout) (first rest : List ℕ) (o : Option ℕ) → Lacks 32 first → first ≡ codes "code"
    → IfSome o (λ n. (n ≤ most_words y) × (rest ≡ decimal n)) → IfNone o ((n : ℕ) → n ≤ most_words y → rest ≢ decimal n)
    → IsLineOf y (first ++ 32 ∷ rest) (option_map Count o)
line_code y first rest (Some n) lacks h some none =
    (some.0, ap (λ t. t ++ 32 ∷ rest) h ∙ ap (λ t. codes "code" ++ 32 ∷ t) some.1)
line_code y first rest None lacks h some none = λ l k e. not_code y first rest l h k none (worded first rest l lacks e)

not_known : (first rest : List ℕ) (l : Line) → first ≢ codes "brimage" → first ≢ codes "entry" → first ≢ codes "code"
    → Worded first rest l → ⊥
not_known first rest (Header own) a b c w = a w.0
not_known first rest (Function x) a b c w = b w.0
not_known first rest (Count n) a b c w = c w.0
not_known first rest (Word n) a b c w = w
not_known first rest End a b c w = w

pub line_unknown : (y : Layout) (first rest : List ℕ) → Lacks 32 first → first ≢ codes "brimage" → first ≢ codes "entry"
    → first ≢ codes "code"
    → IsLineOf y (first ++ 32 ∷ rest) None
line_unknown y first rest lacks a b c l k e = not_known first rest l a b c (worded first rest l lacks e)

-- ---- a line with no space

not_single : (y : Layout) (bytes : List ℕ) (l : Line) → Free 32 bytes → IsLine y l → bytes ≢ codes "end"
    → ((w : ℕ) → w < 2 ^ 32 → bytes ≢ word_text w) → bytes ≡ line_text l → ⊥
not_single y bytes (Header own) lacks k a none e = spaced (codes "brimage") (version_text own) bytes lacks (sym e)
not_single y bytes (Function x) lacks k a none e =
    spaced (codes "entry") (fields_text x) bytes lacks (sym (e ∙ entry_text-fields x))
not_single y bytes (Count n) lacks k a none e = spaced (codes "code") (decimal n) bytes lacks (sym e)
not_single y bytes (Word w) lacks k a none e = none w k e
not_single y bytes End lacks k a none e = a e

pub line_single : (y : Layout) (bytes : List ℕ) (o : Option ℕ) → Lacks 32 bytes → bytes ≢ codes "end"
    → IfSome o (λ w. (w < 2 ^ 32) × (bytes ≡ word_text w))
    → IfNone o ((w : ℕ) → w < 2 ^ 32 → bytes ≢ word_text w) → IsLineOf y bytes (option_map Word o)
line_single y bytes (Some w) lacks a some none = some
line_single y bytes None lacks a some none = λ l k e. not_single y bytes l (Free-lacks 32 bytes lacks) k a none e

pub differ : (xs ys zs : List ℕ) → false ≡ pointwise eqb xs ys → ys ≡ zs → xs ≢ zs
differ xs ys zs h e same =
    let equal = (bytes_decides xs ys).1 (same ∙ sym e) in
    absurd cc

pub same_text : (xs ys zs : List ℕ) → true ≡ pointwise eqb xs ys → ys ≡ zs → xs ≡ zs
same_text xs ys zs h e = (bytes_decides xs ys).0 (sym h) ∙ e

-- what mapping a constructor over an option gives
pub mapped : {X : Type 0} (f : X → Line) (o : Option X) (r : Option Line)
    → MatchOption o (r ≡ None) (λ x. IsSomeAnd r (λ y. y ≡ f x)) → r ≡ option_map f o
mapped f None r h = h
mapped f (Some x) None h = absurd h
mapped f (Some x) (Some y) h = ap Some h
