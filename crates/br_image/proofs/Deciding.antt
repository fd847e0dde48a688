-- Each question that the reading of a text asks has an answer.
use Rattle.std.proofs.Common.{◌≡◌, ◌≢◌, ◌⊎◌, inl, inr, ℕ, zero, suc, ◌+◌, ◌*◌, ◌%◌, ◌^◌, ◌<◌, ◌≤◌, Bool}
use Rattle.std.proofs.Common.{true, false, List, [], ◌∷◌, ◌++◌, refl, ap, sym, ◌∙◌, arith, subst, take, eqb}
use Rattle.std.specs.Prelude.{All, Any, codes}
use Rattle.std.specs.Fmt.{decimal}
use Rattle.std.proofs.lemmas.Bool.{cases_lt, cases_eq}
use Rattle.std.proofs.lemmas.List.Elements.{All-cons, All-nil}
use lib.Pointwise.{pointwise, bytes_decides}
use Rattle.br_base.specs.Name.{IsName, is_name}
use Rattle.br_words.specs.declared.layout.Layout.{Layout}
use Rattle.br_words.specs.declared.layout.Layout.TheVariants.{One, Two}
use Rattle.br_words.specs.Layout.{most_words}
use Rattle.br_image.specs.declared.images.Entry.{Entry}
use Rattle.br_image.specs.declared.lines.Line.{Line}
use Rattle.br_image.specs.declared.lines.Line.TheVariants.{Header, Function, Count, Word, End}
use Rattle.br_image.specs.Text.{header_text, entry_text, code_text, word_text}
use Rattle.br_image.specs.Lines.{IsLine, IsEntryLine, line_text}
use Rattle.br_image.specs.Forms.{numbers_text, fields_text}
use Rattle.br_image.specs.Faults.{IsOffset}
use Rattle.br_image.specs.Reading.{IsFirstBad}
use Rattle.br_image.proofs.Pieces.{Free, Free-not, Free-from_test, Free-decimal, Free-name, cut}
use Rattle.br_image.proofs.Forms.{entry_text-fields}

-- a list is cut at its first c, or has none
pub cut_at : (c : ℕ) (xs : List ℕ)
    → Free c xs ⊎ ((front : List ℕ) × (back : List ℕ) × Free c front × (xs ≡ front ++ c ∷ back))
cut_at c [] = inl tt
cut_at c (x ∷ xs) =
    elim (cases_eq x c) [
      | inl same ↦ inr ([], xs, tt, ap (λ k. k ∷ xs) same)
      | inr other ↦ elim (cut_at c xs) [
        | inl none ↦ inl (other, none)
        | inr found ↦ inr (x ∷ found.0, found.1, (other, found.2), ap (λ t. x ∷ t) found.3)
      ]
    ]

by_test : (xs ys : List ℕ) (b : Bool) → pointwise eqb xs ys ≡ b → (xs ≡ ys) ⊎ (xs ≢ ys)
by_test xs ys true h = inl ((bytes_decides xs ys).0 h)
by_test xs ys false h = inr (λ same. let equal = (bytes_decides xs ys).1 same in absurd cc)

pub same_bytes : (xs ys : List ℕ) → (xs ≡ ys) ⊎ (xs ≢ ys)
same_bytes xs ys = by_test xs ys (pointwise eqb xs ys) refl

-- some number below m has this text, or none has
pub number_below : (text : ℕ → List ℕ) (xs : List ℕ) (m : ℕ)
    → ((n : ℕ) × (n < m) × (xs ≡ text n)) ⊎ ((n : ℕ) → n < m → xs ≢ text n)
number_below text xs zero = inr (λ n h. absurd (omega arith))
number_below text xs (suc m) =
    elim (same_bytes xs (text m)) [
      | inl same ↦ inl (m, omega arith, same)
      | inr other ↦ elim (number_below text xs m) [
        | inl found ↦ inl (found.0, (let h = found.1 in omega arith), found.2)
        | inr none ↦ inr (λ n h. elim (cases_lt n m) [
          | inl below ↦ none n below
          | inr last ↦ let P : ℕ → Type 0 = λ k. xs ≢ text k in let e : m ≡ n = omega arith in subst P e other
        ])
      ]
    ]

-- a number below m, at most 2 ^ 32, and a space stand in front, or not
field_front : (xs : List ℕ) (m : ℕ) → m ≤ 2 ^ 32
    → ((n : ℕ) × (rest : List ℕ) × (n < m) × (xs ≡ decimal n ++ 32 ∷ rest))
    ⊎ ((n : ℕ) (rest : List ℕ) → n < m → xs ≢ decimal n ++ 32 ∷ rest)
field_front xs m small =
    elim (cut_at 32 xs) [
      | inl none ↦
          inr (λ n rest h e. let P : List ℕ → Type 0 = λ t. Free 32 t in Free-not 32 (decimal n) rest (subst P e none))
      | inr found ↦ elim (number_below decimal found.0 m) [
        | inl number ↦ inl (number.0, found.1, number.1, found.3 ∙ ap (λ t. t ++ 32 ∷ found.1) number.2)
        | inr none ↦ inr (λ n rest h e. none n h (cut 32 found.0 (decimal n) found.1 rest found.2
            (Free-decimal 32 n (omega arith) (omega arith)) (sym found.3 ∙ e)).0)
      ]
    ]

field_same : (xs v w : List ℕ) (n k : ℕ) → n < 2 ^ 32 → k < 2 ^ 32 → xs ≡ decimal n ++ 32 ∷ v
    → xs ≡ decimal k ++ 32 ∷ w → v ≡ w
field_same xs v w n k hn hk d e = (cut 32 (decimal n) (decimal k) v w (Free-decimal 32 n (omega arith) (omega arith))
    (Free-decimal 32 k (omega arith) (omega arith)) (sym d ∙ e)).1

abbrev AreNumbers : ℕ → ℕ → ℕ → ℕ → Type 0
AreNumbers a r o n = (a ≤ 8) × (r ≤ 8) × (o < 4194304) × (n ≤ 1048576)

numbers_or_not : (xs : List ℕ)
    → ((a : ℕ) × (r : ℕ) × (o : ℕ) × (n : ℕ) × AreNumbers a r o n × (xs ≡ numbers_text a r o n))
    ⊎ ((a r o n : ℕ) → AreNumbers a r o n → xs ≢ numbers_text a r o n)
numbers_or_not xs =
    elim (field_front xs 9 (omega arith)) [
      | inr none ↦ inr (λ a r o n h e. none a _ (let q = h.0 in omega arith) e)
      | inl one ↦ elim (field_front one.1 9 (omega arith)) [
        | inr none ↦ inr (λ a r o n h e. let q = h.0 in let s = one.2 in
            none r _ (let p = h.1 in omega arith) (field_same xs one.1 _ one.0 a (omega arith) (omega arith) one.3 e))
        | inl two ↦ elim (field_front two.1 4194304 (omega arith)) [
          | inr none ↦ inr (λ a r o n h e.
              let q = h.0 in let q' = h.1 in let s = one.2 in let s' = two.2 in
              let e' = field_same xs one.1 _ one.0 a (omega arith) (omega arith) one.3 e in
              none o _ h.2 (field_same one.1 two.1 _ two.0 r (omega arith) (omega arith) two.3 e'))
          | inl three ↦ elim (number_below decimal three.1 1048577) [
            | inr none ↦ inr (λ a r o n h e.
                let q = h.0 in let q' = h.1 in let q'' = h.2 in let s = one.2 in let s' = two.2 in let s'' = three.2 in
                let e' = field_same xs one.1 _ one.0 a (omega arith) (omega arith) one.3 e in
                let e'' = field_same one.1 two.1 _ two.0 r (omega arith) (omega arith) two.3 e' in
                none n (let p = h.3 in omega arith)
                (field_same two.1 three.1 _ three.0 o (omega arith) (omega arith) three.3 e''))
            | inl four ↦
                let s = one.2 in let s' = two.2 in let s'' = three.2 in let s''' = four.1 in
                inl (
                  one.0,
                  two.0,
                  three.0,
                  four.0,
                  (omega arith, omega arith, omega arith, omega arith),
                  one.3 ∙ ap (λ t. decimal one.0 ++ 32 ∷ t) (two.3
                      ∙ ap (λ t. decimal two.0 ++ 32 ∷ t) (three.3 ∙ ap (λ t. decimal three.0 ++ 32 ∷ t) four.2)),
                )
          ]
        ]
      ]
    ]

by_name : (xs : List ℕ) (b : Bool) → is_name xs ≡ b → IsName xs ⊎ (IsName xs → ⊥)
by_name xs true h = inl h
by_name xs false h = inr (λ k. absurd cc)

pub name_or_not : (xs : List ℕ) → IsName xs ⊎ (IsName xs → ⊥)
name_or_not xs = by_name xs (is_name xs) refl

fields_or_not : (xs : List ℕ)
    → ((e : Entry) × IsEntryLine e × (xs ≡ fields_text e)) ⊎ ((e : Entry) → IsEntryLine e → xs ≢ fields_text e)
fields_or_not xs =
    elim (cut_at 32 xs) [
      | inl none ↦ inr (λ x h e. let P : List ℕ → Type 0 = λ t. Free 32 t in Free-not 32 x.name _ (subst P e none))
      | inr found ↦ elim (name_or_not found.0) [
        | inr none ↦ inr (λ x h e.
            let same = (cut 32 found.0 x.name found.1 _ found.2 (Free-name 32 x.name (omega arith) h.name)
            (sym found.3 ∙ e)).0 in
            let P : List ℕ → Type 0 = λ t. IsName t in
            none (subst P (sym same) h.name))
        | inl name ↦ elim (numbers_or_not found.1) [
          | inr none ↦ inr (λ x h e.
              none x.args x.results x.offset x.need (h.args, h.results, h.offset, h.need)
              (cut 32 found.0 x.name found.1 _ found.2 (Free-name 32 x.name (omega arith) h.name) (sym found.3 ∙ e)).1)
          | inl numbers ↦ inl (
            record { name = found.0; args = numbers.0; results = numbers.1; offset = numbers.2; need = numbers.3 },
            record { name = name; args = numbers.4.0; results = numbers.4.1; offset = numbers.4.2; need = numbers.4.3 },
            found.3 ∙ ap (λ t. found.0 ++ 32 ∷ t) numbers.5,
          )
        ]
      ]
    ]

entry_or_not : (xs : List ℕ)
    → ((e : Entry) × IsEntryLine e × (xs ≡ entry_text e)) ⊎ ((e : Entry) → IsEntryLine e → xs ≢ entry_text e)
entry_or_not xs =
    elim (cut_at 32 xs) [
      | inl none ↦ inr (λ x h e. let P : List ℕ → Type 0 = λ t. Free 32 t in
          Free-not 32 (codes "entry") (fields_text x) (subst P (e ∙ entry_text-fields x) none))
      | inr found ↦ elim (same_bytes found.0 (codes "entry")) [
        | inr other ↦ inr (λ x h e. other (cut 32 found.0 (codes "entry") found.1 (fields_text x) found.2
            (Free-from_test 32 (codes "entry") refl) (sym found.3 ∙ (e ∙ entry_text-fields x))).0)
        | inl same ↦ elim (fields_or_not found.1) [
          | inr none ↦ inr (λ x h e. none x h (cut 32 found.0 (codes "entry") found.1 (fields_text x) found.2
              (Free-from_test 32 (codes "entry") refl) (sym found.3 ∙ (e ∙ entry_text-fields x))).1)
          | inl fields ↦ inl (
            fields.0,
            fields.1,
            found.3 ∙ (ap (λ t. t ++ 32 ∷ found.1) same
                ∙ (ap (λ t. codes "entry" ++ 32 ∷ t) fields.2 ∙ sym (entry_text-fields fields.0))),
          )
        ]
      ]
    ]

no_form : (y : Layout) (xs : List ℕ) → ((own : Layout) → xs ≢ header_text own)
    → ((e : Entry) → IsEntryLine e → xs ≢ entry_text e)
    → ((n : ℕ) → n < most_words y + 1 → xs ≢ code_text n) → ((w : ℕ) → w < 2 ^ 32 → xs ≢ word_text w) → xs ≢ codes "end"
    → (l : Line) → IsLine y l → xs ≢ line_text l
no_form y xs a b c d e (Header own) h = a own
no_form y xs a b c d e (Function x) h = b x h
no_form y xs a b c d e (Count n) h = c n (omega arith)
no_form y xs a b c d e (Word w) h = d w h
no_form y xs a b c d e End h = e

neither : (xs : List ℕ) → xs ≢ header_text One → xs ≢ header_text Two → (own : Layout) → xs ≢ header_text own
neither xs a b One = a
neither xs a b Two = b

header_or_not : (xs : List ℕ) → ((own : Layout) × (xs ≡ header_text own)) ⊎ ((own : Layout) → xs ≢ header_text own)
header_or_not xs =
    elim (same_bytes xs (header_text One)) [
      | inl one ↦ inl (One, one)
      | inr a ↦ elim (same_bytes xs (header_text Two)) [
        | inl two ↦ inl (Two, two)
        | inr b ↦ inr (neither xs a b)
      ]
    ]

pub line_or_not : (y : Layout) (xs : List ℕ)
    → ((l : Line) × IsLine y l × (xs ≡ line_text l)) ⊎ ((l : Line) → IsLine y l → xs ≢ line_text l)
line_or_not y xs =
    elim (header_or_not xs) [
      | inl header ↦ inl (Header header.0, tt, header.1)
      | inr a ↦ elim (entry_or_not xs) [
        | inl entry ↦ inl (Function entry.0, entry.1, entry.2)
        | inr b ↦ elim (number_below code_text xs (most_words y + 1)) [
          | inl count ↦ inl (Count count.0, (let h = count.1 in omega arith), count.2)
          | inr c ↦ elim (number_below word_text xs (2 ^ 32)) [
            | inl word ↦ inl (Word word.0, word.1, word.2)
            | inr d ↦ elim (same_bytes xs (codes "end")) [
              | inl end ↦ inl (End, tt, end)
              | inr e ↦ inr (no_form y xs a b c d e)
            ]
          ]
        ]
      ]
    ]

named_later : (e : Entry) (es : List Entry) (x : Entry) → e.name ≢ x.name → (Any (λ e. e.name ≡ x.name) es → ⊥)
    → Any (λ e. e.name ≡ x.name) (e ∷ es) → ⊥
named_later e es x other none (zero, y, within, same, name) = other (ap (λ k. k.name) same ∙ name)
named_later e es x other none (suc k, y, within, same, name) = none (k, y, omega arith, same, name)

-- an entry has this name, or none has
pub named_or_not : (es : List Entry) (x : Entry) → Any (λ e. e.name ≡ x.name) es ⊎ (Any (λ e. e.name ≡ x.name) es → ⊥)
named_or_not [] x = inr (λ h. let within = h.2 in absurd (omega arith))
named_or_not (e ∷ es) x =
    elim (same_bytes e.name x.name) [
      | inl same ↦ inl (0, e, omega arith, refl, same)
      | inr other ↦ elim (named_or_not es x) [
        | inl found ↦ inl (suc found.0, found.1, (let h = found.2 in omega arith), found.3, found.4)
        | inr none ↦ inr (named_later e es x other none)
      ]
    ]

offset_or_not : (words : ℕ) (e : Entry) → IsOffset words e.offset ⊎ (IsOffset words e.offset → ⊥)
offset_or_not words e =
    elim (cases_eq (e.offset % 4) 0) [
      | inr bad ↦ inr (λ h. bad h.0)
      | inl aligned ↦ elim (cases_lt e.offset (4 * words)) [
        | inl inside ↦ inl (aligned, inside)
        | inr past ↦ inr (λ h. let q = h.1 in absurd (omega arith))
      ]
    ]

-- some entry is the first with a bad offset, or all offsets are good
pub bad_or_good : (words : ℕ) (es : List Entry)
    → ((k : ℕ) × IsFirstBad words es k) ⊎ All (λ e. IsOffset words e.offset) es
bad_or_good words [] = inr (All-nil (λ e. IsOffset words e.offset))
bad_or_good words (e ∷ es) =
    elim (offset_or_not words e) [
      | inr bad ↦ inl (0, (e, refl, bad, All-nil (λ e. IsOffset words e.offset)))
      | inl good ↦ elim (bad_or_good words es) [
        | inl found ↦ inl (
          suc found.0,
          (
            found.1.0,
            found.1.1,
            found.1.2,
            All-cons (λ e. IsOffset words e.offset) e (take found.0 es) good found.1.3,
          ),
        )
        | inr all ↦ inr (All-cons (λ e. IsOffset words e.offset) e es good all)
      ]
    ]
