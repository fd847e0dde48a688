-- Each text is the text of an image or has a fault.
use Rattle.std.proofs.Common.{◌≡◌, ◌⊎◌, inl, inr, ℕ, zero, suc, ◌+◌, ◌-◌, ◌^◌, ◌<◌, ◌≤◌, List, [], ◌∷◌, ◌++◌, refl}
use Rattle.std.proofs.Common.{ap, sym, ◌∙◌, arith, append-nil, length-append, subst, length, drop, take, length-drop}
use Rattle.std.proofs.lemmas.List.{take_all}
use Rattle.std.specs.Prelude.{slice_index_or}
use Rattle.std.proofs.lemmas.Bool.{cases_lt}
use Rattle.std.proofs.lemmas.List.Elements.{All-nil}
use Rattle.br_words.specs.declared.layout.Layout.{Layout}
use Rattle.br_words.specs.declared.layout.Layout.TheVariants.{Two}
use Rattle.br_words.specs.Layout.{most_words}
use Rattle.br_image.specs.declared.images.Entry.{Entry}
use Rattle.br_image.specs.declared.images.Image.{Image}
use Rattle.br_image.specs.declared.lines.Line.{Line}
use Rattle.br_image.specs.declared.lines.Line.TheVariants.{Header, Function, Count, Word, End}
use Rattle.br_image.specs.declared.faults.ImageFault.{ImageFault}
use Rattle.br_image.specs.declared.faults.ImageFault.TheVariants.{BadLine, BadOrder, BadOffset, Truncated}
use Rattle.br_image.specs.Text.{line}
use Rattle.br_image.specs.Limits.{InLimits, EntryInLimits}
use Rattle.br_image.specs.Lines.{IsLine, IsEntryLine, line_text, text_of, lines_of}
use Rattle.br_image.specs.Printed.{image_text}
use Rattle.br_image.specs.Faults.{IsFault, IsOffset}
use Rattle.br_image.specs.Reading.{IsLineFault, EntriesRead, WordsRead, entries_read}
use Rattle.br_base.specs.declared.failure.OrMemory.TheVariants.{Fault}
use Rattle.br_image.proofs.Pieces.{Lacks-free}
use Rattle.br_image.proofs.Sequences.{image_text-lines}
use Rattle.br_image.proofs.Deciding.{cut_at, line_or_not, named_or_not, bad_or_good}
use Rattle.br_image.proofs.Order.{line_behind, entries_line_fault, entries_order_fault, entry_misplaced}
use Rattle.br_image.proofs.Order.{name_misplaced, entry_more, words_line_fault, words_order_fault}
use Rattle.br_image.proofs.Order.{word_misplaced, end_misplaced, word_more, behind_end, read_whole}
use Rattle.br_image.proofs.Order.{first_line_fault, first_order_fault, offset_fault, text_of-one}

-- the text of an image, or a text with a fault
abbrev pub HasVerdict : List ℕ → Type 0
HasVerdict text = ((i : Image) × (text ≡ image_text i)) ⊎ ((f : ImageFault) × IsFault text f)

-- a line stands at a place, or a fault
abbrev LineAt : Layout → List ℕ → ℕ → ℕ → Type 0
LineAt y text at n =
    ((l : Line) × (next : ℕ) × IsLine y l × (drop at text ≡ line (line_text l) ++ drop next text) × (at < next)
    × (next ≤ length text))
    ⊎ ((f : ImageFault) × IsLineFault y n (drop at text) f)

line_there : (y : Layout) (text : List ℕ) (at n : ℕ) → at ≤ length text → LineAt y text at n
line_there y text at n within =
    let left : length (drop at text) ≡ length text - at = length-drop at text in
    elim (cut_at 10 (drop at text)) [
      | inl none ↦ inr (Truncated n, (refl, Lacks-free 10 (drop at text) none))
      | inr found ↦ elim (line_or_not y found.0) [
        | inr formless ↦ inr (BadLine n, (refl, found.0, found.1, found.3, Lacks-free 10 found.0 found.2, formless))
        | inl known ↦
            let all : take (length text - at) (drop at text) ≡ drop at text =
            take_all (length text - at) (drop at text) (omega arith) in
            let len : length (drop at text) ≡ length found.0 + length (10 ∷ found.1) = ap length found.3
            ∙ length-append found.0 (10 ∷ found.1) in
            inl (
              known.0,
              at + length found.0 + 1,
              known.1,
              line_behind text found.0 found.1 (line_text known.0) at (all
                  ∙ found.3) known.2,
              omega arith,
              omega arith,
            )
      ]
    ]

-- ---- after all words

entry_limits : (words : ℕ) (e : Entry) → IsEntryLine e → IsOffset words e.offset → EntryInLimits words e
entry_limits words e h k =
    record { name = h.name; args = h.args; results = h.results; aligned = k.0; offset = k.1; need = h.need }

whole_verdict : (y : Layout) (text : List ℕ) (es : List Entry) (ws : List ℕ) (at : ℕ)
    → WordsRead y text es (length ws) ws at → text ≡ text_of (lines_of y es ws) → HasVerdict text
whole_verdict y text es ws at h whole =
    elim (bad_or_good (length ws) es) [
      | inl bad ↦ inr (BadOffset (bad.0 + 2), offset_fault y text es ws at bad.0 h whole bad.1)
      | inr good ↦
          let limits : InLimits y es ws = record {
            count = h.counted;
            words = h.words;
            each = λ k d lt. entry_limits (length ws) (slice_index_or es k d) (h.forms k d lt) (good k d lt);
            names = h.names;
          } in
          let image : Image = record { layout = y; entries = es; code = ws; in_limits = limits } in
          inl (image, whole ∙ sym (image_text-lines image))
    ]

end_verdict : (y : Layout) (text : List ℕ) (es : List Entry) (ws : List ℕ) (at next : ℕ)
    → WordsRead y text es (length ws) ws at
    → drop at text ≡ line (line_text End) ++ drop next text → HasVerdict text
end_verdict y text es ws at next h e =
    elim (cases_lt next (length text)) [
      | inl more ↦ inr (BadOrder (length es + length ws + 3 + 1), behind_end y text es ws at next h e more)
      | inr over ↦ whole_verdict y text es ws at h (read_whole y text es ws at next h e over)
    ]

last_verdict : (y : Layout) (text : List ℕ) (es : List Entry) (ws : List ℕ) (at next : ℕ) (l : Line)
    → WordsRead y text es (length ws) ws at → IsLine y l
    → drop at text ≡ line (line_text l) ++ drop next text → HasVerdict text
last_verdict y text es ws at next End h form e = end_verdict y text es ws at next h e
last_verdict y text es ws at next (Header own) h form e =
    inr (
      BadOrder (length es + length ws + 3),
      words_order_fault y text es (length ws) ws at next (length es
          + length ws) (Header own) h refl form e
          (end_misplaced y es (length ws) ws (Header own) refl (λ q. absurd cc)),
    )
last_verdict y text es ws at next (Function x) h form e =
    inr (
      BadOrder (length es + length ws + 3),
      words_order_fault y text es (length ws) ws at next (length es
          + length ws) (Function x) h refl form e
          (end_misplaced y es (length ws) ws (Function x) refl (λ q. absurd cc)),
    )
last_verdict y text es ws at next (Count n) h form e =
    inr (
      BadOrder (length es + length ws + 3),
      words_order_fault y text es (length ws) ws at next (length es
          + length ws) (Count n) h refl form e (end_misplaced y es (length ws) ws (Count n) refl (λ q. absurd cc)),
    )
last_verdict y text es ws at next (Word w) h form e =
    inr (
      BadOrder (length es + length ws + 3),
      words_order_fault y text es (length ws) ws at next (length es
          + length ws) (Word w) h refl form e (end_misplaced y es (length ws) ws (Word w) refl (λ q. absurd cc)),
    )

-- ---- the words, with so many bytes left at most

word_verdict : (y : Layout) (text : List ℕ) (es : List Entry) (n : ℕ) (ws : List ℕ) (at next : ℕ) (l : Line)
    → WordsRead y text es n ws at
    → length ws < n → IsLine y l → drop at text ≡ line (line_text l) ++ drop next text → at < next → next ≤ length text
    → ((more : List ℕ) → WordsRead y text es n more next → HasVerdict text) → HasVerdict text
word_verdict y text es n ws at next (Word w) h room form e forth within go =
    go (ws ++ w ∷ []) (word_more y text es n ws w at next h form e forth within room)
word_verdict y text es n ws at next (Header own) h room form e forth within go =
    inr (
      BadOrder (length es + length ws + 3),
      words_order_fault y text es n ws at next (length es
          + length ws) (Header own) h refl form e (word_misplaced y es n ws (Header own) room (λ w q. absurd cc)),
    )
word_verdict y text es n ws at next (Function x) h room form e forth within go =
    inr (
      BadOrder (length es + length ws + 3),
      words_order_fault y text es n ws at next (length es
          + length ws) (Function x) h refl form e (word_misplaced y es n ws (Function x) room (λ w q. absurd cc)),
    )
word_verdict y text es n ws at next (Count k) h room form e forth within go =
    inr (
      BadOrder (length es + length ws + 3),
      words_order_fault y text es n ws at next (length es
          + length ws) (Count k) h refl form e (word_misplaced y es n ws (Count k) room (λ w q. absurd cc)),
    )
word_verdict y text es n ws at next End h room form e forth within go =
    inr (
      BadOrder (length es + length ws + 3),
      words_order_fault y text es n ws at next (length es
          + length ws) End h refl form e (word_misplaced y es n ws End room (λ w q. absurd cc)),
    )

words_verdict : (y : Layout) (fuel : ℕ) (text : List ℕ) (es : List Entry) (n : ℕ) (ws : List ℕ) (at : ℕ)
    → length text < at + fuel → WordsRead y text es n ws at → HasVerdict text
words_verdict y zero text es n ws at fuel h = let within = h.within in absurd (omega arith)
words_verdict y (suc fuel) text es n ws at enough h =
    let few = h.few in
    elim (line_there y text at (length es + length ws + 3) h.within) [
      | inr fault ↦
          inr (fault.0, words_line_fault y text es n ws at (length es + length ws) (Fault fault.0) h refl fault.1)
      | inl one ↦ elim (cases_lt (length ws) n) [
        | inl room ↦
            let forth = one.4 in
            word_verdict y text es n ws at one.1 one.0 h room one.2 one.3 one.4 one.5
            (λ more k. words_verdict y fuel text es n more one.1 (omega arith) k)
        | inr full ↦
            let all : n ≡ length ws = omega arith in
            let P : ℕ → Type 0 = λ k. WordsRead y text es k ws at in
            last_verdict y text es ws at one.1 one.0 (subst P all h) one.2 one.3
      ]
    ]

-- ---- the entries

count_more : (y : Layout) (text : List ℕ) (es : List Entry) (n at next : ℕ) → EntriesRead y text es at
    → n ≤ most_words y → drop at text ≡ line (line_text (Count n)) ++ drop next text
    → at < next → next ≤ length text → WordsRead y text es n [] next
count_more y text es n at next h small e forth within =
    let many = h.many in
    record {
      within = within;
      many = omega arith;
      spelled = h.spelled
          ∙ (ap (λ t. text_of (entries_read y es) ++ t) e ∙ text_of-one (entries_read y es) (Count n) (drop next text));
      forms = h.forms;
      names = h.names;
      counted = small;
      words = All-nil (λ w. w < 2 ^ 32);
      few = omega arith;
    }

entry_verdict : (y : Layout) (text : List ℕ) (es : List Entry) (at next : ℕ) (l : Line) → EntriesRead y text es at
    → IsLine y l → drop at text ≡ line (line_text l) ++ drop next text → at < next → next ≤ length text
    → ((more : List Entry) → EntriesRead y text more next → HasVerdict text) → HasVerdict text
entry_verdict y text es at next (Function x) h form e forth within go =
    elim (named_or_not es x) [
      | inl again ↦ inr (
        BadOrder (length es + 2),
        entries_order_fault y text es at next (length es) (Function x) h refl form e (name_misplaced y es x again),
      )
      | inr new ↦ go (es ++ x ∷ []) (entry_more y text es x at next h form e forth within new)
    ]
entry_verdict y text es at next (Count n) h form e forth within go =
    words_verdict y (suc (length text)) text es n [] next (omega arith)
    (count_more y text es n at next h form e forth within)
entry_verdict y text es at next (Header own) h form e forth within go =
    inr (
      BadOrder (length es + 2),
      entries_order_fault y text es at next (length es) (Header own) h refl form e
          (entry_misplaced y es (Header own) (λ x q. absurd cc) (λ n q. absurd cc)),
    )
entry_verdict y text es at next (Word w) h form e forth within go =
    inr (
      BadOrder (length es + 2),
      entries_order_fault y text es at next (length es) (Word w) h refl form e
          (entry_misplaced y es (Word w) (λ x q. absurd cc) (λ n q. absurd cc)),
    )
entry_verdict y text es at next End h form e forth within go =
    inr (
      BadOrder (length es + 2),
      entries_order_fault y text es at next (length es) End h refl form e (entry_misplaced
          y es End (λ x q. absurd cc) (λ n q. absurd cc)),
    )

entries_verdict : (y : Layout) (fuel : ℕ) (text : List ℕ) (es : List Entry) (at : ℕ) → length text < at + fuel
    → EntriesRead y text es at → HasVerdict text
entries_verdict y zero text es at fuel h = let within = h.within in absurd (omega arith)
entries_verdict y (suc fuel) text es at enough h =
    elim (line_there y text at (length es + 2) h.within) [
      | inr fault ↦ inr (fault.0, entries_line_fault y text es at (length es) (Fault fault.0) h refl fault.1)
      | inl one ↦
          let forth = one.4 in
          entry_verdict y text es at one.1 one.0 h one.2 one.3 one.4 one.5
          (λ more k. entries_verdict y fuel text more one.1 (omega arith) k)
    ]

-- ---- the first line

first_verdict : (text : List ℕ) (next : ℕ) (l : Line) → IsLine Two l → text ≡ line (line_text l) ++ drop next text
    → 0 < next → next ≤ length text → HasVerdict text
first_verdict text next (Header y) form e forth within =
    entries_verdict y (suc (length text)) text [] next (omega arith) (record {
      within = within;
      many = forth;
      spelled = e ∙ ap (λ t. t ++ drop next text) (sym (append-nil (line (line_text (Header y)))));
      forms = All-nil IsEntryLine;
      names = λ i j d below inside. absurd (omega arith);
    })
first_verdict text next (Function x) form e forth within =
    inr (BadOrder 1, first_order_fault text next (Function x) form e (λ own q. absurd cc))
first_verdict text next (Count n) form e forth within =
    inr (BadOrder 1, first_order_fault text next (Count n) form e (λ own q. absurd cc))
first_verdict text next (Word w) form e forth within =
    inr (BadOrder 1, first_order_fault text next (Word w) form e (λ own q. absurd cc))
first_verdict text next End form e forth within =
    inr (BadOrder 1, first_order_fault text next End form e (λ own q. absurd cc))

pub image_or_fault : (text : List ℕ) → HasVerdict text
image_or_fault text =
    elim (line_there Two text 0 1 (omega arith)) [
      | inr fault ↦ inr (fault.0, first_line_fault text (Fault fault.0) fault.1)
      | inl one ↦ first_verdict text one.1 one.0 one.2 one.3 one.4 one.5
    ]
