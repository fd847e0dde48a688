-- A text tells its lines, and its lines tell the image.
use Rattle.std.proofs.Common.{◌≡◌, ◌⊎◌, inl, inr, ℕ, ◌^◌, ◌<◌, ◌≤◌, List, [], ◌∷◌, ◌++◌}
use Rattle.std.proofs.Common.{refl, ap, sym, ◌∙◌, arith, append_assoc, subst, length}
use Rattle.std.proofs.Props.{props}
use Rattle.std.specs.Prelude.{All, map, codes, slice_index_or}
use Rattle.std.proofs.lemmas.List.Elements.{All-cons, All-head, All-tail, All-nil, All-append, All-map}
use Rattle.br_words.specs.declared.layout.Layout.{Layout}
use Rattle.br_words.specs.Layout.{most_words}
use Rattle.br_image.specs.declared.images.Entry.{Entry}
use Rattle.br_image.specs.declared.images.Image.{Image}
use Rattle.br_image.specs.declared.lines.Line.{Line}
use Rattle.br_image.specs.declared.lines.Line.TheVariants.{Header, Function, Count, Word, End}
use Rattle.br_image.specs.Text.{header_text, entry_text, code_text, word_text, line}
use Rattle.br_image.specs.Limits.{InLimits, EntryInLimits}
use Rattle.br_image.specs.Lines.{IsLine, IsEntryLine, line_text, text_of, lines_of}
use Rattle.br_image.specs.Printed.{image_text, entry_lines, word_lines}
use Rattle.br_image.proofs.Pieces.{cut}
use Rattle.br_image.proofs.Forms.{most_within, Free-line, line_text-injective}

regroup : (t v r : List ℕ) → (line t ++ v) ++ r ≡ t ++ 10 ∷ (v ++ r)
regroup t v r = simp append_assoc

-- one list of lines begins the other
abbrev pub Begins : List Line → List Line → List ℕ → List ℕ → Type 0
Begins ls ms r s = (more : List Line) × (ms ≡ ls ++ more) × (r ≡ text_of more ++ s)

pub text_of-begins : (y z : Layout) (ls ms : List Line) (r s : List ℕ) → All (IsLine y) ls → All (IsLine z) ms
    → text_of ls ++ r ≡ text_of ms ++ s
    → Begins ls ms r s ⊎ Begins ms ls s r
text_of-begins y z [] ms r s h k e = inl (ms, refl, e)
text_of-begins y z (l ∷ ls) [] r s h k e = inr (l ∷ ls, refl, sym e)
text_of-begins y z (l ∷ ls) (m ∷ ms) r s h k e =
    let regrouped = sym (regroup (line_text l) (text_of ls) r) ∙ (e ∙ regroup (line_text m) (text_of ms) s) in
    let parts = cut 10 (line_text l) (line_text m) (text_of ls ++ r) (text_of ms ++ s)
    (Free-line y l (All-head (IsLine y) l ls h)) (Free-line z m (All-head (IsLine z) m ms k)) regrouped in
    let same = line_text-injective y z l m (All-head (IsLine y) l ls h) (All-head (IsLine z) m ms k) parts.0 in
    elim (text_of-begins y z ls ms r s (All-tail (IsLine y) l ls h) (All-tail (IsLine z) m ms k) parts.1) [
      | inl b ↦ inl (b.0, (let tail = b.1 in cc), b.2)
      | inr b ↦ inr (b.0, (let tail = b.1 in cc), b.2)
    ]

-- a line that tells the number of words ends the entries
entries_end : (es fs : List Entry) (m n : ℕ) (v w : List Line)
    → map Function es ++ Count m ∷ v ≡ map Function fs ++ Count n ∷ w → (es ≡ fs) × (v ≡ w)
entries_end [] [] m n v w e = (refl, cc)
entries_end [] (f ∷ fs) m n v w e = absurd cc
entries_end (x ∷ es) [] m n v w e = absurd cc
entries_end (x ∷ es) (f ∷ fs) m n v w e =
    let rest : map Function es ++ Count m ∷ v ≡ map Function fs ++ Count n ∷ w = cc in
    let parts = entries_end es fs m n v w rest in
    let head : x ≡ f = cc in
    let tail = parts.0 in
    (cc, parts.1)

words_end : (v w : List ℕ) → map Word v ++ End ∷ [] ≡ map Word w ++ End ∷ [] → v ≡ w
words_end [] [] e = refl
words_end [] (y ∷ w) e = absurd cc
words_end (x ∷ v) [] e = absurd cc
words_end (x ∷ v) (y ∷ w) e =
    let rest : map Word v ++ End ∷ [] ≡ map Word w ++ End ∷ [] = cc in
    let tail = words_end v w rest in
    let head : x ≡ y = cc in
    cc

pub lines_of-injective : (y z : Layout) (es fs : List Entry) (v w : List ℕ) → lines_of y es v ≡ lines_of z fs w
    → (y ≡ z) × (es ≡ fs) × (v ≡ w)
lines_of-injective y z es fs v w e =
    let first : y ≡ z = cc in
    let rest : map Function es ++ Count (length v) ∷ (map Word v ++ End ∷ [])
    ≡ map Function fs ++ Count (length w) ∷ (map Word w ++ End ∷ []) = cc in
    let parts = entries_end es fs (length v) (length w) _ _ rest in
    (first, parts.0, words_end v w parts.1)

-- what follows a whole image's lines in another's is nothing
entries_whole : (es fs : List Entry) (m n : ℕ) (v w more : List Line)
    → map Function es ++ Count m ∷ v ≡ (map Function fs ++ Count n ∷ w) ++ more → (es ≡ fs) × (v ≡ w ++ more)
entries_whole [] [] m n v w more e = (refl, cc)
entries_whole [] (f ∷ fs) m n v w more e = absurd cc
entries_whole (x ∷ es) [] m n v w more e = absurd cc
entries_whole (x ∷ es) (f ∷ fs) m n v w more e =
    let rest : map Function es ++ Count m ∷ v ≡ (map Function fs ++ Count n ∷ w) ++ more = cc in
    let parts = entries_whole es fs m n v w more rest in
    let head : x ≡ f = cc in
    let tail = parts.0 in
    (cc, parts.1)

words_whole : (v w : List ℕ) (more : List Line) → map Word v ++ End ∷ [] ≡ (map Word w ++ End ∷ []) ++ more
    → (v ≡ w) × (more ≡ [])
words_whole [] [] [] e = (refl, refl)
words_whole [] [] (m ∷ more) e = absurd cc
words_whole [] (y ∷ w) more e = absurd cc
words_whole (x ∷ v) [] more e = absurd cc
words_whole (x ∷ v) (y ∷ w) more e =
    let rest : map Word v ++ End ∷ [] ≡ (map Word w ++ End ∷ []) ++ more = cc in
    let parts = words_whole v w more rest in
    let tail = parts.0 in
    let head : x ≡ y = cc in
    (cc, parts.1)

pub lines_of-whole : (y z : Layout) (es fs : List Entry) (v w : List ℕ) (more : List Line)
    → lines_of y es v ≡ lines_of z fs w ++ more → (y ≡ z) × (es ≡ fs) × (v ≡ w) × (more ≡ [])
lines_of-whole y z es fs v w more e =
    let first : y ≡ z = cc in
    let rest : map Function es ++ Count (length v) ∷ (map Word v ++ End ∷ [])
    ≡ (map Function fs ++ Count (length w) ∷ (map Word w ++ End ∷ [])) ++ more = cc in
    let parts = entries_whole es fs (length v) (length w) _ _ more rest in
    let ends = words_whole v w more parts.1 in
    (first, parts.0, ends.0, ends.1)

pub text_of-append : (ls ms : List Line) → text_of (ls ++ ms) ≡ text_of ls ++ text_of ms
text_of-append [] ms = refl
text_of-append (l ∷ ls) ms = ap (λ t. line (line_text l) ++ t) (text_of-append ls ms)
    ∙ sym (append_assoc (line (line_text l)) (text_of ls) (text_of ms))

text_of-entries : (es : List Entry) → text_of (map Function es) ≡ entry_lines es
text_of-entries [] = refl
text_of-entries (e ∷ es) = ap (λ t. line (entry_text e) ++ t) (text_of-entries es)

text_of-words : (ws : List ℕ) → text_of (map Word ws) ≡ word_lines ws
text_of-words [] = refl
text_of-words (w ∷ ws) = ap (λ t. line (word_text w) ++ t) (text_of-words ws)

text_of-lines_of : (y : Layout) (es : List Entry) (ws : List ℕ) → text_of (lines_of y es ws)
    ≡ line (header_text y)
    ++ (entry_lines es ++ (line (code_text (length ws)) ++ (word_lines ws ++ line (codes "end"))))
text_of-lines_of y es ws =
    let words = text_of-append (map Word ws) (End ∷ []) ∙ ap (λ t. t ++ line (codes "end")) (text_of-words ws) in
    let counted = ap (λ t. line (code_text (length ws)) ++ t) words in
    let entries = text_of-append (map Function es) (Count (length ws) ∷ (map Word ws ++ End ∷ []))
    ∙ ap (λ t. t ++ text_of (Count (length ws) ∷ (map Word ws ++ End ∷ []))) (text_of-entries es) in
    ap (λ t. line (header_text y) ++ t) (entries ∙ ap (λ t. entry_lines es ++ t) counted)

flat : (a b c d e : List ℕ) → a ++ b ++ c ++ d ++ e ≡ a ++ (b ++ (c ++ (d ++ e)))
flat a b c d e = simp append_assoc

-- an image's text is that of its lines
pub image_text-lines : (i : Image) → image_text i ≡ text_of (lines_of i.layout i.entries i.code)
unfolding image_text
image_text-lines i = flat (line (header_text i.layout)) (entry_lines i.entries) (line (code_text (length i.code)))
    (word_lines i.code) (line (codes "end")) ∙ sym (text_of-lines_of i.layout i.entries i.code)

entry_line : (y : Layout) (words : ℕ) (e : Entry) → words ≤ most_words y → EntryInLimits words e → IsEntryLine e
entry_line y words e few h =
    let within = most_within y in
    let name = h.name in let args = h.args in let results = h.results in let offset = h.offset in let need = h.need in
    record { name = name; args = args; results = results; offset = omega arith; need = need }

-- lines of an image are of their forms where its parts are in their ranges
pub IsLine-lines_of : (y : Layout) (es : List Entry) (ws : List ℕ) → All IsEntryLine es → length ws ≤ most_words y
    → All (λ w. w < 2 ^ 32) ws → All (IsLine y) (lines_of y es ws)
IsLine-lines_of y es ws h few k =
    All-cons (IsLine y) (Header y) _ tt
    (All-append (IsLine y) (map Function es) (Count (length ws) ∷ (map Word ws ++ End ∷ []))
    (All-map (IsLine y) Function es h)
    (All-cons (IsLine y) (Count (length ws)) _ few
    (All-append (IsLine y) (map Word ws) (End ∷ []) (All-map (IsLine y) Word ws k)
    (All-cons (IsLine y) End [] tt (All-nil (IsLine y))))))

pub IsLine-image : (i : Image) → All (IsLine i.layout) (lines_of i.layout i.entries i.code)
IsLine-image i =
    let limits = i.in_limits in
    IsLine-lines_of i.layout i.entries i.code
    (λ k d lt. entry_line i.layout (length i.code) (slice_index_or i.entries k d) limits.count (limits.each k d lt))
    limits.count limits.words

make : (layout : Layout) (entries : List Entry) (code : List ℕ) → InLimits layout entries code → Image
make layout entries code limits = record { layout = layout; entries = entries; code = code; in_limits = limits }

InLimits-prop : (layout : Layout) (entries : List Entry) (code : List ℕ) → IsProp (InLimits layout entries code)
InLimits-prop layout entries code = hlevel props

made-same : (y z : Layout) (es fs : List Entry) (v w : List ℕ) → y ≡ z → es ≡ fs → v ≡ w
    → (a : InLimits y es v) (b : InLimits z fs w) → make y es v a ≡ make z fs w b
made-same y z es fs v w o p q a =
    let Q : List ℕ → Type 0 = λ w. (b : InLimits y es w) → make y es v a ≡ make y es w b in
    let P : List Entry → Type 0 = λ fs. (b : InLimits y fs w) → make y es v a ≡ make y fs w b in
    let O : Layout → Type 0 = λ z. (b : InLimits z fs w) → make y es v a ≡ make z fs w b in
    subst O o (subst P p (subst Q q (λ b. ap (make y es v) (InLimits-prop y es v a b))))

same_image : (i j : Image) → i.layout ≡ j.layout → i.entries ≡ j.entries → i.code ≡ j.code → i ≡ j
unfolding make
same_image i j o p q = made-same i.layout j.layout i.entries j.entries i.code j.code o p q i.in_limits j.in_limits

pub same_text_same_image : (i j : Image) → image_text i ≡ image_text j → i ≡ j
same_text_same_image i j e =
    let lines = sym (image_text-lines i) ∙ (e ∙ image_text-lines j) in
    let ended = ap (λ t. t ++ []) lines in
    elim (text_of-begins i.layout j.layout (lines_of i.layout i.entries i.code) (lines_of j.layout j.entries j.code) []
    [] (IsLine-image i) (IsLine-image j) ended) [
      | inl b ↦
          let parts = lines_of-whole j.layout i.layout j.entries i.entries j.code i.code b.0 b.1 in
          same_image i j (sym parts.0) (sym parts.1) (sym parts.2)
      | inr b ↦
          let parts = lines_of-whole i.layout j.layout i.entries j.entries i.code j.code b.0 b.1 in
          same_image i j parts.0 parts.1 parts.2
    ]
