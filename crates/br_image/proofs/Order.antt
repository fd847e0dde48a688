-- Which lines may stand after which.
use Rattle.std.proofs.Common.{◌≡◌, ◌≢◌, ◌⊎◌, inl, inr, ℕ, ◌+◌, ◌^◌, ◌<◌, ◌≤◌, List, [], ◌∷◌, ◌++◌, refl, ap}
use Rattle.std.proofs.Common.{sym, ◌∙◌, ◌-◌, arith, append_assoc, length-append, length, drop, take, get_or}
use Rattle.std.proofs.Common.{zero, suc, append-nil}
use Rattle.std.proofs.lemmas.Bool.{cases_lt}
use Rattle.br_image.proofs.Sequences.{text_of-append, IsLine-lines_of}
use Rattle.std.specs.Prelude.{All, Any, map, replicate}
use Rattle.std.proofs.lemmas.List.{drop-drop, drop_at, drop_all, take_all, length-drop}
use Rattle.std.proofs.lemmas.List.{length-replicate, map-append, get_or_append_left}
use Rattle.std.proofs.lemmas.List.Elements.{All-cons, All-nil, All-append, All-map, All-push}
use Rattle.br_words.specs.declared.layout.Layout.{Layout}
use Rattle.br_words.specs.declared.layout.Layout.TheVariants.{Two}
use Rattle.br_image.specs.declared.images.Entry.{Entry}
use Rattle.br_image.specs.declared.lines.Line.{Line}
use Rattle.br_image.specs.declared.lines.Line.TheVariants.{Header, Function, Count, Word, End}
use Rattle.br_image.specs.declared.faults.ImageFault.{ImageFault}
use Rattle.br_image.specs.declared.faults.ImageFault.TheVariants.{BadLine, BadOrder, BadOffset, Truncated}
use Rattle.br_image.specs.Text.{line}
use Rattle.br_image.specs.Limits.{HaveDifferentNames}
use Rattle.br_image.specs.Lines.{IsLine, IsEntryLine, layout_after, line_text, text_of, lines_of}
use Rattle.br_base.specs.declared.failure.OrMemory.{OrMemory}
use Rattle.br_base.specs.declared.failure.OrMemory.TheVariants.{Memory, Fault}
use Rattle.br_image.specs.Faults.{BeginsImage, Reaches, IsFault}
use Rattle.br_base.specs.Faults.{IfFault}
use Rattle.br_image.specs.Reading.{IsLineFault, EntriesRead, WordsRead, IsFirstBad, entries_read, words_read}

-- ---- places

pub line_behind : (text bytes more content : List ℕ) (at : ℕ)
    → take (length text - at) (drop at text) ≡ bytes ++ 10 ∷ more → bytes ≡ content
    → drop at text ≡ line content ++ drop (at + length bytes + 1) text
line_behind text bytes more content at taken same =
    let left : length (drop at text) ≡ length text - at = length-drop at text in
    let all : take (length text - at) (drop at text) ≡ drop at text =
    take_all (length text - at) (drop at text) (omega arith) in
    let e : drop at text ≡ bytes ++ 10 ∷ more = sym all ∙ taken in
    let whole : bytes ++ 10 ∷ more ≡ (bytes ++ 10 ∷ []) ++ more = sym (append_assoc bytes (10 ∷ []) more) in
    let len : length (bytes ++ 10 ∷ []) ≡ length bytes + 1 = simp length-append in
    let behind : drop (length bytes + 1) (drop at text) ≡ more = ap (λ t. drop (length bytes + 1) t) (e ∙ whole)
    ∙ drop_at (bytes ++ 10 ∷ []) more (length bytes + 1) len in
    let joined : drop (at + (length bytes + 1)) text ≡ more = sym (drop-drop (length bytes + 1) at text) ∙ behind in
    let place : at + length bytes + 1 ≡ at + (length bytes + 1) = omega arith in
    let same_place : drop (at + length bytes + 1) text ≡ more = ap (λ k. drop k text) place ∙ joined in
    e ∙ (whole ∙ (ap (λ t. line t ++ more) same ∙ ap (λ t. line content ++ t) (sym same_place)))

-- ---- what an image's lines begin with

-- after the entries comes an entry or the number of words
after_entries : (es fs : List Entry) (n : ℕ) (rest more : List Line) (l : Line)
    → map Function es ++ l ∷ more ≡ map Function fs ++ Count n ∷ rest
    → ((e : Entry) × (gs : List Entry) × (l ≡ Function e) × (fs ≡ es ++ e ∷ gs)) ⊎ (l ≡ Count n)
after_entries [] [] n rest more l e = inr cc
after_entries [] (f ∷ fs) n rest more l e = inl (f, fs, cc, refl)
after_entries (x ∷ es) [] n rest more l e = absurd cc
after_entries (x ∷ es) (f ∷ fs) n rest more l e =
    let tail : map Function es ++ l ∷ more ≡ map Function fs ++ Count n ∷ rest = cc in
    let head : x ≡ f = cc in
    elim (after_entries es fs n rest more l tail) [
      | inl p ↦ inl (p.0, p.1, p.2, (let q = p.3 in cc))
      | inr p ↦ inr p
    ]

after_count : (es fs : List Entry) (m n : ℕ) (v w : List Line)
    → map Function es ++ Count m ∷ v ≡ map Function fs ++ Count n ∷ w → (m ≡ n) × (v ≡ w)
after_count [] [] m n v w e = (cc, cc)
after_count [] (f ∷ fs) m n v w e = absurd cc
after_count (x ∷ es) [] m n v w e = absurd cc
after_count (x ∷ es) (f ∷ fs) m n v w e =
    let tail : map Function es ++ Count m ∷ v ≡ map Function fs ++ Count n ∷ w = cc in
    after_count es fs m n v w tail

-- after words comes a word where there are fewer, and `end` where there are as many
after_words : (v w : List ℕ) (l : Line) (more : List Line) → map Word v ++ l ∷ more ≡ map Word w ++ End ∷ []
    → ((n : ℕ) × (l ≡ Word n) × (length v < length w)) ⊎ ((l ≡ End) × (length v ≡ length w))
after_words [] [] l more e = inr (cc, refl)
after_words [] (y ∷ w) l more e = inl (y, cc, omega arith)
after_words (x ∷ v) [] l more e = absurd cc
after_words (x ∷ v) (y ∷ w) l more e =
    let tail : map Word v ++ l ∷ more ≡ map Word w ++ End ∷ [] = cc in
    elim (after_words v w l more tail) [
      | inl p ↦ inl (p.0, p.1, (let q = p.2 in omega arith))
      | inr p ↦ inr (p.0, (let q = p.1 in omega arith))
    ]

pub get_or_append_at : (es gs : List Entry) (y d : Entry) → get_or (es ++ y ∷ gs) (length es) d ≡ y
get_or_append_at [] gs y d = refl
get_or_append_at (e ∷ es) gs y d = get_or_append_at es gs y d

-- ---- what may stand after what was read

append_one : (ls more : List Line) (l : Line) → (ls ++ l ∷ []) ++ more ≡ ls ++ l ∷ more
append_one ls more l = append_assoc ls (l ∷ []) more

pub first_misplaced : (l : Line) → ((own : Layout) → l ≢ Header own) → ¬ BeginsImage ([] ++ l ∷ [])
first_misplaced l h b = let e = b.5 in h b.0 cc

pub entry_misplaced : (y : Layout) (es : List Entry) (l : Line) → ((e : Entry) → l ≢ Function e)
    → ((n : ℕ) → l ≢ Count n) → ¬ BeginsImage (entries_read y es ++ l ∷ [])
entry_misplaced y es l h k b =
    let e = sym (append_one (entries_read y es) b.3 l) ∙ b.5 in
    let tail : map Function es ++ l ∷ b.3 ≡ map Function b.1 ++ Count (length b.2) ∷ (map Word b.2 ++ End ∷ []) = cc in
    elim (after_entries es b.1 (length b.2) _ b.3 l tail) [
      | inl p ↦ h p.0 p.2
      | inr p ↦ k (length b.2) p
    ]

-- entries with different names do not repeat the name of an earlier one
repeated : (es gs fs : List Entry) (x y : Entry) → Any (λ e. e.name ≡ x.name) es → HaveDifferentNames fs → x ≡ y
    → fs ≡ es ++ y ∷ gs → ⊥
repeated es gs fs x y h names same e =
    let there = h.2 in
    let len : length fs ≡ length es + length (y ∷ gs) = ap length e ∙ length-append es (y ∷ gs) in
    let earlier : get_or fs h.0 h.1 ≡ h.1 = ap (λ t. get_or t h.0 h.1) e
    ∙ (get_or_append_left es (y ∷ gs) h.1 h.0 there ∙ h.3) in
    let later : get_or fs (length es) h.1 ≡ y = ap (λ t. get_or t (length es) h.1) e ∙ get_or_append_at es gs y h.1 in
    let apart = names h.0 (length es) h.1 there (omega arith) in
    apart (ap (λ k. k.name) earlier ∙ (h.4 ∙ (ap (λ k. k.name) same ∙ ap (λ k. k.name) (sym later))))

pub name_misplaced : (y : Layout) (es : List Entry) (x : Entry) → Any (λ e. e.name ≡ x.name) es
    → ¬ BeginsImage (entries_read y es ++ Function x ∷ [])
name_misplaced y es x h b =
    let e = sym (append_one (entries_read y es) b.3 (Function x)) ∙ b.5 in
    let tail : map Function es ++ Function x ∷ b.3
    ≡ map Function b.1 ++ Count (length b.2) ∷ (map Word b.2 ++ End ∷ []) = cc in
    elim (after_entries es b.1 (length b.2) _ b.3 (Function x) tail) [
      | inl p ↦ repeated es p.1 b.1 x p.0 h b.4 (let q = p.2 in cc) p.3
      | inr p ↦ absurd cc
    ]

pub word_misplaced : (y : Layout) (es : List Entry) (n : ℕ) (ws : List ℕ) (l : Line) → length ws < n
    → ((w : ℕ) → l ≢ Word w) → ¬ BeginsImage (words_read y es n ws ++ l ∷ [])
word_misplaced y es n ws l few h b =
    let e = sym (append_one (words_read y es n ws) b.3 l) ∙ b.5 in
    let flat : words_read y es n ws ++ l ∷ b.3 ≡ Header y ∷ (map Function es ++ Count n ∷ (map Word ws ++ l ∷ b.3)) =
    ap (λ t. Header y ∷ t) (append_assoc (map Function es) (Count n ∷ map Word ws) (l ∷ b.3)) in
    let whole = sym flat ∙ e in
    let tail : map Function es ++ Count n ∷ (map Word ws ++ l ∷ b.3)
    ≡ map Function b.1 ++ Count (length b.2) ∷ (map Word b.2 ++ End ∷ []) = cc in
    let parts = after_count es b.1 n (length b.2) _ _ tail in
    elim (after_words ws b.2 l b.3 parts.1) [
      | inl p ↦ h p.0 p.1
      | inr p ↦ let same = p.1 in let count = parts.0 in absurd (omega arith)
    ]

pub end_misplaced : (y : Layout) (es : List Entry) (n : ℕ) (ws : List ℕ) (l : Line) → length ws ≡ n → l ≢ End
    → ¬ BeginsImage (words_read y es n ws ++ l ∷ [])
end_misplaced y es n ws l all h b =
    let e = sym (append_one (words_read y es n ws) b.3 l) ∙ b.5 in
    let flat : words_read y es n ws ++ l ∷ b.3 ≡ Header y ∷ (map Function es ++ Count n ∷ (map Word ws ++ l ∷ b.3)) =
    ap (λ t. Header y ∷ t) (append_assoc (map Function es) (Count n ∷ map Word ws) (l ∷ b.3)) in
    let whole = sym flat ∙ e in
    let tail : map Function es ++ Count n ∷ (map Word ws ++ l ∷ b.3)
    ≡ map Function b.1 ++ Count (length b.2) ∷ (map Word b.2 ++ End ∷ []) = cc in
    let parts = after_count es b.1 n (length b.2) _ _ tail in
    elim (after_words ws b.2 l b.3 parts.1) [
      | inl p ↦ let fewer = p.2 in let count = parts.0 in absurd (omega arith)
      | inr p ↦ h p.0
    ]

-- ---- what was read begins an image

pub entries_begin : (y : Layout) (es : List Entry) → HaveDifferentNames es → BeginsImage (entries_read y es)
entries_begin y es h = (y, es, [], Count 0 ∷ End ∷ [], h, refl)

pub words_begin : (y : Layout) (es : List Entry) (n : ℕ) (ws : List ℕ) → length ws ≤ n → HaveDifferentNames es
    → BeginsImage (words_read y es n ws)
words_begin y es n ws few h =
    let zeros : List ℕ = replicate (n - length ws) 0 in
    let count : length (ws ++ zeros) ≡ length ws + (n - length ws) = length-append ws zeros
    ∙ ap (λ k. length ws + k) (length-replicate (n - length ws) 0) in
    let all : length (ws ++ zeros) ≡ n = count ∙ omega arith in
    let words : map Word ws ++ (map Word zeros ++ End ∷ []) ≡ map Word (ws ++ zeros) ++ End ∷ [] =
    sym (append_assoc (map Word ws) (map Word zeros) (End ∷ []))
    ∙ ap (λ t. t ++ End ∷ []) (sym (map-append Word ws zeros)) in
    let flat : words_read y es n ws ++ (map Word zeros ++ End ∷ [])
    ≡ Header y ∷ (map Function es ++ Count n ∷ (map Word ws ++ (map Word zeros ++ End ∷ []))) =
    ap (λ t. Header y ∷ t) (append_assoc (map Function es) (Count n ∷ map Word ws) (map Word zeros ++ End ∷ [])) in
    let joined : words_read y es n ws ++ (map Word zeros ++ End ∷ []) ≡ lines_of y es (ws ++ zeros) =
    flat ∙ (ap (λ t. Header y ∷ (map Function es ++ Count n ∷ t)) words
    ∙ ap (λ k. Header y ∷ (map Function es ++ Count k ∷ (map Word (ws ++ zeros) ++ End ∷ []))) (sym all)) in
    (y, es, ws ++ zeros, map Word zeros ++ End ∷ [], h, joined)

pub entries_going : (y : Layout) (es : List Entry) → All (λ l. l ≢ End) (entries_read y es)
entries_going y es = All-cons (λ l. l ≢ End) (Header y) (map Function es) (λ e. absurd cc)
    (All-map (λ l. l ≢ End) Function es (λ k d lt e. absurd cc))

pub words_going : (y : Layout) (es : List Entry) (n : ℕ) (ws : List ℕ) → All (λ l. l ≢ End) (words_read y es n ws)
words_going y es n ws =
    let P : Line → Type 0 = λ l. l ≢ End in
    All-cons P (Header y) _ (λ e. absurd cc)
    (All-append P (map Function es) (Count n ∷ map Word ws) (All-map P Function es (λ k d lt e. absurd cc))
    (All-cons P (Count n) (map Word ws) (λ e. absurd cc) (All-map P Word ws (λ k d lt e. absurd cc))))

-- ---- where the reading stands

length-map : {X : Type 0} (f : X → Line) (xs : List X) → length (map f xs) ≡ length xs
length-map f [] = refl
length-map f (x ∷ xs) = ap (λ k. suc k) (length-map f xs)

pub reaches_entries : (y : Layout) (text : List ℕ) (es : List Entry) (at : ℕ) → EntriesRead y text es at
    → Reaches text (length es + 2) (entries_read y es) (drop at text)
reaches_entries y text es at h =
    let count : length (map Function es) ≡ length es = length-map Function es in
    let forms = h.forms in
    record {
      number = omega arith;
      spelled = h.spelled;
      forms = All-cons (IsLine y) (Header y) (map Function es) tt (All-map (IsLine y) Function es forms);
      order = entries_begin y es h.names;
      going = entries_going y es;
    }

pub reaches_words : (y : Layout) (text : List ℕ) (es : List Entry) (n : ℕ) (ws : List ℕ) (at : ℕ)
    → WordsRead y text es n ws at
    → Reaches text (length es + length ws + 3) (words_read y es n ws) (drop at text)
reaches_words y text es n ws at h =
    let entries : length (map Function es) ≡ length es = length-map Function es in
    let words : length (map Word ws) ≡ length ws = length-map Word ws in
    let count : length (map Function es ++ Count n ∷ map Word ws) ≡ length (map Function es)
    + length (Count n ∷ map Word ws) = length-append (map Function es) (Count n ∷ map Word ws) in
    record {
      number = omega arith;
      spelled = h.spelled;
      forms = All-cons (IsLine y) (Header y) (map Function es ++ Count n ∷ map Word ws) tt
          (All-append (IsLine y) (map Function es) (Count n ∷ map Word ws) (All-map (IsLine y) Function es h.forms)
          (All-cons (IsLine y) (Count n) (map Word ws) h.counted (All-map (IsLine y) Word ws h.words)));
      order = words_begin y es n ws h.few h.names;
      going = words_going y es n ws;
    }

moved : (text : List ℕ) (n m : ℕ) (before : List Line) (rest more : List ℕ) → Reaches text n before rest → m ≡ n
    → rest ≡ more → Reaches text m before more
moved text n m before rest more h same e =
    record {
      number = same ∙ h.number;
      spelled = h.spelled ∙ ap (λ t. text_of before ++ t) e;
      forms = h.forms;
      order = h.order;
      going = h.going;
    }

pub line_fault : (text : List ℕ) (n : ℕ) (before : List Line) (rest : List ℕ) (f : ImageFault)
    → Reaches text n before rest → IsLineFault (layout_after before) n rest f → IsFault text f
line_fault text n before rest (BadLine m) h k =
    let joined : rest ≡ line k.1 ++ k.2 = k.3 ∙ sym (append_assoc k.1 (10 ∷ []) k.2) in
    record {
      before = before;
      bytes = k.1;
      rest = k.2;
      reaches = moved text n m before rest (line k.1 ++ k.2) h k.0 joined;
      single = k.4;
      formless = k.5;
    }
line_fault text n before rest (BadOrder m) h k = absurd k
line_fault text n before rest (BadOffset m) h k = absurd k
line_fault text n before rest (Truncated m) h k =
    record { before = before; rest = rest; reaches = moved text n m before rest rest h k.0 refl; cut_off = k.1 }

pub order_fault : (text : List ℕ) (n : ℕ) (before : List Line) (rest more : List ℕ) (l : Line)
    → Reaches text n before rest → IsLine (layout_after before) l
    → rest ≡ line (line_text l) ++ more → ¬ BeginsImage (before ++ l ∷ []) → IsFault text (BadOrder n)
order_fault text n before rest more l h form e misplaced =
    inl (record {
      before = before;
      next = l;
      rest = more;
      reaches =
          moved text n n before rest (line (line_text l) ++ more) h refl e;
      form = form;
      misplaced = misplaced;
    })

-- ---- one line more

entries_one : (y : Layout) (es : List Entry) (x : Entry)
    → entries_read y (es ++ x ∷ []) ≡ entries_read y es ++ Function x ∷ []
entries_one y es x = ap (λ t. Header y ∷ t) (map-append Function es (x ∷ []))

pub text_of-one : (ls : List Line) (l : Line) (rest : List ℕ)
    → text_of ls ++ (line (line_text l) ++ rest) ≡ text_of (ls ++ l ∷ []) ++ rest
text_of-one ls l rest =
    let split = text_of-append ls (l ∷ []) in
    let one : text_of (l ∷ []) ≡ line (line_text l) = append-nil (line (line_text l)) in
    sym (append_assoc (text_of ls) (line (line_text l)) rest)
    ∙ ap (λ t. t ++ rest) (ap (λ t. text_of ls ++ t) (sym one) ∙ sym split)

get_or_same : (es : List Entry) (i : ℕ) (d : Entry) → i < length es → get_or es i (get_or es i d) ≡ get_or es i d
get_or_same [] i d h = absurd (omega arith)
get_or_same (x ∷ es) zero d h = refl
get_or_same (x ∷ es) (suc i) d h = get_or_same es i d (omega arith)

names_more : (es : List Entry) (x : Entry) → HaveDifferentNames es → (Any (λ e. e.name ≡ x.name) es → ⊥)
    → HaveDifferentNames (es ++ x ∷ [])
names_more es x h new i j d below within =
    let len : length (es ++ x ∷ []) ≡ length es + 1 = length-append es (x ∷ []) in
    elim (cases_lt j (length es)) [
      | inl inside ↦
          let a = get_or_append_left es (x ∷ []) d i (omega arith) in
          let b = get_or_append_left es (x ∷ []) d j inside in
          rw (a, b) (h i j d below inside)
      | inr last ↦
          let place : j ≡ length es = omega arith in
          let first : i < length es = omega arith in
          let a = get_or_append_left es (x ∷ []) d i first in
          let b : get_or (es ++ x ∷ []) j d ≡ x = ap (λ k. get_or (es ++ x ∷ []) k d) place
          ∙ get_or_append_at es [] x d in
          rw (a, b) (λ same. new (i, get_or es i d, first, get_or_same es i d first, same))
    ]

pub entry_more : (y : Layout) (text : List ℕ) (es : List Entry) (x : Entry) (at next : ℕ) → EntriesRead y text es at
    → IsEntryLine x
    → drop at text ≡ line (line_text (Function x)) ++ drop next text → at < next → next ≤ length text
    → (Any (λ e. e.name ≡ x.name) es → ⊥)
    → EntriesRead y text (es ++ x ∷ []) next
entry_more y text es x at next h form e forth within new =
    let len : length (es ++ x ∷ []) ≡ length es + 1 = length-append es (x ∷ []) in
    let many = h.many in
    record {
      within = within;
      many = omega arith;
      spelled = h.spelled ∙ (ap (λ t. text_of (entries_read y es) ++ t) e
          ∙ (text_of-one (entries_read y es) (Function x) (drop next text)
          ∙ ap (λ t. text_of t ++ drop next text) (sym (entries_one y es x))));
      forms = All-push IsEntryLine es x h.forms form;
      names = names_more es x h.names new;
    }

pub IfFault-weaker : (e : OrMemory ImageFault) (P Q : ImageFault → Type 0) → ((f : ImageFault) → P f → Q f)
    → IfFault e P → IfFault e Q
IfFault-weaker Memory P Q h p = tt
IfFault-weaker (Fault f) P Q h p = h f p

-- ---- faults after the entries

pub entries_line_fault : (y : Layout) (text : List ℕ) (es : List Entry) (at k : ℕ) (e : OrMemory ImageFault)
    → EntriesRead y text es at → k ≡ length es
    → IfFault e (IsLineFault y (k + 2) (drop at text)) → IfFault e (IsFault text)
entries_line_fault y text es at k e h same =
    IfFault-weaker e (IsLineFault y (k + 2) (drop at text)) (IsFault text)
    (λ f p. line_fault text (k + 2) (entries_read y es) (drop at text) f
    (moved text (length es + 2) (k + 2) (entries_read y es) (drop at text) (drop at text)
    (reaches_entries y text es at h) (ap (λ m. m + 2) same) refl) p)

pub entries_order_fault : (y : Layout) (text : List ℕ) (es : List Entry) (at next k : ℕ) (l : Line)
    → EntriesRead y text es at → k ≡ length es → IsLine y l
    → drop at text ≡ line (line_text l) ++ drop next text → ¬ BeginsImage (entries_read y es ++ l ∷ [])
    → IsFault text (BadOrder (k + 2))
entries_order_fault y text es at next k l h same form e misplaced =
    order_fault text (k + 2) (entries_read y es) (drop at text) (drop next text) l
    (moved text (length es + 2) (k + 2) (entries_read y es) (drop at text) (drop at text)
    (reaches_entries y text es at h) (ap (λ m. m + 2) same) refl)
    form e misplaced

-- ---- faults after the words

words_reaches : (y : Layout) (text : List ℕ) (es : List Entry) (n : ℕ) (ws : List ℕ) (at k : ℕ)
    → WordsRead y text es n ws at → k ≡ length es + length ws
    → Reaches text (k + 3) (words_read y es n ws) (drop at text)
words_reaches y text es n ws at k h same =
    moved text (length es + length ws + 3) (k + 3) (words_read y es n ws) (drop at text) (drop at text)
    (reaches_words y text es n ws at h) (ap (λ m. m + 3) same) refl

pub words_line_fault : (y : Layout) (text : List ℕ) (es : List Entry) (n : ℕ) (ws : List ℕ) (at k : ℕ) (e : OrMemory
    ImageFault) → WordsRead y text es n ws at → k ≡ length es + length ws
    → IfFault e (IsLineFault y (k + 3) (drop at text)) → IfFault e (IsFault text)
words_line_fault y text es n ws at k e h same =
    IfFault-weaker e (IsLineFault y (k + 3) (drop at text)) (IsFault text)
    (λ f p.
    line_fault text (k + 3) (words_read y es n ws) (drop at text) f (words_reaches y text es n ws at k h same) p)

pub words_order_fault : (y : Layout) (text : List ℕ) (es : List Entry) (n : ℕ) (ws : List ℕ) (at next k : ℕ) (l : Line)
    → WordsRead y text es n ws at → k ≡ length es + length ws → IsLine y l
    → drop at text ≡ line (line_text l) ++ drop next text → ¬ BeginsImage (words_read y es n ws ++ l ∷ [])
    → IsFault text (BadOrder (k + 3))
words_order_fault y text es n ws at next k l h same form e misplaced =
    order_fault text (k + 3) (words_read y es n ws) (drop at text) (drop next text) l
    (words_reaches y text es n ws at k h same) form e misplaced

words_one : (y : Layout) (es : List Entry) (n : ℕ) (ws : List ℕ) (w : ℕ)
    → words_read y es n (ws ++ w ∷ []) ≡ words_read y es n ws ++ Word w ∷ []
words_one y es n ws w =
    ap (λ t. Header y ∷ (map Function es ++ Count n ∷ t)) (map-append Word ws (w ∷ []))
    ∙ ap (λ t. Header y ∷ t) (sym (append_assoc (map Function es) (Count n ∷ map Word ws) (Word w ∷ [])))

pub word_more : (y : Layout) (text : List ℕ) (es : List Entry) (n : ℕ) (ws : List ℕ) (w at next : ℕ)
    → WordsRead y text es n ws at → w < 2 ^ 32
    → drop at text ≡ line (line_text (Word w)) ++ drop next text → at < next → next ≤ length text → length ws < n
    → WordsRead y text es n (ws ++ w ∷ []) next
word_more y text es n ws w at next h small e forth within room =
    let len : length (ws ++ w ∷ []) ≡ length ws + 1 = length-append ws (w ∷ []) in
    let many = h.many in
    record {
      within = within;
      many = omega arith;
      spelled = h.spelled ∙ (ap (λ t. text_of (words_read y es n ws) ++ t) e
          ∙ (text_of-one (words_read y es n ws) (Word w) (drop next text)
          ∙ ap (λ t. text_of t ++ drop next text) (sym (words_one y es n ws w))));
      forms = h.forms;
      names = h.names;
      counted = h.counted;
      words = All-push (λ w. w < 2 ^ 32) ws w h.words small;
      few = omega arith;
    }

-- ---- the end

ended : (y : Layout) (es : List Entry) (ws : List ℕ) → words_read y es (length ws) ws ++ End ∷ [] ≡ lines_of y es ws
ended y es ws = ap (λ t. Header y ∷ t) (append_assoc (map Function es) (Count (length ws) ∷ map Word ws) (End ∷ []))

end_read : (y : Layout) (text : List ℕ) (es : List Entry) (ws : List ℕ) (at next : ℕ)
    → WordsRead y text es (length ws) ws at
    → drop at text ≡ line (line_text End) ++ drop next text → text ≡ text_of (lines_of y es ws) ++ drop next text
end_read y text es ws at next h e =
    h.spelled ∙ (ap (λ t. text_of (words_read y es (length ws) ws) ++ t) e
    ∙ (text_of-one (words_read y es (length ws) ws) End (drop next text)
    ∙ ap (λ t. text_of t ++ drop next text) (ended y es ws)))

forms_read : (y : Layout) (text : List ℕ) (es : List Entry) (ws : List ℕ) (at : ℕ)
    → WordsRead y text es (length ws) ws at → All (IsLine y) (lines_of y es ws)
forms_read y text es ws at h = IsLine-lines_of y es ws h.forms h.counted h.words

pub length-lines_of : (y : Layout) (es : List Entry) (ws : List ℕ)
    → length (lines_of y es ws) ≡ length es + length ws + 3
length-lines_of y es ws =
    let entries : length (map Function es) ≡ length es = length-map Function es in
    let words : length (map Word ws) ≡ length ws = length-map Word ws in
    let all : length (map Word ws ++ End ∷ []) ≡ length (map Word ws) + 1 = length-append (map Word ws) (End ∷ []) in
    let count : length (map Function es ++ Count (length ws) ∷ (map Word ws ++ End ∷ []))
    ≡ length (map Function es) + length (Count (length ws) ∷ (map Word ws ++ End ∷ []))
    = length-append (map Function es) (Count (length ws) ∷ (map Word ws ++ End ∷ [])) in
    omega arith

pub behind_end : (y : Layout) (text : List ℕ) (es : List Entry) (ws : List ℕ) (at next : ℕ)
    → WordsRead y text es (length ws) ws at
    → drop at text ≡ line (line_text End) ++ drop next text → next < length text
    → IsFault text (BadOrder (length es + length ws + 3 + 1))
behind_end y text es ws at next h e more =
    let left : length (drop next text) ≡ length text - next = length-drop next text in
    inr (record {
      layout = y;
      entries = es;
      code = ws;
      rest = drop next text;
      number = ap (λ k. k + 1) (sym (length-lines_of y es ws));
      spelled = end_read y text es ws at next h e;
      forms = forms_read y text es ws at h;
      names = h.names;
      more = λ none. let no : length (drop next text) ≡ 0 = ap length none in absurd (omega arith);
    })

pub read_whole : (y : Layout) (text : List ℕ) (es : List Entry) (ws : List ℕ) (at next : ℕ)
    → WordsRead y text es (length ws) ws at
    → drop at text ≡ line (line_text End) ++ drop next text → length text ≤ next → text ≡ text_of (lines_of y es ws)
read_whole y text es ws at next h e over =
    end_read y text es ws at next h e ∙ (ap (λ t. text_of (lines_of y es ws) ++ t) (drop_all next text over)
    ∙ append-nil (text_of (lines_of y es ws)))

-- ---- the first line

pub first_reaches : (text : List ℕ) → Reaches text 1 [] text
first_reaches text = record {
  number = refl;
  spelled = refl;
  forms = All-nil (IsLine Two);
  order = (Two, [], [], lines_of Two [] [], (λ i j d below within. absurd (omega arith)), refl);
  going = All-nil (λ l. l ≢ End);
}

pub first_line_fault : (text : List ℕ) (e : OrMemory ImageFault) → IfFault e (IsLineFault Two 1 text)
    → IfFault e (IsFault text)
first_line_fault text e =
    IfFault-weaker e (IsLineFault Two 1 text) (IsFault text) (λ f p. line_fault text 1 [] text f (first_reaches text) p)

pub first_order_fault : (text : List ℕ) (next : ℕ) (l : Line) → IsLine Two l
    → text ≡ line (line_text l) ++ drop next text → ((own : Layout) → l ≢ Header own) → IsFault text (BadOrder 1)
first_order_fault text next l form e h =
    order_fault text 1 [] text (drop next text) l (first_reaches text) form e (first_misplaced l h)

pub offset_fault : (y : Layout) (text : List ℕ) (es : List Entry) (ws : List ℕ) (at k : ℕ)
    → WordsRead y text es (length ws) ws at → text ≡ text_of (lines_of y es ws)
    → IsFirstBad (length ws) es k → IsFault text (BadOffset (k + 2))
offset_fault y text es ws at k h whole bad = record {
  layout = y;
  entries = es;
  code = ws;
  place = k;
  entry = bad.0;
  number = refl;
  spelled = whole;
  forms = forms_read y text es ws at h;
  names = h.names;
  there = bad.1;
  bad = bad.2;
  first = bad.3;
}
