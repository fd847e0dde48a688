-- A text is an image's or has a fault, never both, and never two faults.
use Rattle.std.proofs.Common.{◌≡◌, ◌≢◌, ◌⊎◌, inl, inr, ℕ, ◌+◌, ◌<◌, List, [], ◌∷◌, ◌++◌, refl, ap, sym, ◌∙◌, arith}
use Rattle.std.proofs.Common.{append_assoc, append-nil, subst, length, take, get_or, min, Option, Some, None}
use Rattle.std.specs.Prelude.{All, map, Result, Ok, Err, IfOk, IfErr, MatchResult}
use Rattle.br_base.specs.declared.failure.OrMemory.{OrMemory}
use Rattle.br_base.specs.declared.failure.OrMemory.TheVariants.{Memory, Fault}
use Rattle.std.proofs.lemmas.Bool.{cases_lt}
use Rattle.std.proofs.lemmas.List.{get_or-take, length-take}
use Rattle.std.proofs.lemmas.List.Elements.{All-head, All-tail}
use Rattle.std.proofs.lemmas.Option.{get_or_from_slice_get, slice_get_within}
use Rattle.br_words.specs.declared.layout.Layout.{Layout}
use Rattle.br_words.specs.declared.layout.Layout.TheVariants.{Two}
use Rattle.br_image.specs.declared.images.Entry.{Entry}
use Rattle.br_image.specs.declared.images.Image.{Image}
use Rattle.br_image.specs.declared.lines.Line.{Line}
use Rattle.br_image.specs.declared.lines.Line.TheVariants.{Header, Function, Count, Word, End}
use Rattle.br_image.specs.declared.faults.ImageFault.{ImageFault}
use Rattle.br_image.specs.declared.faults.ImageFault.TheVariants.{BadLine, BadOrder, BadOffset, Truncated}
use Rattle.br_image.specs.Text.{line}
use Rattle.br_image.specs.Limits.{HaveDifferentNames}
use Rattle.br_image.specs.Lines.{IsLine, layout_after, line_text, text_of, lines_of}
use Rattle.br_image.specs.Printed.{image_text}
use Rattle.br_image.specs.Faults.{BeginsImage, IsFault, IsBadLine, IsMisplaced}
use Rattle.br_image.specs.Faults.{IsBehindEnd, IsBadOffset, IsTruncated, IsOffset}
use Rattle.br_base.specs.Faults.{IfFault}
use Rattle.br_image.specs.Reading.{IsFirstBad}
use Rattle.br_image.proofs.Pieces.{Free, Free-not, Free-lacks, cut}
use Rattle.br_image.proofs.Forms.{most_within, Free-line, line_text-injective}
use Rattle.br_image.proofs.Sequences.{text_of-begins, lines_of-injective, lines_of-whole}
use Rattle.br_image.proofs.Sequences.{image_text-lines, IsLine-image, same_text_same_image}

-- ---- where the reading of a text stops

-- the text begins with these lines of an image, and no line of an image follows them
record Stops (text : List ℕ) (before : List Line) (rest : List ℕ) : Type 0 where
  spelled : text ≡ text_of before ++ rest
  forms : All (IsLine (layout_after before)) before
  order : BeginsImage before
  stuck : (l : Line) (more : List ℕ) → IsLine (layout_after before) l → rest ≡ line (line_text l) ++ more
      → BeginsImage (before ++ l ∷ []) → ⊥

All-mid : {X : Type 0} (P : X → Type 0) (xs ys : List X) (x : X) → All P (xs ++ x ∷ ys) → P x
All-mid P [] ys x h = All-head P x ys h
All-mid P (y ∷ xs) ys x h = All-mid P xs ys x (All-tail P y (xs ++ x ∷ ys) h)

-- what begins with more lines begins with one more
one_more : (before more : List Line) (l : Line) → BeginsImage (before ++ l ∷ more) → BeginsImage (before ++ l ∷ [])
one_more before more l b = (
  b.0,
  b.1,
  b.2,
  more ++ b.3,
  b.4,
  append_assoc before (l ∷ []) (more ++ b.3)
      ∙ (sym (append_assoc before (l ∷ more) b.3) ∙ b.5),
)

-- what is a line of a text of some layout is a line of one that may be larger
wider : (y : Layout) (l : Line) → IsLine y l → IsLine Two l
wider y (Header own) h = h
wider y (Function e) h = h
wider y (Count n) h = let within = most_within y in omega arith
wider y (Word w) h = h
wider y End h = h

-- a line that stands after more lines may stand after fewer
earlier : (before more : List Line) (l : Line) → IsLine (layout_after (before ++ more)) l
    → IsLine (layout_after before) l
earlier [] more l h = wider (layout_after more) l h
earlier (Header own ∷ before) more l h = h
earlier (Function e ∷ before) more l h = h
earlier (Count n ∷ before) more l h = h
earlier (Word w ∷ before) more l h = h
earlier (End ∷ before) more l h = h

stops_before : (text : List ℕ) (before after : List Line) (rest rest' : List ℕ) (more : List Line)
    → Stops text before rest → Stops text after rest'
    → after ≡ before ++ more → rest ≡ text_of more ++ rest' → (before ≡ after) × (rest ≡ rest')
stops_before text before after rest rest' [] h k e f = (sym (e ∙ append-nil before), f)
stops_before text before after rest rest' (l ∷ more) h k e f =
    let P : List Line → Type 0 = λ ls. All (IsLine (layout_after ls)) ls in
    let Q : List Line → Type 0 = λ ls. BeginsImage ls in
    absurd (h.stuck l (text_of more ++ rest') (earlier before (l ∷ more) l
    (All-mid (IsLine (layout_after (before ++ l ∷ more))) before more l (subst P e k.forms)))
    (f ∙ append_assoc (line (line_text l)) (text_of more) rest') (one_more before more l (subst Q e k.order)))

stops_same : (text : List ℕ) (before after : List Line) (rest rest' : List ℕ) → Stops text before rest
    → Stops text after rest' → (before ≡ after) × (rest ≡ rest')
stops_same text before after rest rest' h k =
    elim (text_of-begins (layout_after before) (layout_after after) before after rest rest' h.forms k.forms
    (sym h.spelled ∙ k.spelled)) [
      | inl b ↦ stops_before text before after rest rest' b.0 h k b.1 b.2
      | inr b ↦ let same = stops_before text after before rest' rest b.0 k h b.1 b.2 in (sym same.0, sym same.1)
    ]

-- ---- why it stops there

-- no line follows, and none of the lines is `end`
IsOpenStop : List Line → List ℕ → ImageFault → Type 0
IsOpenStop before rest f =
    ((f ≡ Truncated (length before + 1)) × Free 10 rest)
    ⊎ ((f ≡ BadLine (length before + 1)) × ((bytes : List ℕ) × (more : List ℕ) × (rest ≡ bytes ++ 10 ∷ more)
    × Free 10 bytes × ((l : Line) → IsLine (layout_after before) l → bytes ≢ line_text l)))
    ⊎ ((f ≡ BadOrder (length before + 1))
    × ((l : Line) × (more : List ℕ) × IsLine (layout_after before) l × (rest ≡ line_text l ++ 10 ∷ more)))

apart_ends : (rest bytes more : List ℕ) → Free 10 rest → rest ≡ bytes ++ 10 ∷ more → ⊥
apart_ends rest bytes more h e =
    let P : List ℕ → Type 0 = λ t. Free 10 t in
    Free-not 10 bytes more (subst P e h)

apart_forms : (y : Layout) (rest bytes more more' : List ℕ) (l : Line) → Free 10 bytes → IsLine y l
    → rest ≡ bytes ++ 10 ∷ more → rest ≡ line_text l ++ 10 ∷ more' → bytes ≡ line_text l
apart_forms y rest bytes more more' l h k d e =
    (cut 10 bytes (line_text l) more more' h (Free-line y l k) (sym d ∙ e)).0

open_same : (before : List Line) (rest : List ℕ) (f g : ImageFault) → IsOpenStop before rest f
    → IsOpenStop before rest g → f ≡ g
unfolding IsOpenStop
open_same before rest f g (inl a) (inl b) = a.0 ∙ sym b.0
open_same before rest f g (inl a) (inr (inl b)) = absurd (apart_ends rest b.1.0 b.1.1 a.1 b.1.2)
open_same before rest f g (inl a) (inr (inr b)) = absurd (apart_ends rest (line_text b.1.0) b.1.1 a.1 b.1.3)
open_same before rest f g (inr (inl a)) (inl b) = absurd (apart_ends rest a.1.0 a.1.1 b.1 a.1.2)
open_same before rest f g (inr (inl a)) (inr (inl b)) = a.0 ∙ sym b.0
open_same before rest f g (inr (inl a)) (inr (inr b)) =
    absurd (a.1.4 b.1.0 b.1.2 (apart_forms (layout_after before) rest a.1.0 a.1.1 b.1.1 b.1.0 a.1.3 b.1.2 a.1.2 b.1.3))
open_same before rest f g (inr (inr a)) (inl b) = absurd (apart_ends rest (line_text a.1.0) a.1.1 b.1 a.1.3)
open_same before rest f g (inr (inr a)) (inr (inl b)) =
    absurd (b.1.4 a.1.0 a.1.2 (apart_forms (layout_after before) rest b.1.0 b.1.1 a.1.1 a.1.0 b.1.3 a.1.2 b.1.2 a.1.3))
open_same before rest f g (inr (inr a)) (inr (inr b)) = a.0 ∙ sym b.0

-- every line of an image was read
IsWholeStop : List Line → List ℕ → Option ImageFault → Type 0
IsWholeStop before rest v =
    (y : Layout) × (es : List Entry) × (ws : List ℕ) × (before ≡ lines_of y es ws) × (
    ((rest ≢ []) × (v ≡ Some (BadOrder (length before + 1))))
    ⊎ ((rest ≡ []) × (((k : ℕ) × IsFirstBad (length ws) es k × (v ≡ Some (BadOffset (k + 2))))
    ⊎ (All (λ e. IsOffset (length ws) e.offset) es × (v ≡ None)))))

-- of two first entries with a bad offset neither comes before the other
not_before : (words : ℕ) (es : List Entry) (j k : ℕ) → IsFirstBad words es j → IsFirstBad words es k → j < k → ⊥
not_before words es j k a b h =
    let within = slice_get_within es k b.0 b.1 in
    let len : length (take k es) ≡ min k (length es) = length-take k es in
    let same : get_or (take k es) j a.0 ≡ a.0 = get_or-take k es j a.0 h ∙ get_or_from_slice_get es j a.0 a.0 a.1 in
    let good = b.3 j a.0 (omega arith) in
    let P : Entry → Type 0 = λ e. IsOffset words e.offset in
    a.2 (subst P same good)

first_bad_same : (words : ℕ) (es : List Entry) (j k : ℕ) → IsFirstBad words es j → IsFirstBad words es k → j ≡ k
first_bad_same words es j k a b =
    elim (cases_lt j k) [
      | inl below ↦ absurd (not_before words es j k a b below)
      | inr above ↦ elim (cases_lt k j) [
        | inl below ↦ absurd (not_before words es k j b a below)
        | inr above' ↦ omega arith
      ]
    ]

-- a bad offset is not among good ones
not_good : (words : ℕ) (es : List Entry) (k : ℕ) → IsFirstBad words es k → All (λ e. IsOffset words e.offset) es → ⊥
not_good words es k a h =
    let within = slice_get_within es k a.0 a.1 in
    let same : get_or es k a.0 ≡ a.0 = get_or_from_slice_get es k a.0 a.0 a.1 in
    let P : Entry → Type 0 = λ e. IsOffset words e.offset in
    a.2 (subst P same (h k a.0 within))

Ends : List Entry → List ℕ → ℕ → List ℕ → Option ImageFault → Type 0
Ends es ws n rest v =
    ((rest ≢ []) × (v ≡ Some (BadOrder (n + 1))))
    ⊎ ((rest ≡ []) × (((k : ℕ) × IsFirstBad (length ws) es k × (v ≡ Some (BadOffset (k + 2))))
    ⊎ (All (λ e. IsOffset (length ws) e.offset) es × (v ≡ None))))

offsets_same : (es : List Entry) (words : ℕ) (v w : Option ImageFault)
    → ((k : ℕ) × IsFirstBad words es k × (v ≡ Some (BadOffset (k + 2))))
    ⊎ (All (λ e. IsOffset words e.offset) es × (v ≡ None))
    → ((k : ℕ) × IsFirstBad words es k × (w ≡ Some (BadOffset (k + 2))))
    ⊎ (All (λ e. IsOffset words e.offset) es × (w ≡ None)) → v ≡ w
offsets_same es words v w (inl a) (inl b) =
    a.2 ∙ (ap (λ k. Some (BadOffset (k + 2))) (first_bad_same words es a.0 b.0 a.1 b.1) ∙ sym b.2)
offsets_same es words v w (inl a) (inr b) = absurd (not_good words es a.0 a.1 b.0)
offsets_same es words v w (inr a) (inl b) = absurd (not_good words es b.0 b.1 a.0)
offsets_same es words v w (inr a) (inr b) = a.1 ∙ sym b.1

ends_same : (es : List Entry) (ws : List ℕ) (n : ℕ) (rest : List ℕ) (v w : Option ImageFault) → Ends es ws n rest v
    → Ends es ws n rest w → v ≡ w
unfolding Ends
ends_same es ws n rest v w (inl a) (inl b) = a.1 ∙ sym b.1
ends_same es ws n rest v w (inl a) (inr b) = absurd (a.0 b.0)
ends_same es ws n rest v w (inr a) (inl b) = absurd (b.0 a.0)
ends_same es ws n rest v w (inr a) (inr b) = offsets_same es (length ws) v w a.1 b.1

whole_same : (before : List Line) (rest : List ℕ) (v w : Option ImageFault) → IsWholeStop before rest v
    → IsWholeStop before rest w → v ≡ w
unfolding IsWholeStop Ends
whole_same before rest v w a b =
    let parts = lines_of-injective b.0 a.0 b.1 a.1 b.2 a.2 (sym b.3 ∙ a.3) in
    let P : List Entry → Type 0 = λ es. Ends es b.2 (length before) rest w in
    let Q : List ℕ → Type 0 = λ ws. Ends a.1 ws (length before) rest w in
    ends_same a.1 a.2 (length before) rest v w a.4 (subst Q parts.2 (subst P parts.1 b.4))

-- ---- one verdict for each text

record Says (text : List ℕ) (v : Option ImageFault) : Type 0 where
  before : List Line
  rest : List ℕ
  stops : Stops text before rest
  why : (All (λ l. l ≢ End) before × ((f : ImageFault) × (v ≡ Some f) × IsOpenStop before rest f))
      ⊎ IsWholeStop before rest v

no_end : (y : Layout) (es : List Entry) (ws : List ℕ) (before : List Line) → All (λ l. l ≢ End) before
    → before ≡ lines_of y es ws → ⊥
no_end y es ws before h e =
    let P : List Line → Type 0 = λ ls. All (λ l. l ≢ End) ls in
    let spread : lines_of y es ws ≡ (Header y ∷ (map Function es ++ Count (length ws) ∷ map Word ws)) ++ End ∷ [] =
    ap (λ t. Header y ∷ t) (sym (append_assoc (map Function es) (Count (length ws) ∷ map Word ws) (End ∷ []))) in
    All-mid (λ l. l ≢ End) (Header y ∷ (map Function es ++ Count (length ws) ∷ map Word ws)) [] End
    (subst P (e ∙ spread) h) refl

why_same : (before : List Line) (rest : List ℕ) (v w : Option ImageFault)
    → (All (λ l. l ≢ End) before × ((f : ImageFault) × (v ≡ Some f) × IsOpenStop before rest f))
    ⊎ IsWholeStop before rest v
    → (All (λ l. l ≢ End) before × ((f : ImageFault) × (w ≡ Some f) × IsOpenStop before rest f))
    ⊎ IsWholeStop before rest w → v ≡ w
unfolding IsWholeStop
why_same before rest v w (inl a) (inl b) =
    a.1.1 ∙ (ap (λ f. Some f) (open_same before rest a.1.0 b.1.0 a.1.2 b.1.2) ∙ sym b.1.1)
why_same before rest v w (inl a) (inr b) = absurd (no_end b.0 b.1 b.2 before a.0 b.3)
why_same before rest v w (inr a) (inl b) = absurd (no_end a.0 a.1 a.2 before b.0 a.3)
why_same before rest v w (inr a) (inr b) = whole_same before rest v w a b

says_same : (text : List ℕ) (v w : Option ImageFault) → Says text v → Says text w → v ≡ w
says_same text v w a b =
    let same = stops_same text b.before a.before b.rest a.rest b.stops a.stops in
    let P : List Line → Type 0 = λ ls. (All (λ l. l ≢ End) ls
    × ((f : ImageFault) × (w ≡ Some f) × IsOpenStop ls b.rest f)) ⊎ IsWholeStop ls b.rest w in
    let Q : List ℕ → Type 0 = λ r. (All (λ l. l ≢ End) a.before
    × ((f : ImageFault) × (w ≡ Some f) × IsOpenStop a.before r f)) ⊎ IsWholeStop a.before r w in
    why_same a.before a.rest v w a.why (subst Q same.1 (subst P same.0 b.why))

-- ---- a fault is a verdict, and so is an image

-- a line's text and what follows it
spread : (bytes more : List ℕ) → line bytes ++ more ≡ bytes ++ 10 ∷ more
spread bytes more = append_assoc bytes (10 ∷ []) more

truncated_says : (text : List ℕ) (n : ℕ) → IsTruncated text n → Says text (Some (Truncated n))
unfolding IsOpenStop
truncated_says text n t =
    let r = t.reaches in
    record {
      before = t.before;
      rest = t.rest;
      stops = record {
        spelled = r.spelled;
        forms = r.forms;
        order = r.order;
        stuck = λ l more h e b.
            apart_ends t.rest (line_text l) more (Free-lacks 10 t.rest t.cut_off) (e ∙ spread (line_text l) more);
      };
      why = inl (r.going, (Truncated n, refl, inl (ap Truncated r.number, Free-lacks 10 t.rest t.cut_off)));
    }

bad_line_says : (text : List ℕ) (n : ℕ) → IsBadLine text n → Says text (Some (BadLine n))
unfolding IsOpenStop
bad_line_says text n t =
    let r = t.reaches in
    let free = Free-lacks 10 t.bytes t.single in
    record {
      before = t.before;
      rest = line t.bytes ++ t.rest;
      stops = record {
        spelled = r.spelled;
        forms = r.forms;
        order = r.order;
        stuck = λ l more h e b. t.formless l h (apart_forms (layout_after t.before) (line t.bytes ++ t.rest) t.bytes
            t.rest more l free h (spread t.bytes t.rest) (e ∙ spread (line_text l) more));
      };
      why = inl (
        r.going,
        (
          BadLine n,
          refl,
          inr (inl (ap BadLine r.number, (t.bytes, t.rest, spread t.bytes t.rest, free, t.formless))),
        ),
      );
    }

misplaced_says : (text : List ℕ) (n : ℕ) → IsMisplaced text n → Says text (Some (BadOrder n))
unfolding IsOpenStop
misplaced_says text n t =
    let r = t.reaches in
    record {
      before = t.before;
      rest = line (line_text t.next) ++ t.rest;
      stops = record {
        spelled = r.spelled;
        forms = r.forms;
        order = r.order;
        stuck = λ l more h e b.
            let same = line_text-injective (layout_after t.before) (layout_after t.before) t.next l t.form h
            (apart_forms (layout_after t.before) (line (line_text t.next) ++ t.rest) (line_text t.next)
            t.rest more l (Free-line (layout_after t.before) t.next t.form) h (spread (line_text t.next) t.rest)
            (e ∙ spread (line_text l) more)) in
            let P : Line → Type 0 = λ k. BeginsImage (t.before ++ k ∷ []) in
            t.misplaced (subst P (sym same) b);
      };
      why = inl (
        r.going,
        (
          BadOrder n,
          refl,
          inr (inr (ap BadOrder r.number, (t.next, t.rest, t.form, spread (line_text t.next) t.rest))),
        ),
      );
    }

-- after a whole image's lines comes no line of an image
whole_stops : (text : List ℕ) (y : Layout) (es : List Entry) (ws rest : List ℕ)
    → text ≡ text_of (lines_of y es ws) ++ rest → All (IsLine y) (lines_of y es ws) → HaveDifferentNames es
    → Stops text (lines_of y es ws) rest
whole_stops text y es ws rest e forms names = record {
  spelled = e;
  forms = forms;
  order = (y, es, ws, [], names, append-nil (lines_of y es ws));
  stuck = λ l more h same b.
      let longer = sym b.5 ∙ append_assoc (lines_of y es ws) (l ∷ []) b.3 in
      let none = (lines_of-whole b.0 y b.1 es b.2 ws (l ∷ b.3) longer).3 in
      absurd cc;
}

behind_end_says : (text : List ℕ) (n : ℕ) → IsBehindEnd text n → Says text (Some (BadOrder n))
unfolding IsWholeStop
behind_end_says text n t = record {
  before = lines_of t.layout t.entries t.code;
  rest = t.rest;
  stops = whole_stops text t.layout t.entries t.code t.rest t.spelled t.forms t.names;
  why = inr (t.layout, t.entries, t.code, refl, inl (t.more, ap (λ k. Some (BadOrder k)) t.number));
}

bad_offset_says : (text : List ℕ) (n : ℕ) → IsBadOffset text n → Says text (Some (BadOffset n))
unfolding IsWholeStop
bad_offset_says text n t = record {
  before = lines_of t.layout t.entries t.code;
  rest = [];
  stops = whole_stops text t.layout t.entries t.code []
      (t.spelled ∙ sym (append-nil (text_of (lines_of t.layout t.entries t.code)))) t.forms t.names;
  why = inr (
    t.layout,
    t.entries,
    t.code,
    refl,
    inr (refl, inl (t.place, (t.entry, t.there, t.bad, t.first), ap (λ k. Some (BadOffset k)) t.number)),
  );
}

fault_says : (text : List ℕ) (f : ImageFault) → IsFault text f → Says text (Some f)
fault_says text (BadLine n) h = bad_line_says text n h
fault_says text (BadOrder n) (inl h) = misplaced_says text n h
fault_says text (BadOrder n) (inr h) = behind_end_says text n h
fault_says text (BadOffset n) h = bad_offset_says text n h
fault_says text (Truncated n) h = truncated_says text n h

image_says : (text : List ℕ) (i : Image) → text ≡ image_text i → Says text None
unfolding IsWholeStop
image_says text i e =
    let limits = i.in_limits in
    record {
      before = lines_of i.layout i.entries i.code;
      rest = [];
      stops = whole_stops text i.layout i.entries i.code [] (e ∙ (image_text-lines i
          ∙ sym (append-nil (text_of (lines_of i.layout i.entries i.code))))) (IsLine-image i) limits.names;
      why = inr (
        i.layout,
        i.entries,
        i.code,
        refl,
        inr (refl, inr ((λ k d h. let one = limits.each k d h in (one.aligned, one.offset)), refl)),
      );
    }

pub one_fault : (text : List ℕ) (f g : ImageFault) → IsFault text f → IsFault text g → f ≡ g
one_fault text f g a b = let same = says_same text (Some f) (Some g) (fault_says text f a) (fault_says text g b) in cc

pub not_both : (text : List ℕ) (i : Image) (f : ImageFault) → text ≡ image_text i → IsFault text f → ⊥
not_both text i f a b = let same = says_same text None (Some f) (image_says text i a) (fault_says text f b) in absurd cc

-- ---- what a reading that is right answers for each image and each fault

pub image_read : (text : List ℕ) (r : Result Image (OrMemory ImageFault)) (i : Image)
    → IfOk r (λ j. text ≡ image_text j) → IfErr r (λ e. IfFault e (IsFault text))
    → text ≡ image_text i → MatchResult r (λ j. j ≡ i) (λ e. e ≡ Memory)
image_read text (Ok j) i ok err e = same_text_same_image j i (sym ok ∙ e)
image_read text (Err Memory) i ok err e = refl
image_read text (Err (Fault f)) i ok err e = absurd (not_both text i f e err)

pub fault_read : (text : List ℕ) (r : Result Image (OrMemory ImageFault)) (f : ImageFault)
    → IfOk r (λ j. text ≡ image_text j) → IfErr r (λ e. IfFault e (IsFault text))
    → IsFault text f → MatchResult r (λ _. ⊥) (λ e. IfFault e (λ g. g ≡ f))
fault_read text (Ok j) f ok err h = not_both text j f ok h
fault_read text (Err Memory) f ok err h = tt
fault_read text (Err (Fault g)) f ok err h = one_fault text g f err h
