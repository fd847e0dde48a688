-- Lemmas that put changes at an index together.
use Rattle.std.proofs.Common.{◌≡◌, ◌≢◌, ℕ, suc, ◌+◌, ◌<◌, ◌≤◌, List, [], ◌∷◌, ◌++◌, length}
use Rattle.std.proofs.Common.{take, drop, sym, ap, ◌∙◌, arith, append_assoc, get_or, slice_set}
use Rattle.std.proofs.lemmas.List.{take_more, drop_more, set_split, take_all, drop_all}
use Rattle.std.proofs.lemmas.List.{get_or_at, set_at, length-take-le, append-nil}
use Rattle.std.specs.Result.{OnOk}
use Rattle.std.specs.declared.result.Result.{Result}
use Rattle.std.specs.declared.result.Result.TheVariants.{Ok, Err}
use Rattle.br_bytes.specs.Range.{Range, end_of, AreApart}
use Rattle.br_bytes.specs.Changes.{after, joined, before, added, range_to, range_from, ranges_to, ranges_from}
use Rattle.br_bytes.proofs.Ranged.{before_apart}
use Rattle.br_bytes.proofs.Changed.{to_skips, from_skips, to_cut, from_cut, added_skips, added_after, added_before}

pub on_ok : {T E P Q : Type 0} (r : Result T E) → OnOk r P → (P → Q) → OnOk r Q
on_ok (Ok x) p f = f p
on_ok (Err e) p f = tt

-- a range that was lengthened and does not touch the next
pub put_alone : (rs : List Range) (i : ℕ) (x y : Range) → i < length rs → y ≡ x
    → before x (drop (i + 1) rs) ≡ x ∷ drop (i + 1) rs → slice_set rs i y ≡ take i rs ++ before x (drop (i + 1) rs)
put_alone rs i x y h is alone =
    let s : suc i ≡ i + 1 = omega arith in
    set_split rs i y h ∙ ap (λ k. take i rs ++ y ∷ drop k rs) s ∙ ap (λ z. take i rs ++ z ∷ drop (i + 1) rs) is
    ∙ ap (λ zs. take i rs ++ zs) (sym alone)

pub last_alone : (rs : List Range) (i : ℕ) (x : Range) → length rs ≤ i → before x (drop i rs) ≡ x ∷ drop i rs
last_alone rs i x h = ap (before x) (drop_all i rs h) ∙ ap (λ zs. x ∷ zs) (sym (drop_all i rs h))

pub next_alone : (rs : List Range) (i : ℕ) (x d : Range) → i < length rs → end_of x ≢ (get_or rs i d).start
    → before x (drop i rs) ≡ x ∷ drop i rs
next_alone rs i x d h ne = ap (before x) (drop_more rs i d h) ∙ before_apart x (get_or rs i d) (drop (i + 1) rs) ne
    ∙ ap (λ zs. x ∷ zs) (sym (drop_more rs i d h))

-- what is added at the index that the search gives
pub add_after : (rs : List Range) (i : ℕ) (x d : Range) → AreApart 0 rs → i < length rs → after 0 (take i rs) ≤ x.start
    → end_of (get_or rs i d) ≡ x.start → take i rs ++ before (joined (get_or rs i d) x) (drop (i + 1) rs) ≡ added x rs
add_after rs i x d apart h below e =
    sym (added_skips rs 0 i x apart below ∙ ap (λ zs. take i rs ++ zs) (ap (added x) (drop_more rs i d h)
    ∙ added_after x (get_or rs i d) (drop (i + 1) rs) e))

pub add_last : (rs : List Range) (i : ℕ) (x : Range) → AreApart 0 rs → length rs ≤ i → after 0 (take i rs) ≤ x.start
    → take i rs ++ before x (drop i rs) ≡ added x rs
add_last rs i x apart h below =
    ap (λ zs. take i rs ++ before x zs) (drop_all i rs h)
    ∙ sym (added_skips rs 0 i x apart below ∙ ap (λ zs. take i rs ++ added x zs) (drop_all i rs h))

pub add_before : (rs : List Range) (i : ℕ) (x d : Range) → AreApart 0 rs → i < length rs → after 0 (take i rs) ≤ x.start
    → x.start < end_of (get_or rs i d) → take i rs ++ before x (drop i rs) ≡ added x rs
add_before rs i x d apart h below up =
    ap (λ zs. take i rs ++ before x zs) (drop_more rs i d h)
    ∙ sym (added_skips rs 0 i x apart below ∙ ap (λ zs. take i rs ++ zs) (ap (added x) (drop_more rs i d h)
    ∙ added_before x (get_or rs i d) (drop (i + 1) rs) up))

-- a range in two parts
pub split_at : (rs L : List Range) (i a e : ℕ) (x y t d : Range) → i < length rs → L
    ≡ take (i + 1) rs ++ t ∷ drop (i + 1) rs → x ≡ get_or L i x → y ≡ range_to a x → t ≡ range_from e (get_or rs i d)
    → slice_set L i y ≡ take i rs ++ range_to a (get_or rs i d) ∷ range_from e (get_or rs i d) ∷ drop (i + 1) rs
split_at rs L i a e x y t d h is at cut rest =
    let r = get_or rs i d in
    let len : length (take i rs) ≡ i = length-take-le i rs (omega arith) in
    let is2 : L ≡ take i rs ++ r ∷ t ∷ drop (i + 1) rs = is ∙ ap (λ zs. zs ++ t ∷ drop (i + 1) rs) (take_more rs i d h)
    ∙ append_assoc (take i rs) (r ∷ []) (t ∷ drop (i + 1) rs) in
    let same : x ≡ r = at ∙ ap (λ zs. get_or zs i x) is2 ∙ get_or_at (take i rs) r (t ∷ drop (i + 1) rs) x i len in
    ap (λ zs. slice_set zs i y) is2
    ∙ set_at (take i rs) r (t ∷ drop (i + 1) rs) y i len
    ∙ ap (λ z. take i rs ++ z ∷ t ∷ drop (i + 1) rs) (cut ∙ ap (range_to a) same)
    ∙ ap (λ z. take i rs ++ range_to a r ∷ z ∷ drop (i + 1) rs) rest

-- what is gone between two addresses, at the index that the search gives
pub clear_between : (rs L : List Range) (i a e : ℕ) → AreApart 0 rs → after 0 (take i rs) ≤ a + 1 → a ≤ e
    → L ≡ take i rs ++ (ranges_to a (drop i rs) ++ ranges_from e (drop i rs)) → L ≡ ranges_to a rs ++ ranges_from e rs
clear_between rs L i a e apart below ordered is =
    is ∙ sym (append_assoc (take i rs) (ranges_to a (drop i rs)) (ranges_from e (drop i rs)))
    ∙ ap (λ zs. zs ++ ranges_from e (drop i rs)) (sym (to_skips rs 0 i a apart below))
    ∙ ap (λ zs. ranges_to a rs ++ zs) (sym (from_skips rs 0 i e apart (omega (arith, below))))

pub clear_past : (rs : List Range) (i a e : ℕ) → AreApart 0 rs → length rs ≤ i → after 0 (take i rs) ≤ a + 1 → a ≤ e
    → rs ≡ ranges_to a rs ++ ranges_from e rs
clear_past rs i a e apart h below ordered =
    clear_between rs rs i a e apart below ordered
    (sym (ap (λ zs. take i rs ++ (ranges_to a zs ++ ranges_from e zs)) (drop_all i rs h) ∙ append-nil (take i rs)
    ∙ take_all i rs h))

pub clear_split : (rs L : List Range) (i a e : ℕ) (d : Range) → AreApart 0 rs
    → i < length rs → after 0 (take i rs) ≤ a + 1 → (get_or rs i d).start < a → a < e → e < end_of (get_or rs i d)
    → L ≡ take i rs ++ range_to a (get_or rs i d) ∷ range_from e (get_or rs i d) ∷ drop (i + 1) rs
    → L ≡ ranges_to a rs ++ ranges_from e rs
clear_split rs L i a e d apart h below low ordered high is =
    let r = get_or rs i d in
    let D = drop (i + 1) rs in
    let to : ranges_to a (drop i rs) ≡ range_to a r ∷ [] = ap (ranges_to a) (drop_more rs i d h)
    ∙ to_cut r D a low (omega arith) in
    let from_ : ranges_from e (drop i rs) ≡ range_from e r ∷ D = ap (ranges_from e) (drop_more rs i d h)
    ∙ from_cut r D e (omega arith) high in
    clear_between rs L i a e apart below (omega arith) (is ∙ ap (λ zs. take i rs ++ (range_to a r ∷ zs)) (sym from_)
    ∙ ap (λ zs. take i rs ++ (zs ++ ranges_from e (drop i rs))) (sym to))
