-- A text of lines is told in one way, or has one fault.
use Rattle.std.proofs.Common.{◌≡◌, ◌≢◌, ◌⊎◌, inl, inr, ℕ, zero, suc, ◌+◌, ◌<◌, List, [], ◌∷◌, ◌++◌, refl}
use Rattle.std.proofs.Common.{ap, sym, ◌∙◌, arith, append_assoc, append-nil, length-append, subst, length}
use Rattle.std.specs.Prelude.{All}
use Rattle.std.proofs.lemmas.List.Elements.{All-head, All-tail}
use Rattle.br_image.specs.Text.{line}
use Rattle.br_image.specs.TextLines.{lines_text, IsWrongLine, IsCutOff}
use Rattle.br_image.proofs.Pieces.{Free, Free-not, Free-lacks, Lacks-free, cut}
use Rattle.br_image.proofs.Deciding.{cut_at}

-- what holds of the lines of one kind of text
pub record Telling {L : Type 0} (content : L → List ℕ) (IsOwn : L → Type 0) (S W : List L → Type 0) : Type 0 where
  pub free : (l : L) → IsOwn l → Free 10 (content l)
  pub same : (l m : L) → IsOwn l → IsOwn m → content l ≡ content m → l ≡ m
  pub forms : (ls : List L) → S ls → All IsOwn ls
  pub fewer : (ls ms : List L) → S (ls ++ ms) → S ls
  pub ended : (ls : List L) (l : L) → W ls → S (ls ++ l ∷ []) → ⊥

regroup : (t v r : List ℕ) → (line t ++ v) ++ r ≡ t ++ 10 ∷ (v ++ r)
regroup t v r = simp append_assoc

pub lines_text-append : {L : Type 0} (content : L → List ℕ) (ls ms : List L)
    → lines_text content (ls ++ ms) ≡ lines_text content ls ++ lines_text content ms
lines_text-append content [] ms = refl
lines_text-append content (l ∷ ls) ms =
    ap (λ t. line (content l) ++ t) (lines_text-append content ls ms)
    ∙ sym (append_assoc (line (content l)) (lines_text content ls) (lines_text content ms))

pub lines_text-one : {L : Type 0} (content : L → List ℕ) (ls : List L) (l : L) (rest : List ℕ)
    → lines_text content ls ++ (line (content l) ++ rest) ≡ lines_text content (ls ++ l ∷ []) ++ rest
lines_text-one content ls l rest =
    let split = lines_text-append content ls (l ∷ []) in
    let one : lines_text content (l ∷ []) ≡ line (content l) = append-nil (line (content l)) in
    sym (append_assoc (lines_text content ls) (line (content l)) rest)
    ∙ ap (λ t. t ++ rest) (ap (λ t. lines_text content ls ++ t) (sym one) ∙ sym split)

-- one list of lines begins the other
abbrev Begins : {L : Type 0} → (L → List ℕ) → List L → List L → List ℕ → List ℕ → Type 0
Begins {L = L} content ls ms r s = (more : List L) × (ms ≡ ls ++ more) × (r ≡ lines_text content more ++ s)

lines_begin : {L : Type 0} (content : L → List ℕ) (IsOwn : L → Type 0) (S W : List L → Type 0)
    → Telling content IsOwn S W → (ls ms : List L) (r s : List ℕ)
    → All IsOwn ls → All IsOwn ms → lines_text content ls ++ r ≡ lines_text content ms ++ s
    → Begins content ls ms r s ⊎ Begins content ms ls s r
lines_begin content IsOwn S W t [] ms r s h k e = inl (ms, refl, e)
lines_begin content IsOwn S W t (l ∷ ls) [] r s h k e = inr (l ∷ ls, refl, sym e)
lines_begin content IsOwn S W t (l ∷ ls) (m ∷ ms) r s h k e =
    let regrouped = sym (regroup (content l) (lines_text content ls) r)
    ∙ (e ∙ regroup (content m) (lines_text content ms) s) in
    let parts = cut 10 (content l) (content m) (lines_text content ls ++ r) (lines_text content ms ++ s)
    (t.free l (All-head IsOwn l ls h)) (t.free m (All-head IsOwn m ms k)) regrouped in
    let same : l ≡ m = t.same l m (All-head IsOwn l ls h) (All-head IsOwn m ms k) parts.0 in
    elim (lines_begin content IsOwn S W t ls ms r s (All-tail IsOwn l ls h) (All-tail IsOwn m ms k) parts.1) [
      | inl b ↦ inl (b.0, (let tail = b.1 in cc), b.2)
      | inr b ↦ inr (b.0, (let tail = b.1 in cc), b.2)
    ]

-- the text begins with these lines, and no line may follow them
record Stops {L : Type 0} (content : L → List ℕ) (S : List L → Type 0) (text : List ℕ) (before : List L)
    (rest : List ℕ) : Type 0 where
  spelled : text ≡ lines_text content before ++ rest
  stand : S before
  stuck : (l : L) (more : List ℕ) → rest ≡ line (content l) ++ more → S (before ++ l ∷ []) → ⊥

stops_before : {L : Type 0} (content : L → List ℕ) (IsOwn : L → Type 0) (S W : List L → Type 0)
    → Telling content IsOwn S W → (text : List ℕ) (before after : List L) (rest rest' : List ℕ) (more : List L)
    → Stops content S text before rest → Stops content S text after rest' → after ≡ before ++ more
    → rest ≡ lines_text content more ++ rest' → (before ≡ after) × (rest ≡ rest')
stops_before content IsOwn S W t text before after rest rest' [] h k e f = (sym (e ∙ append-nil before), f)
stops_before content IsOwn S W t text before after rest rest' (l ∷ more) h k e f =
    let longer : S ((before ++ l ∷ []) ++ more) = subst S (e ∙ sym (append_assoc before (l ∷ []) more)) k.stand in
    absurd (h.stuck l (lines_text content more ++ rest')
    (f ∙ append_assoc (line (content l)) (lines_text content more) rest') (t.fewer (before ++ l ∷ []) more longer))

stops_same : {L : Type 0} (content : L → List ℕ) (IsOwn : L → Type 0) (S W : List L → Type 0)
    → Telling content IsOwn S W → (text : List ℕ) (before after : List L) (rest rest' : List ℕ)
    → Stops content S text before rest → Stops content S text after rest' → (before ≡ after) × (rest ≡ rest')
stops_same content IsOwn S W t text before after rest rest' h k =
    elim (lines_begin content IsOwn S W t before after rest rest' (t.forms before h.stand) (t.forms after k.stand)
    (sym h.spelled ∙ k.spelled)) [
      | inl b ↦ stops_before content IsOwn S W t text before after rest rest' b.0 h k b.1 b.2
      | inr b ↦ let same = stops_before content IsOwn S W t text after before rest' rest b.0 k h b.1 b.2 in
          (sym same.0, sym same.1)
    ]

-- ---- each fault is where the lines stop

spread : (bytes more : List ℕ) → line bytes ++ more ≡ bytes ++ 10 ∷ more
spread bytes more = append_assoc bytes (10 ∷ []) more

not_free : (rest bytes more : List ℕ) → Free 10 rest → rest ≡ line bytes ++ more → ⊥
not_free rest bytes more h e =
    let P : List ℕ → Type 0 = λ t. Free 10 t in
    Free-not 10 bytes more (subst P (e ∙ spread bytes more) h)

last_own : {L : Type 0} (P : L → Type 0) (ls : List L) (l : L) → All P (ls ++ l ∷ []) → P l
last_own P [] l h = All-head P l [] h
last_own P (x ∷ ls) l h = last_own P ls l (All-tail P x (ls ++ l ∷ []) h)

wrong_stops : {L : Type 0} (content : L → List ℕ) (IsOwn : L → Type 0) (S W : List L → Type 0)
    → Telling content IsOwn S W → (text : List ℕ) (n : ℕ) (w : IsWrongLine content S W text n)
    → Stops content S text w.before (line w.bytes ++ w.rest)
wrong_stops content IsOwn S W t text n w = record {
  spelled = w.goes_on.spelled;
  stand = w.goes_on.stand;
  stuck = λ l more e s.
      let own = last_own IsOwn w.before l (t.forms (w.before ++ l ∷ []) s) in
      let same = cut 10 w.bytes (content l) w.rest more (Free-lacks 10 w.bytes w.single) (t.free l own)
      (sym (spread w.bytes w.rest) ∙ (e ∙ spread (content l) more)) in
      w.wrong l s same.0;
}

cut_stops : {L : Type 0} (content : L → List ℕ) (S W : List L
    → Type 0) (text : List ℕ) (n : ℕ) (w : IsCutOff content S W text n) → Stops content S text w.before w.rest
cut_stops content S W text n w = record {
  spelled = w.goes_on.spelled;
  stand = w.goes_on.stand;
  stuck = λ l more e s. not_free w.rest (content l) more (Free-lacks 10 w.rest w.cut_off) e;
}

-- the text begins with these lines, which are the whole
pub record Whole {L : Type 0} (content : L → List ℕ) (S W : List L → Type 0) (text : List ℕ) (lines : List L)
    (rest : List ℕ) : Type 0 where
  pub spelled : text ≡ lines_text content lines ++ rest
  pub stand : S lines
  pub whole : W lines

whole_stops : {L : Type 0} (content : L → List ℕ) (IsOwn : L → Type 0) (S W : List L → Type 0)
    → Telling content IsOwn S W → (text : List ℕ) (lines : List L) (rest : List ℕ)
    → Whole content S W text lines rest → Stops content S text lines rest
whole_stops content IsOwn S W t text lines rest w =
    record { spelled = w.spelled; stand = w.stand; stuck = λ l more e s. t.ended lines l w.whole s }

-- ---- one answer for each text

number_same : {L : Type 0} (before after : List L) (m n : ℕ) → m ≡ length before + 1 → n ≡ length after + 1
    → before ≡ after → m ≡ n
number_same before after m n h k e = h ∙ (ap (λ ls. length ls + 1) e ∙ sym k)

pub wrong_same : {L : Type 0} (content : L → List ℕ) (IsOwn : L → Type 0) (S W : List L → Type 0)
    → Telling content IsOwn S W → (text : List ℕ) (m n : ℕ)
    → IsWrongLine content S W text m → IsWrongLine content S W text n → m ≡ n
wrong_same content IsOwn S W t text m n a b =
    let same = stops_same content IsOwn S W t text a.before b.before _ _ (wrong_stops content IsOwn S W t text m a)
    (wrong_stops content IsOwn S W t text n b) in
    number_same a.before b.before m n a.goes_on.number b.goes_on.number same.0

pub cut_same : {L : Type 0} (content : L → List ℕ) (IsOwn : L → Type 0) (S W : List L → Type 0)
    → Telling content IsOwn S W → (text : List ℕ) (m n : ℕ)
    → IsCutOff content S W text m → IsCutOff content S W text n → m ≡ n
cut_same content IsOwn S W t text m n a b =
    let same = stops_same content IsOwn S W t text a.before b.before _ _ (cut_stops content S W text m a)
    (cut_stops content S W text n b) in
    number_same a.before b.before m n a.goes_on.number b.goes_on.number same.0

pub cut_rest : {L : Type 0} (content : L → List ℕ) (IsOwn : L → Type 0) (S W : List L → Type 0)
    → Telling content IsOwn S W → (text : List ℕ) (m n : ℕ)
    (a : IsCutOff content S W text m) (b : IsCutOff content S W text n) → (a.before ≡ b.before) × (a.rest ≡ b.rest)
cut_rest content IsOwn S W t text m n a b = stops_same content IsOwn S W t text a.before b.before _ _
    (cut_stops content S W text m a) (cut_stops content S W text n b)

pub wrong_or_cut : {L : Type 0} (content : L → List ℕ) (IsOwn : L → Type 0) (S W : List L → Type 0)
    → Telling content IsOwn S W → (text : List ℕ) (m n : ℕ)
    → IsWrongLine content S W text m → IsCutOff content S W text n → ⊥
wrong_or_cut content IsOwn S W t text m n a b =
    let same = stops_same content IsOwn S W t text a.before b.before _ _ (wrong_stops content IsOwn S W t text m a)
    (cut_stops content S W text n b) in
    not_free b.rest a.bytes a.rest (Free-lacks 10 b.rest b.cut_off) (sym same.1)

pub whole_or_wrong : {L : Type 0} (content : L → List ℕ) (IsOwn : L → Type 0) (S W : List L → Type 0)
    → Telling content IsOwn S W → (text : List ℕ) (lines : List L) (rest : List ℕ) (n : ℕ)
    → Whole content S W text lines rest → IsWrongLine content S W text n → ⊥
whole_or_wrong content IsOwn S W t text lines rest n a b =
    let same = stops_same content IsOwn S W t text lines b.before _ _
    (whole_stops content IsOwn S W t text lines rest a) (wrong_stops content IsOwn S W t text n b) in
    b.goes_on.going (subst W same.0 a.whole)

pub whole_or_cut : {L : Type 0} (content : L → List ℕ) (IsOwn : L → Type 0) (S W : List L → Type 0)
    → Telling content IsOwn S W → (text : List ℕ) (lines : List L) (rest : List ℕ) (n : ℕ)
    → Whole content S W text lines rest → IsCutOff content S W text n → ⊥
whole_or_cut content IsOwn S W t text lines rest n a b =
    let same = stops_same content IsOwn S W t text lines b.before _ _
    (whole_stops content IsOwn S W t text lines rest a) (cut_stops content S W text n b) in
    b.goes_on.going (subst W same.0 a.whole)

pub whole_same : {L : Type 0} (content : L → List ℕ) (IsOwn : L → Type 0) (S W : List L → Type 0)
    → Telling content IsOwn S W → (text : List ℕ) (ls ms : List L) (r s : List ℕ)
    → Whole content S W text ls r → Whole content S W text ms s → (ls ≡ ms) × (r ≡ s)
whole_same content IsOwn S W t text ls ms r s a b =
    stops_same content IsOwn S W t text ls ms r s (whole_stops content IsOwn S W t text ls r a)
    (whole_stops content IsOwn S W t text ms s b)

-- ---- an answer for each text

-- whether a line with these bytes may follow is decided
abbrev pub Decides : {L : Type 0} → (L → List ℕ) → (List L → Type 0) → Type 0
Decides {L = L} content S =
    (before : List L) → S before → (bytes : List ℕ)
    → ((l : L) × S (before ++ l ∷ []) × (bytes ≡ content l)) ⊎ ((l : L) → S (before ++ l ∷ []) → bytes ≢ content l)

abbrev pub Answers : {L : Type 0} → (L → List ℕ) → (List L → Type 0) → (List L → Type 0) → List ℕ → Type 0
Answers {L = L} content S W text =
    ((lines : List L) × (rest : List ℕ) × Whole content S W text lines rest)
    ⊎ (((n : ℕ) × IsWrongLine content S W text n) ⊎ ((n : ℕ) × IsCutOff content S W text n))

pub walk : {L : Type 0} (content : L → List ℕ) (S W : List L → Type 0) → Decides content S
    → ((ls : List L) → S ls → W ls ⊎ (W ls → ⊥))
    → (fuel : ℕ) (text : List ℕ) (before : List L) (rest : List ℕ) → text ≡ lines_text content before ++ rest → S before
    → length rest < fuel → Answers content S W text
walk content S W decide whole zero text before rest e s enough = absurd (omega arith)
walk content S W decide whole (suc fuel) text before rest e s enough =
    elim (whole before s) [
      | inl all ↦ inl (before, rest, record { spelled = e; stand = s; whole = all })
      | inr going ↦ elim (cut_at 10 rest) [
        | inl none ↦ inr (inr (
          length before + 1,
          record {
            before = before;
            rest = rest;
            goes_on =
                record { number = refl; spelled = e; stand = s; going = going };
            cut_off = Lacks-free 10 rest none;
          },
        ))
        | inr found ↦
            let there : rest ≡ line found.0 ++ found.1 = found.3 ∙ sym (spread found.0 found.1) in
            elim (decide before s found.0) [
              | inr wrong ↦ inr (inl (
                length before + 1,
                record {
                  before = before;
                  bytes = found.0;
                  rest = found.1;
                  goes_on = record {
                    number = refl;
                    spelled = e ∙ ap (λ t. lines_text content before ++ t) there;
                    stand = s;
                    going = going;
                  };
                  single = Lacks-free 10 found.0 found.2;
                  wrong = wrong;
                },
              ))
              | inl next ↦
                  let len : length rest ≡ length found.0 + length (10 ∷ found.1) = ap length found.3
                  ∙ length-append found.0 (10 ∷ found.1) in
                  let at : rest ≡ line (content next.0) ++ found.1 = there ∙ ap (λ t. line t ++ found.1) next.2 in
                  walk content S W decide whole fuel text (before ++ next.0 ∷ []) found.1
                  (e ∙ (ap (λ t. lines_text content before ++ t) at ∙ lines_text-one content before next.0 found.1))
                  next.1 (omega arith)
            ]
      ]
    ]
