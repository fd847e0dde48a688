-- Which lines may stand after which.
use Rattle.std.proofs.Common.{◌≡◌, ◌≢◌, ◌⊎◌, inl, inr, ◌==◌, Bool, true, false, List, [], ◌∷◌}
use Rattle.std.proofs.Common.{◌++◌, refl, ap, sym, ◌∙◌, arith, append_assoc, append-nil, subst}
use Rattle.std.specs.Prelude.{All, not, ◌&&◌, if◌then◌else◌}
use Rattle.std.specs.List.{flat_map}
use Rattle.std.proofs.lemmas.Bool.{and_parts}
use Rattle.std.proofs.lemmas.Bool.Decides.{nat_tests}
use Rattle.std.proofs.lemmas.Grind.{flat_map-append}
use Rattle.std.proofs.lemmas.List.Elements.{All-cons, All-nil, All-head, All-tail}
use Rattle.br_image.specs.declared.scripts.lines.Form.{Form}
use Rattle.br_image.specs.declared.scripts.lines.Form.TheVariants as form
use Rattle.br_image.specs.declared.scripts.lines.ScriptLine.{ScriptLine}
use Rattle.br_image.specs.declared.scripts.lines.ScriptLine.TheVariants.{Run, Interp, Call, Args, Mem}
use Rattle.br_image.specs.declared.scripts.lines.ScriptLine.TheVariants.{Junk, Choose, Answer, Limit, End}
use Rattle.br_image.specs.declared.scripts.order.Part.{Part}
use Rattle.br_image.specs.declared.scripts.order.Part.TheVariants.{One, Many}
use Rattle.br_image.specs.ScriptLines.{form_of}
use Rattle.br_image.specs.Scripts.{run_parts, interp_parts, Fits}
use Rattle.br_image.specs.ScriptReading.{Leaves}
use Rattle.br_image.specs.Said.{AreSound}
use Rattle.br_image.proofs.ScriptForms.{form_number, form_number-injective, same_form}

IsForm : Form → ScriptLine → Type 0
IsForm f l = form_of l ≡ f

-- no part has this form
abbrev pub Without : Form → List Part → Type 0
Without f parts = All (λ p. (p ≢ One f) × (p ≢ Many f)) parts

fits_same : (ps qs : List Part) (lines : List ScriptLine) → ps ≡ qs → Fits ps lines → Fits qs lines
fits_same ps qs lines e h = subst (λ p. Fits p lines) e h

fits_lines : (ps : List Part) (ls ms : List ScriptLine) → ls ≡ ms → Fits ps ls → Fits ps ms
fits_lines ps ls ms e h = subst (λ x. Fits ps x) e h

-- ---- one line

pub leaves_fits : (ps : List Part) (f : Form) (qs : List Part) (l : ScriptLine) (more : List ScriptLine)
    → Leaves ps f qs → form_of l ≡ f → Fits qs more → Fits ps (l ∷ more)
leaves_fits [] f qs l more h k fit = absurd h
leaves_fits (One own ∷ ps) f qs l more h k fit = (l, more, refl, k ∙ sym h.0, fits_same qs ps more h.1 fit)
leaves_fits (Many own ∷ ps) f qs l more (inl h) k fit =
    let own_fit = fits_same qs (Many own ∷ ps) more h.1 fit in (
      l ∷ own_fit.0,
      own_fit.1,
      ap (λ t. l ∷ t) own_fit.2,
      All-cons (λ x. form_of x ≡ own) l own_fit.0 (k ∙ sym h.0) own_fit.3,
      own_fit.4,
    )
leaves_fits (Many own ∷ ps) f qs l more (inr h) k fit =
    ([], l ∷ more, refl, All-nil (λ x. form_of x ≡ own), leaves_fits ps f qs l more h.1 k fit)

no_leaves : (ps : List Part) (f : Form) (qs : List Part) → Without f ps → Leaves ps f qs → ⊥
no_leaves [] f qs all h = h
no_leaves (One own ∷ ps) f qs all h = (All-head (λ p. (p ≢ One f) × (p ≢ Many f)) (One own) ps all).0 (ap One h.0)
no_leaves (Many own ∷ ps) f qs all (inl h) =
    (All-head (λ p. (p ≢ One f) × (p ≢ Many f)) (Many own) ps all).1 (ap Many h.0)
no_leaves (Many own ∷ ps) f qs all (inr h) =
    no_leaves ps f qs (All-tail (λ p. (p ≢ One f) × (p ≢ Many f)) (Many own) ps all) h.1

abbrev pub Taken : List Part → ScriptLine → List ScriptLine → Type 0
Taken ps l more = (qs : List Part) × Leaves ps (form_of l) qs × AreSound qs × Fits qs more

many_leaves : (own : Form) (ps : List Part) → AreSound (Many own ∷ ps) → (l : ScriptLine) (more : List ScriptLine)
    → (Fits ps (l ∷ more) → Taken ps l more)
    → (os rest : List ScriptLine) → l ∷ more ≡ os ++ rest → All (λ x. form_of x ≡ own) os → Fits ps rest
    → Taken (Many own ∷ ps) l more
many_leaves own ps sound l more ih [] rest e all fit =
    let t = ih (fits_lines ps rest (l ∷ more) (sym e) fit) in
    (t.0, inr ((λ same. no_leaves ps own t.0 sound.1 (subst (λ f. Leaves ps f t.0) (sym same) t.1)), t.1), t.2, t.3)
many_leaves own ps sound l more ih (o ∷ os) rest e all fit =
    let P : ScriptLine → Type 0 = λ x. form_of x ≡ own in
    let head : l ≡ o = cc in
    let tail : more ≡ os ++ rest = cc in (
      Many own ∷ ps,
      inl (sym (ap form_of head ∙ All-head P o os all), refl),
      sound,
      (os, rest, tail, All-tail P o os all, fit),
    )

pub fits_leaves : (ps : List Part) → AreSound ps → (l : ScriptLine) (more : List ScriptLine) → Fits ps (l ∷ more)
    → Taken ps l more
fits_leaves [] sound l more fit = absurd cc
fits_leaves (One own ∷ ps) sound l more fit =
    let e = fit.2 in
    let head : l ≡ fit.0 = cc in
    let tail : more ≡ fit.1 = cc in
    (ps, (sym (ap form_of head ∙ fit.3), refl), sound, fits_lines ps fit.1 more (sym tail) fit.4)
fits_leaves (Many own ∷ ps) sound l more fit =
    many_leaves own ps sound l more (fits_leaves ps sound.2 l more) fit.0 fit.1 fit.2 fit.3 fit.4

leaves_sound : (ps : List Part) (f : Form) (qs : List Part) → AreSound ps → Leaves ps f qs → AreSound qs
leaves_sound [] f qs s h = absurd h
leaves_sound (One own ∷ ps) f qs s h = subst (λ p. AreSound p) (sym h.1) s
leaves_sound (Many own ∷ ps) f qs s (inl h) = subst (λ p. AreSound p) (sym h.1) s
leaves_sound (Many own ∷ ps) f qs s (inr h) = leaves_sound ps f qs s.2 h.1

leaves_same : (ps : List Part) (f : Form) (qs rs : List Part) → Leaves ps f qs → Leaves ps f rs → qs ≡ rs
leaves_same [] f qs rs a b = absurd a
leaves_same (One own ∷ ps) f qs rs a b = a.1 ∙ sym b.1
leaves_same (Many own ∷ ps) f qs rs (inl a) (inl b) = a.1 ∙ sym b.1
leaves_same (Many own ∷ ps) f qs rs (inl a) (inr b) = absurd (b.0 a.0)
leaves_same (Many own ∷ ps) f qs rs (inr a) (inl b) = absurd (a.0 b.0)
leaves_same (Many own ∷ ps) f qs rs (inr a) (inr b) = leaves_same ps f qs rs a.1 b.1

pub leaves_or_not : (ps : List Part) (f : Form)
    → ((qs : List Part) × Leaves ps f qs) ⊎ ((qs : List Part) → ¬ Leaves ps f qs)
leaves_or_not [] f = inr (λ qs h. h)
leaves_or_not (One own ∷ ps) f = elim (same_form own f) [
  | inl same ↦ inl (ps, (same, refl))
  | inr other ↦ inr (λ qs h. other h.0)
]
leaves_or_not (Many own ∷ ps) f = elim (same_form own f) [
  | inl same ↦ inl (Many own ∷ ps, inl (same, refl))
  | inr other ↦ elim (leaves_or_not ps f) [
    | inl found ↦ inl (found.0, inr (other, found.1))
    | inr none ↦ inr (λ qs h. elim h [
      | inl a ↦ other a.0
      | inr b ↦ none qs b.1
    ])
  ]
]

-- ---- no line

rest_empty : (own rest : List ScriptLine) → [] ≡ own ++ rest → rest ≡ []
rest_empty [] rest e = sym e
rest_empty (x ∷ own) rest e = absurd cc

pub nothing_left : (ps : List Part) → AreSound ps → Fits ps [] → ps ≡ []
nothing_left [] sound fit = refl
nothing_left (One own ∷ ps) sound fit = let e = fit.2 in absurd cc
nothing_left (Many own ∷ ps) sound fit =
    absurd (sound.0 (nothing_left ps sound.2 (fits_lines ps fit.1 [] (rest_empty fit.0 fit.1 fit.2) fit.4)))

sample : (f : Form) → (l : ScriptLine) × (form_of l ≡ f)
sample form.Run = (Run, refl)
sample form.Interp = (Interp, refl)
sample form.Call = (Call [], refl)
sample form.Args = (Args [], refl)
sample form.Mem = (Mem (record { addr = 0; bytes = [] }), refl)
sample form.Junk = (Junk 0, refl)
sample form.Choose = (Choose (record { addr = 0; bytes = [] }), refl)
sample form.Answer = (Answer 0 0, refl)
sample form.Limit = (Limit 0, refl)
sample form.End = (End, refl)

-- parts have lines that fit them
complete : (ps : List Part) → (lines : List ScriptLine) × Fits ps lines
complete [] = ([], refl)
complete (One f ∷ ps) = let s = sample f in let c = complete ps in (s.0 ∷ c.0, (s.0, c.0, refl, s.1, c.1))
complete (Many f ∷ ps) = let c = complete ps in (c.0, ([], c.0, refl, All-nil (λ x. form_of x ≡ f), c.1))

-- ---- the parts that are left after some lines

pub record Left (ps : List Part) (before : List ScriptLine) (qs : List Part) : Type 0 where
  pub forth : (more : List ScriptLine) → Fits qs more → Fits ps (before ++ more)
  pub back : (more : List ScriptLine) → Fits ps (before ++ more) → Fits qs more
  pub sound : AreSound qs

pub left_none : (ps : List Part) → AreSound ps → Left ps [] ps
left_none ps sound = record { forth = λ more h. h; back = λ more h. h; sound = sound }

pub left_more : (ps : List Part) (before : List ScriptLine) (qs rs : List Part) (l : ScriptLine) → Left ps before qs
    → Leaves qs (form_of l) rs → Left ps (before ++ l ∷ []) rs
left_more ps before qs rs l h k = record {
  forth = λ more fit.
      fits_lines ps (before ++ l ∷ more) ((before ++ l ∷ []) ++ more) (sym (append_assoc before (l ∷ []) more))
      (h.forth (l ∷ more) (leaves_fits qs (form_of l) rs l more k refl fit));
  back = λ more fit.
      let taken = fits_leaves qs h.sound l more (h.back (l ∷ more)
      (fits_lines ps ((before ++ l ∷ []) ++ more) (before ++ l ∷ more) (append_assoc before (l ∷ []) more) fit)) in
      fits_same taken.0 rs more (leaves_same qs (form_of l) taken.0 rs taken.1 k) taken.3;
  sound = leaves_sound qs (form_of l) rs h.sound k;
}

left_front : (ps qs rs : List Part) (l : ScriptLine) (ls : List ScriptLine) → AreSound ps → Leaves ps (form_of l) qs
    → Left qs ls rs → Left ps (l ∷ ls) rs
left_front ps qs rs l ls sound k h = record {
  forth = λ more fit. leaves_fits ps (form_of l) qs l (ls ++ more) k refl (h.forth more fit);
  back = λ more fit.
      let taken = fits_leaves ps sound l (ls ++ more) fit in
      h.back more (fits_same taken.0 qs (ls ++ more) (leaves_same ps (form_of l) taken.0 qs taken.1 k) taken.3);
  sound = h.sound;
}

pub left_of : (ps : List Part) → AreSound ps → (ls ms : List ScriptLine) → Fits ps (ls ++ ms)
    → (qs : List Part) × Left ps ls qs × Fits qs ms
left_of ps sound [] ms fit = (ps, left_none ps sound, fit)
left_of ps sound (l ∷ ls) ms fit =
    let taken = fits_leaves ps sound l (ls ++ ms) fit in
    let rest = left_of taken.0 taken.2 ls ms taken.3 in
    (rest.0, left_front ps taken.0 rest.0 l ls sound taken.1 rest.1, rest.2)

-- lines that leave parts are those that a script begins with
pub left_begins : (ps : List Part) (before : List ScriptLine) (qs : List Part) → Left ps before qs
    → (more : List ScriptLine) × Fits ps (before ++ more)
left_begins ps before qs h = let c = complete qs in (c.0, h.forth c.0 c.1)

pub left_going : (ps : List Part) (before : List ScriptLine) (qs : List Part) → Left ps before qs → qs ≢ []
    → Fits ps before → ⊥
left_going ps before qs h some fit =
    some (nothing_left qs h.sound (h.back [] (fits_lines ps before (before ++ []) (sym (append-nil before)) fit)))

pub left_whole : (ps : List Part) (before : List ScriptLine) (qs : List Part) → Left ps before qs → qs ≡ []
    → Fits ps before
left_whole ps before qs h none =
    fits_lines ps (before ++ []) before (append-nil before) (h.forth [] (subst (λ p. Fits p []) (sym none) refl))

-- ---- what stands in one line alone

differs : (a b : Form) → not (form_number a == form_number b) ≡ true → a ≢ b
differs a b h e = let n : form_number a ≡ form_number b = ap form_number e in grind (arith, nat_tests)

abbrev pub without_test : Form → List Part → Bool
without_test f [] = true
without_test f (One own ∷ ps) = not (form_number own == form_number f) && without_test f ps
without_test f (Many own ∷ ps) = not (form_number own == form_number f) && without_test f ps

without_from : (f : Form) (ps : List Part) → without_test f ps ≡ true → Without f ps
without_from f [] h = All-nil (λ p. (p ≢ One f) × (p ≢ Many f))
without_from f (One own ∷ ps) h =
    let parts = and_parts (not (form_number own == form_number f)) (without_test f ps) h in
    let other = differs own f parts.0 in
    All-cons (λ p. (p ≢ One f) × (p ≢ Many f)) (One own) ps ((λ e. other cc), (λ e. absurd cc))
    (without_from f ps parts.1)
without_from f (Many own ∷ ps) h =
    let parts = and_parts (not (form_number own == form_number f)) (without_test f ps) h in
    let other = differs own f parts.0 in
    All-cons (λ p. (p ≢ One f) × (p ≢ Many f)) (Many own) ps ((λ e. absurd cc), (λ e. other cc))
    (without_from f ps parts.1)

pub run_sound : AreSound run_parts
run_sound = (
  (λ e. absurd cc),
  without_from form.Mem (One form.Junk ∷ Many form.Answer ∷ One form.Limit ∷ One form.End ∷ []) refl,
  ((λ e. absurd cc), without_from form.Answer (One form.Limit ∷ One form.End ∷ []) refl, tt),
)

pub interp_sound : AreSound interp_parts
interp_sound = (
  (λ e. absurd cc),
  without_from form.Mem (Many form.Choose ∷ Many form.Answer ∷ One form.Limit ∷ One form.End ∷ []) refl,
  (
    (λ e. absurd cc),
    without_from form.Choose (Many form.Answer ∷ One form.Limit ∷ One form.End ∷ []) refl,
    ((λ e. absurd cc), without_from form.Answer (One form.Limit ∷ One form.End ∷ []) refl, tt),
  ),
)

-- one part alone has this form, and it is one line
abbrev pub Once : Form → List Part → Type 0
Once f [] = ⊥
Once f (One own ∷ ps) = ((own ≡ f) × Without f ps) ⊎ ((own ≢ f) × Once f ps)
Once f (Many own ∷ ps) = (own ≢ f) × Once f ps

abbrev pub once_test : Form → List Part → Bool
once_test f [] = false
once_test f (One own ∷ ps) = if form_number own == form_number f then without_test f ps else once_test f ps
once_test f (Many own ∷ ps) = not (form_number own == form_number f) && once_test f ps

once_by : (f own : Form) (ps : List Part) → (own ≡ f) ⊎ (own ≢ f) → (once_test f ps ≡ true → Once f ps)
    → (if form_number own == form_number f then without_test f ps else once_test f ps) ≡ true → Once f (One own ∷ ps)
once_by f own ps (inl same) ih h =
    let P : Form → Type 0 =
    λ g. (if form_number g == form_number f then without_test f ps else once_test f ps) ≡ true in
    let own_test = subst P same h in
    inl (same, without_from f ps (let e : without_test f ps ≡ true = grind (arith, nat_tests) in e))
once_by f own ps (inr other) ih h =
    inr (
      other,
      ih (let n : form_number own ≢ form_number f = (λ e. other (form_number-injective own f e)) in
          let e : once_test f ps ≡ true = grind (arith, nat_tests) in e),
    )

pub once_from : (f : Form) (ps : List Part) → once_test f ps ≡ true → Once f ps
once_from f [] h = absurd cc
once_from f (One own ∷ ps) h = once_by f own ps (same_form own f) (once_from f ps) h
once_from f (Many own ∷ ps) h =
    let parts = and_parts (not (form_number own == form_number f)) (once_test f ps) h in
    (differs own f parts.0, once_from f ps parts.1)

-- lines of another form say nothing here
other_lines : {X : Type 0} (say : ScriptLine → List X) (f own : Form)
    → ((l : ScriptLine) → form_of l ≢ f → say l ≡ []) → own ≢ f
    → (lines : List ScriptLine) → All (λ x. form_of x ≡ own) lines → flat_map say lines ≡ []
other_lines say f own none h [] all = refl
other_lines say f own none h (l ∷ lines) all =
    let P : ScriptLine → Type 0 = λ x. form_of x ≡ own in
    let first = none l (λ e. h (sym (All-head P l lines all) ∙ e)) in
    let rest = other_lines say f own none h lines (All-tail P l lines all) in
    ap (λ t. t ++ flat_map say lines) first ∙ rest

said_nothing : {X : Type 0} (say : ScriptLine → List X) (f : Form) → ((l : ScriptLine) → form_of l ≢ f → say l ≡ [])
    → (ps : List Part) (lines : List ScriptLine) → Without f ps → Fits ps lines → flat_map say lines ≡ []
said_nothing say f none [] lines all fit = ap (flat_map say) fit
said_nothing say f none (One own ∷ ps) lines all fit =
    let P : Part → Type 0 = λ p. (p ≢ One f) × (p ≢ Many f) in
    let other : own ≢ f = (λ e. (All-head P (One own) ps all).0 (ap One e)) in
    let first = none fit.0 (λ e. other (sym fit.3 ∙ e)) in
    ap (flat_map say) fit.2 ∙ (ap (λ t. t ++ flat_map say fit.1) first
    ∙ said_nothing say f none ps fit.1 (All-tail P (One own) ps all) fit.4)
said_nothing say f none (Many own ∷ ps) lines all fit =
    let P : Part → Type 0 = λ p. (p ≢ One f) × (p ≢ Many f) in
    let other : own ≢ f = (λ e. (All-head P (Many own) ps all).1 (ap Many e)) in
    ap (flat_map say) fit.2 ∙ (flat_map-append say fit.0 fit.1
    ∙ (ap (λ t. t ++ flat_map say fit.1) (other_lines say f own none other fit.0 fit.3)
    ∙ said_nothing say f none ps fit.1 (All-tail P (Many own) ps all) fit.4))

-- what one line alone says
pub said_once : {X : Type 0} (say : ScriptLine → List X) (f : Form) → ((l : ScriptLine) → form_of l ≢ f → say l ≡ [])
    → ((l : ScriptLine) → form_of l ≡ f → (x : X) × (say l ≡ x ∷ []))
    → (ps : List Part) (lines : List ScriptLine) → Once f ps → Fits ps lines → (x : X) × (flat_map say lines ≡ x ∷ [])
said_once say f none one [] lines h fit = absurd h
said_once say f none one (One own ∷ ps) lines (inl h) fit =
    let x = one fit.0 (fit.3 ∙ h.0) in (
      x.0,
      ap (flat_map say) fit.2
          ∙ (ap (λ t. t ++ flat_map say fit.1) x.1 ∙ ap (λ t. x.0 ∷ t) (said_nothing say f none ps fit.1 h.1 fit.4)),
    )
said_once say f none one (One own ∷ ps) lines (inr h) fit =
    let first = none fit.0 (λ e. h.0 (sym fit.3 ∙ e)) in
    let rest = said_once say f none one ps fit.1 h.1 fit.4 in
    (rest.0, ap (flat_map say) fit.2 ∙ (ap (λ t. t ++ flat_map say fit.1) first ∙ rest.1))
said_once say f none one (Many own ∷ ps) lines h fit =
    let rest = said_once say f none one ps fit.1 h.1 fit.4 in (
      rest.0,
      ap (flat_map say) fit.2 ∙ (flat_map-append say fit.0 fit.1
          ∙ (ap (λ t. t ++ flat_map say fit.1) (other_lines say f own none h.0 fit.0 fit.3) ∙ rest.1)),
    )
