-- The set of the names of entries.
use Rattle.std.proofs.Common.{◌≡◌, ◌⊎◌, inl, inr, ℕ, ◌+◌, Bool, true, false, List, [], ◌∷◌, ◌++◌}
use Rattle.std.proofs.Common.{refl, ap, sym, ◌∙◌, arith, subst, length, length-append, get_or}
use Rattle.std.specs.Prelude.{Any, not, cond}
use Rattle.std.specs.Global.{Vec}
use Rattle.std.specs.declared.cmp.Ordering.{Ordering}
use Rattle.std.specs.declared.cmp.Ordering.TheVariants.{Less, Equal, Greater}
use Rattle.std.specs.Cmp.{nat_cmp_is}
use Rattle.std.specs.Ordering.{is_eq, ordering_then}
use Rattle.std.proofs.lemmas.Bool.{cases_lt}
use Rattle.std.proofs.lemmas.List.{get_or_append_left}
use Rattle.std.specs.BTreeMap.{is_at}
use Rattle.std.specs.Ordering.{nat_cmp}
use Rattle.std.specs.Cmp.Lexicographic.{slice_cmp}
use Rattle.std.specs.BTreeSet.{BTreeSet, contains, Updates}
use Rattle.std.specs.List.{list_any}
use Rattle.br_image.proofs.Order.{get_or_append_at}
use Rattle.br_image.specs.declared.images.Entry.{Entry}

abbrev pub name_cmp : Vec ℕ → Vec ℕ → Ordering
name_cmp x y = slice_cmp nat_cmp x.items y.items

-- the set has the names of these entries and no others
pub record HoldsNames (names : BTreeSet (Vec ℕ)) (es : List Entry) : Type 0 where
  pub there : (q : Vec ℕ) → contains name_cmp names q ≡ true → Any (λ e. e.name ≡ q.items) es
  pub all : (q : Vec ℕ) → Any (λ e. e.name ≡ q.items) es → contains name_cmp names q ≡ true

equal_cmp : (x : ℕ) → nat_cmp x x ≡ Equal
equal_cmp x = sym (nat_cmp_is x x Equal refl)

cmp_equal : (x y : ℕ) → nat_cmp x y ≡ Equal → x ≡ y
cmp_equal x y h =
    elim (cases_lt x y) [
      | inl less ↦ let is = nat_cmp_is x y Less less in absurd cc
      | inr above ↦ elim (cases_lt y x) [
        | inl greater ↦ let is = nat_cmp_is x y Greater greater in absurd cc
        | inr below ↦ omega arith
      ]
    ]

head_equal : (x y : ℕ) (o rest : Ordering) → nat_cmp x y ≡ o → is_eq (ordering_then o rest) ≡ true
    → (x ≡ y) × (is_eq rest ≡ true)
head_equal x y Less rest h e = absurd cc
head_equal x y Equal rest h e = (cmp_equal x y h, e)
head_equal x y Greater rest h e = absurd cc

bytes_equal : (xs ys : List ℕ) → is_eq (slice_cmp nat_cmp xs ys) ≡ true → xs ≡ ys
bytes_equal [] [] h = refl
bytes_equal [] (y ∷ ys) h = absurd cc
bytes_equal (x ∷ xs) [] h = absurd cc
bytes_equal (x ∷ xs) (y ∷ ys) h =
    let parts = head_equal x y (nat_cmp x y) (slice_cmp nat_cmp xs ys) refl h in
    let head = parts.0 in
    let tail = bytes_equal xs ys parts.1 in
    cc

equal_bytes : (xs : List ℕ) → is_eq (slice_cmp nat_cmp xs xs) ≡ true
equal_bytes [] = refl
equal_bytes (x ∷ xs) = rw (equal_cmp x) (equal_bytes xs)

at_name : (x q : Vec ℕ) → x.items ≡ q.items → is_at (name_cmp x) q ≡ true
at_name x q e =
    let P : List ℕ → Type 0 = λ t. is_eq (slice_cmp nat_cmp x.items t) ≡ true in
    subst P e (equal_bytes x.items)

pub names_none : (names : BTreeSet (Vec ℕ)) → names.keys ≡ [] → HoldsNames names []
names_none names none = record {
  there = λ q h.
      let P : List (Vec ℕ) → Type 0 = λ ks. list_any (is_at (name_cmp q)) ks ≡ true in
      let no : false ≡ true = subst P none h in
      absurd cc;
  all = λ q h. let within = h.2 in absurd (omega arith);
}

any_more : (es : List Entry) (x : Entry) (name : List ℕ) → Any (λ e. e.name ≡ name) es
    → Any (λ e. e.name ≡ name) (es ++ x ∷ [])
any_more es x name h =
    let within = h.2 in
    let len : length (es ++ x ∷ []) ≡ length es + 1 = length-append es (x ∷ []) in
    (h.0, h.1, omega arith, get_or_append_left es (x ∷ []) h.1 h.0 within ∙ h.3, h.4)

any_last : (es : List Entry) (x : Entry) (name : List ℕ) → x.name ≡ name → Any (λ e. e.name ≡ name) (es ++ x ∷ [])
any_last es x name h =
    let len : length (es ++ x ∷ []) ≡ length es + 1 = length-append es (x ∷ []) in
    (length es, x, omega arith, get_or_append_at es [] x x, h)

any_split : (es : List Entry) (x : Entry) (name : List ℕ) → Any (λ e. e.name ≡ name) (es ++ x ∷ [])
    → Any (λ e. e.name ≡ name) es ⊎ (x.name ≡ name)
any_split es x name h =
    let within = h.2 in
    let len : length (es ++ x ∷ []) ≡ length es + 1 = length-append es (x ∷ []) in
    elim (cases_lt h.0 (length es)) [
      | inl inside ↦ inl (h.0, h.1, inside, sym (get_or_append_left es (x ∷ []) h.1 h.0 inside) ∙ h.3, h.4)
      | inr last ↦
          let place : h.0 ≡ length es = omega arith in
          let is : get_or (es ++ x ∷ []) h.0 h.1 ≡ x = ap (λ k. get_or (es ++ x ∷ []) k h.1) place
          ∙ get_or_append_at es [] x h.1 in
          inr (ap (λ e. e.name) (sym is ∙ h.3) ∙ h.4)
    ]

by_place : (b : Bool) (x q : Vec ℕ) (rest : Bool) → is_at (name_cmp x) q ≡ b → cond b true rest ≡ true
    → (x.items ≡ q.items) ⊎ (rest ≡ true)
by_place true x q rest h e = inl (bytes_equal x.items q.items h)
by_place false x q rest h e = inr e

both_true : (b : Bool) → cond b true true ≡ true
both_true true = refl
both_true false = refl

pub names_more : (old new : BTreeSet (Vec ℕ)) (es : List Entry) (x : Entry) (key : Vec ℕ) → HoldsNames old es
    → Updates name_cmp old new key true → key.items ≡ x.name
    → HoldsNames new (es ++ x ∷ [])
names_more old new es x key h update same = record {
  there = λ q is.
      elim (by_place (is_at (name_cmp key) q) key q (contains name_cmp old q) refl (sym (update.0 q) ∙ is)) [
        | inl last ↦ any_last es x q.items (sym same ∙ last)
        | inr before ↦ any_more es x q.items (h.there q before)
      ];
  all = λ q any. update.0 q ∙ elim (any_split es x q.items any) [
    | inl before ↦ let there = h.all q before in rw there (both_true (is_at (name_cmp key) q))
    | inr last ↦ let at = at_name key q (same ∙ last) in rw at refl
  ];
}

-- what adding a name answers
pub known : (new there : Bool) → new ≡ not there → new ≡ false → there ≡ true
known new true e h = refl
known new false e h = absurd cc

pub unknown : (new there : Bool) → new ≡ not there → new ≡ true → there ≡ true → ⊥
unknown new true e h k = absurd cc
unknown new false e h k = absurd cc
