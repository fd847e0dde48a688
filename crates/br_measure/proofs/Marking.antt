-- One turn of the search: the last function that is left is taken, and marked where it was not.
use Rattle.std.proofs.Common.{◌≡◌, ℕ, zero, suc, ◌+◌, ◌*◌, ◌<◌, ◌⊎◌, Bool, true, false, ◌||◌, eqb, List, [], ◌∷◌, ◌++◌}
use Rattle.std.proofs.Common.{length, get_or, set, map, refl, sym, ap, ◌∙◌, arith, inl, inr, ⊎_elim}
use Rattle.std.proofs.lemmas.Grind.{common_steps}
use Rattle.std.proofs.lemmas.Bool.{false≢true, cases_eq, or_cases, or_left, or_right, eq-eqb, eqb-true}
use Rattle.std.proofs.lemmas.List.{get_or-set_same, get_or-set_other}
use Rattle.br_measure.specs.Measure.{largest}
use Rattle.br_measure.specs.Table.{row, has, TablePath, Leads, IsTable}
use Rattle.br_measure.proofs.Reach.{has_append, leads_on, path_stays, row_length-le}

-- how many functions are not marked
abbrev pub unseen : List Bool → ℕ
unseen [] = 0
unseen (true ∷ marks) = unseen marks
unseen (false ∷ marks) = unseen marks + 1

pub unseen-set : (marks : List Bool) (g : ℕ) → g < length marks → get_or marks g false ≡ false
    → unseen (set marks g true) + 1 ≡ unseen marks
unseen-set [] g inside new = absurd (omega arith)
unseen-set (true ∷ marks) zero inside new = cc
unseen-set (false ∷ marks) zero inside new = refl
unseen-set (true ∷ marks) (suc g) inside new = unseen-set marks g (omega arith) new
unseen-set (false ∷ marks) (suc g) inside new = ap (λ (n : ℕ). n + 1) (unseen-set marks g (omega arith) new)

pub unmarked : (seen : List Bool) (g : ℕ) (x : Bool) → g < length seen → x ≡ get_or seen g x → x ≡ false
    → get_or seen g false ≡ false
unmarked seen g x inside is new = grind (arith, common_steps)

has_self : (g : ℕ) → has (g ∷ []) g ≡ true
has_self g = or_left (eqb g g) false (eq-eqb g g refl)

has_one : (k g : ℕ) → has (g ∷ []) k ≡ true → k ≡ g
has_one k g h = ⊎_elim (λ e. eqb-true k g e) (λ e. cc) (or_cases (eqb k g) false h)

pub path_within : (t : List (List ℕ)) → IsTable t → (f : ℕ) (hs : List ℕ) (g : ℕ) → TablePath t f hs g → g < length t
path_within t table f [] g path = table f g path
path_within t table f (h ∷ hs) g path = path_within t table h hs g path.1

module _ (t : List (List ℕ)) (f : ℕ) (seen : List Bool) (left rest : List ℕ) (g : ℕ) (popped : left ≡ rest ++ g ∷ [])
  where
    last : has left g ≡ true
    last = ap (λ ns. has ns g) popped ∙ has_append rest (g ∷ []) g ∙ or_right (has rest g) (has (g ∷ []) g) (has_self g)

    front : (k : ℕ) → has rest k ≡ true → has left k ≡ true
    front k h = ap (λ ns. has ns k) popped ∙ has_append rest (g ∷ []) k ∙ or_left (has rest k) (has (g ∷ []) k) h

    split : (k : ℕ) → has left k ≡ true → (has rest k ≡ true) ⊎ (k ≡ g)
    split k h =
        let parts : (has rest k || has (g ∷ []) k) ≡ true = sym (has_append rest (g ∷ []) k)
        ∙ ap (λ ns. has ns k) (sym popped) ∙ h in
        ⊎_elim (λ e. inl e) (λ e. inr (has_one k g e)) (or_cases (has rest k) (has (g ∷ []) k) parts)

    pub popped_within : IsTable t → ((k : ℕ) → has left k ≡ true → Leads t f k) → g < length t
    popped_within table reached = path_within t table f (reached g last).0 g (reached g last).1

    -- where it is marked already
    module _ (known : get_or seen g false ≡ true) where
      pub kept_known : (k : ℕ) → (get_or seen k false || has left k) ≡ true → (get_or seen k false || has rest k) ≡ true
      kept_known k h =
          ⊎_elim (λ e. or_left (get_or seen k false) (has rest k) e)
          (λ e. ⊎_elim (λ r. or_right (get_or seen k false) (has rest k) r)
          (λ (same : k ≡ g). or_left (get_or seen k false) (has rest k) (rw same known)) (split k e))
          (or_cases (get_or seen k false) (has left k) h)

      pub left_known : ((k : ℕ) → has left k ≡ true → Leads t f k) → (k : ℕ) → has rest k ≡ true → Leads t f k
      left_known reached k h = reached k (front k h)

    -- where it is marked now
    module _ (inside : g < length seen) where
      marked : get_or (set seen g true) g false ≡ true
      marked = get_or-set_same seen g true false inside

      marks_other : (k : ℕ) → (k ≡ g → ⊥) → get_or (set seen g true) k false ≡ get_or seen k false
      marks_other k ne = get_or-set_other seen g k true false ne

      pub seen_new : ((k : ℕ) → get_or seen k false ≡ true → Leads t f k) → ((k : ℕ) → has left k ≡ true → Leads t f k)
          → (k : ℕ) → get_or (set seen g true) k false ≡ true → Leads t f k
      seen_new seen_reached left_reached k h =
          ⊎_elim (λ (same : k ≡ g). rw same (left_reached g last)) (λ ne. seen_reached k (sym (marks_other k ne) ∙ h))
          (cases_eq k g)

      pub left_new : ((k : ℕ) → has left k ≡ true → Leads t f k) → (k : ℕ)
          → has (rest ++ row t g) k ≡ true → Leads t f k
      left_new reached k h =
          ⊎_elim (λ e. reached k (front k e)) (λ e. leads_on t f g k (reached g last) e)
          (or_cases (has rest k) (has (row t g) k) (sym (has_append rest (row t g) k) ∙ h))

      more : (k : ℕ) → has rest k ≡ true → (get_or (set seen g true) k false || has (rest ++ row t g) k) ≡ true
      more k h = or_right (get_or (set seen g true) k false) (has (rest ++ row t g) k)
          (has_append rest (row t g) k ∙ or_left (has rest k) (has (row t g) k) h)

      still : (k : ℕ) → get_or seen k false ≡ true → get_or (set seen g true) k false ≡ true
      still k h = ⊎_elim (λ (same : k ≡ g). rw same marked) (λ ne. marks_other k ne ∙ h) (cases_eq k g)

      pub kept_new : (k : ℕ) → (get_or seen k false || has left k) ≡ true
          → (get_or (set seen g true) k false || has (rest ++ row t g) k) ≡ true
      kept_new k h =
          ⊎_elim (λ e. or_left (get_or (set seen g true) k false) (has (rest ++ row t g) k) (still k e))
          (λ e. ⊎_elim (λ r. more k r)
          (λ (same : k ≡ g). or_left (get_or (set seen g true) k false) (has (rest ++ row t g) k) (rw same marked))
          (split k e))
          (or_cases (get_or seen k false) (has left k) h)

      pub closed_new : ((h : ℕ) → get_or seen h false ≡ true → (k : ℕ) → has (row t h) k ≡ true
          → (get_or seen k false || has left k) ≡ true)
          → (h : ℕ) → get_or (set seen g true) h false ≡ true → (k : ℕ) → has (row t h) k ≡ true
          → (get_or (set seen g true) k false || has (rest ++ row t g) k) ≡ true
      closed_new closed h marks k call =
          ⊎_elim
          (λ (same : h ≡ g).
          let here : has (row t g) k ≡ true = ap (λ (n : ℕ). has (row t n) k) (sym same) ∙ call in
          or_right (get_or (set seen g true) k false) (has (rest ++ row t g) k)
          (has_append rest (row t g) k ∙ or_right (has rest k) (has (row t g) k) here))
          (λ ne. kept_new k (closed h (sym (marks_other h ne) ∙ marks) k call))
          (cases_eq h g)

      pub smaller_new : get_or seen g false ≡ false → (next : List ℕ) → length next ≡ length rest + length (row t g)
          → length left ≡ length rest + 1
          → unseen (set seen g true) * (largest (map (λ (ns : List ℕ). length ns) t) + 1) + length next < unseen seen *
          (largest (map (λ (ns : List ℕ). length ns) t) + 1) + length left
      smaller_new new next lengths one =
          let fewer = unseen-set seen g inside new in
          let short = row_length-le t g in
          rw (← fewer) (omega arith)

-- where nothing is left, what is marked is what is reached
pub none_left : (t : List (List ℕ)) (f : ℕ) (seen : List Bool) (left : List ℕ) → left ≡ []
    → ((k : ℕ) → has (row t f) k ≡ true → (get_or seen k false || has left k) ≡ true)
    → ((h : ℕ) → get_or seen h false ≡ true → (k : ℕ) → has (row t h) k ≡ true → (get_or seen k false || has left k)
    ≡ true)
    → (g : ℕ) → Leads t f g → get_or seen g false ≡ true
none_left t f seen left empty first closed g l =
    let marked : (k : ℕ) → (get_or seen k false || has left k) ≡ true → get_or seen k false ≡ true =
    λ k h. ⊎_elim (λ e. e) (λ e. absurd (false≢true (ap (λ ns. has ns k) (sym empty) ∙ e)))
    (or_cases (get_or seen k false) (has left k) h) in
    path_stays t (λ k. get_or seen k false) (λ h s k call. marked k (closed h s k call)) f
    (λ k call. marked k (first k call)) l.0 g l.1
