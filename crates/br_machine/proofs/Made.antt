-- Which pages a store makes, and which pages are made at the start.
use Rattle.std.proofs.Common.{◌≡◌, inl, inr, ℕ, ◌+◌, ◌-◌, ◌*◌, ◌%◌, ◌<◌, ◌≤◌, List, [], ◌∷◌, ◌++◌, length}
use Rattle.std.proofs.Common.{Option, Some, None, Bool, true, false, refl, sym, ap, subst, ◌∙◌, arith}
use Rattle.std.specs.Prelude.{◌||◌, ◌&&◌, ◌==◌, if◌then◌else◌, slice_index_or, is_none}
use Rattle.std.proofs.lemmas.Bool.{cases_lt, eqb-true}
use Rattle.std.proofs.lemmas.List.{get_or_append_left, get_or-append-add}
use Rattle.std.proofs.lemmas.Bool.Decides.{nat_tests}
use Rattle.br_words.specs.Device.{in_device_window}
use Rattle.br_words.specs.declared.layout.Layout.{Layout}
use Rattle.br_words.specs.Layout.{code_base, ram_base}
use Rattle.br_machine.specs.declared.stepped.Trap.TheVariants.{AccessOutside, CodeWrite, DeviceAccess}
use Rattle.br_machine.specs.Traps.{device_trap, in_ram, meet, store_trap}
use Rattle.br_machine.specs.Pages.{page_base, page_size}
use Rattle.br_machine.specs.Kept.{with_made}
use Rattle.br_machine.proofs.Regions.{regions}
use Rattle.br_machine.proofs.Straight.{and_parts, window_below}
use Rattle.br_machine.proofs.Kept.{with_made-is}

pub low_end : (l : Layout) (a n : ℕ) → in_ram l a n ≡ true → ram_base l ≤ a
low_end l a n h = grind (arith, nat_tests)

pub stored_pages : (l : Layout) (made : List Bool) (a n page : ℕ) → page < length made → ram_base l ≤ a
    → slice_index_or (with_made made (a - ram_base l) n) page false
    ≡ (meet a n (page_base l page) page_size || slice_index_or made page false)
stored_pages l made a n page inside low =
    with_made-is n made (ram_base l) (a - ram_base l) page inside
    ∙ ap (λ b. meet b n (page_base l page) page_size || slice_index_or made page false)
    (let e : ram_base l + (a - ram_base l) ≡ a = omega arith in e)

-- a store in RAM that touches no byte of the code breaks no rule
pub no_rule_broken : (l : Layout) (words a n : ℕ) (b : Bool) → in_ram l a n ≡ true
    → meet a n (code_base l) (4 * words) ≡ false
    → (b && is_none (store_trap l words a n)) ≡ b
no_rule_broken l words a n b there free =
    ap (λ t. b && is_none t)
    (ap (λ t. if t then (if meet a n (code_base l) (4 * words) then Some CodeWrite else None) else device_trap a n)
    there
    ∙ ap (λ t. if t then Some CodeWrite else None) free)
    ∙ and_true b
  where
    and_true : (x : Bool) → (x && true) ≡ x
    and_true true = refl
    and_true false = refl

-- a store outside RAM that breaks no rule is of a device word, which is below RAM
device_store_low : (l : Layout) (words a n : ℕ) → in_ram l a n ≡ false → store_trap l words a n ≡ None
    → a + n ≤ 0x10025000
device_store_low l words a n outside none =
    tested (in_device_window a) refl
    (ap (λ b. if b then (if meet a n (code_base l) (4 * words) then Some CodeWrite else None) else device_trap a n)
    (sym outside) ∙ none)
  where
    whole : (b : Bool) → ((n == 4) && (a % 4 == 0)) ≡ b → in_device_window a ≡ true
        → (if b then None else Some DeviceAccess) ≡ None → a + n ≤ 0x10025000
    whole true is window e =
        let parts = and_parts (n == 4) (a % 4 == 0) is in
        omega (arith, eqb-true n 4 parts.0, eqb-true (a % 4) 0 parts.1, window_below a window)
    whole false is window e = absurd (cc)

    tested : (w : Bool) → in_device_window a ≡ w
        → (if w then (if (n == 4) && (a % 4 == 0) then None else Some DeviceAccess) else Some AccessOutside) ≡ None
        → a + n ≤ 0x10025000
    tested true is e = whole ((n == 4) && (a % 4 == 0)) refl is e
    tested false is e = absurd (cc)

pub device_page : (l : Layout) (words a n page : ℕ) → in_ram l a n ≡ false → store_trap l words a n ≡ None
    → meet a n (page_base l page) page_size ≡ false
device_page l words a n page outside none =
    let low = device_store_low l words a n outside none in
    let above = (regions l).above in
    grind (arith, nat_tests)

-- ---- the pages at the start

-- what holds of the pages so far, and of one more
pub one_page_more : (P : ℕ → Option (List ℕ) → Type 0) (pages : List (Option (List ℕ))) (x : Option (List ℕ)) (n : ℕ)
    → length pages ≡ n
    → ((page : ℕ) → page < n → P page (slice_index_or pages page None)) → P n x
    → (page : ℕ) → page < n + 1 → P page (slice_index_or (pages ++ x ∷ []) page None)
one_page_more P pages x n count before here page h = elim (cases_lt page n) [
  | inl p ↦ subst (P page) (sym (get_or_append_left pages (x ∷ []) None page (omega arith))) (before page p)
  | inr p ↦
      (let same : n ≡ page = omega arith in
      let end : n ≡ length pages + 0 = omega arith in
      let last : slice_index_or (pages ++ x ∷ []) n None ≡ x =
      ap (λ q. slice_index_or (pages ++ x ∷ []) q None) end ∙ get_or-append-add pages (x ∷ []) 0 None in
      subst (λ q. P q (slice_index_or (pages ++ x ∷ []) q None)) same (subst (P n) (sym last) here))
]
