-- The bytes that are kept in pages, as one list.
use Rattle.std.proofs.Common.{◌≡◌, ◌≢◌, ◌⊎◌, inl, inr, ℕ, zero, suc, ◌+◌, ◌*◌, ◌/◌, ◌<◌, ◌≤◌, List}
use Rattle.std.proofs.Common.{length, Option, Bool, true, false, refl, sym, ap, subst, ◌∙◌, arith}
use Rattle.std.specs.Prelude.{◌||◌, min, max, slice_index, slice_index_or, slice_set}
use Rattle.std.proofs.Math.ListN.{length-set}
use Rattle.std.proofs.lemmas.Bool.{cases_eq}
use Rattle.std.proofs.lemmas.Bool.Decides.{nat_tests}
use Rattle.std.proofs.lemmas.List.{ext_get_or, get_or-set_other, get_or-set_same}
use Rattle.br_words.specs.declared.layout.Layout.{Layout}
use Rattle.br_machine.specs.State.{code_place, ram_size}
use Rattle.br_machine.specs.Traps.{meet}
use Rattle.br_machine.specs.Pages.{page_size}
use Rattle.br_machine.specs.Kept.{Kept, IsKept, byte_at, bytes_in, values, with_made}
use Rattle.br_machine.proofs.Words.{all_below-set}

length-values : (f : ℕ → ℕ) (n a : ℕ) → length (values f a n) ≡ n
length-values f zero a = refl
length-values f (suc n) a = ap suc (length-values f n (a + 1))

index-values : (f : ℕ → ℕ) (n a i : ℕ) → i < n → slice_index (values f a n) i ≡ f (a + i)
index-values f zero a i h = absurd (omega arith)
index-values f (suc n) a zero h = ap f (let e : a ≡ a + 0 = omega arith in e)
index-values f (suc n) a (suc i) h =
    index-values f n (a + 1) i (omega arith) ∙ ap f (let e : a + 1 + i ≡ a + suc i = omega arith in e)

pub length-bytes_in : (l : Layout) (code : List ℕ) (junk : ℕ) (pages : List (Option (List ℕ)))
    → length (bytes_in l code junk pages) ≡ ram_size l
unfolding bytes_in
length-bytes_in l code junk pages = length-values (byte_at l code junk pages) (ram_size l) 0

pub index-bytes_in : (l : Layout) (code : List ℕ) (junk : ℕ) (pages : List (Option (List ℕ))) (place : ℕ)
    → place < ram_size l
    → slice_index (bytes_in l code junk pages) place ≡ byte_at l code junk pages place
unfolding bytes_in
index-bytes_in l code junk pages place h = index-values (byte_at l code junk pages) (ram_size l) 0 place h
    ∙ ap (byte_at l code junk pages) (let e : 0 + place ≡ place = omega arith in e)

-- a list that has these bytes is the one
pub bytes_in-is : (l : Layout) (code : List ℕ) (junk : ℕ) (pages : List (Option (List ℕ))) (bytes : List ℕ)
    → length bytes ≡ ram_size l
    → ((place : ℕ) → place < ram_size l → byte_at l code junk pages place ≡ slice_index bytes place)
    → bytes_in l code junk pages ≡ bytes
bytes_in-is l code junk pages bytes size same =
    ext_get_or 0 (bytes_in l code junk pages) bytes (length-bytes_in l code junk pages ∙ sym size)
    (λ i h. let inside : i < ram_size l = subst (λ n. i < n) (length-bytes_in l code junk pages) h in
    index-bytes_in l code junk pages i inside ∙ same i inside)

-- pages that differ at one place
pub bytes_in-set : (l : Layout) (code : List ℕ) (junk : ℕ) (pages pages' : List (Option (List ℕ))) (place b : ℕ)
    → place < ram_size l
    → byte_at l code junk pages' place ≡ b
    → ((q : ℕ) → q ≢ place → byte_at l code junk pages' q ≡ byte_at l code junk pages q)
    → bytes_in l code junk pages' ≡ slice_set (bytes_in l code junk pages) place b
bytes_in-set l code junk pages pages' place b inside there others =
    bytes_in-is l code junk pages' (slice_set (bytes_in l code junk pages) place b)
    (length-set (bytes_in l code junk pages) place b ∙ length-bytes_in l code junk pages)
    (λ q h. decided q h (cases_eq q place))
  where
    before : List ℕ
    before = bytes_in l code junk pages

    decided : (q : ℕ) → q < ram_size l → (q ≡ place) ⊎ (q ≡ place → ⊥)
        → byte_at l code junk pages' q ≡ slice_index (slice_set before place b) q
    decided q h (inl is) =
        ap (byte_at l code junk pages') is ∙ there
        ∙ sym
        (get_or-set_same before place b 0 (subst (λ n. place < n) (sym (length-bytes_in l code junk pages)) inside))
        ∙ ap (slice_index (slice_set before place b)) (sym is)
    decided q h (inr not) =
        others q not ∙ sym (index-bytes_in l code junk pages q h) ∙ sym (get_or-set_other before place q b 0 not)

-- what is kept, with a byte that is none of the code's
pub IsKept-set : (k : Kept) (place b page : ℕ) → IsKept k → b < 256
    → min (place + 1) (code_place k.layout + 4 * length k.code) ≤ max place (code_place k.layout)
    → IsKept (record k { bytes = slice_set k.bytes place b; made = slice_set k.made page true })
IsKept-set k place b page is small apart = record {
  few = is.few;
  pages = length-set k.made page true ∙ is.pages;
  size = length-set k.bytes place b ∙ is.size;
  bytes = all_below-set 256 k.bytes place b is.bytes small;
  code = λ i h. get_or-set_other k.bytes place (code_place k.layout + i) b 0 (omega arith) ∙ is.code i h;
}

-- ---- which pages are made

pub length-with_made : (n : ℕ) (made : List Bool) (place : ℕ) → length (with_made made place n) ≡ length made
length-with_made zero made place = refl
length-with_made (suc n) made place =
    length-with_made n (slice_set made (place / page_size) true) (place + 1) ∙ length-set made (place / page_size) true

-- the pages made after n bytes from a place on are those that have one of the bytes, and those that were
pub with_made-is : (n : ℕ) (made : List Bool) (low place page : ℕ) → page < length made
    → slice_index_or (with_made made place n) page false
    ≡ (meet (low + place) n (low + page_size * page) page_size || slice_index_or made page false)
with_made-is zero made low place page inside =
    ap (λ x. x || slice_index_or made page false)
    (let e : false ≡ meet (low + place) 0 (low + page_size * page) page_size = grind (arith, nat_tests) in e)
with_made-is (suc n) made low place page inside =
    with_made-is n (slice_set made (place / page_size) true) low (place + 1) page
    (subst (λ k. page < k) (sym (length-set made (place / page_size) true)) inside)
    ∙ decided (cases_eq page (place / page_size))
  where
    rest : Bool
    rest = meet (low + (place + 1)) n (low + page_size * page) page_size

    all : Bool
    all = meet (low + place) (suc n) (low + page_size * page) page_size

    now_true : (x y : Bool) → y ≡ true → (x || y) ≡ true
    now_true true y e = refl
    now_true false y e = e

    decided : (page ≡ place / page_size) ⊎ (page ≡ place / page_size → ⊥)
        → (rest || slice_index_or (slice_set made (place / page_size) true) page false)
        ≡ (all || slice_index_or made page false)
    decided (inl is) =
        now_true rest _ (ap (λ q. slice_index_or (slice_set made (place / page_size) true) q false) is
        ∙ get_or-set_same made (place / page_size) true false (subst (λ q. q < length made) is inside))
        ∙ ap (λ x. x || slice_index_or made page false) (sym (meets is))
      where
        meets : page ≡ place / page_size → all ≡ true
        meets is = grind (arith, nat_tests)
    decided (inr other) =
        ap (λ y. rest || y) (get_or-set_other made (place / page_size) page true false other)
        ∙ ap (λ x. x || slice_index_or made page false) (same other)
      where
        same : (page ≡ place / page_size → ⊥) → rest ≡ all
        same other = grind (arith, nat_tests)
