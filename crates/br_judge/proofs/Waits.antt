-- Waiting for a port.
use Rattle.std.proofs.Common.{◌≡◌, ◌⊎◌, inl, inr, ◌↔◌, ℕ, zero, suc, List, [], ◌∷◌, ◌++◌}
use Rattle.std.proofs.Common.{Option, Some, None, refl, sym, ap, subst, ◌∙◌, arith}
use Rattle.br_bytes.specs.declared.run.Event.{Event}
use Rattle.br_bytes.specs.declared.run.Event.TheVariants.{Read}
use Rattle.br_judge.specs.declared.place.Moved.TheVariants.{On, Over, Departs}
use Rattle.br_judge.specs.Languages.{Language, ◌▸◌, times, up_to}
use Rattle.br_judge.specs.Good.{IsHigh, IsLow, busy, ready}
use Rattle.br_judge.specs.Places.{rest_of, waiting}
use Rattle.br_judge.proofs.Sets.{event-to, times_zero-to, times_zero-from, times_suc-to}
use Rattle.br_judge.proofs.Sets.{times_suc-from, up_to_none, up_to_more, up_to_zero-to, up_to_suc-to}

ready-first : (port w : ℕ) (e : Event) (rest : List Event) → ready port w (e ∷ rest)
    → IsLow w × (e ≡ Read port w) × (rest ≡ [])
ready-first port w e rest (low, h) =
    let head : e ≡ Read port w = cc in
    let tail : rest ≡ [] = cc in
    (low, head, tail)

-- a first event that finds the port busy
pub busy-to : (port : ℕ) (K : Language) (e : Event) (rest : List Event) → (busy port ▸ K) (e ∷ rest)
    → ((w : ℕ) × (IsHigh w × (e ≡ Read port w))) × K rest
busy-to port K e rest (f, b, h, (w, (high, hf)), k) =
    let p = event-to (Read port w) K e rest (f, b, h, hf, k) in
    ((w, (high, p.0)), p.1)

pub busy-from : (port w : ℕ) (K : Language) (rest : List Event) → IsHigh w → K rest
    → (busy port ▸ K) (Read port w ∷ rest)
busy-from port w K rest high k = (Read port w ∷ [], rest, refl, (w, (high, refl)), k)

pub waiting_empty : (port left : ℕ) (o : Option ℕ) → waiting port left o [] → ⊥
waiting_empty port left (Some w) ([], b, h, a, (low, k)) = cc
waiting_empty port left (Some w) (x ∷ f, b, h, a, (low, k)) = cc
waiting_empty port left None t = by (times_suc-to left (busy port) [] t)
  where
    by : (busy port ▸ times left (busy port)) [] → ⊥
    by (f, b, h, (w, (high, hf)), k) = let q : [] ≡ Read port w ∷ b = h ∙ ap (λ f. f ++ b) hf in cc

same_value : (port v w : ℕ) → Read port v ≡ Read port w → v ≡ w
same_value port v w h = cc

-- busy for the last time that it may be
pub waiting_last : (port w : ℕ) → IsHigh w → (o : Option ℕ) (rest : List Event) →
    waiting port 0 o (Read port w ∷ rest) ↔ rest_of (waiting port) (Over None) o rest
waiting_last port w high (Some v) rest = (to, λ (h, n). cc)
  where
    to : waiting port 0 (Some v) (Read port w ∷ rest) → (Some v ≡ None) × (rest ≡ [])
    to m =
        let r = ready-first port v (Read port w) rest
        (up_to_zero-to (busy port) (ready port v) (Read port w ∷ rest) m) in
        let low : IsLow v = r.0 in
        let same : w ≡ v = same_value port w v r.1 in
        absurd (omega arith)
waiting_last port w high None rest = (to, from)
  where
    empty : Option ℕ
    empty = None

    to : times 1 (busy port) (Read port w ∷ rest) → (empty ≡ None) × (rest ≡ [])
    to t = (
      refl,
      times_zero-to (busy port) rest (busy-to port (times 0 (busy port)) (Read port w) rest
          (times_suc-to 0 (busy port) (Read port w ∷ rest) t)).1,
    )

    from : (empty ≡ None) × (rest ≡ []) → times 1 (busy port) (Read port w ∷ rest)
    from (h, n) =
        times_suc-from 0 (busy port) (Read port w ∷ rest)
        (busy-from port w (times 0 (busy port)) rest high
        (subst (λ q. times 0 (busy port) q) (sym n) (times_zero-from (busy port))))

-- busy, and it may be so again
pub waiting_more : (port left n w : ℕ) → left ≡ suc n → IsHigh w → (o : Option ℕ) (rest : List Event) →
    waiting port left o (Read port w ∷ rest) ↔ rest_of (waiting port) (On n) o rest
waiting_more port left n w e high o rest =
    subst (λ l. waiting port l o (Read port w ∷ rest) ↔ waiting port n o rest) (sym e) (by o)
  where
    some-to : (v : ℕ) → waiting port (suc n) (Some v) (Read port w ∷ rest) → waiting port n (Some v) rest
    some-to v m = go (up_to_suc-to n (busy port) (ready port v) (Read port w ∷ rest) m)
      where
        go : ready port v (Read port w ∷ rest) ⊎ (busy port ▸ up_to n (busy port) ▸ ready port v) (Read port w ∷ rest)
            → waiting port n (Some v) rest
        go (inl r) =
            let q = ready-first port v (Read port w) rest r in
            let low : IsLow v = q.0 in
            let same : w ≡ v = same_value port w v q.1 in
            absurd (omega arith)
        go (inr b) = (busy-to port (up_to n (busy port) ▸ ready port v) (Read port w) rest b).1

    by : (o : Option ℕ) → waiting port (suc n) o (Read port w ∷ rest) ↔ waiting port n o rest
    by (Some v) = (
      some-to v,
      λ m. up_to_more n (busy port) (ready port v) (Read port w ∷ rest)
          (busy-from port w (up_to n (busy port) ▸ ready port v) rest high m),
    )
    by None = (
      λ t. (busy-to port (times (suc n) (busy port)) (Read port w) rest
          (times_suc-to (suc n) (busy port) (Read port w ∷ rest) t)).1,
      λ m. times_suc-from (suc n) (busy port) (Read port w ∷ rest)
          (busy-from port w (times (suc n) (busy port)) rest high m),
    )

-- an event that finds the port ready, or is none of its
not_busy : (port : ℕ) (e : Event) → ((w : ℕ) → IsHigh w → e ≡ Read port w → ⊥) → (left v : ℕ) (rest : List Event) →
    waiting port left (Some v) (e ∷ rest) → ready port v (e ∷ rest)
not_busy port e none zero v rest m = up_to_zero-to (busy port) (ready port v) (e ∷ rest) m
not_busy port e none (suc n) v rest m = by (up_to_suc-to n (busy port) (ready port v) (e ∷ rest) m)
  where
    by : ready port v (e ∷ rest) ⊎ (busy port ▸ up_to n (busy port) ▸ ready port v) (e ∷ rest) → ready port v (e ∷ rest)
    by (inl r) = r
    by (inr b) = let q = (busy-to port (up_to n (busy port) ▸ ready port v) e rest b).0 in absurd (none q.0 q.1.0 q.1.1)

not_none : (port : ℕ) (e : Event) → ((w : ℕ) → IsHigh w → e ≡ Read port w → ⊥) → (left : ℕ) (rest : List Event)
    → waiting port left None (e ∷ rest) → ⊥
not_none port e none left rest t =
    let q = (busy-to port (times left (busy port)) e rest (times_suc-to left (busy port) (e ∷ rest) t)).0 in
    none q.0 q.1.0 q.1.1

pub waiting_ready : (port left w : ℕ) → IsLow w → (o : Option ℕ) (rest : List Event) →
    waiting port left o (Read port w ∷ rest) ↔ rest_of (waiting port) (Over (Some w)) o rest
waiting_ready port left w low o rest = by o
  where
    none : (v : ℕ) → IsHigh v → Read port w ≡ Read port v → ⊥
    none v high h = let same : w ≡ v = same_value port w v h in omega arith

    by : (o : Option ℕ) → waiting port left o (Read port w ∷ rest) ↔ ((o ≡ Some w) × (rest ≡ []))
    by (Some v) = (
      λ m. let r = ready-first port v (Read port w) rest (not_busy port (Read port w) none left v rest m) in
          let q : Some v ≡ Some w = ap Some (sym (same_value port w v r.1)) in
          (q, r.2),
      λ (h, n). let same : v ≡ w = cc in
          up_to_none left (busy port) (ready port v) (Read port w ∷ rest)
          (subst (λ q. IsLow q) (sym same) low, cc),
    )
    by None = (λ m. absurd (not_none port (Read port w) none left rest m), λ (h, n). cc)

pub waiting_departs : (port left : ℕ) (e : Event) → ((w : ℕ) → e ≡ Read port w → ⊥)
    → (o : Option ℕ) (rest : List Event) →
    waiting port left o (e ∷ rest) ↔ rest_of (waiting port) Departs o rest
waiting_departs port left e none (Some v) rest =
    (λ m. none v (ready-first port v e rest (not_busy port e (λ w high. none w) left v rest m)).1, λ m. absurd m)
waiting_departs port left e none None rest = (λ m. not_none port e (λ w high. none w) left rest m, λ m. absurd m)
