use Rattle.std.proofs.Common.{◌≡◌, ℕ, nat_le, ◌+◌, ◌^◌, ◌<◌, ◌≤◌, Bool, true}
use Rattle.std.proofs.Common.{false, length, get_or, refl, sym, subst, ap, arith}
use Rattle.std.proofs.lemmas.Bool.Decides.{nat_tests}
use Rattle.std.proofs.lemmas.List.{get_or_read}
use Rattle.std.specs.Bool.{OnTrue, OnFalse}
use Rattle.br_bytes.specs.Range.{Range, end_of}
use Rattle.br_bytes.proofs.Ranged.{ends_at, apart_end}
use Rattle.br_bytes.proofs.Changed.{none_found, found_none, found_some, found_end}
use Rattle.br_bytes.proofs.ranges.covers.Goals as goal
use Rattle.br_bytes.proofs.ranges.covers.Goals.{then-i-ranges-via-then-i-ranges}
use Rattle.br_bytes.proofs.ranges.covers.Goals.{then-i-ranges-via-else-i-ranges+then-a-start}

on_true : {P : Type 0} (t : Bool) → (t ≡ true → P) → OnTrue t P
on_true true h = h refl
on_true false h = tt

on_false : {P : Type 0} (t : Bool) → (t ≡ false → P) → OnFalse t P
on_false true h = tt
on_false false h = h refl

at_most : {a b : ℕ} → nat_le a b ≡ true → a ≤ b
at_most {a} {b} t = grind (arith, nat_tests)

not_at_most : {a b : ℕ} → nat_le a b ≡ false → b < a
not_at_most {a} {b} t = grind (arith, nat_tests)

pub returns-then-i-ranges-clause-part : goal.returns-then-i-ranges-clause-part
returns-then-i-ranges-clause-part c = elim c.then-i-ranges.branch [
  | then-i-ranges-via-then-i-ranges w ↦ (
    c.args.a,
    omega arith,
    omega arith,
    none_found c.args.ranges.now c.first_ending-i.result c.args.a
        c.requires.apart (omega arith) (omega (arith, c.first_ending-i.ensures.below, c.from.ensures)),
  )
  | then-i-ranges-via-else-i-ranges+then-a-start w ↦ (
    c.args.a,
    omega arith,
    omega arith,
    found_none c.args.ranges.now c.first_ending-i.result c.args.a w.index-ranges-i.result c.requires.apart (omega arith)
        (omega (arith, c.first_ending-i.ensures.below, c.from.ensures))
        (omega (arith, ap (λ (z : Range). z.start) w.index-ranges-i.is, w.start.ensures)),
  )
]

pub end-requires : goal.end-requires
end-requires c =
    subst (λ r. end_of r ≤ 2 ^ 32) (sym c.index-ranges-i-2.is)
    (apart_end c.args.ranges.now 0 c.first_ending-i.result c.index-ranges-i-2.result c.requires.apart (omega arith))

pub returns-clause-whole : goal.returns-clause-whole
returns-clause-whole c = on_true (nat_le (c.from-2.result + c.from-3.result) c.end.result) (λ t q l g.
    let rs = c.args.ranges.now in
    let i = c.first_ending-i.result in
    let d = c.index-ranges-i-2.result in
    let h : i < length rs = omega arith in
    let first : c.index-ranges-i.result ≡ get_or rs i d =
    get_or_read rs i c.index-ranges-i.result h c.index-ranges-i.is d in
    let within = at_most t in
    found_some rs i q d c.requires.apart h (omega (arith, c.first_ending-i.ensures.below, c.from.ensures))
    (omega (arith, ap (λ (z : Range). z.start) first, c.start.ensures))
    (omega (arith, within, c.from-2.ensures, c.from-3.ensures, c.end.ensures, ap end_of c.index-ranges-i-2.is)))

pub returns-clause-part : goal.returns-clause-part
returns-clause-part c = on_false (nat_le (c.from-2.result + c.from-3.result) c.end.result) (λ t.
    let rs = c.args.ranges.now in
    let i = c.first_ending-i.result in
    let d = c.index-ranges-i-2.result in
    let h : i < length rs = omega arith in
    let past = not_at_most t in
    let up = ends_at rs (c.from.result + 1) i d h c.first_ending-i.ensures.above in (
      end_of (get_or rs i d),
      omega (arith, up, c.from.ensures),
      omega (arith, past, c.from-2.ensures, c.from-3.ensures, c.end.ensures, ap end_of c.index-ranges-i-2.is),
      found_end rs i d c.requires.apart h,
    ))
