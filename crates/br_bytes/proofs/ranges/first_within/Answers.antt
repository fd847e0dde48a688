use Rattle.std.proofs.Common.{◌≡◌, ◌+◌, ◌<◌, length, get_or, ap, ◌∙◌, arith}
use Rattle.br_bytes.specs.Range.{Range}
use Rattle.br_bytes.proofs.Ranged.{ends_at, apart_at}
use Rattle.br_bytes.proofs.Changed.{none_found, found_none, found_some}
use Rattle.br_bytes.proofs.ranges.first_within.Goals as goal
use Rattle.br_bytes.proofs.ranges.first_within.Goals.{then-n-eq0-via-then-n-eq0}
use Rattle.br_bytes.proofs.ranges.first_within.Goals.{then-n-eq0-via-else-n-eq0+then-i-ranges}

pub returns-then-n-eq0-clause-none : goal.returns-then-n-eq0-clause-none
returns-then-n-eq0-clause-none c e q l h = elim c.then-n-eq0.branch [
  | then-n-eq0-via-then-n-eq0 w ↦ absurd (omega arith)
  | then-n-eq0-via-else-n-eq0+then-i-ranges w ↦ none_found c.args.ranges.now c.first_ending-i.result q c.requires.apart
      (omega arith) (omega (arith, c.first_ending-i.ensures.below, c.from.ensures))
]

pub returns-then-start-a-clause-there : goal.returns-then-start-a-clause-there
returns-then-start-a-clause-there c =
    let rs = c.args.ranges.now in
    let i = c.first_ending-i.result in
    let d = c.index-ranges-i.result in
    let h : i < length rs = omega arith in
    let up = ends_at rs (c.from.result + 1) i d h c.first_ending-i.ensures.above in
    found_some rs i c.args.a d c.requires.apart h (omega (arith, c.first_ending-i.ensures.below, c.from.ensures))
    (omega (arith, ap (λ (z : Range). z.start) c.index-ranges-i.is, c.start-start.ensures))
    (omega (arith, up, c.from.ensures))

pub returns-then-from-n-clause-there : goal.returns-then-from-n-clause-there
returns-then-from-n-clause-there c =
    let rs = c.args.ranges.now in
    let i = c.first_ending-i.result in
    let d = c.index-ranges-i.result in
    let h : i < length rs = omega arith in
    let start : c.start-start.result ≡ (get_or rs i d).start = c.start-start.ensures
    ∙ ap (λ (z : Range). z.start) c.index-ranges-i.is in
    let filled = apart_at rs 0 i d c.requires.apart h in
    found_some rs i c.start-start.result d c.requires.apart h
    (omega (arith, c.first_ending-i.ensures.below, c.from.ensures))
    (omega (arith, start)) (omega (arith, start, filled.1))

pub returns-then-from-n-clause-first : goal.returns-then-from-n-clause-first
returns-then-from-n-clause-first c q l g =
    let rs = c.args.ranges.now in
    let i = c.first_ending-i.result in
    let d = c.index-ranges-i.result in
    let h : i < length rs = omega arith in
    let start : c.start-start.result ≡ (get_or rs i d).start = c.start-start.ensures
    ∙ ap (λ (z : Range). z.start) c.index-ranges-i.is in
    found_none rs i q d c.requires.apart h (omega (arith, c.first_ending-i.ensures.below, c.from.ensures))
    (omega (arith, start))

pub returns-clause-none : goal.returns-clause-none
returns-clause-none c e q l g =
    let rs = c.args.ranges.now in
    let i = c.first_ending-i.result in
    let d = c.index-ranges-i.result in
    let h : i < length rs = omega arith in
    let start : c.start-start.result ≡ (get_or rs i d).start = c.start-start.ensures
    ∙ ap (λ (z : Range). z.start) c.index-ranges-i.is in
    found_none rs i q d c.requires.apart h (omega (arith, c.first_ending-i.ensures.below, c.from.ensures))
    (omega (arith, start, c.from-2.ensures, c.from-3.ensures))
