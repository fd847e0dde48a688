use Rattle.std.proofs.Common.{◌≡◌, ◌+◌, ◌-◌, ◌<◌, ◌≤◌, length, take, drop, sym, subst, ap, ◌∙◌, arith}
use Rattle.std.proofs.lemmas.List.{take_rest, get_or_read}
use Rattle.br_bytes.specs.Range.{Range, AreApart}
use Rattle.br_bytes.specs.Changes.{after, EndsFrom}
use Rattle.br_bytes.proofs.Changed.{drop_apart, cut_fits, cut_up, cut_first, cut_kept, cut_past}
use Rattle.br_bytes.proofs.ranges.drop_below.Goals as goal
use Rattle.br_bytes.proofs.ranges.drop_below.Goals.{else-i-len-via-then-i-len+else-from-end, else-i-len-via-else-i-len}

pub first_ending-n-requires : goal.first_ending-n-requires
first_ending-n-requires c =
    let tail_is : take (length c.as_slice.result.now - c.args.i) (drop c.args.i c.as_slice.result.now)
    ≡ drop c.args.i c.args.ranges.now.items = take_rest c.as_slice.result.now c.args.i
    ∙ ap (drop c.args.i) c.as_slice.ensures.value in
    subst (AreApart 0) (sym tail_is) (drop_apart c.args.ranges.now.items 0 c.args.i c.requires.apart)

pub overflow_cast-end : goal.overflow_cast-end
overflow_cast-end c =
    let rs = c.args.ranges.now.items in
    let tail_is : take (length c.as_slice.result.now - c.args.i) (drop c.args.i c.as_slice.result.now)
    ≡ drop c.args.i rs = take_rest c.as_slice.result.now c.args.i ∙ ap (drop c.args.i) c.as_slice.ensures.value in
    let above = subst (λ zs. EndsFrom (c.args.end + 1) (drop c.first_ending-n.result zs)) tail_is
    c.first_ending-n.ensures.above in
    let fits = cut_fits rs c.drop_some.new.ranges.items c.args.i c.first_ending-n.result c.args.end c.requires.apart
    c.requires.there above c.drop_some.ensures (omega arith) in
    omega (arith, fits)

pub start_at-requires-clause-below : goal.start_at-requires-clause-below
start_at-requires-clause-below c =
    let rs = c.args.ranges.now.items in
    let tail_is : take (length c.as_slice.result.now - c.args.i) (drop c.args.i c.as_slice.result.now)
    ≡ drop c.args.i rs = take_rest c.as_slice.result.now c.args.i ∙ ap (drop c.args.i) c.as_slice.ensures.value in
    let above = subst (λ zs. EndsFrom (c.args.end + 1) (drop c.first_ending-n.result zs)) tail_is
    c.first_ending-n.ensures.above in
    let up = cut_up rs c.drop_some.new.ranges.items c.args.i c.first_ending-n.result c.args.end c.index_mut.result.now
    c.requires.there above c.drop_some.ensures (omega arith) c.index_mut.ensures.value in
    omega (arith, up)

pub returns-then-from-end : goal.returns-then-from-end
returns-then-from-end c =
    let rs = c.args.ranges.now.items in
    let tail_is : take (length c.as_slice.result.now - c.args.i) (drop c.args.i c.as_slice.result.now)
    ≡ drop c.args.i rs = take_rest c.as_slice.result.now c.args.i ∙ ap (drop c.args.i) c.as_slice.ensures.value in
    let below = subst (λ zs. after 0 (take c.first_ending-n.result zs) ≤ c.args.end + 1) tail_is
    c.first_ending-n.ensures.below in
    let above = subst (λ zs. EndsFrom (c.args.end + 1) (drop c.first_ending-n.result zs)) tail_is
    c.first_ending-n.ensures.above in
    let x = c.index_mut.result.now in
    let h : c.args.i < length c.drop_some.new.ranges.items = omega arith in
    let one : c.index.result.now ≡ x =
    get_or_read c.drop_some.new.ranges.items c.args.i c.index.result.now h c.index.ensures x
    ∙ sym c.index_mut.ensures.value in
    cut_first rs c.drop_some.new.ranges.items c.args.i c.first_ending-n.result c.args.end x c.start_at.new.self
    c.requires.apart c.requires.there below above c.drop_some.ensures h
    c.index_mut.ensures.value (omega (arith, ap (λ (z : Range). z.start) one, c.start.ensures, c.from.ensures))
    c.start_at.ensures

pub returns-else-i-len : goal.returns-else-i-len
returns-else-i-len c =
    let rs = c.args.ranges.now.items in
    let tail_is : take (length c.as_slice.result.now - c.args.i) (drop c.args.i c.as_slice.result.now)
    ≡ drop c.args.i rs = take_rest c.as_slice.result.now c.args.i ∙ ap (drop c.args.i) c.as_slice.ensures.value in
    let below = subst (λ zs. after 0 (take c.first_ending-n.result zs) ≤ c.args.end + 1) tail_is
    c.first_ending-n.ensures.below in
    let above = subst (λ zs. EndsFrom (c.args.end + 1) (drop c.first_ending-n.result zs)) tail_is
    c.first_ending-n.ensures.above in
    elim c.else-i-len.branch [
      | else-i-len-via-then-i-len+else-from-end w ↦
          cut_kept rs c.drop_some.new.ranges.items c.args.i c.first_ending-n.result c.args.end w.index.result.now
          c.requires.apart c.requires.there below above c.drop_some.ensures (omega arith)
          w.index.ensures (omega (arith, w.start.ensures, w.from.ensures))
      | else-i-len-via-else-i-len w ↦ cut_past rs c.drop_some.new.ranges.items c.args.i c.first_ending-n.result
          c.args.end c.requires.apart c.requires.there below c.drop_some.ensures (omega arith)
    ]
