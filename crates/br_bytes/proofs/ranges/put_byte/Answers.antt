use Rattle.std.proofs.Common.{◌+◌, ◌-◌, ◌≤◌, slice_set, sym, subst, ap, ◌∙◌, arith}
use Rattle.br_bytes.specs.Range.{Range, end_of}
use Rattle.br_bytes.proofs.Ranged.{ends_at}
use Rattle.br_bytes.proofs.Changed.{found_within, found_start, with_byte_at}
use Rattle.br_bytes.proofs.ranges.put_byte.Goals as goal

pub index_mut-requires : goal.index_mut-requires
index_mut-requires c =
    let below = rw c.as_slice.ensures.value at c.first_ending-i.ensures.below in
    let in_list = found_within c.args.ranges.now.items c.first_ending-i.result c.args.a c.requires.apart
    (omega (arith, below, c.from.ensures)) c.requires.there in
    omega (arith, in_list)

pub put-requires-clause-above : goal.put-requires-clause-above
put-requires-clause-above c =
    let rs = c.args.ranges.now.items in
    let i = c.first_ending-i.result in
    let d = c.index_mut.result.now in
    let below = rw c.as_slice.ensures.value at c.first_ending-i.ensures.below in
    let above = rw c.as_slice.ensures.value at c.first_ending-i.ensures.above in
    let in_list = found_within rs i c.args.a c.requires.apart (omega (arith, below, c.from.ensures)) c.requires.there in
    let up = ends_at rs (c.from.result + 1) i d in_list above in
    subst (λ z. z.start ≤ c.args.a) (sym c.index_mut.ensures.value) (found_start rs i c.args.a d c.requires.apart
    in_list (omega (arith, below, c.from.ensures)) (omega (arith, up, c.from.ensures)) c.requires.there)

pub put-requires-clause-below : goal.put-requires-clause-below
put-requires-clause-below c =
    let rs = c.args.ranges.now.items in
    let i = c.first_ending-i.result in
    let d = c.index_mut.result.now in
    let below = rw c.as_slice.ensures.value at c.first_ending-i.ensures.below in
    let above = rw c.as_slice.ensures.value at c.first_ending-i.ensures.above in
    let in_list = found_within rs i c.args.a c.requires.apart (omega (arith, below, c.from.ensures)) c.requires.there in
    let up = ends_at rs (c.from.result + 1) i d in_list above in
    omega (arith, up, c.from.ensures, ap end_of c.index_mut.ensures.value)

pub returns : goal.returns
returns c =
    let rs = c.args.ranges.now.items in
    let i = c.first_ending-i.result in
    let d = c.index_mut.result.now in
    let below = rw c.as_slice.ensures.value at c.first_ending-i.ensures.below in
    let above = rw c.as_slice.ensures.value at c.first_ending-i.ensures.above in
    let in_list = found_within rs i c.args.a c.requires.apart (omega (arith, below, c.from.ensures)) c.requires.there in
    let up = ends_at rs (c.from.result + 1) i d in_list above in
    ap (slice_set rs i) (c.put.ensures ∙ ap (λ (z : Range). let y : Range = record {
      start = z.start;
      bytes = slice_set z.bytes (c.args.a - z.start) c.args.b;
    } in y) c.index_mut.ensures.value)
    ∙ with_byte_at rs 0 i c.args.a c.args.b d c.requires.apart in_list (omega (arith, below, c.from.ensures))
    (omega (arith, up, c.from.ensures))
