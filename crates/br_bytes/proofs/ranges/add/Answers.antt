use Rattle.std.proofs.Common.{◌^◌, ◌≤◌, sym, subst, ap, ◌∙◌, arith}
use Rattle.br_bytes.specs.Range.{Range, end_of}
use Rattle.br_bytes.proofs.Ranged.{apart_end, ends_at}
use Rattle.br_bytes.proofs.Placed.{on_ok, add_after, add_before, add_last}
use Rattle.br_bytes.proofs.ranges.add.Goals as goal
use Rattle.br_bytes.proofs.ranges.add.Goals.{else-i-len-via-then-i-len+else-end-from, else-i-len-via-else-i-len}

pub end-requires : goal.end-requires
end-requires c = subst (λ r. end_of r ≤ 2 ^ 32) (sym c.index.ensures)
    (apart_end c.args.ranges.now.items 0 c.first_ending-i.result c.index.result.now c.requires.apart (omega arith))

pub returns-then-end-from-clause-ok : goal.returns-then-end-from-clause-ok
returns-then-end-from-clause-ok c =
    let rs = c.args.ranges.now.items in
    let x : Range = record { start = c.args.a; bytes = c.args.bytes.now } in
    let d = c.index.result.now in
    let below = rw c.as_slice.ensures.value at c.first_ending-i.ensures.below in
    on_ok c.put_after.result c.put_after.ensures.ok (λ is. is d
    ∙ add_after rs c.first_ending-i.result x d c.requires.apart (omega arith) (omega (arith, below, c.from.ensures))
    (omega (arith, ap end_of c.index.ensures, c.end.ensures, c.from-then-i-len.ensures)))

pub returns-else-i-len-clause-ok : goal.returns-else-i-len-clause-ok
returns-else-i-len-clause-ok c =
    let rs = c.args.ranges.now.items in
    let i = c.first_ending-i.result in
    let x : Range = record { start = c.args.a; bytes = c.args.bytes.now } in
    let below = rw c.as_slice.ensures.value at c.first_ending-i.ensures.below in
    let above = rw c.as_slice.ensures.value at c.first_ending-i.ensures.above in
    elim c.else-i-len.branch [
      | else-i-len-via-then-i-len+else-end-from w ↦
          let d = w.index.result.now in
          let up = ends_at rs c.from.result i d (omega arith) above in
          on_ok c.put_before.result c.put_before.ensures.ok
          (λ is. is ∙ add_before rs i x d c.requires.apart (omega arith) (omega (arith, below, c.from.ensures))
          (omega (
            arith,
            up,
            ap end_of w.index.ensures,
            w.end.ensures,
            w.from-then-i-len.ensures,
            c.from.ensures,
            w.if-end-from.false,
          )))
      | else-i-len-via-else-i-len w ↦
          on_ok c.put_before.result c.put_before.ensures.ok
          (λ is. is ∙ add_last rs i x c.requires.apart (omega arith) (omega (arith, below, c.from.ensures)))
    ]
