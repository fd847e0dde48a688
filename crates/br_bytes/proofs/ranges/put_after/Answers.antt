use Rattle.std.proofs.Common.{◌≡◌, ◌≢◌, ◌+◌, ◌++◌, get_or, ap, ◌∙◌, arith, length-append}
use Rattle.std.proofs.lemmas.List.{get_or_read}
use Rattle.br_bytes.specs.Range.{Range, end_of}
use Rattle.br_bytes.proofs.Placed.{on_ok, put_alone, last_alone, next_alone}
use Rattle.br_bytes.proofs.ranges.put_after.Goals as goal
use Rattle.br_bytes.proofs.ranges.put_after.Goals.{else-next-len-via-then-next-len+else-end-from}
use Rattle.br_bytes.proofs.ranges.put_after.Goals.{else-next-len-via-else-next-len}

pub returns-clause-ok : goal.returns-clause-ok
returns-clause-ok c = on_ok c.lengthen-2.result c.lengthen-2.ensures.ok (λ is (d : Range).
    let rs = c.args.ranges.now.items in
    let r : Range = get_or rs c.args.i d in
    let x : Range = record { start = r.start; bytes = r.bytes ++ c.args.bytes.now } in
    let same : c.index_mut-2.result.now ≡ r =
    get_or_read rs c.args.i c.index_mut-2.result.now c.requires.there c.index_mut-2.ensures.value d in
    let y_is : c.lengthen-2.new.self ≡ x = is ∙ ap
    (λ (z : Range). let y : Range = record { start = z.start; bytes = z.bytes ++ c.args.bytes.now } in y) same in
    let first : c.index.result.now ≡ r =
    get_or_read rs c.args.i c.index.result.now c.requires.there c.index.ensures d in
    elim c.else-next-len.branch [
      | else-next-len-via-then-next-len+else-end-from w ↦
          let e = w.index-then-next-len.result.now in
          let ne : end_of x ≢ (get_or rs (c.args.i + 1) e).start = λ q. w.if-end-from.false
          (omega (
            arith,
            q,
            c.end.ensures,
            ap end_of first,
            length-append r.bytes c.args.bytes.now,
            w.from.ensures,
            w.start.ensures,
            ap (λ (z : Range). z.start) w.index-then-next-len.ensures,
          )) in
          put_alone rs c.args.i x c.lengthen-2.new.self c.requires.there y_is
          (next_alone rs (c.args.i + 1) x e (omega arith) ne)
      | else-next-len-via-else-next-len w ↦ put_alone rs c.args.i x c.lengthen-2.new.self c.requires.there y_is
          (last_alone rs (c.args.i + 1) x (omega arith))
    ])
