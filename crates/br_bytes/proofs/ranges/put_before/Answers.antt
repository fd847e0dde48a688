use Rattle.std.proofs.Common.{◌≡◌, ◌++◌, get_or, ap, ◌∙◌, arith}
use Rattle.std.proofs.lemmas.List.{get_or_read}
use Rattle.br_bytes.specs.Range.{Range}
use Rattle.br_bytes.proofs.Ranged.{put_touching}
use Rattle.br_bytes.proofs.ranges.put_before.Goals as goal

pub returns-then-end-from-clause-ok : goal.returns-then-end-from-clause-ok
returns-then-end-from-clause-ok c =
    let d = c.index.result.now in
    let x : Range = record { start = c.args.a; bytes = c.args.bytes.now } in
    let two : c.index-then-end-from.result.now ≡ get_or c.args.ranges.now.items c.args.i d =
    get_or_read c.args.ranges.now.items c.args.i c.index-then-end-from.result.now (omega arith)
    c.index-then-end-from.ensures d in
    let both : c.in_ok-both.both.items ≡ c.args.bytes.now ++ (get_or c.args.ranges.now.items c.args.i d).bytes =
    c.in_ok-both.ensures ∙ ap (λ bs. c.args.bytes.now ++ bs) (c.bytes.ensures ∙ ap (λ r. r.bytes) two) in
    put_touching c.args.ranges.now.items c.args.i x c.new.result d (omega arith)
    (omega (arith, ap (λ r. r.start) c.index.ensures))
    (c.new.ensures ∙ ap (λ bs. let y : Range = record { start = c.args.a; bytes = bs } in y) both)
