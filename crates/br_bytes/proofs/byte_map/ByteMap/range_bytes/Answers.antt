use Rattle.std.proofs.Common.{◌≡◌, ◌<◌, [], length, get_or, sym, ap, ◌∙◌, arith}
use Rattle.std.proofs.lemmas.List.{get_or_read}
use Rattle.br_bytes.specs.Range.{Range, ranges}
use Rattle.br_bytes.proofs.Seen.{ranges_of}
use Rattle.br_bytes.proofs.byte_map.ByteMap.range_bytes.Goals as goal

pub index-requires : goal.index-requires
index-requires c =
    let runs : ranges c.args.self.now ≡ c.self.inside.ranges.items = ap ranges (sym c.self.view_is)
    ∙ ranges_of c.self.inside.ranges.items 0 c.self.invariant.apart in
    omega (arith, ap length runs)

pub returns : goal.returns
returns c =
    let rs = c.self.inside.ranges.items in
    let none : Range = record { start = 0; bytes = [] } in
    let runs : ranges c.args.self.now ≡ rs = ap ranges (sym c.self.view_is) ∙ ranges_of rs 0 c.self.invariant.apart in
    let h : c.args.i < length rs = omega (arith, ap length runs) in
    c.bytes.ensures ∙ ap (λ (z : Range). z.bytes) (get_or_read rs c.args.i c.index.result.now h c.index.ensures none
    ∙ ap (λ zs. get_or zs c.args.i none) (sym runs))
