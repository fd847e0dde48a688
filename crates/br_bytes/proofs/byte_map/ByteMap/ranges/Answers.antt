use Rattle.std.proofs.Common.{length, sym, ap, ◌∙◌, arith}
use Rattle.br_bytes.specs.Range.{ranges}
use Rattle.br_bytes.proofs.Seen.{ranges_of}
use Rattle.br_bytes.proofs.Kept.{few_ranges}
use Rattle.br_bytes.proofs.byte_map.ByteMap.ranges.Goals as goal

pub overflow_cast-result : goal.overflow_cast-result
overflow_cast-result c =
    let few = few_ranges c.self.inside.ranges.items 0 c.self.invariant.apart (omega arith) in
    omega (arith, few, ap length c.as_slice.ensures.value)

pub returns : goal.returns
returns c = ap length (c.as_slice.ensures.value ∙ sym (ranges_of c.self.inside.ranges.items 0 c.self.invariant.apart)
    ∙ ap ranges c.self.view_is)
