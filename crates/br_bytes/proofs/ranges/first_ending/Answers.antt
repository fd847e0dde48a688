use Rattle.std.proofs.Common.{◌+◌, ◌-◌, ◌/◌, ◌^◌, ◌≤◌, sym, subst, ap, arith}
use Rattle.br_bytes.specs.Range.{end_of}
use Rattle.br_bytes.proofs.Ranged.{apart_end, after_more}
use Rattle.br_bytes.proofs.ranges.first_ending.Goals as goal

pub end-requires : goal.end-requires
end-requires c =
    subst (λ r. end_of r ≤ 2 ^ 32) (sym c.index-ranges-middle.is)
    (apart_end c.args.ranges.now 0 (c.loop-low.low + (c.loop-low.high - c.loop-low.low) / 2)
    c.index-ranges-middle.result c.requires (omega arith))

pub loop-low-preserved-then-end-at : goal.loop-low-preserved-then-end-at
loop-low-preserved-then-end-at c =
    let more = after_more c.args.ranges.now 0 (c.loop-low.low + (c.loop-low.high - c.loop-low.low) / 2)
    c.index-ranges-middle.result (omega arith) in
    record {
      ordered = omega arith;
      within = c.loop-low.invariant.within;
      below = omega (arith, more, ap end_of c.index-ranges-middle.is, c.end.ensures);
      above = c.loop-low.invariant.above;
    }
