use Rattle.std.proofs.Common.{◌≡◌, Err}
use Rattle.br_base.specs.declared.failure.OrMemory.TheVariants.{Fault}
use Rattle.br_texts.proofs.Apart.{not_free}
use Rattle.br_texts.proofs.ranges.add_range.Goals as goal

-- where a range begins there is no byte, and after it neither
pub unreachable-requires : goal.unreachable-requires
unreachable-requires c =
    let o = c.in-Err-Fault.field-0-0 in
    let is : c.add_range.result ≡ Err (Fault o) = cc in
    let first = c.add_range.ensures.overlap o is in
    not_free c.args.memory.now o.0 (c.requires.free o.0 first.0) first.2
