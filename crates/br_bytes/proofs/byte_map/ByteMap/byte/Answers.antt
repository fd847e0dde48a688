use Rattle.std.proofs.Common.{sym, ap, ◌∙◌}
use Rattle.std.specs.FinMap as map
use Rattle.br_bytes.specs.Range.{byte_of}
use Rattle.br_bytes.proofs.Seen.{get_of}
use Rattle.br_bytes.proofs.byte_map.ByteMap.byte.Goals as goal

pub returns : goal.returns
returns c =
    c.byte_at.ensures ∙ ap (λ rs. byte_of rs c.args.a) c.as_slice.ensures.value
    ∙ sym (get_of c.self.inside.ranges.items c.args.a) ∙ ap (λ m. map.get m c.args.a) c.self.view_is
