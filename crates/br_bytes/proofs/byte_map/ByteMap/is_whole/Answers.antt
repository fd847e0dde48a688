use Rattle.std.proofs.Common.{sym, ap, ◌∙◌}
use Rattle.std.specs.FinMap as map
use Rattle.br_bytes.specs.Range.{byte_of}
use Rattle.br_bytes.proofs.Kept.{whole_answer}
use Rattle.br_bytes.proofs.Seen.{get_of}
use Rattle.br_bytes.proofs.byte_map.ByteMap.is_whole.Goals as goal

pub returns-else-n-eq0 : goal.returns-else-n-eq0
returns-else-n-eq0 c =
    whole_answer c.covers.result c.as_slice.result.now c.args.self.now c.args.a c.args.n c.requires
    (λ q. ap (λ m. map.get m q) (sym c.self.view_is) ∙ get_of c.self.inside.ranges.items q
    ∙ ap (λ rs. byte_of rs q) (sym c.as_slice.ensures.value)) c.covers.ensures.whole c.covers.ensures.part
