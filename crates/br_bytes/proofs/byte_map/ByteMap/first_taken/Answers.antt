use Rattle.std.proofs.Common.{sym, ap, ◌∙◌}
use Rattle.std.specs.FinMap as map
use Rattle.br_bytes.specs.Range.{byte_of}
use Rattle.br_bytes.proofs.Kept.{first_answer}
use Rattle.br_bytes.proofs.Seen.{get_of}
use Rattle.br_bytes.proofs.byte_map.ByteMap.first_taken.Goals as goal

pub returns-clause-taken : goal.returns-clause-taken
returns-clause-taken c =
    first_answer c.first_within.result c.as_slice.result.now c.args.self.now c.args.a c.args.n
    (λ q. ap (λ m. map.get m q) (sym c.self.view_is) ∙ get_of c.self.inside.ranges.items q
    ∙ ap (λ rs. byte_of rs q) (sym c.as_slice.ensures.value)) c.first_within.ensures.inside
    c.first_within.ensures.there c.first_within.ensures.first

pub returns-clause-free : goal.returns-clause-free
returns-clause-free c e q l h =
    ap (λ m. map.get m q) (sym c.self.view_is) ∙ get_of c.self.inside.ranges.items q
    ∙ ap (λ rs. byte_of rs q) (sym c.as_slice.ensures.value) ∙ c.first_within.ensures.none e q l h
