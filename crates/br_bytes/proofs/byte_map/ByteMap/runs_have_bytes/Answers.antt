use Rattle.std.proofs.Common.{◌≡◌, sym, subst, ap, ◌∙◌}
use Rattle.std.specs.FinMap as map
use Rattle.br_bytes.specs.Range.{byte_of, AreApart, ranges}
use Rattle.br_bytes.proofs.Seen.{get_of, ranges_of}
use Rattle.br_bytes.proofs.byte_map.ByteMap.runs_have_bytes.Goals as goal

pub returns-clause-bytes : goal.returns-clause-bytes
returns-clause-bytes c q =
    let runs : ranges c.args.self.now ≡ c.self.inside.ranges.items = ap ranges (sym c.self.view_is)
    ∙ ranges_of c.self.inside.ranges.items 0 c.self.invariant.apart in
    ap (λ m. map.get m q) (sym c.self.view_is) ∙ get_of c.self.inside.ranges.items q
    ∙ ap (λ rs. byte_of rs q) (sym runs)

pub returns-clause-apart : goal.returns-clause-apart
returns-clause-apart c =
    let runs : ranges c.args.self.now ≡ c.self.inside.ranges.items = ap ranges (sym c.self.view_is)
    ∙ ranges_of c.self.inside.ranges.items 0 c.self.invariant.apart in
    subst (AreApart 0) (sym runs) c.self.invariant.apart
