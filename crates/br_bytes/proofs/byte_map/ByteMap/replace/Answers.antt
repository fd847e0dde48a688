use Rattle.std.proofs.Common.{◌≡◌, is_some, IsTrue, sym, subst, ap, ◌∙◌}
use Rattle.std.specs.FinMap as map
use Rattle.br_bytes.specs.Range.{byte_of, memory_of}
use Rattle.br_bytes.proofs.Seen.{get_of}
use Rattle.br_bytes.proofs.Kept.{Kept, replaced_memory, replaced_kept}
use Rattle.br_bytes.proofs.byte_map.ByteMap.replace.Goals as goal

pub put_byte-requires-clause-there : goal.put_byte-requires-clause-there
put_byte-requires-clause-there c =
    let seen : map.get c.args.self.now c.args.a ≡ byte_of c.self.inside.ranges.items c.args.a =
    ap (λ m. map.get m c.args.a) (sym c.self.view_is) ∙ get_of c.self.inside.ranges.items c.args.a in
    subst (λ o. IsTrue (is_some o)) seen c.requires

pub invariant_of-self : goal.invariant_of-self
invariant_of-self c =
    let rs = c.self.inside.ranges.items in
    let seen : map.get c.args.self.now c.args.a ≡ byte_of rs c.args.a =
    ap (λ m. map.get m c.args.a) (sym c.self.view_is) ∙ get_of rs c.args.a in
    let there = subst (λ o. IsTrue (is_some o)) seen c.requires in
    subst Kept (sym c.put_byte.ensures)
    (replaced_kept rs c.args.a c.args.b c.self.invariant there c.ranges.a.fits c.ranges.b.fits)

pub returns : goal.returns
returns c =
    let rs = c.self.inside.ranges.items in
    let seen : map.get c.args.self.now c.args.a ≡ byte_of rs c.args.a =
    ap (λ m. map.get m c.args.a) (sym c.self.view_is) ∙ get_of rs c.args.a in
    let there = subst (λ o. IsTrue (is_some o)) seen c.requires in
    ap memory_of c.put_byte.ensures ∙ replaced_memory rs c.args.a c.args.b c.self.invariant.apart there
    ∙ ap (λ m. map.insert m c.args.a c.args.b) c.self.view_is
