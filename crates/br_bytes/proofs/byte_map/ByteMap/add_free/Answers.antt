use Rattle.std.proofs.Common.{◌<◌, length, ap, ◌∙◌, arith}
use Rattle.std.proofs.lemmas.Bool.Decides.{nat_tests}
use Rattle.std.specs.FinMap as map
use Rattle.br_bytes.specs.Memory.{with_bytes}
use Rattle.br_bytes.specs.Range.{Range, memory_of}
use Rattle.br_bytes.specs.Changes.{added}
use Rattle.br_bytes.proofs.Away.{free_is_none}
use Rattle.br_bytes.proofs.Kept.{added_memory, added_kept, either_kept}
use Rattle.br_bytes.proofs.Placed.{on_ok}
use Rattle.br_bytes.proofs.byte_map.ByteMap.add_free.Goals as goal

pub invariant_of-self : goal.invariant_of-self
invariant_of-self c =
    let rs = c.self.inside.ranges.items in
    let x : Range = record { start = c.args.a; bytes = c.args.bytes.now } in
    let is_not = c.if-is_empty.ensures in
    let some : 0 < length c.args.bytes.now = grind (arith, nat_tests, is_not) in
    either_kept c.add.result c.add.new.ranges.items (added x rs) rs c.add.ensures.ok c.add.ensures.err
    (added_kept x rs c.self.invariant some c.requires.within (λ i. (c.type_inv.bytes i).fits)
    (λ q l h. ap (λ m. map.get m q) c.self.view_is
    ∙ free_is_none c.args.bytes.now c.args.self.now c.args.a q c.requires.free l h)) c.self.invariant

pub returns-clause-ok : goal.returns-clause-ok
returns-clause-ok c =
    let rs = c.self.inside.ranges.items in
    let x : Range = record { start = c.args.a; bytes = c.args.bytes.now } in
    on_ok c.add.result c.add.ensures.ok (λ is. ap memory_of is ∙ added_memory x rs c.requires.within
    ∙ ap (λ m. with_bytes m c.args.a c.args.bytes.now) c.self.view_is)
