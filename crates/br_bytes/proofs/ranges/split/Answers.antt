use Rattle.std.proofs.Common.{◌≡◌, ◌-◌, drop, get_or, ap, ◌∙◌}
use Rattle.std.proofs.lemmas.List.{get_or_read, take_rest}
use Rattle.br_bytes.specs.Range.{Range}
use Rattle.br_bytes.specs.Changes.{range_from}
use Rattle.br_bytes.proofs.Placed.{split_at}
use Rattle.br_bytes.proofs.ranges.split.Goals as goal

pub returns-clause-ok : goal.returns-clause-ok
returns-clause-ok c d =
    let rs = c.args.ranges.now.items in
    let one : c.index.result.now ≡ get_or rs c.args.i d =
    get_or_read rs c.args.i c.index.result.now c.requires.there c.index.ensures d in
    let two : c.index-2.result.now ≡ get_or rs c.args.i d =
    get_or_read rs c.args.i c.index-2.result.now c.requires.there c.index-2.ensures d in
    let first : c.args.end - c.start.result ≡ c.args.end - (get_or rs c.args.i d).start =
    ap (λ k. c.args.end - k) (c.start.ensures ∙ ap (λ (z : Range). z.start) one) in
    let bytes : c.bytes.result.now ≡ (get_or rs c.args.i d).bytes = c.bytes.ensures ∙ ap (λ (z : Range). z.bytes) two in
    let rest : c.in_ok-rest.rest.items ≡ drop (c.args.end - (get_or rs c.args.i d).start) (get_or rs c.args.i d).bytes =
    c.in_ok-rest.ensures.items ∙ take_rest c.bytes.result.now (c.args.end - c.start.result)
    ∙ ap (λ k. drop k c.bytes.result.now) first ∙ ap (drop (c.args.end - (get_or rs c.args.i d).start)) bytes in
    let second : c.new.result ≡ range_from c.args.end (get_or rs c.args.i d) = c.new.ensures
    ∙ ap (λ bs. let y : Range = record { start = c.args.end; bytes = bs } in y) rest in
    split_at rs c.insert.new.self.items c.args.i c.args.a c.args.end c.index_mut.result.now c.end_at.new.self
    c.new.result d c.requires.there
    c.in_ok-insert.ensures.items c.index_mut.ensures.value c.end_at.ensures second
