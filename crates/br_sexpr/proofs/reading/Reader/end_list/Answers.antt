use Rattle.std.proofs.Common.{refl, arith}
use Rattle.br_sexpr.proofs.Steps.{start-within, took-close}
use Rattle.br_sexpr.proofs.reading.Reader.end_list.Goals as goal

pub split_off-requires : goal.split_off-requires
split_off-requires c =
    let r = c.args.self.now in
    omega (arith, start-within r c.pop.new.self.items c.in-Some.list c.requires c.in-Some.ensures.items, r.trees.ok.0)

pub returns-in_ok-push-in-Some-clause-took : goal.returns-in_ok-push-in-Some-clause-took
returns-in_ok-push-in-Some-clause-took c =
    let cut = c.in_ok-split_off-in-Some.ensures in
    took-close _ _ c.requires c.pop.new.self.items c.in-Some.list c.args.at c.in-Some.ensures.items refl
    (rw (c.in_ok-push-in-Some.ensures.items, cut.items, c.from_vec-items.ensures, cut.tail) refl)
