use Rattle.std.proofs.Common.{◌≡◌, ◌∷◌, [], ◌++◌, arith}
use Rattle.std.proofs.lemmas.Grind.{common_steps}
use Rattle.br_source_meaning.specs.Names.{name_at, names_at}
use Rattle.br_source_meaning.proofs.Parts.{numbers-more, numbers-all}
use Rattle.br_source_meaning.proofs.numbering.variables.Goals as goal

pub loop-x-preserved : goal.loop-x-preserved
loop-x-preserved c =
    let more : c.push.new.self ≡ c.loop-x.numbered ++ c.in_ok-number.field-0 ∷ [] = grind (arith, common_steps) in
    numbers-more c.args.own.now c.loop-x.own c.number.new.self name_at c.loop-x.numbered c.push.new.self
    c.in_ok-number.field-0 c.args.xs.now c.x-item.result c.loop-x.x-index
    more (omega arith) c.x-item.is c.loop-x.invariant c.in_ok-number.ensures

pub returns : goal.returns
returns c =
    numbers-all c.args.own.now c.loop-x.own (λ later. names_at later c.loop-x.numbered) c.args.xs.now c.loop-x.x-index
    (omega arith) c.loop-x.invariant
