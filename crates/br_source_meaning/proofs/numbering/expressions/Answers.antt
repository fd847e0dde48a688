use Rattle.std.proofs.Common.{◌≡◌, ◌∷◌, [], ◌++◌, arith}
use Rattle.std.proofs.lemmas.Grind.{common_steps}
use Rattle.br_source_meaning.specs.Numbered.{named_expr}
use Rattle.br_source_meaning.proofs.Parts.{numbers-more}
use Rattle.br_source_meaning.proofs.numbering.expressions.Goals as goal

pub loop-e-preserved : goal.loop-e-preserved
loop-e-preserved c =
    let more : c.push.new.self ≡ c.loop-e.numbered ++ c.in_ok-expression.field-0 ∷ [] = grind (arith, common_steps) in
    numbers-more c.args.own.now c.loop-e.own c.expression.new.own named_expr c.loop-e.numbered c.push.new.self
    c.in_ok-expression.field-0 c.args.es.now c.e-item.result c.loop-e.e-index
    more (omega arith) c.e-item.is c.loop-e.invariant c.in_ok-expression.ensures
