use Rattle.std.proofs.Common.{◌<◌, length, below_more, sym, ◌∙◌, arith}
use Rattle.std.proofs.lemmas.Bool.{false≢true}
use Rattle.br_measure.specs.Table.{Leads}
use Rattle.br_measure.proofs.Marking.{unmarked, path_within}
use Rattle.br_measure.proofs.paths.first_recursive.Goals as goal

pub loop-f-preserved : goal.loop-f-preserved
loop-f-preserved c =
    let f = c.loop-f.f in
    let inside : f < length c.in_ok-reached.field-0.items = omega (arith, c.in_ok-reached.ensures.len) in
    let new = unmarked c.in_ok-reached.field-0.items f c.index.result.now inside c.index.ensures c.if-index.false in
    below_more (λ g. Leads c.args.table.now g g → ⊥) f c.loop-f.invariant
    (λ leads. false≢true (sym new ∙ (c.in_ok-reached.ensures.leads f).1 leads))

pub returns : goal.returns
returns c = λ f leads.
    let inside = path_within c.args.table.now c.requires f leads.0 f leads.1 in
    c.loop-f.invariant f (omega (arith, inside)) leads
