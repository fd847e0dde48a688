use Rattle.std.proofs.Common.{◌≡◌, Some, sym, arith}
use Rattle.br_source_meaning.specs.Values.{value, values}
use Rattle.br_source_meaning.specs.Numbered.{named_expr, named_exprs}
use Rattle.br_source_meaning.specs.Running.{names_of, locals_in}
use Rattle.br_source_meaning.proofs.Words.{values-more}
use Rattle.br_source_meaning.proofs.values.values.Goals as goal

pub loop-e-preserved : goal.loop-e-preserved
loop-e-preserved c =
    let own = names_of c.args.variables.now in
    let locals = locals_in c.args.variables.now in
    let m = c.args.memory.now in
    let known : value locals m (named_expr own c.e-item.result) ≡ Some c.in-Some.word = sym c.in-Some.ensures in
    values-more own locals m c.args.es.now c.loop-e.e-index c.e-item.result c.in-Some.word c.loop-e.words.items
    c.push.new.self.items (values locals m (named_exprs own c.args.es.now))
    (omega arith) c.e-item.is known c.in_ok-push-in-Some.ensures.items c.loop-e.invariant
