use Rattle.std.proofs.Common.{◌≡◌, Some, sym, ◌∙◌}
use Rattle.br_syntax.specs.Functions.{number_named}
use Rattle.br_source_meaning.proofs.Numbers.{at-function}
use Rattle.br_source_meaning.proofs.numbering.target.Goals as goal

pub returns-in-Some : goal.returns-in-Some
returns-in-Some c =
    let found : number_named c.args.index.now.funcs.now c.args.x.now ≡ Some c.in-Some.k =
    rw c.bytes.ensures.value at (sym c.number.ensures ∙ c.in-Some.is) in
    at-function c.args.index.now.funcs.now c.args.x.now c.in-Some.k found
