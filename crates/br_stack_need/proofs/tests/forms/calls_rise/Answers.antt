use Rattle.std.proofs.Common.{◌≡◌, map, ap, ◌∙◌, arith}
use Rattle.br_flatimp.specs.Parts.{callees}
use Rattle.br_stack_need.proofs.Forms.{no_recursion}
use Rattle.br_stack_need.proofs.tests.forms.calls_rise.Goals as goal

pub returns : goal.returns
returns c = λ _.
    let fs = c.args.p.now.funcs in
    let table = c.as_slice-row-items.result.now in
    let table_is : table ≡ map callees fs = c.as_slice-row-items.ensures ∙ c.in_ok-table.ensures
    ∙ ap (map callees) c.as_slice.ensures in
    no_recursion fs c.args.ranks.now table table_is (λ f inside. c.loop-f.invariant f (omega arith))
