use Rattle.std.proofs.Common.{[], ◌≤◌, length, subst, sym, arith}
use Rattle.br_flatten.proofs.Members.{plain-made, chosen-made, holding-names}
use Rattle.br_flatten.proofs.flattening.function.Goals as goal

pub returns-then-is_empty : goal.returns-then-is_empty
returns-then-is_empty c =
    plain-made c.args.functions.now.funcs.now c.args.f.now c.in_ok-variables.variables
    c.in_ok-plain.plain c.in_ok-variables.ensures c.in_ok-plain.ensures

pub holding-requires-clause-names : goal.holding-requires-clause-names
holding-requires-clause-names c =
    holding-names c.args.functions.now.funcs.now c.args.f.now c.in_ok-variables.variables [] 4294967295
    c.in_ok-variables.ensures (c.requires.names [] (omega arith))

pub holding-requires-2-clause-names : goal.holding-requires-2-clause-names
holding-requires-2-clause-names c =
    let few = subst (λ ns. length ns ≤ 8) (sym c.as_slice-3.ensures) c.in_ok-held.ensures in
    holding-names c.args.functions.now.funcs.now c.args.f.now c.in_ok-variables.variables
    c.as_slice-3.result.now 4294967295
    c.in_ok-variables.ensures (c.requires.names c.as_slice-3.result.now few)

pub returns-then-is_no_larger : goal.returns-then-is_no_larger
returns-then-is_no_larger c =
    let few = subst (λ ns. length ns ≤ 8) (sym c.as_slice-3.ensures) c.in_ok-held.ensures in
    chosen-made c.args.functions.now.funcs.now c.args.f.now c.in_ok-variables.variables
    c.as_slice-3.result.now c.in_ok-chosen.chosen c.in_ok-plain.plain
    c.in_ok-variables.ensures c.in_ok-chosen.ensures c.in_ok-plain.ensures few
    (c.is_no_larger.ensures c.if-is_no_larger.true)

pub returns : goal.returns
returns c =
    plain-made c.args.functions.now.funcs.now c.args.f.now c.in_ok-variables.variables
    c.in_ok-plain.plain c.in_ok-variables.ensures c.in_ok-plain.ensures
