use Rattle.std.proofs.Common.{◌≡◌, Some, None, sym, ◌∙◌, arith}
use Rattle.br_syntax.specs.Functions.{number_named}
use Rattle.br_measure.proofs.Duplicates.{stands_below, duplicate_found, duplicate_none, duplicate_unknown}
use Rattle.br_measure.proofs.names.duplicate.Goals as goal

pub returns-then-first-i : goal.returns-then-first-i
returns-then-first-i c =
    let fs = c.args.index.now.funcs.now in
    let inside = stands_below fs c.args.i c.args.f.now c.requires in
    let is : number_named fs c.args.f.now.name ≡ Some c.in-Some.first =
    rw c.bytes.ensures.value at (sym c.number.ensures ∙ c.in-Some.is) in
    duplicate_found fs c.args.i c.args.f.now (omega (arith, inside)) c.in-Some.first is (omega arith)

pub returns-else-first-i : goal.returns-else-first-i
returns-else-first-i c =
    let fs = c.args.index.now.funcs.now in
    let inside = stands_below fs c.args.i c.args.f.now c.requires in
    let is : number_named fs c.args.f.now.name ≡ Some c.in-Some.first =
    rw c.bytes.ensures.value at (sym c.number.ensures ∙ c.in-Some.is) in
    duplicate_none fs c.args.i c.args.f.now (omega (arith, inside)) c.in-Some.first is (omega arith)

pub returns-in-None : goal.returns-in-None
returns-in-None c =
    let fs = c.args.index.now.funcs.now in
    let inside = stands_below fs c.args.i c.args.f.now c.requires in
    let is : number_named fs c.args.f.now.name ≡ None =
    rw c.bytes.ensures.value at (sym c.number.ensures ∙ c.in-None.is) in
    duplicate_unknown fs c.args.i c.args.f.now (omega (arith, inside)) is
