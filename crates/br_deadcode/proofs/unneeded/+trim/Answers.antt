use Rattle.std.proofs.Common.{List, Some, sym, ap, ◌∙◌}
use Rattle.br_flatimp.specs.declared.program.Stmt.{Stmt}
use Rattle.br_flatimp.specs.declared.program.Stmt.TheVariants.{If, Loop}
use Rattle.br_flatimp.specs.Values.{Names}
use Rattle.br_deadcode.specs.Unneeded.{listed, trim, trimmed}
use Rattle.br_deadcode.proofs.Trims.{trim-if, trim-loop}
use Rattle.br_deadcode.proofs.unneeded.+trim.Goals as goal

pub trim_one-returns-in_ok-second-in-If : goal.trim_one-returns-in_ok-second-in-If
trim_one-returns-in_ok-second-in-If t c =
    let set : Names = listed c.args.bits.now in
    ap (λ (cs : List Stmt). Some (If c.in-If.test cs c.in_ok-second-in-If.second))
    (c.in_ok-first-in-If.ensures ∙ ap (trimmed set) c.as_slice-in-If.ensures)
    ∙ ap (λ (cs : List Stmt). Some (If c.in-If.test (trimmed set c.in-If.first) cs))
    (c.in_ok-second-in-If.ensures ∙ ap (trimmed set) c.as_slice-in-If-2.ensures)
    ∙ sym (trim-if c.in-If.test c.in-If.first c.in-If.second set) ∙ ap (trim set) (sym c.in-If.is)

pub trim_one-returns-in_ok-last-in-Loop : goal.trim_one-returns-in_ok-last-in-Loop
trim_one-returns-in_ok-last-in-Loop t c =
    let set : Names = listed c.args.bits.now in
    ap (λ (cs : List Stmt). Some (Loop cs c.in-Loop.test c.in_ok-last-in-Loop.last))
    (c.in_ok-first-in-Loop.ensures ∙ ap (trimmed set) c.as_slice-in-Loop.ensures)
    ∙ ap (λ (cs : List Stmt). Some (Loop (trimmed set c.in-Loop.first) c.in-Loop.test cs))
    (c.in_ok-last-in-Loop.ensures ∙ ap (trimmed set) c.as_slice-in-Loop-2.ensures)
    ∙ sym (trim-loop c.in-Loop.first c.in-Loop.test c.in-Loop.last set) ∙ ap (trim set) (sym c.in-Loop.is)
