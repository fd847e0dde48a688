use Rattle.std.proofs.Common.{ℕ, List, ap}
use Rattle.br_syntax.specs.declared.program.Cmd.TheFolds.{fold-Cmd}
use Rattle.br_measure.specs.Paths.{callees_step}
use Rattle.br_measure.specs.Table.{numbers_named}
use Rattle.br_measure.proofs.CalleeParts.{joined_map}
use Rattle.br_measure.proofs.calls.callees.Goals as goal

pub returns : goal.returns
returns c =
    let fs = c.args.index.now.funcs.now in
    let all = joined_map (fold-Cmd (List (List ℕ)) callees_step) c.args.f.now.body in
    rw (c.in_ok-commands.ensures, c.new-found.ensures, c.as_slice.ensures) (ap (numbers_named fs) all)
