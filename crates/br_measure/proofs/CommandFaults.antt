-- The faults of names in a choice.
use Rattle.std.proofs.Common.{◌≡◌, List, ◌++◌, sym, ap, ◌∙◌}
use Rattle.br_syntax.specs.declared.program.Expr.{Expr}
use Rattle.br_syntax.specs.declared.program.Cmd.{Cmd}
use Rattle.br_syntax.specs.declared.program.Cmd.TheVariants.{If, rolls-If}
use Rattle.br_syntax.specs.declared.program.Cmd.TheOpen.{Cmd-F}
use Rattle.br_syntax.specs.declared.program.Cmd.TheFolds.{fold-roll-Cmd}
use Rattle.br_syntax.specs.declared.program.Func.{Func}
use Rattle.br_measure.specs.declared.faults.NameFault.{NameFault}
use Rattle.br_measure.specs.Names.{faults_step, command_faults, commands_faults}
use Rattle.br_measure.specs.Lowest.{lower, lowest}
use Rattle.br_measure.proofs.LowestParts.{lowest_append}

faults_of_choice : (fs : List Func) (e : Expr) (first second : List Cmd) → command_faults fs (If e first second)
    ≡ commands_faults fs first ++ commands_faults fs second
faults_of_choice fs e first second = ap (command_faults fs) (sym (rolls-If e first second))
    ∙ fold-roll-Cmd (List NameFault) (faults_step fs) (Cmd-F.If e first second)

pub lowest_of_choice : (fs : List Func) (e : Expr) (first second : List Cmd)
    → lowest (command_faults fs (If e first second))
    ≡ lower (lowest (commands_faults fs first)) (lowest (commands_faults fs second))
lowest_of_choice fs e first second = ap lowest (faults_of_choice fs e first second)
    ∙ lowest_append (commands_faults fs first) (commands_faults fs second)
