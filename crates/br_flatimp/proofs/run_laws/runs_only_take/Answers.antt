use Rattle.br_flatimp.proofs.Leaves.{leaves-run, leaves-run_all, leaves-function_of}
use Rattle.br_flatimp.proofs.run_laws.runs_only_take.Goals as goal

pub returns : goal.returns
returns c = record { run = leaves-run; run_all = leaves-run_all; function_of = leaves-function_of }
