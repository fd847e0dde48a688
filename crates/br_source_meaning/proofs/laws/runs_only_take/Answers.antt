use Rattle.br_source_meaning.proofs.Leaves.{leaves-run, leaves-run_all, leaves-function_of}
use Rattle.br_source_meaning.proofs.laws.runs_only_take.Goals as goal

pub returns : goal.returns
returns c = record { run = leaves-run; run_all = leaves-run_all; function_of = leaves-function_of }
