use Rattle.br_source_meaning.proofs.Given.{longer_lists-run, longer_lists-run_all, longer_lists-function_of}
use Rattle.br_source_meaning.proofs.Given.{longer_lists-call, longer_lists-begins}
use Rattle.br_source_meaning.proofs.laws.longer_lists_stay.Goals as goal

pub returns : goal.returns
returns c = record {
  run = longer_lists-run;
  run_all = longer_lists-run_all;
  function_of = longer_lists-function_of;
  call = longer_lists-call;
  begins = longer_lists-begins;
}
