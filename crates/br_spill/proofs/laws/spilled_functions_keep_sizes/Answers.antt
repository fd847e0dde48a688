use Rattle.br_spill.proofs.Bulk.{function-small, program-small}
use Rattle.br_spill.proofs.Sizes.{nest-grows, callees-stay, buffers-stay}
use Rattle.br_spill.proofs.laws.spilled_functions_keep_sizes.Goals as goal

pub returns : goal.returns
returns c = record {
  flat_bulk = program-small;
  bulk = function-small;
  nest = nest-grows;
  callees = callees-stay;
  buffers = buffers-stay;
}
