use Rattle.br_flatimp.specs.Runs.{forgets_none}
use Rattle.br_flatimp.proofs.Forgetting.{forgetting-refines}
use Rattle.br_flatimp.proofs.laws.forgetting_refines.Goals as goal

pub returns : goal.returns
returns c = record {
  usual = λ forgets fs h. forgetting-refines forgets forgets_none fs h;
  less = forgetting-refines;
}
