use Rattle.br_flatimp.proofs.Lists.{run_all-append, before_all-append, moments-append}
use Rattle.br_flatimp.proofs.laws.lists_have_two_parts.Goals as goal

pub returns : goal.returns
returns c = record { run = run_all-append; before = before_all-append; moments = moments-append }
