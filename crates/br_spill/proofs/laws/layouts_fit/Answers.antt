use Rattle.br_spill.proofs.Layouts.{layout-fits, few-slots, program-narrow, well-formed-spilled}
use Rattle.br_spill.specs.declared.place.Kind.TheVariants.{Narrow}
use Rattle.br_spill.proofs.laws.layouts_fit.Goals as goal

pub returns : goal.returns
returns c =
    record { fits = layout-fits; few = few-slots; program = well-formed-spilled Narrow; narrow = program-narrow }
