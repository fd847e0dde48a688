use Rattle.br_spill.proofs.Layouts.{wide-fits, wide-registers, wide-slots, well-formed-spilled}
use Rattle.br_spill.specs.declared.place.Kind.TheVariants.{Wide}
use Rattle.br_spill.proofs.laws.wide_layouts_fit.Goals as goal

pub returns : goal.returns
returns c =
    record { fits = wide-fits; registers = wide-registers; slots = wide-slots; program = well-formed-spilled Wide }
