-- The lowest of faults of names, computed.
use Rattle.std.specs.Prelude.{List, [], ◌∷◌, Option, Some, None}
use Rattle.br_base.specs.Faults.{lower_by}
use Rattle.br_measure.specs.declared.faults.NameFault.{NameFault}
use Rattle.br_measure.specs.Names.{place}

-- the lower of two faults
abbrev pub lower_of : NameFault → NameFault → NameFault
lower_of = lower_by place

-- the lower of two, where each may be none
abbrev pub lower : Option NameFault → Option NameFault → Option NameFault
lower None g = g
lower (Some f) None = Some f
lower (Some f) (Some g) = Some (lower_of f g)

-- the lowest of faults, or none where there is none
abbrev pub lowest : List NameFault → Option NameFault
lowest [] = None
lowest (f ∷ fs) = lower (Some f) (lowest fs)
