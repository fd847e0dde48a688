-- What is said of a fault, and which of two faults is the fault.
use Rattle.std.specs.Prelude.{ℕ, ⊤, nat_le, if◌then◌else◌}
use Rattle.br_base.specs.declared.failure.OrMemory.{OrMemory}
use Rattle.br_base.specs.declared.failure.OrMemory.TheVariants.{Memory, Fault}

-- this holds of the fault; of want of memory nothing is said
abbrev pub IfFault : {F : Type 0} → OrMemory F → (F → Type 0) → Type 0
IfFault Memory P = ⊤
IfFault (Fault fault) P = P fault

-- the one of two faults that stands first by their places, and the first of two at one place
abbrev pub lower_by : {F : Type 0} → (F → ℕ) → F → F → F
lower_by place f g = if nat_le (place f) (place g) then f else g
