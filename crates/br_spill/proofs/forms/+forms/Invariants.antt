-- The statements so far are in register form.
use Rattle.std.proofs.Common.{◌≡◌, drop}
use Rattle.std.specs.List.{list_all}
use Rattle.br_flatimp.specs.Parts.{throughout}
use Rattle.br_flatimp.specs.WellFormed.{uses_registers}
use Rattle.br_spill.proofs.forms.+forms.Given as goal

abbrev pub invariant-statements_fit-loop-s : goal.invariant-statements_fit-loop-s
invariant-statements_fit-loop-s l =
    list_all (throughout uses_registers) l.body ≡ list_all (throughout uses_registers) (drop l.s-index l.body)
