-- The names so far, and those of the commands from here on.
use Rattle.std.proofs.Common.{◌≡◌, drop}
use Rattle.br_flatten.specs.Places.{commands_variables, with_names}
use Rattle.br_flatten.proofs.places.+places.Given as goal

abbrev pub invariant-commands-loop-c : goal.invariant-commands-loop-c
invariant-commands-loop-c l = with_names l.names (commands_variables (drop l.c-index l.cs))
    ≡ with_names l.initial.names (commands_variables l.cs)
