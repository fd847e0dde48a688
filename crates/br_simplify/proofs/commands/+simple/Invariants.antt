-- The commands so far.
use Rattle.std.proofs.Common.{◌≡◌, map, take}
use Rattle.br_simplify.specs.Simple.{simple_command}
use Rattle.br_simplify.proofs.commands.+simple.Given as goal

abbrev pub invariant-commands-loop-c : goal.invariant-commands-loop-c
invariant-commands-loop-c l = l.simple ≡ map simple_command (take l.c-index l.cs)
