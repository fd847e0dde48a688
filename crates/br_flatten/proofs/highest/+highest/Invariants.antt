-- The statements from here on.
use Rattle.std.proofs.Common.{◌≡◌, max, min, drop}
use Rattle.std.specs.List.{flat_map}
use Rattle.br_flatimp.specs.Parts.{statement_names}
use Rattle.br_flatten.specs.Flatten.{above}
use Rattle.br_flatten.proofs.highest.+highest.Given as goal

abbrev pub invariant-above_statements-loop-s : goal.invariant-above_statements-loop-s
invariant-above_statements-loop-s l =
    max l.most (min (above (flat_map statement_names (drop l.s-index l.body))) 4294967295)
    ≡ min (above (flat_map statement_names l.body)) 4294967295
