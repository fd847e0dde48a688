-- The units of the statements from here on.
use Rattle.std.proofs.Common.{◌≡◌, ◌+◌, ◌≤◌, min, map, sum, drop}
use Rattle.br_flatimp.specs.Sizes.{added, own_units}
use Rattle.br_flatten.proofs.units.+units.Given as goal

abbrev pub invariant-statements_units-loop-s : goal.invariant-statements_units-loop-s
invariant-statements_units-loop-s l = record {
  most : l.all ≤ 18446744073709551615;
  rest : min (l.all + sum (map (added own_units) (drop l.s-index l.body))) 18446744073709551615
      ≡ min (sum (map (added own_units) l.body)) 18446744073709551615;
}
