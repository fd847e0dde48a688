-- The count so far, and those that follow.
use Rattle.std.proofs.Common.{◌≡◌, ◌+◌, ◌≤◌, drop, map}
use Rattle.std.specs.Prelude.{min, sum}
use Rattle.br_flatimp.specs.Sizes.{statement_count}
use Rattle.br_regalloc_check.proofs.count.+count.Given as goal

abbrev pub invariant-counted_all-loop-s : goal.invariant-counted_all-loop-s
invariant-counted_all-loop-s l = record {
  capped : l.n ≤ 4294967296;
  same : min 4294967296 (l.n + sum (map statement_count (drop l.s-index l.body)))
      ≡ min 4294967296 (sum (map statement_count l.body));
}
