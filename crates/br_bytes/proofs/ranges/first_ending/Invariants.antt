use Rattle.std.proofs.Common.{◌-◌, ◌≤◌, length, take, drop}
use Rattle.br_bytes.specs.Changes.{after, EndsFrom}
use Rattle.br_bytes.proofs.ranges.first_ending.Given as goal

-- the ranges below `low` end below `at`, and those from `high` on do not
abbrev pub invariant-loop-low : goal.invariant-loop-low
invariant-loop-low l = record {
  ordered : l.low ≤ l.high;
  within : l.high ≤ length l.ranges;
  below : after 0 (take l.low l.ranges) ≤ l.at;
  above : EndsFrom l.at (drop l.high l.ranges);
}

abbrev pub decreases-loop-low : goal.decreases-loop-low
decreases-loop-low l = l.high - l.low
