use Rattle.std.proofs.Common.{◌≡◌, ◌++◌, drop}
use Rattle.br_machine.specs.State.{byte_of}
use Rattle.br_texts.specs.Memory.{range_lines}
use Rattle.br_texts.proofs.RangeLines.{Inside}
use Rattle.br_texts.proofs.runs.push_ranges.Given as goal

-- the lines so far and those to come are all, and the ranges to come lie in the data region
abbrev pub invariant-loop-range : goal.invariant-loop-range
invariant-loop-range l =
    record {
      so_far : l.text.items ++ range_lines (byte_of l.machine.state) (drop l.range-index l.ranges)
          ≡ l.fn.text.items ++ range_lines (byte_of l.machine.state) l.ranges;
      inside : Inside (drop l.range-index l.ranges);
    }
