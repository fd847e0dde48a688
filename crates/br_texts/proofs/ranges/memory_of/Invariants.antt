use Rattle.std.proofs.Common.{◌≡◌, drop}
use Rattle.br_machine.specs.Start.{IsInData}
use Rattle.br_texts.specs.Memory.{memory_of, with_ranges}
use Rattle.br_texts.proofs.Apart.{Ahead}
use Rattle.br_texts.proofs.ranges.memory_of.Given as goal

-- the ranges so far are in the memory, and those to come begin where it has no byte
abbrev pub invariant-loop-range : goal.invariant-loop-range
invariant-loop-range l =
    record {
      so_far : with_ranges l.memory (drop l.range-index l.ranges) ≡ memory_of l.ranges;
      inside : IsInData l.memory;
      ahead : Ahead l.memory (drop l.range-index l.ranges);
    }
