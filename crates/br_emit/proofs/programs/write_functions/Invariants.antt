use Rattle.std.proofs.Common.{◌≡◌, ◌+◌, ◌≤◌, length, drop}
use Rattle.std.specs.List.{AllByRecursion}
use Rattle.br_emit.specs.Code.{AllFit}
use Rattle.br_emit.specs.Buffer.{appended}
use Rattle.br_emit.specs.Ready.{aimed}
use Rattle.br_emit.specs.Registers.{forgets_of}
use Rattle.br_emit.specs.Written.{rest_items, flagged, Writable}
use Rattle.br_emit.proofs.programs.write_functions.Given as goal

abbrev pub invariant-loop-f : goal.invariant-loop-f
invariant-loop-f l = record {
  n : l.n ≡ l.f-index;
  code : appended
      l.code (rest_items (aimed l.targets) (forgets_of l.sets) (flagged l.called) l.n (drop l.f-index l.funcs))
      ≡ appended l.initial.code (rest_items (aimed l.targets) (forgets_of l.sets) (flagged l.called) 0 l.funcs);
  fit : AllFit (rest_items (aimed l.targets) (forgets_of l.sets) (flagged l.called) l.n (drop l.f-index l.funcs))
      → AllFit (rest_items (aimed l.targets) (forgets_of l.sets) (flagged l.called) 0 l.funcs);
  room : length (rest_items (aimed l.targets) (forgets_of l.sets) (flagged l.called) l.n (drop l.f-index l.funcs))
      ≤ l.code.room;
  few : length (rest_items (aimed l.targets) (forgets_of l.sets) (flagged l.called) l.n (drop l.f-index l.funcs))
      ≤ 1048576;
  writable : AllByRecursion (Writable l.targets.near (l.lengths.room + length l.lengths.numbers))
      (drop l.f-index l.funcs);
  kept : l.lengths.room + length l.lengths.numbers ≡ l.initial.lengths.room + length l.initial.lengths.numbers;
}
