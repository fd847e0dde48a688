use Rattle.std.proofs.Common.{◌≡◌, ◌+◌, ◌≤◌, map, length, drop}
use Rattle.std.specs.List.{AllByRecursion}
use Rattle.br_emit.specs.Sizes.{begins, entries, program_words}
use Rattle.br_emit.specs.Buffer.{noted}
use Rattle.br_emit.specs.Registers.{forgets_of}
use Rattle.br_emit.specs.Written.{flagged, Writable, offset_of}
use Rattle.br_emit.specs.Code.{address_of}
use Rattle.br_emit.proofs.places.place_functions.Given as goal

abbrev pub invariant-loop-f : goal.invariant-loop-f
invariant-loop-f l = record {
  n : l.n ≡ l.f-index;
  words : l.place + program_words l.near (forgets_of l.sets) (flagged l.called) l.n (drop l.f-index l.funcs)
      ≡ program_words l.near (forgets_of l.sets) (flagged l.called) 0 l.funcs;
  targets : noted l.targets
      (map address_of (begins l.near (forgets_of l.sets) (flagged l.called) l.place l.n (drop l.f-index l.funcs)))
      ≡ noted l.initial.targets (map address_of (begins l.near (forgets_of l.sets) (flagged l.called) 0 0 l.funcs));
  offsets : noted l.offsets
      (map offset_of (entries l.near (forgets_of l.sets) (flagged l.called) l.place l.n (drop l.f-index l.funcs)))
      ≡ noted l.initial.offsets (map offset_of (entries l.near (forgets_of l.sets) (flagged l.called) 0 0 l.funcs));
  target_room : length (drop l.f-index l.funcs) ≤ l.targets.room;
  offset_room : length (drop l.f-index l.funcs) ≤ l.offsets.room;
  writable : AllByRecursion (Writable l.near (l.lengths.room + length l.lengths.numbers)) (drop l.f-index l.funcs);
  kept : l.lengths.room + length l.lengths.numbers ≡ l.initial.lengths.room + length l.initial.lengths.numbers;
}
