use Rattle.std.proofs.Common.{◌≡◌, ◌++◌, drop}
use Rattle.std.specs.List.{AllByRecursion}
use Rattle.br_base.specs.Name.{IsName}
use Rattle.br_emit.specs.Emitted.{HasFewNames, entries_of}
use Rattle.br_emit.proofs.emission.entries.Given as goal

abbrev pub invariant-loop-f : goal.invariant-loop-f
invariant-loop-f l = record {
  n : l.n ≡ l.f-index;
  entries : l.entries ++ entries_of l.offsets l.needs l.n (drop l.f-index l.funcs)
      ≡ entries_of l.offsets l.needs 0 l.funcs;
  names : AllByRecursion (λ f. IsName f.name) (drop l.f-index l.funcs) → AllByRecursion (λ f. IsName f.name) l.funcs;
  counts : AllByRecursion HasFewNames (drop l.f-index l.funcs);
}
