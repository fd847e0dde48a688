-- The names so far, and those of the functions from here on.
use Rattle.std.proofs.Common.{◌≡◌, [], map, drop}
use Rattle.br_flatten.specs.Places.{with_names}
use Rattle.br_flatten.proofs.flattening.numbered.Given as goal

abbrev pub invariant-loop-f : goal.invariant-loop-f
invariant-loop-f l = with_names l.names (map (λ f. f.name) (drop l.f-index l.funcs))
    ≡ with_names [] (map (λ f. f.name) l.funcs)
