use Rattle.std.proofs.Common.{◌≡◌, ◌+◌, drop}
use Rattle.br_flatimp.specs.Sizes.{flat_bulk}
use Rattle.br_emit.proofs.room.most_words.Given as goal

abbrev pub invariant-loop-f : goal.invariant-loop-f
invariant-loop-f l = l.words + flat_bulk (drop l.f-index l.funcs) ≡ flat_bulk l.funcs
