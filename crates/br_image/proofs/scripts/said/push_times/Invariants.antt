use Rattle.std.proofs.Common.{◌≡◌, ◌++◌, ◌-◌}
use Rattle.std.specs.Prelude.{replicate}
use Rattle.br_image.proofs.scripts.said.push_times.Given as goal

abbrev pub invariant-loop : goal.invariant-loop
invariant-loop l = l.answers ++ replicate (l.times - l.counter) l.word ≡ l.fn.answers ++ replicate l.times l.word
