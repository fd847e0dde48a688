-- The words so far stand before those of the variables that follow.
use Rattle.std.proofs.Common.{◌≡◌, ◌++◌, drop}
use Rattle.std.specs.Option.{option_map}
use Rattle.br_source_meaning.specs.Calls.{words_of}
use Rattle.br_source_meaning.specs.Running.{state_of}
use Rattle.br_source_meaning.proofs.running.Running.named_results.Given as goal

abbrev pub invariant-loop-x : goal.invariant-loop-x
invariant-loop-x l =
    words_of l.xs (state_of l.self).locals
    ≡ option_map (λ vs. l.words ++ vs) (words_of (drop l.x-index l.xs) (state_of l.self).locals)
