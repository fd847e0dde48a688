-- The words so far stand before those of the variables that follow.
use Rattle.std.proofs.Common.{◌≡◌, ◌++◌, drop}
use Rattle.std.specs.Option.{option_map}
use Rattle.br_source_meaning.specs.Calls.{words_of}
use Rattle.br_source_meaning.specs.Names.{names_at}
use Rattle.br_source_meaning.specs.Running.{own_of, state_of}
use Rattle.br_source_meaning.proofs.running.Running.results.Given as goal

abbrev pub invariant-loop-k : goal.invariant-loop-k
invariant-loop-k l =
    words_of (names_at (own_of l.self) l.ks) (state_of l.self).locals
    ≡ option_map (λ vs. l.words ++ vs)
    (words_of (names_at (own_of l.self) (drop l.k-index l.ks)) (state_of l.self).locals)
