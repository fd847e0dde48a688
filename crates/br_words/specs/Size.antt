-- How many bytes an access to memory moves.
use Rattle.std.specs.Prelude.{ℕ}
use Rattle.br_words.specs.declared.size.Size.{Size}
use Rattle.br_words.specs.declared.size.Size.TheVariants.{One, Two, Four}

-- the number of bytes
abbrev pub size_of : Size → ℕ
size_of One = 1
size_of Two = 2
size_of Four = 4
