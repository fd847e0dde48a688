-- The fields of a line, each after one space.
use Rattle.std.specs.Prelude.{ℕ, List, [], ◌∷◌}
use Rattle.std.specs.List.{flat_map}
use Rattle.br_image.specs.Text.{word_text}
use Rattle.br_bytes.specs.Hexadecimal.{bytes_text}

-- a field of bytes, and no field where there are none
abbrev pub bytes_field : List ℕ → List ℕ
bytes_field [] = []
bytes_field (b ∷ bytes) = 32 ∷ bytes_text (b ∷ bytes)

-- a field for each word
abbrev pub word_fields : List ℕ → List ℕ
word_fields words = flat_map (λ w. 32 ∷ word_text w) words
