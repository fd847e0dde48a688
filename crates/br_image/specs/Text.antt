-- The lines of an image's text.
use Rattle.std.specs.Prelude.{ℕ, ◌/◌, ◌%◌, List, [], ◌∷◌, ◌++◌, codes}
use Rattle.std.specs.Fmt.{decimal}
use Rattle.br_words.specs.Hexadecimal.{hex_digit}
use Rattle.br_words.specs.declared.layout.Layout.{Layout}
use Rattle.br_words.specs.declared.layout.Layout.TheVariants.{One, Two}
use Rattle.br_image.specs.declared.images.Entry.{Entry}

-- the eight digits of a word
abbrev pub word_text : ℕ → List ℕ
word_text w =
    hex_digit (w / 268435456 % 16) ∷ hex_digit (w / 16777216 % 16) ∷ hex_digit (w / 1048576 % 16)
    ∷ hex_digit (w / 65536 % 16)
    ∷ hex_digit (w / 4096 % 16) ∷ hex_digit (w / 256 % 16) ∷ hex_digit (w / 16 % 16)
    ∷ hex_digit (w % 16) ∷ []

-- the version of the text
abbrev pub version_text : Layout → List ℕ
version_text One = codes "1"
version_text Two = codes "2"

-- what stands in the first line
abbrev pub header_text : Layout → List ℕ
header_text layout = codes "brimage " ++ version_text layout

-- what stands in an entry's line, the fields parted by one space
abbrev pub entry_text : Entry → List ℕ
entry_text e =
    codes "entry " ++ e.name ++ 32 ∷ decimal e.args ++ 32 ∷ decimal e.results
    ++ 32 ∷ decimal e.offset ++ 32 ∷ decimal e.need

-- what stands in the line that tells how many words follow
abbrev pub code_text : ℕ → List ℕ
code_text n = codes "code " ++ decimal n

-- a line is what stands in it and one line feed
abbrev pub line : List ℕ → List ℕ
line text = text ++ 10 ∷ []
