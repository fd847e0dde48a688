-- The text of an image.
use Rattle.std.specs.Prelude.{ℕ, List, ◌++◌, codes, length}
use Rattle.std.specs.List.{flat_map}
use Rattle.br_image.specs.declared.images.Entry.{Entry}
use Rattle.br_image.specs.declared.images.Image.{Image}
use Rattle.br_image.specs.Text.{header_text, entry_text, code_text, word_text, line}

abbrev pub entry_lines : List Entry → List ℕ
entry_lines entries = flat_map (λ e. line (entry_text e)) entries

abbrev pub word_lines : List ℕ → List ℕ
word_lines code = flat_map (λ w. line (word_text w)) code

-- the first line, a line for each entry, the number of words, a
-- line for each word, and the last line
unfoldable pub image_text : Image → List ℕ
image_text i =
    line (header_text i.layout) ++ entry_lines i.entries ++ line (code_text (length i.code))
    ++ word_lines i.code ++ line (codes "end")
