-- The listing of an image: a line for each word, and before it a
-- line for each function that begins there.
use Rattle.std.specs.Prelude.{ℕ, ◌+◌, ◌*◌, nat_eq, List, ◌∷◌, ◌++◌, codes, Option, Some, None}
use Rattle.std.specs.List.{filter, flat_map, enumerate_from}
use Rattle.br_words.specs.declared.layout.Layout.{Layout}
use Rattle.br_words.specs.Layout.{code_base}
use Rattle.br_rv32im.specs.declared.instruction.Ins.{Ins}
use Rattle.br_rv32im.specs.Row.{row_of}
use Rattle.br_rv32im.specs.Listing.{listing_of}
use Rattle.br_image.specs.declared.images.Entry.{Entry}
use Rattle.br_image.specs.declared.images.Image.{Image}
use Rattle.br_image.specs.Text.{word_text, line}

-- the line of a function: its name and a colon
abbrev pub label : Entry → List ℕ
label e = line (e.name ++ codes ":")

-- the lines of the functions that begin at an offset, in the order of the entries
abbrev pub labels_at : List Entry → ℕ → List ℕ
labels_at entries offset = flat_map label (filter (λ e. nat_eq e.offset offset) entries)

-- the text of an instruction, and `.word` where there is none
abbrev pub text_or_word : Option Ins → List ℕ
text_or_word (Some i) = listing_of i
text_or_word None = codes ".word"

-- the line of a word: its address, the word, and the text of the instruction that it is
abbrev pub word_line : ℕ → ℕ → List ℕ
word_line address word =
    line (word_text address ++ 32 ∷ (word_text word ++ 32 ∷ text_or_word (row_of word)))

-- what stands for the word at a place: the functions that begin there, and its line
abbrev pub lines_at : Layout → List Entry → ℕ × ℕ → List ℕ
lines_at layout entries p =
    labels_at entries (4 * p.0) ++ word_line (code_base layout + 4 * p.0) p.1

-- the listing of all words in order
unfoldable pub list_text : Image → List ℕ
list_text i = flat_map (lines_at i.layout i.entries) (enumerate_from 0 i.code)
