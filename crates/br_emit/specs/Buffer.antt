-- What contracts see of code that is being written.
use Rattle.std.specs.Prelude.{ℕ, ◌-◌, List, ◌++◌, length}
use Rattle.br_emit.specs.Code.{Item, words_at}

-- words, and the room for more
pub record Written : Type 0 where
  pub words : List ℕ
  pub room : ℕ

-- with the words of items after them
abbrev pub appended : Written → List Item → Written
appended w items =
    record { words = w.words ++ words_at (length w.words) items; room = w.room - length items }

-- a buffer of code: its words, the offsets of its functions, and the
-- room for more words, functions and calls
pub record Held : Type 0 where
  pub words : List ℕ
  pub offsets : List ℕ
  pub word_room : ℕ
  pub function_room : ℕ
  pub call_room : ℕ

-- numbers, and the room for more
pub record Noted : Type 0 where
  pub numbers : List ℕ
  pub room : ℕ

-- with more numbers after them
abbrev pub noted : Noted → List ℕ → Noted
noted n more = record { numbers = n.numbers ++ more; room = n.room - length more }
