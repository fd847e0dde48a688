-- What lines of a script have said, and what was read of one.
use Rattle.std.specs.Prelude.{ℕ, ◌≡◌, ◌≢◌, ◌+◌, ◌≤◌, List, [], ◌∷◌}
use Rattle.std.specs.Prelude.{◌++◌, All, length, Option, Some, None}
use Rattle.std.specs.List.{flat_map}
use Rattle.br_words.specs.Layout.{stack_base}
use Rattle.br_bytes.specs.declared.run.Choice.{Choice}
use Rattle.br_image.specs.declared.scripts.lines.ScriptLine.{ScriptLine}
use Rattle.br_image.specs.declared.scripts.lines.ScriptLine.TheVariants.{Mem, Answer}
use Rattle.br_image.specs.declared.scripts.order.Part.{Part}
use Rattle.br_image.specs.declared.scripts.order.Part.TheVariants.{One, Many}
use Rattle.br_image.specs.declared.scripts.said.Said.{Said}
use Rattle.br_image.specs.ScriptLines.{most_answers}
use Rattle.br_image.specs.Scripts.{Fits, HasScript, call_in, args_in, mem_in}
use Rattle.br_image.specs.Scripts.{junk_in, choice_in, answers_in, limit_in}

-- the last item, and this where there is none
abbrev pub last_from : {X : Type 0} → Option X → List X → Option X
last_from o [] = o
last_from o (x ∷ xs) = last_from (Some x) xs

-- where the last range ends
abbrev pub end_after : ℕ → List Choice → ℕ
end_after from [] = from
end_after from (c ∷ ranges) = end_after (c.addr + length c.bytes) ranges

-- this is what the lines say
pub record Says (lines : List ScriptLine) (said : Said) : Type 0 where
  pub call : last_from None (flat_map call_in lines) ≡ said.call
  pub args : last_from None (flat_map args_in lines) ≡ said.args
  pub mem : flat_map mem_in lines ≡ said.mem
  pub mem_end : end_after 0 (flat_map mem_in lines) ≡ said.mem_end
  pub junk : last_from None (flat_map junk_in lines) ≡ said.junk
  pub choices : flat_map choice_in lines ≡ said.choices
  pub answers : flat_map answers_in lines ≡ said.answers
  pub limit : last_from None (flat_map limit_in lines) ≡ said.limit

-- the line keeps the limits that go over several lines
abbrev pub Allows : Said → ScriptLine → Type 0
Allows said (Mem range) = said.mem_end ≤ range.addr
Allows said (Answer word times) = length said.answers + times ≤ most_answers
Allows said other = Unit {0}

-- the range of a line ends where the data region does, or before
abbrev pub FitsEnd : ScriptLine → Type 0
FitsEnd (Mem range) = range.addr + length range.bytes ≤ stack_base
FitsEnd other = Unit {0}

-- this is what was said when a line was added
pub record Adds (l : ScriptLine) (old new : Said) : Type 0 where
  pub call : new.call ≡ last_from old.call (call_in l)
  pub args : new.args ≡ last_from old.args (args_in l)
  pub mem : new.mem ≡ old.mem ++ mem_in l
  pub mem_end : new.mem_end ≡ end_after old.mem_end (mem_in l)
  pub junk : new.junk ≡ last_from old.junk (junk_in l)
  pub choices : new.choices ≡ old.choices ++ choice_in l
  pub answers : new.answers ≡ old.answers ++ answers_in l
  pub limit : new.limit ≡ last_from old.limit (limit_in l)

-- lines in the order of these parts said this
pub record SaidBy (parts : List Part) (said : Said) : Type 0 where
  pub lines : List ScriptLine
  pub order : Fits parts lines
  pub says : Says lines said

-- the text begins with a script of these parts whose lines said this
pub record HasSaid (parts : List Part) (text : List ℕ) (said : Said) (at : ℕ) : Type 0 where
  pub lines : List ScriptLine
  pub script : HasScript parts text lines at
  pub says : Says lines said

-- a form that may stand any number of times stands in one part, and a part with one line comes last
abbrev pub AreSound : List Part → Type 0
AreSound [] = Unit {0}
AreSound (One f ∷ parts) = AreSound parts
AreSound (Many f ∷ parts) =
    (parts ≢ []) × All (λ p. (p ≢ One f) × (p ≢ Many f)) parts × AreSound parts
