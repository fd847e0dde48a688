-- The lines of scripts: a first word, and fields that each follow one space.
use Rattle.std.specs.Prelude.{ℕ, ◌≢◌, ◌+◌, ◌<◌, ◌≤◌, ◌^◌, List, [], ◌∷◌, ◌++◌, All, codes, length}
use Rattle.std.specs.Fmt.{decimal}
use Rattle.br_base.specs.Name.{IsName}
use Rattle.br_words.specs.Layout.{data_base, stack_base}
use Rattle.br_bytes.specs.declared.run.Choice.{Choice}
use Rattle.br_image.specs.declared.scripts.lines.Form.{Form}
use Rattle.br_image.specs.declared.scripts.lines.Form.TheVariants as form
use Rattle.br_image.specs.declared.scripts.lines.ScriptLine.{ScriptLine}
use Rattle.br_image.specs.declared.scripts.lines.ScriptLine.TheVariants.{Run, Interp, Call, Args}
use Rattle.br_image.specs.declared.scripts.lines.ScriptLine.TheVariants.{Mem, Junk, Choose}
use Rattle.br_image.specs.declared.scripts.lines.ScriptLine.TheVariants.{Answer, Limit, End}
use Rattle.br_image.specs.Text.{word_text}
use Rattle.br_image.specs.Fields.{bytes_field, word_fields}

-- the first word of a line
abbrev pub keyword : Form → List ℕ
keyword form.Run = codes "brrun"
keyword form.Interp = codes "brinterp"
keyword form.Call = codes "call"
keyword form.Args = codes "args"
keyword form.Mem = codes "mem"
keyword form.Junk = codes "junk"
keyword form.Choose = codes "choice"
keyword form.Answer = codes "answer"
keyword form.Limit = codes "limit"
keyword form.End = codes "end"

abbrev pub form_of : ScriptLine → Form
form_of Run = form.Run
form_of Interp = form.Interp
form_of (Call name) = form.Call
form_of (Args words) = form.Args
form_of (Mem range) = form.Mem
form_of (Junk word) = form.Junk
form_of (Choose buffer) = form.Choose
form_of (Answer word times) = form.Answer
form_of (Limit n) = form.Limit
form_of End = form.End

-- an address and bytes
abbrev pub range_fields : Choice → List ℕ
range_fields c = 32 ∷ (word_text c.addr ++ bytes_field c.bytes)

-- a word, and how often it is given
abbrev pub answer_fields : ℕ → ℕ → List ℕ
answer_fields word times = 32 ∷ (word_text word ++ 32 ∷ decimal times)

-- what stands after the first word
abbrev pub tail_of : ScriptLine → List ℕ
tail_of Run = codes " 1"
tail_of Interp = codes " 1"
tail_of (Call name) = 32 ∷ name
tail_of (Args words) = word_fields words
tail_of (Mem range) = range_fields range
tail_of (Junk word) = 32 ∷ word_text word
tail_of (Choose buffer) = range_fields buffer
tail_of (Answer word times) = answer_fields word times
tail_of (Limit n) = 32 ∷ decimal n
tail_of End = []

-- what stands in a line
abbrev pub script_line_text : ScriptLine → List ℕ
script_line_text l = keyword (form_of l) ++ tail_of l

-- the most answers of a script in all, and the largest limit
abbrev pub most_answers : ℕ
most_answers = 1000000

abbrev pub most_limit : ℕ
most_limit = 1000000

-- an address and bytes
pub record IsBuffer (c : Choice) : Type 0 where
  pub address : c.addr < 2 ^ 32
  pub bytes : All (λ b. b < 256) c.bytes

-- some bytes in the data region
pub record IsRange (c : Choice) : Type 0 where
  pub buffer : IsBuffer c
  pub some : c.bytes ≢ []
  pub low : data_base ≤ c.addr
  pub high : c.addr + length c.bytes ≤ stack_base

pub record IsAnswer (word times : ℕ) : Type 0 where
  pub fits : word < 2 ^ 32
  pub some : 1 ≤ times
  pub most : times ≤ most_answers

-- the fields of a line are in their ranges
abbrev pub IsScriptLine : ScriptLine → Type 0
IsScriptLine Run = Unit {0}
IsScriptLine Interp = Unit {0}
IsScriptLine (Call name) = IsName name
IsScriptLine (Args words) = (length words ≤ 8) × All (λ w. w < 2 ^ 32) words
IsScriptLine (Mem range) = IsRange range
IsScriptLine (Junk word) = word < 2 ^ 32
IsScriptLine (Choose buffer) = IsBuffer buffer
IsScriptLine (Answer word times) = IsAnswer word times
IsScriptLine (Limit n) = n ≤ most_limit
IsScriptLine End = Unit {0}
