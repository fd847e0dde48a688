-- Which lines scripts have, what they say, and what is wrong with bytes that do not begin with one.
use Rattle.std.specs.Prelude.{ℕ, ◌≡◌, ◌+◌, ◌≤◌, List, [], ◌∷◌, ◌++◌, All, length, drop, replicate}
use Rattle.std.specs.List.{flat_map}
use Rattle.br_bytes.specs.declared.run.Choice.{Choice}
use Rattle.br_image.specs.declared.scripts.lines.Form.TheVariants as form
use Rattle.br_image.specs.declared.scripts.lines.ScriptLine.{ScriptLine}
use Rattle.br_image.specs.declared.scripts.lines.ScriptLine.TheVariants.{Call, Args, Mem, Junk}
use Rattle.br_image.specs.declared.scripts.lines.ScriptLine.TheVariants.{Choose, Answer, Limit}
use Rattle.br_image.specs.declared.scripts.order.Part.{Part}
use Rattle.br_image.specs.declared.scripts.order.Part.TheVariants.{One, Many}
use Rattle.br_image.specs.declared.scripts.values.RunScript.{RunScript}
use Rattle.br_image.specs.declared.scripts.values.InterpScript.{InterpScript}
use Rattle.br_image.specs.declared.scripts.values.ScriptFault.{ScriptFault}
use Rattle.br_image.specs.declared.scripts.values.ScriptFault.TheVariants.{BadScriptLine}
use Rattle.br_image.specs.declared.scripts.values.ScriptFault.TheVariants.{ScriptEnds}
use Rattle.br_image.specs.ScriptLines.{form_of, script_line_text, IsScriptLine, most_answers}
use Rattle.br_image.specs.TextLines.{lines_text, IsWrongLine, IsCutOff}

-- the parts of a run script, in order
abbrev pub run_parts : List Part
run_parts =
    One form.Run ∷ One form.Call ∷ One form.Args ∷ Many form.Mem ∷ One form.Junk ∷ Many form.Answer
    ∷ One form.Limit ∷ One form.End ∷ []

-- the parts of an interp script, in order
abbrev pub interp_parts : List Part
interp_parts =
    One form.Interp ∷ One form.Call ∷ One form.Args ∷ Many form.Mem ∷ Many form.Choose
    ∷ Many form.Answer ∷ One form.Limit ∷ One form.End ∷ []

-- lines in the order of these parts
abbrev pub Fits : List Part → List ScriptLine → Type 0
Fits [] lines = lines ≡ []
Fits (One f ∷ parts) lines = (l : ScriptLine) × (more : List ScriptLine) × (lines ≡ l ∷ more)
    × (form_of l ≡ f) × Fits parts more
Fits (Many f ∷ parts) lines = (own : List ScriptLine) × (more : List ScriptLine)
    × (lines ≡ own ++ more) × All (λ l. form_of l ≡ f) own × Fits parts more

-- ---- what lines say

abbrev pub call_in : ScriptLine → List (List ℕ)
call_in (Call name) = name ∷ []
call_in other = []

abbrev pub args_in : ScriptLine → List (List ℕ)
args_in (Args words) = words ∷ []
args_in other = []

abbrev pub mem_in : ScriptLine → List Choice
mem_in (Mem range) = range ∷ []
mem_in other = []

abbrev pub junk_in : ScriptLine → List ℕ
junk_in (Junk word) = word ∷ []
junk_in other = []

abbrev pub choice_in : ScriptLine → List Choice
choice_in (Choose buffer) = buffer ∷ []
choice_in other = []

abbrev pub answers_in : ScriptLine → List ℕ
answers_in (Answer word times) = replicate times word
answers_in other = []

abbrev pub limit_in : ScriptLine → List ℕ
limit_in (Limit n) = n ∷ []
limit_in other = []

-- each range starts at or after the end of the one before it, and the first one from here on
abbrev pub Ascends : ℕ → List Choice → Type 0
Ascends from [] = Unit {0}
Ascends from (c ∷ ranges) = (from ≤ c.addr) × Ascends (c.addr + length c.bytes) ranges

-- ---- scripts

-- the limits of a script's lines
pub record InScriptLimits (lines : List ScriptLine) : Type 0 where
  pub forms : All IsScriptLine lines
  pub ranges : Ascends 0 (flat_map mem_in lines)
  pub few : length (flat_map answers_in lines) ≤ most_answers

-- a script of these parts begins with these lines
pub record BeginsScript (parts : List Part) (lines : List ScriptLine) : Type 0 where
  pub more : List ScriptLine
  pub order : Fits parts (lines ++ more)
  pub limits : InScriptLimits lines

-- the text is a script with these lines and what stands from `at` on
pub record HasScript (parts : List Part) (text : List ℕ) (lines : List ScriptLine)
    (at : ℕ) : Type 0 where
  pub within : at ≤ length text
  pub spelled : text ≡ lines_text script_line_text lines ++ drop at text
  pub order : Fits parts lines
  pub limits : InScriptLimits lines

-- what the lines of a run script say
pub record SaysRun (lines : List ScriptLine) (s : RunScript) : Type 0 where
  pub call : flat_map call_in lines ≡ s.call ∷ []
  pub args : flat_map args_in lines ≡ s.args ∷ []
  pub mem : flat_map mem_in lines ≡ s.mem
  pub junk : flat_map junk_in lines ≡ s.junk ∷ []
  pub answers : flat_map answers_in lines ≡ s.answers
  pub limit : flat_map limit_in lines ≡ s.limit ∷ []

-- what the lines of an interp script say
pub record SaysInterp (lines : List ScriptLine) (s : InterpScript) : Type 0 where
  pub call : flat_map call_in lines ≡ s.call ∷ []
  pub args : flat_map args_in lines ≡ s.args ∷ []
  pub mem : flat_map mem_in lines ≡ s.mem
  pub choices : flat_map choice_in lines ≡ s.choices
  pub answers : flat_map answers_in lines ≡ s.answers
  pub limit : flat_map limit_in lines ≡ s.limit ∷ []

-- the text begins with a script that says this, and goes on at a place
pub record IsRunScript (text : List ℕ) (s : RunScript) (at : ℕ) : Type 0 where
  pub lines : List ScriptLine
  pub script : HasScript run_parts text lines at
  pub says : SaysRun lines s

pub record IsInterpScript (text : List ℕ) (s : InterpScript) (at : ℕ) : Type 0 where
  pub lines : List ScriptLine
  pub script : HasScript interp_parts text lines at
  pub says : SaysInterp lines s

-- why the text does not begin with a script of these parts
abbrev pub IsScriptFault : List Part → List ℕ → ScriptFault → Type 0
IsScriptFault parts text (BadScriptLine n) =
    IsWrongLine script_line_text (BeginsScript parts) (Fits parts) text n
IsScriptFault parts text (ScriptEnds n) =
    IsCutOff script_line_text (BeginsScript parts) (Fits parts) text n
