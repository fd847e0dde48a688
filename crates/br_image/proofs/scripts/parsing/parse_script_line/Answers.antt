use Rattle.std.proofs.Common.{◌≡◌, ℕ, List, ◌++◌, Option}
use Rattle.std.specs.Prelude.{Result, Ok, Err, IfOk}
use Rattle.br_base.specs.declared.failure.NoMemory.{NoMemory}
use Rattle.br_image.specs.declared.scripts.lines.Form.{Form}
use Rattle.br_image.specs.declared.scripts.lines.ScriptLine.{ScriptLine}
use Rattle.br_image.specs.Forms.{Lacks, IsTail}
use Rattle.br_image.specs.ScriptLines.{keyword}
use Rattle.br_image.specs.ScriptReading.{IsContent, IsScriptLineOf}
use Rattle.br_image.proofs.Pieces.{Free-lacks}
use Rattle.br_image.proofs.ScriptForms.{line_from, line_of_none}
use Rattle.br_image.proofs.scripts.parsing.parse_script_line.Goals as goal

line_read : (r : Result (Option ScriptLine) NoMemory) (bytes word tail : List ℕ) (f : Form) → bytes ≡ word ++ tail
    → Lacks 32 word → IsTail tail → word ≡ keyword f
    → IfOk r (IsContent f tail) → IfOk r (IsScriptLineOf bytes)
line_read (Ok o) bytes word tail f e h t w c = line_from bytes word tail f o e (Free-lacks 32 word h) t w c
line_read (Err m) bytes word tail f e h t w c = tt

pub returns-in-None : goal.returns-in-None
returns-in-None c =
    line_of_none c.args.bytes.now c.first_word.result.0.now c.first_word.result.1.now c.first_word.ensures.whole
    (Free-lacks 32 c.first_word.result.0.now c.first_word.ensures.word) c.first_word.ensures.tail c.in-None.ensures.none

pub returns-in-Some : goal.returns-in-Some
returns-in-Some c = line_read c.parse_content.result c.args.bytes.now c.first_word.result.0.now
    c.first_word.result.1.now c.in-Some.form c.first_word.ensures.whole
    c.first_word.ensures.word c.first_word.ensures.tail c.in-Some.ensures.some c.parse_content.ensures
