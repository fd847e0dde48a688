use Rattle.std.proofs.Common.{◌≡◌, ℕ, List, ◌++◌, Option}
use Rattle.std.specs.Prelude.{Result, Ok, Err, IfOk}
use Rattle.br_base.specs.declared.failure.NoMemory.{NoMemory}
use Rattle.br_image.specs.declared.traces.lines.TraceForm.{TraceForm}
use Rattle.br_image.specs.declared.traces.lines.TraceLine.{TraceLine}
use Rattle.br_image.specs.Forms.{Lacks, IsTail}
use Rattle.br_image.specs.TraceLines.{trace_keyword}
use Rattle.br_image.specs.TraceReading.{IsTraceContent, IsTraceLineOf}
use Rattle.br_image.proofs.Pieces.{Free-lacks}
use Rattle.br_image.proofs.TraceForms.{line_from, line_of_none}
use Rattle.br_image.proofs.traces.parsing.parse_trace_line.Goals as goal

line_read : (r : Result (Option TraceLine) NoMemory) (bytes word tail : List ℕ) (f : TraceForm) → bytes ≡ word ++ tail
    → Lacks 32 word → IsTail tail → word ≡ trace_keyword f
    → IfOk r (IsTraceContent f tail) → IfOk r (IsTraceLineOf bytes)
line_read (Ok o) bytes word tail f e h t w c = line_from bytes word tail f o e (Free-lacks 32 word h) t w c
line_read (Err m) bytes word tail f e h t w c = tt

pub returns-in-None : goal.returns-in-None
returns-in-None c =
    line_of_none c.args.bytes.now c.first_word.result.0.now c.first_word.result.1.now c.first_word.ensures.whole
    (Free-lacks 32 c.first_word.result.0.now c.first_word.ensures.word) c.first_word.ensures.tail c.in-None.ensures.none

pub returns-in-Some : goal.returns-in-Some
returns-in-Some c = line_read c.parse_content.result c.args.bytes.now c.first_word.result.0.now
    c.first_word.result.1.now c.in-Some.form c.first_word.ensures.whole
    c.first_word.ensures.word c.first_word.ensures.tail c.in-Some.ensures.some c.parse_content.ensures
