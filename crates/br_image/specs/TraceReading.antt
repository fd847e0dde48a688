-- What reading a line of a trace text answers.
use Rattle.std.specs.Prelude.{ℕ, ◌≡◌, ◌≢◌, List, Option, Some, None}
use Rattle.br_image.specs.declared.traces.lines.TraceForm.{TraceForm}
use Rattle.br_image.specs.declared.traces.lines.TraceLine.{TraceLine}
use Rattle.br_image.specs.TraceLines.{trace_form_of, trace_tail, trace_line_text, IsTraceLine}

-- the line of a form that has this after its first word, if there is one
abbrev pub IsTraceContent : TraceForm → List ℕ → Option TraceLine → Type 0
IsTraceContent f tail (Some l) = (trace_form_of l ≡ f) × IsTraceLine l × (tail ≡ trace_tail l)
IsTraceContent f tail None = (l : TraceLine) → trace_form_of l ≡ f → IsTraceLine l
    → tail ≢ trace_tail l

-- the line that some bytes are, if they are one
abbrev pub IsTraceLineOf : List ℕ → Option TraceLine → Type 0
IsTraceLineOf bytes (Some l) = IsTraceLine l × (bytes ≡ trace_line_text l)
IsTraceLineOf bytes None = (l : TraceLine) → IsTraceLine l → bytes ≢ trace_line_text l
