-- The lines of trace texts: a first word, and fields that each follow one space.
use Rattle.std.specs.Prelude.{ℕ, ◌<◌, ◌≤◌, ◌^◌, List, [], ◌∷◌, ◌++◌, All, codes, length}
use Rattle.br_image.specs.declared.traces.lines.Cause.{Cause}
use Rattle.br_image.specs.declared.traces.lines.Cause.TheVariants.{Illegal, FetchOutside}
use Rattle.br_image.specs.declared.traces.lines.Cause.TheVariants.{FetchMisaligned, AccessOutside}
use Rattle.br_image.specs.declared.traces.lines.Cause.TheVariants.{DeviceAccess, CodeWrite}
use Rattle.br_image.specs.declared.traces.lines.TraceForm.{TraceForm}
use Rattle.br_image.specs.declared.traces.lines.TraceForm.TheVariants as form
use Rattle.br_image.specs.declared.traces.lines.TraceLine.{TraceLine}
use Rattle.br_image.specs.declared.traces.lines.TraceLine.TheVariants.{Read, Write, Halted, Waiting}
use Rattle.br_image.specs.declared.traces.lines.TraceLine.TheVariants.{Trapped, Running, Mem}
use Rattle.br_image.specs.Text.{word_text}
use Rattle.br_image.specs.Fields.{word_fields}
use Rattle.br_image.specs.ScriptLines.{range_fields, IsRange}

-- the first word of a line
abbrev pub trace_keyword : TraceForm → List ℕ
trace_keyword form.Read = codes "read"
trace_keyword form.Write = codes "write"
trace_keyword form.Halted = codes "halted"
trace_keyword form.Waiting = codes "waiting"
trace_keyword form.Trapped = codes "trapped"
trace_keyword form.Running = codes "running"
trace_keyword form.Mem = codes "mem"

abbrev pub trace_form_of : TraceLine → TraceForm
trace_form_of (Read address value) = form.Read
trace_form_of (Write address value) = form.Write
trace_form_of (Halted words) = form.Halted
trace_form_of (Waiting address) = form.Waiting
trace_form_of (Trapped cause pc) = form.Trapped
trace_form_of Running = form.Running
trace_form_of (Mem range) = form.Mem

abbrev pub cause_word : Cause → List ℕ
cause_word Illegal = codes "illegal"
cause_word FetchOutside = codes "fetchoutside"
cause_word FetchMisaligned = codes "fetchmisaligned"
cause_word AccessOutside = codes "accessoutside"
cause_word DeviceAccess = codes "deviceaccess"
cause_word CodeWrite = codes "codewrite"

-- an address and a value
abbrev pub event_fields : ℕ → ℕ → List ℕ
event_fields address value = 32 ∷ (word_text address ++ 32 ∷ word_text value)

-- what stands after the first word
abbrev pub trace_tail : TraceLine → List ℕ
trace_tail (Read address value) = event_fields address value
trace_tail (Write address value) = event_fields address value
trace_tail (Halted words) = word_fields words
trace_tail (Waiting address) = 32 ∷ word_text address
trace_tail (Trapped cause pc) = 32 ∷ (cause_word cause ++ 32 ∷ word_text pc)
trace_tail Running = []
trace_tail (Mem range) = range_fields range

-- what stands in a line
abbrev pub trace_line_text : TraceLine → List ℕ
trace_line_text l = trace_keyword (trace_form_of l) ++ trace_tail l

-- the fields of a line are in their ranges
abbrev pub IsTraceLine : TraceLine → Type 0
IsTraceLine (Read address value) = (address < 2 ^ 32) × (value < 2 ^ 32)
IsTraceLine (Write address value) = (address < 2 ^ 32) × (value < 2 ^ 32)
IsTraceLine (Halted words) = (length words ≤ 8) × All (λ w. w < 2 ^ 32) words
IsTraceLine (Waiting address) = address < 2 ^ 32
IsTraceLine (Trapped cause pc) = pc < 2 ^ 32
IsTraceLine Running = Unit {0}
IsTraceLine (Mem range) = IsRange range
