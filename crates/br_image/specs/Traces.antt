-- Which lines trace texts have, what they tell, and what is
-- wrong with bytes that are no trace text.
use Rattle.std.specs.Prelude.{ℕ, ◌≡◌, ◌≢◌, ◌⊎◌, List, [], ◌∷◌, All}
use Rattle.std.specs.List.{flat_map}
use Rattle.br_bytes.specs.declared.run.Choice.{Choice}
use Rattle.br_bytes.specs.declared.run.Event.{Event}
use Rattle.br_bytes.specs.declared.run.Event.TheVariants as event
use Rattle.br_image.specs.declared.traces.lines.Stage.{Stage}
use Rattle.br_image.specs.declared.traces.lines.Stage.TheVariants.{Events, Memory, Over}
use Rattle.br_image.specs.declared.traces.lines.TraceForm.TheVariants as form
use Rattle.br_image.specs.declared.traces.lines.TraceLine.{TraceLine}
use Rattle.br_image.specs.declared.traces.lines.TraceLine.TheVariants.{Read, Write, Halted, Waiting}
use Rattle.br_image.specs.declared.traces.lines.TraceLine.TheVariants.{Trapped, Running, Mem}
use Rattle.br_image.specs.declared.traces.reading.TraceFault.{TraceFault}
use Rattle.br_image.specs.declared.traces.reading.TraceFault.TheVariants.{BadTraceLine}
use Rattle.br_image.specs.TextLines.{lines_text, IsWrongLine, IsCutOff}
use Rattle.br_image.specs.Scripts.{Ascends}
use Rattle.br_image.specs.TraceLines.{trace_form_of, trace_line_text, IsTraceLine}

-- event lines, which one end line may follow, and after `halted` any number of memory lines
abbrev pub IsTraceOrder : List TraceLine → Type 0
IsTraceOrder [] = Unit {0}
IsTraceOrder (Read address value ∷ lines) = IsTraceOrder lines
IsTraceOrder (Write address value ∷ lines) = IsTraceOrder lines
IsTraceOrder (Halted words ∷ lines) = All (λ l. trace_form_of l ≡ form.Mem) lines
IsTraceOrder (Waiting address ∷ lines) = lines ≡ []
IsTraceOrder (Trapped cause pc ∷ lines) = lines ≡ []
IsTraceOrder (Running ∷ lines) = lines ≡ []
IsTraceOrder (Mem range ∷ lines) = ⊥

abbrev pub event_in : TraceLine → List Event
event_in (Read address value) = event.Read address value ∷ []
event_in (Write address value) = event.Write address value ∷ []
event_in other = []

abbrev pub range_in : TraceLine → List Choice
range_in (Mem range) = range ∷ []
range_in other = []

-- these lines may stand in a trace text
pub record IsTraceFront (lines : List TraceLine) : Type 0 where
  pub order : IsTraceOrder lines
  pub forms : All IsTraceLine lines
  pub ranges : Ascends 0 (flat_map range_in lines)

-- the text is a trace text that tells these events
pub record IsTrace (text : List ℕ) (events : List Event) : Type 0 where
  pub lines : List TraceLine
  pub spelled : text ≡ lines_text trace_line_text lines
  pub front : IsTraceFront lines
  pub tells : flat_map event_in lines ≡ events

-- no lines are the whole of a trace text before it ends
abbrev pub IsNever : List TraceLine → Type 0
IsNever lines = ⊥

-- why the text is no trace text: a line may not stand there, or has no line feed
abbrev pub IsTraceFault : List ℕ → TraceFault → Type 0
IsTraceFault text (BadTraceLine n) =
    IsWrongLine trace_line_text IsTraceFront IsNever text n
    ⊎ ((c : IsCutOff trace_line_text IsTraceFront IsNever text n) × (c.rest ≢ []))

-- the stage that follows a stage and a line
abbrev pub Steps : Stage → TraceLine → Stage → Type 0
Steps Events (Read address value) next = next ≡ Events
Steps Events (Write address value) next = next ≡ Events
Steps Events (Halted words) next = next ≡ Memory
Steps Events (Waiting address) next = next ≡ Over
Steps Events (Trapped cause pc) next = next ≡ Over
Steps Events Running next = next ≡ Over
Steps Memory (Mem range) next = next ≡ Memory
Steps stage line next = ⊥
