-- What lines of a trace text have shown.
use Rattle.std.specs.Prelude.{◌≡◌, ◌+◌, ◌≤◌, List, ◌++◌, length}
use Rattle.std.specs.List.{flat_map}
use Rattle.br_words.specs.Layout.{stack_base}
use Rattle.br_image.specs.declared.traces.lines.TraceLine.{TraceLine}
use Rattle.br_image.specs.declared.traces.lines.TraceLine.TheVariants.{Mem}
use Rattle.br_image.specs.declared.traces.shown.Shown.{Shown}
use Rattle.br_image.specs.Said.{end_after}
use Rattle.br_image.specs.Traces.{event_in, range_in}

-- this is what the lines show
pub record Shows (lines : List TraceLine) (shown : Shown) : Type 0 where
  pub events : flat_map event_in lines ≡ shown.events
  pub mem_end : end_after 0 (flat_map range_in lines) ≡ shown.mem_end

-- the range of a line follows the one before it
abbrev pub AllowsTrace : Shown → TraceLine → Type 0
AllowsTrace shown (Mem range) = shown.mem_end ≤ range.addr
AllowsTrace shown other = Unit {0}

-- the range of a line ends where the data region does, or before
abbrev pub FitsTraceEnd : TraceLine → Type 0
FitsTraceEnd (Mem range) = range.addr + length range.bytes ≤ stack_base
FitsTraceEnd other = Unit {0}

-- this is what was shown when a line was added
pub record ShowsMore (l : TraceLine) (old new : Shown) : Type 0 where
  pub events : new.events ≡ old.events ++ event_in l
  pub mem_end : new.mem_end ≡ end_after old.mem_end (range_in l)
