-- What a run of an image shows: its events, its end, and after a call that has ended the memory
-- that the script gave. The machine is RV32IM's (RISC-V unprivileged manual), step by step.
use Rattle.std.specs.Prelude.{ℕ, ◌≤◌, length, ◌≡◌, ◌⊎◌, List, [], ◌++◌}
use Rattle.br_image.specs.declared.images.Entry.{Entry}
use Rattle.br_image.specs.declared.images.Image.{Image}
use Rattle.br_image.specs.declared.scripts.values.RunScript.{RunScript}
use Rattle.br_image.specs.Text.{line}
use Rattle.br_words.specs.Layout.{data_base}
use Rattle.br_machine.specs.declared.running.End.{End}
use Rattle.br_machine.specs.declared.running.End.TheVariants.{Halted, Waiting, Trapped, Running}
use Rattle.br_machine.specs.State.{MachineState, register, byte_of}
use Rattle.br_machine.specs.Start.{start}
use Rattle.br_machine.specs.Junk.{junk_of}
use Rattle.br_machine.specs.Steps.{Moment, next_step, after_steps}
use Rattle.br_machine.specs.Run.{at_start, AllGoOn, end_of}
use Rattle.br_texts.specs.Lines.{event_lines, end_text}
use Rattle.br_texts.specs.Memory.{AreRanges, memory_of, values, range_lines}

-- the machine as the script calls an entry of the image, with all answers to come
abbrev pub first_moment : RunScript → Image → Entry → Moment
first_moment s i e =
    at_start (start i.layout i.code e.offset s.args (memory_of s.mem) (junk_of s.junk)) s.answers []

-- How a run of at most `limit` steps ends: it still runs, where each of them went on, and else it
-- ends as the first step that did not go on.
abbrev pub EndsAs : ℕ → Moment → End → Type 0
EndsAs limit first end =
    (AllGoOn limit first × (end ≡ Running))
    ⊎ (¬ AllGoOn limit first × (end ≡ end_of (next_step (after_steps limit first)).1))

-- what a script has to say so that a machine can start with it
pub record IsRunnable (s : RunScript) : Type 0 where
  pub args : length s.args ≤ 8
  pub mem : AreRanges data_base s.mem

-- the lines of memory that follow the end
abbrev pub lines_after : End → MachineState → RunScript → List ℕ
lines_after Halted s script = range_lines (byte_of s) script.mem
lines_after (Waiting a) s script = []
lines_after (Trapped trap pc) s script = []
lines_after Running s script = []

-- the text of the run of a script on an image, which calls this entry
pub record IsRunText (s : RunScript) (i : Image) (e : Entry) (text : List ℕ) : Type 0 where
  pub last : Moment
  pub end : End
  pub steps : last ≡ after_steps s.limit (first_moment s i e)
  pub ended : EndsAs s.limit (first_moment s i e) end
  pub written : text
      ≡ event_lines last.trace ++ line (end_text (values (register last.machine) 10 e.results) end)
      ++ lines_after end last.machine s
