-- Many steps, with the answers of devices taken in turn and the events in order.
use Rattle.std.specs.Prelude.{◌≡◌, ℕ, zero, suc, ◌+◌, ◌-◌, ◌<◌, ◌≤◌, List, [], ◌∷◌}
use Rattle.std.specs.Prelude.{◌++◌, Option, Some, None, take, drop, slice_get}
use Rattle.br_bytes.specs.declared.run.Event.{Event}
use Rattle.br_bytes.specs.declared.run.Event.TheVariants as event
use Rattle.br_rv32im.specs.declared.instruction.Ins.{Ins}
use Rattle.br_rv32im.specs.declared.instruction.Ins.TheVariants.{Upper, Jal, Jalr, Branch, Load}
use Rattle.br_rv32im.specs.declared.instruction.Ins.TheVariants.{Store, Imm, Shift, Reg, Ecall}
use Rattle.br_rv32im.specs.Row.{row_of}
use Rattle.br_machine.specs.declared.stepped.Stepped.{Stepped}
use Rattle.br_machine.specs.declared.stepped.Stepped.TheVariants.{Ran, Read, Wrote}
use Rattle.br_machine.specs.declared.stepped.Stepped.TheVariants.{Waiting, Halted, Trapped}
use Rattle.br_words.specs.Layout.{code_base, code_end, stack_base}
use Rattle.br_machine.specs.State.{MachineState, code_place}
use Rattle.br_machine.specs.Traps.{load_size, store_size, address}
use Rattle.br_machine.specs.Step.{step, fetched}

-- a machine in a run, the answers that are left, and the events so far
pub record Moment : Type 0 where
  pub machine : MachineState
  pub answers : List ℕ
  pub trace : List Event

-- the moment after a step that ended so, or None where the step did not go on
abbrev pub moment_after : Moment → MachineState × Stepped → Option Moment
moment_after m (s, Ran) = Some (record m { machine = s })
moment_after m (s, Read a v) = Some
    (record { machine = s; answers = drop 1 m.answers; trace = m.trace ++ event.Read a v ∷ [] })
moment_after m (s, Wrote a v) =
    Some (record m { machine = s; trace = m.trace ++ event.Write a v ∷ [] })
moment_after m (s, Waiting a) = None
moment_after m (s, Halted) = None
moment_after m (s, Trapped trap pc) = None

-- the next answer, if there is one
abbrev pub next_answer : Moment → Option ℕ
next_answer m = slice_get m.answers 0

abbrev pub next_step : Moment → MachineState × Stepped
next_step m = step m.machine (next_answer m)

-- goes on from a moment, or stays at one
abbrev pub onward : Moment → Option Moment → (Moment → Moment) → Moment
onward m None next = m
onward m (Some after) next = next after

-- the moment after n steps, or after fewer where a step does not go on
abbrev pub after_steps : ℕ → Moment → Moment
after_steps zero m = m
after_steps (suc n) m = onward m (moment_after m (next_step m)) (after_steps n)

-- ---- what a step may not do

-- the bytes of the code region, the code's own and those after it
abbrev pub code_region : MachineState → List ℕ
code_region s =
    let l = s.layout
    in take (code_end l - code_base l) (drop (code_place l) s.ram)

-- the first address that an instruction loads or stores, and how many bytes from there on
abbrev pub accessed : Option Ins → MachineState → ℕ × ℕ
accessed (Some (Load op rd rs1 imm)) s = (address s rs1 imm, load_size op)
accessed (Some (Store op rs1 rs2 imm)) s = (address s rs1 imm, store_size op)
accessed (Some (Upper op rd field)) s = (0, 0)
accessed (Some (Jal rd imm)) s = (0, 0)
accessed (Some (Jalr rd rs1 imm)) s = (0, 0)
accessed (Some (Branch op rs1 rs2 imm)) s = (0, 0)
accessed (Some (Imm op rd rs1 imm)) s = (0, 0)
accessed (Some (Shift op rd rs1 amount)) s = (0, 0)
accessed (Some (Reg op rd rs1 rs2)) s = (0, 0)
accessed (Some Ecall) s = (0, 0)
accessed None s = (0, 0)

-- n bytes from `a` on have none in the stack region below `low`
abbrev pub IsAbove : ℕ → ℕ × ℕ → Type 0
IsAbove low range = (b : ℕ) → range.0 ≤ b → b < range.0 + range.1 → stack_base ≤ b → low ≤ b

-- one step goes on to the next moment. It changes no byte of the code region, and loads and stores
-- no byte of the stack region below `low`.
pub record StepsTo (low : ℕ) (m next : Moment) : Type 0 where
  pub after : moment_after m (next_step m) ≡ Some next
  pub code : code_region next.machine ≡ code_region m.machine
  pub stack : IsAbove low (accessed (row_of (fetched m.machine)) m.machine)

-- so many steps, one after another, lead from a moment to another
abbrev pub Runs : ℕ → ℕ → Moment → Moment → Type 0
Runs low zero m end = m ≡ end
Runs low (suc n) m end = (next : Moment) × StepsTo low m next × Runs low n next end
