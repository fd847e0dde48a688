-- What a run shows, from what its parts tell.
use Rattle.std.proofs.Common.{◌≡◌, ◌≢◌, ◌↔◌, ◌++◌, ◌∙◌, ℕ, List, [], ap, inl, inr, refl, subst}
use Rattle.br_words.specs.declared.layout.Layout.{Layout}
use Rattle.br_bytes.specs.declared.run.Choice.{Choice}
use Rattle.br_bytes.specs.declared.run.Event.{Event}
use Rattle.br_bytes.specs.Memory.{Memory}
use Rattle.br_image.specs.declared.images.Entry.{Entry}
use Rattle.br_image.specs.declared.images.Image.{Image}
use Rattle.br_image.specs.declared.scripts.values.RunScript.{RunScript}
use Rattle.br_image.specs.declared.scripts.values.InterpScript.{InterpScript}
use Rattle.br_image.specs.Text.{line}
use Rattle.br_machine.specs.declared.running.End.{End}
use Rattle.br_machine.specs.declared.running.End.TheVariants.{Halted, Waiting, Trapped, Running}
use Rattle.br_machine.specs.State.{MachineState, register}
use Rattle.br_machine.specs.Start.{Leftover, start}
use Rattle.br_machine.specs.Steps.{Moment, next_step, after_steps}
use Rattle.br_machine.specs.Run.{at_start, AllGoOn, end_of}
use Rattle.br_syntax.specs.declared.program.Func.{Func}
use Rattle.br_source_meaning.specs.declared.interp.Finished.{Finished}
use Rattle.br_source_meaning.specs.Finished.{called_of}
use Rattle.br_source_meaning.specs.Calls.{Called, call}
use Rattle.br_texts.specs.Lines.{event_lines, end_text, outcome_text}
use Rattle.br_texts.specs.Memory.{values}
use Rattle.br_texts.specs.RunText.{EndsAs, IsRunText, first_moment, lines_after}
use Rattle.br_texts.specs.InterpText.{interp_text, called_by, lines_after as interp_lines_after}

ends-as : (limit : ℕ) (first : Moment) (end : End) → ((end ≡ Running) ↔ AllGoOn limit first) →
    (end ≢ Running → end ≡ end_of (next_step (after_steps limit first)).1) → EndsAs limit first end
ends-as limit first Running running ended = inl (running.0 refl, refl)
ends-as limit first Halted running ended =
    inr (λ all. (let no : Halted ≡ Running = running.1 all in absurd (cc)), ended (λ no. absurd (cc)))
ends-as limit first (Waiting a) running ended =
    inr (λ all. (let no : Waiting a ≡ Running = running.1 all in absurd (cc)), ended (λ no. absurd (cc)))
ends-as limit first (Trapped trap pc) running ended =
    inr (λ all. (let no : Trapped trap pc ≡ Running = running.1 all in absurd (cc)), ended (λ no. absurd (cc)))

pub run-shows : (s : RunScript) (i : Image) (e : Entry) (first : Moment) (machine : MachineState) (events : List Event)
    (end : End) (text : List ℕ) →
    first ≡ first_moment s i e →
    machine ≡ (after_steps s.limit first).machine →
    events ≡ (after_steps s.limit first).trace →
    ((end ≡ Running) ↔ AllGoOn s.limit first) →
    (end ≢ Running → end ≡ end_of (next_step (after_steps s.limit first)).1) →
    text ≡ event_lines events ++ line (end_text (values (register machine) 10 e.results) end)
    ++ lines_after end machine s →
    IsRunText s i e text
run-shows s i e first machine events end text is at_machine at_events running ended shown =
    let last = after_steps s.limit first in
    let by_machine : text ≡ event_lines events ++ line (end_text (values (register last.machine) 10 e.results) end)
    ++ lines_after end last.machine s =
    subst (λ (m : MachineState). text
    ≡ event_lines events ++ line (end_text (values (register m) 10 e.results) end) ++ lines_after end m s)
    at_machine shown in
    record {
      last = last;
      end = end;
      steps = ap (after_steps s.limit) is;
      ended = subst (λ (m : Moment). EndsAs s.limit m end) is (ends-as s.limit first end running ended);
      written =
          subst (λ (es : List Event). text ≡ event_lines es
          ++ line (end_text (values (register last.machine) 10 e.results) end) ++ lines_after end last.machine s)
          at_events by_machine;
    }

-- the machine that a run starts with, from equal parts
pub same-start : (l : Layout) (code code' : List ℕ) (offset : ℕ) (args args' : List ℕ) (m m' : Memory) (j : Leftover)
    → code ≡ code' → args ≡ args' → m ≡ m' →
    start l code offset args m j ≡ start l code' offset args' m' j
same-start l code code' offset args args' m m' j c a e =
    ap (λ (x : List ℕ). start l x offset args m j) c
    ∙ (ap (λ (x : List ℕ). start l code' offset x m j) a ∙ ap (λ (x : Memory). start l code' offset args' x j) e)

pub same-moment : (s t : MachineState) (answers answers' : List ℕ) (events : List Event) → s ≡ t → answers ≡ answers'
    → events ≡ [] →
    at_start s answers events ≡ at_start t answers' []
same-moment s t answers answers' events m a e =
    ap (λ (x : MachineState). at_start x answers events) m
    ∙ (ap (λ (x : List ℕ). at_start t x events) a ∙ ap (λ (x : List Event). at_start t answers' x) e)

pub interp-shows : (s : InterpScript) (fs : List Func) (f : Func) (finished : Finished) (text : List ℕ) →
    called_of finished ≡ called_by s fs f →
    text ≡ event_lines finished.trace ++ line (outcome_text finished.outcome)
    ++ interp_lines_after finished.outcome finished.memory s →
    text ≡ interp_text s fs f
interp-shows s fs f finished text is shown =
    shown
    ∙ ap (λ (called : Called). event_lines called.trace ++ line (outcome_text called.outcome)
    ++ interp_lines_after called.outcome called.memory s) is

-- a call, from equal parts
pub same-call : (fs gs : List Func) (f : Func) (args args' : List ℕ) (m m' : Memory) (answers answers' : List ℕ)
    (choices choices' : List Choice) (k : ℕ) →
    fs ≡ gs → args ≡ args' → m ≡ m' → answers ≡ answers' → choices ≡ choices' →
    call fs f args m answers choices k ≡ call gs f args' m' answers' choices' k
same-call fs gs f args args' m m' answers answers' choices choices' k p a e q r =
    ap (λ (x : List Func). call x f args m answers choices k) p
    ∙ (ap (λ (x : List ℕ). call gs f x m answers choices k) a
    ∙ (ap (λ (x : Memory). call gs f args' x answers choices k) e
    ∙ (ap (λ (x : List ℕ). call gs f args' m' x choices k) q
    ∙ ap (λ (x : List Choice). call gs f args' m' answers' x k) r)))
