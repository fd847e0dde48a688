use Rattle.std.proofs.Common.{◌≡◌, [], sym, ap, ◌∙◌, arith}
use Rattle.br_source_meaning.specs.Values.{no_locals}
use Rattle.br_source_meaning.specs.Runs.{State, Returns, Stops}
use Rattle.br_source_meaning.specs.Calls.{run_function, seen}
use Rattle.br_source_meaning.specs.Names.{function_names}
use Rattle.br_source_meaning.specs.Numbered.{named_function}
use Rattle.br_source_meaning.specs.Running.{state_of, end_of, deep_calls}
use Rattle.br_source_meaning.proofs.Deep.{deep-function}
use Rattle.br_source_meaning.proofs.interp.called.Goals as goal

pub returns-in-Ok : goal.returns-in-Ok
returns-in-Ok c =
    let i = c.args.interp in
    let start : State = record {
      locals = no_locals;
      memory = i.memory;
      trace = [];
      answers = i.answers.now;
      choices = i.choices.now;
      fuel =
          c.args.fuel;
    } in
    let fs = c.args.functions.now.funcs.now in
    let f = named_function (function_names fs) c.args.functions.now.program.now.entry in
    let same = ap seen (deep-function fs f i.args.now start (omega arith)) in
    let begun = ap (λ events. run_function (deep_calls fs) f i.args.now (record start { trace = events }))
    (sym c.new-2.ensures) in
    let ran : run_function (deep_calls fs) f i.args.now start ≡ Returns c.in-Ok.words (state_of c.function.new.self) =
    begun ∙ c.in-Ok.ensures in
    c.ended.ensures ∙ (sym (ap seen ran) ∙ same)

pub returns-in-Err-Fault : goal.returns-in-Err-Fault
returns-in-Err-Fault c =
    let i = c.args.interp in
    let start : State = record {
      locals = no_locals;
      memory = i.memory;
      trace = [];
      answers = i.answers.now;
      choices = i.choices.now;
      fuel =
          c.args.fuel;
    } in
    let fs = c.args.functions.now.funcs.now in
    let f = named_function (function_names fs) c.args.functions.now.program.now.entry in
    let same = ap seen (deep-function fs f i.args.now start (omega arith)) in
    let begun = ap (λ events. run_function (deep_calls fs) f i.args.now (record start { trace = events }))
    (sym c.new-2.ensures) in
    let ran : run_function (deep_calls fs) f i.args.now start
    ≡ Stops (end_of c.in-Err-Fault.stop) (state_of c.function.new.self) = begun
    ∙ (rw c.in-Err-Fault.field-0-is at c.in-Err-Fault.ensures) in
    c.ended-in-Err-Fault.ensures
    ∙ ap (λ o. record { outcome = o; trace = c.function.new.self.trace; memory = c.function.new.self.memory })
    c.outcome_at.ensures ∙ (sym (ap seen ran) ∙ same)
