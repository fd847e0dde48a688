use Rattle.std.proofs.Common.{◌≡◌, ◌≤◌, ◌∙◌, List, ℕ, length, ap, sym, subst}
use Rattle.br_bytes.specs.declared.run.Choice.{Choice}
use Rattle.br_words.specs.Layout.{data_base}
use Rattle.br_machine.specs.Start.{start}
use Rattle.br_machine.specs.Junk.{junk_of}
use Rattle.br_machine.specs.Run.{at_start}
use Rattle.br_texts.specs.Memory.{AreRanges, memory_of}
use Rattle.br_texts.specs.RunText.{first_moment}
use Rattle.br_texts.proofs.Scripts.{runnable}
use Rattle.br_texts.proofs.Shown.{run-shows, same-moment, same-start}
use Rattle.br_texts.proofs.runs.run_text.Goals as goal

pub memory_of-requires : goal.memory_of-requires
memory_of-requires c =
    let script = c.requires.script in
    subst (λ (cs : List Choice). AreRanges data_base cs) (sym c.as_slice.ensures)
    (runnable script.0 c.args.script.now script.1 script.2).mem

pub start-requires-clause-args : goal.start-requires-clause-args
start-requires-clause-args c =
    let script = c.requires.script in
    subst (λ (xs : List ℕ). length xs ≤ 8) (sym c.as_slice-3.ensures)
    (runnable script.0 c.args.script.now script.1 script.2).args

pub shown-requires-clause-ranges : goal.shown-requires-clause-ranges
shown-requires-clause-ranges c =
    let script = c.requires.script in
    (runnable script.0 c.args.script.now script.1 script.2).mem

-- the machine starts as the script says, and what it shows is the run's
pub returns : goal.returns
returns c =
    let s = c.args.script.now in
    let i = c.args.image.now in
    let e = c.args.entry.now in
    let memory : c.in_ok-memory.memory ≡ memory_of s.mem = c.in_ok-memory.ensures.memory
    ∙ ap memory_of c.as_slice.ensures in
    let state : c.in_ok-machine.machine.state
    ≡ start i.layout i.code e.offset s.args (memory_of s.mem) (junk_of s.junk) =
    c.in_ok-machine.ensures.state
    ∙ same-start i.layout c.as_slice-2.result.now i.code e.offset c.as_slice-3.result.now s.args c.in_ok-memory.memory
    (memory_of s.mem)
    (junk_of s.junk) c.as_slice-2.ensures c.as_slice-3.ensures memory in
    let empty = let t = c.in_ok-trace.ensures in ap (λ r. r.events) t in
    let first = at_start c.in_ok-machine.machine.state c.as_slice-4.result.now c.in_ok-trace.trace.events in
    let same : first ≡ first_moment s i e =
    same-moment c.in_ok-machine.machine.state _ c.as_slice-4.result.now s.answers c.in_ok-trace.trace.events state
    c.as_slice-4.ensures empty in
    run-shows s i e first c.run-end.new.m.state c.events.result.now c.run-end.result c.in_ok-text.text.items same
    c.run-end.ensures.machine (c.events.ensures ∙ c.run-end.ensures.events) c.run-end.ensures.running
    c.run-end.ensures.ended
    c.in_ok-text.ensures
