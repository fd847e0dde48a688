use Rattle.std.proofs.Common.{◌≡◌, ◌∙◌, List, ap, sym, subst}
use Rattle.br_bytes.specs.declared.run.Choice.{Choice}
use Rattle.br_syntax.specs.declared.program.Program.{Program}
use Rattle.br_words.specs.Layout.{data_base}
use Rattle.br_texts.specs.Memory.{AreRanges, memory_of}
use Rattle.br_texts.proofs.Scripts.{interp-ranges}
use Rattle.br_texts.proofs.Shown.{interp-shows, same-call}
use Rattle.br_texts.proofs.interps.interp_text.Goals as goal

pub memory_of-requires : goal.memory_of-requires
memory_of-requires c =
    let script = c.requires.script in
    subst (λ (cs : List Choice). AreRanges data_base cs) (sym c.as_slice.ensures)
    (interp-ranges script.0 c.args.script.now script.1 script.2)

pub shown-requires : goal.shown-requires
shown-requires c =
    let script = c.requires.script in
    interp-ranges script.0 c.args.script.now script.1 script.2

-- the call is the one that the script makes, and what it shows is the run's
pub returns : goal.returns
returns c =
    let s = c.args.script.now in
    let fs = c.args.program.now.funcs in
    let interp = c.in_ok-interp.interp in
    let f = interp.func.now in
    let program : interp.program.now.funcs ≡ fs = ap (λ (p : Program). p.funcs) c.in_ok-interp.ensures.program in
    let args : interp.args.now ≡ s.args = c.in_ok-interp.ensures.args ∙ c.as_slice-2.ensures in
    let memory : interp.memory ≡ memory_of s.mem =
    c.in_ok-interp.ensures.memory ∙ (c.in_ok-memory.ensures.memory ∙ ap memory_of c.as_slice.ensures) in
    let answers : interp.answers.now ≡ s.answers = c.in_ok-interp.ensures.answers ∙ c.as_slice-3.ensures in
    let choices : interp.choices.now ≡ s.choices = c.in_ok-interp.ensures.choices ∙ c.as_slice-4.ensures in
    let is =
    c.in_ok-finished.ensures
    ∙ same-call interp.program.now.funcs fs f interp.args.now s.args interp.memory (memory_of s.mem) interp.answers.now
    s.answers interp.choices.now
    s.choices s.limit program args memory answers choices in (
      f,
      c.in_ok-interp.ensures.func,
      interp-shows s fs f c.in_ok-finished.finished c.in_ok-text.text.items is c.in_ok-text.ensures,
    )
