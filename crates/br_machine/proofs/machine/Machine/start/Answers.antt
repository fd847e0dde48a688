-- The parts are those of the start, which is a machine.
use Rattle.std.proofs.Common.{◌≡◌, ◌↔◌, ℕ, ◌+◌, ◌-◌, ◌<◌, List, length, Bool, true, sym, ap, subst, ◌∙◌}
use Rattle.std.specs.Prelude.{slice_set}
use Rattle.br_words.specs.declared.layout.Layout.{Layout}
use Rattle.br_words.specs.Layout.{code_base, code_end}
use Rattle.br_machine.specs.State.{MachineState}
use Rattle.br_machine.specs.Start.{start_ram, with_words}
use Rattle.br_machine.specs.Junk.{junk_of}
use Rattle.br_machine.specs.Pages.{HasAddressIn, IsPaged, Paged, is_made}
use Rattle.br_machine.specs.Kept.{Kept}
use Rattle.br_machine.proofs.Leftovers.{all_below-at, registers-junk_of}
use Rattle.br_machine.proofs.Starts.{IsPaged-start, start_registers}
use Rattle.br_machine.proofs.machine.Machine.start.Goals as goal

-- a machine of what is kept
abbrev of : Kept → List ℕ → ℕ → Paged
of k registers pc = record {
  state = record { layout = k.layout; registers = registers; pc = pc; ram = k.bytes; code_words = length k.code };
  made = k.made;
}

same : (k : Kept) (registers args : List ℕ) (l : Layout) (base entry word : ℕ) → registers ≡ start_registers word args
    → base ≡ code_base l → k.layout ≡ l
    → of k registers (base + entry) ≡ of k (start_registers word args) (code_base k.layout + entry)
same k registers args l base entry word r b e =
    ap (λ x. of k x (base + entry)) r
    ∙ ap (λ x. of k (start_registers word args) (x + entry)) (b ∙ ap code_base (sym e))

pub of-requires : goal.of-requires
of-requires c =
    let k = c.in_ok-ram.ram in
    let l = c.args.layout in
    subst IsPaged
    (sym (same k c.set_arguments.new.registers c.args.args.now l c.code_base.result c.args.entry c.args.junk
    c.set_arguments.ensures c.code_base.ensures c.in_ok-ram.ensures.layout))
    (IsPaged-start k c.args.args.now c.args.junk c.args.entry c.well_formed-2.ensures
    (all_below-at _ c.args.args.now (λ i. (c.type_inv.args i).fits)) c.ranges.junk.fits
    (subst (λ (x : Layout). c.args.entry < code_end x - code_base x) (sym c.in_ok-ram.ensures.layout) c.requires.entry)
    c.requires.aligned)

pub returns-clause-state : goal.returns-clause-state
returns-clause-state c =
    let k = c.in_ok-ram.ram in
    let l = c.args.layout in
    let r : List ℕ = start_registers c.args.junk c.args.args.now in
    let registers : List ℕ = with_words 10 c.args.args.now (slice_set (junk_of c.args.junk).registers 0 0) in
    let state : Layout → List ℕ → List ℕ → List ℕ → MachineState = λ x r ram code. record {
      layout = x;
      registers = r;
      pc = code_base x + c.args.entry;
      ram = ram;
      code_words = length code;
    } in
    ap (λ (m : Paged). m.state)
    (c.of.ensures ∙ same k c.set_arguments.new.registers c.args.args.now l c.code_base.result c.args.entry c.args.junk
    c.set_arguments.ensures c.code_base.ensures c.in_ok-ram.ensures.layout)
    ∙ ap (λ x. state x r k.bytes k.code) c.in_ok-ram.ensures.layout
    ∙ ap (λ x. state l (with_words 10 c.args.args.now (slice_set x 0 0)) k.bytes k.code)
    (sym (registers-junk_of c.args.junk))
    ∙ ap (λ x. state l registers x k.code) c.in_ok-ram.ensures.bytes
    ∙ ap (λ x. state l registers (start_ram l c.args.code.now c.args.memory.now (junk_of c.args.junk)) x)
    c.in_ok-ram.ensures.code

pub returns-clause-made : goal.returns-clause-made
returns-clause-made c = λ page h.
    subst (λ (b : Bool). (b ≡ true) ↔ HasAddressIn c.args.memory.now c.args.layout page)
    (sym (ap (λ (m : Paged). is_made m page) c.of.ensures))
    (c.in_ok-ram.ensures.made page h)
