-- One byte differs, which is none of the code's.
use Rattle.std.proofs.Common.{◌≡◌, ℕ, ◌+◌, ◌*◌, ◌/◌, ◌%◌, ◌≤◌, List, length, map}
use Rattle.std.proofs.Common.{Option, Bool, true, min, max, sym, ap, subst, ◌∙◌, arith}
use Rattle.std.specs.Prelude.{is_some, slice_set}
use Rattle.br_words.specs.declared.layout.Layout.{Layout}
use Rattle.br_machine.specs.State.{code_place}
use Rattle.br_machine.specs.Kept.{Kept, IsKept, bytes_in}
use Rattle.br_machine.proofs.Kept.{IsKept-set}
use Rattle.br_machine.proofs.main_memory.Ram.set_byte.Goals as goal

-- what is kept, with a byte and with its page made
abbrev with_byte : ℕ → ℕ → Kept → Kept
with_byte place b k = record k { bytes = slice_set k.bytes place b; made = slice_set k.made (place / 4096) true }

-- what pages make
abbrev of : Layout → List ℕ → ℕ → List (Option (List ℕ)) → Kept
of l code junk pages = record { layout = l; code = code; bytes = bytes_in l code junk pages; made = map is_some pages }

same : (l : Layout) (code slice : List ℕ) (junk : ℕ) (pages pages' : List (Option (List ℕ))) (place b : ℕ)
    → slice ≡ code
    → bytes_in l slice junk pages' ≡ slice_set (bytes_in l slice junk pages) place b
    → map is_some pages' ≡ slice_set (map is_some pages) (place / 4096) true
    → of l code junk pages' ≡ with_byte place b (of l code junk pages)
same l code slice junk pages pages' place b is bytes made =
    let put : List ℕ → List Bool → Kept = λ x y. record { layout = l; code = code; bytes = x; made = y } in
    let here = subst
    (λ (c : List ℕ). bytes_in l c junk pages' ≡ slice_set (bytes_in l c junk pages) place b) is bytes in
    ap (λ x. put x (map is_some pages')) here ∙ ap (put (slice_set (bytes_in l code junk pages) place b)) made

pub invariant_of-self : goal.invariant_of-self
invariant_of-self c =
    let r = c.self.inside in
    let place = c.args.place in
    let e = same r.layout r.code.items c.as_slice-code.result.now r.junk r.pages.items c.store.new.pages.items place
    (c.args.v % 256) c.as_slice-code.ensures.value c.store.ensures.bytes c.store.ensures.made in
    subst IsKept (sym e)
    (IsKept-set (of r.layout r.code.items r.junk r.pages.items) place (c.args.v % 256) (place / 4096)
    c.self.invariant (omega arith)
    (subst (λ (k : Kept). min (place + 1) (code_place k.layout + 4 * length k.code) ≤ max place (code_place k.layout))
    (sym c.self.view_is) c.requires.apart))

pub returns : goal.returns
returns c =
    let r = c.self.inside in
    same r.layout r.code.items c.as_slice-code.result.now r.junk r.pages.items c.store.new.pages.items c.args.place
    (c.args.v % 256) c.as_slice-code.ensures.value c.store.ensures.bytes c.store.ensures.made
    ∙ ap (with_byte c.args.place (c.args.v % 256)) c.self.view_is
