-- The byte of the pages.
use Rattle.std.proofs.Common.{ℕ, List, Option, sym, ap, subst, ◌∙◌, ◌<◌}
use Rattle.std.specs.Prelude.{slice_index}
use Rattle.br_machine.specs.State.{ram_size}
use Rattle.br_machine.specs.Kept.{Kept, byte_at}
use Rattle.br_machine.proofs.Kept.{index-bytes_in}
use Rattle.br_machine.proofs.main_memory.Ram.byte.Goals as goal

pub returns : goal.returns
returns c =
    let r = c.self.inside in
    let inside : c.args.place < ram_size r.layout =
    subst (λ (k : Kept). c.args.place < ram_size k.layout) (sym c.self.view_is) c.requires in
    c.byte_at.ensures
    ∙ ap (λ (code : List ℕ). byte_at r.layout code r.junk c.as_slice-pages.result.now c.args.place)
    c.as_slice.ensures.value
    ∙ ap (λ (pages : List (Option (List ℕ))). byte_at r.layout r.code.items r.junk pages c.args.place)
    c.as_slice-pages.ensures.value
    ∙ sym (index-bytes_in r.layout r.code.items r.junk r.pages.items c.args.place inside)
    ∙ ap (λ (k : Kept). slice_index k.bytes c.args.place) c.self.view_is
