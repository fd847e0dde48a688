-- A word of the code is the number of its bytes.
use Rattle.std.proofs.Common.{◌≡◌, ℕ, ◌+◌, ◌*◌, sym, ap, subst, ◌∙◌, Some}
use Rattle.std.specs.Prelude.{List, slice_get}
use Rattle.br_bytes.specs.Number.{number_of}
use Rattle.br_machine.specs.State.{bytes_from, code_place}
use Rattle.br_machine.specs.Kept.{Kept, bytes_in}
use Rattle.br_machine.proofs.Fetch.{word_at-code}
use Rattle.br_machine.proofs.main_memory.Ram.code_word.Goals as goal

pub returns : goal.returns
returns c =
    let r = c.self.inside in
    let at : slice_get r.code.items c.args.index ≡ Some c.word_of.result =
    subst (λ (code : List ℕ). slice_get code c.args.index ≡ Some c.word_of.result) c.as_slice.ensures.value
    c.word_of.ensures.value in
    sym (word_at-code r.code.items (bytes_in r.layout r.code.items r.junk r.pages.items) (code_place r.layout)
    c.args.index c.word_of.result c.self.invariant.code at c.word_of.ensures.small)
    ∙ ap (λ (k : Kept). number_of (bytes_from k.bytes (code_place k.layout + 4 * c.args.index) 4)) c.self.view_is
