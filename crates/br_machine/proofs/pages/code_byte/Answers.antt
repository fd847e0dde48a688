-- A byte of a word, or past the end of the code.
use Rattle.std.proofs.Common.{◌≡◌, ℕ, ◌+◌, ◌*◌, ◌/◌, ◌%◌, ◌≤◌, length, refl, sym, ap, ◌∙◌, arith}
use Rattle.std.specs.Prelude.{slice_index}
use Rattle.std.proofs.lemmas.List.{get_or_past}
use Rattle.std.proofs.lemmas.Option.{slice_get_read}
use Rattle.br_machine.specs.Start.{code_bytes}
use Rattle.br_bytes.proofs.Words.{length-word_bytes, word_bytes-at}
use Rattle.br_machine.proofs.Ram.{low_bytes_4-is}
use Rattle.br_machine.proofs.pages.code_byte.Goals as goal

pub returns-in-Some : goal.returns-in-Some
returns-in-Some c =
    let place : 4 * (c.args.i / 4) + c.args.i % 4 ≡ c.args.i = omega arith in
    let found = c.in-Some.ensures.lookup in
    let w : ℕ = c.in-Some.word.now in
    ap (λ bs. slice_index bs (c.args.i % 4)) (c.to_le_bytes.ensures ∙ low_bytes_4-is w)
    ∙ sym (word_bytes-at c.args.code.now (c.args.i / 4) w (c.args.i % 4)
    (slice_get_read c.args.code.now (length c.args.code.now) (c.args.i / 4) w refl found.3.0 found.1) (omega arith))
    ∙ ap (slice_index (code_bytes c.args.code.now)) place

pub returns-in-None : goal.returns-in-None
returns-in-None c =
    let past : length c.args.code.now ≤ c.args.i / 4 = omega (arith, c.in-None.ensures.lookup) in
    sym (get_or_past (code_bytes c.args.code.now) c.args.i 0 (omega (arith, length-word_bytes c.args.code.now)))
