use Rattle.std.proofs.Common.{◌∙◌, ◌∷◌, ap, drop, sym}
use Rattle.br_image.specs.Text.{word_text}
use Rattle.br_image.proofs.Bytes.{word_front}
use Rattle.br_image.proofs.traces.parsing.parse_event.Goals as goal

pub returns-in_default-only_word-clause-none : goal.returns-in_default-only_word-clause-none
returns-in_default-only_word-clause-none c a v h k e =
    let found = c.in-Some.ensures.some in
    c.in_default-only_word.ensures.none v k (word_front c.in-Some.address a c.in-Some.rest.now (32 ∷ word_text v)
    found.0 h (ap (λ t. drop 1 t) (sym found.1 ∙ e))).1
