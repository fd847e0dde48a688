use Rattle.std.proofs.Common.{◌≡◌, ◌<◌, ◌≤◌, ◌^◌, ◌++◌, length}
use Rattle.std.specs.Prelude.{All}
use Rattle.br_image.specs.Fields.{word_fields}
use Rattle.br_image.proofs.scripts.fields.only_words.Given as goal

abbrev pub invariant-loop-left : goal.invariant-loop-left
invariant-loop-left l =
    (length l.words ≤ l.most) × All (λ w. w < 2 ^ 32) l.words × (l.tail ≡ word_fields l.words ++ l.left)

abbrev pub decreases-loop-left : goal.decreases-loop-left
decreases-loop-left l = length l.left
