use Rattle.std.proofs.Common.{◌≡◌, ◌++◌, drop}
use Rattle.std.specs.List.{flat_map, enumerate_from}
use Rattle.br_listing.specs.Text.{lines_at}
use Rattle.br_listing.proofs.lines.list.Given as goal

abbrev pub invariant-loop-place : goal.invariant-loop-place
invariant-loop-place l =
    l.text.items
    ++ flat_map (lines_at l.image.layout l.image.entries) (enumerate_from l.place (drop l.place l.word-items))
    ≡ flat_map (lines_at l.image.layout l.image.entries) (enumerate_from 0 l.word-items)
