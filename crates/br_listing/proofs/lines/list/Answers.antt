use Rattle.std.proofs.Common.{◌∙◌, ◌≡◌, ◌++◌, ◌+◌, ◌*◌, List, ℕ, ap, get_or, drop, arith}
use Rattle.std.specs.List.{flat_map, enumerate_from}
use Rattle.std.specs.BTreeMap.{get}
use Rattle.std.specs.Ordering.{nat_cmp}
use Rattle.br_words.specs.Layout.{code_base}
use Rattle.br_image.specs.declared.images.Entry.{Entry}
use Rattle.br_listing.specs.Index.{bytes_or_none}
use Rattle.br_listing.specs.Text.{lines_at, labels_at, word_line}
use Rattle.br_listing.proofs.Steps.{from_place, two_pieces}
use Rattle.br_listing.proofs.lines.list.Goals as goal

pub loop-place-preserved : goal.loop-place-preserved
loop-place-preserved c =
    let layout = c.args.image.now.layout in
    let entries = c.args.image.now.entries in
    let code = c.as_slice-word-items.result.now in
    let place = c.loop-place.place in
    let labels : bytes_or_none (get nat_cmp c.in_ok-labels.labels (4 * place)) ≡ labels_at entries (4 * place) =
    c.in_ok-labels.ensures (4 * place) ∙ ap (λ (es : List Entry). labels_at es (4 * place)) c.as_slice.ensures in
    let there = c.in_ok-list_labels.ensures ∙ ap (λ (x : List ℕ). c.loop-place.text.items ++ x) labels in
    let line = c.in_ok-list_word.ensures ∙ ap (λ (base : ℕ). c.list_labels.new.text.items
    ++ word_line (base + 4 * place) (get_or code place 0)) c.code_base-base.ensures in
    two_pieces _ c.loop-place.text.items _ _ (labels_at entries (4 * place))
    (word_line (code_base layout + 4 * place) (get_or code place 0)) _
    (flat_map (lines_at layout entries) (enumerate_from (place + 1) (drop (place + 1) code))) c.loop-place.invariant
    (from_place (lines_at layout entries) code place (omega arith))
    there line
