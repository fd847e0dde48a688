-- The page is made now, or was before.
use Rattle.std.proofs.Common.{◌≡◌, ℕ, List, map, Some, None, true, false, length, refl, arith, sym, ap, ◌∙◌}
use Rattle.std.specs.Prelude.{is_some, slice_index_or, slice_set}
use Rattle.std.proofs.Math.ListN.{get_or-map}
use Rattle.std.proofs.lemmas.Option.{get_or_from_slice_get, slice_get_read}
use Rattle.std.proofs.lemmas.List.{map-set, set-get_or}
use Rattle.br_machine.proofs.pages.make.Goals as goal

pub returns-then-is_none-clause-made : goal.returns-then-is_none-clause-made
returns-then-is_none-clause-made c =
    map-set (is_some {T = List ℕ}) c.args.pages.now.items c.args.page (Some c.first_page.result)

pub returns-else-is_none-clause-made : goal.returns-else-is_none-clause-made
returns-else-is_none-clause-made c =
    let before = map (is_some {T = List ℕ}) c.args.pages.now.items in
    let found : slice_index_or c.args.pages.now.items c.args.page None ≡ c.index.result.now =
    get_or_from_slice_get c.args.pages.now.items c.args.page c.index.result.now None
    (slice_get_read c.args.pages.now.items (length c.args.pages.now.items) c.args.page c.index.result.now refl
    (omega (arith, c.requires.inside, c.requires.pages)) c.index.ensures) in
    let there : slice_index_or before c.args.page false ≡ true =
    get_or-map is_some c.args.pages.now.items c.args.page None ∙ ap is_some found ∙ c.if-is_none.ensures in
    sym (set-get_or before c.args.page false) ∙ ap (slice_set before c.args.page) there
