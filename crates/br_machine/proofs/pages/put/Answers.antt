-- A page that is made stays made.
use Rattle.std.proofs.Common.{◌≡◌, ℕ, List, ◌/◌, ◌%◌, Some, None, refl, sym, ap, ◌∙◌}
use Rattle.std.specs.Prelude.{is_some, length, slice_index_or, slice_set}
use Rattle.std.proofs.Math.Seq.{map-set_same}
use Rattle.std.proofs.lemmas.Option.{get_or_from_slice_get, slice_get_read}
use Rattle.br_machine.proofs.pages.put.Goals as goal

pub returns-in-Some-clause-made : goal.returns-in-Some-clause-made
returns-in-Some-clause-made c =
    let pages = c.args.pages.now.items in
    let found : slice_index_or pages (c.args.place / 4096) None ≡ c.index_mut.result.now =
    get_or_from_slice_get pages (c.args.place / 4096) c.index_mut.result.now None
    (slice_get_read pages (length pages) (c.args.place / 4096) c.index_mut.result.now refl c.requires.inside
    c.index_mut.ensures.value) in
    map-set_same (is_some {T = List ℕ}) pages (c.args.place / 4096)
    (Some (slice_set c.in-Some.page (c.args.place % 4096) c.args.b)) None
    (sym (ap is_some (found ∙ c.in-Some.is)))
