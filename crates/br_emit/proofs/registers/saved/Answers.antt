use Rattle.std.proofs.Common.{◌∙◌, ◌&&◌, not, ap}
use Rattle.br_flatimp.specs.Liveness.{is_in}
use Rattle.br_flatimp.specs.Parts.{written, own_callees}
use Rattle.br_emit.specs.Code.{changes}
use Rattle.br_emit.specs.Registers.{has, forgets_of}
use Rattle.br_emit.proofs.Changes.{changes_at, own_gathered}
use Rattle.br_emit.proofs.registers.saved.Goals as goal

pub returns : goal.returns
returns c =
    let forgets = forgets_of c.args.sets.now in
    let f = c.args.f.now in
    λ r inside.
    c.without.ensures r
    ∙ ap (λ q. has c.without-kept.result r && not (has q r)) c.set_at.ensures
    ∙ ap (λ b. b && not (forgets c.args.n r))
    (c.without-kept.ensures r
    ∙ ap (λ b. b && not (has c.all_of.result r)) (c.changed_by_all-changed.ensures r inside
    ∙ ap (λ q. changes_at forgets (own_gathered written q) (own_gathered own_callees q) r) c.as_slice.ensures)
    ∙ ap (λ b. changes forgets f r && not b) (c.all_of.ensures r inside ∙ ap (λ q. is_in q r) c.as_slice-2.ensures))
