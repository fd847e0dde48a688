use Rattle.std.proofs.Common.{◌<◌, map, sym, ap, subst, ◌∙◌}
use Rattle.std.specs.Prelude.{All}
use Rattle.br_flatimp.specs.Sizes.{largest, statement_nest}
use Rattle.br_emit.specs.Code.{AllFit, framed, callable_items}
use Rattle.br_emit.specs.Sizes.{sized_all}
use Rattle.br_emit.specs.Buffer.{appended}
use Rattle.br_emit.specs.Registers.{forgets_of}
use Rattle.br_emit.specs.Ready.{Ready, aimed}
use Rattle.br_emit.proofs.Framed.{framed_as}
use Rattle.br_emit.proofs.Saving.{framed_small, framed_few}
use Rattle.br_emit.proofs.functions.callable.Goals as goal

pub with_frame-requires-clause-registers : goal.with_frame-requires-clause-registers
with_frame-requires-clause-registers c = subst (All (λ r. r < 32)) (sym (c.as_slice-4.ensures
    ∙ (c.framed-rs.ensures ∙ ap (λ b. framed b (forgets_of c.args.sets.now) c.args.n c.args.f.now) c.near.ensures)))
    (framed_small c.args.targets.now.near (forgets_of c.args.sets.now) c.args.n c.args.f.now)

pub with_frame-requires-clause-count : goal.with_frame-requires-clause-count
with_frame-requires-clause-count c = rw (c.as_slice-4.ensures
    ∙ (c.framed-rs.ensures ∙ ap (λ b. framed b (forgets_of c.args.sets.now) c.args.n c.args.f.now) c.near.ensures))
    (framed_few c.args.targets.now.near (forgets_of c.args.sets.now) c.args.n c.args.f.now)

pub with_frame-requires-clause-ready : goal.with_frame-requires-clause-ready
with_frame-requires-clause-ready c =
    let f = c.args.f.now in
    let nest_is = c.nest_all-nest.ensures ∙ ap (λ q. largest (map statement_nest q)) c.as_slice.ensures in
    let items = framed_as (aimed c.args.targets.now) (forgets_of c.args.sets.now) c.args.n f c.as_slice-4.result.now
    c.as_slice-2.result.now c.as_slice-3.result.now c.nest_all-nest.result
    (c.as_slice-4.ensures ∙ (c.framed-rs.ensures
    ∙ ap (λ b. framed b (forgets_of c.args.sets.now) c.args.n c.args.f.now) c.near.ensures)) (c.as_slice-2.ensures
    ∙ (c.framed-rs.ensures ∙ ap (λ b. framed b (forgets_of c.args.sets.now) c.args.n c.args.f.now) c.near.ensures))
    c.as_slice-3.ensures nest_is in
    let parts = ap (λ q. (sized_all c.args.targets.now.near q c.nest_all-nest.result).parts) c.as_slice-3.ensures
    ∙ ap (λ q. (sized_all c.args.targets.now.near f.body q).parts) nest_is in
    subst (λ i. Ready i (sized_all c.args.targets.now.near c.as_slice-3.result.now c.nest_all-nest.result).parts
    c.args.code.now c.args.lengths.now) (sym items)
    (subst (λ p. Ready (callable_items (aimed c.args.targets.now) (forgets_of c.args.sets.now) c.args.n f) p
    c.args.code.now c.args.lengths.now) (sym parts) c.requires.ready)

pub returns-clause-code : goal.returns-clause-code
returns-clause-code c =
    let nest_is = c.nest_all-nest.ensures ∙ ap (λ q. largest (map statement_nest q)) c.as_slice.ensures in
    let items = framed_as (aimed c.args.targets.now) (forgets_of c.args.sets.now) c.args.n c.args.f.now
    c.as_slice-4.result.now c.as_slice-2.result.now c.as_slice-3.result.now c.nest_all-nest.result
    (c.as_slice-4.ensures ∙ (c.framed-rs.ensures
    ∙ ap (λ b. framed b (forgets_of c.args.sets.now) c.args.n c.args.f.now) c.near.ensures)) (c.as_slice-2.ensures
    ∙ (c.framed-rs.ensures ∙ ap (λ b. framed b (forgets_of c.args.sets.now) c.args.n c.args.f.now) c.near.ensures))
    c.as_slice-3.ensures nest_is in
    c.with_frame.ensures.code ∙ ap (appended c.args.code.now) items

pub returns-clause-fit : goal.returns-clause-fit
returns-clause-fit c =
    let nest_is = c.nest_all-nest.ensures ∙ ap (λ q. largest (map statement_nest q)) c.as_slice.ensures in
    let items = framed_as (aimed c.args.targets.now) (forgets_of c.args.sets.now) c.args.n c.args.f.now
    c.as_slice-4.result.now c.as_slice-2.result.now c.as_slice-3.result.now c.nest_all-nest.result
    (c.as_slice-4.ensures ∙ (c.framed-rs.ensures
    ∙ ap (λ b. framed b (forgets_of c.args.sets.now) c.args.n c.args.f.now) c.near.ensures)) (c.as_slice-2.ensures
    ∙ (c.framed-rs.ensures ∙ ap (λ b. framed b (forgets_of c.args.sets.now) c.args.n c.args.f.now) c.near.ensures))
    c.as_slice-3.ensures nest_is in
    subst AllFit items c.with_frame.ensures.fit
