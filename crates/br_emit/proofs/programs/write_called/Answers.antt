use Rattle.std.proofs.Common.{ap, subst, ◌∙◌}
use Rattle.br_emit.specs.Registers.{forgets_of}
use Rattle.br_emit.specs.Code.{AllFit, callable_items, entry_items}
use Rattle.br_emit.specs.Buffer.{appended}
use Rattle.br_emit.specs.Ready.{aimed}
use Rattle.br_emit.proofs.Readiness.{appended_twice, fit_both}
use Rattle.br_emit.proofs.Following.{called_ready}
use Rattle.br_emit.proofs.programs.write_called.Goals as goal

pub callable-requires-clause-ready : goal.callable-requires-clause-ready
callable-requires-clause-ready c = (called_ready (aimed c.args.targets.now) (forgets_of c.args.sets.now) c.args.n
    c.args.target c.args.f.now c.args.code.now c.args.lengths.now c.requires.ready).ready

pub entry-requires-clause-room : goal.entry-requires-clause-room
entry-requires-clause-room c = let called = called_ready (aimed c.args.targets.now) (forgets_of c.args.sets.now)
    c.args.n c.args.target c.args.f.now c.args.code.now c.args.lengths.now c.requires.ready in
    rw (c.near.ensures, c.callable.ensures.code) called.room

pub returns-clause-code : goal.returns-clause-code
returns-clause-code c =
    c.entry.ensures.code
    ∙ ap (λ n. appended c.callable.new.code (entry_items n c.args.target)) c.near.ensures
    ∙ ap (λ w. appended w (entry_items c.args.targets.now.near c.args.target)) c.callable.ensures.code
    ∙ appended_twice c.args.code.now (callable_items (aimed c.args.targets.now) (forgets_of c.args.sets.now) c.args.n
    c.args.f.now) (entry_items c.args.targets.now.near c.args.target)

pub returns-clause-fit : goal.returns-clause-fit
returns-clause-fit c = fit_both (callable_items (aimed c.args.targets.now) (forgets_of c.args.sets.now)
    c.args.n c.args.f.now) (entry_items c.args.targets.now.near c.args.target) c.callable.ensures.fit
    (subst (λ n. AllFit (entry_items n c.args.target)) c.near.ensures c.entry.ensures.fit)
