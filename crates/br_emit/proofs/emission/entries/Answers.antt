use Rattle.std.proofs.Common.{◌+◌, ◌++◌, ◌∷◌, [], ap, ◌∙◌}
use Rattle.br_emit.proofs.Imaged.{counts_here, entries_step}
use Rattle.br_emit.proofs.emission.entries.Goals as goal

pub entry-requires : goal.entry-requires
entry-requires c = counts_here c.args.funcs.now c.loop-f.f-index c.f-item.result c.loop-f-test.true c.f-item.is
    c.loop-f.invariant.counts

pub loop-f-preserved : goal.loop-f-preserved
loop-f-preserved c =
    let step = entries_step c.args.offsets.now c.args.needs.now c.args.funcs.now c.loop-f.f-index c.loop-f.n
    c.f-item.result c.loop-f.entries c.push.new.self c.loop-f-test.true c.f-item.is
    (c.in_ok-push.ensures.ok ∙ ap (λ e. c.loop-f.entries ++ e ∷ []) c.in_ok-entry.ensures.entry)
    c.in_ok-entry.ensures.name c.loop-f.invariant.counts in
    record {
      n = ap (λ q. q + 1) c.loop-f.invariant.n;
      entries = step.entries ∙ c.loop-f.invariant.entries;
      names = λ rest. c.loop-f.invariant.names (step.names rest);
      counts = step.counts;
    }
