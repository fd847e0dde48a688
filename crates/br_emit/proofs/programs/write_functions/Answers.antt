use Rattle.std.proofs.Common.{◌+◌, length, ap, subst, ◌∙◌}
use Rattle.br_emit.specs.Code.{AllFit}
use Rattle.br_emit.specs.Buffer.{appended}
use Rattle.br_emit.specs.Ready.{aimed}
use Rattle.br_emit.specs.Registers.{forgets_of}
use Rattle.br_emit.specs.Written.{one_items, flagged}
use Rattle.br_emit.proofs.Following.{rest_here, rest_step}
use Rattle.br_emit.proofs.programs.write_functions.Goals as goal

pub write_function-requires-clause-writable : goal.write_function-requires-clause-writable
write_function-requires-clause-writable c =
    (rest_here (aimed c.args.targets.now) (forgets_of c.args.sets.now)
    (flagged c.args.called.now) c.args.funcs.now c.loop-f.f-index c.loop-f.n c.f-item.result c.loop-f.code
    (c.loop-f.lengths.room + length c.loop-f.lengths.numbers)
    c.loop-f-test.true c.f-item.is c.loop-f.invariant.room c.loop-f.invariant.few c.loop-f.invariant.writable).writable

pub write_function-requires-clause-room : goal.write_function-requires-clause-room
write_function-requires-clause-room c =
    rw (c.is_flagged.ensures, c.at.ensures)
    (rest_here (aimed c.args.targets.now) (forgets_of c.args.sets.now)
    (flagged c.args.called.now) c.args.funcs.now c.loop-f.f-index c.loop-f.n c.f-item.result c.loop-f.code
    (c.loop-f.lengths.room + length c.loop-f.lengths.numbers)
    c.loop-f-test.true c.f-item.is c.loop-f.invariant.room c.loop-f.invariant.few c.loop-f.invariant.writable).room

pub write_function-requires-clause-few : goal.write_function-requires-clause-few
write_function-requires-clause-few c =
    rw (c.is_flagged.ensures, c.at.ensures)
    (rest_here (aimed c.args.targets.now) (forgets_of c.args.sets.now)
    (flagged c.args.called.now) c.args.funcs.now c.loop-f.f-index c.loop-f.n c.f-item.result c.loop-f.code
    (c.loop-f.lengths.room + length c.loop-f.lengths.numbers)
    c.loop-f-test.true c.f-item.is c.loop-f.invariant.room c.loop-f.invariant.few c.loop-f.invariant.writable).few

pub loop-f-preserved : goal.loop-f-preserved
loop-f-preserved c =
    let targets = aimed c.args.targets.now in
    let forgets = forgets_of c.args.sets.now in
    let called = flagged c.args.called.now in
    let f = c.f-item.result in
    let n = c.loop-f.n in
    let code = c.write_function.ensures.code
    ∙ ap (λ b. appended c.loop-f.code (one_items targets forgets b n c.at.result f)) c.is_flagged.ensures
    ∙ ap (λ t. appended c.loop-f.code (one_items targets forgets (called n) n t f)) c.at.ensures in
    let fit = subst (λ t. AllFit (one_items targets forgets (called n) n t f))
    c.at.ensures (subst (λ b. AllFit (one_items targets forgets b n c.at.result f)) c.is_flagged.ensures
    c.write_function.ensures.fit) in
    let step = rest_step targets forgets called c.args.funcs.now c.loop-f.f-index
    n f c.loop-f.code c.write_function.new.code (c.loop-f.lengths.room + length c.loop-f.lengths.numbers)
    (c.write_function.new.lengths.room + length c.write_function.new.lengths.numbers)
    c.loop-f-test.true c.f-item.is code c.write_function.ensures.kept c.loop-f.invariant.room c.loop-f.invariant.few
    c.loop-f.invariant.writable in
    record {
      n = ap (λ q. q + 1) c.loop-f.invariant.n;
      code = step.code ∙ c.loop-f.invariant.code;
      fit = λ rest. c.loop-f.invariant.fit (step.fit fit rest);
      room = step.room;
      few = step.few;
      writable = step.writable;
      kept = c.write_function.ensures.kept ∙ c.loop-f.invariant.kept;
    }
