-- The pieces of a frame, one after another.
use Rattle.std.proofs.Common.{ap, ◌∙◌}
use Rattle.br_emit.specs.Code.{all_items, save_items, restore_items, move_items, exit_items}
use Rattle.br_emit.specs.Buffer.{appended}
use Rattle.br_emit.specs.Ready.{aimed}
use Rattle.br_emit.proofs.Planning.{eight}
use Rattle.br_emit.proofs.functions.with_frame.Goals as goal

pub restore-requires-clause-room : goal.restore-requires-clause-room
restore-requires-clause-room c =
    let plan = eight c.args.code.now (move_items c.args.down) (save_items 0 c.args.rs.now) (move_items c.args.room)
    (all_items (aimed c.args.targets.now) c.args.body.now c.args.buffers) (move_items c.args.buffers)
    (restore_items 0 c.args.rs.now) (move_items c.args.up) exit_items c.requires.ready.room in
    let w1 = c.move_stack.ensures.code in
    let w2 = c.save.ensures.code ∙ ap (λ w. appended w (save_items 0 c.args.rs.now)) w1 in
    let w3 = c.move_stack-2.ensures.code ∙ ap (λ w. appended w (move_items c.args.room)) w2 in
    let w4 = c.write_all.ensures.code
    ∙ ap (λ w. appended w (all_items (aimed c.args.targets.now) c.args.body.now c.args.buffers)) w3 in
    let w5 = c.move_stack-3.ensures.code ∙ ap (λ w. appended w (move_items c.args.buffers)) w4 in
    rw w5 plan.sixth

pub move_stack-requires-4 : goal.move_stack-requires-4
move_stack-requires-4 c =
    let plan = eight c.args.code.now (move_items c.args.down) (save_items 0 c.args.rs.now) (move_items c.args.room)
    (all_items (aimed c.args.targets.now) c.args.body.now c.args.buffers) (move_items c.args.buffers)
    (restore_items 0 c.args.rs.now) (move_items c.args.up) exit_items c.requires.ready.room in
    let w1 = c.move_stack.ensures.code in
    let w2 = c.save.ensures.code ∙ ap (λ w. appended w (save_items 0 c.args.rs.now)) w1 in
    let w3 = c.move_stack-2.ensures.code ∙ ap (λ w. appended w (move_items c.args.room)) w2 in
    let w4 = c.write_all.ensures.code
    ∙ ap (λ w. appended w (all_items (aimed c.args.targets.now) c.args.body.now c.args.buffers)) w3 in
    let w5 = c.move_stack-3.ensures.code ∙ ap (λ w. appended w (move_items c.args.buffers)) w4 in
    let w6 = c.restore.ensures.code ∙ ap (λ w. appended w (restore_items 0 c.args.rs.now)) w5 in
    rw w6 plan.seventh

pub exit-requires : goal.exit-requires
exit-requires c =
    let plan = eight c.args.code.now (move_items c.args.down) (save_items 0 c.args.rs.now) (move_items c.args.room)
    (all_items (aimed c.args.targets.now) c.args.body.now c.args.buffers) (move_items c.args.buffers)
    (restore_items 0 c.args.rs.now) (move_items c.args.up) exit_items c.requires.ready.room in
    let w1 = c.move_stack.ensures.code in
    let w2 = c.save.ensures.code ∙ ap (λ w. appended w (save_items 0 c.args.rs.now)) w1 in
    let w3 = c.move_stack-2.ensures.code ∙ ap (λ w. appended w (move_items c.args.room)) w2 in
    let w4 = c.write_all.ensures.code
    ∙ ap (λ w. appended w (all_items (aimed c.args.targets.now) c.args.body.now c.args.buffers)) w3 in
    let w5 = c.move_stack-3.ensures.code ∙ ap (λ w. appended w (move_items c.args.buffers)) w4 in
    let w6 = c.restore.ensures.code ∙ ap (λ w. appended w (restore_items 0 c.args.rs.now)) w5 in
    let w7 = c.move_stack-4.ensures.code ∙ ap (λ w. appended w (move_items c.args.up)) w6 in
    rw w7 plan.eighth

pub returns-clause-code : goal.returns-clause-code
returns-clause-code c =
    let plan = eight c.args.code.now (move_items c.args.down) (save_items 0 c.args.rs.now) (move_items c.args.room)
    (all_items (aimed c.args.targets.now) c.args.body.now c.args.buffers) (move_items c.args.buffers)
    (restore_items 0 c.args.rs.now) (move_items c.args.up) exit_items c.requires.ready.room in
    let w1 = c.move_stack.ensures.code in
    let w2 = c.save.ensures.code ∙ ap (λ w. appended w (save_items 0 c.args.rs.now)) w1 in
    let w3 = c.move_stack-2.ensures.code ∙ ap (λ w. appended w (move_items c.args.room)) w2 in
    let w4 = c.write_all.ensures.code
    ∙ ap (λ w. appended w (all_items (aimed c.args.targets.now) c.args.body.now c.args.buffers)) w3 in
    let w5 = c.move_stack-3.ensures.code ∙ ap (λ w. appended w (move_items c.args.buffers)) w4 in
    let w6 = c.restore.ensures.code ∙ ap (λ w. appended w (restore_items 0 c.args.rs.now)) w5 in
    let w7 = c.move_stack-4.ensures.code ∙ ap (λ w. appended w (move_items c.args.up)) w6 in
    c.exit.ensures.code ∙ ap (λ w. appended w exit_items) w7 ∙ plan.code

pub returns-clause-fit : goal.returns-clause-fit
returns-clause-fit c =
    let plan = eight c.args.code.now (move_items c.args.down) (save_items 0 c.args.rs.now) (move_items c.args.room)
    (all_items (aimed c.args.targets.now) c.args.body.now c.args.buffers) (move_items c.args.buffers)
    (restore_items 0 c.args.rs.now) (move_items c.args.up) exit_items c.requires.ready.room in
    plan.fit c.move_stack.ensures.fit c.save.ensures.fit c.move_stack-2.ensures.fit c.write_all.ensures.fit
    c.move_stack-3.ensures.fit c.restore.ensures.fit c.move_stack-4.ensures.fit c.exit.ensures.fit
