-- Each form's tree stands for it, and what it needs follows from the limits of the whole.
use Rattle.std.proofs.Common.{List, Ok, map, refl, ap, ◌∙◌, codes, rules}
use Rattle.std.proofs.lemmas.Result.{IfOk-weaker}
use Rattle.br_syntax.specs.declared.program.Cmd.{Cmd}
use Rattle.br_syntax.specs.declared.program.Cmd.TheVariants as cmd
use Rattle.br_syntax.specs.declared.program.Cmd.TheFolds.{the_lemmas}
use Rattle.br_syntax.specs.Offsets.{unplaced}
use Rattle.br_syntax.proofs.ShapedForms.{stackalloc_parts, if_parts, while_part, seq_part}
use Rattle.br_syntax.proofs.UnplacedForms.{unplaced-seq, unplaced-call, unplaced-interact, command_push}
use Rattle.br_syntax.proofs.Written.{unplaced_push}
use Rattle.br_syntax.proofs.WrittenCmd.{unplaced_body, unplaced_buffer, unplaced_loop, if_written, stackalloc_written}
use Rattle.br_syntax.proofs.WrittenCmd.{while_written, seq_written, call_written, interact_written}
use Rattle.br_syntax.proofs.write_cmd.+cmd_tree.Goals as goal

pub body_tree-returns-clause-offsets : goal.body_tree-returns-clause-offsets
body_tree-returns-clause-offsets t c =
    rw (c.in_ok-append.ensures, c.in_ok-items.ensures)
    (unplaced_body c.args.word.now c.in_ok-cmd_trees.field-0 c.in_ok-cmd_trees.ensures.offsets)

pub cmd_tree-stackalloc_tree-requires : goal.cmd_tree-stackalloc_tree-requires
cmd_tree-stackalloc_tree-requires t c =
    let parts = stackalloc_parts c.args.c.now c.in-Stackalloc.variable c.in-Stackalloc.size c.in-Stackalloc.body
    c.requires c.in-Stackalloc.is in
    search (rules, the_lemmas)

pub cmd_tree-if_tree-requires : goal.cmd_tree-if_tree-requires
cmd_tree-if_tree-requires t c =
    let parts = if_parts c.args.c.now c.in-If.test c.in-If.yes c.in-If.no c.requires c.in-If.is in
    search (rules, the_lemmas)

pub cmd_tree-while_tree-requires : goal.cmd_tree-while_tree-requires
cmd_tree-while_tree-requires t c =
    let part = while_part c.args.c.now c.in-While.test c.in-While.body c.requires c.in-While.is in
    search (rules, the_lemmas)

pub cmd_tree-body_tree-requires : goal.cmd_tree-body_tree-requires
cmd_tree-body_tree-requires t c =
    let part = seq_part c.args.c.now c.in-Seq.body c.requires c.in-Seq.is in
    search (rules, the_lemmas)

pub cmd_tree-returns-in-Seq-clause-denotes : goal.cmd_tree-returns-in-Seq-clause-denotes
cmd_tree-returns-in-Seq-clause-denotes t c =
    IfOk-weaker c.body_tree.result _ _
    (λ u is. seq_written u _ is ∙ ap Ok (ap (λ (b : List Cmd). cmd.Seq (map unplaced b)) c.as_slice-in-Seq.ensures
    ∙ unplaced-seq c.args.c.now c.in-Seq.body c.in-Seq.is))
    c.body_tree.ensures.tree

pub cmd_tree-returns-in-Call-clause-denotes : goal.cmd_tree-returns-in-Call-clause-denotes
cmd_tree-returns-in-Call-clause-denotes t c =
    IfOk-weaker c.target_tree.result _ _
    (λ u is. call_written u _ _ _ is ∙ ap Ok (rw (c.as_slice-in-Call.ensures, c.as_slice-in-Call-2.ensures) refl
    ∙ unplaced-call c.args.c.now c.in-Call.at c.in-Call.results c.in-Call.callee c.in-Call.args c.in-Call.is))
    c.target_tree.ensures.tree

pub cmd_tree-returns-in-Interact-clause-denotes : goal.cmd_tree-returns-in-Interact-clause-denotes
cmd_tree-returns-in-Interact-clause-denotes t c =
    IfOk-weaker c.target_tree-in-Interact.result _ _
    (λ u is. interact_written u _ _ _ is
    ∙ ap Ok (rw (c.as_slice-in-Interact.ensures, c.as_slice-in-Interact-2.ensures) refl ∙ unplaced-interact
    c.args.c.now c.in-Interact.at c.in-Interact.results c.in-Interact.action c.in-Interact.args c.in-Interact.is))
    c.target_tree-in-Interact.ensures.tree

pub cmd_trees-loop-c-preserved : goal.cmd_trees-loop-c-preserved
cmd_trees-loop-c-preserved t c =
    rw c.in_ok-push.ensures.ok (
      command_push c.loop-c.items c.args.body.now c.loop-c.c-index c.in_ok-cmd_tree.field-0 c.c-item.result
          c.loop-c-test.true c.c-item.is c.in_ok-cmd_tree.ensures.denotes c.loop-c.invariant.0,
      unplaced_push c.loop-c.items c.in_ok-cmd_tree.field-0 c.loop-c.invariant.1 c.in_ok-cmd_tree.ensures.offsets,
    )

pub if_tree-returns-clause-denotes : goal.if_tree-returns-clause-denotes
if_tree-returns-clause-denotes t c =
    rw (c.in_ok-push-3.ensures.ok, c.in_ok-push-2.ensures.ok, c.in_ok-push.ensures.ok, c.in_ok-items.ensures)
    (if_written c.in_ok-expr_tree.field-0 c.in_ok-body_tree.field-0 c.in_ok-body_tree-2.field-0
    c.args.test.now (map unplaced c.args.yes.now) (map unplaced c.args.no.now) c.in_ok-expr_tree.ensures.denotes
    c.in_ok-body_tree.ensures.tree c.in_ok-body_tree-2.ensures.tree)

pub stackalloc_tree-returns-clause-denotes : goal.stackalloc_tree-returns-clause-denotes
stackalloc_tree-returns-clause-denotes t c =
    rw (
      c.in_ok-append.ensures,
      c.in_ok-push-2.ensures.ok,
      c.in_ok-push.ensures.ok,
      c.in_ok-items.ensures,
      c.in_ok-name_tree.ensures,
    )
    (stackalloc_written c.args.variable.now c.args.size c.in_ok-cmd_trees.field-0 (map unplaced c.args.body.now)
    c.requires.size c.in_ok-cmd_trees.ensures.denotes)

pub stackalloc_tree-returns-clause-offsets : goal.stackalloc_tree-returns-clause-offsets
stackalloc_tree-returns-clause-offsets t c =
    rw (
      c.in_ok-append.ensures,
      c.in_ok-push-2.ensures.ok,
      c.in_ok-push.ensures.ok,
      c.in_ok-items.ensures,
      c.in_ok-name_tree.ensures,
    )
    (unplaced_buffer (codes "stackalloc") c.args.variable.now c.args.size c.in_ok-cmd_trees.field-0
    c.in_ok-cmd_trees.ensures.offsets)

pub while_tree-returns-clause-denotes : goal.while_tree-returns-clause-denotes
while_tree-returns-clause-denotes t c =
    rw (c.in_ok-append.ensures, c.in_ok-push.ensures.ok, c.in_ok-items.ensures)
    (while_written c.in_ok-expr_tree.field-0 c.args.test.now c.in_ok-cmd_trees.field-0 (map unplaced c.args.body.now)
    c.in_ok-expr_tree.ensures.denotes c.in_ok-cmd_trees.ensures.denotes)

pub while_tree-returns-clause-offsets : goal.while_tree-returns-clause-offsets
while_tree-returns-clause-offsets t c =
    rw (c.in_ok-append.ensures, c.in_ok-push.ensures.ok, c.in_ok-items.ensures)
    (unplaced_loop (codes "while") c.in_ok-expr_tree.field-0 c.in_ok-cmd_trees.field-0 c.in_ok-expr_tree.ensures.offsets
    c.in_ok-cmd_trees.ensures.offsets)
