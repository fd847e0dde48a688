use Rattle.std.proofs.Common.{refl, sym, ap, ◌∙◌, arith}
use Rattle.std.proofs.lemmas.Result.{IfOk-weaker}
use Rattle.br_syntax.specs.declared.program.Cmd.TheVariants as command
use Rattle.br_source_meaning.specs.Names.{function_names}
use Rattle.br_source_meaning.specs.Numbered.{named_commands, target_name}
use Rattle.br_source_meaning.proofs.Parts.{numbers-all, numbers-form, numbers-Stackalloc}
use Rattle.br_source_meaning.proofs.numbering.+numbering.Goals as goal

pub commands-returns : goal.commands-returns
commands-returns t c =
    numbers-all c.args.own.now c.loop-c.own
    (λ later. named_commands (function_names c.args.index.now.funcs.now) later c.loop-c.numbered) c.args.cs.now
    c.loop-c.c-index (omega arith) c.loop-c.invariant

pub buffer-returns : goal.buffer-returns
buffer-returns t c =
    numbers-Stackalloc (function_names c.args.index.now.funcs.now) c.args.own.now c.number.new.self c.commands.new.own
    c.in_ok-k.k c.args.n c.in_ok-body.body
    (command.Stackalloc c.args.x.now c.args.n c.args.body.now) c.args.x.now c.args.body.now refl c.in_ok-k.ensures
    c.in_ok-body.ensures

pub command-returns-in-Set : goal.command-returns-in-Set
command-returns-in-Set t c =
    let names = function_names c.args.index.now.funcs.now in
    IfOk-weaker c.set.result _ _
    (λ n h. numbers-form names c.args.own.now c.set.new.own n c.args.c.now (command.Set c.in-Set.x c.in-Set.e)
    c.in-Set.is (h names)) c.set.ensures

pub command-returns-in-Unset : goal.command-returns-in-Unset
command-returns-in-Unset t c =
    let names = function_names c.args.index.now.funcs.now in
    IfOk-weaker c.unset.result _ _
    (λ n h. numbers-form names c.args.own.now c.unset.new.own n c.args.c.now (command.Unset c.in-Unset.x)
    c.in-Unset.is (h names)) c.unset.ensures

pub command-returns-in-Store : goal.command-returns-in-Store
command-returns-in-Store t c =
    let names = function_names c.args.index.now.funcs.now in
    IfOk-weaker c.store.result _ _
    (λ n h. numbers-form names c.args.own.now c.store.new.own n c.args.c.now
    (command.Store c.in-Store.size c.in-Store.a c.in-Store.e) c.in-Store.is (h names)) c.store.ensures

pub command-returns-in-Call : goal.command-returns-in-Call
command-returns-in-Call t c =
    let names = function_names c.args.index.now.funcs.now in
    let is = c.in-Call.is
    ∙ ap (λ xs. command.Call c.in-Call.at xs c.in-Call.callee c.in-Call.args) (sym c.as_slice-in-Call.ensures)
    ∙ ap (λ es. command.Call c.in-Call.at c.as_slice-in-Call.result.now c.in-Call.callee es)
    (sym c.as_slice-in-Call-2.ensures)
    ∙ ap (λ x. command.Call c.in-Call.at c.as_slice-in-Call.result.now x c.as_slice-in-Call-2.result.now)
    (sym c.target-callee.ensures) in
    IfOk-weaker c.call.result _ _
    (λ n h. numbers-form names c.args.own.now c.call.new.own n c.args.c.now
    (command.Call c.in-Call.at c.as_slice-in-Call.result.now (target_name names c.target-callee.result)
    c.as_slice-in-Call-2.result.now) is (h names)) c.call.ensures

pub command-returns-in-Interact : goal.command-returns-in-Interact
command-returns-in-Interact t c =
    let names = function_names c.args.index.now.funcs.now in
    let is = c.in-Interact.is
    ∙ ap (λ xs. command.Interact c.in-Interact.at xs c.in-Interact.action c.in-Interact.args)
    (sym c.as_slice-in-Interact.ensures)
    ∙ ap (λ es. command.Interact c.in-Interact.at c.as_slice-in-Interact.result.now c.in-Interact.action es)
    (sym c.as_slice-in-Interact-2.ensures) in
    IfOk-weaker c.interact.result _ _
    (λ n h. numbers-form names c.args.own.now c.interact.new.own n c.args.c.now
    (command.Interact c.in-Interact.at c.as_slice-in-Interact.result.now c.in-Interact.action
    c.as_slice-in-Interact-2.result.now) is (h names)) c.interact.ensures
