use Rattle.std.proofs.Common.{◌-◌, ◌∷◌, [], ◌++◌, ap, ◌∙◌}
use Rattle.br_rv32im.specs.declared.instruction.Ins.TheVariants.{Ecall}
use Rattle.br_emit.specs.Code.{Does, all_items, constant_items}
use Rattle.br_emit.specs.Buffer.{appended}
use Rattle.br_emit.specs.Ready.{aimed}
use Rattle.br_emit.proofs.Readiness.{appended_twice, fit_both}
use Rattle.br_emit.proofs.functions.ended.Goals as goal

pub returns-clause-fit : goal.returns-clause-fit
returns-clause-fit c =
    let body = all_items (aimed c.args.targets.now) c.args.body.now c.args.buffers in
    fit_both (constant_items 2 (0x80300000 - c.args.buffers)) (body ++ Does Ecall ∷ []) c.constant.ensures.fit
    (fit_both body (Does Ecall ∷ []) c.write_all.ensures.fit (tt, tt))

pub returns-clause-code : goal.returns-clause-code
returns-clause-code c =
    let w = c.args.code.now in
    let stack = constant_items 2 (0x80300000 - c.args.buffers) in
    let body = all_items (aimed c.args.targets.now) c.args.body.now c.args.buffers in
    let w2 = c.write_all.ensures.code ∙ ap (λ q. appended q body) c.constant.ensures.code in
    c.put.ensures ∙ ap (λ q. appended q (Does Ecall ∷ [])) w2 ∙ appended_twice (appended w stack) body (Does Ecall ∷ [])
    ∙ appended_twice w stack (body ++ Does Ecall ∷ [])
