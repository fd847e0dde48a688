use Rattle.std.proofs.Common.{◌∷◌, [], ◌++◌, length, ap, ◌∙◌, subst, arith}
use Rattle.std.specs.Prelude.{pos}
use Rattle.br_rv32im.specs.declared.instruction.Ins.TheVariants.{Load, Reg}
use Rattle.br_rv32im.specs.declared.instruction.RegOp.TheVariants.{Add}
use Rattle.br_emit.specs.Code.{Does, AllFit, load_op, over_items, table_words}
use Rattle.br_emit.specs.Buffer.{appended}
use Rattle.br_emit.proofs.Readiness.{appended_twice, fit_both}
use Rattle.br_emit.proofs.constant_tables.table.Goals as goal

pub returns-clause-fit : goal.returns-clause-fit
returns-clause-fit c =
    let words = table_words c.args.bytes.now in
    let last = Does (Reg Add 1 1 c.args.y) ∷ Does (Load (load_op c.args.size) c.args.x 1 (pos 0)) ∷ [] in
    fit_both (over_items 1 (length words)) (words ++ last)
    (subst (λ n. AllFit (over_items 1 n)) c.word_count.ensures c.over.ensures.fit)
    (fit_both words last c.words.ensures.fit
    ((omega arith, omega arith, c.requires.offset), ((c.requires.to, omega arith, (grind arith, grind arith)), tt)))

pub returns-clause-code : goal.returns-clause-code
returns-clause-code c =
    let w = c.args.code.now in
    let words = table_words c.args.bytes.now in
    let over = over_items 1 (length words) in
    let add = Does (Reg Add 1 1 c.args.y) ∷ [] in
    let load = Does (Load (load_op c.args.size) c.args.x 1 (pos 0)) ∷ [] in
    let w1 = c.over.ensures.code ∙ ap (λ n. appended w (over_items 1 n)) c.word_count.ensures in
    let w2 = c.words.ensures.code ∙ ap (λ q. appended q words) w1 in
    let w3 = c.put.ensures ∙ ap (λ q. appended q add) w2 in
    c.put-2.ensures
    ∙ ap (λ o. appended c.put.new.self (Does (Load o c.args.x 1 (pos 0)) ∷ [])) c.load_op.ensures
    ∙ ap (λ q. appended q load) w3
    ∙ appended_twice (appended (appended w over) words) add load
    ∙ appended_twice (appended w over) words (add ++ load)
    ∙ appended_twice w over (words ++ (add ++ load))
