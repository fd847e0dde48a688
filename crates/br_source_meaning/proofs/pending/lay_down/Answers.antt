use Rattle.std.proofs.Common.{◌≡◌, [], ◌∷◌, ◌++◌, sym, ap, ◌∙◌, arith}
use Rattle.std.proofs.lemmas.Grind.{common_steps}
use Rattle.br_source_meaning.specs.Runs.{Goes, run_all}
use Rattle.br_source_meaning.specs.Numbered.{named_commands}
use Rattle.br_source_meaning.specs.Pending.{finish, does}
use Rattle.br_source_meaning.specs.declared.pending.Frame.TheVariants as frame
use Rattle.br_source_meaning.proofs.Frames.{pushed}
use Rattle.br_source_meaning.proofs.pending.lay_down.Goals as goal

pub returns-in_ok-push-in-Body-clause-same : goal.returns-in_ok-push-in-Body-clause-same
returns-in_ok-push-in-Body-clause-same c = λ names own call s.
    let new : c.push.new.self ≡ c.args.pending.now ++ frame.Body c.in-Body.body ∷ [] = grind (arith, common_steps) in
    ap (λ w. finish names own call c.args.pending.now (does names own call w s)) c.in-Body.is
    ∙ sym (pushed names own call c.args.pending.now c.push.new.self (frame.Body c.in-Body.body) (Goes s) new)

pub returns-in_ok-push-in-Buffer-2-clause-same : goal.returns-in_ok-push-in-Buffer-2-clause-same
returns-in_ok-push-in-Buffer-2-clause-same c = λ names own call s.
    let mid : c.push-in-Buffer.new.self ≡ c.args.pending.now ++ frame.Leave c.in-Buffer.block.held ∷ [] =
    grind (arith, common_steps) in
    let new : c.push-in-Buffer-2.new.self ≡ c.push-in-Buffer.new.self ++ frame.Body c.in-Buffer.block.body ∷ [] =
    grind (arith, common_steps) in
    ap (λ w. finish names own call c.args.pending.now (does names own call w s)) c.in-Buffer.is
    ∙ sym (pushed names own call c.push-in-Buffer.new.self c.push-in-Buffer-2.new.self
    (frame.Body c.in-Buffer.block.body) (Goes s) new
    ∙ pushed names own call c.args.pending.now c.push-in-Buffer.new.self (frame.Leave c.in-Buffer.block.held)
    (run_all call (named_commands names own c.in-Buffer.block.body.commands.now) s) mid)
