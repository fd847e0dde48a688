use Rattle.std.proofs.Common.{◌≡◌, [], ◌∷◌, ◌++◌, sym, ap, ◌∙◌, arith}
use Rattle.std.proofs.lemmas.Grind.{common_steps}
use Rattle.br_source_meaning.specs.Runs.{Callee, State, Goes, run_all}
use Rattle.br_source_meaning.specs.Names.{function_names}
use Rattle.br_source_meaning.specs.Numbered.{named_commands}
use Rattle.br_source_meaning.specs.Running.{own_of, state_of, deep_calls}
use Rattle.br_source_meaning.specs.Pending.{finish, begins}
use Rattle.br_source_meaning.specs.declared.pending.Frame.TheVariants as frame
use Rattle.br_source_meaning.proofs.Frames.{pushed}
use Rattle.br_source_meaning.proofs.running.Running.begin.Goals as goal

pub returns-in_ok-push-in-Loop-2-clause-starts : goal.returns-in_ok-push-in-Loop-2-clause-starts
returns-in_ok-push-in-Loop-2-clause-starts c =
    let call : Callee = deep_calls c.args.functions.now.funcs.now in
    let s : State = state_of c.args.self.now in
    let own = own_of c.args.self.now in
    let mid : c.push.new.self ≡ c.args.pending.now ++ frame.Loop c.in-Loop.turn ∷ [] = grind (arith, common_steps) in
    let new : c.push-in-Loop.new.self
    ≡ c.push.new.self ++ frame.Body (record { commands = c.in-Loop.turn.commands }) ∷ [] =
    grind (arith, common_steps) in
    ap (λ t. finish (function_names c.args.functions.now.funcs.now) own call c.args.pending.now
    (begins (function_names c.args.functions.now.funcs.now) own call t s)) c.in-Loop.is
    ∙ sym (pushed (function_names c.args.functions.now.funcs.now) own call c.push.new.self c.push-in-Loop.new.self
    (frame.Body (record { commands = c.in-Loop.turn.commands })) (Goes s) new
    ∙ pushed (function_names c.args.functions.now.funcs.now) own call c.args.pending.now c.push.new.self
    (frame.Loop c.in-Loop.turn)
    (run_all call (named_commands (function_names c.args.functions.now.funcs.now) own c.in-Loop.turn.commands.now)
    s) mid)
