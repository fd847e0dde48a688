use Rattle.std.proofs.Common.{◌≡◌, None, Ok, Err, sym, ap, subst, ◌∙◌, arith}
use Rattle.std.proofs.lemmas.Grind.{common_steps}
use Rattle.br_source_meaning.specs.Runs.{Callee, Run, Goes, with_fuel, run_all}
use Rattle.br_source_meaning.specs.Names.{function_names}
use Rattle.br_source_meaning.specs.Numbered.{named_commands}
use Rattle.br_source_meaning.specs.Running.{own_of, state_of, deep_calls, Leads}
use Rattle.br_source_meaning.specs.Pending.{finish, begins, Pauses, Starts}
use Rattle.br_source_meaning.proofs.Deep.{deep-takes, spent-then}
use Rattle.br_source_meaning.proofs.Frames.{paused-leads, unspent-leads, unbegun-leads}
use Rattle.br_source_meaning.proofs.running.Running.commands.Goals as goal

pub returns-in_err-turn : goal.returns-in_err-turn
returns-in_err-turn c =
    let names = function_names c.args.functions.now.funcs.now in
    let call : Callee = deep_calls c.args.functions.now.funcs.now in
    let is : c.from_residual-in_err-turn.result ≡ Err c.in_err-turn.field-0.0 = grind (arith, common_steps) in
    subst (λ o. Leads o c.until_turn.new.self
    (run_all call (named_commands names (own_of c.args.self.now) c.args.cs.now) (state_of c.args.self.now)))
    (sym is)
    (subst (Leads {T = Unit {0}} (Err c.in_err-turn.field-0.0) c.until_turn.new.self) (sym c.loop-pending.invariant)
    (paused-leads (Unit {0}) c.in_err-turn.field-0.0 names call c.until_turn.new.self c.until_turn.new.pending
    (finish names (own_of c.loop-pending.self) call c.loop-pending.pending (Goes (state_of c.loop-pending.self)))
    (c.in_err-turn.ensures.pauses names call (deep-takes c.args.functions.now.funcs.now))))

pub returns-in_err-spend : goal.returns-in_err-spend
returns-in_err-spend c =
    let names = function_names c.args.functions.now.funcs.now in
    let call : Callee = deep_calls c.args.functions.now.funcs.now in
    let start : Run = finish names (own_of c.loop-pending.self) call c.loop-pending.pending
    (Goes (state_of c.loop-pending.self)) in
    let is : c.from_residual-in_err-spend.result ≡ Err c.in_err-spend.field-0.0 = grind (arith, common_steps) in
    let paused : start ≡ finish names (own_of c.until_turn.new.self) call c.until_turn.new.pending
    (with_fuel (state_of c.until_turn.new.self) (begins names (own_of c.until_turn.new.self) call c.in-Some.turn)) =
    subst (λ o. Pauses (Ok o) names call c.until_turn.new.self c.until_turn.new.pending start) c.in-Some.is
    (c.in_ok-turn.ensures.pauses names call (deep-takes c.args.functions.now.funcs.now)) in
    subst (λ o. Leads o c.spend.new.self
    (run_all call (named_commands names (own_of c.args.self.now) c.args.cs.now) (state_of c.args.self.now)))
    (sym is)
    (unspent-leads (Unit {0}) c.in_err-spend.field-0.0 names (own_of c.until_turn.new.self) call c.spend.new.self
    c.until_turn.new.pending (state_of c.until_turn.new.self)
    (begins names (own_of c.until_turn.new.self) call c.in-Some.turn)
    (run_all call (named_commands names (own_of c.args.self.now) c.args.cs.now) (state_of c.args.self.now))
    (c.loop-pending.invariant ∙ paused) c.in_err-spend.ensures.leads)

pub loop-pending-preserved : goal.loop-pending-preserved
loop-pending-preserved c =
    let names = function_names c.args.functions.now.funcs.now in
    let call : Callee = deep_calls c.args.functions.now.funcs.now in
    let start : Run = finish names (own_of c.loop-pending.self) call c.loop-pending.pending
    (Goes (state_of c.loop-pending.self)) in
    let paused : start ≡ finish names (own_of c.until_turn.new.self) call c.until_turn.new.pending
    (with_fuel (state_of c.until_turn.new.self) (begins names (own_of c.until_turn.new.self) call c.in-Some.turn)) =
    subst (λ o. Pauses (Ok o) names call c.until_turn.new.self c.until_turn.new.pending start) c.in-Some.is
    (c.in_ok-turn.ensures.pauses names call (deep-takes c.args.functions.now.funcs.now)) in
    c.loop-pending.invariant
    ∙ paused
    ∙ ap (finish names (own_of c.until_turn.new.self) call c.until_turn.new.pending)
    (spent-then (state_of c.until_turn.new.self) (state_of c.spend.new.self)
    (begins names (own_of c.until_turn.new.self) call c.in-Some.turn) c.in_ok-spend.ensures.leads)
    ∙ subst (λ n. finish names n call c.until_turn.new.pending
    (begins names n call c.in-Some.turn (state_of c.spend.new.self))
    ≡ finish names (own_of c.begin.new.self) call c.begin.new.pending (Goes (state_of c.begin.new.self)))
    c.in_ok-spend.ensures.own c.in_ok-begin.ensures.starts

pub returns-in_err-begin : goal.returns-in_err-begin
returns-in_err-begin c =
    let names = function_names c.args.functions.now.funcs.now in
    let call : Callee = deep_calls c.args.functions.now.funcs.now in
    let start : Run = finish names (own_of c.loop-pending.self) call c.loop-pending.pending
    (Goes (state_of c.loop-pending.self)) in
    let is : c.from_residual-in_err-begin.result ≡ Err c.in_err-begin.field-0.0 = grind (arith, common_steps) in
    let paused : start ≡ finish names (own_of c.until_turn.new.self) call c.until_turn.new.pending
    (with_fuel (state_of c.until_turn.new.self) (begins names (own_of c.until_turn.new.self) call c.in-Some.turn)) =
    subst (λ o. Pauses (Ok o) names call c.until_turn.new.self c.until_turn.new.pending start) c.in-Some.is
    (c.in_ok-turn.ensures.pauses names call (deep-takes c.args.functions.now.funcs.now)) in
    subst (λ o. Leads o c.begin.new.self
    (run_all call (named_commands names (own_of c.args.self.now) c.args.cs.now) (state_of c.args.self.now)))
    (sym is)
    (unbegun-leads (Unit {0}) c.in_err-begin.field-0.0 names (own_of c.until_turn.new.self) call c.begin.new.self
    c.begin.new.pending c.until_turn.new.pending
    (begins names (own_of c.until_turn.new.self) call c.in-Some.turn (state_of c.spend.new.self))
    (run_all call (named_commands names (own_of c.args.self.now) c.args.cs.now) (state_of c.args.self.now))
    (c.loop-pending.invariant ∙ paused
    ∙ ap (finish names (own_of c.until_turn.new.self) call c.until_turn.new.pending)
    (spent-then (state_of c.until_turn.new.self) (state_of c.spend.new.self)
    (begins names (own_of c.until_turn.new.self) call c.in-Some.turn) c.in_ok-spend.ensures.leads))
    (subst (λ n. Starts {T = Unit {0}} (Err c.in_err-begin.field-0.0) names n call c.begin.new.self c.begin.new.pending
    c.until_turn.new.pending (begins names n call c.in-Some.turn (state_of c.spend.new.self)))
    c.in_ok-spend.ensures.own c.in_err-begin.ensures.starts))

pub returns : goal.returns
returns c =
    let names = function_names c.args.functions.now.funcs.now in
    let call : Callee = deep_calls c.args.functions.now.funcs.now in
    let none : c.in_ok-turn.field-0 ≡ None = grind (arith, common_steps) in
    c.loop-pending.invariant
    ∙ subst (λ o. Pauses (Ok o) names call c.until_turn.new.self c.until_turn.new.pending
    (finish names (own_of c.loop-pending.self) call c.loop-pending.pending (Goes (state_of c.loop-pending.self))))
    none
    (c.in_ok-turn.ensures.pauses names call (deep-takes c.args.functions.now.funcs.now))
