use Rattle.std.proofs.Common.{◌≡◌, ◌||◌, [], drop, get_or, refl, sym, ap, ◌∙◌, arith}
use Rattle.std.proofs.lemmas.Grind.{common_steps}
use Rattle.br_flatimp.specs.Liveness.{is_in}
use Rattle.br_emit.specs.Registers.{has}
use Rattle.br_emit.proofs.Bits.{has-nothing, set_step, or_false}
use Rattle.br_emit.proofs.sets.all_of.Goals as goal

pub loop-x-init : goal.loop-x-init
loop-x-init c = λ y below. ap (λ b. b || is_in c.args.xs.now y) (has-nothing y)

pub loop-x-preserved : goal.loop-x-preserved
loop-x-preserved c =
    set_step c.args.xs.now c.loop-x.x-index c.loop-x.set c.union-set.result c.just.result
    (get_or c.args.xs.now c.loop-x.x-index 0) (is_in c.args.xs.now)
    c.loop-x-test.true refl c.union-set.ensures c.just.ensures c.loop-x.invariant

pub returns : goal.returns
returns c = λ y below.
    (let none : drop c.loop-x.x-index c.args.xs.now ≡ [] = grind (arith, common_steps) in
    sym (or_false (has c.loop-x.set y)) ∙ ap (λ q. has c.loop-x.set y || is_in q y) (sym none)
    ∙ c.loop-x.invariant y below)
