use Rattle.std.proofs.Common.{◌≡◌, [], drop, sym, subst, arith}
use Rattle.std.proofs.lemmas.Grind.{common_steps}
use Rattle.br_flatimp.specs.Renaming.{ReadsNoForgotten}
use Rattle.br_emit.specs.Registers.{forgets_of}
use Rattle.br_emit.proofs.Forgetting.{noted_step}
use Rattle.br_emit.proofs.forgotten.note_program.Goals as goal

pub loop-f-init : goal.loop-f-init
loop-f-init c = λ later less h. h

pub loop-f-preserved : goal.loop-f-preserved
loop-f-preserved c =
    noted_step c.args.funcs.now c.loop-f.f-index c.f-item.result c.loop-f.sets c.note_function.new.sets
    c.loop-f-test.true c.f-item.is c.note_function.ensures.narrowed c.note_function.ensures.dead c.loop-f.invariant

pub returns : goal.returns
returns c =
    let none : drop c.loop-f.f-index c.args.funcs.now ≡ [] = grind (arith, common_steps) in
    c.loop-f.invariant c.loop-f.sets (λ g x e. e) (subst (ReadsNoForgotten (forgets_of c.loop-f.sets)) (sym none) tt)
