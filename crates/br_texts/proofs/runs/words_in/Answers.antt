use Rattle.std.proofs.Common.{ℕ, List, ap, subst, sym, ◌∙◌, ◌≡◌, ◌+◌, ◌-◌, ◌++◌, ◌∷◌, []}
use Rattle.br_machine.specs.State.{register}
use Rattle.br_texts.specs.Memory.{values}
use Rattle.br_texts.proofs.Values.{values-step}
use Rattle.br_texts.proofs.runs.words_in.Goals as goal

pub loop-i-preserved : goal.loop-i-preserved
loop-i-preserved c =
    let at : ℕ → ℕ = register c.args.machine.now.state in
    let i = c.loop-i.i in
    let so_far = c.loop-i.words.items in
    let grown : c.push.new.self.items ≡ so_far ++ at (10 + i) ∷ [] =
    c.in_ok-push.ensures.items ∙ ap (λ (w : ℕ). so_far ++ w ∷ []) c.register.ensures in
    subst (λ (xs : List ℕ). xs ++ values at (10 + (i + 1)) (c.args.count - (i + 1)) ≡ values at 10 c.args.count)
    (sym grown)
    (values-step at 10 i c.args.count so_far _ c.loop-i-test.true c.loop-i.invariant)
