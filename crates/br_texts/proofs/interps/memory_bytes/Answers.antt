use Rattle.std.proofs.Common.{ℕ, List, ap, subst, sym, ◌∙◌, ◌≡◌, ◌+◌, ◌-◌, ◌++◌, ◌∷◌, []}
use Rattle.br_texts.specs.InterpText.{byte_in}
use Rattle.br_texts.specs.Memory.{values}
use Rattle.br_texts.proofs.Values.{values-step}
use Rattle.br_texts.proofs.interps.memory_bytes.Goals as goal

pub loop-i-preserved : goal.loop-i-preserved
loop-i-preserved c =
    let at : ℕ → ℕ = byte_in c.args.memory.now in
    let a = c.args.a in
    let i = c.loop-i.i in
    let so_far = c.loop-i.bytes.items in
    let here : c.unwrap_or.result ≡ at (a + i) = cc in
    let grown : c.push.new.self.items ≡ so_far ++ at (a + i) ∷ [] =
    c.in_ok-push.ensures.items ∙ ap (λ (b : ℕ). so_far ++ b ∷ []) here in
    subst (λ (xs : List ℕ). xs ++ values at (a + (i + 1)) (c.args.n - (i + 1)) ≡ values at a c.args.n) (sym grown)
    (values-step at a i c.args.n so_far _ c.loop-i-test.true c.loop-i.invariant)
