use Rattle.std.proofs.Common.{◌≡◌, ◌+◌, ◌<◌, List, [], ℕ, length, drop, sym, ap, ◌∙◌, arith}
use Rattle.std.proofs.lemmas.Grind.{common_steps}
use Rattle.br_flatimp.specs.Values.{Names}
use Rattle.br_flatimp.specs.Liveness.{without}
use Rattle.br_live.specs.BitSets.{set_of}
use Rattle.br_live.proofs.Names.{without-more, without-none}
use Rattle.br_live.proofs.bit_set.BitSet.remove_all.Goals as goal

pub loop-x-preserved : goal.loop-x-preserved
loop-x-preserved c =
    let inside : c.loop-x.x-index < length c.args.xs.now = omega arith in
    record {
      bound = c.remove.ensures.bound ∙ c.loop-x.invariant.bound;
      set =
          ap (λ (s : Names). without s (drop (c.loop-x.x-index + 1) c.args.xs.now)) c.remove.ensures.set
          ∙ without-more (set_of c.loop-x.self) c.args.xs.now c.loop-x.x-index 0 inside
          ∙ c.loop-x.invariant.set;
    }

pub returns-clause-set : goal.returns-clause-set
returns-clause-set c =
    let none : drop c.loop-x.x-index c.args.xs.now ≡ [] = grind (arith, common_steps) in
    sym (without-none (set_of c.loop-x.self)) ∙ ap (λ (ys : List ℕ). without (set_of c.loop-x.self) ys) (sym none)
    ∙ c.loop-x.invariant.set
