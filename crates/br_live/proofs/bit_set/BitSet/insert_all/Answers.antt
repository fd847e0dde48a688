use Rattle.std.proofs.Common.{◌≡◌, ◌+◌, ◌<◌, List, [], ℕ, length, drop, sym, ap, ◌∙◌, arith}
use Rattle.std.proofs.lemmas.Grind.{common_steps}
use Rattle.br_flatimp.specs.Values.{Names}
use Rattle.br_flatimp.specs.Liveness.{is_in, union}
use Rattle.br_live.specs.BitSets.{set_of}
use Rattle.br_live.proofs.Names.{union-more, union-none}
use Rattle.br_live.proofs.bit_set.BitSet.insert_all.Goals as goal

pub loop-x-preserved : goal.loop-x-preserved
loop-x-preserved c =
    let inside : c.loop-x.x-index < length c.args.xs.now = omega arith in
    record {
      bound = c.insert.ensures.bound ∙ c.loop-x.invariant.bound;
      set =
          ap (λ (s : Names). union s (is_in (drop (c.loop-x.x-index + 1) c.args.xs.now))) c.insert.ensures.set
          ∙ union-more (set_of c.loop-x.self) c.args.xs.now c.loop-x.x-index 0 inside
          ∙ c.loop-x.invariant.set;
    }

pub returns-clause-set : goal.returns-clause-set
returns-clause-set c =
    let none : drop c.loop-x.x-index c.args.xs.now ≡ [] = grind (arith, common_steps) in
    sym (union-none (set_of c.loop-x.self)) ∙ ap (λ (ys : List ℕ). union (set_of c.loop-x.self) (is_in ys)) (sym none)
    ∙ c.loop-x.invariant.set
