use Rattle.std.proofs.Common.{◌≡◌, ℕ, ◌+◌, ◌*◌, max, true, drop}
use Rattle.std.specs.List.{flat_map}
use denote.Param.Weighed.{most}
use Rattle.br_flatimp.specs.Liveness.{is_in}
use Rattle.br_flatimp.specs.Parts.{gathered, own_callees}
use Rattle.br_flatimp.proofs.program.Stmt.TheLaws.{the_size}
use Rattle.br_emit.specs.Registers.{Narrowed, forgets_of, has}
use Rattle.br_emit.proofs.forgotten.+narrowing.Given as goal

abbrev pub invariant-narrow_all-loop-s : goal.invariant-narrow_all-loop-s
invariant-narrow_all-loop-s l = record {
  narrowed : Narrowed l.sets l.initial.sets;
  same : l.within ≡ true → l.sets ≡ l.initial.sets;
  -- what the calls from here on may change is all that is left to look at
  rest : l.within ≡ true → ((g : ℕ) → is_in (flat_map (gathered own_callees) (drop l.s-index l.body)) g ≡ true → (x : ℕ)
      → forgets_of l.initial.sets g x ≡ true → has l.allowed x ≡ true)
      → (g : ℕ) → is_in (flat_map (gathered own_callees) l.body) g ≡ true → (x : ℕ)
      → forgets_of l.initial.sets g x ≡ true → has l.allowed x ≡ true;
}

abbrev pub decreases-narrow : goal.decreases-narrow
decreases-narrow l = 4 * the_size l.s.now

abbrev pub decreases-narrow_all : goal.decreases-narrow_all
decreases-narrow_all l = 4 * most the_size l.body.now + 1

abbrev pub decreases-narrow_two : goal.decreases-narrow_two
decreases-narrow_two l = 4 * max (most the_size l.first.now) (most the_size l.second.now) + 2
