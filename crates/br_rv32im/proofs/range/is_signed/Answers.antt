-- The end of the range is at most 2 ^ 30.
use Rattle.std.proofs.Common.{ℕ, ◌-◌, ◌^◌, ◌<◌, ◌≤◌, arith, lit≤}
use Rattle.std.proofs.lemmas.Int.{ints}
use Rattle.std.proofs.Math.Nat.{pow-le-pow_right}
use Rattle.br_rv32im.proofs.range.is_signed.Goals as goal

end-le : (n : ℕ) → n < 32 → 2 ^ (n - 1) ≤ 2 ^ 30
end-le n h = pow-le-pow_right {n = 2} (lit≤ tt) (let i : n - 1 ≤ 30 = omega arith in i)

pub overflow_sub-end-2 : goal.overflow_sub-end-2
overflow_sub-end-2 g c = let e = end-le g.row.N c.requires.inside in grind (arith, ints)

pub returns-then-end-imm : goal.returns-then-end-imm
returns-then-end-imm g c = let e = end-le g.row.N c.requires.inside in grind (arith, ints)
