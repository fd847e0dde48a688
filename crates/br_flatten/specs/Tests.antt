-- Tests of flat statements: what an operation compares, and the
-- test that holds where another does not.
use Rattle.std.specs.Prelude.{ℕ, List, [], ◌∷◌, ◌++◌, Option, Some, None}
use Rattle.br_words.specs.declared.operation.BinOp.{BinOp}
use Rattle.br_words.specs.declared.operation.BinOp.TheVariants as op
use Rattle.br_flatimp.specs.declared.program.Rel.{Rel}
use Rattle.br_flatimp.specs.declared.program.Rel.TheVariants as rel
use Rattle.br_flatimp.specs.declared.program.Cond.{Cond}
use Rattle.br_flatimp.specs.declared.program.Cond.TheVariants.{NonZero, Compare}
use Rattle.br_flatimp.specs.declared.program.Stmt.{Stmt}
use Rattle.br_flatimp.specs.declared.program.Stmt.TheOpen.{Stmt-F}
use Rattle.br_flatimp.specs.declared.program.Stmt.TheViews.{roll-Stmt}
pub use Rattle.br_simplify.specs.Simple.{asks_zero}
use Rattle.br_flatten.specs.Scope.{place, next, unless_variable}

-- the statements before a test, the test, and the first temporary that is free after it
pub record Test : Type 0 where
  pub before : List Stmt
  pub cond : Cond
  pub next : ℕ

-- how an operation compares its words, where it does
abbrev pub relation : BinOp → Option Rel
relation op.Lts = Some rel.Lts
relation op.Ltu = Some rel.Ltu
relation op.Eq = Some rel.Eq
relation op.Add = None
relation op.Sub = None
relation op.Mul = None
relation op.Mulhuu = None
relation op.Divu = None
relation op.Remu = None
relation op.And = None
relation op.Or = None
relation op.Xor = None
relation op.Sru = None
relation op.Slu = None
relation op.Srs = None

abbrev pub opposite : Rel → Rel
opposite rel.Eq = rel.Ne
opposite rel.Ne = rel.Eq
opposite rel.Lts = rel.Ges
opposite rel.Ges = rel.Lts
opposite rel.Ltu = rel.Geu
opposite rel.Geu = rel.Ltu

-- ---- the test that holds where another does not

-- A comparison is turned round. A word is compared with 0, which stands in the name that holds it,
-- where there is one, or else in the first free temporary.

abbrev pub zero_before : Option ℕ → Cond → ℕ → List Stmt
zero_before zero (Compare r y z) free = []
zero_before zero (NonZero y) free = unless_variable zero (roll-Stmt (Stmt-F.Lit free 0) ∷ [])

abbrev pub turned : Option ℕ → Cond → ℕ → Cond
turned zero (Compare r y z) free = Compare (opposite r) y z
turned zero (NonZero y) free = Compare rel.Eq y (place zero free)

abbrev pub next_turned : Option ℕ → Cond → ℕ → ℕ
next_turned zero (Compare r y z) free = free
next_turned zero (NonZero y) free = next zero free

abbrev pub negation : Option ℕ → Test → Test
negation zero t = record {
  before = t.before ++ zero_before zero t.cond t.next;
  cond = turned zero t.cond t.next;
  next = next_turned zero t.cond t.next;
}
