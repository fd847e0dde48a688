-- What the statements of a function depend on: the names of its variables, and the
-- literals that it holds. A held literal has a number after those of the variables, and is
-- set once, at the start of the function.
use Rattle.std.specs.Prelude.{ℕ, suc, ◌+◌, List, [], ◌∷◌, length}
use Rattle.std.specs.Prelude.{Option, Some, None, ◌==◌, if◌then◌else◌}
use Rattle.br_source_meaning.specs.Values.{Name}
use Rattle.br_flatimp.specs.declared.program.Stmt.{Stmt}
use Rattle.br_flatimp.specs.declared.program.Stmt.TheOpen.{Stmt-F}
use Rattle.br_flatimp.specs.declared.program.Stmt.TheViews.{roll-Stmt}

pub record Scope : Type 0 where
  pub names : List Name
  pub held : List ℕ

abbrev pub scoped : List Name → List ℕ → Scope
scoped names held = record { names = names; held = held }

-- the first temporary
abbrev pub temporaries : Scope → ℕ
temporaries scope = length scope.names + length scope.held

-- the number of a literal, where it is one of those that are held,
-- the first of which has a given number
abbrev pub holder_from : ℕ → List ℕ → ℕ → Option ℕ
holder_from first [] n = None
holder_from first (k ∷ ks) n = if k == n then Some first else holder_from (suc first) ks n

abbrev pub holder : Scope → ℕ → Option ℕ
holder scope n = holder_from (length scope.names) scope.held n

-- the statements that set held literals, the first of which has a given number
abbrev pub settings_from : ℕ → List ℕ → List Stmt
settings_from first [] = []
settings_from first (n ∷ ns) = roll-Stmt (Stmt-F.Lit first n) ∷ settings_from (suc first) ns

abbrev pub settings : Scope → List Stmt
settings scope = settings_from (length scope.names) scope.held

-- ---- operands

-- where the word of an operand stands: in the name of its variable or held
-- literal, or in the first free temporary
abbrev pub place : Option ℕ → ℕ → ℕ
place (Some y) free = y
place None free = free

-- the first temporary that is free after an operand
abbrev pub next : Option ℕ → ℕ → ℕ
next (Some y) free = free
next None free = suc free

-- an operand's statements: none where it has a name
abbrev pub unless_variable : Option ℕ → List Stmt → List Stmt
unless_variable (Some y) body = []
unless_variable None body = body
