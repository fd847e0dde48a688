-- The firmware's functions for words of the LAN9250, as trees with every offset 0.
use Rattle.std.specs.Prelude.{ℕ, List, [], ◌∷◌}
use Rattle.br_words.specs.declared.operation.BinOp.TheVariants.{Add, And, Or, Sru, Slu, Ltu}
use Rattle.br_syntax.specs.declared.program.Expr.{Expr}
use Rattle.br_syntax.specs.declared.program.Expr.TheVariants.{Literal, Var, Op}
use Rattle.br_syntax.specs.declared.program.Cmd.{Cmd}
use Rattle.br_syntax.specs.declared.program.Cmd.TheVariants.{Set, If, While, Call}
use Rattle.br_syntax.specs.declared.program.Func.{Func}
use Rattle.br_lightbulb.specs.Names as name
use Rattle.br_lightbulb.specs.Spi.{write}

-- (call (x bad) spi_xchg BYTE)
abbrev pub exchange : Expr → Cmd
exchange byte = Call 0 (name.x ∷ name.bad ∷ []) name.spi_xchg (byte ∷ [])

-- commands where no byte has failed
abbrev pub unless_bad : List Cmd → Cmd
unless_bad commands = If (Var name.bad) [] commands

-- the amount by which byte i of a word is shifted
abbrev pub shift : Expr
shift = Op Slu (Var name.i) (Literal 3)

-- The chip is selected, and the command, the address and four bytes are exchanged in turn until one
-- fails; then the chip is released.
abbrev pub transfer : ℕ → List Cmd → List Cmd
transfer command each =
    write 0x10024018 (Literal 2)
    ∷ exchange (Literal command)
    ∷ unless_bad (exchange (Op Sru (Var name.a) (Literal 8)) ∷ [])
    ∷ unless_bad (exchange (Op And (Var name.a) (Literal 255)) ∷ [])
    ∷ Set name.i (Literal 0)
    ∷ While (Op Ltu (Var name.i) (Literal 4))
    (unless_bad each ∷ Set name.i (Op Add (Var name.i) (Literal 1)) ∷ [])
    ∷ write 0x10024018 (Literal 0)
    ∷ []

abbrev pub lan_read : Func
lan_read = record {
  at = 0;
  name = name.lan_read;
  args = name.a ∷ [];
  results = name.v ∷ name.bad ∷ [];
  body =
      Set name.v (Literal 0)
      ∷ transfer 3
      (exchange (Literal 0)
      ∷ Set name.v (Op Or (Var name.v) (Op Slu (Var name.x) shift))
      ∷ []);
}

abbrev pub lan_write : Func
lan_write = record {
  at = 0;
  name = name.lan_write;
  args = name.a ∷ name.v ∷ [];
  results = name.bad ∷ [];
  body = transfer 2 (exchange (Op And (Op Sru (Var name.v) shift) (Literal 255)) ∷ []);
}
