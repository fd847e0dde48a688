-- The firmware's functions for frames, as trees with every offset 0.
use Rattle.std.specs.Prelude.{ℕ, List, [], ◌∷◌}
use Rattle.br_words.specs.declared.operation.BinOp.TheVariants.{Add, And, Or, Slu, Ltu, Eq}
use Rattle.br_words.specs.declared.size.Size.TheVariants as size
use Rattle.br_syntax.specs.declared.program.Expr.{Expr}
use Rattle.br_syntax.specs.declared.program.Expr.TheVariants.{Literal, Var, Load, Op}
use Rattle.br_syntax.specs.declared.program.Cmd.{Cmd}
use Rattle.br_syntax.specs.declared.program.Cmd.TheVariants.{Set, Store, If, While, Call}
use Rattle.br_syntax.specs.declared.program.Func.{Func}
use Rattle.br_lightbulb.specs.Names as name
use Rattle.br_lightbulb.specs.Spi.{read, write}

abbrev pub receive : Func
receive = record {
  at = 0;
  name = name.receive;
  args = name.p ∷ [];
  results = name.n ∷ name.bad ∷ [];
  body =
      Call 0 (name.n ∷ name.bad ∷ []) name.lan_read (Literal 0x40 ∷ [])
      ∷ If (Var name.bad) []
      (Set name.n (Op And (Var name.n) (Literal 0xFFFF))
      ∷ Set name.i (Literal 0)
      ∷ While (Op Ltu (Var name.i) (Var name.n))
      (Call 0 (name.w ∷ name.bad ∷ []) name.lan_read (Literal 0 ∷ [])
      ∷ If (Var name.bad) (Set name.n (Literal 0) ∷ [])
      (If (Op Ltu (Var name.i) (Literal 1520))
      (Store size.Four (Op Add (Var name.p) (Var name.i)) (Var name.w) ∷ [])
      []
      ∷ Set name.i (Op Add (Var name.i) (Literal 4))
      ∷ [])
      ∷ [])
      ∷ [])
      ∷ [];
}

-- (load1 (add p INDEX))
abbrev pub byte_of_frame : ℕ → Expr
byte_of_frame index = Load size.One (Op Add (Var name.p) (Literal index))

-- commands where a byte of the frame is this one
abbrev pub where_byte : ℕ → ℕ → List Cmd → List Cmd
where_byte index byte commands = If (Op Eq (byte_of_frame index) (Literal byte)) commands [] ∷ []

abbrev pub handle : Func
handle = record {
  at = 0;
  name = name.handle;
  args = name.p ∷ name.n ∷ [];
  results = [];
  body =
      If (Op Ltu (Var name.n) (Literal 43)) []
      (If (Op Ltu (Literal 1520) (Var name.n)) []
      (where_byte 12 8 (where_byte 13 0 (where_byte 23 17
      (read name.v 0x1001200C
      ∷ write 0x1001200C
      (Op Or (Op And (Var name.v) (Literal 0xFF7FFFFF))
      (Op Slu (Op And (byte_of_frame 42) (Literal 1)) (Literal 23)))
      ∷ []))))
      ∷ [])
      ∷ [];
}
