-- The firmware's start, its poll and its main function, as trees with every offset 0, and all its
-- functions.
use Rattle.std.specs.Prelude.{List, [], ◌∷◌}
use Rattle.br_words.specs.declared.operation.BinOp.TheVariants.{Sub, Or, Eq}
use Rattle.br_syntax.specs.declared.program.Expr.TheVariants.{Literal, Var, Op}
use Rattle.br_syntax.specs.declared.program.Cmd.TheVariants.{Set, Stackalloc, If, While, Call}
use Rattle.br_syntax.specs.declared.program.Func.{Func}
use Rattle.br_lightbulb.specs.Names as name
use Rattle.br_lightbulb.specs.Spi.{read, write, spi_put, spi_get, spi_xchg}
use Rattle.br_lightbulb.specs.Lan.{lan_read, lan_write}
use Rattle.br_lightbulb.specs.Frames.{receive, handle}

abbrev pub boot : Func
boot = record {
  at = 0;
  name = name.boot;
  args = [];
  results = name.bad ∷ [];
  body =
      read name.v 0x10012008
      ∷ write 0x10012008 (Op Or (Var name.v) (Literal 0x800000))
      ∷ Set name.bad (Literal 1)
      ∷ Set name.t (Literal 200)
      ∷ While (Var name.t)
      (Set name.t (Op Sub (Var name.t) (Literal 1))
      ∷ Call 0 (name.w ∷ name.f ∷ []) name.lan_read (Literal 0x64 ∷ [])
      ∷ If (Var name.f) (Set name.t (Literal 0) ∷ [])
      (If (Op Eq (Var name.w) (Literal 0x87654321))
      (Set name.bad (Literal 0) ∷ Set name.t (Literal 0) ∷ [])
      []
      ∷ [])
      ∷ [])
      ∷ If (Var name.bad) []
      (Call 0 (name.bad ∷ []) name.lan_write (Literal 0x74 ∷ Literal 1 ∷ []) ∷ [])
      ∷ [];
}

abbrev pub poll : Func
poll = record {
  at = 0;
  name = name.poll;
  args = [];
  results = name.bad ∷ [];
  body =
      Call 0 (name.w ∷ name.bad ∷ []) name.lan_read (Literal 0x7C ∷ [])
      ∷ If (Var name.bad) []
      (If (Var name.w)
      (Stackalloc name.p 1520
      (Call 0 (name.n ∷ name.bad ∷ []) name.receive (Var name.p ∷ [])
      ∷ If (Var name.bad) [] (Call 0 [] name.handle (Var name.p ∷ Var name.n ∷ []) ∷ [])
      ∷ [])
      ∷ [])
      []
      ∷ [])
      ∷ [];
}

abbrev pub main : Func
main = record {
  at = 0;
  name = name.main;
  args = [];
  results = name.bad ∷ [];
  body =
      Call 0 (name.bad ∷ []) name.boot []
      ∷ While (Op Eq (Var name.bad) (Literal 0)) (Call 0 (name.x ∷ []) name.poll [] ∷ [])
      ∷ [];
}

-- all functions, in the order of the text
abbrev pub firmware : List Func
firmware =
    spi_put
    ∷ spi_get
    ∷ spi_xchg
    ∷ lan_read
    ∷ lan_write
    ∷ boot
    ∷ receive
    ∷ handle
    ∷ poll
    ∷ main
    ∷ []
