-- The firmware's functions for bytes over SPI, as trees with every offset 0.
use Rattle.std.specs.Prelude.{ℕ, List, [], ◌∷◌, codes}
use Rattle.br_words.specs.declared.operation.BinOp.TheVariants.{Sub, And, Lts}
use Rattle.br_syntax.specs.declared.program.Expr.{Expr}
use Rattle.br_syntax.specs.declared.program.Expr.TheVariants.{Literal, Var, Op}
use Rattle.br_syntax.specs.declared.program.Cmd.{Cmd}
use Rattle.br_syntax.specs.declared.program.Cmd.TheVariants.{Set, If, While, Call, Interact}
use Rattle.br_syntax.specs.declared.program.Func.{Func}
use Rattle.br_lightbulb.specs.Names as name

-- (interact (X) MMIOREAD ADDRESS)
abbrev pub read : List ℕ → ℕ → Cmd
read x address = Interact 0 (x ∷ []) (codes "MMIOREAD") (Literal address ∷ [])

-- (interact () MMIOWRITE ADDRESS VALUE)
abbrev pub write : ℕ → Expr → Cmd
write address value = Interact 0 [] (codes "MMIOWRITE") (Literal address ∷ value ∷ [])

-- the port is read until it is ready, 1,000 times at most
abbrev pub wait_loop : ℕ → List Cmd → Cmd
wait_loop port ready =
    While (Var name.n)
    (read name.w port
    ∷ Set name.n (Op Sub (Var name.n) (Literal 1))
    ∷ If (Op Lts (Var name.w) (Literal 0)) [] ready
    ∷ [])

abbrev pub spi_put : Func
spi_put = record {
  at = 0;
  name = name.spi_put;
  args = name.b ∷ [];
  results = name.bad ∷ [];
  body =
      Set name.bad (Literal 1)
      ∷ Set name.n (Literal 1000)
      ∷ wait_loop 0x10024048 (Set name.bad (Literal 0) ∷ Set name.n (Literal 0) ∷ [])
      ∷ If (Var name.bad) [] (write 0x10024048 (Var name.b) ∷ [])
      ∷ [];
}

abbrev pub spi_get : Func
spi_get = record {
  at = 0;
  name = name.spi_get;
  args = [];
  results = name.b ∷ name.bad ∷ [];
  body =
      Set name.b (Literal 0)
      ∷ Set name.bad (Literal 1)
      ∷ Set name.n (Literal 1000)
      ∷ wait_loop 0x1002404C
      (Set name.bad (Literal 0) ∷ Set name.b (Op And (Var name.w) (Literal 255)) ∷ Set name.n
      (Literal 0) ∷ [])
      ∷ [];
}

abbrev pub spi_xchg : Func
spi_xchg = record {
  at = 0;
  name = name.spi_xchg;
  args = name.b ∷ [];
  results = name.r ∷ name.bad ∷ [];
  body =
      Set name.r (Literal 0)
      ∷ Call 0 (name.bad ∷ []) name.spi_put (Var name.b ∷ [])
      ∷ If (Var name.bad) [] (Call 0 (name.r ∷ name.bad ∷ []) name.spi_get [] ∷ [])
      ∷ [];
}
