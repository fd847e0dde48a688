-- The words that stand first in a list.
use Rattle.std.specs.Prelude.{ℕ, List, Option, Some, None, if◌then◌else◌, codes}
use Rattle.std.specs.Str.{bytes_eq}
use Rattle.br_words.specs.declared.operation.BinOp.TheVariants as op
use Rattle.br_words.specs.declared.size.Size.TheVariants.{One, Two, Four}
use Rattle.br_syntax.specs.declared.word.ExprWord.{ExprWord}
use Rattle.br_syntax.specs.declared.word.ExprWord.TheVariants as e
use Rattle.br_syntax.specs.declared.word.CmdWord.{CmdWord}
use Rattle.br_syntax.specs.declared.word.CmdWord.TheVariants as c

-- what a word begins an expression with: a load, a table, an operation or a conditional expression
abbrev pub expr_word : List ℕ → Option ExprWord
expr_word w =
    if bytes_eq w (codes "load1") then Some (e.Load One)
    else (if bytes_eq w (codes "load2") then Some (e.Load Two)
    else (if bytes_eq w (codes "load4") then Some (e.Load Four)
    else (if bytes_eq w (codes "table1") then Some (e.Table One)
    else (if bytes_eq w (codes "table2") then Some (e.Table Two)
    else (if bytes_eq w (codes "table4") then Some (e.Table Four)
    else (if bytes_eq w (codes "add") then Some (e.Op op.Add)
    else (if bytes_eq w (codes "sub") then Some (e.Op op.Sub)
    else (if bytes_eq w (codes "mul") then Some (e.Op op.Mul)
    else (if bytes_eq w (codes "mulhuu") then Some (e.Op op.Mulhuu)
    else (if bytes_eq w (codes "divu") then Some (e.Op op.Divu)
    else (if bytes_eq w (codes "remu") then Some (e.Op op.Remu)
    else (if bytes_eq w (codes "and") then Some (e.Op op.And)
    else (if bytes_eq w (codes "or") then Some (e.Op op.Or)
    else (if bytes_eq w (codes "xor") then Some (e.Op op.Xor)
    else (if bytes_eq w (codes "sru") then Some (e.Op op.Sru)
    else (if bytes_eq w (codes "slu") then Some (e.Op op.Slu)
    else (if bytes_eq w (codes "srs") then Some (e.Op op.Srs)
    else (if bytes_eq w (codes "lts") then Some (e.Op op.Lts)
    else (if bytes_eq w (codes "ltu") then Some (e.Op op.Ltu)
    else (if bytes_eq w (codes "eq") then Some (e.Op op.Eq)
    else (if bytes_eq w (codes "ite") then Some e.Ite
    else None)))))))))))))))))))))

-- what a word begins a command with
abbrev pub cmd_word : List ℕ → Option CmdWord
cmd_word w =
    if bytes_eq w (codes "skip") then Some c.Skip
    else (if bytes_eq w (codes "set") then Some c.Set
    else (if bytes_eq w (codes "unset") then Some c.Unset
    else (if bytes_eq w (codes "store1") then Some (c.Store One)
    else (if bytes_eq w (codes "store2") then Some (c.Store Two)
    else (if bytes_eq w (codes "store4") then Some (c.Store Four)
    else (if bytes_eq w (codes "stackalloc") then Some c.Stackalloc
    else (if bytes_eq w (codes "if") then Some c.If
    else (if bytes_eq w (codes "while") then Some c.While
    else (if bytes_eq w (codes "seq") then Some c.Seq
    else (if bytes_eq w (codes "call") then Some c.Call
    else (if bytes_eq w (codes "interact") then Some c.Interact
    else None)))))))))))
