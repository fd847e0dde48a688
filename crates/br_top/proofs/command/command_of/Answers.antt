use Rattle.std.proofs.Common.{arith}
use Rattle.std.specs.Prelude.{codes}
use Rattle.std.specs.String.{string_bytes}
use Rattle.br_top.proofs.Words.{map-one}
use Rattle.br_top.proofs.command.command_of.Goals as goal

pub returns-in-len1 : goal.returns-in-len1
returns-in-len1 c =
    map-one string_bytes c.args.words.now c.word-item.result (codes "compile") (omega arith) (omega arith)
    c.word-item.is
    (c.is_text.ensures.0 c.if-is_text.true)
