use Rattle.std.proofs.Common.{sym, subst, Option}
use Rattle.br_image.specs.declared.lines.Line.{Line}
use Rattle.br_image.specs.declared.lines.Line.TheVariants.{Word}
use Rattle.br_image.specs.Forms.{IsLineOf}
use Rattle.br_image.proofs.Fields.{mapped, line_single, differ}
use Rattle.br_image.proofs.parsing.parse_single.Goals as goal

pub returns : goal.returns
returns c y =
    let P : Option Line → Type 0 = λ o. IsLineOf y c.args.bytes.now o in
    subst P (sym (mapped Word c.parse_word.result c.map.result c.map.ensures.cases))
    (line_single y c.args.bytes.now c.parse_word.result c.requires
    (differ c.args.bytes.now c.as_slice.result.now _ c.if-eq.ensures c.as_slice.ensures)
    c.parse_word.ensures.found c.parse_word.ensures.none)
