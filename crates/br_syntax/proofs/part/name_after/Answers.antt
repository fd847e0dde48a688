use Rattle.br_syntax.proofs.Names.{name_among-repeated, name_among-new}
use Rattle.br_syntax.proofs.part.name_after.Goals as goal

pub returns-then-stands_among : goal.returns-then-stands_among
returns-then-stands_among c =
    name_among-repeated c.args.earlier.now c.args.item.now c.in-Name.at c.in-Name.text c.in-Name.is
    c.if-earlier-eq-MOST_NAMES.false _ c.bytes.ensures.value c.if-stands_among.ensures

pub returns : goal.returns
returns c =
    name_among-new c.args.earlier.now c.args.item.now c.in-Name.at c.in-Name.text c.in-Name.is
    c.if-earlier-eq-MOST_NAMES.false _ c.bytes.ensures.value c.if-stands_among.ensures _ c.in_ok-copy.ensures
