use Rattle.std.proofs.Common.{not, sym, ap, ◌∙◌, arith, ◌<◌, ◌^◌}
use Rattle.std.proofs.lemmas.Bool.{eq-eqb, false≢true}
use Rattle.br_live.proofs.Bits.{same-word}
use Rattle.br_live.proofs.words.differ.Goals as goal

pub returns-clause-bits : goal.returns-clause-bits
returns-clause-bits c = λ is same.
    let a : c.args.a < 2 ^ 32 = omega (arith, c.ranges.a.fits) in
    let b : c.args.b < 2 ^ 32 = omega (arith, c.ranges.b.fits) in
    let equal = eq-eqb c.args.a c.args.b (same-word c.args.a c.args.b a b same) in
    false≢true (sym (ap not equal) ∙ is)
