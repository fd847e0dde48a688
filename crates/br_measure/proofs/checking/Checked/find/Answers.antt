use Rattle.std.proofs.Common.{◌∙◌, sym, arith}
use Rattle.std.specs.Str.{bytes_eq}
use Rattle.br_numbering.proofs.Positions.{position_within}
use Rattle.br_measure.proofs.FoundFaults.{few_functions}
use Rattle.br_measure.proofs.checking.Checked.find.Goals as goal

pub overflow_cast-result : goal.overflow_cast-result
overflow_cast-result c =
    let fs = c.as_slice.result.now in
    let inside = position_within (λ f. bytes_eq f.name c.args.name.now) fs c.in-Some.n
    (sym c.first_named.ensures ∙ c.in-Some.is) in
    let few = few_functions fs in
    let small = rw (← c.as_slice.ensures) at c.self.invariant.sound.small in
    omega (arith, inside, few, small)
