use Rattle.std.proofs.Common.{◌∙◌, sym, inr, arith}
use Rattle.br_measure.proofs.FoundFaults.{few_functions, found_within, deep_at, all_shallow, all_exact}
use Rattle.br_measure.proofs.phases.examine_stack.Goals as goal

pub overflow_cast-result : goal.overflow_cast-result
overflow_cast-result c =
    let fs = c.args.funcs.now in
    let inside = found_within fs c.as_slice.result.now 4294967295 1048576 (omega arith)
    (c.as_slice.ensures ∙ c.in_ok-measures.ensures) c.in-Some.f (sym c.first_above.ensures ∙ c.in-Some.is) in
    let few = few_functions fs in
    omega (arith, c.requires.small)

pub returns-in-Some : goal.returns-in-Some
returns-in-Some c =
    let deep = deep_at c.args.funcs.now c.as_slice.result.now c.requires.no_recursion c.requires.shaped c.requires.small
    (c.as_slice.ensures ∙ c.in_ok-measures.ensures) c.in-Some.f (sym c.first_above.ensures ∙ c.in-Some.is) in
    inr (
      c.requires.names,
      (
        c.requires.small,
        c.requires.no_recursion,
        rw
            (c.as_slice-in-Some.ensures, ← c.as_slice.ensures) deep.0,
        deep.1,
      ),
    )

pub returns-in-None : goal.returns-in-None
returns-in-None c =
    let fs = c.args.funcs.now in
    let ms = c.as_slice.result.now in
    let are = c.as_slice.ensures ∙ c.in_ok-measures.ensures in
    let none = sym c.first_above.ensures ∙ c.in-None.is in (
      record {
        names = c.requires.names;
        small = c.requires.small;
        no_recursion = c.requires.no_recursion;
        shallow = all_shallow fs ms 4294967295 1048576 (omega arith) are none;
      },
      sym c.as_slice.ensures ∙ all_exact fs ms 4294967295 1048576 (omega arith) are none,
    )
