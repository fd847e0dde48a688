use Rattle.std.proofs.Common.{◌≡◌, ◌<◌, Some, None, length, sym, ap, ◌∙◌, arith}
use Rattle.std.proofs.lemmas.List.{length-map}
use Rattle.std.specs.Str.{bytes_eq}
use Rattle.br_syntax.specs.Functions.{number_named}
use Rattle.br_numbering.proofs.Positions.{find_at_position, find_no_position, position_within}
use Rattle.br_source_meaning.specs.Names.{function_names}
use Rattle.br_source_meaning.specs.Numbered.{named_function}
use Rattle.br_source_meaning.proofs.Numbers.{named-at}
use Rattle.br_source_meaning.proofs.numbered_program.NumberedProgram.first.Goals as goal

pub returns-in-Some : goal.returns-in-Some
returns-in-Some c =
    let p = c.args.self.now in
    let fs = p.index.funcs.now in
    let names = function_names fs in
    let is : number_named fs c.args.name.now ≡ Some c.in-Some.n = sym c.number.ensures ∙ c.in-Some.is in
    let within = position_within (λ f. bytes_eq f.name c.args.name.now) fs c.in-Some.n is in
    let inside : c.in-Some.n < length c.as_slice.result.now =
    omega (
      arith,
      within,
      length-map p.funcs (named_function names),
      ap length p.named,
      ap length
          c.as_slice.ensures,
    ) in
    sym
    (find_at_position (λ f. bytes_eq f.name c.args.name.now) fs c.in-Some.n is
    ∙ named-at names c.as_slice.result.now fs c.in-Some.n c.index-as_slice-n.result (rw c.as_slice.ensures p.named)
    inside c.index-as_slice-n.is)

pub returns-in-None : goal.returns-in-None
returns-in-None c =
    let fs = c.args.self.now.index.funcs.now in
    let is : number_named fs c.args.name.now ≡ None = sym c.number.ensures ∙ c.in-None.is in
    sym (find_no_position (λ f. bytes_eq f.name c.args.name.now) fs is)
