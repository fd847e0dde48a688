use Rattle.std.proofs.Common.{ℕ, List, sym, subst, Option, ◌++◌, ◌∷◌}
use Rattle.br_image.specs.declared.lines.Line.{Line}
use Rattle.br_image.specs.declared.lines.Line.TheVariants.{Function}
use Rattle.br_image.specs.Forms.{IsLineOf}
use Rattle.br_image.proofs.Fields.{mapped, line_entry, line_unknown, differ, same_text}
use Rattle.br_image.proofs.parsing.parse_worded.Goals as goal

pub returns-then-eq : goal.returns-then-eq
returns-then-eq c =
    let P : List ℕ → Type 0 = λ t. IsLineOf c.args.layout (t ++ 32 ∷ c.args.rest.now) c.parse_version.result in
    subst P (sym (same_text c.args.first.now c.as_slice.result.now _ c.if-eq.ensures c.as_slice.ensures))
    (c.parse_version.ensures c.args.layout)

pub returns-then-eq-2 : goal.returns-then-eq-2
returns-then-eq-2 c =
    let P : Option Line → Type 0 = λ o. IsLineOf c.args.layout (c.args.first.now ++ 32 ∷ c.args.rest.now) o in
    subst P (sym (mapped Function c.in_ok-parse_entry.field-0 c.map.result c.map.ensures.cases))
    (line_entry c.args.layout c.args.first.now c.args.rest.now c.in_ok-parse_entry.field-0 c.requires
    (same_text c.args.first.now c.as_slice-2.result.now _ c.if-eq-2.ensures c.as_slice-2.ensures)
    c.in_ok-parse_entry.ensures.found c.in_ok-parse_entry.ensures.none)

pub returns : goal.returns
returns c = line_unknown c.args.layout c.args.first.now c.args.rest.now c.requires
    (differ c.args.first.now c.as_slice.result.now _ c.if-eq.ensures c.as_slice.ensures)
    (differ c.args.first.now c.as_slice-2.result.now _ c.if-eq-2.ensures c.as_slice-2.ensures)
    (differ c.args.first.now c.as_slice-3.result.now _ c.if-eq-3.ensures c.as_slice-3.ensures)
