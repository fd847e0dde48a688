use Rattle.std.proofs.Common.{◌≡◌, List, ℕ, ◌∙◌, sym, subst}
use Rattle.br_base.specs.Name.{IsName}
use Rattle.br_image.proofs.Fields.{name_space, name_rest}
use Rattle.br_image.proofs.parsing.parse_entry.Goals as goal

pub returns-in_default-clause-none : goal.returns-in_default-clause-none
returns-in_default-clause-none c e h same = name_space c.args.bytes.now _ e.name c.in_default.ensures.none same

pub returns-in_default-parse_numbers-clause-none : goal.returns-in_default-parse_numbers-clause-none
returns-in_default-parse_numbers-clause-none c e h same =
    let found = c.in-Some.ensures.found in
    let parts = name_rest c.args.bytes.now c.in-Some.name.now c.in-Some.rest.now e.name _ found.1 h.name found.0 same in
    c.in_default-parse_numbers.ensures.none e.args e.results e.offset e.need h.args h.results h.offset h.need parts.1

pub returns-in_default-from_bytes-clause-none : goal.returns-in_default-from_bytes-clause-none
returns-in_default-from_bytes-clause-none c e h same =
    let found = c.in-Some.ensures.found in
    let parts = name_rest c.args.bytes.now c.in-Some.name.now c.in-Some.rest.now e.name _ found.1 h.name found.0 same in
    let is : e.name ≡ c.in_ok-from_slice.field-0.items = sym (c.in_ok-from_slice.ensures.items ∙ parts.0) in
    let P : List ℕ → Type 0 = λ t. IsName t in
    let some = c.in_default-from_bytes.ensures.name.1 (subst P is h.name) in
    absurd cc
