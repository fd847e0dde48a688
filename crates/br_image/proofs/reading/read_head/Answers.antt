use Rattle.std.proofs.Common.{◌≡◌, ◌∙◌, true, false, List, ℕ, sym, subst}
use Rattle.std.specs.Prelude.{Any}
use Rattle.std.proofs.lemmas.Result.{err_from_is_err_and}
use Rattle.std.specs.BTreeSet.{contains}
use Rattle.br_image.specs.declared.images.Entry.{Entry}
use Rattle.br_image.specs.declared.lines.Line.TheVariants.{Function}
use Rattle.br_image.proofs.Names.{HoldsNames, name_cmp, names_more, known, unknown}
use Rattle.br_image.proofs.Order.{entries_line_fault, entries_order_fault, entry_misplaced, name_misplaced, entry_more}
use Rattle.br_image.proofs.reading.read_head.Goals as goal

pub returns-in_err-line-clause-refused : goal.returns-in_err-line-clause-refused
returns-in_err-line-clause-refused c =
    let p = err_from_is_err_and c.from_residual.result c.from_residual.ensures.1 in
    rw (p.1, p.2) (entries_line_fault c.args.layout c.args.text.now c.loop-names.entries c.loop-names.at c.len.result
    c.in_err-line.field-0.0
    c.loop-names.invariant.0 c.len.ensures c.in_err-line.ensures.refused)

pub returns-then-not-branch-clause-refused : goal.returns-then-not-branch-clause-refused
returns-then-not-branch-clause-refused c =
    let form = rw c.in-Function.is at c.in_ok-line.ensures.form in
    let found = rw c.in-Function.is at c.in_ok-line.ensures.found in
    let key = c.in_ok-from_slice-in-Function.field-0 in
    let test = c.if-not-branch.true in
    let added : c.in_ok-insert-in-Function.field-0 ≡ false = cc in
    let there : contains name_cmp c.loop-names.names key ≡ true =
    known c.in_ok-insert-in-Function.field-0 _ c.in_ok-insert-in-Function.ensures.added added in
    let name : key.items ≡ c.in-Function.entry.name = c.in_ok-from_slice-in-Function.ensures.items
    ∙ c.bytes.ensures.value in
    let P : List ℕ → Type 0 = λ t. Any (λ e. e.name ≡ t) c.loop-names.entries in
    entries_order_fault c.args.layout c.args.text.now c.loop-names.entries c.loop-names.at c.in_ok-line.next
    c.len.result (Function c.in-Function.entry)
    c.loop-names.invariant.0 c.len.ensures form found
    (name_misplaced c.args.layout c.loop-names.entries c.in-Function.entry
    (subst P name (c.loop-names.invariant.1.there key there)))

pub loop-names-preserved : goal.loop-names-preserved
loop-names-preserved c =
    let form = rw c.in-Function.is at c.in_ok-line.ensures.form in
    let found = rw c.in-Function.is at c.in_ok-line.ensures.found in
    let place = c.in_ok-line.ensures.place in
    let key = c.in_ok-from_slice-in-Function.field-0 in
    let test = c.if-not-branch.false in
    let added : c.in_ok-insert-in-Function.field-0 ≡ true = cc in
    let name : key.items ≡ c.in-Function.entry.name = c.in_ok-from_slice-in-Function.ensures.items
    ∙ c.bytes.ensures.value in
    let P : List ℕ → Type 0 = λ t. Any (λ e. e.name ≡ t) c.loop-names.entries in
    let new : P c.in-Function.entry.name → ⊥ = λ h. unknown c.in_ok-insert-in-Function.field-0 _
    c.in_ok-insert-in-Function.ensures.added added (c.loop-names.invariant.1.all key (subst P (sym name) h)) in
    let Q : List Entry → Type 0 = λ es. HoldsNames c.insert.new.self es in (
      rw c.in_ok-push-in-Function.ensures.ok
          (entry_more c.args.layout c.args.text.now c.loop-names.entries c.in-Function.entry c.loop-names.at
          c.in_ok-line.next c.loop-names.invariant.0 form found place.0 place.1 new),
      subst Q (sym c.in_ok-push-in-Function.ensures.ok)
          (names_more c.loop-names.names c.insert.new.self c.loop-names.entries c.in-Function.entry key
          c.loop-names.invariant.1 c.in_ok-insert-in-Function.ensures.updates name),
    )

pub returns-in_default : goal.returns-in_default
returns-in_default c = record {
  read = tt;
  refused = entries_order_fault c.args.layout c.args.text.now c.loop-names.entries c.loop-names.at c.in_ok-line.next
      c.len.result c.in_ok-line.line
      c.loop-names.invariant.0 c.len.ensures c.in_ok-line.ensures.form c.in_ok-line.ensures.found
      (entry_misplaced c.args.layout c.loop-names.entries c.in_ok-line.line c.in_default.not-Function
      c.in_default.not-Count);
}
