use Rattle.std.specs.List.{flat_map}
use Rattle.br_flatimp.specs.Parts.{statement_names}
use Rattle.br_stack_need.proofs.Marking.{count-function}
use Rattle.br_stack_need.proofs.names.name_count.Goals as goal

pub returns-clause-value : goal.returns-clause-value
returns-clause-value c =
    let f = c.args.f.now in
    let counted = count-function 32 f.args f.results (flat_map statement_names f.body) c.requires in
    rw (
      c.marks.ensures.value,
      c.mark_statements.ensures,
      c.mark_each-2.ensures,
      c.mark_each.ensures,
      c.as_slice.ensures,
      c.as_slice-2.ensures,
      c.as_slice-3.ensures,
    ) counted
