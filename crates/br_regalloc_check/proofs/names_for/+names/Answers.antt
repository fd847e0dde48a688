-- The names of a statement's parts, and of a statement in a list, are below what all names are below.
use Rattle.std.proofs.Common.{rules}
use Rattle.br_flatimp.specs.declared.program.Stmt.TheFolds.{the_lemmas}
use Rattle.br_regalloc_check.proofs.Below.{below-as, below-call, below-item, below-parts, below-stackalloc}
use Rattle.br_regalloc_check.proofs.names_for.+names.Goals as goal

pub count_statement-count_statements-requires : goal.count_statement-count_statements-requires
count_statement-count_statements-requires t c = (
  search (rules, the_lemmas),
  rw c.as_slice.ensures (below-stackalloc 1048576 c.in-Stackalloc.x
      c.in-Stackalloc.field-1 c.in-Stackalloc.body (below-as 1048576 c.args.s.now _ c.in-Stackalloc.is c.requires)).1,
)

pub count_statement-count_each-requires : goal.count_statement-count_each-requires
count_statement-count_each-requires t c =
    rw c.as_slice-in-Call.ensures (below-call 1048576 c.in-Call.xs c.in-Call.field-1 c.in-Call.ys
    (below-as 1048576 c.args.s.now _ c.in-Call.is c.requires)).0

pub count_statement-count_each-requires-in-Call : goal.count_statement-count_each-requires-in-Call
count_statement-count_each-requires-in-Call t c =
    rw c.as_slice-in-Call-2.ensures (below-call 1048576 c.in-Call.xs c.in-Call.field-1 c.in-Call.ys
    (below-as 1048576 c.args.s.now _ c.in-Call.is c.requires)).1

pub count_statement-count_statements-requires-in-If : goal.count_statement-count_statements-requires-in-If
count_statement-count_statements-requires-in-If t c = (
  search (rules, the_lemmas),
  rw c.as_slice-in-If.ensures (below-parts 1048576 c.args.s.now c.in-If.test
      c.in-If.first c.in-If.second c.in-If.is c.requires).1,
)

pub count_statement-count_statements-requires-in-If-2 : goal.count_statement-count_statements-requires-in-If-2
count_statement-count_statements-requires-in-If-2 t c = (
  search (rules, the_lemmas),
  rw c.as_slice-in-If-2.ensures (below-parts 1048576 c.args.s.now c.in-If.test
      c.in-If.first c.in-If.second c.in-If.is c.requires).2,
)

pub count_statements-count_statement-requires : goal.count_statements-count_statement-requires
count_statements-count_statement-requires t c = (
  search (rules, the_lemmas),
  below-item 1048576 c.args.body.now c.loop-s.s-index c.s-item.result c.loop-s-test.true c.s-item.is c.requires,
)
