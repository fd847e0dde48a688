-- The names of a statement's parts, and of a statement in a list, are below what all names are below.
use Rattle.std.proofs.Common.{rules, ℕ, length}
use Rattle.br_flatimp.specs.declared.program.Stmt.TheFolds.{the_lemmas}
use Rattle.br_regalloc_check.proofs.Below.{below-as, below-call, below-if, below-item, below-loop, below-stackalloc}
use Rattle.br_regalloc_check.proofs.renamed.+renamed.Goals as goal

pub renamed-renamed_all-requires : goal.renamed-renamed_all-requires
renamed-renamed_all-requires t c =
    let n : ℕ = length c.args.to.now in (
      search (rules, the_lemmas),
      rw c.as_slice-in-Stackalloc.ensures (below-stackalloc n c.in-Stackalloc.x
          c.in-Stackalloc.n c.in-Stackalloc.body (below-as n c.args.s.now _ c.in-Stackalloc.is c.requires)).1,
    )

pub renamed-renamed_all-requires-in-If : goal.renamed-renamed_all-requires-in-If
renamed-renamed_all-requires-in-If t c =
    let n : ℕ = length c.args.to.now in (
      search (rules, the_lemmas),
      rw c.as_slice-in-If.ensures (below-if n c.in-If.test c.in-If.first c.in-If.second
          (below-as n c.args.s.now _ c.in-If.is c.requires)).1,
    )

pub renamed-renamed_all-requires-in-If-2 : goal.renamed-renamed_all-requires-in-If-2
renamed-renamed_all-requires-in-If-2 t c =
    let n : ℕ = length c.args.to.now in (
      search (rules, the_lemmas),
      rw c.as_slice-in-If-2.ensures (below-if n c.in-If.test c.in-If.first c.in-If.second
          (below-as n c.args.s.now _ c.in-If.is c.requires)).2,
    )

pub renamed-renamed_all-requires-in-Loop : goal.renamed-renamed_all-requires-in-Loop
renamed-renamed_all-requires-in-Loop t c =
    let n : ℕ = length c.args.to.now in (
      search (rules, the_lemmas),
      rw c.as_slice-in-Loop.ensures (below-loop n c.in-Loop.first c.in-Loop.test
          c.in-Loop.last (below-as n c.args.s.now _ c.in-Loop.is c.requires)).1,
    )

pub renamed-renamed_all-requires-in-Loop-2 : goal.renamed-renamed_all-requires-in-Loop-2
renamed-renamed_all-requires-in-Loop-2 t c =
    let n : ℕ = length c.args.to.now in (
      search (rules, the_lemmas),
      rw c.as_slice-in-Loop-2.ensures (below-loop n c.in-Loop.first c.in-Loop.test
          c.in-Loop.last (below-as n c.args.s.now _ c.in-Loop.is c.requires)).2,
    )

pub renamed-new_names-requires : goal.renamed-new_names-requires
renamed-new_names-requires t c =
    let n : ℕ = length c.args.to.now in
    rw c.as_slice-in-Call.ensures
    (below-call n c.in-Call.xs c.in-Call.g c.in-Call.ys (below-as n c.args.s.now _ c.in-Call.is c.requires)).0

pub renamed-new_names-requires-in-Call : goal.renamed-new_names-requires-in-Call
renamed-new_names-requires-in-Call t c =
    let n : ℕ = length c.args.to.now in
    rw c.as_slice-in-Call-2.ensures
    (below-call n c.in-Call.xs c.in-Call.g c.in-Call.ys (below-as n c.args.s.now _ c.in-Call.is c.requires)).1

pub renamed_all-renamed-requires : goal.renamed_all-renamed-requires
renamed_all-renamed-requires t c = (
  search (rules, the_lemmas),
  below-item (length c.args.to.now) c.args.body.now c.loop-s.s-index c.s-item.result
      c.loop-s-test.true c.s-item.is c.requires,
)
