-- The new names are below the count of the function's names, of which there are few.
use Rattle.std.proofs.Common.{IsTrue, map, sym, subst, ap, ◌∙◌, arith}
use Rattle.std.specs.Prelude.{slice_index}
use Rattle.std.specs.List.{flat_map}
use Rattle.br_flatimp.specs.Parts.{statement_names}
use Rattle.br_flatimp.specs.Renaming.{renamed}
use Rattle.br_flatimp.specs.WellFormed.{are_below}
use Rattle.br_regalloc_check.proofs.Below.{below-more}
use Rattle.br_regalloc_check.proofs.Checked.{names-below}
use Rattle.br_regalloc_check.proofs.Renames.{renamed-below}
use Rattle.br_regalloc_check.proofs.assigning.function_renamed.Goals as goal

pub names_for-names-requires-clause-args : goal.names_for-names-requires-clause-args
names_for-names-requires-clause-args c =
    let f = c.args.f in
    let few = below-more f.names 1048576 c.args.to.now (omega (arith, c.requires.fit.names))
    c.requires.accepted.below in
    let all = renamed-below 1048576 f c.args.to.now c.requires.accepted.count few
    (names-below f.names f c.requires.fit.below) in
    subst (λ xs. IsTrue (are_below 1048576 xs)) (sym (c.as_slice-4.ensures ∙ c.in_ok-args.ensures
    ∙ ap (map (slice_index c.args.to.now)) c.as_slice.ensures)) all.args

pub names_for-names-requires-clause-results : goal.names_for-names-requires-clause-results
names_for-names-requires-clause-results c =
    let f = c.args.f in
    let few = below-more f.names 1048576 c.args.to.now (omega (arith, c.requires.fit.names))
    c.requires.accepted.below in
    let all = renamed-below 1048576 f c.args.to.now c.requires.accepted.count few
    (names-below f.names f c.requires.fit.below) in
    subst (λ xs. IsTrue (are_below 1048576 xs)) (sym (c.as_slice-5.ensures ∙ c.in_ok-results.ensures
    ∙ ap (map (slice_index c.args.to.now)) c.as_slice-2.ensures)) all.results

pub names_for-names-requires-clause-body : goal.names_for-names-requires-clause-body
names_for-names-requires-clause-body c =
    let f = c.args.f in
    let few = below-more f.names 1048576 c.args.to.now (omega (arith, c.requires.fit.names))
    c.requires.accepted.below in
    let all = renamed-below 1048576 f c.args.to.now c.requires.accepted.count few
    (names-below f.names f c.requires.fit.below) in
    subst (λ xs. IsTrue (are_below 1048576 (flat_map statement_names xs))) (sym (c.as_slice-6.ensures
    ∙ c.in_ok-body.ensures ∙ ap (map (renamed (slice_index c.args.to.now))) c.as_slice-3.ensures)) all.body
