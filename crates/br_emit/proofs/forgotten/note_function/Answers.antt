use Rattle.std.proofs.Common.{IsTrue, map, sym, ap, subst, ◌∙◌}
use Rattle.std.specs.List.{AllByRecursion}
use Rattle.br_flatimp.specs.Liveness.{is_in, live, moments}
use Rattle.br_flatimp.specs.Renaming.{ForgetsDead}
use Rattle.br_emit.specs.Registers.{forgets_of}
use Rattle.br_emit.proofs.forgotten.note_function.Goals as goal

pub returns-clause-dead : goal.returns-clause-dead
returns-clause-dead c =
    let results = is_in c.args.f.now.results in
    subst (λ q. AllByRecursion (ForgetsDead (forgets_of c.note_all.new.sets)) (moments (map live q) results))
    c.as_slice.ensures
    (c.note_all.ensures.dead results
    (λ y below e. subst IsTrue (sym (c.all_of.ensures y below ∙ ap (λ q. is_in q y) c.as_slice-2.ensures)) e))
