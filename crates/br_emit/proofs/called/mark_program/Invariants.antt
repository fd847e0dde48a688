use Rattle.std.proofs.Common.{◌≡◌, drop}
use Rattle.std.specs.List.{flat_map}
use Rattle.br_flatimp.specs.Parts.{callees}
use Rattle.br_emit.specs.Marks.{marked}
use Rattle.br_emit.proofs.called.mark_program.Given as goal

abbrev pub invariant-loop-f : goal.invariant-loop-f
invariant-loop-f l =
    marked l.flags (flat_map callees (drop l.f-index l.funcs)) ≡ marked l.initial.flags (flat_map callees l.funcs)
