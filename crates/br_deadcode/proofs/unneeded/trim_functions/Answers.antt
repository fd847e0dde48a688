use Rattle.std.proofs.Common.{ℕ, ◌≤◌, List, [], ◌++◌, length, drop, subst, sym, append-nil}
use Rattle.std.proofs.lemmas.List.{drop_all}
use Rattle.br_flatimp.specs.declared.program.FlatFunc.{FlatFunc}
use Rattle.br_deadcode.specs.LeftOut.{InPairs}
use Rattle.br_deadcode.specs.Unneeded.{IsTrimmed}
use Rattle.br_deadcode.proofs.TrimmedSizes.{trimmed-next}
use Rattle.br_deadcode.proofs.unneeded.trim_functions.Goals as goal

none : InPairs IsTrimmed [] []
none = tt

trimmed-all : (fs made : List FlatFunc) (i : ℕ) → length fs ≤ i
    → ((rest : List FlatFunc) → InPairs IsTrimmed rest (drop i fs) → InPairs IsTrimmed (made ++ rest) fs)
    → InPairs IsTrimmed made fs
trimmed-all fs made i over before =
    subst (λ zs. InPairs IsTrimmed zs fs) (append-nil made)
    (before [] (subst (λ zs. InPairs IsTrimmed [] zs) (sym (drop_all i fs over)) none))

pub loop-f-preserved : goal.loop-f-preserved
loop-f-preserved c =
    trimmed-next c.args.fs.now c.loop-f.made c.push.new.self c.loop-f.f-index c.f-item.result
    c.in_ok-trim_function.field-0 c.loop-f-test.true c.f-item.is c.in_ok-trim_function.ensures c.in_ok-push.ensures.ok
    c.loop-f.invariant

pub returns : goal.returns
returns c = trimmed-all c.args.fs.now c.loop-f.made c.loop-f.f-index c.loop-f-test.false c.loop-f.invariant
