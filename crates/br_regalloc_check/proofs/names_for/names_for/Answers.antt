use Rattle.std.proofs.Common.{ℕ, ◌++◌, List, max, ◌≡◌, sym, ap, ◌∙◌, arith}
use Rattle.std.specs.List.{flat_map}
use Rattle.br_flatimp.specs.Parts.{statement_names}
use Rattle.br_regalloc_check.specs.Assigned.{names_for}
use Rattle.br_regalloc_check.specs.Walks.{counted}
use Rattle.br_regalloc_check.proofs.Counting.{counted-append, counted-is}
use Rattle.br_regalloc_check.proofs.names_for.names_for.Goals as goal

pub returns : goal.returns
returns c =
    let xs : List ℕ = c.args.args.now in
    let ys : List ℕ = c.args.results.now in
    let zs : List ℕ = flat_map statement_names c.args.body.now in
    let whole : counted 0 ((xs ++ ys) ++ zs) ≡ names_for ((xs ++ ys) ++ zs) =
    counted-is 0 ((xs ++ ys) ++ zs)
    ∙ (let same : max 0 (names_for ((xs ++ ys) ++ zs)) ≡ names_for ((xs ++ ys) ++ zs) = omega arith in same) in
    c.count_statements.ensures
    ∙ ap (λ n. counted n zs) (c.count_each-2.ensures ∙ ap (λ n. counted n ys) c.count_each.ensures)
    ∙ ap (λ n. counted n zs) (sym (counted-append 0 xs ys))
    ∙ sym (counted-append 0 (xs ++ ys) zs)
    ∙ whole
