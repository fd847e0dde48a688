use Rattle.std.proofs.Common.{[], ◌∷◌, ◌++◌, refl, ap, ◌∙◌, arith}
use Rattle.br_sexpr.proofs.Steps.{took-open}
use Rattle.br_sexpr.proofs.reading.Reader.begin_list.Goals as goal

pub returns-clause-took : goal.returns-clause-took
returns-clause-took c =
    let r = c.args.self.now in
    took-open _ _ c.requires c.args.at
    (c.in_ok-push.ensures.items
    ∙ ap (λ n. r.lists.items ++ (record { at = c.args.at; start = n }) ∷ []) (c.len-start.ensures ∙ r.trees.ok.0))
    refl (omega (arith, r.lists.ok.0))
