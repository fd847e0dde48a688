use Rattle.std.proofs.Common.{◌&&◌, ap, sym, ◌∙◌}
use Rattle.std.specs.List.{list_all}
use Rattle.br_flatimp.specs.WellFormed.{is_well_formed_head, is_well_formed_statement}
use Rattle.br_flatimp.proofs.Decided.{all-both}
use Rattle.br_flatimp.proofs.forms.functions_fit.Goals as goal

pub returns-then-heads_fit : goal.returns-then-heads_fit
returns-then-heads_fit c =
    let both = all-both is_well_formed_head (λ f. list_all (is_well_formed_statement c.args.funcs.now f.names) f.body)
    c.args.funcs.now in
    c.bodies_fit.ensures ∙ ap (λ b. b && list_all (λ f. list_all (is_well_formed_statement c.args.funcs.now f.names)
    f.body) c.args.funcs.now) (sym c.if-heads_fit.true ∙ c.heads_fit.ensures) ∙ sym both

pub returns-else-heads_fit : goal.returns-else-heads_fit
returns-else-heads_fit c =
    let both = all-both is_well_formed_head (λ f. list_all (is_well_formed_statement c.args.funcs.now f.names) f.body)
    c.args.funcs.now in
    c.if-heads_fit.false ∙ ap (λ b. b && list_all (λ f. list_all (is_well_formed_statement c.args.funcs.now f.names)
    f.body) c.args.funcs.now) (sym c.if-heads_fit.false ∙ c.heads_fit.ensures) ∙ sym both
