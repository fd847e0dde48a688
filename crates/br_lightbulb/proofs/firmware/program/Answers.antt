use Rattle.std.proofs.Common.{List, subst}
use Rattle.br_sexpr.specs.declared.tree.Tree.{Tree}
use Rattle.br_syntax.specs.Denotes.{Denotes}
use Rattle.br_lightbulb.specs.Text.{firmware_text}
use Rattle.br_lightbulb.proofs.firmware.program.Goals as goal

pub returns-in-Ok-from_tree : goal.returns-in-Ok-from_tree
unfolding firmware_text
returns-in-Ok-from_tree c =
    let denotes = subst (λ (trees : List Tree). Denotes trees c.in-Ok-from_tree.program.funcs) c.as_slice.ensures
    c.in-Ok-from_tree.ensures.denotes in
    (c.in-Ok.trees, c.in-Ok.ensures.trees, denotes)
