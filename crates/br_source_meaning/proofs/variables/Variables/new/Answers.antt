use Rattle.std.proofs.Common.{◌-◌, ◌∙◌}
use Rattle.br_source_meaning.proofs.Kept.{none-filled}
use Rattle.br_source_meaning.proofs.variables.Variables.new.Goals as goal

pub returns-clause-unset : goal.returns-clause-unset
returns-clause-unset c =
    let none = c.new-words.result.items in
    none-filled c.args.names.now c.len.result (c.len.result - c.new-words.result.len) none c.from_vec.result
    c.new-words.ensures.items
    (c.from_vec.ensures ∙ c.in_ok-resize.ensures.items)
