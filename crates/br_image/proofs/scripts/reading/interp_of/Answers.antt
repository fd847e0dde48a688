use Rattle.br_image.proofs.ScriptOrder.{interp_sound}
use Rattle.br_image.proofs.scripts.reading.interp_of.Goals as goal

pub read_lines-requires : goal.read_lines-requires
read_lines-requires c = record { short = c.requires; sound = interp_sound }

pub interp_script-requires : goal.interp_script-requires
interp_script-requires c =
    let h = c.in_ok-said.ensures.said in
    record { lines = h.lines; order = h.script.order; says = h.says }

pub returns-clause-script : goal.returns-clause-script
returns-clause-script c =
    let h = c.in_ok-said.ensures.said in
    record { lines = h.lines; script = h.script; says = c.interp_script.ensures h.lines h.script.order h.says }
