use Rattle.br_top.proofs.OneInterp.{interp_unrefused}
use Rattle.br_top.proofs.interps.interps_are_unrefused.Goals as goal

pub returns : goal.returns
returns c =
    interp_unrefused (record {
      no_fault = c.one_interp_script_or_one_fault.ensures.not_both;
      one_script = c.one_interp_script_or_one_fault.ensures.one_script;
      no_text_fault = c.texts_are_accepted_or_at_fault.ensures.never_both;
      one_program = c.texts_are_accepted_or_at_fault.ensures.one_program;
    })
