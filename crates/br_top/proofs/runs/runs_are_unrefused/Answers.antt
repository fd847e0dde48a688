use Rattle.br_top.proofs.OneRun.{run_unrefused}
use Rattle.br_top.proofs.runs.runs_are_unrefused.Goals as goal

pub returns : goal.returns
returns c =
    run_unrefused (record {
      no_fault = c.one_run_script_or_one_fault.ensures.not_both;
      one_script = c.one_run_script_or_one_fault.ensures.one_script;
      no_image_fault = c.one_image_or_one_fault.ensures.not_both;
      one_image = c.two_images_have_two_texts.ensures;
    })
