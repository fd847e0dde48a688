use Rattle.br_lightbulb_image.proofs.Staying.{Laws, image_stays}
use Rattle.br_lightbulb_image.proofs.laws.firmware_images_stay_good.Goals as goal

pub returns : goal.returns
returns c =
    let laws : Laws = record {
      one_reading = c.one_answer.ensures.one_reading;
      one_program = c.one_meaning.ensures.one_program;
      trees = c.text_stands_for_trees.ensures.trees;
      stays = c.firmware_stays_good.ensures;
      first_steps = c.first_steps_show_a_run.ensures;
    } in
    image_stays laws
