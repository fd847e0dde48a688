use Rattle.br_emit.proofs.Stepping.{Table}
use Rattle.br_emit.proofs.Assembled.{function_shown}
use Rattle.br_emit.proofs.Refined.{usual_shown}
use Rattle.br_emit.specs.Code.{entry_place}
use Rattle.br_flatimp.specs.Sizes.{flat_bulk}
use Rattle.std.proofs.Common.{◌+◌, ◌*◌}
use Rattle.br_emit.proofs.laws.code_shows_its_program.Goals as goal

pub returns : goal.returns
returns c =
    let table : Table = record {
      small = c.instructions_and_words_match.ensures.word;
      decoded =
          c.instructions_and_words_match.ensures.decoded;
    } in
    λ fs targets forgets need code is n f place there at_is less fuel args count words m data_is answers words' j left.
    usual_shown forgets fs (c.forgetting_refines.ensures.usual forgets fs is.dead) n f there code
    (4 * entry_place targets forgets fs place n f) args m answers j fuel (need n) ((fuel + 1) * flat_bulk fs) count
    words data_is words'
    (function_shown table c.steps_make_machines.ensures fs targets forgets need code is n f place there at_is less fuel
    args count words m data_is answers words' j left)
