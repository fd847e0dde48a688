use Rattle.br_emit.proofs.Stepping.{Table}
use Rattle.br_emit.proofs.Entries.{world, called_shown}
use Rattle.br_emit.proofs.laws.called_entries_show_calls.Goals as goal

pub returns : goal.returns
returns c =
    let table : Table = record {
      small = c.instructions_and_words_match.ensures.word;
      decoded =
          c.instructions_and_words_match.ensures.decoded;
    } in
    λ l n f place need all there is_called placed few low_is room more fuel args count words m data_is answers
    words' j left.
    called_shown (world l table c.steps_make_machines.ensures) n f place all need fuel there is_called placed few room
    more low_is args count words m data_is answers words' j left
