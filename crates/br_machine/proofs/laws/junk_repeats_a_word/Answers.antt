-- The data region begins at a multiple of 4.
use Rattle.br_machine.proofs.Leftovers.{IsLeftover-junk_of, byte-junk_of}
use Rattle.br_machine.proofs.laws.junk_repeats_a_word.Goals as goal

pub returns-clause-leftover : goal.returns-clause-leftover
returns-clause-leftover c = IsLeftover-junk_of

pub returns-clause-bytes : goal.returns-clause-bytes
returns-clause-bytes c = byte-junk_of
