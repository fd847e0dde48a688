use Rattle.std.proofs.Common.{◌≡◌, ◌≤◌, length}
use Rattle.br_emit.specs.Code.{AllFit, table_words}
use Rattle.br_emit.specs.Buffer.{appended}
use Rattle.br_emit.proofs.constant_tables.words.Given as goal

abbrev pub invariant-loop-rest : goal.invariant-loop-rest
invariant-loop-rest l = record {
  code : appended l.code (table_words l.rest) ≡ appended l.initial.code (table_words l.bytes);
  fit : AllFit (table_words l.rest) → AllFit (table_words l.bytes);
  room : length (table_words l.rest) ≤ l.code.room;
}

abbrev pub decreases-loop-rest : goal.decreases-loop-rest
decreases-loop-rest l = length l.rest
