use Rattle.std.proofs.Common.{◌≡◌, ◌+◌, ◌≤◌, length, drop}
use Rattle.br_emit.specs.Code.{AllFit, restore_items}
use Rattle.br_emit.specs.Buffer.{appended}
use Rattle.br_emit.proofs.framing.restore.Given as goal

abbrev pub invariant-loop-r : goal.invariant-loop-r
invariant-loop-r l = record {
  at : l.at ≡ l.i + l.r-index;
  code : appended l.code (restore_items l.at (drop l.r-index l.rs)) ≡ appended l.initial.code (restore_items l.i l.rs);
  room : length (restore_items l.at (drop l.r-index l.rs)) ≤ l.code.room;
  fit : AllFit (restore_items l.at (drop l.r-index l.rs)) → AllFit (restore_items l.i l.rs);
}
