use Rattle.std.proofs.Common.{◌≡◌, ◌+◌, ◌≤◌, length, drop}
use Rattle.br_emit.specs.Code.{AllFit, save_items}
use Rattle.br_emit.specs.Buffer.{appended}
use Rattle.br_emit.proofs.framing.save.Given as goal

abbrev pub invariant-loop-r : goal.invariant-loop-r
invariant-loop-r l = record {
  at : l.at ≡ l.i + l.r-index;
  code : appended l.code (save_items l.at (drop l.r-index l.rs)) ≡ appended l.initial.code (save_items l.i l.rs);
  room : length (save_items l.at (drop l.r-index l.rs)) ≤ l.code.room;
  fit : AllFit (save_items l.at (drop l.r-index l.rs)) → AllFit (save_items l.i l.rs);
}
