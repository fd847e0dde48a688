use Rattle.std.proofs.Common.{◌≡◌, drop}
use Rattle.br_texts.specs.Entries.{entry_named}
use Rattle.br_texts.proofs.entries.entry_named.Given as goal

-- the entry is among those to come
abbrev pub invariant-loop-entry : goal.invariant-loop-entry
invariant-loop-entry l = entry_named (drop l.entry-index l.image.entries) l.name ≡ entry_named l.image.entries l.name
