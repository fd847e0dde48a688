use Rattle.std.proofs.Common.{◌≡◌, ◌++◌, drop}
use Rattle.br_image.specs.Printed.{entry_lines}
use Rattle.br_image.proofs.printing.print_entries.Given as goal

abbrev pub invariant-loop-entry : goal.invariant-loop-entry
invariant-loop-entry l =
    l.text.items ++ entry_lines (drop l.entry-index l.entries) ≡ l.fn.text.items ++ entry_lines l.entries
