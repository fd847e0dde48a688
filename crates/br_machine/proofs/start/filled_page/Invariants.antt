-- The bytes so far.
use Rattle.std.proofs.Common.{◌≡◌, ℕ, ◌+◌, ◌*◌, ◌<◌, length, slice_index}
use Rattle.br_machine.specs.Pages.{page_size}
use Rattle.br_machine.specs.Kept.{start_byte}
use Rattle.br_machine.proofs.start.filled_page.Given as goal

abbrev pub invariant-loop-i : goal.invariant-loop-i
invariant-loop-i l = record {
  size : length l.bytes ≡ page_size;
  told : (k : ℕ) → k < l.i
      → slice_index l.bytes k ≡ start_byte l.layout l.code l.memory l.junk (page_size * l.page + k);
}
