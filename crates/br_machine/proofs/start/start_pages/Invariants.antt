-- The pages so far.
use Rattle.std.proofs.Common.{◌≡◌, ◌↔◌, ℕ, ◌+◌, ◌*◌, ◌<◌, length, None, true}
use Rattle.std.specs.Prelude.{is_some, slice_index_or}
use Rattle.br_machine.specs.Pages.{HasAddressIn, page_size}
use Rattle.br_machine.specs.Kept.{first_byte, in_page, start_byte}
use Rattle.br_machine.proofs.start.start_pages.Given as goal

abbrev pub invariant-loop-page : goal.invariant-loop-page
invariant-loop-page l = record {
  count : length l.pages.items ≡ l.page;
  told : (page i : ℕ) → page < l.page → i < page_size →
      in_page (slice_index_or l.pages.items page None) i (first_byte l.layout l.code l.junk (page_size * page + i))
      ≡ start_byte l.layout l.code l.memory l.junk (page_size * page + i);
  made : (page : ℕ) → page < l.page
      → (is_some (slice_index_or l.pages.items page None) ≡ true) ↔ HasAddressIn l.memory l.layout page;
}
