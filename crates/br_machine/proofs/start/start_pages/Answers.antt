-- One page more.
use Rattle.std.proofs.Common.{◌≡◌, ◌↔◌, ℕ, ◌+◌, ◌*◌, ◌<◌, List, [], ◌∷◌, ◌++◌, length}
use Rattle.std.proofs.Common.{length-append, Option, None, true, sym, ap, subst, arith}
use Rattle.std.specs.Prelude.{is_some, slice_index_or}
use Rattle.br_machine.specs.Pages.{HasAddressIn, page_size}
use Rattle.br_machine.specs.Kept.{first_byte, in_page, start_byte}
use Rattle.br_machine.proofs.Made.{one_page_more}
use Rattle.br_machine.proofs.start.start_pages.Goals as goal

pub loop-page-preserved : goal.loop-page-preserved
loop-page-preserved c =
    let l = c.args.layout in
    let code = c.args.code.now in
    let m = c.args.memory.now in
    let junk = c.args.junk in
    let old = c.loop-page.pages.items in
    let x = c.start_page.result in
    let n = c.loop-page.page in
    let inv = c.loop-page.invariant in
    let e : c.push.new.self.items ≡ old ++ x ∷ [] = c.in_ok-push.ensures.items in
    let first : ℕ → ℕ → ℕ = λ q i. first_byte l code junk (page_size * q + i) in
    let start : ℕ → ℕ → ℕ = λ q i. start_byte l code m junk (page_size * q + i) in
    record {
      count = omega (arith, ap length e, length-append old (x ∷ []), inv.count);
      told = λ page i h small.
          subst (λ (ps : List (Option (List ℕ))). in_page (slice_index_or ps page None) i (first page i) ≡ start page i)
          (sym e)
          (one_page_more (λ q o. (i : ℕ) → i < page_size → in_page o i (first q i) ≡ start q i) old x n inv.count
          (λ q h i s. inv.told q i h s) c.start_page.ensures.bytes page h i small);
      made = λ page h.
          subst (λ (ps : List (Option (List ℕ))). (is_some (slice_index_or ps page None) ≡ true)
          ↔ HasAddressIn m l page) (sym e)
          (one_page_more (λ q o. (is_some o ≡ true) ↔ HasAddressIn m l q) old x n inv.count inv.made
          c.start_page.ensures.made page h);
    }
