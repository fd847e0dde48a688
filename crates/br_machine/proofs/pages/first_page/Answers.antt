-- One byte more.
use Rattle.std.proofs.Common.{◌≡◌, inl, inr, ◌+◌, ◌*◌, sym, ap, ◌∙◌, arith}
use Rattle.std.specs.Prelude.{slice_index, slice_set}
use Rattle.std.proofs.Math.ListN.{length-set}
use Rattle.std.proofs.lemmas.Bool.{cases_lt}
use Rattle.std.proofs.lemmas.List.{get_or-set_other, get_or-set_same}
use Rattle.br_machine.specs.Pages.{page_size}
use Rattle.br_machine.specs.Kept.{first_byte}
use Rattle.br_machine.proofs.pages.first_page.Goals as goal

pub loop-i-preserved : goal.loop-i-preserved
loop-i-preserved c = record {
  size = length-set c.loop-i.bytes c.loop-i.i c.first_byte.result ∙ c.loop-i.invariant.size;
  told = λ k h.
      let bytes = c.loop-i.bytes in
      let v = c.first_byte.result in
      let size = c.loop-i.invariant.size in
      elim (cases_lt k c.loop-i.i) [
        | inl p ↦ get_or-set_other bytes c.loop-i.i k v 0 (omega arith) ∙ c.loop-i.invariant.told k p
        | inr p ↦
            (let same : k ≡ c.loop-i.i = omega arith in
            ap (slice_index (slice_set bytes c.loop-i.i v)) same ∙ get_or-set_same bytes c.loop-i.i v 0 (omega arith)
            ∙ c.first_byte.ensures
            ∙ ap (λ j. first_byte c.args.layout c.args.code.now c.args.junk (page_size * c.args.page + j)) (sym same))
      ];
}
