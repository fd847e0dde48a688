-- The pages of the bytes that are stored are made.
use Rattle.std.proofs.Common.{◌≡◌, ℕ, ◌*◌, ◌<◌, false, true, sym, ap, subst, ◌∙◌}
use Rattle.std.specs.Prelude.{◌||◌, slice_index_or}
use Rattle.br_words.specs.Layout.{code_base}
use Rattle.br_machine.specs.Traps.{in_ram, meet}
use Rattle.br_machine.specs.Pages.{Paged, is_made, page_base, page_size}
use Rattle.br_machine.specs.Kept.{with_made}
use Rattle.br_machine.proofs.Made.{low_end, no_rule_broken, stored_pages}
use Rattle.br_machine.proofs.machine.Machine.store.Goals as goal

pub returns-clause-made : goal.returns-clause-made
returns-clause-made c = λ page inside.
    let before = c.args.self.now in
    let l = before.state.layout in
    let words = before.state.code_words in
    let a : ℕ = c.args.a in
    let n : ℕ = c.args.n in
    let there : in_ram l a n ≡ true = sym c.in-Some.ensures.ram in
    let free : meet a n (code_base l) (4 * words) ≡ false =
    sym (ap (λ k. meet a n (code_base k) (4 * c.code_words.result)) c.layout.ensures
    ∙ ap (λ w. meet a n (code_base l) (4 * w)) c.code_words.ensures.value)
    ∙ sym c.touches_code.ensures ∙ c.if-touches_code.false in
    ap (λ (m : Paged). is_made m page) c.set_number.ensures
    ∙ ap (λ (m : Paged). slice_index_or (with_made m.made c.in-Some.place n) page false) c.set_pc-2.ensures
    ∙ ap (λ (p : ℕ). slice_index_or (with_made before.made p n) page false) c.in-Some.ensures.place
    ∙ stored_pages l before.made a n page (subst (λ (k : ℕ). page < k) (sym c.well_formed-2.ensures.pages) inside)
    (low_end l a n there)
    ∙ ap (λ b. b || is_made before page)
    (sym (no_rule_broken l words a n (meet a n (page_base l page) page_size) there free))
