-- What is kept is the start's.
use Rattle.std.proofs.Common.{◌≡◌, ◌↔◌, ℕ, List, ◌++◌, map, Option, None, Bool, true, false, sym, ap, subst, ◌∙◌}
use Rattle.std.specs.Prelude.{is_some, slice_index_or}
use Rattle.std.proofs.Math.ListN.{get_or-map}
use Rattle.std.proofs.lemmas.List.{length-map}
use Rattle.br_bytes.specs.Memory.{Memory}
use Rattle.br_words.specs.declared.layout.Layout.{Layout}
use Rattle.br_machine.specs.Start.{start_ram}
use Rattle.br_machine.specs.Junk.{junk_of}
use Rattle.br_machine.specs.Pages.{HasAddressIn}
use Rattle.br_machine.specs.Kept.{Kept, IsKept, bytes_in}
use Rattle.br_machine.proofs.Starts.{IsKept-start, bytes_in-start}
use Rattle.br_machine.proofs.start.start_ram.Goals as goal

-- what pages make is what the start has
same : (l : Layout) (code words : List ℕ) (m : Memory) (junk : ℕ) (pages : List (Option (List ℕ))) → words ≡ code
    → bytes_in l code junk pages ≡ start_ram l code m (junk_of junk)
    → (let kept : Kept =
    record { layout = l; code = words; bytes = bytes_in l words junk pages; made = map is_some pages } in
    kept ≡ record { layout = l; code = code; bytes = start_ram l code m (junk_of junk); made = map is_some pages })
same l code words m junk pages e bytes =
    let of : List ℕ → List ℕ → Kept = λ x y. record { layout = l; code = x; bytes = y; made = map is_some pages } in
    ap (λ x. of x (bytes_in l x junk pages)) e ∙ ap (of code) bytes

pub of-requires : goal.of-requires
of-requires c =
    let l = c.args.layout in
    let code = c.args.code.now in
    let m = c.args.memory.now in
    let pages = c.in_ok-pages.pages.items in
    let e : c.extend_from_slice.new.self.items ≡ code = c.in_ok-extend_from_slice.ensures.items
    ∙ ap (λ (x : List ℕ). x ++ code) c.in_ok-words.ensures.items in
    subst IsKept (sym (same l code c.extend_from_slice.new.self.items m c.args.junk pages e
    (bytes_in-start l code m c.args.junk pages c.requires.words c.ranges.junk.fits c.requires.memory
    c.in_ok-pages.ensures.bytes)))
    (IsKept-start l code m c.args.junk (map is_some pages) c.requires.words c.ranges.junk.fits c.requires.memory
    (length-map pages is_some ∙ c.in_ok-pages.ensures.count))

pub returns-clause-bytes : goal.returns-clause-bytes
returns-clause-bytes c =
    let l = c.args.layout in
    let code = c.args.code.now in
    let m = c.args.memory.now in
    let pages = c.in_ok-pages.pages.items in
    let e : c.extend_from_slice.new.self.items ≡ code = c.in_ok-extend_from_slice.ensures.items
    ∙ ap (λ (x : List ℕ). x ++ code) c.in_ok-words.ensures.items in
    ap (λ (k : Kept). k.bytes)
    (c.of.ensures ∙ same l code c.extend_from_slice.new.self.items m c.args.junk pages e
    (bytes_in-start l code m c.args.junk pages c.requires.words c.ranges.junk.fits c.requires.memory
    c.in_ok-pages.ensures.bytes))

pub returns-clause-made : goal.returns-clause-made
returns-clause-made c = λ page h.
    let pages = c.in_ok-pages.pages.items in
    subst (λ (b : Bool). (b ≡ true) ↔ HasAddressIn c.args.memory.now c.args.layout page)
    (sym (ap (λ (k : Kept). slice_index_or k.made page false) c.of.ensures ∙ get_or-map is_some pages page None))
    (c.in_ok-pages.ensures.made page h)
