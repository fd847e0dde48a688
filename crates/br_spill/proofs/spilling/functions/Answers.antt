use Rattle.std.proofs.Common.{◌≡◌, ℕ, ◌+◌, ◌<◌, ◌&&◌, true, List, [], ◌∷◌, ◌++◌, length, drop}
use Rattle.std.proofs.Common.{get_or, refl, sym, ap, ◌∙◌, append_assoc, add-one, drop-cons}
use Rattle.std.specs.List.{list_all}
use Rattle.br_flatimp.specs.declared.program.FlatFunc.{FlatFunc}
use Rattle.br_spill.specs.Spill.{function_words_fit, layout_by, program_by, spilled_function}
use Rattle.br_spill.specs.declared.place.Kind.{Kind}
use Rattle.br_spill.proofs.spilling.functions.Goals as goal

next : (fs : List FlatFunc) (i : ℕ) (f : FlatFunc) → i < length fs → f ≡ get_or fs i f → drop i fs ≡ f ∷ drop (i + 1) fs
next fs i f inside is = rw (add-one, drop-cons fs i f, ← is) refl

one-more : (kind : Kind) (fs made new : List FlatFunc) (i : ℕ) (f q : FlatFunc) → i < length fs → f ≡ get_or fs i f
    → q ≡ spilled_function (layout_by kind f.names) f → new ≡ made ++ q ∷ []
    → made ++ program_by kind (drop i fs) ≡ program_by kind fs
    → new ++ program_by kind (drop (i + 1) fs) ≡ program_by kind fs
one-more kind fs made new i f q inside is same pushed before =
    ap (λ zs. zs ++ program_by kind (drop (i + 1) fs)) pushed
    ∙ append_assoc made (q ∷ []) (program_by kind (drop (i + 1) fs))
    ∙ ap (λ r. made ++ r ∷ program_by kind (drop (i + 1) fs)) same
    ∙ ap (λ zs. made ++ program_by kind zs) (sym (next fs i f inside is)) ∙ before

one-fits : (fs : List FlatFunc) (i : ℕ) (f : FlatFunc) → i < length fs → f ≡ get_or fs i f → function_words_fit f ≡ true
    → list_all function_words_fit fs ≡ list_all function_words_fit (drop i fs)
    → list_all function_words_fit fs ≡ list_all function_words_fit (drop (i + 1) fs)
one-fits fs i f inside is words before =
    before ∙ ap (list_all function_words_fit) (next fs i f inside is)
    ∙ ap (λ b. b && list_all function_words_fit (drop (i + 1) fs)) words

pub loop-f-preserved : goal.loop-f-preserved
loop-f-preserved c =
    let fs = c.args.fs.now in
    let i = c.loop-f.f-index in
    let f = c.f-item.result in
    record {
      functions = one-more c.args.kind fs c.loop-f.made c.push.new.self i f c.in_ok-function.field-0 c.loop-f-test.true
          c.f-item.is c.in_ok-function.ensures.same c.in_ok-push.ensures.ok c.loop-f.invariant.functions;
      words = one-fits fs i f c.loop-f-test.true c.f-item.is c.in_ok-function.ensures.words c.loop-f.invariant.words;
    }
