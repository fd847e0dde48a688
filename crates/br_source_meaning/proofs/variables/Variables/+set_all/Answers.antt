use Rattle.std.proofs.Common.{ℕ, List, ◌≡◌, ◌∷◌, sym, ap, subst, ◌∙◌, arith}
use Rattle.std.proofs.lemmas.Grind.{common_steps}
use Rattle.br_source_meaning.specs.Values.{Locals}
use Rattle.br_source_meaning.specs.Runs.{with_locals}
use Rattle.br_source_meaning.specs.Names.{names_at}
use Rattle.br_source_meaning.specs.Variables.{locals_of}
use Rattle.br_source_meaning.proofs.variables.Variables.+set_all.Goals as goal

pub returns-in-Some-Some-clause-words : goal.returns-in-Some-Some-clause-words
returns-in-Some-Some-clause-words t c =
    let names = c.args.self.now.names.now in
    let before : Locals = locals_of names c.args.self.now.words in
    let k = c.in-Some-Some.k.now in
    let ks = c.in-Some-Some.ks.now in
    let vs = c.in-Some-Some.vs.now in
    let numbers : c.args.ks.now ≡ k ∷ ks = grind (arith, common_steps) in
    let words : c.args.vs.now ≡ c.in-Some-Some.v.now ∷ vs = grind (arith, common_steps) in
    let rest = subst (λ (n : List (List ℕ)). locals_of n c.set_all.new.self.words
    ≡ with_locals (names_at n ks) vs (locals_of n c.set.new.self.words)) c.set.ensures.names c.set_all.ensures.words
    in
    rest
    ∙ ap (with_locals (names_at names ks) vs) c.set.ensures.words
    ∙ sym (ap (λ ks. with_locals (names_at names ks) c.args.vs.now before) numbers
    ∙ ap (λ vs. with_locals (names_at names (k ∷ ks)) vs before) words)
