use Rattle.std.proofs.Common.{◌<◌, length, subst, sym, ap, ◌∙◌}
use Rattle.br_source_meaning.specs.Variables.{with_word, locals_of}
use Rattle.br_source_meaning.proofs.Kept.{changed}
use Rattle.br_source_meaning.proofs.variables.Variables.put.Goals as goal

pub returns-clause-words : goal.returns-clause-words
returns-clause-words c =
    let names = c.args.self.now.names.now in
    let words = c.args.self.now.words in
    let inside : c.place-at.result < length names =
    subst (λ n. c.place-at.result < n) c.args.self.now.same_length c.place-at.ensures.within in
    ap (locals_of names) c.set.ensures
    ∙ changed names words c.place-at.result c.args.word c.args.self.now.distinct c.args.self.now.same_length inside
    ∙ ap (λ x. with_word x c.args.word (locals_of names words)) (sym c.place-at.ensures.same)
