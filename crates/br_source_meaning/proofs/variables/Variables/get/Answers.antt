use Rattle.std.proofs.Common.{◌<◌, None, length, get_or, subst, sym, ap, ◌∙◌}
use Rattle.br_source_meaning.specs.Variables.{locals_of}
use Rattle.br_source_meaning.proofs.Kept.{word-at}
use Rattle.br_source_meaning.proofs.variables.Variables.get.Goals as goal

pub returns : goal.returns
returns c =
    let names = c.args.self.now.names.now in
    let words = c.args.self.now.words in
    let inside : c.place.result < length names =
    subst (λ n. c.place.result < n) c.args.self.now.same_length c.place.ensures.within in
    ap (λ ws. get_or ws c.place.result None) c.as_slice.ensures
    ∙ sym (word-at names words c.place.result c.args.self.now.distinct c.args.self.now.same_length inside)
    ∙ ap (locals_of names words) (sym c.place.ensures.same)
