use Rattle.std.proofs.Common.{◌∙◌, sym}
use Rattle.br_sexpr.specs.Progress.{outside, pieces}
use Rattle.br_sexpr.proofs.Layouts.{layout, layout-is}
use Rattle.br_sexpr.proofs.laws.one_layout.Goals as goal

pub returns-clause-some : goal.returns-clause-some
returns-clause-some c = λ text. (pieces outside text, layout text)

pub returns-clause-one : goal.returns-clause-one
returns-clause-one c = λ text ps qs p q. layout-is ps text p ∙ sym (layout-is qs text q)
