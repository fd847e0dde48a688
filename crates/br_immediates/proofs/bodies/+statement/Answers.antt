use Rattle.std.proofs.Common.{◌++◌, refl, ap, ◌∙◌}
use Rattle.br_immediates.specs.Immediates.{with_constants}
use Rattle.br_immediates.specs.Tables.{literals_of}
use Rattle.br_immediates.proofs.bodies.+statement.Goals as goal

pub statements-loop-s-init : goal.statements-loop-s-init
statements-loop-s-init t c = record {
  code =
      ap (λ ds. ds ++ with_constants (literals_of c.new-known.result.words) c.args.body.now) c.new-made.ensures
      ∙ ap (λ known. with_constants known c.args.body.now) c.new-known.ensures;
  words = refl;
}
