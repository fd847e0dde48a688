use Rattle.std.proofs.Common.{◌<◌, ◌≤◌, length, sym, ap, ◌∙◌, arith}
use Rattle.br_numbering.specs.Names.{number}
use Rattle.br_source_meaning.specs.Variables.{locals_of}
use Rattle.br_source_meaning.proofs.Kept.{absent}
use Rattle.br_source_meaning.proofs.Numbers.{at-place}
use Rattle.br_source_meaning.proofs.variables.Variables.named.Goals as goal

pub returns-then-k-len : goal.returns-then-k-len
returns-then-k-len c =
    let v = c.args.self.now in
    let inside : c.place-k.result < length v.names.now = omega (arith, c.if-k-len.true, c.len.ensures, v.same_length) in
    c.get.ensures ∙ ap (locals_of v.names.now v.words)
    (at-place v.names.now c.args.x.now c.place-k.result c.place-k.ensures inside)

pub returns-else-k-len : goal.returns-else-k-len
returns-else-k-len c =
    let v = c.args.self.now in
    let most : length v.names.now ≤ number v.names.now c.args.x.now =
    omega (arith, c.if-k-len.false, c.len.ensures, v.same_length, c.place-k.ensures) in
    sym (absent v.names.now v.words c.args.x.now most)
