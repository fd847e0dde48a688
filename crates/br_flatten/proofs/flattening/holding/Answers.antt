use Rattle.std.proofs.Common.{ap, ◌∙◌, ◌++◌, map, refl}
use Rattle.br_flatten.specs.Flatten.{number, commands}
use Rattle.br_flatten.specs.Scope.{settings}
use Rattle.br_flatten.specs.Scope.{scoped}
use Rattle.br_flatten.proofs.Members.{function-made}
use Rattle.br_flatten.proofs.flattening.holding.Goals as goal

pub returns : goal.returns
returns c =
    let fs = c.args.functions.now.funcs.now in
    let f = c.args.f.now in
    let ns = c.args.variables.now in
    let scope = scoped c.args.variables.now c.args.held.now in
    let args = c.in_ok-args.ensures ∙ ap (map (number ns)) c.as_slice.ensures in
    let results = c.in_ok-results.ensures ∙ ap (map (number ns)) c.as_slice-2.ensures in
    let set = c.in_ok-settings.ensures ∙ ap (λ out. out ++ settings scope) c.new-body.ensures in
    let body = c.in_ok-commands.ensures ∙ ap (λ out. out ++ commands fs scope c.as_slice-3.result.now) set
    ∙ ap (λ cs. settings scope ++ commands fs scope cs) c.as_slice-3.ensures in
    function-made fs f c.in_ok-copy.field-0 scope c.in_ok-args.args c.in_ok-results.results c.commands.new.out
    c.max-names.result
    c.in_ok-copy.ensures args results body
    (rw (
      c.max-names.ensures,
      c.max-passed.ensures,
      c.above.ensures,
      c.above-2.ensures,
      c.above_statements.ensures,
      c.as_slice-4.ensures,
      c.as_slice-5.ensures,
      c.as_slice-6.ensures,
    ) refl)
    c.requires.names
