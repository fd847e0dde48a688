use Rattle.std.proofs.Common.{ap, length, arith}
use Rattle.std.proofs.lemmas.List.{length-map}
use Rattle.br_syntax.specs.declared.program.Func.{Func}
use Rattle.br_flatten.proofs.NumberedNames.{number-most}
use Rattle.br_flatten.proofs.scope.Scope.callee.Goals as goal

pub overflow_cast-result : goal.overflow_cast-result
overflow_cast-result c =
    let functions = c.args.self.now.functions.now in
    let most = number-most functions.names c.bytes.result.now in
    let all = ap length functions.numbered in
    let count = length-map functions.funcs.now (λ (f : Func). f.name) in
    let few = functions.few in
    omega (arith, c.number.ensures, most, all, count, few)
