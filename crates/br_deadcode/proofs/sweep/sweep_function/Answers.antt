use Rattle.std.proofs.Common.{◌≡◌, ◌||◌, List, [], ap, ◌∙◌}
use Rattle.br_flatimp.specs.declared.program.Stmt.{Stmt}
use Rattle.br_flatimp.specs.Values.{Names}
use Rattle.br_flatimp.specs.Liveness.{nothing, is_in, union, without}
use Rattle.br_live.specs.Summaries.{handed}
use Rattle.br_deadcode.specs.Sweeps.{leaves_of, left_of}
use Rattle.br_deadcode.proofs.sweep.sweep_function.Goals as goal

pub returns-clause-left : goal.returns-clause-left
returns-clause-left c =
    let f = c.args.f.now in
    let end : handed c.own.new.self nothing ≡ is_in f.results =
    c.own.ensures.hands nothing
    ∙ ap (λ (e : Names). union (without e []) (is_in c.as_slice-2.result.now)) (c.in_ok-so_far.ensures.hands nothing)
    ∙ ap is_in c.as_slice-2.ensures in
    let body : c.in_ok-body.body ≡ left_of f.body (is_in f.results) =
    c.in_ok-body.ensures.left
    ∙ ap (left_of c.as_slice-3.result.now) end
    ∙ ap (λ (cs : List Stmt). left_of cs (is_in f.results)) c.as_slice-3.ensures in
    let name : c.in_ok-copy.field-0 ≡ f.name = c.in_ok-copy.ensures in
    let args : c.in_ok-from_slice.field-0 ≡ f.args = c.in_ok-from_slice.ensures ∙ c.as_slice-4.ensures in
    let results : c.in_ok-from_slice-2.field-0 ≡ f.results = c.in_ok-from_slice-2.ensures ∙ c.as_slice-5.ensures in
    cc (name, args, results, body)

pub returns-clause-removed : goal.returns-clause-removed
returns-clause-removed c =
    let f = c.args.f.now in
    let end : handed c.own.new.self nothing ≡ is_in f.results =
    c.own.ensures.hands nothing
    ∙ ap (λ (e : Names). union (without e []) (is_in c.as_slice-2.result.now)) (c.in_ok-so_far.ensures.hands nothing)
    ∙ ap is_in c.as_slice-2.ensures in
    c.in_ok-body.ensures.removed
    ∙ ap (λ (e : Names). c.args.removed.now || leaves_of c.as_slice-3.result.now e) end
    ∙ ap (λ (cs : List Stmt). c.args.removed.now || leaves_of cs (is_in f.results)) c.as_slice-3.ensures
