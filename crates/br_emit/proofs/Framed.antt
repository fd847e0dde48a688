-- The code of a function that is called, by what is found of the function.
use Rattle.std.proofs.Common.{◌≡◌, ℕ, ◌+◌, ◌-◌, ◌*◌, ◌%◌, List, length, ap, ◌∙◌, arith}
use Rattle.br_flatimp.specs.declared.program.FlatFunc.{FlatFunc}
use Rattle.br_flatimp.specs.declared.program.Stmt.{Stmt}
use Rattle.br_flatimp.specs.Sizes.{nest}
use Rattle.br_flatimp.specs.Runs.{Forgets}
use Rattle.br_emit.specs.Code.{Targets, framed, callable_items}
use Rattle.br_emit.specs.Sizes.{framed_items}

down : (n : ℕ) → (0 + (4294967296 - n)) % 4294967296 ≡ (4294967296 - n) % 4294967296
down n = let none : 0 + (4294967296 - n) ≡ 4294967296 - n = omega arith in ap (λ q. q % 4294967296) none

pub framed_as : (targets : Targets) (forgets : Forgets) (n : ℕ) (f : FlatFunc) (rs counted : List ℕ)
    (body : List Stmt) (buffers : ℕ)
    → rs ≡ framed targets.near forgets n f → counted ≡ framed targets.near forgets n f → body ≡ f.body
    → buffers ≡ nest f
    → framed_items targets rs body buffers ((0 + (4294967296 - 4 * length counted)) % 4294967296)
    ((0 + (4294967296 - buffers)) % 4294967296) (4 * length counted) ≡ callable_items targets forgets n f
framed_as targets forgets n f rs counted body buffers rs_are counted_are body_is buffers_are =
    let ks = framed targets.near forgets n f in
    ap (λ d. framed_items targets rs body buffers d ((0 + (4294967296 - buffers)) % 4294967296) (4 * length counted))
    (down (4 * length counted))
    ∙ ap (λ d. framed_items targets rs body buffers ((4294967296 - 4 * length counted) % 4294967296) d
    (4 * length counted)) (down buffers)
    ∙ ap (λ q. framed_items targets q body buffers ((4294967296 - 4 * length counted) % 4294967296)
    ((4294967296 - buffers) % 4294967296) (4 * length counted)) rs_are
    ∙ ap (λ q. framed_items targets ks body buffers ((4294967296 - 4 * length q) % 4294967296)
    ((4294967296 - buffers) % 4294967296) (4 * length q)) counted_are
    ∙ ap (λ q. framed_items targets ks q buffers ((4294967296 - 4 * length ks) % 4294967296)
    ((4294967296 - buffers) % 4294967296) (4 * length ks)) body_is
    ∙ ap (λ q. framed_items targets ks f.body q ((4294967296 - 4 * length ks) % 4294967296)
    ((4294967296 - q) % 4294967296) (4 * length ks)) buffers_are
