use Rattle.std.proofs.Common.{◌≡◌, ◌≤◌, ◌∙◌, ◌&&◌, ◌||◌, ◌++◌, ◌∷◌, [], not, if◌then◌else◌}
use Rattle.std.proofs.Common.{Bool, true, false, List, ℕ, length, refl, sym, ap, subst, arith}
use Rattle.std.specs.Prelude.{filter}
use Rattle.br_flatimp.specs.Parts.{written, own_callees}
use Rattle.br_emit.specs.Code.{changes, touches, registers, saves}
use Rattle.br_emit.specs.Registers.{has, forgets_of}
use Rattle.br_emit.proofs.Changes.{changes_at, own_gathered}
use Rattle.br_emit.proofs.Saving.{saves_from}
use Rattle.br_emit.proofs.registers.framed.Goals as goal

few : (t : Bool) → length {A = ℕ} (if t then 1 ∷ [] else []) ≤ 1
few true = omega arith
few false = omega arith

after : (t : Bool) (rs : List ℕ) → (if t then 1 ∷ [] else []) ++ rs ≡ (if t then 1 ∷ rs else rs)
after true rs = refl
after false rs = refl

pub in_order-requires : goal.in_order-requires
in_order-requires c = subst (λ q. length q ≤ 1) (sym c.first.ensures) (few c.either.result)

pub returns : goal.returns
returns c =
    let forgets = forgets_of c.args.sets.now in
    let f = c.args.f.now in
    let changed : has c.changed_by_all.result 1 ≡ changes forgets f 1 = c.changed_by_all.ensures 1 (omega arith)
    ∙ ap (λ q. changes_at forgets (own_gathered written q) (own_gathered own_callees q) 1) c.as_slice.ensures in
    let link : c.either.result ≡ touches c.args.near forgets f 1 =
    c.either.ensures ∙ ap (λ b. b || c.links-own.result) (c.contains-changes.ensures ∙ changed)
    ∙ ap (λ b. changes forgets f 1 || b) c.links-own.ensures in
    c.in_order.ensures
    ∙ ap (λ q. q ++ filter (has c.saved.result) registers) c.first.ensures
    ∙ ap (λ q. (if c.either.result then 1 ∷ [] else []) ++ q)
    (saves_from c.saved.result forgets c.args.n f c.saved.ensures)
    ∙ after c.either.result (saves forgets c.args.n f)
    ∙ ap (λ b. if b then 1 ∷ saves forgets c.args.n f else saves forgets c.args.n f) link
