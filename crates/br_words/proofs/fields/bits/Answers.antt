-- A mask of the low bits leaves a number modulo a power of two.
use Rattle.std.proofs.Common.{◌≡◌, ℕ, ◌+◌, ◌-◌, ◌/◌, ◌^◌, ◌≤◌, bit_and, arith, ap, ◌∙◌}
use Rattle.std.proofs.lemmas.Nat.{and_mask}
use Rattle.std.proofs.lemmas.Nat.Bits.{ones_shr}
use Rattle.br_words.specs.Bits.{field}
use Rattle.br_words.proofs.fields.bits.Goals as goal

masked : (w hi lo : ℕ) → lo ≤ hi → hi ≤ 31 → bit_and (w / 2 ^ lo) ((2 ^ 32 - 1) / 2 ^ (31 - (hi - lo))) ≡ field hi lo w
masked w hi lo p q =
    let s : 31 - (hi - lo) ≤ 32 = omega arith in
    let k : 32 - (31 - (hi - lo)) ≡ hi + 1 - lo = omega arith in
    ap (bit_and (w / 2 ^ lo)) (ones_shr 32 (31 - (hi - lo)) s)
    ∙ ap (λ (n : ℕ). bit_and (w / 2 ^ lo) (2 ^ n - 1)) k
    ∙ and_mask (w / 2 ^ lo) (hi + 1 - lo)

pub returns : goal.returns
returns g c = masked c.args.w g.row.HI g.row.LO c.requires.ordered c.requires.inside
