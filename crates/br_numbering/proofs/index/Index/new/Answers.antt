use Rattle.std.proofs.Common.{◌≡◌, ℕ, true, false, Option, Some, None, is_some, take, refl, sym, ap, ◌∙◌}
use Rattle.std.specs.HashMap.{get_by}
use Rattle.std.specs.Str.{bytes_eq}
use Rattle.std.proofs.lemmas.Map.Text.{hash_map_updates_str}
use Rattle.br_syntax.specs.Functions.{number_named}
use Rattle.br_numbering.proofs.NumberedFunctions.{number_known, number_new}
use Rattle.br_numbering.proofs.index.Index.new.Goals as goal
use Rattle.br_numbering.proofs.index.Index.new.Goals.{then-not-contains_key+in_ok-insert, else-not-contains_key}

none : (o : Option ℕ) → is_some o ≡ false → o ≡ None
none None e = refl
none (Some n) e = cc

pub loop-i-preserved : goal.loop-i-preserved
loop-i-preserved c =
    let fs = c.args.funcs.now in
    let i = c.loop-i.i in
    let f = c.index-funcs-i.result in
    let before = c.loop-i.invariant c.bytes-name.result.now in
    elim c.if-not-contains_key.branch [
      | else-not-contains_key w ↦
          let found : is_some (number_named (take i fs) c.bytes-name.result.now) ≡ true = ap is_some (sym before)
          ∙ sym c.contains_key.ensures ∙ w.if-not-contains_key.false in
          let known : is_some (number_named (take i fs) f.name) ≡ true = rw c.bytes-name.ensures.value at found in
          (λ x. ap (λ m. get_by (λ k. bytes_eq x k.now) m) w.numbers-is ∙ c.loop-i.invariant x
          ∙ sym (number_known fs i f c.loop-i-test.true c.index-funcs-i.is x known))
      | then-not-contains_key+in_ok-insert w ↦
          let missing : is_some (number_named (take i fs) c.bytes-name.result.now) ≡ false = ap is_some (sym before)
          ∙ sym c.contains_key.ensures ∙ w.if-not-contains_key.true in
          let new : is_some (number_named (take i fs) f.name) ≡ false = rw c.bytes-name.ensures.value at missing in
          (λ x.
          ap (λ m. get_by (λ k. bytes_eq x k.now) m) w.numbers-is
          ∙ hash_map_updates_str c.bytes-name.result.now c.loop-i.numbers w.insert.new.self (Some i)
          w.in_ok-insert.ensures.updates x
          ∙ rw (c.bytes-name.ensures.value, c.loop-i.invariant x)
          (sym (number_new fs i f c.loop-i-test.true c.index-funcs-i.is x (none _ new))))
    ]
