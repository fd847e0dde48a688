use Rattle.std.proofs.Common.{◌≡◌, ◌+◌, ◌++◌, ◌∷◌, ◌∙◌, ℕ, List, length, drop, ap, subst}
use Rattle.br_bytes.specs.declared.run.Choice.{Choice}
use Rattle.br_machine.specs.State.{byte_of}
use Rattle.br_texts.specs.Memory.{values, range_lines}
use Rattle.br_texts.proofs.Apart.{next-item}
use Rattle.br_texts.proofs.RangeLines.{Inside, inside-rest, lines-step}
use Rattle.br_texts.proofs.runs.push_ranges.Goals as goal

pub loop-range-preserved : goal.loop-range-preserved
loop-range-preserved c =
    let range = c.range-item.result in
    let rest = drop (c.loop-range.range-index + 1) c.args.ranges.now in
    let left = next-item c.args.ranges.now c.loop-range.range-index range c.loop-range-test.true c.range-item.is in
    let byte : ℕ → ℕ = byte_of c.args.machine.now.state in
    let all = c.args.text.now.items ++ range_lines byte c.args.ranges.now in
    let inside : Inside (range ∷ rest) = subst Inside left c.loop-range.invariant.inside in
    let so_far : c.loop-range.text.items ++ range_lines byte (range ∷ rest) ≡ all =
    subst (λ (cs : List Choice). c.loop-range.text.items ++ range_lines byte cs ≡ all) left
    c.loop-range.invariant.so_far in
    let bytes : c.deref.result.now ≡ values byte range.addr (length range.bytes) =
    c.deref.ensures.value ∙ (c.in_ok-bytes.ensures ∙ ap (values byte range.addr) c.len-count.ensures) in
    record {
      so_far =
          lines-step byte c.loop-range.text.items c.push_bytes_line.new.text.items all range rest c.deref.result.now
          c.in_ok-push_bytes_line.ensures bytes so_far;
      inside = inside-rest range rest inside;
    }
