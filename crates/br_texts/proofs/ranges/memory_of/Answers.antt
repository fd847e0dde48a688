use Rattle.std.proofs.Common.{◌≡◌, ◌≤◌, ap, arith, subst, sym, drop, List, ◌∷◌, ◌+◌}
use Rattle.br_bytes.specs.declared.run.Choice.{Choice}
use Rattle.br_words.specs.Layout.{data_base}
use Rattle.br_bytes.specs.Memory.{Memory}
use Rattle.br_machine.specs.Start.{IsInData}
use Rattle.br_texts.specs.Memory.{memory_of, with_ranges}
use Rattle.br_texts.proofs.Apart.{Ahead, ahead-empty, ahead-step, next-item}
use Rattle.br_texts.proofs.ranges.memory_of.Goals as goal

pub loop-range-init : goal.loop-range-init
loop-range-init c =
    let empty = sym c.new-memory.ensures in
    record {
      so_far = ap (λ (m : Memory). with_ranges m c.args.ranges.now) c.new-memory.ensures;
      inside = subst IsInData empty c.memories_of_the_data_region.ensures.empty;
      ahead = subst (λ (m : Memory). Ahead m c.args.ranges.now) empty (ahead-empty c.args.ranges.now c.requires);
    }

pub add_range-requires : goal.add_range-requires
add_range-requires c =
    let range = c.range-item.result in
    let left = next-item c.args.ranges.now c.loop-range.range-index range c.loop-range-test.true c.range-item.is in
    let ahead : Ahead c.loop-range.memory (range ∷ drop (c.loop-range.range-index + 1) c.args.ranges.now) =
    subst (λ (cs : List Choice). Ahead c.loop-range.memory cs) left c.loop-range.invariant.ahead in
    let are = ahead.ranges in
    record {
      within = are.1;
      free = λ a after. ahead.free a (let first = are.0 in omega arith);
    }

pub loop-range-preserved : goal.loop-range-preserved
loop-range-preserved c =
    let range = c.range-item.result in
    let m = c.loop-range.memory in
    let rest = drop (c.loop-range.range-index + 1) c.args.ranges.now in
    let left = next-item c.args.ranges.now c.loop-range.range-index range c.loop-range-test.true c.range-item.is in
    let ahead : Ahead m (range ∷ rest) = subst (λ (cs : List Choice). Ahead m cs) left c.loop-range.invariant.ahead in
    let so_far : with_ranges m (range ∷ rest) ≡ memory_of c.args.ranges.now =
    subst (λ (cs : List Choice). with_ranges m cs ≡ memory_of c.args.ranges.now) left c.loop-range.invariant.so_far in
    let are = ahead.ranges in
    let low : data_base ≤ range.addr = (let first = are.0 in let from = ahead.low in omega arith) in
    let inside = c.memories_of_the_data_region.ensures.more m range.addr range.bytes c.loop-range.invariant.inside
    are.2 low are.1 in
    let new = sym c.in_ok-add_range.ensures in
    record {
      so_far = subst (λ (m : Memory). with_ranges m rest ≡ memory_of c.args.ranges.now) new so_far;
      inside = subst IsInData new inside;
      ahead = subst (λ (m : Memory). Ahead m rest) new (ahead-step m range rest ahead);
    }
