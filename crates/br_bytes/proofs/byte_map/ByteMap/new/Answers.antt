use Rattle.std.proofs.Common.{sym, subst}
use Rattle.br_bytes.specs.Memory.{IsMemory}
use Rattle.br_bytes.specs.Range.{AreApart, memory_of}
use Rattle.br_bytes.proofs.Kept.{empty_memory}
use Rattle.br_bytes.proofs.byte_map.ByteMap.new.Goals as goal

pub invariant_of-result : goal.invariant_of-result
invariant_of-result c = record {
  apart = subst (AreApart 0) (sym c.new.ensures.items) tt;
  is_memory = subst (λ rs. IsMemory (memory_of rs)) (sym c.new.ensures.items) empty_memory;
}
