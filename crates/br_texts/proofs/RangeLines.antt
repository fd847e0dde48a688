-- Lines of ranges, one after another.
use Rattle.std.proofs.Common.{◌≡◌, ℕ, ◌+◌, ◌≤◌, List, ◌∷◌, ◌++◌, length, arith, append_assoc, ap, ◌∙◌}
use Rattle.br_bytes.specs.declared.run.Choice.{Choice}
use Rattle.br_words.specs.Layout.{data_base, stack_base}
use Rattle.br_texts.specs.Lines.{bytes_line}
use Rattle.br_texts.specs.Memory.{AreRanges, values, range_lines}

-- the ranges lie in the data region, one after another
pub record Inside (coming : List Choice) : Type 0 where
  pub from : ℕ
  pub low : data_base ≤ from
  pub ranges : AreRanges from coming

pub inside-all : (ranges : List Choice) → AreRanges data_base ranges → Inside ranges
inside-all ranges are = record { from = data_base; low = omega arith; ranges = are }

pub inside-rest : (c : Choice) (rest : List Choice) → Inside (c ∷ rest) → Inside rest
inside-rest c rest inside =
    let are = inside.ranges in
    record {
      from = c.addr + length c.bytes;
      low = (let first = are.0 in let from = inside.low in omega arith);
      ranges = are.3;
    }

pub inside-low : (c : Choice) (rest : List Choice) → Inside (c ∷ rest) → data_base ≤ c.addr
inside-low c rest inside = let first = inside.ranges.0 in let from = inside.low in omega arith

pub inside-high : (c : Choice) (rest : List Choice) → Inside (c ∷ rest) → c.addr + length c.bytes ≤ stack_base
inside-high c rest inside = inside.ranges.1

-- the line of one more range joins those so far
pub lines-step : (byte : ℕ → ℕ) (text new all : List ℕ) (c : Choice) (rest : List Choice) (bytes : List ℕ) →
    new ≡ text ++ bytes_line c.addr bytes → bytes ≡ values byte c.addr (length c.bytes) →
    text ++ range_lines byte (c ∷ rest) ≡ all → new ++ range_lines byte rest ≡ all
lines-step byte text new all c rest bytes grown here so_far =
    let one : new ≡ text ++ bytes_line c.addr (values byte c.addr (length c.bytes)) =
    grown ∙ ap (λ (bs : List ℕ). text ++ bytes_line c.addr bs) here in
    ap (λ (t : List ℕ). t ++ range_lines byte rest) one
    ∙ (append_assoc text (bytes_line c.addr (values byte c.addr (length c.bytes))) (range_lines byte rest) ∙ so_far)
