-- How the regions stand to one another, whatever the layout.
use Rattle.std.proofs.Common.{◌≡◌, ◌⊎◌, inl, inr, ℕ, ◌+◌, ◌-◌, ◌*◌, ◌^◌, ◌%◌, ◌<◌, ◌≤◌, arith}
use Rattle.std.proofs.lemmas.Bool.{cases_lt}
use Rattle.br_words.specs.declared.layout.Layout.{Layout}
use Rattle.br_words.specs.declared.layout.Layout.TheVariants.{One, Two}
use Rattle.br_words.specs.Layout.{code_base, code_end, data_base, most_words, ram_base, ram_end, stack_end}

pub record Regions (l : Layout) : Type 0 where
  -- RAM is above the windows of devices, and is in the address space
  pub above : 0x10025000 ≤ ram_base l
  pub low : ram_base l ≤ 2 ^ 32
  pub high : ram_end l ≤ 2 ^ 32 - 4
  -- RAM holds the regions
  pub code_in : ram_base l ≤ code_base l
  pub code_to : code_end l ≤ ram_end l
  pub data_in : ram_base l ≤ data_base
  pub stack_to : stack_end ≤ ram_end l
  -- the code region is below the other two or above them, and has four bytes for each word
  pub apart : (code_end l ≤ data_base) ⊎ (stack_end ≤ code_base l)
  pub words : code_base l + 4 * most_words l ≡ code_end l
  pub aligned : code_base l % 4 ≡ 0
  -- pages begin where the data region does
  pub data_page : (data_base - ram_base l) % 4096 ≡ 0

pub regions : (l : Layout) → Regions l
regions One = record {
  above = omega arith;
  low = omega arith;
  high = omega arith;
  code_in = omega arith;
  code_to = omega arith;
  data_in = omega arith;
  stack_to = omega arith;
  apart = inl (omega arith);
  words = omega arith;
  aligned = omega arith;
  data_page = omega arith;
}
regions Two = record {
  above = omega arith;
  low = omega arith;
  high = omega arith;
  code_in = omega arith;
  code_to = omega arith;
  data_in = omega arith;
  stack_to = omega arith;
  apart = inr (omega arith);
  words = omega arith;
  aligned = omega arith;
  data_page = omega arith;
}

-- what is in RAM is in the code region, or in the data region or the stack region
pub in_one_region : (l : Layout) (a : ℕ) → ram_base l ≤ a → a < ram_end l
    → ((code_base l ≤ a) × (a < code_end l)) ⊎ ((data_base ≤ a) × (a < stack_end))
in_one_region One a from to = elim (cases_lt a (code_end One)) [
  | inl h ↦ inl (omega arith, h)
  | inr h ↦ inr (omega arith, omega arith)
]
in_one_region Two a from to = elim (cases_lt a (code_base Two)) [
  | inl h ↦ inr (omega arith, omega arith)
  | inr h ↦ inl (h, omega arith)
]
