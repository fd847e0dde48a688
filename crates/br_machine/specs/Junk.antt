-- What a machine holds by chance, where one word tells it all.
use Rattle.std.specs.Prelude.{ℕ, ◌-◌, ◌/◌, replicate}
use Rattle.br_words.specs.Layout.{data_base, stack_end}
use Rattle.br_machine.specs.Start.{Leftover, code_bytes}

-- each register is the word, and each byte is the word's at its address modulo 4, the lowest first
unfoldable pub junk_of : ℕ → Leftover
junk_of word = record {
  registers = replicate 32 word;
  bytes = code_bytes (replicate ((stack_end - data_base) / 4) word);
}
