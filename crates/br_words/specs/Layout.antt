-- Where what stands in the machine's address space. Each region ends where the next begins.
use Rattle.std.specs.Prelude.{ℕ}
use Rattle.br_words.specs.declared.layout.Layout.{Layout}
use Rattle.br_words.specs.declared.layout.Layout.TheVariants.{One, Two}

-- the data region
abbrev pub data_base : ℕ
data_base = 0x80100000

-- the stack region, which is used downward from its end
abbrev pub stack_base : ℕ
stack_base = 0x80200000

-- the end of the stack region
abbrev pub stack_end : ℕ
stack_end = 0x80300000

-- the code region; the first four bytes for each word are the code's
abbrev pub code_base : Layout → ℕ
code_base One = 0x80000000
code_base Two = 0x80300000

-- the end of the code region
abbrev pub code_end : Layout → ℕ
code_end One = 0x80100000
code_end Two = 0x80700000

-- the low end of RAM, which holds the three regions
abbrev pub ram_base : Layout → ℕ
ram_base One = 0x80000000
ram_base Two = 0x80100000

-- the high end of RAM
abbrev pub ram_end : Layout → ℕ
ram_end One = 0x80300000
ram_end Two = 0x80700000

-- the most words of code: those that fill the code region
abbrev pub most_words : Layout → ℕ
most_words One = 262144
most_words Two = 1048576

-- the most bytes of stack that an entry may state: the whole stack region
abbrev pub most_stack : ℕ
most_stack = 1048576
