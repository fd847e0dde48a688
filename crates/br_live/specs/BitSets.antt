-- The sets that sets of bits are.
use Rattle.br_flatimp.specs.Values.{Names}
use Rattle.br_live.specs.declared.bit_set.BitSet.{BitSet}
use Rattle.br_live.specs.Sets.{members}

-- the numbers in a set of bits
abbrev pub set_of : BitSet → Names
set_of s = members s.words.items
