use Rattle.br_bytes.proofs.byte_map.ByteMap.«+replace_low».Given as goal

abbrev pub decreases-replace_low : goal.decreases-replace_low
decreases-replace_low l = l.n
