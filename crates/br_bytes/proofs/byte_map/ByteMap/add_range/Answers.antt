use Rattle.br_bytes.proofs.Away.{free_from_none, taken_not_free}
use Rattle.br_bytes.proofs.byte_map.ByteMap.add_range.Goals as goal

pub add_free-requires-clause-free : goal.add_free-requires-clause-free
add_free-requires-clause-free c =
    free_from_none c.args.bytes.now c.args.self.now c.args.a (c.first_taken.ensures.free c.in-None.is)

pub returns-in_ok-add_free-in-None-clause-free : goal.returns-in_ok-add_free-in-None-clause-free
returns-in_ok-add_free-in-None-clause-free c =
    free_from_none c.args.bytes.now c.args.self.now c.args.a (c.first_taken.ensures.free c.in-None.is)

pub returns-in-Some-clause-taken : goal.returns-in-Some-clause-taken
returns-in-Some-clause-taken c o e =
    taken_not_free c.args.bytes.now c.args.self.now c.args.a c.in-Some.at c.in-Some.ensures.taken
