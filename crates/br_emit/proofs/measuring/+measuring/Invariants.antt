use Rattle.std.proofs.Common.{◌≡◌, ◌+◌, ◌*◌, ◌≤◌, max, length, drop}
use Rattle.br_emit.specs.Sizes.{sized_all}
use Rattle.br_emit.specs.Buffer.{noted}
use denote.Param.Weighed.{most}
use Rattle.br_flatimp.proofs.program.Stmt.TheLaws.{the_size}
use Rattle.br_emit.proofs.measuring.+measuring.Given as goal

abbrev pub invariant-measure_all-loop-s : goal.invariant-measure_all-loop-s
invariant-measure_all-loop-s l = record {
  words : l.words + (sized_all l.near (drop l.s-index l.body) l.free).words ≡ (sized_all l.near l.body l.free).words;
  noted : noted l.lengths (sized_all l.near (drop l.s-index l.body) l.free).parts
      ≡ noted l.initial.lengths (sized_all l.near l.body l.free).parts;
  room : length (sized_all l.near (drop l.s-index l.body) l.free).parts ≤ l.lengths.room;
}

abbrev pub decreases-measure : goal.decreases-measure
decreases-measure l = 5 * the_size l.s.now

abbrev pub decreases-measure_all : goal.decreases-measure_all
decreases-measure_all l = 5 * most the_size l.body.now + 1

abbrev pub decreases-measure_buffer : goal.decreases-measure_buffer
decreases-measure_buffer l = 5 * most the_size l.body.now + 2

abbrev pub decreases-measure_two : goal.decreases-measure_two
decreases-measure_two l = 5 * max (most the_size l.a.now) (most the_size l.b.now) + 2

abbrev pub decreases-measure_if : goal.decreases-measure_if
decreases-measure_if l = 5 * max (most the_size l.first.now) (most the_size l.second.now) + 3

abbrev pub decreases-measure_loop : goal.decreases-measure_loop
decreases-measure_loop l = 5 * max (most the_size l.last.now) (most the_size l.first.now) + 3
