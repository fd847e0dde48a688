use Rattle.std.proofs.Common.{◌≡◌, ◌+◌, ◌*◌, IsTrue, max, length, drop}
use Rattle.std.specs.List.{list_all}
use Rattle.br_flatimp.specs.Parts.{throughout}
use Rattle.br_emit.specs.Code.{AllFit, all_items}
use Rattle.br_emit.specs.Sizes.{sized_all}
use Rattle.br_emit.specs.Buffer.{appended}
use Rattle.br_emit.specs.Ready.{Ready, is_encodable, aimed}
use denote.Param.Weighed.{most}
use Rattle.br_flatimp.proofs.program.Stmt.TheLaws.{the_size}
use Rattle.br_emit.proofs.writing.+writing.Given as goal

abbrev pub invariant-write_all-loop-s : goal.invariant-write_all-loop-s
invariant-write_all-loop-s l = record {
  ready : Ready (all_items (aimed l.targets) (drop l.s-index l.body) l.free)
      (sized_all l.targets.near (drop l.s-index l.body) l.free).parts l.code l.lengths;
  code : appended l.code (all_items (aimed l.targets) (drop l.s-index l.body) l.free)
      ≡ appended l.initial.code (all_items (aimed l.targets) l.body l.free);
  fit : AllFit (all_items (aimed l.targets) (drop l.s-index l.body) l.free)
      → AllFit (all_items (aimed l.targets) l.body l.free);
  form : IsTrue (list_all (throughout is_encodable) (drop l.s-index l.body));
  lengths : drop (length (sized_all l.targets.near (drop l.s-index l.body) l.free).parts) l.lengths
      ≡ drop (length (sized_all l.targets.near l.body l.free).parts) l.initial.lengths;
}

abbrev pub decreases-write : goal.decreases-write
decreases-write l = 4 * the_size l.s.now

abbrev pub decreases-write_all : goal.decreases-write_all
decreases-write_all l = 4 * most the_size l.body.now + 1

abbrev pub decreases-write_buffer : goal.decreases-write_buffer
decreases-write_buffer l = 4 * most the_size l.body.now + 2

abbrev pub decreases-write_if : goal.decreases-write_if
decreases-write_if l = 4 * max (most the_size l.first.now) (most the_size l.second.now) + 2

abbrev pub decreases-write_loop : goal.decreases-write_loop
decreases-write_loop l = 4 * max (most the_size l.first.now) (most the_size l.last.now) + 2
