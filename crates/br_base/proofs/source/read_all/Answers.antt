use Rattle.std.proofs.Common.{ℕ, ◌≡◌, ◌≤◌, ◌+◌, ◌-◌, ◌++◌, List, length, take, min, arith, length-append}
use Rattle.std.proofs.lemmas.List.{length-take}
use Rattle.br_base.proofs.Known.{Consumes-append}
use Rattle.br_base.proofs.source.read_all.Goals as goal

-- what one read gives beside the bytes before it is at most one byte too much
short : (bytes buf chunk : List ℕ) (n limit : ℕ) → length bytes ≤ limit →
    length buf ≡ length (take (min 4095 (limit - length bytes) + 1) chunk) → length (bytes ++ take n buf) ≤ limit + 1
short bytes buf chunk n limit within room =
    simp (length-append, length-take) (let fits = simp length-take at room in omega arith)

-- the bytes that found no room were taken too
pub returns-in_err-extend_from_slice-clause-memory_within :
    goal.returns-in_err-extend_from_slice-clause-memory_within
returns-in_err-extend_from_slice-clause-memory_within g c is =
    let before = c.loop-chunk.bytes.items in
    let len : length before ≡ c.len-in-loop-chunk.result = omega arith in
    let room : length c.read.new.buf ≡ length (take (min 4095 (c.args.limit - length before) + 1) c.loop-chunk.chunk) =
    rw len (rw (← c.min-room.ensures) c.read.auto.buf) in (
      before ++ take c.in_ok-n.n c.read.new.buf,
      short before c.read.new.buf c.loop-chunk.chunk c.in_ok-n.n c.args.limit (omega arith) room,
      Consumes-append _ _ _ _ _ c.loop-chunk.invariant.taken c.in_ok-n.ensures.taken,
    )
