use Rattle.std.proofs.Common.{◌+◌, ◌∷◌, [], length, ap, ◌∙◌, arith}
use Rattle.br_emit.specs.Sizes.{function_words}
use Rattle.br_emit.specs.Buffer.{noted}
use Rattle.br_emit.specs.Registers.{forgets_of}
use Rattle.br_emit.specs.Written.{flagged, offset_of}
use Rattle.br_emit.proofs.Placing.{entry_at, place_here, place_step}
use Rattle.br_emit.proofs.places.place_functions.Goals as goal

pub place_function-place-requires-clause-few : goal.place_function-place-requires-clause-few
place_function-place-requires-clause-few c =
    let words = c.loop-f.invariant.words in
    let few = c.requires.few in
    rw c.is_flagged.ensures
    (place_here c.args.near (forgets_of c.args.sets.now) (flagged c.args.called.now)
    c.args.funcs.now c.loop-f.f-index c.loop-f.place c.loop-f.n c.f-item.result c.loop-f.targets c.loop-f.offsets
    (c.loop-f.lengths.room + length c.loop-f.lengths.numbers)
    c.loop-f-test.true c.f-item.is c.loop-f.invariant.target_room c.loop-f.invariant.offset_room
    c.loop-f.invariant.writable (omega (arith, words, few))).few

pub loop-f-preserved : goal.loop-f-preserved
loop-f-preserved c =
    let called = flagged c.args.called.now in
    let f = c.f-item.result in
    let n = c.loop-f.n in
    let place = c.place_function-place.ensures.place ∙ ap
    (λ b. c.loop-f.place + function_words c.args.near (forgets_of c.args.sets.now) b n f) c.is_flagged.ensures in
    let offsets = c.place_function-place.ensures.offsets ∙ ap (λ b. noted c.loop-f.offsets (offset_of
    (entry_at c.args.near (forgets_of c.args.sets.now) b c.loop-f.place n f) ∷ [])) c.is_flagged.ensures in
    let step = place_step c.args.near (forgets_of c.args.sets.now) called c.args.funcs.now c.loop-f.f-index
    c.loop-f.place c.place_function-place.result n f c.loop-f.targets c.place_function-place.new.targets
    c.loop-f.offsets c.place_function-place.new.offsets (c.loop-f.lengths.room + length c.loop-f.lengths.numbers)
    (c.place_function-place.new.lengths.room + length c.place_function-place.new.lengths.numbers)
    c.loop-f-test.true c.f-item.is place c.place_function-place.ensures.targets
    offsets c.place_function-place.ensures.kept c.loop-f.invariant.target_room c.loop-f.invariant.offset_room
    c.loop-f.invariant.writable in
    record {
      n = ap (λ q. q + 1) c.loop-f.invariant.n;
      words = step.words ∙ c.loop-f.invariant.words;
      targets = step.targets ∙ c.loop-f.invariant.targets;
      offsets = step.offsets ∙ c.loop-f.invariant.offsets;
      target_room = step.target_room;
      offset_room = step.offset_room;
      writable = step.writable;
      kept = c.place_function-place.ensures.kept ∙ c.loop-f.invariant.kept;
    }
