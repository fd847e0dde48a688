use Rattle.std.proofs.Common.{◌≡◌, ◌+◌, ◌++◌, [], map, length, ap, subst, ◌∙◌, arith}
use Rattle.br_emit.specs.Code.{AllFit, words_at, address_of}
use Rattle.br_emit.specs.Registers.{forgets_of}
use Rattle.br_emit.specs.Sizes.{begins, entries}
use Rattle.br_emit.specs.Ready.{aimed}
use Rattle.br_emit.specs.Written.{rest_items, flagged, offset_of, is_near_program}
use Rattle.br_emit.proofs.Flags.{flags_are}
use Rattle.br_emit.proofs.Imaged.{writable_more, words_few, plan, offsets_are}
use Rattle.br_emit.proofs.emission.write_into.Goals as goal

pub place_functions-requires-clause-targets : goal.place_functions-requires-clause-targets
place_functions-requires-clause-targets c =
    let room = c.code.invariant.3 in
    let enough = c.requires.function_room in
    let same = ap (λ v. v.function_room) c.code.view_is in
    let cleared = ap (λ q. q.room) c.clear.ensures in
    omega (arith, room, enough, same, cleared)

pub place_functions-requires-clause-offsets : goal.place_functions-requires-clause-offsets
place_functions-requires-clause-offsets c =
    let enough = c.requires.function_room in
    let same = ap (λ v. v.function_room) c.code.view_is in
    omega (arith, enough, same)

pub place_functions-requires-clause-writable : goal.place_functions-requires-clause-writable
place_functions-requires-clause-writable c =
    let room = c.code.invariant.0 in
    let same = ap (λ v. v.word_room) c.code.view_is in
    rw c.is_near_program-near.ensures
    (writable_more (is_near_program c.args.funcs.now) c.args.code.now.word_room (c.code.inside.lengths.room
    + length c.code.inside.lengths.numbers) c.args.funcs.now (omega (arith, room, same)) c.requires.can_write.each)

pub place_functions-requires-clause-few : goal.place_functions-requires-clause-few
place_functions-requires-clause-few c =
    let fs = c.args.funcs.now in
    let flags = c.as_slice-called.result.now in
    rw c.is_near_program-near.ensures (words_few (forgets_of c.find_forgotten.new.sets) fs flags 1048576
    (flags_are fs flags (c.as_slice-called.ensures.value ∙ c.flag_called.ensures.flags)) c.requires.can_write.few)

pub write_functions-requires-clause-targets : goal.write_functions-requires-clause-targets
write_functions-requires-clause-targets c =
    let fs = c.args.funcs.now in
    let flags = c.as_slice-called.result.now in
    let called = flags_are fs flags (c.as_slice-called.ensures.value ∙ c.flag_called.ensures.flags) in
    let more = map address_of
    (begins (is_near_program fs) (forgets_of c.find_forgotten.new.sets) (flagged flags) 0 0 fs) in
    let targets = c.new-targets.ensures
    ∙ ap (λ q. record { near = q; addresses = c.as_slice.result.now }) c.is_near_program-near.ensures
    ∙ ap (λ q. record { near = is_near_program fs; addresses = q }) (c.as_slice.ensures
    ∙ ap (λ q. q.numbers) c.place_functions.ensures.targets
    ∙ ap (λ b. c.clear.new.self.numbers ++ map address_of (begins b (forgets_of c.find_forgotten.new.sets)
    (flagged flags) 0 0 fs)) c.is_near_program-near.ensures ∙ ap (λ q. q.numbers ++ more) c.clear.ensures) in
    (plan (forgets_of c.find_forgotten.new.sets) fs flags c.new-targets.result called c.requires.can_write.few
    targets).reach

pub write_functions-requires-clause-writable : goal.write_functions-requires-clause-writable
write_functions-requires-clause-writable c =
    let room = c.code.invariant.0 in
    let same = ap (λ v. v.word_room) c.code.view_is in
    let kept = c.place_functions.ensures.kept in
    let near = ap (λ q. q.near) c.new-targets.ensures ∙ c.is_near_program-near.ensures in
    rw near (writable_more (is_near_program c.args.funcs.now) c.args.code.now.word_room
    (c.place_functions.new.lengths.room + length c.place_functions.new.lengths.numbers) c.args.funcs.now
    (omega (arith, room, same, kept)) c.requires.can_write.each)

pub write_functions-requires-clause-room : goal.write_functions-requires-clause-room
write_functions-requires-clause-room c =
    let fs = c.args.funcs.now in
    let flags = c.as_slice-called.result.now in
    let called = flags_are fs flags (c.as_slice-called.ensures.value ∙ c.flag_called.ensures.flags) in
    let more = map address_of
    (begins (is_near_program fs) (forgets_of c.find_forgotten.new.sets) (flagged flags) 0 0 fs) in
    let targets = c.new-targets.ensures
    ∙ ap (λ q. record { near = q; addresses = c.as_slice.result.now }) c.is_near_program-near.ensures
    ∙ ap (λ q. record { near = is_near_program fs; addresses = q }) (c.as_slice.ensures
    ∙ ap (λ q. q.numbers) c.place_functions.ensures.targets
    ∙ ap (λ b. c.clear.new.self.numbers ++ map address_of (begins b (forgets_of c.find_forgotten.new.sets)
    (flagged flags) 0 0 fs)) c.is_near_program-near.ensures ∙ ap (λ q. q.numbers ++ more) c.clear.ensures) in
    let words = (plan (forgets_of c.find_forgotten.new.sets) fs flags c.new-targets.result called
    c.requires.can_write.few targets).words in
    let few = words_few (forgets_of c.find_forgotten.new.sets) fs flags c.args.code.now.word_room called
    c.requires.word_room in
    let same = ap (λ v. v.word_room) c.code.view_is in
    omega (arith, words, few, same)

pub write_functions-requires-clause-few : goal.write_functions-requires-clause-few
write_functions-requires-clause-few c =
    let fs = c.args.funcs.now in
    let flags = c.as_slice-called.result.now in
    let called = flags_are fs flags (c.as_slice-called.ensures.value ∙ c.flag_called.ensures.flags) in
    let more = map address_of
    (begins (is_near_program fs) (forgets_of c.find_forgotten.new.sets) (flagged flags) 0 0 fs) in
    let targets = c.new-targets.ensures
    ∙ ap (λ q. record { near = q; addresses = c.as_slice.result.now }) c.is_near_program-near.ensures
    ∙ ap (λ q. record { near = is_near_program fs; addresses = q }) (c.as_slice.ensures
    ∙ ap (λ q. q.numbers) c.place_functions.ensures.targets
    ∙ ap (λ b. c.clear.new.self.numbers ++ map address_of (begins b (forgets_of c.find_forgotten.new.sets)
    (flagged flags) 0 0 fs)) c.is_near_program-near.ensures ∙ ap (λ q. q.numbers ++ more) c.clear.ensures) in
    let words = (plan (forgets_of c.find_forgotten.new.sets) fs flags c.new-targets.result called
    c.requires.can_write.few targets).words in
    let few = words_few (forgets_of c.find_forgotten.new.sets) fs flags 1048576 called c.requires.can_write.few in
    omega (arith, words, few)

pub returns : goal.returns
returns c =
    let fs = c.args.funcs.now in
    let flags = c.as_slice-called.result.now in
    let sets = c.find_forgotten.new.sets in
    let forgets = forgets_of sets in
    let called = flags_are fs flags (c.as_slice-called.ensures.value ∙ c.flag_called.ensures.flags) in
    let more = map address_of (begins (is_near_program fs) forgets (flagged flags) 0 0 fs) in
    let more_offsets = map offset_of (entries (is_near_program fs) forgets (flagged flags) 0 0 fs) in
    let targets = c.new-targets.ensures
    ∙ ap (λ q. record { near = q; addresses = c.as_slice.result.now }) c.is_near_program-near.ensures
    ∙ ap (λ q. record { near = is_near_program fs; addresses = q }) (c.as_slice.ensures
    ∙ ap (λ q. q.numbers) c.place_functions.ensures.targets
    ∙ ap (λ b. c.clear.new.self.numbers ++ map address_of (begins b (forgets_of c.find_forgotten.new.sets)
    (flagged flags) 0 0 fs)) c.is_near_program-near.ensures ∙ ap (λ q. q.numbers ++ more) c.clear.ensures) in
    let items = (plan forgets fs flags c.new-targets.result called c.requires.can_write.few targets).items in
    let written = rest_items (aimed c.new-targets.result) forgets (flagged flags) 0 fs in
    let no_words : c.code.inside.code.words ≡ [] = ap (λ v. v.words) c.code.view_is ∙ c.requires.no_words in
    let no_offsets : c.code.inside.offsets.numbers ≡ [] = ap (λ v. v.offsets) c.code.view_is ∙ c.requires.no_offsets in
    record {
      forgets = forgets;
      dead = c.find_forgotten.ensures.dead;
      closed = c.find_forgotten.ensures.closed;
      code = ap (λ q. q.words) c.write_functions.ensures.code ∙ ap (λ q. q ++ words_at (length q) written) no_words
          ∙ ap (words_at 0) items;
      fit = subst AllFit items c.write_functions.ensures.fit;
      entries = ap (λ q. q.numbers) c.place_functions.ensures.offsets
          ∙ ap (λ b. c.code.inside.offsets.numbers ++ map offset_of (entries b forgets (flagged flags) 0 0 fs))
          c.is_near_program-near.ensures ∙ ap (λ q. q ++ more_offsets) no_offsets
          ∙ offsets_are forgets fs flags called;
    }

pub invariant_of-code : goal.invariant_of-code
invariant_of-code c =
    let words = c.code.invariant.0 in
    let flags = c.code.invariant.1 in
    let sets_room = c.code.invariant.2 in
    let places = c.code.invariant.3 in
    let written = ap (λ q. q.room) c.write_functions.ensures.code in
    let kept = c.write_functions.ensures.kept in
    let kept2 = c.place_functions.ensures.kept in
    let capacity = c.flag_called.ensures.capacity in
    let sets_capacity = c.fill.ensures in
    let offsets = ap (λ q. q.room) c.place_functions.ensures.offsets in
    let fs = c.args.funcs.now in
    let called = flagged c.as_slice-called.result.now in
    let more = map address_of
    (begins c.is_near_program-near.result (forgets_of c.find_forgotten.new.sets) called 0 0 fs) in
    let room = ap (λ q. q.room) c.place_functions.ensures.targets in
    let long = ap (λ q. length q.numbers) c.place_functions.ensures.targets in
    let cleared = ap (λ q. q.room) c.clear.ensures in
    let none = ap (λ q. length (q.numbers ++ more)) c.clear.ensures in (
      omega (arith, words, written, kept, kept2),
      omega (arith, flags, capacity, offsets),
      omega (arith, sets_room, sets_capacity, offsets),
      omega (arith, places, room, long, cleared, none, offsets),
    )
