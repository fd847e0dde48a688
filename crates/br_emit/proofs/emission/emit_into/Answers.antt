use Rattle.std.proofs.Common.{length, refl, ap, subst, ◌∙◌}
use Rattle.br_emit.specs.Emitted.{entries_of}
use Rattle.br_emit.specs.Registers.{IsWritten}
use Rattle.br_emit.proofs.Imaged.{can_write, offsets_long, offsets_inside, described, code_most, code_is, shows}
use Rattle.br_emit.proofs.emission.emit_into.Goals as goal

pub write_into-requires-clause-can_write : goal.write_into-requires-clause-can_write
write_into-requires-clause-can_write c =
    rw c.as_slice.ensures (can_write c.args.p.now.funcs c.args.needs.now c.args.code.now.word_room
    c.requires.register_form c.requires.needs c.requires.stack c.requires.size c.requires.word_room)

pub returns-clause-count : goal.returns-clause-count
returns-clause-count c =
    let fs = c.args.p.now.funcs in
    let is = subst (λ q. IsWritten q c.write_into.new.code.words c.write_into.new.code.offsets) c.as_slice.ensures
    c.write_into.ensures in
    ap length is.entries ∙ offsets_long is.forgets fs

pub returns-clause-offsets : goal.returns-clause-offsets
returns-clause-offsets c =
    let fs = c.args.p.now.funcs in
    let is = subst (λ q. IsWritten q c.write_into.new.code.words c.write_into.new.code.offsets) c.as_slice.ensures
    c.write_into.ensures in
    offsets_inside is.forgets fs c.write_into.new.code.offsets c.write_into.new.code.words is.code is.entries

pub returns-clause-entries : goal.returns-clause-entries
returns-clause-entries c =
    let fs = c.args.p.now.funcs in
    let ns = c.args.needs.now in
    described fs c.write_into.new.code.offsets ns (entries_of c.write_into.new.code.offsets ns 0 fs)
    c.requires.needs refl

pub returns-clause-words : goal.returns-clause-words
returns-clause-words c =
    let fs = c.args.p.now.funcs in
    let is = subst (λ q. IsWritten q c.write_into.new.code.words c.write_into.new.code.offsets) c.as_slice.ensures
    c.write_into.ensures in
    code_most is.forgets fs c.write_into.new.code.words is.code

pub returns-clause-shows : goal.returns-clause-shows
returns-clause-shows c =
    let fs = c.args.p.now.funcs in
    let ns = c.args.needs.now in
    let code = c.write_into.new.code.words in
    let is = subst (λ q. IsWritten q code c.write_into.new.code.offsets) c.as_slice.ensures c.write_into.ensures in
    let laid = code_is is.forgets fs ns code is.dead is.closed c.requires.register_form c.requires.needs
    c.requires.stack c.requires.size is.code is.fit in
    shows is.forgets fs ns code (entries_of c.write_into.new.code.offsets ns 0 fs) c.code_shows_its_program.ensures laid
    c.requires.needs c.requires.stack (ap (λ q. entries_of q ns 0 fs) is.entries)
