use Rattle.std.proofs.Common.{◌^◌, ◌<◌, ◌≤◌, length, sym, ap, subst, ◌∙◌, arith}
use Rattle.std.specs.Prelude.{All}
use Rattle.std.specs.List.{AllByRecursion}
use Rattle.br_base.specs.Name.{IsName}
use Rattle.br_flatimp.specs.Sizes.{flat_bulk}
use Rattle.br_emit.specs.Emitted.{AllDescribed, IsOffset, ShowsProgram, entries_of}
use Rattle.br_emit.proofs.Imaged.{have_few_names, in_limits}
use Rattle.br_emit.proofs.emission.emit.Goals as goal

pub buffer_for-requires : goal.buffer_for-requires
buffer_for-requires c = rw c.as_slice-funcs.ensures c.requires.size

pub emit_into-requires-clause-word_room : goal.emit_into-requires-clause-word_room
emit_into-requires-clause-word_room c =
    subst (λ fs. flat_bulk fs ≤ c.in_ok-code.code.word_room) c.as_slice-funcs.ensures c.in_ok-code.ensures.word_room

pub emit_into-requires-clause-function_room : goal.emit_into-requires-clause-function_room
emit_into-requires-clause-function_room c = subst (λ fs. length fs ≤ c.in_ok-code.code.function_room)
    c.as_slice-funcs.ensures c.in_ok-code.ensures.function_room

pub entries-requires-clause-offsets : goal.entries-requires-clause-offsets
entries-requires-clause-offsets c =
    ap length c.offsets.ensures ∙ c.emit_into.ensures.count ∙ ap length (sym c.as_slice-funcs.ensures)

pub entries-requires-clause-needs : goal.entries-requires-clause-needs
entries-requires-clause-needs c = c.requires.needs.count ∙ ap length (sym c.as_slice-funcs.ensures)

pub entries-requires-clause-counts : goal.entries-requires-clause-counts
entries-requires-clause-counts c =
    rw c.as_slice-funcs.ensures (have_few_names c.args.p.now.funcs c.requires.register_form)

pub invariant_of-result : goal.invariant_of-result
invariant_of-result c =
    let fs = c.args.p.now.funcs in
    let ns = c.args.needs.now in
    let offsets = c.emit_into.new.code.offsets in
    let code = c.into_words-words.result in
    let same = c.into_words-words.ensures.value in
    let few = c.emit_into.ensures.words in
    let fit = c.requires.size in
    let long = ap length same in
    record {
      in_limits = in_limits fs ns offsets code c.in_ok-entries.entries c.requires.register_form c.requires.needs
          c.requires.stack (omega (arith, few, fit, long))
          (subst (All (λ w. w < 2 ^ 32)) (sym same) c.into_words-words.ensures.words) c.emit_into.ensures.count
          (subst (λ q. All (IsOffset (length q)) offsets) (sym same) c.emit_into.ensures.offsets)
          (subst (AllByRecursion (λ f. IsName f.name)) c.as_slice-funcs.ensures c.in_ok-entries.ensures.names)
          (c.in_ok-entries.ensures.entries ∙ ap (λ q. entries_of q ns 0 c.as_slice-funcs.result.now) c.offsets.ensures
          ∙ ap (entries_of offsets ns 0) c.as_slice-funcs.ensures);
    }

pub returns-clause-entries : goal.returns-clause-entries
returns-clause-entries c =
    let fs = c.args.p.now.funcs in
    let ns = c.args.needs.now in
    let offsets = c.emit_into.new.code.offsets in
    let entries = c.in_ok-entries.ensures.entries
    ∙ ap (λ q. entries_of q ns 0 c.as_slice-funcs.result.now) c.offsets.ensures
    ∙ ap (entries_of offsets ns 0) c.as_slice-funcs.ensures in
    subst (AllDescribed fs ns) (sym entries) c.emit_into.ensures.entries

pub returns-clause-words : goal.returns-clause-words
returns-clause-words c =
    let few = c.emit_into.ensures.words in
    let long = ap length c.into_words-words.ensures.value in
    omega (arith, few, long)

pub returns-clause-shows : goal.returns-clause-shows
returns-clause-shows c =
    let fs = c.args.p.now.funcs in
    let ns = c.args.needs.now in
    let offsets = c.emit_into.new.code.offsets in
    let entries = c.in_ok-entries.ensures.entries
    ∙ ap (λ q. entries_of q ns 0 c.as_slice-funcs.result.now) c.offsets.ensures
    ∙ ap (entries_of offsets ns 0) c.as_slice-funcs.ensures in
    subst (ShowsProgram fs c.in_ok-entries.entries) (sym c.into_words-words.ensures.value)
    (subst (λ es. ShowsProgram fs es c.emit_into.new.code.words) (sym entries) c.emit_into.ensures.shows)
