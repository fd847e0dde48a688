use Rattle.std.proofs.Common.{ℕ, List, sym, subst, ◌∙◌}
use Rattle.std.proofs.lemmas.List.{take_rest}
use Rattle.std.proofs.lemmas.Result.{err_from_is_err_and}
use Rattle.br_image.specs.Faults.{IsFault}
use Rattle.br_base.specs.Faults.{IfFault}
use Rattle.br_top.proofs.OneRun.{image_refused, entry_refused}
use Rattle.br_top.proofs.runs.run_output.Goals as goal

pub returns-in_err-image-clause-refused : goal.returns-in_err-image-clause-refused
returns-in_err-image-clause-refused c =
    let p = err_from_is_err_and c.from_residual-in_err-image.result c.from_residual-in_err-image.ensures.1 in
    let P : List ℕ → Type 0 = λ rest. IfFault c.in_err-image.field-0.0 (IsFault rest) in
    let faulty = subst P (take_rest c.args.bytes.now c.in_ok-script.at) c.in_err-image.ensures.refused in
    rw (p.1, p.2) (image_refused c.args.bytes.now c.in_ok-script.script c.in_ok-script.at c.in_ok-script.ensures.script
    c.in_err-image.field-0.0 faulty)

pub returns-in_err-entry-clause-refused : goal.returns-in_err-entry-clause-refused
returns-in_err-entry-clause-refused c =
    let p = err_from_is_err_and c.from_residual-in_err-entry.result c.from_residual-in_err-entry.ensures.1 in
    let read = sym (take_rest c.args.bytes.now c.in_ok-script.at) ∙ c.in_ok-image.ensures.image in
    rw (p.1, p.2) (entry_refused c.args.bytes.now c.in_ok-script.script c.in_ok-image.image
    (record { at = c.in_ok-script.at; scripted = c.in_ok-script.ensures.script; read = read })
    c.in_err-entry.field-0.0 c.in_err-entry.ensures.refused)

pub returns-clause-made : goal.returns-clause-made
returns-clause-made c =
    let read = sym (take_rest c.args.bytes.now c.in_ok-script.at) ∙ c.in_ok-image.ensures.image in record {
      script = c.in_ok-script.script;
      image = c.in_ok-image.image;
      entry = c.in_ok-entry.entry.now;
      holds = record { at = c.in_ok-script.at; scripted = c.in_ok-script.ensures.script; read = read };
      named = c.in_ok-entry.ensures.named;
      counted = c.in_ok-entry.ensures.counted;
      shown = c.in_ok-run_text.ensures;
    }

-- what the run adds a text for is not refused
pub returns-clause-unrefused : goal.returns-clause-unrefused
returns-clause-unrefused c =
    c.runs_are_unrefused.ensures c.args.bytes.now c.in_ok-run_text.field-0.items c.requires (returns-clause-made c)
