use Rattle.std.proofs.Common.{◌≡◌, ℕ, List, ◌∙◌, ap}
use Rattle.std.proofs.lemmas.Result.{IfOk-weaker}
use Rattle.br_sexpr.specs.declared.tree.Tree.{Tree}
use Rattle.br_sexpr.specs.Canonical.{canonical}
use Rattle.br_syntax.specs.declared.program.Func.{Func}
use Rattle.br_syntax.specs.Denotes.{Denotes}
use Rattle.br_syntax.specs.Offsets.{without_offsets, IsEqualUpToOffsets}
use Rattle.br_lightbulb.specs.Firmware.{IsFirmware}
use Rattle.br_top.specs.Commands.{AddsFirmware}
use Rattle.br_top.proofs.making.firmware_text.Goals as goal

-- the trees stand for the firmware without its offsets
made : (text : List ℕ) (trees printed_trees : List Tree) (funcs : List Func) →
    IsFirmware funcs → IsEqualUpToOffsets (without_offsets funcs) funcs → Denotes trees (without_offsets funcs) →
    printed_trees ≡ trees → text ≡ canonical printed_trees → AddsFirmware text
made text trees printed_trees funcs exact equal denoted same printed = record {
  trees = trees;
  program = without_offsets funcs;
  denoted = denoted;
  firmware = (funcs, exact, equal);
  printed = printed ∙ ap canonical same;
}

pub returns : goal.returns
returns c =
    let funcs = c.in_ok-program.field-0.funcs in
    IfOk-weaker c.print.result (λ text. text.items ≡ canonical c.as_slice.result.now) (λ text. AddsFirmware text.items)
    (λ text printed. made text.items c.in_ok-functions.functions c.as_slice.result.now funcs c.in_ok-program.ensures
    (c.offsets_left_out.ensures funcs) c.in_ok-functions.ensures.denotes c.as_slice.ensures printed) c.print.ensures
