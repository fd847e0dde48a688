-- The image that `compile` writes for the firmware.
use Rattle.std.proofs.Common.{◌≡◌, ℕ, List, Option, sym, subst, ◌∙◌}
use Rattle.std.specs.Io.KnownBytes.{Appends}
use Rattle.br_syntax.specs.declared.program.Func.{Func}
use Rattle.br_image.specs.declared.images.Image.{Image}
use Rattle.br_compile.specs.Refusal.{Accepts}
use Rattle.br_compile.specs.Implements.{Implements}
use Rattle.br_lightbulb_image.specs.Images.{IsFirmwareText, ImageStaysGood}
use Rattle.br_top.specs.declared.command.Command.{Command}
use Rattle.br_top.specs.declared.command.Command.TheVariants.{Compile}
use Rattle.br_top.specs.Commands.{Adds, AddsImage}
use Rattle.br_top.specs.Answers.{ReadsAll, WritesGoodImage}

-- what br_lightbulb_image says of images of the firmware
abbrev pub ImagesStayGood : Type 0
ImagesStayGood = (text : List ℕ) (fs : List Func) (image : Image)
    → Accepts text fs → Implements image fs → IsFirmwareText text → ImageStaysGood image

-- the text that was written is that of an image of the text that was read
pub writes_good_image : ImagesStayGood → (command : Command) → Compile ≡ command
    → (before after held held' : Option (List ℕ)) (bytes text written : List ℕ)
    → ReadsAll command before after bytes → Adds command bytes text
    → written ≡ text → Appends held held' written → WritesGoodImage before after held held'
writes_good_image law command same before after held held' bytes text written reads adds is gained =
    let added : AddsImage bytes text = subst (λ (k : Command). Adds k bytes text) (sym same) adds in (
      bytes,
      added.image,
      subst (λ (k : Command). ReadsAll k before after bytes) (sym same) reads,
      subst (Appends held held') (is ∙ added.printed) gained,
      law bytes added.program added.image added.accepted added.implemented,
    )
