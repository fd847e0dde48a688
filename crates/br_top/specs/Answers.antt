-- What each answer of the top call says of its ends.
use Rattle.std.specs.Prelude.{ℕ, ◌≡◌, ◌+◌, ◌≤◌, List, length, Option, ◌⊎◌, String, IsTrue, IsFalse}
use Rattle.std.specs.declared.alloc.Global.{Global}
use Rattle.std.specs.Io.KnownBytes.{Consumes, IsAtEnd, Appends}
use Rattle.br_base.specs.Ends.{ConsumesMany, ConsumesAtMost}
use Rattle.br_image.specs.declared.images.Image.{Image}
use Rattle.br_image.specs.Printed.{image_text}
use Rattle.br_lightbulb_image.specs.Images.{IsFirmwareText, ImageStaysGood}
use Rattle.br_top.specs.declared.command.Command.{Command}
use Rattle.br_top.specs.declared.command.Command.TheVariants.{Compile}
use Rattle.br_top.specs.declared.trouble.Reason.{Reason}
use Rattle.br_top.specs.declared.trouble.Reason.TheVariants.{TooLong}
use Rattle.br_top.specs.Refusals.{reason_line}
use Rattle.br_top.specs.Commands.{AreWordsOf, reads_input, limit_of, Adds, Refuses}

-- The bytes that an end tells, before a call and after it, are written `before` and `after`.

-- a command's input was read to its end and these were all its bytes; a command
-- that does not read its input took none
pub record ReadsAll (command : Command) (before after : Option (List ℕ))
    (bytes : List ℕ) : Type 0 where
  pub taken : Consumes before after bytes
  pub end : IsTrue (reads_input command) → IsAtEnd after
  pub unread : IsFalse (reads_input command) → after ≡ before
  pub within : length bytes ≤ limit_of command

-- what was read of a command's input is refused for this reason: it was read to the byte after the
-- limit, or to its end, and the command refuses these bytes
abbrev pub ReadsRefused : Command → Option (List ℕ) → Option (List ℕ) → Reason → Type 0
ReadsRefused command before after reason =
    ((reason ≡ TooLong) × IsTrue (reads_input command)
    × ConsumesMany before after (limit_of command + 1))
    ⊎ ((bytes : List ℕ) × ReadsAll command before after bytes × Refuses command bytes reason)

-- nothing refuses an input of these bytes
abbrev pub IsUnrefused : Command → List ℕ → Type 0
IsUnrefused command bytes = (reason : Reason) → ¬ Refuses command bytes reason

-- the words are a command's, its input was read to its end if it reads it, nothing refuses its
-- bytes, and it adds this text for them
abbrev pub IsDueText : List (String Global) → Option (List ℕ) → Option (List ℕ) → List ℕ → Type 0
IsDueText words before after text =
    (command : Command) × (bytes : List ℕ) × AreWordsOf words command
    × ReadsAll command before after bytes
    × IsUnrefused command bytes × Adds command bytes text

-- An image was written for the bytes that `compile` read. Where these are a text of the firmware,
-- all that the image does stays in the firmware's trace language.
abbrev pub WritesGoodImage : (before after held held' : Option (List ℕ)) → Type 0
WritesGoodImage before after held held' =
    (bytes : List ℕ) × (image : Image) × ReadsAll Compile before after bytes
    × Appends held held' (image_text image)
    × (IsFirmwareText bytes → ImageStaysGood image)

-- the words are a command's, what was read of its input is refused, and this line says why
abbrev pub IsDueLine : List (String Global) → Option (List ℕ) → Option (List ℕ) → List ℕ → Type 0
IsDueLine words before after line =
    (command : Command) × (reason : Reason) × AreWordsOf words command
    × ReadsRefused command before after reason × (line ≡ reason_line reason)

-- the words are a command's that reads its input, and no more
-- bytes were taken than it reads at most
abbrev pub FailsWithin : List (String Global) → Option (List ℕ) → Option (List ℕ) → Type 0
FailsWithin words before after =
    (command : Command) × AreWordsOf words command × IsTrue (reads_input command)
    × ConsumesAtMost before after (limit_of command)

-- the words are a command's, and at most one byte more was taken than it reads at most
abbrev pub StopsWithin : List (String Global) → Option (List ℕ) → Option (List ℕ) → Type 0
StopsWithin words before after =
    (command : Command) × AreWordsOf words command
    × ConsumesAtMost before after (limit_of command + 1)
