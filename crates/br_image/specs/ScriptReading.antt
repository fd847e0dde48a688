-- How far the reading of a script has come.
use Rattle.std.specs.Prelude.{ℕ, ◌≡◌, ◌≢◌, ◌⊎◌, List, [], ◌∷◌, Option, Some, None}
use Rattle.br_image.specs.declared.scripts.lines.Form.{Form}
use Rattle.br_image.specs.declared.scripts.lines.ScriptLine.{ScriptLine}
use Rattle.br_image.specs.declared.scripts.order.Part.{Part}
use Rattle.br_image.specs.declared.scripts.order.Part.TheVariants.{One, Many}
use Rattle.br_image.specs.ScriptLines.{form_of, tail_of, script_line_text, IsScriptLine}

-- the line of a form that has this after its first word, if there is one
abbrev pub IsContent : Form → List ℕ → Option ScriptLine → Type 0
IsContent f tail (Some l) = (form_of l ≡ f) × IsScriptLine l × (tail ≡ tail_of l)
IsContent f tail None = (l : ScriptLine) → form_of l ≡ f → IsScriptLine l → tail ≢ tail_of l

-- the line that some bytes are, if they are one
abbrev pub IsScriptLineOf : List ℕ → Option ScriptLine → Type 0
IsScriptLineOf bytes (Some l) = IsScriptLine l × (bytes ≡ script_line_text l)
IsScriptLineOf bytes None = (l : ScriptLine) → IsScriptLine l → bytes ≢ script_line_text l

-- the parts that may come after a line of this form, where the
-- first of them or a later one takes it
abbrev pub Leaves : List Part → Form → List Part → Type 0
Leaves [] f left = ⊥
Leaves (One own ∷ parts) f left = (own ≡ f) × (left ≡ parts)
Leaves (Many own ∷ parts) f left =
    ((own ≡ f) × (left ≡ Many own ∷ parts)) ⊎ ((own ≢ f) × Leaves parts f left)
