-- The line on standard error for each refusal.
use Rattle.std.specs.Prelude.{ℕ, List, [], ◌∷◌, ◌++◌, codes}
use Rattle.std.specs.List.{flat_map}
use Rattle.std.specs.Fmt.{decimal}
use Rattle.br_sexpr.specs.declared.tree.TextFault.{TextFault}
use Rattle.br_sexpr.specs.declared.tree.TextFault.TheVariants.{BadByte, BadNumber}
use Rattle.br_sexpr.specs.declared.tree.TextFault.TheVariants.{ExtraClose, Unclosed, TooDeep}
use Rattle.br_syntax.specs.declared.faults.ShapeFault.{ShapeFault}
use Rattle.br_syntax.specs.declared.faults.ShapeFault.TheVariants.{BadForm, BadSize, BadByteValue}
use Rattle.br_syntax.specs.declared.faults.ShapeFault.TheVariants.{TooMany, Repeated}
use Rattle.br_measure.specs.declared.faults.NameFault.{NameFault}
use Rattle.br_measure.specs.declared.faults.NameFault.TheVariants.{DuplicateFunction}
use Rattle.br_measure.specs.declared.faults.NameFault.TheVariants.{UnknownFunction}
use Rattle.br_measure.specs.declared.faults.NameFault.TheVariants.{WrongArguments, WrongResults}
use Rattle.br_measure.specs.declared.faults.NameFault.TheVariants.{UnknownAction, TooLarge}
use Rattle.br_measure.specs.declared.faults.NameFault.TheVariants.{Recursion, StackTooDeep}
use Rattle.br_compile.specs.declared.refusal.Refusal.{Refusal}
use Rattle.br_compile.specs.declared.refusal.Refusal.TheVariants.{InputTooLong, Text, Shape, Names}
use Rattle.br_image.specs.declared.faults.ImageFault.{ImageFault}
use Rattle.br_image.specs.declared.faults.ImageFault.TheVariants.{BadLine, BadOrder}
use Rattle.br_image.specs.declared.faults.ImageFault.TheVariants.{BadOffset, Truncated}
use Rattle.br_image.specs.declared.scripts.values.ScriptFault.{ScriptFault}
use Rattle.br_image.specs.declared.scripts.values.ScriptFault.TheVariants.{BadScriptLine}
use Rattle.br_image.specs.declared.scripts.values.ScriptFault.TheVariants.{ScriptEnds}
use Rattle.br_image.specs.declared.traces.reading.TraceFault.{TraceFault}
use Rattle.br_image.specs.declared.traces.reading.TraceFault.TheVariants.{BadTraceLine}
use Rattle.br_top.specs.declared.trouble.Reason.{Reason}
use Rattle.br_top.specs.declared.trouble.Reason.TheVariants.{TooLong, Source, Image, Script}
use Rattle.br_top.specs.declared.trouble.Reason.TheVariants.{TextTooLong, UnknownEntry}
use Rattle.br_top.specs.declared.trouble.Reason.TheVariants.{WrongCount, Trace}
use Rattle.br_top.specs.Lines.{error_line}

-- each number in decimal, after one space
abbrev pub number_fields : List ℕ → List ℕ
number_fields numbers = flat_map (λ n. 32 ∷ decimal n) numbers

-- the name of a refusal's kind, and its numbers
abbrev pub refused_line : List ℕ → List ℕ → List ℕ
refused_line kind numbers = error_line (codes "refused " ++ kind ++ number_fields numbers)

abbrev pub text_fault_line : TextFault → List ℕ
text_fault_line (BadByte at) = refused_line (codes "BadByte") (at ∷ [])
text_fault_line (BadNumber at) = refused_line (codes "BadNumber") (at ∷ [])
text_fault_line (ExtraClose at) = refused_line (codes "ExtraClose") (at ∷ [])
text_fault_line (Unclosed at) = refused_line (codes "Unclosed") (at ∷ [])
text_fault_line (TooDeep at) = refused_line (codes "TooDeep") (at ∷ [])

abbrev pub shape_fault_line : ShapeFault → List ℕ
shape_fault_line (BadForm at) = refused_line (codes "BadForm") (at ∷ [])
shape_fault_line (BadSize at) = refused_line (codes "BadSize") (at ∷ [])
shape_fault_line (BadByteValue at) = refused_line (codes "BadByteValue") (at ∷ [])
shape_fault_line (TooMany at) = refused_line (codes "TooMany") (at ∷ [])
shape_fault_line (Repeated at) = refused_line (codes "Repeated") (at ∷ [])

abbrev pub name_fault_line : NameFault → List ℕ
name_fault_line (DuplicateFunction at) = refused_line (codes "DuplicateFunction") (at ∷ [])
name_fault_line (UnknownFunction at) = refused_line (codes "UnknownFunction") (at ∷ [])
name_fault_line (WrongArguments at) = refused_line (codes "WrongArguments") (at ∷ [])
name_fault_line (WrongResults at) = refused_line (codes "WrongResults") (at ∷ [])
name_fault_line (UnknownAction at) = refused_line (codes "UnknownAction") (at ∷ [])
name_fault_line (TooLarge bulk) = refused_line (codes "TooLarge") (bulk ∷ [])
name_fault_line (Recursion function) = refused_line (codes "Recursion") (function ∷ [])
name_fault_line (StackTooDeep function measure) =
    refused_line (codes "StackTooDeep") (function ∷ measure ∷ [])

abbrev pub refusal_line : Refusal → List ℕ
refusal_line InputTooLong = refused_line (codes "InputTooLong") []
refusal_line (Text fault) = text_fault_line fault
refusal_line (Shape fault) = shape_fault_line fault
refusal_line (Names fault) = name_fault_line fault

abbrev pub image_fault_line : ImageFault → List ℕ
image_fault_line (BadLine n) = refused_line (codes "BadLine") (n ∷ [])
image_fault_line (BadOrder n) = refused_line (codes "BadOrder") (n ∷ [])
image_fault_line (BadOffset n) = refused_line (codes "BadOffset") (n ∷ [])
image_fault_line (Truncated n) = refused_line (codes "Truncated") (n ∷ [])

abbrev pub script_fault_line : ScriptFault → List ℕ
script_fault_line (BadScriptLine n) = refused_line (codes "BadScriptLine") (n ∷ [])
script_fault_line (ScriptEnds n) = refused_line (codes "ScriptEnds") (n ∷ [])

abbrev pub trace_fault_line : TraceFault → List ℕ
trace_fault_line (BadTraceLine n) = refused_line (codes "BadTraceLine") (n ∷ [])

abbrev pub reason_line : Reason → List ℕ
reason_line TooLong = refused_line (codes "InputTooLong") []
reason_line (Source refusal) = refusal_line refusal
reason_line (Image fault) = image_fault_line fault
reason_line (Script fault) = script_fault_line fault
reason_line TextTooLong = refused_line (codes "TextTooLong") []
reason_line UnknownEntry = refused_line (codes "UnknownEntry") []
reason_line (WrongCount count) = refused_line (codes "WrongCount") (count ∷ [])
reason_line (Trace fault) = trace_fault_line fault
