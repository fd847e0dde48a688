-- What stands for each reason that a part of the work gives.
use Rattle.std.specs.Prelude.{⊤}
use Rattle.br_base.specs.declared.source.ReadEnd.{ReadEnd}
use Rattle.br_base.specs.declared.source.ReadEnd.TheVariants.{Memory as NoRoom, Failed}
use Rattle.br_base.specs.declared.source.ReadEnd.TheVariants.{TooLong as TooMuch}
use Rattle.br_base.specs.declared.failure.OrMemory.{OrMemory}
use Rattle.br_base.specs.declared.failure.OrMemory.TheVariants.{Memory as Wanting, Fault}
use Rattle.br_sexpr.specs.declared.tree.TextFault.{TextFault}
use Rattle.br_syntax.specs.declared.faults.ShapeFault.{ShapeFault}
use Rattle.br_measure.specs.declared.faults.NameFault.{NameFault}
use Rattle.br_image.specs.declared.faults.ImageFault.{ImageFault}
use Rattle.br_image.specs.declared.scripts.values.ScriptFault.{ScriptFault}
use Rattle.br_image.specs.declared.traces.reading.TraceFault.{TraceFault}
use Rattle.br_compile.specs.declared.refusal.Refusal.{Refusal}
use Rattle.br_compile.specs.declared.refusal.Refusal.TheVariants.{Text, Shape, Names}
use Rattle.br_top.specs.declared.trouble.Reason.{Reason}
use Rattle.br_top.specs.declared.trouble.Reason.TheVariants.{TooLong, Source, Image, Script, Trace}
use Rattle.br_top.specs.declared.trouble.Trouble.{Trouble}
use Rattle.br_top.specs.declared.trouble.Trouble.TheVariants.{Memory, ReadFault, Refused}

abbrev pub trouble_of_end : ReadEnd → Trouble
trouble_of_end NoRoom = Memory
trouble_of_end Failed = ReadFault
trouble_of_end TooMuch = Refused TooLong

-- want of memory, or a fault that gives this reason
abbrev pub trouble_of : {F : Type 0} → (F → Reason) → OrMemory F → Trouble
trouble_of reason Wanting = Memory
trouble_of reason (Fault fault) = Refused (reason fault)

abbrev pub source_reason : Refusal → Reason
source_reason refusal = Source refusal

abbrev pub text_reason : TextFault → Reason
text_reason fault = Source (Text fault)

abbrev pub shape_reason : ShapeFault → Reason
shape_reason fault = Source (Shape fault)

abbrev pub name_reason : NameFault → Reason
name_reason fault = Source (Names fault)

abbrev pub image_reason : ImageFault → Reason
image_reason fault = Image fault

abbrev pub script_reason : ScriptFault → Reason
script_reason fault = Script fault

abbrev pub trace_reason : TraceFault → Reason
trace_reason fault = Trace fault

-- work that reads nothing stopped for want of memory, or it
-- refuses for a reason of which this holds
abbrev pub IsRefusedFor : (Reason → Type 0) → Trouble → Type 0
IsRefusedFor P Memory = ⊤
IsRefusedFor P ReadFault = ⊥
IsRefusedFor P (Refused reason) = P reason
