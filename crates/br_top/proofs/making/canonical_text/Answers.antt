use Rattle.std.proofs.Common.{◌≡◌, ◌≤◌, ℕ, List, length, subst, arith}
use Rattle.br_sexpr.specs.declared.tree.Tree.{Tree}
use Rattle.br_sexpr.specs.declared.tree.TextFault.{TextFault}
use Rattle.br_sexpr.specs.Reads.{Reads, HasFault}
use Rattle.br_syntax.specs.declared.program.Func.{Func}
use Rattle.br_syntax.specs.Denotes.{Denotes}
use Rattle.br_compile.specs.declared.refusal.Refusal.TheVariants.{InputTooLong, Text, Shape, Names}
use Rattle.br_top.specs.declared.command.Command.TheVariants.{Print}
use Rattle.br_top.specs.declared.trouble.Reason.TheVariants.{TooLong, Source, Image, Script, TextTooLong}
use Rattle.br_top.specs.declared.trouble.Reason.TheVariants.{UnknownEntry, WrongCount, Trace}
use Rattle.br_top.specs.Answers.{IsUnrefused}
use Rattle.br_top.proofs.making.canonical_text.Goals as goal

-- one text is not read and faulty at once
NotBoth : Type 0
NotBoth = (text : List ℕ) (trees : List Tree) (f : TextFault) → Reads text trees → HasFault text f → ⊥

-- one text is read in one way
OneReading : Type 0
OneReading = (text : List ℕ) (ts us : List Tree) → Reads text ts → Reads text us → ts ≡ us

unrefused : NotBoth → OneReading → (bytes : List ℕ) (trees : List Tree) (program : List Func) →
    length bytes ≤ 1048576 → Reads bytes trees → Denotes trees program → IsUnrefused Print bytes
unfolding NotBoth OneReading
unrefused not_both one bytes trees program short read denoted TooLong long = omega (arith, short, long)
unrefused not_both one bytes trees program short read denoted (Source InputTooLong) refused = absurd refused.1
unrefused not_both one bytes trees program short read denoted (Source (Text fault)) refused =
    not_both bytes trees fault read refused.0.1
unrefused not_both one bytes trees program short read denoted (Source (Shape fault)) refused =
    let same = one bytes trees refused.0.1 read refused.0.2 in
    let right = subst (λ (ts : List Tree). Denotes ts program) same denoted in
    let wrong = refused.0.3 in
    cc
unrefused not_both one bytes trees program short read denoted (Source (Names fault)) refused = absurd refused.1
unrefused not_both one bytes trees program short read denoted (Image fault) refused = refused
unrefused not_both one bytes trees program short read denoted (Script fault) refused = refused
unrefused not_both one bytes trees program short read denoted TextTooLong refused = refused
unrefused not_both one bytes trees program short read denoted UnknownEntry refused = refused
unrefused not_both one bytes trees program short read denoted (WrongCount count) refused = refused
unrefused not_both one bytes trees program short read denoted (Trace fault) refused = refused

-- what is read as trees that stand for a program has no fault of the text or of its shape
pub returns-clause-unrefused : goal.returns-clause-unrefused
unfolding NotBoth OneReading
returns-clause-unrefused c =
    let laws = c.one_answer.ensures in
    let same = c.as_slice.ensures in
    let P : List Tree → Type 0 = λ ts. Denotes ts c.in_ok-_program._program.funcs in
    unrefused laws.not_both laws.one_reading c.args.bytes.now c.in_ok-trees.trees c.in_ok-_program._program.funcs
    c.requires c.in_ok-trees.ensures.trees (subst P same c.in_ok-_program.ensures.denotes)
