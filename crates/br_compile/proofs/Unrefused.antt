-- A text is accepted or has a fault, and never both.
use Rattle.std.proofs.Common.{◌≡◌, ℕ, ◌≤◌, ◌⊎◌, inl, inr, Bool, true, false, ltb}
use Rattle.std.proofs.Common.{List, length, Ok, Err, refl, sym, ap, subst, ◌∙◌, arith}
use Rattle.std.proofs.lemmas.Bool.{ltb-true, ltb-false}
use Rattle.br_sexpr.specs.declared.tree.Tree.{Tree}
use Rattle.br_sexpr.specs.declared.tree.TextFault.{TextFault}
use Rattle.br_sexpr.specs.Reads.{most_bytes, Reads, HasFault}
use Rattle.br_syntax.specs.declared.program.Func.{Func}
use Rattle.br_syntax.specs.declared.faults.ShapeFault.{ShapeFault}
use Rattle.br_syntax.specs.Denotes.{functions, Denotes, IsShapeFault}
use Rattle.br_syntax.specs.Laws.{HasMeaning}
use Rattle.br_measure.specs.declared.faults.NameFault.{NameFault}
use Rattle.br_measure.specs.Faults.{IsFault, IsSound}
use Rattle.br_compile.specs.declared.refusal.Refusal.{Refusal}
use Rattle.br_compile.specs.declared.refusal.Refusal.TheVariants as refusal
use Rattle.br_compile.specs.Refusal.{Accepts, IsFaultOf}

-- what the crates below say of texts and programs
pub record Laws : Type 0 where
  pub one_reading : (text : List ℕ) (ts us : List Tree) → Reads text ts → Reads text us → ts ≡ us
  pub not_both : (text : List ℕ) (trees : List Tree) (f : TextFault) → Reads text trees → HasFault text f → ⊥
  pub sound : (fs : List Func) (fault : NameFault) → IsSound fs → IsFault fs fault → ⊥

-- what they say of the answer that each has
pub record Answers : Type 0 where
  pub laws : Laws
  pub read_or_fault : (text : List ℕ) → ((trees : List Tree) × Reads text trees) ⊎ ((f : TextFault) × HasFault text f)
  pub one_text_fault : (text : List ℕ) (f g : TextFault) → HasFault text f → HasFault text g → f ≡ g
  pub program_or_fault : (trees : List Tree) → HasMeaning trees
  pub sound_or_fault : (fs : List Func) → IsSound fs ⊎ ((fault : NameFault) × IsFault fs fault)
  pub one_name_fault : (fs : List Func) (f g : NameFault) → IsFault fs f → IsFault fs g → f ≡ g

-- trees stand for one program
one_program : (ts us : List Tree) (fs gs : List Func) → ts ≡ us → Denotes ts fs → Denotes us gs → gs ≡ fs
one_program ts us fs gs same df dg = let both : Ok gs ≡ Ok fs = sym dg ∙ ap functions (sym same) ∙ df in cc

pub one_accepted : Laws → (text : List ℕ) (fs gs : List Func) → Accepts text fs → Accepts text gs → fs ≡ gs
one_accepted laws text fs gs ((l, ts, reads, denotes), sound) ((m, us, reads', denotes'), sound') =
    sym (one_program ts us fs gs (laws.one_reading text ts us reads reads') denotes denotes')

-- an accepted text has no fault
pub accepted_has_no_fault : Laws → (text : List ℕ) (fs : List Func) (r : Refusal) → Accepts text fs
    → IsFaultOf text r → ⊥
accepted_has_no_fault laws text fs refusal.InputTooLong ((l, ts, reads, denotes), sound) is = omega arith
accepted_has_no_fault laws text fs (refusal.Text f) ((l, ts, reads, denotes), sound) (m, fault) =
    laws.not_both text ts f reads fault
accepted_has_no_fault laws text fs (refusal.Shape f) ((l, ts, reads, denotes), sound) (m, us, reads', shape) =
    let both : Ok fs ≡ Err f = sym denotes ∙ ap functions (laws.one_reading text ts us reads reads') ∙ shape in cc
accepted_has_no_fault laws text fs (refusal.Names f) ((l, ts, reads, denotes), sound)
    (gs, (m, us, reads', denotes'), fault) =
    laws.sound fs f sound (subst (λ x. IsFault x f)
    (one_program ts us fs gs (laws.one_reading text ts us reads reads') denotes denotes') fault)

-- each text is accepted or has a fault
pub accepted_or_fault : Answers → (text : List ℕ)
    → ((fs : List Func) × Accepts text fs) ⊎ ((r : Refusal) × IsFaultOf text r)
accepted_or_fault answers text = by_length (ltb 1048576 (length text)) refl
  where
    by_soundness : (trees : List Tree) (fs : List Func) → length text ≤ most_bytes → Reads text trees → Denotes trees fs
        → IsSound fs ⊎ ((fault : NameFault) × IsFault fs fault)
        → ((gs : List Func) × Accepts text gs) ⊎ ((r : Refusal) × IsFaultOf text r)
    by_soundness trees fs short reads denotes (inl sound) = inl (fs, ((short, trees, reads, denotes), sound))
    by_soundness trees fs short reads denotes (inr (fault, is)) =
        inr (refusal.Names fault, (fs, (short, trees, reads, denotes), is))

    by_meaning : (trees : List Tree) → length text ≤ most_bytes → Reads text trees → HasMeaning trees
        → ((fs : List Func) × Accepts text fs) ⊎ ((r : Refusal) × IsFaultOf text r)
    by_meaning trees short reads (inl (fs, denotes)) =
        by_soundness trees fs short reads denotes (answers.sound_or_fault fs)
    by_meaning trees short reads (inr (fault, is)) = inr (refusal.Shape fault, (short, trees, reads, is))

    by_reading : length text ≤ most_bytes → ((trees : List Tree) × Reads text trees) ⊎ ((f : TextFault)
        × HasFault text f) → ((fs : List Func) × Accepts text fs) ⊎ ((r : Refusal) × IsFaultOf text r)
    by_reading short (inl (trees, reads)) = by_meaning trees short reads (answers.program_or_fault trees)
    by_reading short (inr (fault, is)) = inr (refusal.Text fault, (short, is))

    by_length : (b : Bool) → ltb 1048576 (length text) ≡ b
        → ((fs : List Func) × Accepts text fs) ⊎ ((r : Refusal) × IsFaultOf text r)
    by_length true is = inr (refusal.InputTooLong, ltb-true 1048576 (length text) is)
    by_length false is = by_reading (ltb-false 1048576 (length text) is) (answers.read_or_fault text)

-- the lowest faults of shape in trees are one
one_shape : (ts us : List Tree) (f g : ShapeFault) → ts ≡ us → IsShapeFault ts f → IsShapeFault us g → f ≡ g
one_shape ts us f g same df dg = let both : Err f ≡ Err g = sym df ∙ ap functions same ∙ dg in cc

-- each text has at most one fault
pub one_fault_of : Answers → (text : List ℕ) (first second : Refusal) → IsFaultOf text first → IsFaultOf text second
    → first ≡ second
one_fault_of answers text refusal.InputTooLong refusal.InputTooLong a b = refl
one_fault_of answers text refusal.InputTooLong (refusal.Text g) long (short, b) = absurd (omega arith)
one_fault_of answers text refusal.InputTooLong (refusal.Shape g) long (short, us, reads, b) = absurd (omega arith)
one_fault_of answers text refusal.InputTooLong (refusal.Names g) long (gs, (short, us, reads, denotes), c) =
    absurd (omega arith)
one_fault_of answers text (refusal.Text f) refusal.InputTooLong (short, a) long = absurd (omega arith)
one_fault_of answers text (refusal.Text f) (refusal.Text g) (short, a) (short', b) =
    ap refusal.Text (answers.one_text_fault text f g a b)
one_fault_of answers text (refusal.Text f) (refusal.Shape g) (short, a) (short', us, reads, b) =
    absurd (answers.laws.not_both text us f reads a)
one_fault_of answers text (refusal.Text f) (refusal.Names g) (short, a) (gs, (short', us, reads, denotes), b) =
    absurd (answers.laws.not_both text us f reads a)
one_fault_of answers text (refusal.Shape f) refusal.InputTooLong (short, ts, reads, a) long = absurd (omega arith)
one_fault_of answers text (refusal.Shape f) (refusal.Text g) (short, ts, reads, a) (short', b) =
    absurd (answers.laws.not_both text ts g reads b)
one_fault_of answers text (refusal.Shape f) (refusal.Shape g) (short, ts, reads, a) (short', us, reads', b) =
    ap refusal.Shape (one_shape ts us f g (answers.laws.one_reading text ts us reads reads') a b)
one_fault_of answers text (refusal.Shape f) (refusal.Names g) (short, ts, reads, a)
    (gs, (short', us, reads', denotes), b) =
    absurd (let both : Ok gs ≡ Err f = sym denotes
    ∙ ap functions (answers.laws.one_reading text us ts reads' reads) ∙ a in cc)
one_fault_of answers text (refusal.Names f) refusal.InputTooLong (fs, (short, ts, reads, denotes), is) long =
    absurd (omega arith)
one_fault_of answers text (refusal.Names f) (refusal.Text g) (fs, (short, ts, reads, denotes), is) (short', b) =
    absurd (answers.laws.not_both text ts g reads b)
one_fault_of answers text (refusal.Names f) (refusal.Shape g) (fs, (short, ts, reads, denotes), is)
    (short', us, reads', b) =
    absurd (let both : Ok fs ≡ Err g = sym denotes
    ∙ ap functions (answers.laws.one_reading text ts us reads reads') ∙ b in cc)
one_fault_of answers text (refusal.Names f) (refusal.Names g) (fs, (short, ts, reads, denotes), is)
    (gs, (short', us, reads', denotes'), is') =
    ap refusal.Names (answers.one_name_fault fs f g is (subst (λ x. IsFault x g)
    (one_program ts us fs gs (answers.laws.one_reading text ts us reads reads') denotes denotes') is'))
