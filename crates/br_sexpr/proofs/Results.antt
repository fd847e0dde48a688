-- What the reader answers is what the text stands for.
use Rattle.std.proofs.Common.{◌≡◌, ℕ, List, map, Result, Ok, Err, refl, sym, ap, ◌∙◌, subst}
use Rattle.std.specs.Result.{IfOk, IfErr, IsErr, MatchResult}
use Rattle.br_base.specs.declared.failure.OrMemory.{OrMemory}
use Rattle.br_base.specs.declared.failure.OrMemory.TheVariants.{Memory, Fault}
use Rattle.br_sexpr.specs.declared.tree.Tree.{Tree}
use Rattle.br_sexpr.specs.declared.tree.TextFault.{TextFault}
use Rattle.br_sexpr.specs.Canonical.{canonical, bare, AreSameUpToOffsets, ArePrintable}
use Rattle.br_base.specs.Faults.{IfFault}
use Rattle.br_sexpr.specs.Reads.{Reads, HasFault}
use Rattle.br_sexpr.specs.Progress.{outside, pieces, tokens_from, Answers}
use Rattle.br_sexpr.proofs.Layouts.{layout}
use Rattle.br_sexpr.proofs.OneAnswer.{not-both, reads-one}
use Rattle.br_sexpr.proofs.Again.{prints-read}
use Rattle.br_sexpr.proofs.Faults.{IsFault-found}

pub Answers-trees : (r : Result (List Tree) (OrMemory TextFault)) (text : List ℕ) → Answers r (tokens_from 0 text)
    → IfOk r (λ trees. Reads text trees)
unfolding tokens_from
Answers-trees (Ok trees) text a =
    record { pieces = pieces outside text; layout = layout text; tokens = a.tokens; shallow = a.fits }
Answers-trees (Err e) text a = tt

pub Answers-fault : (r : Result (List Tree) (OrMemory TextFault)) (text : List ℕ) → Answers r (tokens_from 0 text)
    → IfErr r (λ e. IfFault e (λ f. HasFault text f))
unfolding tokens_from
Answers-fault (Ok trees) text a = tt
Answers-fault (Err Memory) text a = tt
Answers-fault (Err (Fault f)) text a =
    record { pieces = pieces outside text; layout = layout text; fault = IsFault-found _ f a }

pub Answers-readable : (r : Result (List Tree) (OrMemory TextFault)) (text : List ℕ) → Answers r (tokens_from 0 text)
    → (trees : List Tree) → Reads text trees → IfErr r (λ e. e ≡ Memory)
Answers-readable (Ok trees) text a others reads = tt
Answers-readable (Err Memory) text a others reads = refl
Answers-readable (Err (Fault f)) text a others reads =
    absurd (not-both text others f reads (Answers-fault (Err (Fault f)) text a))

pub Answers-faulty : (r : Result (List Tree) (OrMemory TextFault)) (text : List ℕ) → Answers r (tokens_from 0 text)
    → (f : TextFault) → HasFault text f → IsErr r
Answers-faulty (Ok trees) text a f wrong = absurd (not-both text trees f (Answers-trees (Ok trees) text a) wrong)
Answers-faulty (Err e) text a f wrong = refl

pub Answers-printed : (r : Result (List Tree) (OrMemory TextFault)) (text : List ℕ)
    → Answers r (tokens_from 0 text) → (trees : List Tree) → ArePrintable trees → text ≡ canonical trees
    → MatchResult r (λ got. AreSameUpToOffsets got trees) (λ e. e ≡ Memory)
Answers-printed (Ok got) text a trees printable is =
    let again = prints-read trees printable in
    let P : List ℕ → Type 0 = λ bs. Reads bs again.0 in
    let same : got ≡ again.0 = reads-one text got again.0 (Answers-trees (Ok got) text a) (subst P (sym is) again.1) in
    ap (map bare) same ∙ again.2
Answers-printed (Err e) text a trees printable is =
    let again = prints-read trees printable in
    let P : List ℕ → Type 0 = λ bs. Reads bs again.0 in
    Answers-readable (Err e) text a again.0 (subst P (sym is) again.1)
