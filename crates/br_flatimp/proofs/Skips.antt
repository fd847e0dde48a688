-- A statement that only writes a name that is not live may be skipped.
use Rattle.std.proofs.Common.{◌≡◌, ◌≢◌, ℕ, false, not, List, [], ◌∷◌, Option, Some}
use Rattle.std.proofs.Common.{None, refl, sym, ap, subst, IsTrue, if◌then◌else◌}
use Rattle.br_words.specs.Size.{size_of}
use Rattle.br_words.specs.Words.{value_of_op}
use Rattle.br_bytes.specs.Memory.{get_number}
use Rattle.br_bytes.specs.Buffers.{table_number}
use Rattle.br_bytes.specs.Runs.{Goes, with_defined}
use Rattle.br_flatimp.specs.declared.program.Stmt.TheOpen.{Stmt-F}
use Rattle.br_flatimp.specs.Parts.{written, operand_names}
use Rattle.br_flatimp.specs.Values.{Locals, Names, with_local, operand_word, moved}
use Rattle.br_flatimp.specs.Runs.{State, Run, Callee, Forgets, set_to, statement_step}
use Rattle.br_flatimp.specs.Liveness.{is_in, is_removable, union, without}
use Rattle.br_flatimp.specs.Matches.{Matches, IsSameDefined}
use Rattle.br_flatimp.specs.Renaming.{At, Covers}
use Rattle.br_flatimp.proofs.Live.{both_and}
use Rattle.br_flatimp.proofs.Covers.{other_number, is_in-head, not_in-cons}
use Rattle.br_flatimp.proofs.Renamed.{Outside, needed, at-left, outside-locals}

-- the second state goes on alone, if it does
skips-with_defined : {X : Type 0} (G : State → State → Type 0) (o : Option X) (s t : State) (g : X → Run)
    → ((x : X) → Matches G Outside (Goes s) (g x)) → Matches G Outside (Goes s) (with_defined o t g)
skips-with_defined G None s t g h = tt
skips-with_defined G (Some x) s t g h = h x

-- a name that is not live may have any word
pub covers-dead : (to : ℕ → ℕ) (live : Names) (l m : Locals) (x v : ℕ) → live x ≡ false
    → Covers to (without live (x ∷ [])) l m → Covers to live l (with_local x v m)
covers-dead to live l m x v dead h z alive =
    let apart : z ≢ x = λ same. cc (ap live same, alive, dead) in
    subst (λ b. IsSameDefined (l (to z)) (if b then Some v else m z)) (sym (other_number z x apart))
    (h z (both_and (live z) (not (is_in (x ∷ []) z)) alive (not_in-cons x z [] apart refl)))

skips-set : (to : ℕ → ℕ) (live : Names) (x v : ℕ) (ys : List ℕ) (s t : State) → live x ≡ false
    → At to (union (without live (x ∷ [])) (is_in ys)) s t → At to live s (set_to x v t)
skips-set to live x v ys s t dead h =
    let kept : At to (without live (x ∷ [])) s t = at-left to (without live (x ∷ [])) (is_in ys) s t h in
    record {
      locals = covers-dead to live s.locals t.locals x v dead kept.locals;
      outside = outside-locals s.locals (with_local x v t.locals) s t h.outside;
    }

-- the first run skips the statement
pub skips-dead : (to : ℕ → ℕ) (forgets : Forgets) (p : Callee) (y : Stmt-F (State → Run)) (live : Names) (s t : State)
    → IsTrue (is_removable y) → ((x : ℕ) → IsTrue (is_in (written y) x) → live x ≡ false) → At to (needed y live) s t
    → Matches (At to live) Outside (Goes s) (statement_step forgets p y t)
skips-dead to forgets p (Stmt-F.Lit x n) live s t simple dead h =
    skips-set to live x n [] s t (dead x (is_in-head x [])) h
skips-dead to forgets p (Stmt-F.Copy x y) live s t simple dead h =
    skips-with_defined (At to live) (t.locals y) s t (λ v. Goes (set_to x v t))
    (λ v. skips-set to live x v (y ∷ []) s t (dead x (is_in-head x [])) h)
skips-dead to forgets p (Stmt-F.Op x op y z) live s t simple dead h =
    let set : ℕ → ℕ → Run = λ a b. Goes (set_to x (value_of_op op a b) t) in
    skips-with_defined (At to live) (t.locals y) s t (λ a. with_defined (operand_word z t.locals) t (set a)) (λ a.
    skips-with_defined (At to live) (operand_word z t.locals) s t (set a)
    (λ b. skips-set to live x (value_of_op op a b) (y ∷ operand_names z) s t (dead x (is_in-head x [])) h))
skips-dead to forgets p (Stmt-F.Load x size y offset) live s t simple dead h =
    let set : ℕ → Run = λ v. Goes (set_to x v t) in
    skips-with_defined (At to live) (t.locals y) s t
    (λ a. with_defined (get_number t.memory (moved a offset) (size_of size)) t set) (λ a.
    skips-with_defined (At to live) (get_number t.memory (moved a offset) (size_of size)) s t set
    (λ v. skips-set to live x v (y ∷ []) s t (dead x (is_in-head x [])) h))
skips-dead to forgets p (Stmt-F.Table x size bytes y) live s t simple dead h =
    let set : ℕ → Run = λ v. Goes (set_to x v t) in
    skips-with_defined (At to live) (t.locals y) s t
    (λ i. with_defined (table_number bytes i (size_of size)) t set) (λ i.
    skips-with_defined (At to live) (table_number bytes i (size_of size)) s t set
    (λ v. skips-set to live x v (y ∷ []) s t (dead x (is_in-head x [])) h))
skips-dead to forgets p (Stmt-F.Store size y z offset) live s t simple dead h = absurd (cc simple)
skips-dead to forgets p (Stmt-F.Stackalloc x n body) live s t simple dead h = absurd (cc simple)
skips-dead to forgets p (Stmt-F.If test first second) live s t simple dead h = absurd (cc simple)
skips-dead to forgets p (Stmt-F.Loop first test last) live s t simple dead h = absurd (cc simple)
skips-dead to forgets p (Stmt-F.Call xs g ys) live s t simple dead h = absurd (cc simple)
skips-dead to forgets p (Stmt-F.Read x y) live s t simple dead h = absurd (cc simple)
skips-dead to forgets p (Stmt-F.Write y z) live s t simple dead h = absurd (cc simple)
