-- The turns of the loops in a statement, by its kind.
use Rattle.std.proofs.Common.{◌≡◌, ℕ, ℤ, List, [], ◌∷◌, ◌++◌, map, refl, sym, ap, subst, ◌∙◌}
use Rattle.std.proofs.lemmas.List.Folds.{flat_map-map}
use Rattle.br_words.specs.declared.operation.BinOp.{BinOp}
use Rattle.br_words.specs.declared.size.Size.{Size}
use Rattle.br_flatimp.specs.declared.program.Cond.{Cond}
use Rattle.br_flatimp.specs.declared.program.Operand.{Operand}
use Rattle.br_flatimp.specs.declared.program.Stmt.{Stmt, map-Stmt}
use Rattle.br_flatimp.specs.declared.program.Stmt.TheOpen.{Stmt-F}
use Rattle.br_flatimp.specs.declared.program.Stmt.TheVariants.{Lit, Copy, Op, Load, Store, Table, Stackalloc}
use Rattle.br_flatimp.specs.declared.program.Stmt.TheVariants.{If, Loop, Call, Read, Write, rolls-Lit}
use Rattle.br_flatimp.specs.declared.program.Stmt.TheVariants.{rolls-Copy, rolls-Op, rolls-Load, rolls-Store}
use Rattle.br_flatimp.specs.declared.program.Stmt.TheVariants.{rolls-Table, rolls-Stackalloc, rolls-If}
use Rattle.br_flatimp.specs.declared.program.Stmt.TheVariants.{rolls-Loop, rolls-Call, rolls-Read, rolls-Write}
use Rattle.br_flatimp.specs.declared.program.Stmt.TheFolds.{fold-roll-Stmt, ind-Stmt}
use Rattle.br_flatimp.specs.Values.{Names}
use Rattle.br_flatimp.specs.Liveness.{nothing, Live, entry, live_step, live, before_all}
use Rattle.br_live.specs.Turns.{LoopTurn, Turned, lives_in, turns_in, turned_step, turned, turns_of, all_turns}

-- ---- what is live is the same beside turns

abbrev Known : ℕ → Type 0
Known b = (c : Stmt) × ((turned b c).live ≡ live c)

known_each : (b : ℕ) (cs : List (Known b))
    → lives_in (map (turned b) (map (λ e. e.0) cs)) ≡ map live (map (λ e. e.0) cs)
known_each b [] = refl
known_each b (e ∷ cs) =
    ap (λ (l : Live). l ∷ lives_in (map (turned b) (map (λ e. e.0) cs))) e.1
    ∙ ap (λ (ls : List Live). live e.0 ∷ ls) (known_each b cs)

known_step : (b : ℕ) (y : Stmt-F (Known b)) →
    live_step (map-Stmt Turned Live (λ (t : Turned). t.live)
    (map-Stmt Stmt Turned (turned b) (map-Stmt (Known b) Stmt (λ e. e.0) y)))
    ≡ live_step (map-Stmt Stmt Live live (map-Stmt (Known b) Stmt (λ e. e.0) y))
known_step b (Stmt-F.Lit x n) = refl
known_step b (Stmt-F.Copy x y) = refl
known_step b (Stmt-F.Op x op y z) = refl
known_step b (Stmt-F.Load x size y offset) = refl
known_step b (Stmt-F.Store size y z offset) = refl
known_step b (Stmt-F.Table x size bytes y) = refl
known_step b (Stmt-F.Stackalloc x n body) =
    ap (λ (ls : List Live). live_step (Stmt-F.Stackalloc x n ls)) (known_each b body)
known_step b (Stmt-F.If test first second) =
    ap (λ (ls : List Live). live_step (Stmt-F.If test ls (lives_in (map (turned b) (map (λ e. e.0) second)))))
    (known_each b first)
    ∙ ap (λ (ls : List Live). live_step (Stmt-F.If test (map live (map (λ e. e.0) first)) ls)) (known_each b second)
known_step b (Stmt-F.Loop first test last) =
    ap (λ (ls : List Live). live_step (Stmt-F.Loop ls test (lives_in (map (turned b) (map (λ e. e.0) last)))))
    (known_each b first)
    ∙ ap (λ (ls : List Live). live_step (Stmt-F.Loop (map live (map (λ e. e.0) first)) test ls)) (known_each b last)
known_step b (Stmt-F.Call xs g ys) = refl
known_step b (Stmt-F.Read x y) = refl
known_step b (Stmt-F.Write y z) = refl

turned-live : (b : ℕ) (c : Stmt) → (turned b c).live ≡ live c
turned-live b = ind-Stmt (λ c. (turned b c).live ≡ live c) (λ x y is.
    let step = subst (λ z. live_step (map-Stmt Turned Live (λ (t : Turned). t.live) (map-Stmt Stmt Turned (turned b) z))
    ≡ live_step (map-Stmt Stmt Live live z)) is (known_step b y) in
    ap (λ (t : Turned). t.live) (fold-roll-Stmt Turned (turned_step b) x) ∙ step
    ∙ sym (fold-roll-Stmt Live live_step x))

lives_all : (b : ℕ) (cs : List Stmt) → lives_in (map (turned b) cs) ≡ map live cs
lives_all b [] = refl
lives_all b (c ∷ cs) =
    ap (λ (l : Live). l ∷ lives_in (map (turned b) cs)) (turned-live b c)
    ∙ ap (λ (ls : List Live). live c ∷ ls) (lives_all b cs)

turns_all : (b : ℕ) (cs : List Stmt) → turns_in (map (turned b) cs) ≡ all_turns b cs
turns_all b cs = flat_map-map (λ (t : Turned). t.turns) (turned b) cs

-- ---- kinds of statements

pub turns-stackalloc : (b x n : ℕ) (body : List Stmt) → turns_of b (Stackalloc x n body) ≡ all_turns b body
turns-stackalloc b x n body =
    ap (λ (t : Turned). t.turns) (ap (turned b) (sym (rolls-Stackalloc x n body))
    ∙ fold-roll-Stmt Turned (turned_step b) (Stmt-F.Stackalloc x n body))
    ∙ turns_all b body

pub turns-if : (b : ℕ) (test : Cond) (first second : List Stmt)
    → turns_of b (If test first second) ≡ all_turns b first ++ all_turns b second
turns-if b test first second =
    ap (λ (t : Turned). t.turns) (ap (turned b) (sym (rolls-If test first second))
    ∙ fold-roll-Stmt Turned (turned_step b) (Stmt-F.If test first second))
    ∙ ap (λ (ts : List LoopTurn). ts ++ turns_in (map (turned b) second)) (turns_all b first)
    ∙ ap (λ (ts : List LoopTurn). all_turns b first ++ ts) (turns_all b second)

-- the turn of a loop with these parts
abbrev pub turn_with : ℕ → (Names → Names) → (Names → Names) → LoopTurn
turn_with b first last = record { bound = b; opening = first; again = last (first nothing) }

pub turns-loop : (b : ℕ) (first : List Stmt) (test : Cond) (last : List Stmt) →
    turns_of b (Loop first test last)
    ≡ all_turns b first ++ (all_turns b last ++ turn_with b (before_all first) (before_all last) ∷ [])
turns-loop b first test last =
    ap (λ (t : Turned). t.turns) (ap (turned b) (sym (rolls-Loop first test last))
    ∙ fold-roll-Stmt Turned (turned_step b) (Stmt-F.Loop first test last))
    ∙ ap (λ (ls : List Live). turns_in (map (turned b) first) ++ (turns_in (map (turned b) last)
    ++ turn_with b (entry ls) (entry (lives_in (map (turned b) last))) ∷ [])) (lives_all b first)
    ∙ ap (λ (ls : List Live). turns_in (map (turned b) first)
    ++ (turns_in (map (turned b) last) ++ turn_with b (before_all first) (entry ls) ∷ [])) (lives_all b last)
    ∙ ap (λ (ts : List LoopTurn). ts ++ (turns_in (map (turned b) last)
    ++ turn_with b (before_all first) (before_all last) ∷ [])) (turns_all b first)
    ∙ ap (λ (ts : List LoopTurn). all_turns b first ++ (ts ++ turn_with b (before_all first) (before_all last) ∷ []))
    (turns_all b last)

pub turns-lit : (b : ℕ) (x n : ℕ) → turns_of b (Lit x n) ≡ []
turns-lit b x n = ap (λ (t : Turned). t.turns)
    (ap (turned b) (sym (rolls-Lit x n)) ∙ fold-roll-Stmt Turned (turned_step b) (Stmt-F.Lit x n))

pub turns-copy : (b : ℕ) (x y : ℕ) → turns_of b (Copy x y) ≡ []
turns-copy b x y = ap (λ (t : Turned). t.turns)
    (ap (turned b) (sym (rolls-Copy x y)) ∙ fold-roll-Stmt Turned (turned_step b) (Stmt-F.Copy x y))

pub turns-op : (b : ℕ) (x : ℕ) (op : BinOp) (y : ℕ) (z : Operand) → turns_of b (Op x op y z) ≡ []
turns-op b x op y z = ap (λ (t : Turned). t.turns)
    (ap (turned b) (sym (rolls-Op x op y z)) ∙ fold-roll-Stmt Turned (turned_step b) (Stmt-F.Op x op y z))

pub turns-load : (b : ℕ) (x : ℕ) (size : Size) (y : ℕ) (offset : ℤ) → turns_of b (Load x size y offset) ≡ []
turns-load b x size y offset = ap (λ (t : Turned). t.turns) (ap (turned b) (sym (rolls-Load x size y offset))
    ∙ fold-roll-Stmt Turned (turned_step b) (Stmt-F.Load x size y offset))

pub turns-store : (b : ℕ) (size : Size) (y z : ℕ) (offset : ℤ) → turns_of b (Store size y z offset) ≡ []
turns-store b size y z offset = ap (λ (t : Turned). t.turns) (ap (turned b) (sym (rolls-Store size y z offset))
    ∙ fold-roll-Stmt Turned (turned_step b) (Stmt-F.Store size y z offset))

pub turns-table : (b : ℕ) (x : ℕ) (size : Size) (bytes : List ℕ) (y : ℕ) → turns_of b (Table x size bytes y) ≡ []
turns-table b x size bytes y = ap (λ (t : Turned). t.turns) (ap (turned b) (sym (rolls-Table x size bytes y))
    ∙ fold-roll-Stmt Turned (turned_step b) (Stmt-F.Table x size bytes y))

pub turns-call : (b : ℕ) (xs : List ℕ) (g : ℕ) (ys : List ℕ) → turns_of b (Call xs g ys) ≡ []
turns-call b xs g ys = ap (λ (t : Turned). t.turns)
    (ap (turned b) (sym (rolls-Call xs g ys)) ∙ fold-roll-Stmt Turned (turned_step b) (Stmt-F.Call xs g ys))

pub turns-read : (b : ℕ) (x y : ℕ) → turns_of b (Read x y) ≡ []
turns-read b x y = ap (λ (t : Turned). t.turns)
    (ap (turned b) (sym (rolls-Read x y)) ∙ fold-roll-Stmt Turned (turned_step b) (Stmt-F.Read x y))

pub turns-write : (b : ℕ) (y z : ℕ) → turns_of b (Write y z) ≡ []
turns-write b y z = ap (λ (t : Turned). t.turns)
    (ap (turned b) (sym (rolls-Write y z)) ∙ fold-roll-Stmt Turned (turned_step b) (Stmt-F.Write y z))
