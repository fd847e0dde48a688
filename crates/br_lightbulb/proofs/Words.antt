-- A word of the chip as a caller reads it.
use Rattle.std.proofs.Common.{inl, inr, ℕ, zero, suc, ◌^◌, List, [], ◌∷◌, ◌++◌, refl, sym, subst, arith, append_assoc}
use Rattle.br_bytes.specs.declared.run.Choice.{Choice}
use Rattle.br_bytes.specs.declared.run.Event.{Event}
use Rattle.br_bytes.specs.declared.run.Event.TheVariants.{Read, Write}
use Rattle.br_bytes.specs.Memory.{Memory}
use Rattle.br_source_meaning.specs.Values.{Name, Locals}
use Rattle.br_source_meaning.specs.Runs.{State, Callee, with_locals}
use Rattle.br_judge.specs.Languages.{Language, times}
use Rattle.br_judge.specs.Good.{TX, CS, busy, read_word, failed_read}
use Rattle.br_lightbulb.specs.Names as name
use Rattle.br_lightbulb.specs.Shows.{Piece, Begins, ShowsPiece, read_piece, write_piece}
use Rattle.br_lightbulb.proofs.Commands.{lit, Commands, call}
use Rattle.br_lightbulb.proofs.Leads.{Leads, upon, shown}
use Rattle.br_lightbulb.proofs.LanRead.{reads_start}
use Rattle.br_lightbulb.proofs.Waiting.{times_zero, times_more}

-- one list of a set as often as one likes
pub times_of : (n : ℕ) (L : Language) (e : Event) → L (e ∷ []) → (es : List Event) × times n L es
times_of zero L e l = ([], times_zero L)
times_of (suc n) L e l = go (times_of n L e l)
  where
    go : (es : List Event) × times n L es → (es : List Event) × times (suc n) L es
    go (es, t) = (es ++ e ∷ [], times_more n L es (e ∷ []) t l)

-- what is known of `lan_read` and `lan_write`
pub record Words (C : Callee) : Type 0 where
  pub reads : (a : ℕ) (s : State) → ShowsPiece s (read_piece a) (C name.lan_read (a ∷ []) s)
  pub writes : (a v : ℕ) (s : State) → ShowsPiece s (write_piece a v) (C name.lan_write (a ∷ v ∷ []) s)

-- what begins a list of a piece, also without its last events
pub fewer : (piece : Piece) (es more : List Event) → Begins piece (es ++ more) → Begins piece es
fewer piece es more (ws, rest, p) =
    (ws, more ++ rest, subst (λ (q : List Event). piece ws q) (append_assoc es more rest) p)

-- a read that fails at once
pub unready_read : (a : ℕ) → (es : List Event) × failed_read a es
unready_read a = go (times_of 1000 (busy TX) (Read TX (2 ^ 31)) (2 ^ 31, (omega arith, refl)))
  where
    go : (es : List Event) × times 1000 (busy TX) es → (es : List Event) × failed_read a es
    go (es, t) = (
      Write CS 2 ∷ (es ++ Write CS 0 ∷ []),
      (Write CS 2 ∷ [], es ++ Write CS 0 ∷ [], refl, refl, (es, Write CS 0 ∷ [], refl, inl (inl t), refl)),
    )

-- A register is read: its word is known, or the read has failed.
pub reads_word : {C : Callee} {S : List Event → Type 0}
    {Q : State → Type 0} {x y : Name} {a : ℕ} {cs : Commands} {l : Locals} {m : Memory} {answers : List ℕ}
    {choices : List
    Choice} {fuel : ℕ}
    (U es : List Event) → Words C → ((fs : List Event) → Begins (read_piece a) fs → S (U ++ (es ++ fs))) →
    ((v : ℕ) (fs : List Event) (o : State) → read_word a v fs →
    Leads C S Q cs (upon (with_locals (x ∷ y ∷ []) (v ∷ 0 ∷ []) l) m (U ++ (es ++ fs)) o)) →
    ((v : ℕ) (fs : List Event) (o : State) → failed_read a fs →
    Leads C S Q cs (upon (with_locals (x ∷ y ∷ []) (v ∷ 1 ∷ []) l) m (U ++ (es ++ fs)) o)) →
    Leads C S Q (call (x ∷ y ∷ []) name.lan_read (lit a ∷ []) cs)
    (record { locals = l; memory = m; trace = U ++ es; answers = answers; choices = choices; fuel = fuel })
reads_word {C} {S} {Q} {x} {y} {a} {cs} {l} {m} {answers} {choices} {fuel} U es known stops goes fails =
    shown {C = C} {S = S} {Q = Q} {cs = cs} {s =
    record { locals = l; memory = m; trace = U ++ es; answers = answers; choices = choices; fuel = fuel }} {vs =
    a ∷ []} {piece = read_piece a}
    refl (known.reads a) (reads_start a)
    (λ fs p. subst S (sym (append_assoc U es fs)) (stops fs p)) by
  where
    by : (ws : List ℕ) (fs : List Event) (o : State) → read_piece a ws fs →
        Leads C S Q cs (upon (with_locals (x ∷ y ∷ []) ws l) m ((U ++ es) ++ fs) o)
    by ws fs o (inl (v, is, p)) =
        subst (λ (q : List ℕ). Leads C S Q cs (upon (with_locals (x ∷ y ∷ []) q l) m ((U ++ es) ++ fs) o)) (sym is)
        (subst (λ (q : List Event). Leads C S Q cs (upon (with_locals (x ∷ y ∷ []) (v ∷ 0 ∷ []) l) m q o))
        (sym (append_assoc U es fs)) (goes v fs o p))
    by ws fs o (inr (v, is, p)) =
        subst (λ (q : List ℕ). Leads C S Q cs (upon (with_locals (x ∷ y ∷ []) q l) m ((U ++ es) ++ fs) o)) (sym is)
        (subst (λ (q : List Event). Leads C S Q cs (upon (with_locals (x ∷ y ∷ []) (v ∷ 1 ∷ []) l) m q o))
        (sym (append_assoc U es fs)) (fails v fs o p))
