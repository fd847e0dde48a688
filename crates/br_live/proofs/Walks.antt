-- What walks over statements keep.
use Rattle.std.proofs.Common.{◌≡◌, ℕ, ◌++◌, List, [], ◌∷◌, IsTrue, ap, sym, subst}
use Rattle.std.proofs.Common.{◌∙◌, map, reverse, refl, append-nil, append_assoc}
use Rattle.std.proofs.lemmas.List.{map-append, reverse-append, reverse-reverse}
use Rattle.std.proofs.lemmas.Grind.{flat_map-append}
use Rattle.std.proofs.Math.Path.{fun_ext}
use Rattle.br_flatimp.specs.declared.program.Stmt.{Stmt}
use Rattle.br_flatimp.specs.Parts.{statement_names}
use Rattle.br_flatimp.specs.WellFormed.{are_below}
use Rattle.br_flatimp.specs.Values.{Names}
use Rattle.br_flatimp.specs.Liveness.{nothing, Moment}
use Rattle.br_live.specs.declared.bit_set.BitSet.{BitSet}
use Rattle.br_live.specs.BitSets.{set_of}
use Rattle.br_live.specs.Tables.{Row, row, rows_after}
use Rattle.br_live.proofs.Rows.{row_with, pushed, last_one, three}
use Rattle.br_live.specs.declared.turn.Turn.{Turn}
use Rattle.br_live.specs.Summaries.{handed}
use Rattle.br_live.specs.Turns.{LoopTurn, turn_of, turns_of, all_turns}
use Rattle.br_live.proofs.Turns.{turn_with}

pub below_as : (b : ℕ) {s d : Stmt} → s ≡ d → IsTrue (are_below b (statement_names s))
    → IsTrue (are_below b (statement_names d))
below_as b is h = subst (λ (e : Stmt). IsTrue (are_below b (statement_names e))) is h

-- a turn with these parts
turn-is : (t : Turn) (b : ℕ) (first last : Names → Names) → t.opening.reads.bound ≡ b
    → ((after : Names) → handed t.opening after ≡ first after) → handed t.again nothing ≡ last (first nothing)
    → turn_of t ≡ turn_with b first last
turn-is t b first last bound opens again =
    ap (λ (n : ℕ). record { bound = n; opening = handed t.opening; again = handed t.again nothing }) bound
    ∙ ap (λ (f : Names → Names). record { bound = b; opening = f; again = handed t.again nothing }) (fun_ext opens)
    ∙ ap (λ (e : Names). record { bound = b; opening = first; again = e }) again

pub pushed-turn : (xs : List Turn) (ys : List Turn) (t : Turn) (b : ℕ) (first last : Names → Names)
    → ys ≡ xs ++ t ∷ [] → t.opening.reads.bound ≡ b → ((after : Names) → handed t.opening after ≡ first after)
    → handed t.again nothing ≡ last (first nothing) → map turn_of ys ≡ map turn_of xs ++ turn_with b first last ∷ []
pushed-turn xs ys t b first last is bound opens again =
    ap (map turn_of) is
    ∙ map-append turn_of xs (t ∷ [])
    ∙ ap (λ (l : LoopTurn). map turn_of xs ++ l ∷ []) (turn-is t b first last bound opens again)

pub turns-next : (b : ℕ) (xs : List Stmt) (s : Stmt) → all_turns b (xs ++ s ∷ []) ≡ all_turns b xs ++ turns_of b s
turns-next b xs s = flat_map-append (turns_of b) xs (s ∷ [])
    ∙ ap (λ (ts : List LoopTurn). all_turns b xs ++ ts) (append-nil (turns_of b s))

-- ---- sets at the end of a list

pub pushed-set : (xs : List BitSet) (ys : List BitSet) (s : BitSet) (b : ℕ) (set : Names) → ys ≡ xs ++ s ∷ []
    → s.bound ≡ b → set_of s ≡ set → map row ys ≡ map row xs ++ row_with b set ∷ []
pushed-set xs ys s b set is bound same = ap (map row) is ∙ pushed xs s b set bound same

pub same-rows : (ms : Names → List Moment) (b c : ℕ) (x y : Names) → b ≡ c → x ≡ y
    → reverse (rows_after b (ms x)) ≡ reverse (rows_after c (ms y))
same-rows ms b c x y bounds sets =
    ap (λ (n : ℕ). reverse (rows_after n (ms x))) bounds ∙ ap (λ (e : Names). reverse (rows_after c (ms e))) sets

-- ---- turns that are taken

pub two-first : (t rest f g both : List LoopTurn) → both ≡ f ++ g → t ≡ rest ++ both → t ≡ (rest ++ f) ++ g
two-first t rest f g both split is = is ∙ ap (λ (ts : List LoopTurn). rest ++ ts) split ∙ sym (append_assoc rest f g)

pub popped : (xs : List Turn) (ys : List Turn) (x : Turn) (rest f l both : List LoopTurn) (t : LoopTurn)
    → ys ≡ xs ++ x ∷ [] → both ≡ f ++ (l ++ t ∷ []) → map turn_of ys ≡ rest ++ both
    → (map turn_of xs ≡ (rest ++ f) ++ l) × (turn_of x ≡ t)
popped xs ys x rest f l both t is split e =
    last_one (map turn_of xs) ((rest ++ f) ++ l) (turn_of x) t
    (sym (map-append turn_of xs (x ∷ [])) ∙ sym (ap (map turn_of) is) ∙ e
    ∙ ap (λ (ts : List LoopTurn). rest ++ ts) split ∙ three rest f l t)

no_last : (ys : List LoopTurn) (y : LoopTurn) → [] ≡ ys ++ y ∷ [] → ⊥
no_last [] y h = absurd (cc h)
no_last (x ∷ ys) y h = absurd (cc h)

pub never : (xs : List Turn) (rest f l both : List LoopTurn) (t : LoopTurn) → xs ≡ [] → both ≡ f ++ (l ++ t ∷ [])
    → map turn_of xs ≡ rest ++ both → ⊥
never xs rest f l both t none split e = no_last ((rest ++ f) ++ l) t
    (sym (ap (map turn_of) none) ∙ e ∙ ap (λ (ts : List LoopTurn). rest ++ ts) split ∙ three rest f l t)

-- ---- the order of rows

map-reverse : (xs : List BitSet) → map row (reverse xs) ≡ reverse (map row xs)
map-reverse [] = refl
map-reverse (s ∷ xs) =
    ap (map row) (reverse-append (s ∷ []) xs)
    ∙ map-append row (reverse xs) (s ∷ [])
    ∙ ap (λ (rs : List Row). rs ++ row s ∷ []) (map-reverse xs)
    ∙ sym (reverse-append (row s ∷ []) (map row xs))

pub turned_back : (xs : List BitSet) (rs : List Row) → map row xs ≡ reverse rs → map row (reverse xs) ≡ rs
turned_back xs rs is = map-reverse xs ∙ ap reverse is ∙ reverse-reverse rs
