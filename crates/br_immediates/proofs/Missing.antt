-- No operand of a program with constants is missed.
use Rattle.std.proofs.Common.{◌≡◌, ℕ, ◌||◌, Bool, true, false, if◌then◌else◌, List, []}
use Rattle.std.proofs.Common.{◌∷◌, map, Option, Some, None, refl, sym, ap, subst, ◌∙◌}
use Rattle.std.specs.List.{list_all, list_any}
use Rattle.br_words.specs.Words.{signed}
use Rattle.br_words.specs.declared.operation.BinOp.{BinOp}
use Rattle.br_flatimp.specs.declared.program.Operand.{Operand}
use Rattle.br_flatimp.specs.declared.program.Operand.TheVariants as operand
use Rattle.br_flatimp.specs.declared.program.Stmt.{Stmt, map-Stmt}
use Rattle.br_flatimp.specs.declared.program.Stmt.TheOpen.{Stmt-F}
use Rattle.br_flatimp.specs.declared.program.Stmt.TheViews.{roll-Stmt}
use Rattle.br_flatimp.specs.declared.program.Stmt.TheFolds.{ind-Stmt}
use Rattle.br_flatimp.specs.declared.program.FlatFunc.{FlatFunc}
use Rattle.br_flatimp.specs.Parts.{written, parts}
use Rattle.br_flatimp.specs.Liveness.{is_in}
use Rattle.br_flatimp.specs.WellFormed.{fits_operation}
use Rattle.br_flatimp.specs.Missed.{Shown, is_straight, literal, name_operand, literal_of, fits_literal}
use Rattle.br_flatimp.specs.Missed.{is_missed, misses_after, shown_step, shown, has_no_missed}
use Rattle.br_immediates.specs.Immediates.{Literals, no_literals, literals_after, operand_of, with_constant}
use Rattle.br_immediates.specs.Immediates.{Turn, made_all, turn, with_constants, program_with_constants}
use Rattle.br_immediates.proofs.Turns.{layer, turn-roll, fold-made}

-- the known literals are those that a list shows looking back
abbrev Agrees : Literals → List Shown → Type 0
Agrees known earlier = (y : ℕ) → literal_of y earlier ≡ known y

-- a statement after others shows nothing that is missed, and what is known after it
record Misses (earlier : List Shown) (s : Shown) (next : Literals) : Type 0 where
  operand : is_missed s.operand earlier ≡ false
  inner : s.misses ≡ false
  after : Agrees next (s ∷ earlier)

abbrev NoneMissed : Stmt → Type 0
NoneMissed c =
    (known : Literals) (earlier : List Shown) → Agrees known earlier
    → Misses earlier (shown ((turn c).made known)) ((turn c).after known)

abbrev Each : Type 0
Each = (c : Stmt) × NoneMissed c

abbrev stmts : List Each → List Stmt
stmts cs = map (λ e. e.0) cs

none-before : (a b c : Bool) → a ≡ false → b ≡ false → c ≡ false → (a || b || c) ≡ false
none-before a b c e f g = rw (e, f, g) refl

all-none : (known : Literals) (earlier : List Shown) (cs : List Each) → Agrees known earlier
    → misses_after earlier (map shown (made_all known (map turn (stmts cs)))) ≡ false
all-none known earlier [] h = refl
all-none known earlier (e ∷ cs) h =
    let next : Literals = (turn e.0).after known in
    let s : Shown = shown ((turn e.0).made known) in
    let one = e.1 known earlier h in
    none-before (is_missed s.operand earlier) s.misses
    (misses_after (s ∷ earlier) (map shown (made_all next (map turn (stmts cs))))) one.operand one.inner
    (all-none next (s ∷ earlier) cs one.after)

-- a statement without parts that has no name as its second operand
plain : (known : Literals) (earlier : List Shown) (y : Stmt-F Shown) → name_operand y ≡ None → parts y ≡ []
    → Agrees known earlier → Misses earlier (shown_step y) (literals_after y known)
plain known earlier y operand simple h = record {
  operand = ap (λ o. is_missed o earlier) operand;
  inner = ap (list_any (misses_after [])) simple;
  after = λ z. ap (λ o. if is_straight y then (if is_in (written y) z then literal y else o) else None) (h z);
}

-- what holds of an operation of a name, or of what stands for it
abbrev Fine : Literals → List Shown → ℕ → BinOp → ℕ → ℕ → Operand → Type 0
Fine known earlier x op y z w =
    Misses earlier (shown_step (Stmt-F.Op x op y w))
    (literals_after {X = Shown} (Stmt-F.Op x op y (operand.Name z)) known)

-- an operation
operation : (known : Literals) (earlier : List Shown) (x : ℕ) (op : BinOp) (y : ℕ) (z : Operand) → Agrees known earlier
    → Misses earlier (shown_step (Stmt-F.Op x op y (with_constant op known z)))
    (literals_after {X = Shown} (Stmt-F.Op x op y z) known)
operation known earlier x op y (operand.Const c) h =
    plain known earlier (Stmt-F.Op x op y (operand.Const c)) refl refl h
operation known earlier x op y (operand.Name z) h = by (known z) refl
  where
    stays : (o : Option ℕ) → known z ≡ o → fits_literal op o ≡ false → Fine known earlier x op y z (operand.Name z)
    stays o e none = record {
      operand = ap (fits_literal op) (h z ∙ e) ∙ none;
      inner = refl;
      after = λ w. ap (λ l. if is_in (x ∷ []) w then None else l) (h w);
    }

    by : (o : Option ℕ) → known z ≡ o → Fine known earlier x op y z (operand_of op z o)
    by None e = stays None e refl
    by (Some n) e = here (fits_operation op (signed n)) refl
      where
        here : (b : Bool) → fits_operation op (signed n) ≡ b
            → Fine known earlier x op y z (if b then operand.Const (signed n) else operand.Name z)
        here true f = plain known earlier (Stmt-F.Op x op y (operand.Const (signed n))) refl refl h
        here false f = stays (Some n) e f

abbrev opened : Stmt-F Each → Stmt-F Stmt
opened y = map-Stmt Each Stmt (λ e. e.0) y

abbrev LayerNone : Literals → List Shown → Stmt-F Stmt → Type 0
LayerNone known earlier z =
    Misses earlier (shown_step (map-Stmt Stmt Shown shown (layer known z)))
    (literals_after (map-Stmt Stmt Turn turn z) known)

-- nothing is missed in the parts
one-part : (a : Bool) → a ≡ false → (a || false) ≡ false
one-part a e = rw e refl

two-parts : (a b : Bool) → a ≡ false → b ≡ false → (a || (b || false)) ≡ false
two-parts a b e f = rw (e, f) refl

part-none : (cs : List Each) → misses_after [] (map shown (made_all no_literals (map turn (stmts cs)))) ≡ false
part-none cs = all-none no_literals [] cs (λ y. refl)

layer-none : (known : Literals) (earlier : List Shown) (y : Stmt-F Each) → Agrees known earlier
    → LayerNone known earlier (opened y)
layer-none known earlier (Stmt-F.Lit x n) h = plain known earlier (Stmt-F.Lit x n) refl refl h
layer-none known earlier (Stmt-F.Copy x y) h = plain known earlier (Stmt-F.Copy x y) refl refl h
layer-none known earlier (Stmt-F.Op x op y z) h = operation known earlier x op y z h
layer-none known earlier (Stmt-F.Load x size y offset) h = plain known earlier (Stmt-F.Load x size y offset) refl refl h
layer-none known earlier (Stmt-F.Store size y z offset) h =
    plain known earlier (Stmt-F.Store size y z offset) refl refl h
layer-none known earlier (Stmt-F.Table x size bytes y) h = plain known earlier (Stmt-F.Table x size bytes y) refl refl h
layer-none known earlier (Stmt-F.Stackalloc x n body) h = record {
  operand = refl;
  inner = one-part (misses_after [] (map shown (made_all no_literals (map turn (stmts body))))) (part-none body);
  after = λ z. refl;
}
layer-none known earlier (Stmt-F.If test first second) h = record {
  operand = refl;
  inner = two-parts (misses_after [] (map shown (made_all no_literals (map turn (stmts first)))))
      (misses_after [] (map shown (made_all no_literals (map turn (stmts second))))) (part-none first)
      (part-none second);
  after = λ z. refl;
}
layer-none known earlier (Stmt-F.Loop first test last) h = record {
  operand = refl;
  inner = two-parts (misses_after [] (map shown (made_all no_literals (map turn (stmts first)))))
      (misses_after [] (map shown (made_all no_literals (map turn (stmts last))))) (part-none first) (part-none last);
  after = λ z. refl;
}
layer-none known earlier (Stmt-F.Call xs g ys) h = plain known earlier (Stmt-F.Call xs g ys) refl refl h
layer-none known earlier (Stmt-F.Read x y) h = plain known earlier (Stmt-F.Read x y) refl refl h
layer-none known earlier (Stmt-F.Write y z) h = plain known earlier (Stmt-F.Write y z) refl refl h

statement-none : (c : Stmt) → NoneMissed c
statement-none = ind-Stmt NoneMissed (λ x y is known earlier h.
    subst (λ s. Misses earlier s ((turn (roll-Stmt x)).after known)) (sym (fold-made shown_step known x))
    (subst (λ t. Misses earlier (shown_step (map-Stmt Stmt Shown shown (layer known x))) (t.after known))
    (sym (turn-roll x))
    (subst (LayerNone known earlier) is (layer-none known earlier y h))))

body-none : (known : Literals) (earlier : List Shown) (cs : List Stmt) → Agrees known earlier
    → misses_after earlier (map shown (with_constants known cs)) ≡ false
body-none known earlier [] h = refl
body-none known earlier (c ∷ cs) h =
    let next : Literals = (turn c).after known in
    let s : Shown = shown ((turn c).made known) in
    let one = statement-none c known earlier h in
    none-before (is_missed s.operand earlier) s.misses (misses_after (s ∷ earlier) (map shown (with_constants next cs)))
    one.operand one.inner
    (body-none next (s ∷ earlier) cs one.after)

pub none-missed : (fs : List FlatFunc) → list_all has_no_missed (program_with_constants fs) ≡ true
none-missed [] = refl
none-missed (f ∷ fs) = rw (body-none no_literals [] f.body (λ y. refl), none-missed fs) refl
