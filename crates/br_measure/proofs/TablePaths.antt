-- Calls and paths by the table of calls.
use Rattle.std.proofs.Common.{◌≡◌, ℕ, zero, suc, ◌<◌, true, eqb, List, [], ◌∷◌, Option, Some, None, length, get_or, map}
use Rattle.std.proofs.Common.{refl, sym, ap, ◌∙◌, arith, ⊎_elim, Contains}
use Rattle.std.proofs.lemmas.Bool.{false≢true, or_cases, or_left, or_right, eq-eqb, eqb-true}
use Rattle.std.proofs.lemmas.List.Quantifiers.{position-Some}
use Rattle.std.specs.List.{slice_get, cons_option}
use Rattle.std.specs.Str.{bytes_eq}
use Rattle.br_syntax.specs.declared.program.Func.{Func}
use Rattle.br_syntax.specs.Functions.{number_named}
use Rattle.br_measure.specs.Paths.{callees, Calls, CallPath}
use Rattle.br_measure.specs.Table.{numbers_named, call_table, row, has, TablePath, IsTable}
use Rattle.br_measure.proofs.Rounds.{get_or_map, map_length}

has_behind : (o : Option ℕ) (rest : List ℕ) (g : ℕ) → has rest g ≡ true → has (cons_option o rest) g ≡ true
has_behind None rest g h = h
has_behind (Some n) rest g h = or_right (eqb g n) (has rest g) h

number_stands : (fs : List Func) (names : List (List ℕ)) (k : ℕ) (name : List ℕ) (g : ℕ) → k < length names
    → get_or names k name ≡ name
    → number_named fs name ≡ Some g → has (numbers_named fs names) g ≡ true
number_stands fs [] k name g inside at named = absurd (omega arith)
number_stands fs (x ∷ xs) zero name g inside at named =
    let first : number_named fs x ≡ Some g = ap (number_named fs) at ∙ named in
    ap (λ o. has (cons_option o (numbers_named fs xs)) g) first
    ∙ or_left (eqb g g) (has (numbers_named fs xs) g) (eq-eqb g g refl)
number_stands fs (x ∷ xs) (suc k) name g inside at named =
    has_behind (number_named fs x) (numbers_named fs xs) g (number_stands fs xs k name g (omega arith) at named)

-- a name among names that means the function g
record Named (fs : List Func) (names : List (List ℕ)) (g : ℕ) : Type 0 where
  name : List ℕ
  stands : Contains names name
  named : number_named fs name ≡ Some g

named_behind : (fs : List Func) (x : List ℕ) (xs : List (List ℕ)) (g : ℕ) → Named fs xs g → Named fs (x ∷ xs) g
named_behind fs x xs g n =
    record { name = n.name; stands = (suc n.stands.0, omega (arith, n.stands.1), n.stands.2); named = n.named }

name_first : (fs : List Func) (x : List ℕ) (xs : List (List ℕ)) (g : ℕ) (o : Option ℕ) → number_named fs x ≡ o
    → (has (numbers_named fs xs) g ≡ true → Named fs xs g) → has (cons_option o (numbers_named fs xs)) g ≡ true
    → Named fs (x ∷ xs) g
name_first fs x xs g None is behind h = named_behind fs x xs g (behind h)
name_first fs x xs g (Some n) is behind h =
    ⊎_elim
    (λ e. record { name = x; stands = (0, omega arith, refl); named = is ∙ ap Some (sym (eqb-true g n e)) })
    (λ e. named_behind fs x xs g (behind e))
    (or_cases (eqb g n) (has (numbers_named fs xs) g) h)

name_stands : (fs : List Func) (names : List (List ℕ)) (g : ℕ) → has (numbers_named fs names) g ≡ true
    → Named fs names g
name_stands fs [] g h = absurd (false≢true h)
name_stands fs (x ∷ xs) g h = name_first fs x xs g (number_named fs x) refl (λ e. name_stands fs xs g e) h

pub calls_row : (fs : List Func) (f g : ℕ) → Calls fs f g → has (row (call_table fs) f) g ≡ true
calls_row fs f g c =
    ap (λ ns. has ns g) (get_or_map (λ h. numbers_named fs (callees h)) fs f c.caller [] c.at)
    ∙ number_stands fs (callees c.caller) c.called.0 c.name g c.called.1 c.called.2 c.named

past_rows : {X Y : Type 0} (F : X → Y) (xs : List X) (i : ℕ) (d : Y) → slice_get xs i ≡ None → get_or (map F xs) i d ≡ d
past_rows F [] i d is = refl
past_rows F (x ∷ xs) zero d is = cc
past_rows F (x ∷ xs) (suc i) d is = past_rows F xs i d is

row_calls_at : (fs : List Func) (f g : ℕ) (o : Option Func) → slice_get fs f ≡ o → has (row (call_table fs) f) g ≡ true
    → Calls fs f g
row_calls_at fs f g None is h =
    absurd (false≢true (ap (λ ns. has ns g) (sym (past_rows (λ c. numbers_named fs (callees c)) fs f [] is)) ∙ h))
row_calls_at fs f g (Some caller) is h =
    let found = name_stands fs (callees caller) g
    (ap (λ ns. has ns g) (sym (get_or_map (λ c. numbers_named fs (callees c)) fs f caller [] is)) ∙ h) in
    record { caller = caller; at = is; name = found.name; called = found.stands; named = found.named }

pub row_calls : (fs : List Func) (f g : ℕ) → has (row (call_table fs) f) g ≡ true → Calls fs f g
row_calls fs f g h = row_calls_at fs f g (slice_get fs f) refl h

pub path_in_table : (fs : List Func) (f : ℕ) (hs : List ℕ) (g : ℕ) → CallPath fs f hs g
    → TablePath (call_table fs) f hs g
path_in_table fs f [] g path = calls_row fs f g path
path_in_table fs f (h ∷ hs) g path = (calls_row fs f h path.0, path_in_table fs h hs g path.1)

pub path_of_table : (fs : List Func) (f : ℕ) (hs : List ℕ) (g : ℕ) → TablePath (call_table fs) f hs g
    → CallPath fs f hs g
path_of_table fs f [] g path = row_calls fs f g path
path_of_table fs f (h ∷ hs) g path = (row_calls fs f h path.0, path_of_table fs h hs g path.1)

pub callee_within : (fs : List Func) (f g : ℕ) → Calls fs f g → g < length fs
callee_within fs f g c = (position-Some (λ h. bytes_eq h.name c.name) fs g c.caller c.named).0

pub table_is : (fs : List Func) → IsTable (call_table fs)
table_is fs f g h = omega
    (arith, callee_within fs f g (row_calls fs f g h), map_length (λ (c : Func). numbers_named fs (callees c)) fs)
