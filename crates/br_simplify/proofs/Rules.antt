-- Names that are not at fault, and limits that are kept, in programs in their simplest form.
use Rattle.std.proofs.Common.{◌≡◌, ℕ, ◌==◌, ◌&&◌, nat_le, Bool, true, false, if◌then◌else◌, List, [], ◌∷◌}
use Rattle.std.proofs.Common.{◌++◌, map, length, Option, Some, None, is_some, refl, sym, ap, subst, ◌∙◌}
use Rattle.std.specs.List.{list_all}
use Rattle.std.specs.Option.{option_map}
use Rattle.std.proofs.lemmas.List.{length-map, map-append}
use Rattle.br_syntax.specs.declared.program.Expr.{Expr}
use Rattle.br_syntax.specs.declared.program.Cmd.{Cmd, map-Cmd}
use Rattle.br_syntax.specs.declared.program.Cmd.TheOpen.{Cmd-F}
use Rattle.br_syntax.specs.declared.program.Cmd.TheViews.{roll-Cmd}
use Rattle.br_syntax.specs.declared.program.Cmd.TheFolds.{fold-roll-Cmd, ind-Cmd}
use Rattle.br_syntax.specs.declared.program.Func.{Func}
use Rattle.br_syntax.specs.Functions.{function_named}
use Rattle.br_syntax.specs.NameFaults.{NameFault, DuplicateFunction, UnknownFunction, WrongArguments}
use Rattle.br_syntax.specs.NameFaults.{WrongResults, UnknownAction, HasNoNameFault, joined_faults, call_faults}
use Rattle.br_syntax.specs.NameFaults.{action_faults, faults_step, command_faults, duplicates_after}
use Rattle.br_syntax.specs.Shape as shape
use Rattle.br_syntax.specs.Shape.{IsShaped, are_names, is_buffer_size, is_shaped_command, is_shaped_function}
use Rattle.br_simplify.specs.declared.conditions.Test.{Test}
use Rattle.br_simplify.specs.Simple as simple
use Rattle.br_simplify.specs.Simple.{literal, simple_expression, simple_test, part_test, if_by, simple_if}
use Rattle.br_simplify.specs.Simple.{is_zero, simple_while, simple_command, simple_function, simple_program}
use Rattle.br_simplify.proofs.Runs.{named}

abbrev faults : List Func → Cmd → List NameFault
faults = command_faults NameFault DuplicateFunction UnknownFunction WrongArguments WrongResults UnknownAction

abbrev layer_faults : List Func → Cmd-F (List NameFault) → List NameFault
layer_faults = faults_step NameFault DuplicateFunction UnknownFunction WrongArguments WrongResults UnknownAction

abbrev joins : List (List NameFault) → List NameFault
joins = joined_faults NameFault DuplicateFunction UnknownFunction WrongArguments WrongResults UnknownAction

abbrev duplicates : List Func → List Func → List NameFault
duplicates = duplicates_after NameFault DuplicateFunction UnknownFunction WrongArguments WrongResults UnknownAction

none_first : {X : Type 0} (xs ys : List X) → xs ++ ys ≡ [] → xs ≡ []
none_first [] ys e = refl
none_first (x ∷ xs) ys e = absurd (cc e)

none_second : {X : Type 0} (xs ys : List X) → xs ++ ys ≡ [] → ys ≡ []
none_second [] ys e = e
none_second (x ∷ xs) ys e = absurd (cc e)

none_both : {X : Type 0} (xs ys : List X) → xs ≡ [] → ys ≡ [] → xs ++ ys ≡ []
none_both xs ys e f = ap (λ zs. zs ++ ys) e ∙ f

and_first : (a b : Bool) → (a && b) ≡ true → a ≡ true
and_first true b e = refl
and_first false b e = absurd (cc e)

and_second : (a b : Bool) → (a && b) ≡ true → b ≡ true
and_second true b e = e
and_second false b e = absurd (cc e)

and_both : (a b : Bool) → a ≡ true → b ≡ true → (a && b) ≡ true
and_both a b e f = ap (λ c. c && b) e ∙ f

-- ---- names

module _ (fs : List Func) where
  clean_rolled : (y : Cmd-F Cmd)
      → layer_faults (simple_program fs) (map-Cmd Cmd (List NameFault) (faults (simple_program fs)) y) ≡ []
      → faults (simple_program fs) (roll-Cmd y) ≡ []
  clean_rolled y none = fold-roll-Cmd (List NameFault) (layer_faults (simple_program fs)) y ∙ none

  called : (at args outs : ℕ) (o : Option Func)
      → call_faults NameFault DuplicateFunction UnknownFunction WrongArguments WrongResults UnknownAction at args outs
      (option_map simple_function o)
      ≡ call_faults NameFault DuplicateFunction UnknownFunction WrongArguments WrongResults UnknownAction at args outs o
  called at args outs None = refl
  called at args outs (Some f) = refl

  abbrev clean : List Cmd → Type 0
  clean cs = joins (map (faults (simple_program fs)) cs) ≡ []

  clean_if : (e : Expr) (first second : List Cmd) → clean first → clean second
      → faults (simple_program fs) (simple_if e first second) ≡ []
  clean_if e first second one two = by (literal e) (part_test e)
    where
      part : (z : Bool) → clean (if z then second else first)
      part true = two
      part false = one

      tested : (t : Test) (x : Bool) → faults (simple_program fs) (if x then roll-Cmd (Cmd-F.If t.word second first)
          else roll-Cmd (Cmd-F.If t.word first second)) ≡ []
      tested t true = clean_rolled (Cmd-F.If t.word second first) (none_both
          (joins (map (faults (simple_program fs)) second)) (joins (map (faults (simple_program fs)) first)) two one)
      tested t false = clean_rolled (Cmd-F.If t.word first second) (none_both
          (joins (map (faults (simple_program fs)) first)) (joins (map (faults (simple_program fs)) second)) one two)

      by : (o : Option ℕ) (t : Test) → faults (simple_program fs) (if_by first second o t) ≡ []
      by (Some n) t = clean_rolled (Cmd-F.Seq (if n == 0 then second else first)) (part (n == 0))
      by None t = tested t t.exchanged

  clean_while : (e : Expr) (body : List Cmd) → clean body → faults (simple_program fs) (simple_while e body) ≡ []
  clean_while e body none = by (is_zero (literal e))
    where
      by : (z : Bool) → faults (simple_program fs) (if z then roll-Cmd Cmd-F.Skip
          else roll-Cmd (Cmd-F.While (simple_test e) body)) ≡ []
      by true = clean_rolled Cmd-F.Skip refl
      by false = clean_rolled (Cmd-F.While (simple_test e) body) none

  abbrev StaysClean : Cmd → Type 0
  StaysClean c = faults fs c ≡ [] → faults (simple_program fs) (simple_command c) ≡ []

  abbrev Known : Type 0
  Known = (c : Cmd) × StaysClean c

  abbrev plain : List Known → List Cmd
  plain = map (λ (c : Known). c.0)

  bodies : (cs : List Known) → joins (map (faults fs) (plain cs)) ≡ [] → clean (map simple_command (plain cs))
  bodies [] none = refl
  bodies (c ∷ cs) none =
      none_both (faults (simple_program fs) (simple_command c.0))
      (joins (map (faults (simple_program fs)) (map simple_command (plain cs))))
      (c.1 (none_first (faults fs c.0) (joins (map (faults fs) (plain cs))) none))
      (bodies cs (none_second (faults fs c.0) (joins (map (faults fs) (plain cs))) none))

  layer : (y : Cmd-F Known)
      → layer_faults fs (map-Cmd Cmd (List NameFault) (faults fs) (map-Cmd Known Cmd (λ c. c.0) y)) ≡ []
      → faults (simple_program fs)
      (simple.command_step (map-Cmd Cmd Cmd simple_command (map-Cmd Known Cmd (λ c. c.0) y))) ≡ []
  layer Cmd-F.Skip none = clean_rolled Cmd-F.Skip refl
  layer (Cmd-F.Set x e) none = clean_rolled (Cmd-F.Set x (simple_expression e)) refl
  layer (Cmd-F.Unset x) none = clean_rolled (Cmd-F.Unset x) refl
  layer (Cmd-F.Store size a e) none = clean_rolled (Cmd-F.Store size (simple_expression a) (simple_expression e)) refl
  layer (Cmd-F.Stackalloc x n body) none =
      clean_rolled (Cmd-F.Stackalloc x n (map simple_command (plain body))) (bodies body none)
  layer (Cmd-F.If e first second) none =
      clean_if (simple_expression e) (map simple_command (plain first)) (map simple_command (plain second))
      (bodies first (none_first (joins (map (faults fs) (plain first))) (joins (map (faults fs) (plain second))) none))
      (bodies second
      (none_second (joins (map (faults fs) (plain first))) (joins (map (faults fs) (plain second))) none))
  layer (Cmd-F.While e body) none =
      clean_while (simple_expression e) (map simple_command (plain body)) (bodies body none)
  layer (Cmd-F.Seq body) none = clean_rolled (Cmd-F.Seq (map simple_command (plain body))) (bodies body none)
  layer (Cmd-F.Call at xs callee es) none =
      clean_rolled (Cmd-F.Call at xs callee (map simple_expression es))
      (ap (λ n. call_faults NameFault DuplicateFunction UnknownFunction WrongArguments WrongResults UnknownAction at n
      (length xs) (function_named (simple_program fs) callee)) (length-map es simple_expression)
      ∙ ap (call_faults NameFault DuplicateFunction UnknownFunction WrongArguments WrongResults UnknownAction at
      (length es) (length xs)) (named fs callee)
      ∙ called at (length es) (length xs) (function_named fs callee) ∙ none)
  layer (Cmd-F.Interact at xs action es) none =
      clean_rolled (Cmd-F.Interact at xs action (map simple_expression es))
      (ap (λ n. action_faults NameFault DuplicateFunction UnknownFunction WrongArguments WrongResults UnknownAction at n
      (length xs) action) (length-map es simple_expression) ∙ none)

  stays_clean : (c : Cmd) → StaysClean c
  stays_clean = ind-Cmd StaysClean (λ x y is none.
      let one = subst (λ z. layer_faults fs (map-Cmd Cmd (List NameFault) (faults fs) z) ≡ []
      → faults (simple_program fs) (simple.command_step (map-Cmd Cmd Cmd simple_command z)) ≡ []) is (layer y) in
      ap (faults (simple_program fs)) (fold-roll-Cmd Cmd simple.command_step x)
      ∙ one (sym (fold-roll-Cmd (List NameFault) (layer_faults fs) x) ∙ none))

  all_clean : (cs : List Cmd) → joins (map (faults fs) cs) ≡ [] → clean (map simple_command cs)
  all_clean [] none = refl
  all_clean (c ∷ cs) none =
      none_both (faults (simple_program fs) (simple_command c))
      (joins (map (faults (simple_program fs)) (map simple_command cs)))
      (stays_clean c (none_first (faults fs c) (joins (map (faults fs) cs)) none))
      (all_clean cs (none_second (faults fs c) (joins (map (faults fs) cs)) none))

  functions_clean : (gs : List Func) → joins (map (λ f. joins (map (faults fs) f.body)) gs) ≡ []
      → joins (map (λ f. joins (map (faults (simple_program fs)) f.body)) (simple_program gs)) ≡ []
  functions_clean [] none = refl
  functions_clean (g ∷ gs) none =
      let here = joins (map (faults fs) g.body) in
      let rest = joins (map (λ f. joins (map (faults fs) f.body)) gs) in
      none_both (joins (map (faults (simple_program fs)) (map simple_command g.body)))
      (joins (map (λ f. joins (map (faults (simple_program fs)) f.body)) (simple_program gs)))
      (all_clean g.body (none_first here rest none)) (functions_clean gs (none_second here rest none))

same_duplicates : (earlier fs : List Func)
    → duplicates (simple_program earlier) (simple_program fs) ≡ duplicates earlier fs
same_duplicates earlier [] = refl
same_duplicates earlier (f ∷ fs) =
    let longer : duplicates (simple_program earlier ++ simple_function f ∷ []) (simple_program fs)
    ≡ duplicates (earlier ++ f ∷ []) fs =
    ap (λ gs. duplicates gs (simple_program fs)) (sym (map-append simple_function earlier (f ∷ [])))
    ∙ same_duplicates (earlier ++ f ∷ []) fs in
    ap (λ o. (if is_some o then DuplicateFunction f.at ∷ [] else [])
    ++ duplicates (simple_program earlier ++ simple_function f ∷ []) (simple_program fs)) (named earlier f.name)
    ∙ ap (λ b. (if b then DuplicateFunction f.at ∷ [] else []) ++ duplicates (simple_program earlier
    ++ simple_function f ∷ []) (simple_program fs)) (same_some (function_named earlier f.name))
    ∙ ap (λ rest. (if is_some (function_named earlier f.name) then DuplicateFunction f.at ∷ [] else []) ++ rest) longer
  where
    same_some : (o : Option Func) → is_some (option_map simple_function o) ≡ is_some o
    same_some None = refl
    same_some (Some g) = refl

pub names_stay : (fs : List Func) → HasNoNameFault fs → HasNoNameFault (simple_program fs)
names_stay fs none =
    let here = duplicates [] fs in
    let rest = joins (map (λ f. joins (map (faults fs) f.body)) fs) in
    none_both (duplicates [] (simple_program fs))
    (joins (map (λ f. joins (map (faults (simple_program fs)) f.body)) (simple_program fs)))
    (same_duplicates [] fs ∙ none_first here rest none) (functions_clean fs fs (none_second here rest none))

-- ---- limits

shaped_rolled : (y : Cmd-F Cmd) → shape.command_step (map-Cmd Cmd Bool is_shaped_command y) ≡ true
    → is_shaped_command (roll-Cmd y) ≡ true
shaped_rolled y ok = fold-roll-Cmd Bool shape.command_step y ∙ ok

abbrev shaped : List Cmd → Bool
shaped cs = list_all (λ ok. ok) (map is_shaped_command cs)

shaped_if : (e : Expr) (first second : List Cmd) → shaped first ≡ true → shaped second ≡ true
    → is_shaped_command (simple_if e first second) ≡ true
shaped_if e first second one two = by (literal e) (part_test e)
  where
    part : (z : Bool) → shaped (if z then second else first) ≡ true
    part true = two
    part false = one

    tested : (t : Test) (x : Bool) → is_shaped_command (if x then roll-Cmd (Cmd-F.If t.word second first)
        else roll-Cmd (Cmd-F.If t.word first second)) ≡ true
    tested t true = shaped_rolled (Cmd-F.If t.word second first) (and_both (shaped second) (shaped first) two one)
    tested t false = shaped_rolled (Cmd-F.If t.word first second) (and_both (shaped first) (shaped second) one two)

    by : (o : Option ℕ) (t : Test) → is_shaped_command (if_by first second o t) ≡ true
    by (Some n) t = shaped_rolled (Cmd-F.Seq (if n == 0 then second else first)) (part (n == 0))
    by None t = tested t t.exchanged

shaped_while : (e : Expr) (body : List Cmd) → shaped body ≡ true → is_shaped_command (simple_while e body) ≡ true
shaped_while e body ok = by (is_zero (literal e))
  where
    by : (z : Bool)
        → is_shaped_command (if z then roll-Cmd Cmd-F.Skip else roll-Cmd (Cmd-F.While (simple_test e) body)) ≡ true
    by true = shaped_rolled Cmd-F.Skip refl
    by false = shaped_rolled (Cmd-F.While (simple_test e) body) ok

abbrev StaysShaped : Cmd → Type 0
StaysShaped c = is_shaped_command c ≡ true → is_shaped_command (simple_command c) ≡ true

abbrev Shaped : Type 0
Shaped = (c : Cmd) × StaysShaped c

abbrev commands_of : List Shaped → List Cmd
commands_of = map (λ (c : Shaped). c.0)

shaped_bodies : (cs : List Shaped) → shaped (commands_of cs) ≡ true
    → shaped (map simple_command (commands_of cs)) ≡ true
shaped_bodies [] ok = refl
shaped_bodies (c ∷ cs) ok =
    and_both (is_shaped_command (simple_command c.0)) (shaped (map simple_command (commands_of cs)))
    (c.1 (and_first (is_shaped_command c.0) (shaped (commands_of cs)) ok))
    (shaped_bodies cs (and_second (is_shaped_command c.0) (shaped (commands_of cs)) ok))

shaped_layer : (y : Cmd-F Shaped)
    → shape.command_step (map-Cmd Cmd Bool is_shaped_command (map-Cmd Shaped Cmd (λ c. c.0) y)) ≡ true
    → is_shaped_command (simple.command_step (map-Cmd Cmd Cmd simple_command (map-Cmd Shaped Cmd (λ c. c.0) y))) ≡ true
shaped_layer Cmd-F.Skip ok = shaped_rolled Cmd-F.Skip refl
shaped_layer (Cmd-F.Set x e) ok = shaped_rolled (Cmd-F.Set x (simple_expression e)) refl
shaped_layer (Cmd-F.Unset x) ok = shaped_rolled (Cmd-F.Unset x) refl
shaped_layer (Cmd-F.Store size a e) ok =
    shaped_rolled (Cmd-F.Store size (simple_expression a) (simple_expression e)) refl
shaped_layer (Cmd-F.Stackalloc x n body) ok =
    shaped_rolled (Cmd-F.Stackalloc x n (map simple_command (commands_of body)))
    (and_both (is_buffer_size n) (shaped (map simple_command (commands_of body)))
    (and_first (is_buffer_size n) (shaped (commands_of body)) ok)
    (shaped_bodies body (and_second (is_buffer_size n) (shaped (commands_of body)) ok)))
shaped_layer (Cmd-F.If e first second) ok =
    shaped_if (simple_expression e) (map simple_command (commands_of first)) (map simple_command (commands_of second))
    (shaped_bodies first (and_first (shaped (commands_of first)) (shaped (commands_of second)) ok))
    (shaped_bodies second (and_second (shaped (commands_of first)) (shaped (commands_of second)) ok))
shaped_layer (Cmd-F.While e body) ok =
    shaped_while (simple_expression e) (map simple_command (commands_of body)) (shaped_bodies body ok)
shaped_layer (Cmd-F.Seq body) ok =
    shaped_rolled (Cmd-F.Seq (map simple_command (commands_of body))) (shaped_bodies body ok)
shaped_layer (Cmd-F.Call at xs callee es) ok =
    shaped_rolled (Cmd-F.Call at xs callee (map simple_expression es))
    (ap (λ n. are_names xs && nat_le n 8) (length-map es simple_expression) ∙ ok)
shaped_layer (Cmd-F.Interact at xs action es) ok =
    shaped_rolled (Cmd-F.Interact at xs action (map simple_expression es))
    (ap (λ n. are_names xs && nat_le n 8) (length-map es simple_expression) ∙ ok)

stays_shaped : (c : Cmd) → StaysShaped c
stays_shaped = ind-Cmd StaysShaped (λ x y is ok.
    let one = subst (λ z. shape.command_step (map-Cmd Cmd Bool is_shaped_command z) ≡ true
    → is_shaped_command (simple.command_step (map-Cmd Cmd Cmd simple_command z)) ≡ true) is (shaped_layer y) in
    ap is_shaped_command (fold-roll-Cmd Cmd simple.command_step x)
    ∙ one (sym (fold-roll-Cmd Bool shape.command_step x) ∙ ok))

all_shaped : (cs : List Cmd) → list_all is_shaped_command cs ≡ true
    → list_all is_shaped_command (map simple_command cs) ≡ true
all_shaped [] ok = refl
all_shaped (c ∷ cs) ok =
    and_both (is_shaped_command (simple_command c)) (list_all is_shaped_command (map simple_command cs))
    (stays_shaped c (and_first (is_shaped_command c) (list_all is_shaped_command cs) ok))
    (all_shaped cs (and_second (is_shaped_command c) (list_all is_shaped_command cs) ok))

functions_shaped : (fs : List Func) → list_all is_shaped_function fs ≡ true
    → list_all is_shaped_function (simple_program fs) ≡ true
functions_shaped [] ok = refl
functions_shaped (f ∷ fs) ok =
    let here = and_first (is_shaped_function f) (list_all is_shaped_function fs) ok in
    let inner = and_second (are_names f.args) (are_names f.results && list_all is_shaped_command f.body) here in
    and_both (is_shaped_function (simple_function f)) (list_all is_shaped_function (simple_program fs))
    (and_both (are_names f.args) (are_names f.results && list_all is_shaped_command (map simple_command f.body))
    (and_first (are_names f.args) (are_names f.results && list_all is_shaped_command f.body) here)
    (and_both (are_names f.results) (list_all is_shaped_command (map simple_command f.body))
    (and_first (are_names f.results) (list_all is_shaped_command f.body) inner)
    (all_shaped f.body (and_second (are_names f.results) (list_all is_shaped_command f.body) inner))))
    (functions_shaped fs (and_second (is_shaped_function f) (list_all is_shaped_function fs) ok))

pub limits_stay : (fs : List Func) → IsShaped fs → IsShaped (simple_program fs)
limits_stay fs ok = functions_shaped fs ok
