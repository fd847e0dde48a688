-- Commands in their simplest form have the same runs, and functions do the same.
use Rattle.std.proofs.Common.{◌≡◌, ℕ, zero, suc, ◌==◌, Bool, true, false, if◌then◌else◌, List}
use Rattle.std.proofs.Common.{[], ◌∷◌, map, Option, Some, None, cond, refl, sym, ap, subst, ◌∙◌}
use Rattle.std.specs.Option.{option_map}
use Rattle.std.specs.Str.{bytes_eq}
use Rattle.std.proofs.lemmas.Bool.Decides.{Decides-eqb}
use Rattle.br_words.specs.Size.{size_of}
use Rattle.br_bytes.specs.Memory.{put_number}
use Rattle.br_bytes.specs.Runs.{Goes, Ends, Undefined, OutOfFuel, then_do, in_turn}
use Rattle.br_bytes.specs.Runs.{with_defined, choose, with_fuel, loop, returned, back_in}
use Rattle.br_syntax.specs.declared.program.Expr.{Expr}
use Rattle.br_syntax.specs.declared.program.Cmd.{Cmd, map-Cmd}
use Rattle.br_syntax.specs.declared.program.Cmd.TheOpen.{Cmd-F}
use Rattle.br_syntax.specs.declared.program.Cmd.TheViews.{roll-Cmd}
use Rattle.br_syntax.specs.declared.program.Cmd.TheFolds.{fold-roll-Cmd, ind-Cmd}
use Rattle.br_syntax.specs.declared.program.Func.{Func}
use Rattle.br_syntax.specs.Functions.{function_named}
use Rattle.br_source_meaning.specs.Values.{Name, no_locals, value}
use Rattle.br_source_meaning.specs.Runs.{State, Run, Callee, set_to, with_locals, interact, command_step, run}
use Rattle.br_source_meaning.specs.Calls.{words_of, run_function, enter, function_of}
use Rattle.br_simplify.specs.declared.conditions.Test.{Test}
use Rattle.br_simplify.specs.Simple as simple
use Rattle.br_simplify.specs.Simple.{literal, simple_expression, simple_test, part_test, if_by, simple_if}
use Rattle.br_simplify.specs.Simple.{is_zero, simple_while, simple_command, simple_function, simple_program}
use Rattle.br_simplify.proofs.Values.{truth, other, turned, literal_value, test_truth}
use Rattle.br_simplify.proofs.Values.{part_truth, same_value, same_values}

-- ---- tests

-- goes on by what a test says
abbrev with_test : Option Bool → State → Run → Run → Run
with_test None s none rest = Ends Undefined s
with_test (Some z) s none rest = choose z none rest

tested_by : (o : Option ℕ) (s : State) (none rest : Run)
    → with_defined o s (λ v. choose (v == 0) none rest) ≡ with_test (truth o) s none rest
tested_by None s none rest = refl
tested_by (Some v) s none rest = refl

by_other : (o : Option Bool) (s : State) (none rest : Run) → with_test (other o) s none rest ≡ with_test o s rest none
by_other None s none rest = refl
by_other (Some true) s none rest = refl
by_other (Some false) s none rest = refl

same_test : (o p : Option ℕ) → truth o ≡ truth p → (s : State) (none rest : Run)
    → with_defined o s (λ v. choose (v == 0) none rest) ≡ with_defined p s (λ v. choose (v == 0) none rest)
same_test o p same s none rest =
    tested_by o s none rest ∙ ap (λ q. with_test q s none rest) same ∙ sym (tested_by p s none rest)

-- ---- loops

same_loop : (val again : State → Option ℕ) → ((t : State) → truth (val t) ≡ truth (again t))
    → (body : State → Run) (n : ℕ) (s : State) → loop n val body s ≡ loop n again body s
same_loop val again same body zero s = same_test (val s) (again s) (same s) s (Goes s) (Ends OutOfFuel s)
same_loop val again same body (suc n) s =
    let rest : loop n val body ≡ loop n again body = λ i t. same_loop val again same body n t i in
    same_test (val s) (again s) (same s) s (Goes s) (with_fuel s (λ t. then_do (body t) (loop n val body)))
    ∙ ap (λ f. with_defined (again s) s (λ v. choose (v == 0) (Goes s) (with_fuel s (λ t. then_do (body t) f)))) rest

no_loop : (val : State → Option ℕ) (body : State → Run) (n : ℕ) (s : State) → val s ≡ Some 0
    → loop n val body s ≡ Goes s
no_loop val body zero s e = ap (λ o. with_defined o s (λ v. choose (v == 0) (Goes s) (Ends OutOfFuel s))) e
no_loop val body (suc n) s e =
    ap (λ o. with_defined o s (λ v. choose (v == 0) (Goes s) (with_fuel s (λ t. then_do (body t) (loop n val body))))) e

module _ (call : Callee) where
  rolled : (y : Cmd-F Cmd) → run call (roll-Cmd y) ≡ command_step call (map-Cmd Cmd (State → Run) (run call) y)
  rolled y = fold-roll-Cmd (State → Run) (command_step call) y

  -- ---- statements with tests

  if_runs : (e : Expr) (first second : List Cmd) (s : State) → run call (simple_if e first second) s
      ≡ command_step call (Cmd-F.If e (map (run call) first) (map (run call) second)) s
  if_runs e first second s = by (literal e) refl
    where
      part : (z : Bool) → run call (roll-Cmd (Cmd-F.Seq (if z then second else first))) s
          ≡ choose z (in_turn (map (run call) second) s) (in_turn (map (run call) first) s)
      part true = ap (λ f. f s) (rolled (Cmd-F.Seq second))
      part false = ap (λ f. f s) (rolled (Cmd-F.Seq first))

      tested : (t : Test) (x : Bool)
          → turned x (truth (value s.locals s.memory t.word)) ≡ truth (value s.locals s.memory e)
          → run call (if x then roll-Cmd (Cmd-F.If t.word second first) else roll-Cmd (Cmd-F.If t.word first second)) s
          ≡ with_test (truth (value s.locals s.memory e)) s (in_turn (map (run call) second) s)
          (in_turn (map (run call) first) s)
      tested t true same =
          ap (λ f. f s) (rolled (Cmd-F.If t.word second first))
          ∙ tested_by (value s.locals s.memory t.word) s (in_turn (map (run call) first) s)
          (in_turn (map (run call) second) s)
          ∙ sym (by_other (truth (value s.locals s.memory t.word)) s (in_turn (map (run call) second) s)
          (in_turn (map (run call) first) s))
          ∙ ap (λ o. with_test o s (in_turn (map (run call) second) s) (in_turn (map (run call) first) s)) same
      tested t false same =
          ap (λ f. f s) (rolled (Cmd-F.If t.word first second))
          ∙ tested_by (value s.locals s.memory t.word) s (in_turn (map (run call) second) s)
          (in_turn (map (run call) first) s)
          ∙ ap (λ o. with_test o s (in_turn (map (run call) second) s) (in_turn (map (run call) first) s)) same

      by : (o : Option ℕ) → literal e ≡ o → run call (if_by first second o (part_test e)) s
          ≡ command_step call (Cmd-F.If e (map (run call) first) (map (run call) second)) s
      by (Some n) is =
          part (n == 0)
          ∙ sym (ap (λ o. with_defined o s (λ v. choose (v == 0) (in_turn (map (run call) second) s)
          (in_turn (map (run call) first) s))) (literal_value s.locals s.memory e n is))
      by None is =
          tested (part_test e) (part_test e).exchanged (part_truth s.locals s.memory e)
          ∙ sym (tested_by (value s.locals s.memory e) s (in_turn (map (run call) second) s)
          (in_turn (map (run call) first) s))

  while_runs : (e : Expr) (body : List Cmd) (s : State)
      → run call (simple_while e body) s ≡ command_step call (Cmd-F.While e (map (run call) body)) s
  while_runs e body s = by (is_zero (literal e)) refl
    where
      zero_value : (o : Option ℕ) → is_zero o ≡ true → o ≡ Some 0
      zero_value None e = absurd (cc e)
      zero_value (Some n) e = ap Some ((Decides-eqb n 0).0 e)

      by : (z : Bool) → is_zero (literal e) ≡ z
          → run call (if z then roll-Cmd Cmd-F.Skip else roll-Cmd (Cmd-F.While (simple_test e) body)) s
          ≡ command_step call (Cmd-F.While e (map (run call) body)) s
      by true is =
          ap (λ f. f s) (rolled Cmd-F.Skip)
          ∙ sym (no_loop (λ t. value t.locals t.memory e) (in_turn (map (run call) body)) s.fuel s
          (literal_value s.locals s.memory e 0 (zero_value (literal e) is)))
      by false is =
          ap (λ f. f s) (rolled (Cmd-F.While (simple_test e) body))
          ∙ same_loop (λ t. value t.locals t.memory (simple_test e)) (λ t. value t.locals t.memory e)
          (λ t. test_truth t.locals t.memory e) (in_turn (map (run call) body)) s.fuel s

  -- ---- every command

  abbrev Same : Cmd → Type 0
  Same c = run call (simple_command c) ≡ run call c

  abbrev Known : Type 0
  Known = (c : Cmd) × Same c

  abbrev plain : List Known → List Cmd
  plain = map (λ (c : Known). c.0)

  bodies : (cs : List Known) → map (run call) (map simple_command (plain cs)) ≡ map (run call) (plain cs)
  bodies [] = refl
  bodies (c ∷ cs) =
      ap (λ f. f ∷ map (run call) (map simple_command (plain cs))) c.1 ∙ ap (λ fs. run call c.0 ∷ fs) (bodies cs)

  layer : (y : Cmd-F Known)
      → run call (simple.command_step (map-Cmd Cmd Cmd simple_command (map-Cmd Known Cmd (λ c. c.0) y)))
      ≡ command_step call (map-Cmd Cmd (State → Run) (run call) (map-Cmd Known Cmd (λ c. c.0) y))
  layer Cmd-F.Skip = rolled Cmd-F.Skip
  layer (Cmd-F.Set x e) =
      rolled (Cmd-F.Set x (simple_expression e))
      ∙ (λ i s. with_defined (same_value s.locals s.memory e i) s (λ v. Goes (set_to x v s)))
  layer (Cmd-F.Unset x) = rolled (Cmd-F.Unset x)
  layer (Cmd-F.Store size a e) =
      rolled (Cmd-F.Store size (simple_expression a) (simple_expression e))
      ∙ (λ i s.
      with_defined (same_value s.locals s.memory a i) s (λ a.
      with_defined (same_value s.locals s.memory e i) s (λ v.
      with_defined (put_number s.memory a (size_of size) v) s (λ m. Goes (record s { memory = m })))))
  layer (Cmd-F.Stackalloc x n body) =
      rolled (Cmd-F.Stackalloc x n (map simple_command (plain body)))
      ∙ ap (λ fs. command_step call (Cmd-F.Stackalloc x n fs)) (bodies body)
  layer (Cmd-F.If e first second) =
      (λ i s. if_runs (simple_expression e) (map simple_command (plain first)) (map simple_command (plain second)) s i)
      ∙ (λ i s. with_defined (same_value s.locals s.memory e i) s
      (λ v. choose (v == 0) (in_turn (bodies second i) s) (in_turn (bodies first i) s)))
  layer (Cmd-F.While e body) =
      (λ i s. while_runs (simple_expression e) (map simple_command (plain body)) s i)
      ∙ (λ i s. loop s.fuel (λ t. same_value t.locals t.memory e i) (in_turn (bodies body i)) s)
  layer (Cmd-F.Seq body) =
      rolled (Cmd-F.Seq (map simple_command (plain body))) ∙ ap (λ fs. command_step call (Cmd-F.Seq fs)) (bodies body)
  layer (Cmd-F.Call at xs callee es) =
      rolled (Cmd-F.Call at xs callee (map simple_expression es))
      ∙ (λ i s. with_defined (same_values s.locals s.memory es i) s
      (λ vs. with_fuel s (λ t. back_in (with_locals xs) s.locals (call callee vs t))))
  layer (Cmd-F.Interact at xs action es) =
      rolled (Cmd-F.Interact at xs action (map simple_expression es))
      ∙ (λ i s. with_defined (same_values s.locals s.memory es i) s (λ vs. interact xs action vs s))

  same_run : (c : Cmd) → Same c
  same_run = ind-Cmd Same (λ x y is.
      let one = subst (λ z. run call (simple.command_step (map-Cmd Cmd Cmd simple_command z))
      ≡ command_step call (map-Cmd Cmd (State → Run) (run call) z)) is (layer y) in
      ap (run call) (fold-roll-Cmd Cmd simple.command_step x) ∙ one
      ∙ sym (fold-roll-Cmd (State → Run) (command_step call) x))

  same_runs : (cs : List Cmd) → map (run call) (map simple_command cs) ≡ map (run call) cs
  same_runs [] = refl
  same_runs (c ∷ cs) =
      ap (λ f. f ∷ map (run call) (map simple_command cs)) (same_run c) ∙ ap (λ fs. run call c ∷ fs) (same_runs cs)

  pub same_function : (f : Func) → run_function call (simple_function f) ≡ run_function call f
  same_function f = λ i args s. returned (words_of f.results)
      (in_turn (same_runs f.body i) (record s { locals = with_locals f.args args no_locals }))

-- ---- calls

pub named : (fs : List Func) (x : Name)
    → function_named (simple_program fs) x ≡ option_map simple_function (function_named fs x)
named [] x = refl
named (f ∷ fs) x = by (bytes_eq f.name x) (named fs x)
  where
    by : (b : Bool) → function_named (simple_program fs) x ≡ option_map simple_function (function_named fs x)
        → cond b (Some (simple_function f)) (function_named (simple_program fs) x)
        ≡ option_map simple_function (cond b (Some f) (function_named fs x))
    by true rest = refl
    by false rest = rest

same_enter : (call : Callee) (o : Option Func) (args : List ℕ) (s : State)
    → enter call (option_map simple_function o) args s ≡ enter call o args s
same_enter call None args s = refl
same_enter call (Some f) args s = ap (λ g. g args s) (same_function call f)

same_calls : (fs : List Func) (depth : ℕ) (x : Name) (args : List ℕ) (s : State)
    → function_of (simple_program fs) depth x args s ≡ function_of fs depth x args s
same_calls fs zero x args s = refl
same_calls fs (suc depth) x args s =
    let below : function_of (simple_program fs) depth ≡ function_of fs depth =
    λ i x args s. same_calls fs depth x args s i in
    ap (λ q. enter q (function_named (simple_program fs) x) args s) below
    ∙ ap (λ o. enter (function_of fs depth) o args s) (named fs x)
    ∙ same_enter (function_of fs depth) (function_named fs x) args s

pub calls_same : (fs : List Func) (depth : ℕ) → function_of (simple_program fs) depth ≡ function_of fs depth
calls_same fs depth = λ i x args s. same_calls fs depth x args s i
