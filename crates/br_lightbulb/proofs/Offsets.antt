-- Runs do not look at offsets.
use Rattle.std.proofs.Common.{◌≡◌, ℕ, zero, suc, Bool, true, false, List, [], ◌∷◌}
use Rattle.std.proofs.Common.{map, Option, Some, None, refl, sym, ap, subst, ◌∙◌}
use Rattle.std.proofs.Math.Path.{fun_ext}
use Rattle.std.specs.Option.{option_map}
use Rattle.std.specs.Str.{bytes_eq}
use Rattle.br_syntax.specs.declared.program.Cmd.{Cmd, roll-Cmd, map-Cmd}
use Rattle.br_syntax.specs.declared.program.Cmd.TheVariants as cmd
use Rattle.br_syntax.specs.declared.program.Cmd.TheOpen.{Cmd-F}
use Rattle.br_syntax.specs.declared.program.Cmd.TheFolds.{fold-roll-Cmd, ind-Cmd}
use Rattle.br_syntax.specs.declared.program.Func.{Func}
use Rattle.br_syntax.specs.Functions.{function_named}
use Rattle.br_syntax.specs.Offsets.{unplaced_step, unplaced, unplaced_function, without_offsets, IsEqualUpToOffsets}
use Rattle.br_source_meaning.specs.Values.{Name, no_locals}
use Rattle.br_source_meaning.specs.Runs.{State, Run, Callee, with_locals, in_turn, command_step, run}
use Rattle.br_source_meaning.specs.Calls.{words_of, returned, run_function, enter, function_of}

-- ---- commands

abbrev Same : Callee → Cmd → Type 0
Same C c = run C (unplaced c) ≡ run C c

abbrev Known : Callee → Type 0
Known C = (c : Cmd) × Same C c

abbrev commands_in : (C : Callee) → List (Known C) → List Cmd
commands_in C ys = map (λ y. y.0) ys

all_same : (C : Callee) (ys : List (Known C)) →
    map (run C) (map unplaced (commands_in C ys)) ≡ map (run C) (commands_in C ys)
all_same C [] = refl
all_same C (y ∷ ys) = let here = y.1 in let there = all_same C ys in rw (here, there) refl

-- a layer without its offset, as it runs
unplaced_runs : (C : Callee) (y z : Cmd-F Cmd) (c : Cmd) → unplaced_step (map-Cmd Cmd Cmd unplaced y) ≡ c →
    roll-Cmd z ≡ c →
    command_step C (map-Cmd Cmd (State → Run) (run C) z) ≡ command_step C (map-Cmd Cmd (State → Run) (run C) y) →
    Same C (roll-Cmd y)
unplaced_runs C y z c step rolled same =
    ap (run C) (fold-roll-Cmd Cmd unplaced_step y ∙ step ∙ sym rolled)
    ∙ fold-roll-Cmd (State → Run) (command_step C) z ∙ same ∙ sym (fold-roll-Cmd (State → Run) (command_step C) y)

layer_same : (C : Callee) (y : Cmd-F (Known C)) → Same C (roll-Cmd (map-Cmd (Known C) Cmd (λ y. y.0) y))
layer_same C Cmd-F.Skip = unplaced_runs C Cmd-F.Skip Cmd-F.Skip cmd.Skip refl cmd.rolls-Skip refl
layer_same C (Cmd-F.Set x e) = unplaced_runs C (Cmd-F.Set x e) (Cmd-F.Set x e) (cmd.Set x e) refl (cmd.rolls-Set x e)
    refl
layer_same C (Cmd-F.Unset x) = unplaced_runs C (Cmd-F.Unset x) (Cmd-F.Unset x) (cmd.Unset x) refl (cmd.rolls-Unset x)
    refl
layer_same C (Cmd-F.Store size a e) =
    unplaced_runs C (Cmd-F.Store size a e) (Cmd-F.Store size a e) (cmd.Store size a e) refl (cmd.rolls-Store size a e)
    refl
layer_same C (Cmd-F.Stackalloc x n ys) =
    let body = commands_in C ys in
    unplaced_runs C (Cmd-F.Stackalloc x n body) (Cmd-F.Stackalloc x n (map unplaced body))
    (cmd.Stackalloc x n (map unplaced body)) refl (cmd.rolls-Stackalloc x n (map unplaced body))
    (ap (λ (q : List (State → Run)). command_step C (Cmd-F.Stackalloc x n q)) (all_same C ys))
layer_same C (Cmd-F.If e ys zs) =
    let a = commands_in C ys in
    let b = commands_in C zs in
    unplaced_runs C (Cmd-F.If e a b) (Cmd-F.If e (map unplaced a) (map unplaced b))
    (cmd.If e (map unplaced a) (map unplaced b)) refl (cmd.rolls-If e (map unplaced a) (map unplaced b))
    (ap (λ (q : List (State → Run)). command_step C (Cmd-F.If e q (map (run C) (map unplaced b)))) (all_same C ys)
    ∙ ap (λ (q : List (State → Run)). command_step C (Cmd-F.If e (map (run C) a) q)) (all_same C zs))
layer_same C (Cmd-F.While e ys) =
    let body = commands_in C ys in
    unplaced_runs C (Cmd-F.While e body) (Cmd-F.While e (map unplaced body)) (cmd.While e (map unplaced body)) refl
    (cmd.rolls-While e (map unplaced body))
    (ap (λ (q : List (State → Run)). command_step C (Cmd-F.While e q)) (all_same C ys))
layer_same C (Cmd-F.Seq ys) =
    let body = commands_in C ys in
    unplaced_runs C (Cmd-F.Seq body) (Cmd-F.Seq (map unplaced body)) (cmd.Seq (map unplaced body)) refl
    (cmd.rolls-Seq (map unplaced body))
    (ap (λ (q : List (State → Run)). command_step C (Cmd-F.Seq q)) (all_same C ys))
layer_same C (Cmd-F.Call at xs f es) =
    unplaced_runs C (Cmd-F.Call at xs f es) (Cmd-F.Call 0 xs f es) (cmd.Call 0 xs f es) refl (cmd.rolls-Call 0 xs f es)
    refl
layer_same C (Cmd-F.Interact at xs f es) =
    unplaced_runs C (Cmd-F.Interact at xs f es) (Cmd-F.Interact 0 xs f es) (cmd.Interact 0 xs f es) refl
    (cmd.rolls-Interact 0 xs f es) refl

same : (C : Callee) (c : Cmd) → Same C c
same C = ind-Cmd (Same C) (λ x y is. subst (λ (z : Cmd-F Cmd). Same C (roll-Cmd z)) is (layer_same C y))

commands_same : (C : Callee) (cs : List Cmd) → map (run C) (map unplaced cs) ≡ map (run C) cs
commands_same C [] = refl
commands_same C (c ∷ cs) = let here = same C c in let there = commands_same C cs in rw (here, there) refl

-- ---- functions

function_same : (C : Callee) (f : Func) (args : List ℕ) (s : State) →
    run_function C (unplaced_function f) args s ≡ run_function C f args s
function_same C f args s = ap (λ (q : List (State → Run)). returned (words_of f.results)
    (in_turn q (record s { locals = with_locals f.args args no_locals }))) (commands_same C f.body)

enters_same : (C : Callee) (o : Option Func) (args : List ℕ) (s : State) →
    enter C (option_map unplaced_function o) args s ≡ enter C o args s
enters_same C None args s = refl
enters_same C (Some f) args s = function_same C f args s

named_same : (fs : List Func) (x : Name) →
    function_named (without_offsets fs) x ≡ option_map unplaced_function (function_named fs x)
named_same [] x = refl
named_same (f ∷ fs) x = by (bytes_eq f.name x) refl (named_same fs x)
  where
    by : (b : Bool) → bytes_eq f.name x ≡ b →
        function_named (without_offsets fs) x ≡ option_map unplaced_function (function_named fs x) →
        function_named (without_offsets (f ∷ fs)) x ≡ option_map unplaced_function (function_named (f ∷ fs) x)
    by true is there = rw is refl
    by false is there = rw is there

calls_same : (fs : List Func) (depth : ℕ) → function_of (without_offsets fs) depth ≡ function_of fs depth
calls_same fs zero = refl
calls_same fs (suc depth) = fun_ext (λ x. fun_ext (λ args. fun_ext (λ s.
    ap (λ (C : Callee). enter C (function_named (without_offsets fs) x) args s) (calls_same fs depth)
    ∙ ap (λ (o : Option Func). enter (function_of fs depth) o args s) (named_same fs x)
    ∙ enters_same (function_of fs depth) (function_named fs x) args s)))

-- programs that are equal up to offsets do the same
pub equal_calls : (fs gs : List Func) → IsEqualUpToOffsets fs gs →
    (depth : ℕ) → function_of fs depth ≡ function_of gs depth
equal_calls fs gs equal depth = sym (calls_same fs depth)
    ∙ ap (λ (hs : List Func). function_of hs depth) equal ∙ calls_same gs depth

pub equal_runs : (fs gs : List Func) (x : Name) (f g : Func) → IsEqualUpToOffsets fs gs → function_named fs x ≡ Some f →
    function_named gs x ≡ Some g →
    (depth : ℕ) (args : List ℕ) (s : State) →
    run_function (function_of fs depth) f args s ≡ run_function (function_of gs depth) g args s
equal_runs fs gs x f g equal fs_has gs_has depth args s =
    sym (ap (λ (o : Option Func). enter (function_of fs depth) o args s) fs_has)
    ∙ ap (λ (C : Callee). C x args s) (equal_calls fs gs equal (suc depth))
    ∙ ap (λ (o : Option Func). enter (function_of gs depth) o args s) gs_has

-- and have functions of the same names
pub has_too : (fs gs : List Func) (x : Name) (g : Func) → IsEqualUpToOffsets fs gs → function_named gs x ≡ Some g →
    (f : Func) × (function_named fs x ≡ Some f)
has_too fs gs x g equal gs_has =
    by (function_named fs x) (sym (named_same fs x)
    ∙ ap (λ (hs : List Func). function_named hs x) equal ∙ named_same gs x ∙ ap (option_map unplaced_function) gs_has)
  where
    by : (o : Option Func) → option_map unplaced_function o ≡ Some (unplaced_function g) → (f : Func) × (o ≡ Some f)
    by None h = cc
    by (Some f) h = (f, refl)
