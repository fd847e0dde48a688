-- What runs of flat programs leave: the earlier events stay, answers and choices are taken from the front,
-- and fuel does not grow.
use Rattle.std.proofs.Common.{ℕ, zero, suc, ◌==◌, List, [], ◌∷◌, map, Option, Some, None, sym, subst, slice_get}
use Rattle.br_words.specs.Size.{size_of}
use Rattle.br_words.specs.Words.{value_of_op}
use Rattle.br_bytes.specs.Memory.{get_number, put_number}
use Rattle.br_bytes.specs.Buffers.{table_number}
use Rattle.br_bytes.specs.Left.{CanLeave, last_of_call, OnlyTakes}
use Rattle.br_bytes.specs.Runs.{Goes, then_do, in_turn, with_defined, choose}
use Rattle.br_bytes.specs.Runs.{with_fuel, loop, read_device, write_device, back_in}
use Rattle.br_bytes.proofs.Leaves.{Takes, leave_refl, leaves-then_do, leaves-with_defined, leaves-choose}
use Rattle.br_bytes.proofs.Leaves.{leaves-with_fuel, leaves-loop, leaves-with_buffer, leaves-read_device}
use Rattle.br_bytes.proofs.Leaves.{leaves-write_device, leaves-back_in, leaves-returned}
use Rattle.br_flatimp.specs.declared.program.Stmt.{Stmt, map-Stmt}
use Rattle.br_flatimp.specs.declared.program.Stmt.TheOpen.{Stmt-F}
use Rattle.br_flatimp.specs.declared.program.Stmt.TheFolds.{fold-roll-Stmt, ind-Stmt}
use Rattle.br_flatimp.specs.declared.program.FlatFunc.{FlatFunc}
use Rattle.br_flatimp.specs.Values.{Locals, no_locals, with_local, with_locals}
use Rattle.br_flatimp.specs.Values.{without_names, words_of, operand_word, moved, test_word}
use Rattle.br_flatimp.specs.Runs.{State, Run, Callee, Forgets, set_to, statement_step}
use Rattle.br_flatimp.specs.Runs.{run, run_all, run_function, enter, function_of}

-- statements in turn, each with its fact beside it
leaves-each : (forgets : Forgets) (call : Callee) (cs : List ((c : Stmt) × Takes (run forgets call c)))
    → Takes (in_turn (map (run forgets call) (map (λ e. e.0) cs)))
leaves-each forgets call [] s = leave_refl s
leaves-each forgets call (e ∷ cs) s = leaves-then_do s (run forgets call e.0 s)
    (in_turn (map (run forgets call) (map (λ e. e.0) cs))) (e.1 s) (leaves-each forgets call cs)

leaves-step : (forgets : Forgets) (call : Callee) → OnlyTakes call
    → (y : Stmt-F ((c : Stmt) × Takes (run forgets call c))) → Takes (statement_step forgets call (map-Stmt Stmt
    (State → Run) (run forgets call) (map-Stmt ((c : Stmt) × Takes (run forgets call c)) Stmt (λ e. e.0) y)))
leaves-step forgets call h (Stmt-F.Lit x n) s = leave_refl s
leaves-step forgets call h (Stmt-F.Copy x y) s =
    leaves-with_defined (s.locals y) s (λ v. Goes (set_to x v s)) (λ v. leave_refl s)
leaves-step forgets call h (Stmt-F.Op x op y z) s =
    let put : ℕ → ℕ → Run = λ a b. Goes (set_to x (value_of_op op a b) s) in
    leaves-with_defined (s.locals y) s (λ a. with_defined (operand_word z s.locals) s (put a)) (λ a.
    leaves-with_defined (operand_word z s.locals) s (put a) (λ b. leave_refl s))
leaves-step forgets call h (Stmt-F.Load x size y offset) s =
    let put : ℕ → Run = λ v. Goes (set_to x v s) in
    leaves-with_defined (s.locals y) s
    (λ a. with_defined (get_number s.memory (moved a offset) (size_of size)) s put) (λ a.
    leaves-with_defined (get_number s.memory (moved a offset) (size_of size)) s put (λ v. leave_refl s))
leaves-step forgets call h (Stmt-F.Store size y z offset) s =
    let put : ℕ → ℕ → Run = λ a v.
    with_defined (put_number s.memory (moved a offset) (size_of size) v) s (λ m. Goes (record s { memory = m })) in
    leaves-with_defined (s.locals y) s (λ a. with_defined (s.locals z) s (put a)) (λ a.
    leaves-with_defined (s.locals z) s (put a) (λ v.
    leaves-with_defined (put_number s.memory (moved a offset) (size_of size) v) s (λ m. Goes (record s { memory = m }))
    (λ m. leave_refl s)))
leaves-step forgets call h (Stmt-F.Table x size bytes y) s =
    let put : ℕ → Run = λ v. Goes (set_to x v s) in
    leaves-with_defined (s.locals y) s (λ i. with_defined (table_number bytes i (size_of size)) s put) (λ i.
    leaves-with_defined (table_number bytes i (size_of size)) s put (λ v. leave_refl s))
leaves-step forgets call h (Stmt-F.Stackalloc x n body) s = leaves-with_buffer (with_local x) n
    (in_turn (map (run forgets call) (map (λ e. e.0) body))) (leaves-each forgets call body) s
leaves-step forgets call h (Stmt-F.If test first second) s =
    let one : Run = in_turn (map (run forgets call) (map (λ e. e.0) first)) s in
    let two : Run = in_turn (map (run forgets call) (map (λ e. e.0) second)) s in
    leaves-with_defined (test_word test s.locals) s (λ v. choose (v == 0) two one) (λ v.
    leaves-choose (v == 0) s two one (leaves-each forgets call second s) (leaves-each forgets call first s))
leaves-step forgets call h (Stmt-F.Loop first test last) s =
    let one : State → Run = in_turn (map (run forgets call) (map (λ e. e.0) first)) in
    let two : State → Run = in_turn (map (run forgets call) (map (λ e. e.0) last)) in
    let turn : State → Run = λ u. then_do (two u) one in
    leaves-then_do s (one s) (λ t. loop t.fuel (λ u. test_word test u.locals) turn t)
    (leaves-each forgets call first s) (λ t.
    leaves-loop t.fuel (λ u. test_word test u.locals) turn
    (λ u. leaves-then_do u (two u) one (leaves-each forgets call last u) (leaves-each forgets call first)) t)
leaves-step forgets call h (Stmt-F.Call xs g ys) s =
    let before : Locals = without_names (forgets g) s.locals in
    leaves-with_defined (words_of ys s.locals) s
    (λ vs. with_fuel s (λ t. back_in (with_locals xs) before (call g vs t))) (λ vs.
    leaves-with_fuel s (λ t. back_in (with_locals xs) before (call g vs t))
    (λ t. leaves-back_in t (with_locals xs) before (call g vs t) (h g vs t)))
leaves-step forgets call h (Stmt-F.Read x y) s =
    leaves-with_defined (s.locals y) s (λ a. read_device (with_local x) a s)
    (λ a. leaves-read_device (with_local x) a s)
leaves-step forgets call h (Stmt-F.Write y z) s =
    leaves-with_defined (s.locals y) s (λ a. with_defined (s.locals z) s (λ v. write_device a v s)) (λ a.
    leaves-with_defined (s.locals z) s (λ v. write_device a v s) (λ v. leaves-write_device a v s))

pub leaves-run : (forgets : Forgets) (call : Callee) → OnlyTakes call → (c : Stmt) → Takes (run forgets call c)
leaves-run forgets call h = ind-Stmt (λ c. Takes (run forgets call c)) (λ x y is.
    let step = subst (λ z. Takes (statement_step forgets call (map-Stmt Stmt (State → Run) (run forgets call) z))) is
    (leaves-step forgets call h y) in
    subst Takes (sym (fold-roll-Stmt (State → Run) (statement_step forgets call) x)) step)

pub leaves-run_all : (forgets : Forgets) (call : Callee) → OnlyTakes call → (cs : List Stmt)
    → Takes (run_all forgets call cs)
leaves-run_all forgets call h [] s = leave_refl s
leaves-run_all forgets call h (c ∷ cs) s = leaves-then_do s (run forgets call c s) (run_all forgets call cs)
    (leaves-run forgets call h c s) (leaves-run_all forgets call h cs)

pub leaves-run_function : (forgets : Forgets) (call : Callee) → OnlyTakes call
    → (f : FlatFunc) (args : List ℕ) (s : State) → CanLeave s (last_of_call (run_function forgets call f args s))
leaves-run_function forgets call h f args s =
    let inside : State = record s { locals = with_locals f.args args no_locals } in
    leaves-returned s (words_of f.results) (run_all forgets call f.body inside)
    (leaves-run_all forgets call h f.body inside)

leaves-enter : (forgets : Forgets) (call : Callee) → OnlyTakes call → (o : Option FlatFunc) (args : List ℕ) (s : State)
    → CanLeave s (last_of_call (enter forgets call o args s))
leaves-enter forgets call h None args s = leave_refl s
leaves-enter forgets call h (Some f) args s = leaves-run_function forgets call h f args s

pub leaves-function_of : (forgets : Forgets) (fs : List FlatFunc) (depth : ℕ) → OnlyTakes (function_of forgets fs depth)
leaves-function_of forgets fs zero g args s = leave_refl s
leaves-function_of forgets fs (suc depth) g args s =
    leaves-enter forgets (function_of forgets fs depth) (leaves-function_of forgets fs depth) (slice_get fs g) args s
