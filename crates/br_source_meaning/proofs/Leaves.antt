-- What runs of the source leave: the earlier events stay, answers and choices are taken from the front,
-- and fuel does not grow.
use Rattle.std.proofs.Common.{ℕ, zero, suc, ◌==◌, List, [], ◌∷◌, map, Option, Some, None, sym, subst, codes}
use Rattle.std.specs.Str.{bytes_eq}
use Rattle.br_words.specs.Size.{size_of}
use Rattle.br_bytes.specs.Memory.{put_number}
use Rattle.br_bytes.specs.Left.{CanLeave, last_of_call, OnlyTakes}
use Rattle.br_bytes.proofs.Leaves.{Takes, leave_refl, leaves-then_do, leaves-with_defined, leaves-choose}
use Rattle.br_bytes.proofs.Leaves.{leaves-with_fuel, leaves-loop, leaves-with_buffer, leaves-read_device}
use Rattle.br_bytes.proofs.Leaves.{leaves-write_device, leaves-back_in, leaves-returned}
use Rattle.br_syntax.specs.declared.program.Cmd.{Cmd, map-Cmd}
use Rattle.br_syntax.specs.declared.program.Func.{Func}
use Rattle.br_syntax.specs.declared.program.Cmd.TheOpen.{Cmd-F}
use Rattle.br_syntax.specs.declared.program.Cmd.TheFolds.{fold-roll-Cmd, ind-Cmd}
use Rattle.br_syntax.specs.Functions.{function_named}
use Rattle.br_source_meaning.specs.Values.{Name, no_locals, with_local, value, values}
use Rattle.br_source_meaning.specs.Runs.{State, Undefined, Run, Goes, Ends, in_turn, with_defined, choose, with_fuel}
use Rattle.br_source_meaning.specs.Runs.{set_to, read_by, write_by, interact, Callee, with_locals, back_in}
use Rattle.br_source_meaning.specs.Runs.{command_step, run, run_all}
use Rattle.br_source_meaning.specs.Calls.{words_of, run_function, enter, function_of}

leaves-read_by : (xs : List Name) (vs : List ℕ) → Takes (read_by xs vs)
leaves-read_by [] vs s = leave_refl s
leaves-read_by (x ∷ []) [] s = leave_refl s
leaves-read_by (x ∷ []) (a ∷ []) s = leaves-read_device (with_local x) a s
leaves-read_by (x ∷ []) (a ∷ b ∷ vs) s = leave_refl s
leaves-read_by (x ∷ y ∷ xs) vs s = leave_refl s

leaves-write_by : (xs : List Name) (vs : List ℕ) → Takes (write_by xs vs)
leaves-write_by [] [] s = leave_refl s
leaves-write_by [] (a ∷ []) s = leave_refl s
leaves-write_by [] (a ∷ v ∷ []) s = leaves-write_device a v s
leaves-write_by [] (a ∷ v ∷ w ∷ vs) s = leave_refl s
leaves-write_by (x ∷ xs) vs s = leave_refl s

pub leaves-interact : (xs : List Name) (action : Name) (vs : List ℕ) → Takes (interact xs action vs)
leaves-interact xs action vs s =
    let write : Run = choose (bytes_eq action (codes "MMIOWRITE")) (write_by xs vs s) (Ends Undefined s) in
    leaves-choose (bytes_eq action (codes "MMIOREAD")) s (read_by xs vs s) write (leaves-read_by xs vs s)
    (leaves-choose (bytes_eq action (codes "MMIOWRITE")) s (write_by xs vs s) (Ends Undefined s)
    (leaves-write_by xs vs s) (leave_refl s))

-- commands in turn, each with its fact beside it
leaves-each : (call : Callee) (cs : List ((c : Cmd) × Takes (run call c)))
    → Takes (in_turn (map (run call) (map (λ e. e.0) cs)))
leaves-each call [] s = leave_refl s
leaves-each call (e ∷ cs) s =
    leaves-then_do s (run call e.0 s) (in_turn (map (run call) (map (λ e. e.0) cs))) (e.1 s) (leaves-each call cs)

leaves-step : (call : Callee) → OnlyTakes call → (y : Cmd-F ((c : Cmd) × Takes (run call c)))
    → Takes (command_step call
    (map-Cmd Cmd (State → Run) (run call) (map-Cmd ((c : Cmd) × Takes (run call c)) Cmd (λ e. e.0) y)))
leaves-step call h Cmd-F.Skip s = leave_refl s
leaves-step call h (Cmd-F.Set x e) s =
    leaves-with_defined (value s.locals s.memory e) s (λ v. Goes (set_to x v s)) (λ v. leave_refl s)
leaves-step call h (Cmd-F.Unset x) s = leave_refl s
leaves-step call h (Cmd-F.Store size a e) s =
    let put : ℕ → ℕ → Run = λ a v. with_defined (put_number s.memory a (size_of size) v) s
    (λ m. Goes (record s { memory = m })) in
    leaves-with_defined (value s.locals s.memory a) s (λ a. with_defined (value s.locals s.memory e) s (put a)) (λ a.
    leaves-with_defined (value s.locals s.memory e) s (put a) (λ v.
    leaves-with_defined (put_number s.memory a (size_of size) v) s (λ m. Goes (record s { memory = m }))
    (λ m. leave_refl s)))
leaves-step call h (Cmd-F.Stackalloc x n body) s =
    leaves-with_buffer (with_local x) n (in_turn (map (run call) (map (λ e. e.0) body))) (leaves-each call body) s
leaves-step call h (Cmd-F.If e first second) s =
    let one : Run = in_turn (map (run call) (map (λ e. e.0) first)) s in
    let two : Run = in_turn (map (run call) (map (λ e. e.0) second)) s in
    leaves-with_defined (value s.locals s.memory e) s (λ v. choose (v == 0) two one) (λ v.
    leaves-choose (v == 0) s two one (leaves-each call second s) (leaves-each call first s))
leaves-step call h (Cmd-F.While e body) s =
    leaves-loop s.fuel (λ t. value t.locals t.memory e) (in_turn (map (run call) (map (λ e. e.0) body)))
    (leaves-each call body) s
leaves-step call h (Cmd-F.Seq body) s = leaves-each call body s
leaves-step call h (Cmd-F.Call at xs callee es) s =
    leaves-with_defined (values s.locals s.memory es) s
    (λ vs. with_fuel s (λ t. back_in (with_locals xs) s.locals (call callee vs t))) (λ vs.
    leaves-with_fuel s (λ t. back_in (with_locals xs) s.locals (call callee vs t))
    (λ t. leaves-back_in t (with_locals xs) s.locals (call callee vs t) (h callee vs t)))
leaves-step call h (Cmd-F.Interact at xs action es) s =
    leaves-with_defined (values s.locals s.memory es) s (λ vs. interact xs action vs s)
    (λ vs. leaves-interact xs action vs s)

pub leaves-run : (call : Callee) → OnlyTakes call → (c : Cmd) → Takes (run call c)
leaves-run call h = ind-Cmd (λ c. Takes (run call c)) (λ x y is.
    let step = subst (λ z. Takes (command_step call (map-Cmd Cmd (State → Run) (run call) z))) is (leaves-step call h y)
    in
    subst Takes (sym (fold-roll-Cmd (State → Run) (command_step call) x)) step)

pub leaves-run_all : (call : Callee) → OnlyTakes call → (cs : List Cmd) → Takes (run_all call cs)
leaves-run_all call h [] s = leave_refl s
leaves-run_all call h (c ∷ cs) s =
    leaves-then_do s (run call c s) (run_all call cs) (leaves-run call h c s) (leaves-run_all call h cs)

pub leaves-run_function : (call : Callee) → OnlyTakes call → (f : Func) (args : List ℕ) (s : State)
    → CanLeave s (last_of_call (run_function call f args s))
leaves-run_function call h f args s =
    let inside : State = record s { locals = with_locals f.args args no_locals } in
    leaves-returned s (words_of f.results) (run_all call f.body inside) (leaves-run_all call h f.body inside)

leaves-enter : (call : Callee) → OnlyTakes call → (o : Option Func) (args : List ℕ) (s : State)
    → CanLeave s (last_of_call (enter call o args s))
leaves-enter call h None args s = leave_refl s
leaves-enter call h (Some f) args s = leaves-run_function call h f args s

pub leaves-function_of : (fs : List Func) (depth : ℕ) → OnlyTakes (function_of fs depth)
leaves-function_of fs zero f args s = leave_refl s
leaves-function_of fs (suc depth) f args s =
    leaves-enter (function_of fs depth) (leaves-function_of fs depth) (function_named fs f) args s
