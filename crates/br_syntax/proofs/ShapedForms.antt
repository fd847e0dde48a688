-- What the limits of a program ask of each form of command.
use Rattle.std.proofs.Common.{◌≡◌, ℕ, Bool, true, ◌&&◌, List, [], ◌∷◌, map, refl, sym, ap, ◌∙◌}
use Rattle.std.specs.List.{list_all}
use Rattle.br_words.specs.declared.size.Size.{Size}
use Rattle.br_syntax.specs.declared.program.Expr.{Expr}
use Rattle.br_syntax.specs.declared.program.Cmd.{Cmd, roll-Cmd}
use Rattle.br_syntax.specs.declared.program.Cmd.TheVariants as cmd
use Rattle.br_syntax.specs.declared.program.Cmd.TheOpen.{Cmd-F}
use Rattle.br_syntax.specs.declared.program.Cmd.TheFolds.{map-Cmd, fold-roll-Cmd}
use Rattle.br_syntax.specs.Shape.{is_shaped_command, command_step, is_buffer_size, are_names, are_arguments}
use Rattle.br_syntax.proofs.Written.{and_parts}

shaped-layer : (layer : Cmd-F Cmd)
    → is_shaped_command (roll-Cmd layer) ≡ command_step (map-Cmd Cmd Bool is_shaped_command layer)
shaped-layer layer = fold-roll-Cmd Bool command_step layer

tests-map : (cs : List Cmd) → list_all (λ (ok : Bool). ok) (map is_shaped_command cs) ≡ list_all is_shaped_command cs
tests-map [] = refl
tests-map (c ∷ cs) = ap (λ b. is_shaped_command c && b) (tests-map cs)

pub shaped-skip : is_shaped_command cmd.Skip ≡ true
shaped-skip = ap is_shaped_command (sym cmd.rolls-Skip) ∙ shaped-layer Cmd-F.Skip

pub shaped-set : (x : List ℕ) (v : Expr) → is_shaped_command (cmd.Set x v) ≡ true
shaped-set x v = ap is_shaped_command (sym (cmd.rolls-Set x v)) ∙ shaped-layer (Cmd-F.Set x v)

pub shaped-unset : (x : List ℕ) → is_shaped_command (cmd.Unset x) ≡ true
shaped-unset x = ap is_shaped_command (sym (cmd.rolls-Unset x)) ∙ shaped-layer (Cmd-F.Unset x)

pub shaped-store : (size : Size) (a v : Expr) → is_shaped_command (cmd.Store size a v) ≡ true
shaped-store size a v = ap is_shaped_command (sym (cmd.rolls-Store size a v)) ∙ shaped-layer (Cmd-F.Store size a v)

pub shaped-stackalloc : (x : List ℕ) (n : ℕ) (body : List Cmd)
    → is_shaped_command (cmd.Stackalloc x n body) ≡ (is_buffer_size n && list_all is_shaped_command body)
shaped-stackalloc x n body = ap is_shaped_command (sym (cmd.rolls-Stackalloc x n body))
    ∙ shaped-layer (Cmd-F.Stackalloc x n body) ∙ ap (λ b. is_buffer_size n && b) (tests-map body)

pub shaped-if : (e : Expr) (a b : List Cmd)
    → is_shaped_command (cmd.If e a b) ≡ (list_all is_shaped_command a && list_all is_shaped_command b)
shaped-if e a b =
    ap is_shaped_command (sym (cmd.rolls-If e a b)) ∙ shaped-layer (Cmd-F.If e a b) ∙ rw (tests-map a, tests-map b) refl

pub shaped-while : (e : Expr) (body : List Cmd) → is_shaped_command (cmd.While e body) ≡ list_all is_shaped_command body
shaped-while e body =
    ap is_shaped_command (sym (cmd.rolls-While e body)) ∙ shaped-layer (Cmd-F.While e body) ∙ tests-map body

pub shaped-seq : (body : List Cmd) → is_shaped_command (cmd.Seq body) ≡ list_all is_shaped_command body
shaped-seq body = ap is_shaped_command (sym (cmd.rolls-Seq body)) ∙ shaped-layer (Cmd-F.Seq body) ∙ tests-map body

pub shaped-call : (at : ℕ) (results : List (List ℕ)) (callee : List ℕ) (arguments : List Expr)
    → is_shaped_command (cmd.Call at results callee arguments) ≡ (are_names results && are_arguments arguments)
shaped-call at results callee arguments = ap is_shaped_command (sym (cmd.rolls-Call at results callee arguments))
    ∙ shaped-layer (Cmd-F.Call at results callee arguments)

pub shaped-interact : (at : ℕ) (results : List (List ℕ)) (action : List ℕ) (arguments : List Expr)
    → is_shaped_command (cmd.Interact at results action arguments) ≡ (are_names results && are_arguments arguments)
shaped-interact at results action arguments =
    ap is_shaped_command (sym (cmd.rolls-Interact at results action arguments))
    ∙ shaped-layer (Cmd-F.Interact at results action arguments)

pub stackalloc_parts : (c : Cmd) (x : List ℕ) (n : ℕ) (body : List Cmd) → is_shaped_command c ≡ true
    → c ≡ cmd.Stackalloc x n body → (is_buffer_size n ≡ true) × (list_all is_shaped_command body ≡ true)
stackalloc_parts c x n body ok is = and_parts (is_buffer_size n) (list_all is_shaped_command body)
    (sym (shaped-stackalloc x n body) ∙ ap is_shaped_command (sym is) ∙ ok)

pub if_parts : (c : Cmd) (e : Expr) (a b : List Cmd) → is_shaped_command c ≡ true → c ≡ cmd.If e a b
    → (list_all is_shaped_command a ≡ true) × (list_all is_shaped_command b ≡ true)
if_parts c e a b ok is = and_parts (list_all is_shaped_command a) (list_all is_shaped_command b)
    (sym (shaped-if e a b) ∙ ap is_shaped_command (sym is) ∙ ok)

pub while_part : (c : Cmd) (e : Expr) (body : List Cmd) → is_shaped_command c ≡ true → c ≡ cmd.While e body
    → list_all is_shaped_command body ≡ true
while_part c e body ok is = sym (shaped-while e body) ∙ ap is_shaped_command (sym is) ∙ ok

pub seq_part : (c : Cmd) (body : List Cmd) → is_shaped_command c ≡ true → c ≡ cmd.Seq body
    → list_all is_shaped_command body ≡ true
seq_part c body ok is = sym (shaped-seq body) ∙ ap is_shaped_command (sym is) ∙ ok

pub call_parts : (c : Cmd) (at : ℕ) (results : List (List ℕ)) (callee : List ℕ) (arguments : List Expr)
    → is_shaped_command c ≡ true → c ≡ cmd.Call at results callee arguments
    → (are_names results ≡ true) × (are_arguments arguments ≡ true)
call_parts c at results callee arguments ok is = and_parts (are_names results) (are_arguments arguments)
    (sym (shaped-call at results callee arguments) ∙ ap is_shaped_command (sym is) ∙ ok)

pub interact_parts : (c : Cmd) (at : ℕ) (results : List (List ℕ)) (action : List ℕ) (arguments : List Expr)
    → is_shaped_command c ≡ true → c ≡ cmd.Interact at results action arguments
    → (are_names results ≡ true) × (are_arguments arguments ≡ true)
interact_parts c at results action arguments ok is = and_parts (are_names results) (are_arguments arguments)
    (sym (shaped-interact at results action arguments) ∙ ap is_shaped_command (sym is) ∙ ok)

both_true : (a b : Bool) → a ≡ true → b ≡ true → (a && b) ≡ true
both_true a b e f = rw (e, f) refl

pub stackalloc_kept : (x : List ℕ) (n : ℕ) (body : List Cmd) → is_buffer_size n ≡ true
    → list_all is_shaped_command body ≡ true → is_shaped_command (cmd.Stackalloc x n body) ≡ true
stackalloc_kept x n body size inner =
    shaped-stackalloc x n body ∙ both_true (is_buffer_size n) (list_all is_shaped_command body) size inner

pub if_kept : (e : Expr) (a b : List Cmd) → list_all is_shaped_command a ≡ true → list_all is_shaped_command b ≡ true
    → is_shaped_command (cmd.If e a b) ≡ true
if_kept e a b first second =
    shaped-if e a b ∙ both_true (list_all is_shaped_command a) (list_all is_shaped_command b) first second

pub while_kept : (e : Expr) (body : List Cmd) → list_all is_shaped_command body ≡ true
    → is_shaped_command (cmd.While e body) ≡ true
while_kept e body inner = shaped-while e body ∙ inner

pub seq_kept : (body : List Cmd) → list_all is_shaped_command body ≡ true → is_shaped_command (cmd.Seq body) ≡ true
seq_kept body inner = shaped-seq body ∙ inner

-- results and arguments within their limits
pub record Within (results : List (List ℕ)) (arguments : List Expr) : Type 0 where
  pub names_ok : are_names results ≡ true
  pub few : are_arguments arguments ≡ true

pub call_kept : (at : ℕ) (results : List (List ℕ)) (callee : List ℕ) (arguments : List Expr) → Within results arguments
    → is_shaped_command (cmd.Call at results callee arguments) ≡ true
call_kept at results callee arguments w =
    shaped-call at results callee arguments ∙ both_true (are_names results) (are_arguments arguments) w.names_ok w.few

pub interact_kept : (at : ℕ) (results : List (List ℕ)) (action : List ℕ) (arguments : List Expr)
    → Within results arguments → is_shaped_command (cmd.Interact at results action arguments) ≡ true
interact_kept at results action arguments w = shaped-interact at results action arguments
    ∙ both_true (are_names results) (are_arguments arguments) w.names_ok w.few
