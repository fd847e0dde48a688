-- Proofs of the laws.
use Rattle.std.proofs.Common.{◌≡◌, ◌⊎◌, ℕ, List, [], ◌∷◌, Ok, Err, map, refl, sym, ap, ◌∙◌, subst, inl, inr}
use Rattle.br_sexpr.specs.declared.tree.Tree.{Tree}
use Rattle.br_syntax.specs.declared.faults.ShapeFault.{ShapeFault}
use Rattle.br_words.specs.declared.size.Size.{Size}
use Rattle.br_syntax.specs.declared.program.Expr.{Expr}
use Rattle.br_syntax.specs.declared.program.Cmd.{Cmd, roll-Cmd}
use Rattle.br_syntax.specs.declared.program.Cmd.TheVariants as cmd
use Rattle.br_syntax.specs.declared.program.Cmd.TheOpen.{Cmd-F}
use Rattle.br_syntax.specs.declared.program.Cmd.TheFolds.{map-Cmd, ind-Cmd, fold-roll-Cmd}
use Rattle.br_syntax.specs.declared.program.Func.{Func}
use Rattle.br_syntax.specs.Denotes.{functions}
use Rattle.br_syntax.specs.Laws.{HasMeaning, AtMostOneProgram, AtMostOneFault, NeverBoth}
use Rattle.br_syntax.specs.Laws.{KeepsLimits, FaultIsLowest, NoneStands, UnplacedAgain}
use Rattle.br_syntax.specs.Offsets.{unplaced, unplaced_step, unplaced_function}
use Rattle.br_syntax.specs.Shaped.{Shaped}
use Rattle.br_syntax.proofs.Kept.{denoted_is_shaped}
use Rattle.br_syntax.proofs.LowestFault.{lowest_fault, no_fault}

either : (s : Shaped (List Func)) → ((funcs : List Func) × (s ≡ Ok funcs)) ⊎ ((fault : ShapeFault) × (s ≡ Err fault))
either (Ok funcs) = inl (funcs, refl)
either (Err fault) = inr (fault, refl)

pub has_meaning : (trees : List Tree) → HasMeaning trees
has_meaning trees = either (functions trees)

pub one_program : (trees : List Tree) → AtMostOneProgram trees
one_program trees one other a b = let same : Ok one ≡ Ok other = sym a ∙ b in cc

pub one_fault : (trees : List Tree) → AtMostOneFault trees
one_fault trees one other a b = let same : Err one ≡ Err other = sym a ∙ b in cc

pub never_both : (trees : List Tree) → NeverBoth trees
never_both trees funcs fault a b = let same : Ok funcs ≡ Err fault = sym a ∙ b in cc

pub keeps_limits : (trees : List Tree) → KeepsLimits trees
keeps_limits trees funcs = denoted_is_shaped trees funcs

pub is_lowest : (trees : List Tree) → FaultIsLowest trees
is_lowest trees fault is = lowest_fault trees fault is

pub none_stands : (trees : List Tree) → NoneStands trees
none_stands trees funcs is = no_fault trees funcs is

pub ruleset laws = (has_meaning, one_program, one_fault, never_both, keeps_limits, is_lowest, none_stands)

-- a command without its offsets, form by form
unplaced-skip : unplaced cmd.Skip ≡ cmd.Skip
unplaced-skip = ap unplaced (sym cmd.rolls-Skip) ∙ fold-roll-Cmd Cmd unplaced_step Cmd-F.Skip

unplaced-set : (x : List ℕ) (e : Expr) → unplaced (cmd.Set x e) ≡ cmd.Set x e
unplaced-set x e = ap unplaced (sym (cmd.rolls-Set x e)) ∙ fold-roll-Cmd Cmd unplaced_step (Cmd-F.Set x e)

unplaced-unset : (x : List ℕ) → unplaced (cmd.Unset x) ≡ cmd.Unset x
unplaced-unset x = ap unplaced (sym (cmd.rolls-Unset x)) ∙ fold-roll-Cmd Cmd unplaced_step (Cmd-F.Unset x)

unplaced-store : (size : Size) (a e : Expr) → unplaced (cmd.Store size a e) ≡ cmd.Store size a e
unplaced-store size a e =
    ap unplaced (sym (cmd.rolls-Store size a e)) ∙ fold-roll-Cmd Cmd unplaced_step (Cmd-F.Store size a e)

unplaced-stackalloc : (x : List ℕ) (n : ℕ) (body : List Cmd)
    → unplaced (cmd.Stackalloc x n body) ≡ cmd.Stackalloc x n (map unplaced body)
unplaced-stackalloc x n body =
    ap unplaced (sym (cmd.rolls-Stackalloc x n body)) ∙ fold-roll-Cmd Cmd unplaced_step (Cmd-F.Stackalloc x n body)

unplaced-if : (e : Expr) (a b : List Cmd) → unplaced (cmd.If e a b) ≡ cmd.If e (map unplaced a) (map unplaced b)
unplaced-if e a b = ap unplaced (sym (cmd.rolls-If e a b)) ∙ fold-roll-Cmd Cmd unplaced_step (Cmd-F.If e a b)

unplaced-while : (e : Expr) (body : List Cmd) → unplaced (cmd.While e body) ≡ cmd.While e (map unplaced body)
unplaced-while e body =
    ap unplaced (sym (cmd.rolls-While e body)) ∙ fold-roll-Cmd Cmd unplaced_step (Cmd-F.While e body)

unplaced-seq : (body : List Cmd) → unplaced (cmd.Seq body) ≡ cmd.Seq (map unplaced body)
unplaced-seq body = ap unplaced (sym (cmd.rolls-Seq body)) ∙ fold-roll-Cmd Cmd unplaced_step (Cmd-F.Seq body)

unplaced-call : (at : ℕ) (outs : List (List ℕ)) (x : List ℕ) (args : List Expr)
    → unplaced (cmd.Call at outs x args) ≡ cmd.Call 0 outs x args
unplaced-call at outs x args =
    ap unplaced (sym (cmd.rolls-Call at outs x args)) ∙ fold-roll-Cmd Cmd unplaced_step (Cmd-F.Call at outs x args)

unplaced-interact : (at : ℕ) (outs : List (List ℕ)) (x : List ℕ) (args : List Expr)
    → unplaced (cmd.Interact at outs x args) ≡ cmd.Interact 0 outs x args
unplaced-interact at outs x args = ap unplaced (sym (cmd.rolls-Interact at outs x args))
    ∙ fold-roll-Cmd Cmd unplaced_step (Cmd-F.Interact at outs x args)

-- offsets that are left out twice are left out once
abbrev Twice : Cmd → Type 0
Twice c = unplaced (unplaced c) ≡ unplaced c

abbrev TwiceCmd : Type 0
TwiceCmd = (c : Cmd) × Twice c

abbrev command_in : TwiceCmd → Cmd
command_in y = y.0

all_twice : (ys : List TwiceCmd) → map unplaced (map unplaced (map command_in ys)) ≡ map unplaced (map command_in ys)
all_twice [] = refl
all_twice (y ∷ ys) = let here = y.1 in let there = all_twice ys in rw (here, there) refl

layer_twice : (y : Cmd-F TwiceCmd) → Twice (roll-Cmd (map-Cmd TwiceCmd Cmd command_in y))
layer_twice Cmd-F.Skip = rw (cmd.rolls-Skip, unplaced-skip) unplaced-skip
layer_twice (Cmd-F.Set x e) = rw (cmd.rolls-Set x e, unplaced-set x e) (unplaced-set x e)
layer_twice (Cmd-F.Unset x) = rw (cmd.rolls-Unset x, unplaced-unset x) (unplaced-unset x)
layer_twice (Cmd-F.Store size a e) = rw (cmd.rolls-Store size a e, unplaced-store size a e) (unplaced-store size a e)
layer_twice (Cmd-F.Stackalloc x n ys) =
    let body = map command_in ys in
    rw (cmd.rolls-Stackalloc x n body, unplaced-stackalloc x n body)
    (unplaced-stackalloc x n (map unplaced body) ∙ ap (cmd.Stackalloc x n) (all_twice ys))
layer_twice (Cmd-F.If e ys zs) =
    let a = map command_in ys in
    let b = map command_in zs in
    rw (cmd.rolls-If e a b, unplaced-if e a b)
    (unplaced-if e (map unplaced a) (map unplaced b)
    ∙ ap (λ (cs : List Cmd). cmd.If e cs (map unplaced (map unplaced b))) (all_twice ys)
    ∙ ap (cmd.If e (map unplaced a)) (all_twice zs))
layer_twice (Cmd-F.While e ys) =
    let body = map command_in ys in
    rw (cmd.rolls-While e body, unplaced-while e body)
    (unplaced-while e (map unplaced body) ∙ ap (cmd.While e) (all_twice ys))
layer_twice (Cmd-F.Seq ys) =
    let body = map command_in ys in
    rw (cmd.rolls-Seq body, unplaced-seq body) (unplaced-seq (map unplaced body) ∙ ap cmd.Seq (all_twice ys))
layer_twice (Cmd-F.Call at outs x args) =
    rw (cmd.rolls-Call at outs x args, unplaced-call at outs x args) (unplaced-call 0 outs x args)
layer_twice (Cmd-F.Interact at outs x args) =
    rw (cmd.rolls-Interact at outs x args, unplaced-interact at outs x args) (unplaced-interact 0 outs x args)

twice : (c : Cmd) → Twice c
twice = ind-Cmd Twice (λ x y is. subst (λ (z : Cmd-F Cmd). Twice (roll-Cmd z)) is (layer_twice y))

commands_twice : (cs : List Cmd) → map unplaced (map unplaced cs) ≡ map unplaced cs
commands_twice [] = refl
commands_twice (c ∷ cs) = let here = twice c in let there = commands_twice cs in rw (here, there) refl

function_twice : (f : Func) → unplaced_function (unplaced_function f) ≡ unplaced_function f
function_twice f = ap (λ (body : List Cmd). record f { at = 0; body = body }) (commands_twice f.body)

pub unplaced_again : (funcs : List Func) → UnplacedAgain funcs
unplaced_again [] = refl
unplaced_again (f ∷ fs) = let here = function_twice f in let there = unplaced_again fs in rw (here, there) refl
