-- What is left of a command without its offsets, for the forms that a last call makes.
use Rattle.std.proofs.Common.{◌≡◌, ℕ, ◌+◌, ◌<◌, List, [], ◌∷◌, ◌++◌, Ok, length, get_or, take, map, refl, sym, ap, ◌∙◌}
use Rattle.std.proofs.lemmas.List.{take_more}
use Rattle.br_sexpr.specs.declared.tree.Tree.{Tree}
use Rattle.br_syntax.specs.declared.program.Expr.{Expr}
use Rattle.br_syntax.specs.declared.program.Cmd.{Cmd}
use Rattle.br_syntax.specs.declared.program.Cmd.TheVariants as cmd
use Rattle.br_syntax.specs.declared.program.Cmd.TheOpen.{Cmd-F}
use Rattle.br_syntax.specs.declared.program.Cmd.TheFolds.{fold-roll-Cmd}
use Rattle.br_syntax.specs.declared.program.Func.{Func}
use Rattle.br_syntax.specs.Denotes.{function, functions, command, commands, WithPlaces, with_places}
use Rattle.br_syntax.specs.Shaped.{all}
use Rattle.br_syntax.specs.Offsets.{unplaced_function, unplaced, unplaced_step}
use Rattle.br_syntax.proofs.Written.{map-push, all_push_tree}

pub unplaced-seq : (c : Cmd) (body : List Cmd) → c ≡ cmd.Seq body → cmd.Seq (map unplaced body) ≡ unplaced c
unplaced-seq c body is =
    sym (ap unplaced (is ∙ sym (cmd.rolls-Seq body)) ∙ fold-roll-Cmd Cmd unplaced_step (Cmd-F.Seq body))

pub unplaced-call : (c : Cmd) (at : ℕ) (results : List (List ℕ)) (callee : List ℕ) (arguments : List Expr)
    → c ≡ cmd.Call at results callee arguments → cmd.Call 0 results callee arguments ≡ unplaced c
unplaced-call c at results callee arguments is =
    sym (ap unplaced (is ∙ sym (cmd.rolls-Call at results callee arguments))
    ∙ fold-roll-Cmd Cmd unplaced_step (Cmd-F.Call at results callee arguments))

pub unplaced-interact : (c : Cmd) (at : ℕ) (results : List (List ℕ)) (action : List ℕ) (arguments : List Expr)
    → c ≡ cmd.Interact at results action arguments → cmd.Interact 0 results action arguments ≡ unplaced c
unplaced-interact c at results action arguments is =
    sym (ap unplaced (is ∙ sym (cmd.rolls-Interact at results action arguments))
    ∙ fold-roll-Cmd Cmd unplaced_step (Cmd-F.Interact at results action arguments))

-- commands as the trees of a list, one by one
commands-map : (ts : List Tree) → commands ts ≡ all (map command ts)
commands-map ts = ap all (map-map ts)
  where
    map-map : (ts : List Tree) → map (λ (part : WithPlaces). part.1.command) (map with_places ts) ≡ map command ts
    map-map [] = refl
    map-map (t ∷ ts) = ap (λ more. command t ∷ more) (map-map ts)

-- one command more
pub command_push : (trees : List Tree) (cs : List Cmd) (i : ℕ) (t : Tree) (c : Cmd)
    → i < length cs → c ≡ get_or cs i c → command t ≡ Ok (unplaced c) → commands trees ≡ Ok (map unplaced (take i cs))
    → commands (trees ++ t ∷ []) ≡ Ok (map unplaced (take (i + 1) cs))
command_push trees cs i t c inside is here done =
    let more : take (i + 1) cs ≡ take i cs ++ c ∷ [] = take_more cs i c inside
    ∙ ap (λ (m : Cmd). take i cs ++ m ∷ []) (sym is) in
    commands-map (trees ++ t ∷ [])
    ∙ all_push_tree command trees (map unplaced (take i cs)) t (unplaced c) (sym (commands-map trees) ∙ done) here
    ∙ ap Ok (sym (map-push unplaced (take i cs) c) ∙ ap (λ (xs : List Cmd). map unplaced xs) (sym more))

-- one function more
pub function_push : (trees : List Tree) (fs : List Func) (i : ℕ) (t : Tree) (f : Func) → i < length fs → f
    ≡ get_or fs i f → function t ≡ Ok (unplaced_function f) → functions trees ≡ Ok (map unplaced_function (take i fs))
    → functions (trees ++ t ∷ []) ≡ Ok (map unplaced_function (take (i + 1) fs))
function_push trees fs i t f inside is here done =
    let more : take (i + 1) fs ≡ take i fs ++ f ∷ [] = take_more fs i f inside
    ∙ ap (λ (m : Func). take i fs ++ m ∷ []) (sym is) in
    all_push_tree function trees (map unplaced_function (take i fs)) t (unplaced_function f) done here
    ∙ ap Ok
    (sym (map-push unplaced_function (take i fs) f) ∙ ap (λ (xs : List Func). map unplaced_function xs) (sym more))
