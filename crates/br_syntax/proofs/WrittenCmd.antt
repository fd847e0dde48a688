-- What the trees of commands stand for.
use Rattle.std.proofs.Common.{◌≡◌, ℕ, true, List, [], ◌∷◌, Ok, Some, map, refl, ap, ◌∙◌, codes}
use Rattle.std.specs.List.{list_all}
use Rattle.std.specs.Str.{bytes_eq}
use Rattle.br_words.specs.declared.size.Size.{Size}
use Rattle.br_sexpr.specs.declared.tree.Tree.{Tree}
use Rattle.br_sexpr.specs.declared.tree.Tree.TheVariants as tree
use Rattle.br_syntax.specs.declared.program.Expr.{Expr}
use Rattle.br_syntax.specs.declared.program.Cmd.{Cmd}
use Rattle.br_syntax.specs.declared.program.Cmd.TheVariants as cmd
use Rattle.br_syntax.specs.declared.word.CmdWord.TheVariants as c
use Rattle.br_syntax.specs.Shape.{is_buffer_size}
use Rattle.br_syntax.specs.Word.{cmd_word}
use Rattle.br_syntax.specs.Denotes.{expression, Places, places, with_places, command, command_of, commands}
use Rattle.br_syntax.specs.Offsets.{is_unplaced}
use Rattle.br_syntax.specs.Writing.{IsBodyTree, IsTargetTree}
use Rattle.br_syntax.proofs.Equations.{places-list, behind-list, trees_with_places}
use Rattle.br_syntax.proofs.Written.{unplaced-name, unplaced-number, unplaced-list}

command-list : (items : List Tree) → command (tree.List 0 items) ≡ command_of 0 (map with_places items)
command-list items = ap (λ (p : Places). p.command) (places-list 0 items)

pub skip_written : command (tree.List 0 (tree.Name 0 (codes "skip") ∷ [])) ≡ Ok cmd.Skip
skip_written = command-list (tree.Name 0 (codes "skip") ∷ []) ∙ rw tree.outs-Name refl

pub set_written : (x : List ℕ) (v : Tree) (value : Expr) → expression v ≡ Ok value
    → command (tree.List 0 (tree.Name 0 (codes "set") ∷ tree.Name 0 x ∷ v ∷ [])) ≡ Ok (cmd.Set x value)
set_written x v value is = command-list (tree.Name 0 (codes "set") ∷ tree.Name 0 x ∷ v ∷ [])
    ∙ rw (tree.outs-Name 0 (codes "set"), tree.outs-Name 0 x, is) refl

pub unset_written : (x : List ℕ)
    → command (tree.List 0 (tree.Name 0 (codes "unset") ∷ tree.Name 0 x ∷ [])) ≡ Ok (cmd.Unset x)
unset_written x = command-list (tree.Name 0 (codes "unset") ∷ tree.Name 0 x ∷ [])
    ∙ rw (tree.outs-Name 0 (codes "unset"), tree.outs-Name 0 x) refl

pub store_written : (word : List ℕ) (size : Size) (a v : Tree) (address value : Expr)
    → cmd_word word ≡ Some (c.Store size) → expression a ≡ Ok address → expression v ≡ Ok value
    → command (tree.List 0 (tree.Name 0 word ∷ a ∷ v ∷ [])) ≡ Ok (cmd.Store size address value)
store_written word size a v address value means first second =
    command-list (tree.Name 0 word ∷ a ∷ v ∷ []) ∙ rw (tree.outs-Name 0 word, means, first, second) refl

pub stackalloc_written : (x : List ℕ) (n : ℕ) (trees : List Tree) (body : List Cmd)
    → is_buffer_size n ≡ true → commands trees ≡ Ok body
    → command (tree.List 0 (tree.Name 0 (codes "stackalloc") ∷ tree.Name 0 x ∷ tree.Number 0 n ∷ trees))
    ≡ Ok (cmd.Stackalloc x n body)
stackalloc_written x n trees body size inner =
    command-list (tree.Name 0 (codes "stackalloc") ∷ tree.Name 0 x ∷ tree.Number 0 n ∷ trees)
    ∙ rw (tree.outs-Name 0 (codes "stackalloc"), tree.outs-Name 0 x, tree.outs-Number 0 n, size, inner) refl

pub body_behind : (t : Tree) (word : List ℕ) (body : List Cmd) → bytes_eq word word ≡ true → IsBodyTree t word body
    → (places t).behind word ≡ Ok body
body_behind t word body same is =
    rw is.1.0 (behind-list 0 (tree.Name 0 word ∷ is.0) word ∙ rw (tree.outs-Name 0 word, same) is.1.1)

pub if_written : (e a b : Tree) (test : Expr) (yes no : List Cmd)
    → expression e ≡ Ok test → IsBodyTree a (codes "then") yes → IsBodyTree b (codes "else") no
    → command (tree.List 0 (tree.Name 0 (codes "if") ∷ e ∷ a ∷ b ∷ [])) ≡ Ok (cmd.If test yes no)
if_written e a b test first second is first_is second_is =
    let f = body_behind a (codes "then") first refl first_is in
    let s = body_behind b (codes "else") second refl second_is in
    command-list (tree.Name 0 (codes "if") ∷ e ∷ a ∷ b ∷ []) ∙ rw (tree.outs-Name 0 (codes "if"), is, f, s) refl

pub while_written : (e : Tree) (test : Expr) (trees : List Tree) (body : List Cmd)
    → expression e ≡ Ok test → commands trees ≡ Ok body
    → command (tree.List 0 (tree.Name 0 (codes "while") ∷ e ∷ trees)) ≡ Ok (cmd.While test body)
while_written e test trees body is inner =
    command-list (tree.Name 0 (codes "while") ∷ e ∷ trees) ∙ rw (tree.outs-Name 0 (codes "while"), is, inner) refl

pub seq_written : (t : Tree) (body : List Cmd) → IsBodyTree t (codes "seq") body → command t ≡ Ok (cmd.Seq body)
seq_written t body is = let inner = is.1.1 in
    rw is.1.0 (command-list (tree.Name 0 (codes "seq") ∷ is.0) ∙ rw (tree.outs-Name 0 (codes "seq"), inner) refl)

pub call_written : (t : Tree) (results : List (List ℕ)) (callee : List ℕ) (arguments : List Expr)
    → IsTargetTree t (codes "call") results callee arguments → command t ≡ Ok (cmd.Call 0 results callee arguments)
call_written t results callee arguments is =
    let named = is.2.1 in
    let argued = is.2.2 in
    rw is.2.0 (command-list (tree.Name 0 (codes "call") ∷ is.0 ∷ tree.Name 0 callee ∷ is.1)
    ∙ rw (tree.outs-Name 0 (codes "call"), tree.outs-Name 0 callee, trees_with_places is.1, named, argued) refl)

pub interact_written : (t : Tree) (results : List (List ℕ)) (action : List ℕ) (arguments : List Expr)
    → IsTargetTree t (codes "interact") results action arguments
    → command t ≡ Ok (cmd.Interact 0 results action arguments)
interact_written t results action arguments is =
    let named = is.2.1 in
    let argued = is.2.2 in
    rw is.2.0 (command-list (tree.Name 0 (codes "interact") ∷ is.0 ∷ tree.Name 0 action ∷ is.1)
    ∙ rw (tree.outs-Name 0 (codes "interact"), tree.outs-Name 0 action, trees_with_places is.1, named, argued) refl)

pub unplaced_body : (word : List ℕ) (trees : List Tree) → list_all is_unplaced trees ≡ true
    → is_unplaced (tree.List 0 (tree.Name 0 word ∷ trees)) ≡ true
unplaced_body word trees inner = unplaced-list 0 (tree.Name 0 word ∷ trees) ∙ rw (unplaced-name 0 word, inner) refl

pub unplaced_target : (word : List ℕ) (x : Tree) (name : List ℕ) (trees : List Tree)
    → is_unplaced x ≡ true → list_all is_unplaced trees ≡ true
    → is_unplaced (tree.List 0 (tree.Name 0 word ∷ x ∷ tree.Name 0 name ∷ trees)) ≡ true
unplaced_target word x name trees first inner = unplaced-list 0 (tree.Name 0 word ∷ x ∷ tree.Name 0 name ∷ trees)
    ∙ rw (unplaced-name 0 word, first, unplaced-name 0 name, inner) refl

pub unplaced_buffer : (word x : List ℕ) (n : ℕ) (trees : List Tree) → list_all is_unplaced trees ≡ true
    → is_unplaced (tree.List 0 (tree.Name 0 word ∷ tree.Name 0 x ∷ tree.Number 0 n ∷ trees)) ≡ true
unplaced_buffer word x n trees inner = unplaced-list 0 (tree.Name 0 word ∷ tree.Name 0 x ∷ tree.Number 0 n ∷ trees)
    ∙ rw (unplaced-name 0 word, unplaced-name 0 x, unplaced-number 0 n, inner) refl

pub unplaced_loop : (word : List ℕ) (e : Tree) (trees : List Tree) → is_unplaced e ≡ true
    → list_all is_unplaced trees ≡ true → is_unplaced (tree.List 0 (tree.Name 0 word ∷ e ∷ trees)) ≡ true
unplaced_loop word e trees first inner =
    unplaced-list 0 (tree.Name 0 word ∷ e ∷ trees) ∙ rw (unplaced-name 0 word, first, inner) refl
