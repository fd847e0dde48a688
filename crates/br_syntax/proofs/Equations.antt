-- What a tree of each form stands for.
use Rattle.std.proofs.Common.{◌≡◌, ℕ, List, [], ◌∷◌, Ok, map, refl, sym, ap, ◌∙◌}
use Rattle.br_sexpr.specs.declared.tree.Tree.{Tree, out-Tree, roll-out-Tree}
use Rattle.br_sexpr.specs.declared.tree.Tree.TheVariants as tree
use Rattle.br_sexpr.specs.declared.tree.Tree.TheOpen.Tree-F.{Name as name-F, Number as number-F, List as list-F}
use Rattle.br_sexpr.specs.declared.tree.Tree.TheFolds.{map-Tree, para-roll-Tree}
use Rattle.br_syntax.specs.declared.program.Expr.{Expr}
use Rattle.br_syntax.specs.declared.program.Expr.TheVariants as expr
use Rattle.br_syntax.specs.Shaped.{Shaped}
use Rattle.br_syntax.specs.Denotes.{WithExpr, expression, expression_in, expression_of, with_expression}
use Rattle.br_syntax.specs.Denotes.{Places, WithPlaces, behind_of, places, places_in, with_places}

pub expression-out : (t : Tree) → expression t ≡ expression_in (map-Tree Tree WithExpr with_expression (out-Tree t))
expression-out t = ap expression (sym (roll-out-Tree t)) ∙ para-roll-Tree (Shaped Expr) expression_in (out-Tree t)

pub expression-name : (at : ℕ) (text : List ℕ) → expression (tree.Name at text) ≡ Ok (expr.Var text)
expression-name at text = expression-out (tree.Name at text) ∙ rw tree.outs-Name refl

pub expression-number : (at value : ℕ) → expression (tree.Number at value) ≡ Ok (expr.Literal value)
expression-number at value = expression-out (tree.Number at value) ∙ rw tree.outs-Number refl

pub expression-list : (at : ℕ) (items : List Tree)
    → expression (tree.List at items) ≡ expression_of at (map with_expression items)
expression-list at items = expression-out (tree.List at items) ∙ rw tree.outs-List refl

pub ruleset expressions = (expression-name, expression-number, expression-list)

pub places-out : (t : Tree) → places t ≡ places_in (map-Tree Tree WithPlaces with_places (out-Tree t))
places-out t = ap places (sym (roll-out-Tree t)) ∙ para-roll-Tree Places places_in (out-Tree t)

pub places-name : (at : ℕ) (text : List ℕ) → places (tree.Name at text) ≡ places_in (name-F at text)
places-name at text = places-out (tree.Name at text) ∙ rw tree.outs-Name refl

pub places-number : (at value : ℕ) → places (tree.Number at value) ≡ places_in (number-F at value)
places-number at value = places-out (tree.Number at value) ∙ rw tree.outs-Number refl

pub places-list : (at : ℕ) (items : List Tree)
    → places (tree.List at items) ≡ places_in (list-F at (map with_places items))
places-list at items = places-out (tree.List at items) ∙ rw tree.outs-List refl

pub behind-list : (at : ℕ) (items : List Tree) (word : List ℕ)
    → (places (tree.List at items)).behind word ≡ behind_of at (map with_places items) word
behind-list at items word = ap (λ (p : Places). p.behind word) (places-list at items)

pub ruleset commands = (places-name, places-number, places-list, behind-list)

pub trees_with_places : (trees : List Tree) → map (λ (p : WithPlaces). p.0) (map with_places trees) ≡ trees
trees_with_places [] = refl
trees_with_places (t ∷ ts) = ap (λ more. t ∷ more) (trees_with_places ts)
