-- All faults of shape that stand in trees, by the kinds of tree that their places ask for.
use Rattle.std.specs.Prelude.{ℕ, ◌+◌, List, [], ◌∷◌, ◌++◌, Option, Some, None}
use Rattle.std.specs.Prelude.{length, map, nat_le, ◌==◌, if◌then◌else◌, codes}
use Rattle.std.specs.List.{flat_map, list_any}
use Rattle.std.specs.Str.{bytes_eq}
use Rattle.br_sexpr.specs.declared.tree.Tree.{Tree, out-Tree}
use Rattle.br_sexpr.specs.declared.tree.Tree.TheOpen.{Tree-F}
use Rattle.br_sexpr.specs.declared.tree.Tree.TheOpen.Tree-F.{Name, Number, List as Items}
use Rattle.br_sexpr.specs.declared.tree.Tree.TheFolds.{para-Tree}
use Rattle.br_syntax.specs.declared.faults.ShapeFault.{ShapeFault}
use Rattle.br_syntax.specs.declared.faults.ShapeFault.TheVariants.{BadForm, BadSize, BadByteValue}
use Rattle.br_syntax.specs.declared.faults.ShapeFault.TheVariants.{TooMany, Repeated}
use Rattle.br_syntax.specs.declared.word.ExprWord.{ExprWord}
use Rattle.br_syntax.specs.declared.word.ExprWord.TheVariants as e
use Rattle.br_syntax.specs.declared.word.CmdWord.{CmdWord}
use Rattle.br_syntax.specs.declared.word.CmdWord.TheVariants as c
use Rattle.br_syntax.specs.Shape.{is_buffer_size}
use Rattle.br_syntax.specs.Word.{expr_word, cmd_word}
use Rattle.br_syntax.specs.Denotes.{offset_of, word_of}

-- faults of shape, in the order of their places
abbrev pub Faults : Type 0
Faults = List ShapeFault

-- a place that asks for a name
abbrev pub in_name : {X : Type 0} → Tree-F X → Faults
in_name (Name at text) = []
in_name (Number at value) = BadForm at ∷ []
in_name (Items at items) = BadForm at ∷ []

-- an item of a list of names, after these items
abbrev pub in_name_after : {X : Type 0} → List Tree → Tree-F X → Faults
in_name_after earlier (Name at text) =
    (if length earlier == 8 then TooMany at ∷ [] else [])
    ++ (if list_any (λ t. bytes_eq (word_of t) text) earlier then Repeated at ∷ [] else [])
in_name_after earlier (Number at value) = BadForm at ∷ []
in_name_after earlier (Items at items) = BadForm at ∷ []

-- items of a list of names, after these items
abbrev pub in_names_after : List Tree → List Tree → Faults
in_names_after earlier [] = []
in_names_after earlier (t ∷ ts) =
    in_name_after earlier (out-Tree t) ++ in_names_after (earlier ++ t ∷ []) ts

-- a place that asks for a list of names
abbrev pub in_names : Tree-F Tree → Faults
in_names (Name at text) = BadForm at ∷ []
in_names (Number at value) = BadForm at ∷ []
in_names (Items at items) = in_names_after [] items

-- a place that asks for the size of a buffer
abbrev pub in_buffer_size : {X : Type 0} → Tree-F X → Faults
in_buffer_size (Name at text) = BadForm at ∷ []
in_buffer_size (Number at value) = if is_buffer_size value then [] else BadSize at ∷ []
in_buffer_size (Items at items) = BadForm at ∷ []

-- a place that asks for a byte
abbrev pub in_byte : {X : Type 0} → Tree-F X → Faults
in_byte (Name at text) = BadForm at ∷ []
in_byte (Number at value) = if nat_le value 255 then [] else BadByteValue at ∷ []
in_byte (Items at items) = BadForm at ∷ []

-- a place that asks for the bytes of a table
abbrev pub in_bytes : Tree-F Tree → Faults
in_bytes (Name at text) = BadForm at ∷ []
in_bytes (Number at value) = BadForm at ∷ []
in_bytes (Items at items) = flat_map (λ t. in_byte (out-Tree t)) items

-- a tree, and the faults in it at a place that asks for an expression
abbrev pub WithFaults : Type 0
WithFaults = Tree × Faults

-- a list of two items
abbrev pub in_two : ℕ → Option ExprWord → WithFaults → Faults
in_two at (Some (e.Load size)) x = x.1
in_two at (Some (e.Table size)) x = BadForm at ∷ []
in_two at (Some (e.Op operation)) x = BadForm at ∷ []
in_two at (Some e.Ite) x = BadForm at ∷ []
in_two at None x = BadForm at ∷ []

-- a list of three items
abbrev pub in_three : ℕ → Option ExprWord → WithFaults → WithFaults → Faults
in_three at (Some (e.Load size)) x y = BadForm at ∷ []
in_three at (Some (e.Table size)) x y = in_bytes (out-Tree x.0) ++ y.1
in_three at (Some (e.Op operation)) x y = x.1 ++ y.1
in_three at (Some e.Ite) x y = BadForm at ∷ []
in_three at None x y = BadForm at ∷ []

-- a list of four items
abbrev pub in_four : ℕ → Option ExprWord → WithFaults → WithFaults → WithFaults → Faults
in_four at (Some (e.Load size)) x y z = BadForm at ∷ []
in_four at (Some (e.Table size)) x y z = BadForm at ∷ []
in_four at (Some (e.Op operation)) x y z = BadForm at ∷ []
in_four at (Some e.Ite) x y z = (x.1 ++ y.1) ++ z.1
in_four at None x y z = BadForm at ∷ []

-- a list of these items
abbrev pub in_items : ℕ → List WithFaults → Faults
in_items at [] = BadForm at ∷ []
in_items at (head ∷ []) = BadForm at ∷ []
in_items at (head ∷ x ∷ []) = in_two at (expr_word (word_of head.0)) x
in_items at (head ∷ x ∷ y ∷ []) = in_three at (expr_word (word_of head.0)) x y
in_items at (head ∷ x ∷ y ∷ z ∷ []) = in_four at (expr_word (word_of head.0)) x y z
in_items at (head ∷ x ∷ y ∷ z ∷ w ∷ more) = BadForm at ∷ []

-- one layer of a tree at a place that asks for an expression
abbrev pub in_expression_layer : Tree-F WithFaults → Faults
in_expression_layer (Name at text) = []
in_expression_layer (Number at value) = []
in_expression_layer (Items at items) = in_items at items

-- a place that asks for an expression
abbrev pub in_expression : Tree → Faults
in_expression = para-Tree Faults in_expression_layer

-- arguments, after so many others
abbrev pub in_arguments_from : ℕ → List Tree → Faults
in_arguments_from i [] = []
in_arguments_from i (t ∷ ts) =
    ((if i == 8 then TooMany (offset_of t) ∷ [] else []) ++ in_expression t)
    ++ in_arguments_from (i + 1) ts

-- the faults in a tree where a command is asked for, and where commands after a word are
pub record FaultPlaces : Type 0 where
  pub command : Faults
  pub behind : List ℕ → Faults

-- a tree beside its faults at those places
abbrev pub WithFaultPlaces : Type 0
WithFaultPlaces = Tree × FaultPlaces

-- places that ask for commands
abbrev pub in_body : List WithFaultPlaces → Faults
in_body parts = flat_map (λ part. part.1.command) parts

-- the results, the name and the arguments of a call or an interaction
abbrev pub in_target : Tree → Tree → List WithFaultPlaces → Faults
in_target results called arguments =
    (in_names (out-Tree results) ++ in_name (out-Tree called))
    ++ in_arguments_from 0 (map (λ part. part.0) arguments)

-- a list that begins with this word and has these parts, at a place that asks for a command
abbrev pub in_form : ℕ → Option CmdWord → List WithFaultPlaces → Faults
in_form at (Some c.Skip) [] = []
in_form at (Some c.Set) (variable ∷ value ∷ []) =
    in_name (out-Tree variable.0) ++ in_expression value.0
in_form at (Some c.Unset) (variable ∷ []) = in_name (out-Tree variable.0)
in_form at (Some (c.Store size)) (address ∷ value ∷ []) =
    in_expression address.0 ++ in_expression value.0
in_form at (Some c.Stackalloc) (variable ∷ size ∷ body) =
    (in_name (out-Tree variable.0) ++ in_buffer_size (out-Tree size.0)) ++ in_body body
in_form at (Some c.If) (test ∷ then_part ∷ else_part ∷ []) =
    (in_expression test.0 ++ then_part.1.behind (codes "then")) ++ else_part.1.behind (codes "else")
in_form at (Some c.While) (test ∷ body) = in_expression test.0 ++ in_body body
in_form at (Some c.Seq) body = in_body body
in_form at (Some c.Call) (results ∷ callee ∷ arguments) = in_target results.0 callee.0 arguments
in_form at (Some c.Interact) (results ∷ action ∷ arguments) = in_target results.0 action.0 arguments
in_form at _ _ = BadForm at ∷ []

-- a list of these items at a place that asks for a command
abbrev pub in_command_items : ℕ → List WithFaultPlaces → Faults
in_command_items at [] = BadForm at ∷ []
in_command_items at (head ∷ parts) = in_form at (cmd_word (word_of head.0)) parts

-- a list of these items at a place that asks for commands after this word
abbrev pub in_behind_items : ℕ → List WithFaultPlaces → List ℕ → Faults
in_behind_items at [] word = BadForm at ∷ []
in_behind_items at (head ∷ body) word =
    if bytes_eq (word_of head.0) word then in_body body else BadForm at ∷ []

-- one layer of a tree at those places
abbrev pub in_places_layer : Tree-F WithFaultPlaces → FaultPlaces
in_places_layer (Name at text) =
    record { command = BadForm at ∷ []; behind = λ word. BadForm at ∷ [] }
in_places_layer (Number at value) =
    record { command = BadForm at ∷ []; behind = λ word. BadForm at ∷ [] }
in_places_layer (Items at items) =
    record { command = in_command_items at items; behind = in_behind_items at items }

-- the faults in a tree at those places
abbrev pub in_places : Tree → FaultPlaces
in_places = para-Tree FaultPlaces in_places_layer

-- places that ask for commands
abbrev pub in_commands : List Tree → Faults
in_commands trees = flat_map (λ t. (in_places t).command) trees

-- (fn NAME NAMES NAMES COMMAND..)
abbrev pub in_function_items : ℕ → List Tree → Faults
in_function_items at (head ∷ called ∷ arguments ∷ results ∷ body) =
    if bytes_eq (word_of head) (codes "fn")
    then (in_name (out-Tree called) ++ in_names (out-Tree arguments))
    ++ (in_names (out-Tree results) ++ in_commands body)
    else BadForm at ∷ []
in_function_items at _ = BadForm at ∷ []

-- a place that asks for a function
abbrev pub in_function : Tree-F Tree → Faults
in_function (Name at text) = BadForm at ∷ []
in_function (Number at value) = BadForm at ∷ []
in_function (Items at items) = in_function_items at items

-- all faults of shape in trees
abbrev pub all_faults : List Tree → Faults
all_faults trees = flat_map (λ t. in_function (out-Tree t)) trees
