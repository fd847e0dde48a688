-- How far a reader has come. Only private functions speak of it.
use Rattle.std.specs.Prelude.{◌≡◌, ℕ, ◌+◌, ◌*◌, ◌^◌, ◌-◌, ◌≤◌, Bool, false, ◌&&◌, List}
use Rattle.std.specs.Prelude.{[], ◌∷◌, ◌++◌, length, take, drop, map, Option, Some}
use Rattle.std.specs.Prelude.{None, Result, Ok, Err, ⊤, nat_lt, ◌==◌, if◌then◌else◌}
use Rattle.std.specs.Char.{digit_value, is_digit}
use Rattle.std.specs.List.{take_while}
use Rattle.br_base.specs.Name.{continues_name}
use Rattle.br_base.specs.declared.failure.OrMemory.{OrMemory}
use Rattle.br_base.specs.declared.failure.OrMemory.TheVariants.{Memory, Fault}
use Rattle.br_sexpr.specs.declared.tree.Tree.{Tree}
use Rattle.br_sexpr.specs.declared.tree.TextFault.{TextFault}
use Rattle.br_sexpr.specs.declared.piece.Kind.{Kind}
use Rattle.br_sexpr.specs.declared.piece.Kind.TheVariants as kind
use Rattle.br_sexpr.specs.declared.reading.OpenList.{OpenList}
use Rattle.br_sexpr.specs.declared.reading.Reader.{Reader}
use Rattle.br_sexpr.specs.Layout.{Piece, blank, comment, opening, closing}
use Rattle.br_sexpr.specs.Layout.{run, stray, is_blank, stays_in_line}
use Rattle.br_sexpr.specs.Token.{Token, opens, closes, strays, token_of_run, tokens_of, kept}
use Rattle.br_sexpr.specs.Faults.{open_behind, wrong_where, unclosed}
use Rattle.br_sexpr.specs.Forest.{tree_tokens, forest_tokens, tree_height, forest_height}

-- the piece that the byte before has begun, if it may go on
pub data Within : Type 0 where
  outside : Within
  in_comment : Within
  in_run : Within

abbrev pub goes_on : Within → ℕ → Bool
goes_on outside b = false
goes_on in_comment b = stays_in_line b
goes_on in_run b = continues_name b

-- the piece that a byte begins, and what goes on after it
abbrev pub begun : ℕ → List ℕ → Piece
begun b bs =
    if is_blank b then blank b else
    if b == 59 then comment (take_while stays_in_line bs) else
    if b == 40 then opening else
    if b == 41 then closing else
    if continues_name b then run (b ∷ take_while continues_name bs) else stray b

abbrev pub within : ℕ → Within
within b =
    if is_blank b then outside else
    if b == 59 then in_comment else
    if b == 40 then outside else
    if b == 41 then outside else
    if continues_name b then in_run else outside

-- the pieces that a text begins
abbrev pub pieces : Within → List ℕ → List Piece
pieces w [] = []
pieces w (b ∷ bs) =
    (if goes_on w b then [] else begun b bs ∷ []) ++ pieces (if goes_on w b then w else within b) bs

-- the tokens of a text that stands at an offset
unfoldable pub tokens_from : ℕ → List ℕ → List Token
tokens_from at text = tokens_of at (pieces outside text)

-- the token of a piece of this kind, if it is one
abbrev pub token_as : ℕ → Kind → List ℕ → List Token
token_as at kind.Gap bytes = []
token_as at kind.Open bytes = opens at ∷ []
token_as at kind.Close bytes = closes at ∷ []
token_as at kind.Run bytes = token_of_run at bytes ∷ []
token_as at kind.Stray bytes = strays at ∷ []

-- a list that is open: the offset of its `(`, and the trees before it in the list around it
pub record Opened : Type 0 where
  pub at : ℕ
  pub before : List Tree

-- The lists that are open, where the first trees of all stand before
-- them, and the trees in the last of them.
abbrev pub opened : ℕ → List OpenList → List Tree → List Opened
opened base [] trees = []
opened base (o ∷ os) trees = (record { at = o.at; before = take (o.start - base) trees })
    ∷ opened o.start os (drop (o.start - base) trees)

abbrev pub innermost : ℕ → List OpenList → List Tree → List Tree
innermost base [] trees = trees
innermost base (o ∷ os) trees = innermost o.start os (drop (o.start - base) trees)

-- each list starts at or after the one around it, and none after n
abbrev pub Ordered : ℕ → List OpenList → ℕ → Type 0
Ordered base [] n = base ≤ n
Ordered base (o ∷ os) n = (base ≤ o.start) × Ordered o.start os n

abbrev pub IsOrdered : Reader → Type 0
IsOrdered r = Ordered 0 r.lists.items (length r.trees.items)

-- the tokens of lists that are open and of the trees in the last of them
abbrev pub seen_in : List Opened → List Tree → List Token
seen_in [] items = forest_tokens items
seen_in (o ∷ os) items = forest_tokens o.before ++ opens o.at ∷ seen_in os items

abbrev pub seen : Reader → List Token
seen r = seen_in (opened 0 r.lists.items r.trees.items) (innermost 0 r.lists.items r.trees.items)

abbrev pub places : Reader → List ℕ
places r = map (λ o. o.at) r.lists.items

-- no list stands in 256 others, where n lists are open around these
abbrev pub FitsIn : ℕ → List Opened → List Tree → Type 0
FitsIn n [] items = n + forest_height items ≤ 256
FitsIn n (o ∷ os) items = (n + forest_height o.before ≤ 256) × FitsIn (n + 1) os items

abbrev pub Fits : Reader → Type 0
Fits r = FitsIn 0 (opened 0 r.lists.items r.trees.items) (innermost 0 r.lists.items r.trees.items)

-- the fault that something wrong is, or else what follows
abbrev pub or_else : Option TextFault → Option TextFault → Option TextFault
or_else (Some f) next = Some f
or_else None next = next

-- the fault of the tokens that stand where the `(` at these offsets are open
abbrev pub fault_within : List ℕ → List Token → Option TextFault
fault_within xs [] = unclosed xs
fault_within xs (t ∷ ts) = or_else (wrong_where xs t) (fault_within (open_behind xs (t ∷ [])) ts)

-- from old to new the reader took these tokens
pub record Took (old new : Reader) (ts : List Token) : Type 0 where
  pub tokens : seen new ≡ seen old ++ map kept ts
  pub fault : (rest : List Token)
      → fault_within (places old) (ts ++ rest) ≡ fault_within (places new) rest
  pub fits : Fits old → Fits new
  pub ordered : IsOrdered new

-- where the parentheses at these offsets are open, these tokens are refused
abbrev pub Refuses : OrMemory TextFault → List ℕ → List Token → Type 0
Refuses Memory xs ts = ⊤
Refuses (Fault f) xs ts = (rest : List Token) → fault_within xs (ts ++ rest) ≡ Some f

-- at the end of a text: the trees, where no list is open, or that a list is
abbrev pub Ends : Reader → Result (List Tree) (OrMemory TextFault) → Type 0
Ends r (Ok trees) = (r.lists.items ≡ []) × (trees ≡ r.trees.items)
Ends r (Err e) = (f : TextFault) × (e ≡ Fault f) × (unclosed (places r) ≡ Some f)

-- the tree is this token alone
pub record IsWord (tree : Tree) (t : Token) : Type 0 where
  pub token : tree_tokens tree ≡ kept t ∷ []
  pub flat : tree_height tree ≡ 0
  pub passes : (xs : List ℕ) (rest : List Token) → fault_within xs (t ∷ rest) ≡ fault_within xs rest

-- the reader has read a whole text of these tokens
pub record IsForest (trees : List Tree) (ts : List Token) : Type 0 where
  pub tokens : map kept ts ≡ forest_tokens trees
  pub faultless : fault_within [] ts ≡ None
  pub fits : forest_height trees ≤ 256

abbrev pub Answers : Result (List Tree) (OrMemory TextFault) → List Token → Type 0
Answers (Ok trees) ts = IsForest trees ts
Answers (Err Memory) ts = ⊤
Answers (Err (Fault f)) ts = fault_within [] ts ≡ Some f

-- the number with one more digit after it, where it is one and the number is below 2^32
abbrev pub and_digit : ℕ → ℕ → ℕ → Option ℕ
and_digit base n c = if is_digit c base && nat_lt (n * base + digit_value c) (2 ^ 32)
    then Some (n * base + digit_value c) else None

-- the number with all these digits after it
abbrev pub and_digits : ℕ → List ℕ → Option ℕ → Option ℕ
and_digits base cs None = None
and_digits base [] (Some n) = Some n
and_digits base (c ∷ cs) (Some n) = and_digits base cs (and_digit base n c)
