-- One more argument.
use Rattle.std.proofs.Common.{◌≡◌, ℕ, ◌+◌, ◌<◌, List, length, get_or, drop, ap}
use Rattle.br_sexpr.specs.declared.tree.Tree.{Tree}
use Rattle.br_syntax.specs.declared.program.Expr.{Expr}
use Rattle.br_syntax.specs.Shaped.{Shaped, joined, with_one}
use Rattle.br_syntax.specs.Denotes.{argument_at, arguments_from}
use Rattle.br_syntax.proofs.Joined.{joined_one}
use Rattle.br_syntax.proofs.Lists.{drop_item}

pub arguments_step : (items : List Tree) (i : ℕ) (item : Tree) (found more : Shaped (List Expr)) (part : Shaped Expr)
    (whole : Shaped (List Expr))
    → i < length items → item ≡ get_or items i item → part ≡ argument_at i item → more ≡ with_one found part
    → joined found (arguments_from i (drop i items)) ≡ whole
    → joined more (arguments_from (i + 1) (drop (i + 1) items)) ≡ whole
arguments_step items i item found more part whole inside is read one so_far =
    let split = drop_item items i item inside is in
    let here = joined_one found part (arguments_from (i + 1) (drop (i + 1) items)) in
    let there = ap (λ ts. joined found (arguments_from i ts)) split in
    rw (one, ← here, read, ← there) so_far
