-- What an item of a list of names stands for, by the tests on it.
use Rattle.std.proofs.Common.{◌≡◌, ◌≢◌, ℕ, List, Ok, Err, true, false, length, arith}
use Rattle.std.proofs.lemmas.Grind.{common_steps}
use Rattle.std.specs.List.{list_any}
use Rattle.std.specs.Str.{bytes_eq}
use Rattle.br_sexpr.specs.declared.tree.Tree.{Tree, out-Tree}
use Rattle.br_sexpr.specs.declared.tree.Tree.TheVariants.{Name, outs-Name}
use Rattle.br_syntax.specs.declared.faults.ShapeFault.TheVariants.{Repeated}
use Rattle.br_syntax.specs.Denotes.{word_of, name_among}

module _ (earlier : List Tree) (item : Tree) (at : ℕ) (text : List ℕ) (is : item ≡ Name at text)
    (few : length earlier ≢ 8) (bytes : List ℕ) (same : bytes ≡ text) where
  pub name_among-repeated : true ≡ list_any (λ t. bytes_eq (word_of t) bytes) earlier
      → Err (Repeated at) ≡ name_among earlier (out-Tree item)
  name_among-repeated found = rw (is, outs-Name) (let f = rw same at found in grind (arith, common_steps, f, few))

  pub name_among-new : false ≡ list_any (λ t. bytes_eq (word_of t) bytes) earlier → (copy : List ℕ) → copy ≡ text
      → Ok copy ≡ name_among earlier (out-Tree item)
  name_among-new found copy e = rw (is, outs-Name, e) (let f = rw same at found in grind (arith, common_steps, f, few))
