-- A reader over a whole text.
use Rattle.std.proofs.Common.{◌≡◌, ℕ, ◌+◌, ◌≤◌, List, [], ◌++◌, length, take, drop, map}
use Rattle.std.proofs.Common.{Result, Ok, Err, refl, sym, ap, ◌∙◌, subst, arith, append_assoc}
use Rattle.std.proofs.lemmas.List.{map-append, append-nil, drop-drop, drop_all}
use Rattle.br_base.specs.declared.failure.OrMemory.{OrMemory}
use Rattle.br_base.specs.declared.failure.OrMemory.TheVariants.{Memory, Fault}
use Rattle.br_sexpr.specs.declared.tree.Tree.{Tree}
use Rattle.br_sexpr.specs.declared.tree.TextFault.{TextFault}
use Rattle.br_sexpr.specs.declared.piece.Kind.{Kind}
use Rattle.br_sexpr.specs.declared.reading.Reader.{Reader}
use Rattle.br_sexpr.specs.Token.{kept}
use Rattle.br_sexpr.specs.Faults.{unclosed}
use Rattle.br_sexpr.specs.Forest.{forest_tokens}
use Rattle.br_sexpr.specs.Progress.{fault_within, tokens_from, token_as, seen, places}
use Rattle.br_sexpr.specs.Progress.{FitsIn, Fits, IsOrdered, Took, Refuses, Ends, Answers}
use Rattle.br_sexpr.proofs.Steps.{Holds, Holds-is, seen-holds, to-Fits, from-Fits}

-- what is known of a reader that has come to an offset of a text
pub record SoFar (r : Reader) (place : ℕ) (text : List ℕ) : Type 0 where
  pub tokens : seen r ++ map kept (tokens_from place (drop place text)) ≡ map kept (tokens_from 0 text)
  pub fault : fault_within (places r) (tokens_from place (drop place text)) ≡ fault_within [] (tokens_from 0 text)
  pub fits : Fits r
  pub ordered : IsOrdered r

pub so_far-none : (r : Reader) (text : List ℕ) → r.lists.items ≡ [] → r.trees.items ≡ [] → SoFar r 0 text
so_far-none r text closed empty =
    let h : Holds r [] [] = Holds-is r [] [] [] [] closed empty refl refl in
    record {
      tokens = ap (λ ts. ts ++ map kept (tokens_from 0 text)) (seen-holds r [] [] h);
      fault = rw closed refl;
      fits = to-Fits r [] [] h (omega arith);
      ordered = rw (closed, empty) (omega arith);
    }

-- how the rest of a text begins
abbrev pub Cut : ℕ → ℕ → Kind → List ℕ → Type 0
Cut place n k rest = tokens_from place rest ≡ token_as place k (take n rest) ++ tokens_from (place + n) (drop n rest)

module _ (text rest : List ℕ) (place n : ℕ) (k : Kind) (is : rest ≡ drop place text) (cut : Cut place n k rest) where
  cut-rest : tokens_from place (drop place text)
      ≡ token_as place k (take n rest) ++ tokens_from (place + n) (drop (place + n) text)
  cut-rest = ap (tokens_from place) (sym is) ∙ cut ∙ ap
      (λ bs. token_as place k (take n rest) ++ tokens_from (place + n) bs) (ap (drop n) is ∙ drop-drop n place text)

  pub so_far-more : (old new : Reader) → Took old new (token_as place k (take n rest)) → SoFar old place text
      → SoFar new (place + n) text
  so_far-more old new took before = record {
    tokens =
        ap (λ ts. ts ++ map kept (tokens_from (place + n) (drop (place + n) text))) took.tokens
        ∙ append_assoc (seen old) _ _
        ∙ ap (λ ts. seen old ++ ts)
        (sym (map-append kept (token_as place k (take n rest)) (tokens_from (place + n) (drop (place + n) text)))
        ∙ ap (map kept) (sym cut-rest))
        ∙ before.tokens;
    fault = sym (took.fault (tokens_from (place + n) (drop (place + n) text)))
        ∙ ap (fault_within (places old)) (sym cut-rest) ∙ before.fault;
    fits = took.fits before.fits;
    ordered = took.ordered;
  }

  pub so_far-refused : (old : Reader) (e : OrMemory TextFault) → Refuses e (places old) (token_as place k (take n rest))
      → SoFar old place text → Answers (Err e) (tokens_from 0 text)
  so_far-refused old Memory refused before = tt
  so_far-refused old (Fault f) refused before = sym before.fault ∙ ap (fault_within (places old)) cut-rest
      ∙ refused (tokens_from (place + n) (drop (place + n) text))

nothing-left : (place : ℕ) → tokens_from place [] ≡ []
unfolding tokens_from
nothing-left place = refl

pub so_far-all : (r : Reader) (place : ℕ) (text : List ℕ) (result : Result (List Tree) (OrMemory TextFault))
    → length text ≤ place → SoFar r place text → Ends r result → Answers result (tokens_from 0 text)
so_far-all r place text (Ok trees) long before ends =
    let none : tokens_from place (drop place text) ≡ [] = ap (tokens_from place) (drop_all place text long)
    ∙ nothing-left place in
    let h : Holds r [] r.trees.items = Holds-is r [] r.trees.items [] r.trees.items ends.0 refl refl refl in
    record {
      tokens = sym before.tokens ∙ ap (λ ts. seen r ++ map kept ts) none ∙ append-nil (seen r)
          ∙ seen-holds r [] r.trees.items h ∙ ap forest_tokens (sym ends.1);
      faultless =
          sym before.fault ∙ ap (fault_within (places r)) none ∙ ap (λ os. unclosed (map (λ o. o.at) os)) ends.0;
      fits = let flat : FitsIn 0 [] r.trees.items = from-Fits r [] r.trees.items h before.fits in
          rw ends.1 (omega (arith, flat));
    }
so_far-all r place text (Err e) long before ends =
    let none : tokens_from place (drop place text) ≡ [] = ap (tokens_from place) (drop_all place text long)
    ∙ nothing-left place in
    let P : OrMemory TextFault → Type 0 = λ x. Answers (Err x) (tokens_from 0 text) in
    subst P (sym ends.1) (sym before.fault ∙ ap (fault_within (places r)) none ∙ ends.2)
