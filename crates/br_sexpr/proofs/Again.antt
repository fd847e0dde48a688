-- The canonical text of trees is read as these trees, up to their offsets.
use Rattle.std.proofs.Common.{◌≡◌, ℕ, ◌+◌, ◌^◌, ◌<◌, Bool, true, List, [], ◌∷◌, ◌++◌}
use Rattle.std.proofs.Common.{length, map, refl, sym, ap, ◌∙◌, subst, arith, append_assoc}
use Rattle.std.specs.List.{list_all}
use Rattle.std.specs.Fmt.{decimal}
use Rattle.std.proofs.lemmas.Bool.{and_parts, cond-true, cond-false, ltb-true, false≢true}
use Rattle.std.proofs.lemmas.Bool.Decides.{nat_tests}
use Rattle.std.proofs.lemmas.List.{append-nil}
use Rattle.std.proofs.lemmas.List.Folds.{list_all-map}
use Rattle.br_base.specs.Name.{is_name, starts_name, continues_name}
use Rattle.br_sexpr.specs.declared.tree.Tree.{Tree}
use Rattle.br_sexpr.specs.declared.tree.Tree.TheOpen as layer
use Rattle.br_sexpr.specs.declared.tree.Tree.TheViews as view
use Rattle.br_sexpr.specs.declared.tree.Tree.TheVariants.{rolls-Name, rolls-Number, rolls-List}
use Rattle.br_sexpr.specs.declared.tree.Tree.TheFolds.{fold-roll-Tree}
use Rattle.br_sexpr.specs.Number.{number_of}
use Rattle.br_sexpr.specs.Layout.{Piece, blank, opening, closing, run, spelling, is_blank, IsPiece, stops, EndsBefore}
use Rattle.br_sexpr.specs.Token.{opens, closes, names, kept, number_token, tokens_at, tokens_of}
use Rattle.br_sexpr.specs.Forest.{tree_tokens, forest_tokens, tree_height, forest_height}
use Rattle.br_sexpr.specs.Canonical.{spaced, with_spaces, text_step, tree_text, canonical, bare_step}
use Rattle.br_sexpr.specs.Canonical.{bare, sound_step, is_sound, AreSameUpToOffsets, ArePrintable}
use Rattle.br_sexpr.specs.Reads.{Reads}
use Rattle.br_sexpr.specs.Progress.{outside, pieces, tokens_from}
use Rattle.br_sexpr.proofs.ForestLemmas.{tokens-name, tokens-number, tokens-list}
use Rattle.br_sexpr.proofs.ForestLemmas.{height-name, height-number, height-list}
use Rattle.br_sexpr.proofs.Layouts.{layout, pieces-piece}
use Rattle.br_sexpr.proofs.Trees.{tree-induction}
use Rattle.br_sexpr.proofs.Decimals.{ReadsBack, decimal-reads}

text-name : (at : ℕ) (text : List ℕ) → tree_text (view.made-Name at text) ≡ text
text-name at text = ap tree_text (sym (rolls-Name at text)) ∙ fold-roll-Tree (List ℕ) text_step (layer.Name at text)

text-number : (at value : ℕ) → tree_text (view.made-Number at value) ≡ decimal value
text-number at value =
    ap tree_text (sym (rolls-Number at value)) ∙ fold-roll-Tree (List ℕ) text_step (layer.Number at value)

text-list : (at : ℕ) (items : List Tree)
    → tree_text (view.List at items) ≡ 40 ∷ (with_spaces (map tree_text items) ++ 41 ∷ [])
text-list at items = ap tree_text (sym (rolls-List at items)) ∙ fold-roll-Tree (List ℕ) text_step (layer.List at items)

bare-name : (at : ℕ) (text : List ℕ) → bare (view.made-Name at text) ≡ view.made-Name 0 text
bare-name at text = ap bare (sym (rolls-Name at text)) ∙ fold-roll-Tree Tree bare_step (layer.Name at text)

bare-number : (at value : ℕ) → bare (view.made-Number at value) ≡ view.made-Number 0 value
bare-number at value = ap bare (sym (rolls-Number at value)) ∙ fold-roll-Tree Tree bare_step (layer.Number at value)

bare-list : (at : ℕ) (items : List Tree) → bare (view.List at items) ≡ view.List 0 (map bare items)
bare-list at items = ap bare (sym (rolls-List at items)) ∙ fold-roll-Tree Tree bare_step (layer.List at items)

sound-name : (at : ℕ) (text : List ℕ) → is_sound (view.made-Name at text) ≡ is_name text
sound-name at text = ap is_sound (sym (rolls-Name at text)) ∙ fold-roll-Tree Bool sound_step (layer.Name at text)

sound-number : (at value : ℕ) → is_sound (view.made-Number at value) ≡ sound_step (layer.Number at value)
sound-number at value =
    ap is_sound (sym (rolls-Number at value)) ∙ fold-roll-Tree Bool sound_step (layer.Number at value)

sound-list : (at : ℕ) (items : List Tree) → is_sound (view.List at items) ≡ list_all is_sound items
sound-list at items = ap is_sound (sym (rolls-List at items)) ∙ fold-roll-Tree Bool sound_step (layer.List at items)
    ∙ list_all-map (λ b. b) is_sound items

tokens-piece : (p : Piece) (at : ℕ) (rest : List ℕ) → IsPiece p → EndsBefore p rest
    → tokens_from at (spelling p ++ rest) ≡ tokens_at at p ++ tokens_from (at + length (spelling p)) rest
unfolding tokens_from
tokens-piece p at rest is ends = ap (tokens_of at) (pieces-piece p rest is ends)

starts-continues : (b : ℕ) → starts_name b ≡ true → continues_name b ≡ true
starts-continues b is = grind (arith, nat_tests)

name-continues : (text : List ℕ) → is_name text ≡ true → IsPiece (run text)
name-continues [] is = absurd (false≢true is)
name-continues (b ∷ bs) is =
    let parts = and_parts (starts_name b) (list_all continues_name bs) is in
    (omega arith, rw (starts-continues b parts.0) parts.1)

-- a tree that is read again after its text
record Again (t : Tree) (at : ℕ) (rest : List ℕ) : Type 0 where
  got : Tree
  end : ℕ
  tokens : map kept (tokens_from at (tree_text t ++ rest)) ≡ tree_tokens got ++ map kept (tokens_from end rest)
  same : bare got ≡ bare t
  high : tree_height got ≡ tree_height t

-- and a list of trees after a text of theirs
record AgainAll (text : List ℕ) (ts : List Tree) (at : ℕ) (rest : List ℕ) : Type 0 where
  got : List Tree
  end : ℕ
  tokens : map kept (tokens_from at (text ++ rest)) ≡ forest_tokens got ++ map kept (tokens_from end rest)
  same : map bare got ≡ map bare ts
  high : forest_height got ≡ forest_height ts

abbrev ReadsAgain : Tree → Type 0
ReadsAgain t = is_sound t ≡ true → (at : ℕ) (rest : List ℕ) → stops continues_name rest ≡ true → Again t at rest

name-again : (place : ℕ) (text : List ℕ) → ReadsAgain (view.made-Name place text)
name-again place text sound at rest stop =
    let is : is_name text ≡ true = sym (sound-name place text) ∙ sound in
    record {
      got = view.made-Name at text;
      end = at + length text;
      tokens =
          ap (λ bs. map kept (tokens_from at (bs ++ rest))) (text-name place text)
          ∙ ap (map kept) (tokens-piece (run text) at rest (name-continues text is) stop)
          ∙ ap (λ t. kept t ∷ map kept (tokens_from (at + length text) rest))
          (cond-true (is_name text) (names at text) (number_token at (number_of text)) is)
          ∙ ap (λ ts. ts ++ map kept (tokens_from (at + length text) rest)) (sym (tokens-name at text));
      same = bare-name at text ∙ sym (bare-name place text);
      high = height-name at text ∙ sym (height-name place text);
    }

number-again : (place value : ℕ) → ReadsAgain (view.made-Number place value)
number-again place value sound at rest stop =
    let small : value < 2 ^ 32 = ltb-true value (2 ^ 32) (sym (sound-number place value) ∙ sound) in
    let back : ReadsBack value = decimal-reads value small in
    let text : List ℕ = decimal value in
    record {
      got = view.made-Number at value;
      end = at + length text;
      tokens =
          ap (λ bs. map kept (tokens_from at (bs ++ rest))) (text-number place value)
          ∙ ap (map kept) (tokens-piece (run text) at rest (back.some, back.all) stop)
          ∙ ap (λ t. kept t ∷ map kept (tokens_from (at + length text) rest))
          (cond-false (is_name text) (names at text) (number_token at (number_of text)) back.other
          ∙ ap (number_token at) back.value)
          ∙ ap (λ ts. ts ++ map kept (tokens_from (at + length text) rest)) (sym (tokens-number at value));
      same = bare-number at value ∙ sym (bare-number place value);
      high = height-number at value ∙ sym (height-number place value);
    }

stops-spaced : (xs : List (List ℕ)) (rest : List ℕ) → stops continues_name rest ≡ true
    → stops continues_name (spaced xs ++ rest) ≡ true
stops-spaced [] rest stop = stop
stops-spaced (x ∷ xs) rest stop = refl

-- a tree and then others
again-more : (t : Tree) (ts : List Tree) (text : List ℕ) (at : ℕ) (rest : List ℕ) → (w : Again t at (text ++ rest))
    → AgainAll text ts w.end rest → AgainAll (tree_text t ++ text) (t ∷ ts) at rest
again-more t ts text at rest w v = record {
  got = w.got ∷ v.got;
  end = v.end;
  tokens =
      ap (λ bs. map kept (tokens_from at bs)) (append_assoc (tree_text t) text rest)
      ∙ w.tokens ∙ ap (λ us. tree_tokens w.got ++ us) v.tokens
      ∙ sym (append_assoc (tree_tokens w.got) (forest_tokens v.got) (map kept (tokens_from v.end rest)));
  same = ap (λ u. u ∷ map bare v.got) w.same ∙ ap (λ us. bare t ∷ us) v.same;
  high = omega (arith, w.high, v.high);
}

again-space : (b : ℕ) → is_blank b ≡ true → (text : List ℕ) (ts : List Tree) (at : ℕ) (rest : List ℕ)
    → AgainAll text ts (at + 1) rest → AgainAll (b ∷ text) ts at rest
again-space b is text ts at rest v = record {
  got = v.got;
  end = v.end;
  tokens = ap (map kept) (tokens-piece (blank b) at (text ++ rest) is tt) ∙ v.tokens;
  same = v.same;
  high = v.high;
}

again-none : (at : ℕ) (rest : List ℕ) → AgainAll [] [] at rest
again-none at rest = record { got = []; end = at; tokens = refl; same = refl; high = refl }

spaced-again : (es : List ((t : Tree) × ReadsAgain t))
    → list_all is_sound (map (λ e. e.0) es) ≡ true → (at : ℕ) (rest : List ℕ) → stops continues_name rest ≡ true
    → AgainAll (spaced (map tree_text (map (λ e. e.0) es))) (map (λ e. e.0) es) at rest
spaced-again [] sound at rest stop = again-none at rest
spaced-again (e ∷ es) sound at rest stop =
    let ts : List Tree = map (λ d. d.0) es in
    let parts = and_parts (is_sound e.0) (list_all is_sound ts) sound in
    let text : List ℕ = spaced (map tree_text ts) in
    let w : Again e.0 (at + 1) (text ++ rest) =
    e.1 parts.0 (at + 1) (text ++ rest) (stops-spaced (map tree_text ts) rest stop) in
    again-space 32 refl (tree_text e.0 ++ text) (e.0 ∷ ts) at rest
    (again-more e.0 ts text (at + 1) rest w (spaced-again es parts.1 w.end rest stop))

items-again : (es : List ((t : Tree) × ReadsAgain t))
    → list_all is_sound (map (λ e. e.0) es) ≡ true → (at : ℕ) (rest : List ℕ) → stops continues_name rest ≡ true
    → AgainAll (with_spaces (map tree_text (map (λ e. e.0) es))) (map (λ e. e.0) es) at rest
items-again [] sound at rest stop = again-none at rest
items-again (e ∷ es) sound at rest stop =
    let ts : List Tree = map (λ d. d.0) es in
    let parts = and_parts (is_sound e.0) (list_all is_sound ts) sound in
    let text : List ℕ = spaced (map tree_text ts) in
    let w : Again e.0 at (text ++ rest) = e.1 parts.0 at (text ++ rest) (stops-spaced (map tree_text ts) rest stop) in
    again-more e.0 ts text at rest w (spaced-again es parts.1 w.end rest stop)

list-again : (place : ℕ) (es : List ((t : Tree) × ReadsAgain t)) → ReadsAgain (view.List place (map (λ e. e.0) es))
list-again place es sound at rest stop =
    let items : List Tree = map (λ e. e.0) es in
    let text : List ℕ = with_spaces (map tree_text items) in
    let v : AgainAll text items (at + 1) (41 ∷ rest) =
    items-again es (sym (sound-list place items) ∙ sound) (at + 1) (41 ∷ rest) refl in
    record {
      got = view.List at v.got;
      end = v.end + 1;
      tokens =
          ap (λ bs. map kept (tokens_from at (bs ++ rest))) (text-list place items)
          ∙ ap (λ bs. map kept (tokens_from at (40 ∷ bs))) (append_assoc text (41 ∷ []) rest)
          ∙ ap (map kept) (tokens-piece opening at (text ++ 41 ∷ rest) tt tt)
          ∙ ap (λ ts. opens at ∷ ts) v.tokens
          ∙ ap (λ ts. opens at ∷ (forest_tokens v.got ++ map kept ts)) (tokens-piece closing v.end rest tt tt)
          ∙ ap (λ ts. opens at ∷ ts)
          (sym (append_assoc (forest_tokens v.got) (closes 0 ∷ []) (map kept (tokens_from (v.end + 1) rest))))
          ∙ ap (λ ts. ts ++ map kept (tokens_from (v.end + 1) rest)) (sym (tokens-list at v.got));
      same = bare-list at v.got ∙ ap (view.List 0) v.same ∙ sym (bare-list place items);
      high = height-list at v.got ∙ ap (λ n. n + 1) v.high ∙ sym (height-list place items);
    }

tree-again : (t : Tree) → ReadsAgain t
tree-again = tree-induction ReadsAgain name-again number-again list-again

canonical-again : (ts : List Tree) → list_all is_sound ts ≡ true → (at : ℕ) → AgainAll (canonical ts) ts at []
canonical-again [] sound at = again-none at []
canonical-again (t ∷ ts) sound at =
    let parts = and_parts (is_sound t) (list_all is_sound ts) sound in
    let w : Again t at ((10 ∷ canonical ts) ++ []) = tree-again t parts.0 at ((10 ∷ canonical ts) ++ []) refl in
    let P : List ℕ → Type 0 = λ bs. AgainAll bs (t ∷ ts) at [] in
    subst P (sym (append_assoc (tree_text t) (10 ∷ []) (canonical ts)))
    (again-more t ts (10 ∷ canonical ts) at [] w
    (again-space 10 refl (canonical ts) ts w.end [] (canonical-again ts parts.1 (w.end + 1))))

pub prints-read : (ts : List Tree) → ArePrintable ts
    → (got : List Tree) × Reads (canonical ts) got × AreSameUpToOffsets got ts
unfolding tokens_from
prints-read ts printable =
    let v : AgainAll (canonical ts) ts 0 [] = canonical-again ts printable.sound 0 in (
      v.got,
      record {
        pieces = pieces outside (canonical ts);
        layout = layout (canonical ts);
        tokens = ap (λ bs. map kept (tokens_of 0 (pieces outside bs))) (sym (append-nil (canonical ts))) ∙ v.tokens
            ∙ append-nil (forest_tokens v.got);
        shallow = omega (arith, v.high, printable.shallow);
      },
      v.same,
    )
