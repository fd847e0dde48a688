-- The words that statements take: as many as their items, and no more than their bulk.
use Rattle.std.proofs.Common.{◌≡◌, ℕ, suc, ◌+◌, ◌-◌, ◌*◌, ◌^◌, ◌==◌, ◌||◌, nat_lt, nat_le}
use Rattle.std.proofs.Common.{if◌then◌else◌, Bool, true, false, List, [], ◌∷◌, ◌++◌, map, length}
use Rattle.std.proofs.Common.{refl, sym, ap, subst, ◌∙◌, arith, append-nil, length-append}
use Rattle.std.proofs.lemmas.Bool.Decides.{nat_tests}
use Rattle.br_flatimp.specs.declared.program.Stmt.{Stmt, map-Stmt, roll-Stmt}
use Rattle.br_flatimp.specs.declared.program.Stmt.TheOpen.{Stmt-F}
use Rattle.br_flatimp.specs.declared.program.Stmt.TheFolds.{fold-roll-Stmt, ind-Stmt}
use Rattle.br_flatimp.specs.Sizes.{words_for}
use Rattle.br_emit.specs.Code.{Item, Targets, Branching, branching, otherwise, place_items, jump_items}
use Rattle.br_emit.specs.Code.{over_items, skip_items, back_items, if_items, loop_items, table_words}
use Rattle.br_emit.specs.Code.{table_items, in_turn_items, call_items, statement_items, items_of, all_items}
use Rattle.br_emit.specs.Sizes.{call_words, jump_words, over_words, skip_words, back_words, if_head_items}
use Rattle.br_emit.specs.Sizes.{if_middle_items, loop_head_items, if_head_words, if_middle_words, loop_head_words}
use Rattle.br_emit.specs.Sizes.{Sized, sized_in_turn, sized_if, sized_loop, statement_sized, sized, sized_all}

-- ---- pieces

pub jump_length : (link w : ℕ) → length (jump_items link w) ≡ jump_words w
jump_length link w = by (nat_lt w (2 ^ 20) || nat_le (2 ^ 32 - 2 ^ 20) w) refl
  where
    by : (b : Bool) → (nat_lt w (2 ^ 20) || nat_le (2 ^ 32 - 2 ^ 20) w) ≡ b → length (jump_items link w) ≡ jump_words w
    by true e = rw e refl
    by false e = rw e refl

pub over_length : (link n : ℕ) → length (over_items link n) ≡ over_words n
over_length link n = by (nat_lt (4 * (n + 1)) (2 ^ 20)) refl
  where
    near : length (jump_items link (4 * (n + 1))) ≡ jump_words (4 * (n + 1))
    near = jump_length link (4 * (n + 1))

    far : length (jump_items link (4 * (n + 2))) ≡ jump_words (4 * (n + 2))
    far = jump_length link (4 * (n + 2))

    pick : (b : Bool) → length (if b then jump_items link (4 * (n + 1)) else jump_items link (4 * (n + 2)))
        ≡ (if b then jump_words (4 * (n + 1)) else jump_words (4 * (n + 2)))
    pick true = near
    pick false = far

    by : (b : Bool) → nat_lt (4 * (n + 1)) (2 ^ 20) ≡ b → length (over_items link n) ≡ over_words n
    by b e = pick (nat_lt (4 * (n + 1)) (2 ^ 20))

pub skip_length : (c : Branching) (n : ℕ) → length (skip_items c n) ≡ skip_words n
skip_length c n = by (nat_lt (4 * (n + 1)) 4096) refl
  where
    by : (b : Bool) → nat_lt (4 * (n + 1)) 4096 ≡ b → length (skip_items c n) ≡ skip_words n
    by true e = rw e refl
    by false e = rw e (let over = over_length 0 n in omega arith)

pub back_length : (c : Branching) (n : ℕ) → length (back_items c n) ≡ back_words n
back_length c n = by (nat_le (4 * n) 4096) refl
  where
    by : (b : Bool) → nat_le (4 * n) 4096 ≡ b → length (back_items c n) ≡ back_words n
    by true e = rw e refl
    by false e = rw e (let far = jump_length 0 (2 ^ 32 - 4 * (n + 1)) in omega arith)

-- ---- conditionals and loops by the lengths of their parts

not_zero : (n : ℕ) → (suc n == 0) ≡ false
not_zero n = grind (arith, nat_tests)

pick_false : {X : Type 0} (b : Bool) (x y : X) → b ≡ false → (if b then x else y) ≡ y
pick_false true x y e = absurd (cc)
pick_false false x y e = refl

or_of : (a b : Bool) → a ≡ false → b ≡ false → (a || b) ≡ false
or_of true b e f = absurd (cc)
or_of false b e f = f

or_true : (a : Bool) → (a || true) ≡ true
or_true true = refl
or_true false = refl

pick_true : {X : Type 0} (b : Bool) (x y : X) → b ≡ true → (if b then x else y) ≡ x
pick_true true x y e = refl
pick_true false x y e = absurd (cc)

head_both : (c : Branching) (a b : ℕ)
    → if_head_items c (suc a) (suc b) ≡ skip_items (otherwise c) (suc a + over_words (suc b))
head_both c a b =
    pick_false (suc b == 0) (skip_items (otherwise c) (suc a)) (if suc a == 0 then skip_items c (suc b)
    else skip_items (otherwise c) (suc a + over_words (suc b))) (not_zero b)
    ∙ pick_false (suc a == 0) (skip_items c (suc b))
    (skip_items (otherwise c) (suc a + over_words (suc b))) (not_zero a)

head_second : (c : Branching) (b : ℕ) → if_head_items c 0 (suc b) ≡ skip_items c (suc b)
head_second c b = pick_false (suc b == 0) (skip_items (otherwise c) 0) (skip_items c (suc b)) (not_zero b)

middle_both : (a b : ℕ) → if_middle_items (suc a) (suc b) ≡ over_items 0 (suc b)
middle_both a b = pick_false ((suc a == 0) || (suc b == 0)) [] (over_items 0 (suc b))
    (or_of (suc a == 0) (suc b == 0) (not_zero a) (not_zero b))

middle_first : (a : ℕ) → if_middle_items a 0 ≡ []
middle_first a = pick_true ((a == 0) || true) [] (over_items 0 0) (or_true (a == 0))

loop_some : (n : ℕ) → loop_head_items (suc n) ≡ over_items 0 (suc n)
loop_some n = pick_false (suc n == 0) [] (over_items 0 (suc n)) (not_zero n)

pub if_parts : (c : Branching) (first second : List Item) → if_items c first second ≡ if_head_items c (length first)
    (length second) ++ (first ++ (if_middle_items (length first) (length second) ++ second))
if_parts c first [] =
    let nothing : first ++ (if_middle_items (length first) 0 ++ []) ≡ first =
    ap (λ m. first ++ (m ++ [])) (middle_first (length first)) ∙ append-nil first in
    ap (λ q. skip_items (otherwise c) (length first) ++ q) (sym nothing)
if_parts c [] (i ∷ second) = sym (ap (λ q. q ++ (i ∷ second)) (head_second c (length second)))
if_parts c (k ∷ first) (i ∷ second) =
    let over = over_length 0 (suc (length second)) in
    let head : skip_items (otherwise c) (suc (length first) + length (over_items 0 (suc (length second))))
    ≡ if_head_items c (suc (length first)) (suc (length second)) =
    ap (λ n. skip_items (otherwise c) (suc (length first) + n)) over
    ∙ sym (head_both c (length first) (length second)) in
    let middle : over_items 0 (suc (length second)) ≡ if_middle_items (suc (length first)) (suc (length second)) =
    sym (middle_both (length first) (length second)) in
    ap (λ h. h ++ ((k ∷ first) ++ (over_items 0 (suc (length second)) ++ (i ∷ second)))) head
    ∙ ap
    (λ m. if_head_items c (suc (length first)) (suc (length second)) ++ ((k ∷ first) ++ (m ++ (i ∷ second)))) middle

pub loop_parts : (first : List Item) (c : Branching) (last : List Item) → loop_items first c last
    ≡ loop_head_items (length last) ++ (last ++ (first ++ back_items c (length last + length first)))
loop_parts first c [] = let same : length first ≡ 0 + length first = omega arith in
    ap (λ n. first ++ back_items c n) same
loop_parts first c (k ∷ last) =
    ap (λ h. h ++ ((k ∷ last) ++ (first ++ back_items c (suc (length last) + length first))))
    (sym (loop_some (length last)))

pub if_head_length : (c : Branching) (a b : ℕ) → length (if_head_items c a b) ≡ if_head_words a b
if_head_length c a b = pick (b == 0) (a == 0)
  where
    pick : (t u : Bool) → length (if t
        then skip_items (otherwise c) a else if u then skip_items c b else skip_items (otherwise c) (a + over_words b))
        ≡ (if t then skip_words a else if u then skip_words b else skip_words (a + over_words b))
    pick true u = skip_length (otherwise c) a
    pick false true = skip_length c b
    pick false false = skip_length (otherwise c) (a + over_words b)

pub if_middle_length : (a b : ℕ) → length (if_middle_items a b) ≡ if_middle_words a b
if_middle_length a b = pick ((a == 0) || (b == 0))
  where
    pick : (t : Bool) → length (if t then [] else over_items 0 b) ≡ (if t then 0 else over_words b)
    pick true = refl
    pick false = over_length 0 b

pub loop_head_length : (n : ℕ) → length (loop_head_items n) ≡ loop_head_words n
loop_head_length n = pick (n == 0)
  where
    pick : (t : Bool) → length (if t then [] else over_items 0 n) ≡ (if t then 0 else over_words n)
    pick true = refl
    pick false = over_length 0 n

pub table_words_length : (bytes : List ℕ) → length (table_words bytes) ≡ words_for (length bytes)
table_words_length [] = refl
table_words_length (a ∷ []) = refl
table_words_length (a ∷ b ∷ []) = refl
table_words_length (a ∷ b ∷ c ∷ []) = refl
table_words_length (a ∷ b ∷ c ∷ d ∷ bytes) = let rest = table_words_length bytes in omega arith

table_length : (x : ℕ) (size : _) (bytes : List ℕ) (y : ℕ)
    → length (table_items x size bytes y) ≡ over_words (words_for (length bytes)) + words_for (length bytes) + 2
table_length x size bytes y =
    let over = over_length 1 (length (table_words bytes)) in
    let words = table_words_length bytes in
    let same = ap over_words words in
    length-append (over_items 1 (length (table_words bytes))) _
    ∙ ap (λ n. length (over_items 1 (length (table_words bytes))) + n) (length-append (table_words bytes) _)
    ∙ omega arith

-- ---- statements

pub call_length : (near : Bool) (target : ℕ) → length (call_items near target) ≡ call_words near
call_length true target = refl
call_length false target = refl

abbrev WordsAre : Targets → Stmt → Type 0
WordsAre targets st = (free : ℕ) → (sized targets.near st free).words ≡ length (items_of targets st free)

in_turn_words : (targets : Targets) (cs : List ((st : Stmt) × WordsAre targets st)) (free : ℕ)
    → (sized_in_turn (map (sized targets.near) (map (λ e. e.0) cs)) free).words
    ≡ length (in_turn_items (map (items_of targets) (map (λ e. e.0) cs)) free)
in_turn_words targets [] free = refl
in_turn_words targets (c ∷ cs) free =
    let here = c.1 free in
    let rest = in_turn_words targets cs free in
    let both = length-append (items_of targets c.0 free)
    (in_turn_items (map (items_of targets) (map (λ e. e.0) cs)) free) in
    omega arith

if_words : (c : Branching) (first second : List Item) (a b : Sized) → a.words ≡ length first → b.words ≡ length second
    → (sized_if a b).words ≡ length (if_items c first second)
if_words c first second a b is_a is_b =
    let m = length first in
    let n = length second in
    let whole = ap length (if_parts c first second) in
    let s1 = length-append (if_head_items c m n) (first ++ (if_middle_items m n ++ second)) in
    let s2 = length-append first (if_middle_items m n ++ second) in
    let s3 = length-append (if_middle_items m n) second in
    let head = if_head_length c m n in
    let middle = if_middle_length m n in
    let same = ap (λ q. if_head_words q b.words + q + if_middle_words q b.words + b.words) is_a
    ∙ ap (λ q. if_head_words m q + m + if_middle_words m q + q) is_b in
    same ∙ omega arith

loop_words : (c : Branching) (first last : List Item) (a b : Sized) → a.words ≡ length first → b.words ≡ length last
    → (sized_loop a b).words ≡ length (loop_items first c last)
loop_words c first last a b is_a is_b =
    let m = length first in
    let n = length last in
    let whole = ap length (loop_parts first c last) in
    let s1 = length-append (loop_head_items n) (last ++ (first ++ back_items c (n + m))) in
    let s2 = length-append last (first ++ back_items c (n + m)) in
    let s3 = length-append first (back_items c (n + m)) in
    let head = loop_head_length n in
    let back = back_length c (n + m) in
    let same = ap (λ q. loop_head_words b.words + b.words + q + back_words (b.words + q)) is_a
    ∙ ap (λ q. loop_head_words q + q + m + back_words (q + m)) is_b in
    same ∙ omega arith

layer_words : (targets : Targets) (y : Stmt-F ((st : Stmt) × WordsAre targets st)) (free : ℕ)
    → (let z = map-Stmt ((st : Stmt) × WordsAre targets st) Stmt (λ e. e.0) y in
    (statement_sized targets.near (map-Stmt Stmt (ℕ → Sized) (sized targets.near) z) free).words
    ≡ length (statement_items targets (map-Stmt Stmt (ℕ → List Item) (items_of targets) z) free))
layer_words targets (Stmt-F.Lit x n) free = refl
layer_words targets (Stmt-F.Copy x y) free = refl
layer_words targets (Stmt-F.Op x o y z) free = refl
layer_words targets (Stmt-F.Load x size y offset) free = refl
layer_words targets (Stmt-F.Store size y z offset) free = refl
layer_words targets (Stmt-F.Table x size bytes y) free = sym (table_length x size bytes y)
layer_words targets (Stmt-F.Stackalloc x n body) free =
    let rest = in_turn_words targets body (free - n) in
    let both = length-append (place_items x (free - n))
    (in_turn_items (map (items_of targets) (map (λ e. e.0) body)) (free - n)) in
    omega arith
layer_words targets (Stmt-F.If test first second) free =
    if_words (branching test) (in_turn_items (map (items_of targets) (map (λ e. e.0) first)) free)
    (in_turn_items (map (items_of targets) (map (λ e. e.0) second)) free)
    (sized_in_turn (map (sized targets.near) (map (λ e. e.0) first)) free)
    (sized_in_turn (map (sized targets.near) (map (λ e. e.0) second)) free)
    (in_turn_words targets first free) (in_turn_words targets second free)
layer_words targets (Stmt-F.Loop first test last) free =
    loop_words (branching test) (in_turn_items (map (items_of targets) (map (λ e. e.0) first)) free)
    (in_turn_items (map (items_of targets) (map (λ e. e.0) last)) free)
    (sized_in_turn (map (sized targets.near) (map (λ e. e.0) first)) free)
    (sized_in_turn (map (sized targets.near) (map (λ e. e.0) last)) free)
    (in_turn_words targets first free) (in_turn_words targets last free)
layer_words targets (Stmt-F.Call xs g ys) free = sym (call_length targets.near (targets.at g))
layer_words targets (Stmt-F.Read x y) free = refl
layer_words targets (Stmt-F.Write y z) free = refl

pub words_are : (targets : Targets) (st : Stmt) → WordsAre targets st
words_are targets = ind-Stmt (WordsAre targets) (λ x y is. subst (λ z. WordsAre targets (roll-Stmt z)) is (layer y))
  where
    layer : (y : Stmt-F ((st : Stmt) × WordsAre targets st))
        → WordsAre targets (roll-Stmt (map-Stmt ((st : Stmt) × WordsAre targets st) Stmt (λ e. e.0) y))
    layer y free =
        let z = map-Stmt ((st : Stmt) × WordsAre targets st) Stmt (λ e. e.0) y in
        ap (λ f. (f free).words) (fold-roll-Stmt (ℕ → Sized) (statement_sized targets.near) z)
        ∙ layer_words targets y free
        ∙ sym (ap (λ f. length (f free)) (fold-roll-Stmt (ℕ → List Item) (statement_items targets) z))

pub all_words_are : (targets : Targets) (body : List Stmt) (free : ℕ)
    → (sized_all targets.near body free).words ≡ length (all_items targets body free)
all_words_are targets [] free = refl
all_words_are targets (st ∷ body) free =
    let here = words_are targets st free in
    let rest = all_words_are targets body free in
    let both = length-append (items_of targets st free) (all_items targets body free) in
    omega arith
