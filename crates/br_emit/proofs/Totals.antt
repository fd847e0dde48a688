-- The words of statements and functions against their bulk, and where functions stand.
use Rattle.std.proofs.Common.{◌≡◌, ℕ, ◌+◌, ◌-◌, ◌*◌, ◌%◌, ◌^◌, ◌≤◌, ◌==◌, ◌||◌, nat_lt, nat_le}
use Rattle.std.proofs.Common.{if◌then◌else◌, Bool, true, false, List, [], ◌∷◌, ◌++◌, map}
use Rattle.std.proofs.Common.{length, sum, refl, sym, ap, subst, ◌∙◌, arith, length-append}
use Rattle.std.specs.List.{fold}
use Rattle.br_words.specs.declared.operation.BinOp.{BinOp}
use Rattle.br_words.specs.declared.operation.BinOp.TheVariants as op
use Rattle.br_flatimp.specs.declared.program.Operand.{Operand}
use Rattle.br_flatimp.specs.declared.program.Operand.TheVariants as operand
use Rattle.br_flatimp.specs.declared.program.Stmt.{Stmt, map-Stmt, roll-Stmt}
use Rattle.br_flatimp.specs.declared.program.Stmt.TheOpen.{Stmt-F}
use Rattle.br_flatimp.specs.declared.program.Stmt.TheFolds.{fold-roll-Stmt, ind-Stmt}
use Rattle.br_flatimp.specs.declared.program.FlatFunc.{FlatFunc}
use Rattle.br_flatimp.specs.Parts.{parts}
use Rattle.br_flatimp.specs.Sizes.{words_for, own_words, statement_bulk, function_bulk, flat_bulk, nest}
use Rattle.br_flatimp.specs.Runs.{Forgets}
use Rattle.br_rv32im.specs.declared.instruction.Ins.TheVariants.{Imm, Reg, Ecall}
use Rattle.br_rv32im.specs.declared.instruction.ImmOp.TheVariants.{Addi}
use Rattle.std.specs.Prelude.{pos}
use Rattle.br_rv32im.specs.declared.instruction.RegOp.TheVariants.{Add}
use Rattle.br_emit.specs.Code.{Does, Targets, low_part, constant_items, copy_items, op_items, is_short}
use Rattle.br_emit.specs.Code.{place_items, framed, framed_bytes, save_items, restore_items, move_items}
use Rattle.br_emit.specs.Code.{exit_items, all_items, callable_items, entry_items, stack_items}
use Rattle.br_emit.specs.Code.{direct_items, call_items, is_called, function_items, program_items, places}
use Rattle.br_emit.specs.Sizes.{call_words, jump_words, over_words, skip_words, back_words}
use Rattle.br_emit.specs.Sizes.{if_head_words, if_middle_words, loop_head_words, Sized, sized_of_words}
use Rattle.br_emit.specs.Sizes.{sized_in_turn, sized_if, sized_loop, statement_sized, sized, sized_all}
use Rattle.br_emit.specs.Sizes.{callable_words, direct_words, function_words, begins, program_words}
use Rattle.br_emit.proofs.Saving.{framed_few}
use Rattle.br_emit.proofs.Sizing.{call_length, all_words_are}

fold_from : (a : ℕ) (xs : List ℕ) → fold ◌+◌ a xs ≡ a + sum xs
fold_from a [] = omega arith
fold_from a (x ∷ xs) = fold_from (a + x) xs ∙ (let e = fold_from (0 + x) xs in omega (arith, e))

pub sum_cons : (x : ℕ) (xs : List ℕ) → sum (x ∷ xs) ≡ x + sum xs
sum_cons x xs = fold_from (0 + x) xs ∙ omega arith

-- ---- pieces

choose : (b : Bool) (m n most : ℕ) → m ≤ most → n ≤ most → (if b then m else n) ≤ most
choose true m n most h k = h
choose false m n most h k = k

jump_most : (w : ℕ) → jump_words w ≤ 2
jump_most w = choose (nat_lt w (2 ^ 20) || nat_le (2 ^ 32 - 2 ^ 20) w) 1 2 2 (omega arith) (omega arith)

over_most : (n : ℕ) → over_words n ≤ 2
over_most n = choose (nat_lt (4 * (n + 1)) (2 ^ 20)) (jump_words (4 * (n + 1))) (jump_words (4 * (n + 2))) 2
    (jump_most (4 * (n + 1))) (jump_most (4 * (n + 2)))

skip_most : (n : ℕ) → skip_words n ≤ 3
skip_most n = let over = over_most n in
    choose (nat_lt (4 * (n + 1)) 4096) 1 (1 + over_words n) 3 (omega arith) (omega arith)

back_most : (n : ℕ) → back_words n ≤ 3
back_most n = let jump = jump_most (2 ^ 32 - 4 * (n + 1)) in
    choose (nat_le (4 * n) 4096) 1 (1 + jump_words (2 ^ 32 - 4 * (n + 1))) 3 (omega arith) (omega arith)

head_most : (a b : ℕ) → if_head_words a b ≤ 3
head_most a b =
    choose (b == 0) (skip_words a) (if a == 0 then skip_words b else skip_words (a + over_words b)) 3 (skip_most a)
    (choose (a == 0) (skip_words b) (skip_words (a + over_words b)) 3 (skip_most b) (skip_most (a + over_words b)))

middle_most : (a b : ℕ) → if_middle_words a b ≤ 2
middle_most a b = choose ((a == 0) || (b == 0)) 0 (over_words b) 2 (omega arith) (over_most b)

loop_most : (n : ℕ) → loop_head_words n ≤ 2
loop_most n = choose (n == 0) 0 (over_words n) 2 (omega arith) (over_most n)

constant_most : (r n : ℕ) → length (constant_items r n) ≤ 2
constant_most r n = by (is_short n) (n % 4096 == 0) refl refl
  where
    by : (b c : Bool) → is_short n ≡ b → (n % 4096 == 0) ≡ c → length (constant_items r n) ≤ 2
    by true c e f = rw e (omega arith)
    by false true e f = rw e (rw f (omega arith))
    by false false e f = rw e (rw f (omega arith))

copy_most : (x y : ℕ) → length (copy_items x y) ≤ 1
copy_most x y = by (x == y) refl
  where
    by : (b : Bool) → (x == y) ≡ b → length (copy_items x y) ≤ 1
    by true e = rw e (omega arith)
    by false e = rw e (omega arith)

pub op_most : (x : ℕ) (o : BinOp) (y : ℕ) (z : Operand) → length (op_items x o y z) ≤ 2
op_most x op.Add y (operand.Name b) = omega arith
op_most x op.Sub y (operand.Name b) = omega arith
op_most x op.Mul y (operand.Name b) = omega arith
op_most x op.Mulhuu y (operand.Name b) = omega arith
op_most x op.Divu y (operand.Name b) = omega arith
op_most x op.Remu y (operand.Name b) = omega arith
op_most x op.And y (operand.Name b) = omega arith
op_most x op.Or y (operand.Name b) = omega arith
op_most x op.Xor y (operand.Name b) = omega arith
op_most x op.Sru y (operand.Name b) = omega arith
op_most x op.Slu y (operand.Name b) = omega arith
op_most x op.Srs y (operand.Name b) = omega arith
op_most x op.Lts y (operand.Name b) = omega arith
op_most x op.Ltu y (operand.Name b) = omega arith
op_most x op.Eq y (operand.Name b) = omega arith
op_most x op.Add y (operand.Const c) = omega arith
op_most x op.Sub y (operand.Const c) = omega arith
op_most x op.Mul y (operand.Const c) = omega arith
op_most x op.Mulhuu y (operand.Const c) = omega arith
op_most x op.Divu y (operand.Const c) = omega arith
op_most x op.Remu y (operand.Const c) = omega arith
op_most x op.And y (operand.Const c) = omega arith
op_most x op.Or y (operand.Const c) = omega arith
op_most x op.Xor y (operand.Const c) = omega arith
op_most x op.Sru y (operand.Const c) = omega arith
op_most x op.Slu y (operand.Const c) = omega arith
op_most x op.Srs y (operand.Const c) = omega arith
op_most x op.Lts y (operand.Const c) = omega arith
op_most x op.Ltu y (operand.Const c) = omega arith
op_most x op.Eq y (operand.Const c) = omega arith

place_most : (x distance : ℕ) → length (place_items x distance) ≤ 3
place_most x distance = by (nat_lt distance 2048)
  where
    far : length (constant_items x distance ++ Does (Reg Add x x 2) ∷ []) ≤ 3
    far = let more = constant_most x distance in
        let size = length-append (constant_items x distance) (Does (Reg Add x x 2) ∷ []) in omega arith

    by : (b : Bool) → length (if b then Does (Imm Addi x 2 (pos distance)) ∷ []
        else constant_items x distance ++ Does (Reg Add x x 2) ∷ []) ≤ 3
    by true = omega arith
    by false = far

pub move_most : (n : ℕ) → length (move_items n) ≤ 3
move_most n = by (n == 0) (is_short n)
  where
    far : length (constant_items 1 n ++ Does (Reg Add 2 2 1) ∷ []) ≤ 3
    far = let more = constant_most 1 n in
        let size = length-append (constant_items 1 n) (Does (Reg Add 2 2 1) ∷ []) in omega arith

    by : (b c : Bool) → length (if b then [] else if c then Does (Imm Addi 2 2 (low_part n)) ∷ []
        else constant_items 1 n ++ Does (Reg Add 2 2 1) ∷ []) ≤ 3
    by true c = omega arith
    by false true = omega arith
    by false false = far

-- ---- statements

call_most : (near : Bool) → call_words near ≤ 2
call_most true = omega arith
call_most false = omega arith

-- a statement's words and the lengths in it are at most its bulk
record Bounded (near : Bool) (st : Stmt) (free : ℕ) : Type 0 where
  words : (sized near st free).words ≤ statement_bulk st
  parts : length (sized near st free).parts ≤ statement_bulk st

abbrev AllBounded : Bool → Stmt → Type 0
AllBounded near st = (free : ℕ) → Bounded near st free

pub record SizedWithin (s : Sized) (bulk : ℕ) : Type 0 where
  pub words : s.words ≤ bulk
  pub parts : length s.parts ≤ bulk

in_turn_within : (near : Bool) (cs : List ((st : Stmt) × AllBounded near st)) (free : ℕ) → SizedWithin (sized_in_turn
    (map (sized near) (map (λ e. e.0) cs)) free) (sum (map statement_bulk (map (λ e. e.0) cs)))
in_turn_within near [] free = record { words = omega arith; parts = omega arith }
in_turn_within near (c ∷ cs) free =
    let here = c.1 free in
    let words = here.words in
    let parts = here.parts in
    let rest = in_turn_within near cs free in
    let words' = rest.words in
    let parts' = rest.parts in
    let added = sum_cons (statement_bulk c.0) (map statement_bulk (map (λ e. e.0) cs)) in
    let size = length-append (sized near c.0 free).parts
    (sized_in_turn (map (sized near) (map (λ e. e.0) cs)) free).parts in
    record { words = omega arith; parts = omega arith }

if_within : (a b : Sized) (m n k : ℕ) → k ≡ 5 + (m + n) → SizedWithin a m → SizedWithin b n
    → SizedWithin (sized_if a b) k
if_within a b m n whole is h k =
    let h1 = h.words in
    let h2 = h.parts in
    let k1 = k.words in
    let k2 = k.parts in
    let head = head_most a.words b.words in
    let middle = middle_most a.words b.words in
    let size = length-append a.parts b.parts in
    record { words = omega arith; parts = omega arith }

loop_within : (a b : Sized) (m n k : ℕ) → k ≡ 5 + (m + n) → SizedWithin a m → SizedWithin b n
    → SizedWithin (sized_loop a b) k
loop_within a b m n whole is h k =
    let h1 = h.words in
    let h2 = h.parts in
    let k1 = k.words in
    let k2 = k.parts in
    let head = loop_most b.words in
    let back = back_most (b.words + a.words) in
    let size = length-append b.parts a.parts in
    record { words = omega arith; parts = omega arith }

leaf_within : (n m : ℕ) → n ≤ m → SizedWithin (sized_of_words n) (m + 0)
leaf_within n m h = record { words = omega arith; parts = omega arith }

layer_within : (near : Bool) (y : Stmt-F ((st : Stmt) × AllBounded near st)) (free : ℕ)
    → (let z = map-Stmt ((st : Stmt) × AllBounded near st) Stmt (λ e. e.0) y in
    let bulks = map-Stmt Stmt ℕ statement_bulk z in SizedWithin (statement_sized near
    (map-Stmt Stmt (ℕ → Sized) (sized near) z) free) (own_words bulks + sum (map sum (parts bulks))))
layer_within near (Stmt-F.Lit x n) free = leaf_within _ 2 (constant_most x n)
layer_within near (Stmt-F.Copy x y) free = leaf_within _ 1 (copy_most x y)
layer_within near (Stmt-F.Op x o y z) free = leaf_within _ 2 (op_most x o y z)
layer_within near (Stmt-F.Load x size y offset) free = leaf_within _ 1 (omega arith)
layer_within near (Stmt-F.Store size y z offset) free = leaf_within _ 1 (omega arith)
layer_within near (Stmt-F.Table x size bytes y) free =
    let over = over_most (words_for (length bytes)) in
    leaf_within (over_words (words_for (length bytes)) + words_for (length bytes) + 2)
    (4 + words_for (length bytes)) (omega arith)
layer_within near (Stmt-F.Stackalloc x n body) free =
    let rest = in_turn_within near body (free - n) in
    let words' = rest.words in
    let parts' = rest.parts in
    let place = place_most x (free - n) in
    record { words = omega arith; parts = omega arith }
layer_within near (Stmt-F.If test first second) free =
    if_within (sized_in_turn (map (sized near) (map (λ e. e.0) first)) free)
    (sized_in_turn (map (sized near) (map (λ e. e.0) second)) free)
    (sum (map statement_bulk (map (λ e. e.0) first))) (sum (map statement_bulk (map (λ e. e.0) second))) _ (omega arith)
    (in_turn_within near first free) (in_turn_within near second free)
layer_within near (Stmt-F.Loop first test last) free =
    loop_within (sized_in_turn (map (sized near) (map (λ e. e.0) first)) free)
    (sized_in_turn (map (sized near) (map (λ e. e.0) last)) free)
    (sum (map statement_bulk (map (λ e. e.0) first))) (sum (map statement_bulk (map (λ e. e.0) last))) _ (omega arith)
    (in_turn_within near first free) (in_turn_within near last free)
layer_within near (Stmt-F.Call xs g ys) free = leaf_within _ 2 (call_most near)
layer_within near (Stmt-F.Read x y) free = leaf_within _ 1 (omega arith)
layer_within near (Stmt-F.Write y z) free = leaf_within _ 1 (omega arith)

bounded : (near : Bool) (st : Stmt) → AllBounded near st
bounded near = ind-Stmt (AllBounded near) (λ x y is. subst (λ z. AllBounded near (roll-Stmt z)) is (layer y))
  where
    layer : (y : Stmt-F ((st : Stmt) × AllBounded near st))
        → AllBounded near (roll-Stmt (map-Stmt ((st : Stmt) × AllBounded near st) Stmt (λ e. e.0) y))
    layer y free =
        let z = map-Stmt ((st : Stmt) × AllBounded near st) Stmt (λ e. e.0) y in
        let within = layer_within near y free in
        let size = fold-roll-Stmt (ℕ → Sized) (statement_sized near) z in
        let bulk = fold-roll-Stmt ℕ (λ y. own_words y + sum (map sum (parts y))) z in
        let both = subst (λ f. SizedWithin (f free) (statement_bulk (roll-Stmt z))) (sym size)
        (subst (λ n. SizedWithin (statement_sized near (map-Stmt Stmt (ℕ → Sized) (sized near) z) free) n)
        (sym bulk) within) in
        record { words = both.words; parts = both.parts }

pub all_within : (near : Bool) (body : List Stmt) (free : ℕ)
    → SizedWithin (sized_all near body free) (sum (map statement_bulk body))
all_within near [] free = record { words = omega arith; parts = omega arith }
all_within near (st ∷ body) free =
    let here = bounded near st free in
    let words = here.words in
    let parts = here.parts in
    let rest = all_within near body free in
    let words' = rest.words in
    let parts' = rest.parts in
    let added = sum_cons (statement_bulk st) (map statement_bulk body) in
    let size = length-append (sized near st free).parts (sized_all near body free).parts in
    record { words = omega arith; parts = omega arith }

-- ---- functions

save_length : (i : ℕ) (rs : List ℕ) → length (save_items i rs) ≡ length rs
save_length i [] = refl
save_length i (r ∷ rs) = let rest = save_length (i + 1) rs in omega arith

restore_length : (i : ℕ) (rs : List ℕ) → length (restore_items i rs) ≡ length rs
restore_length i [] = refl
restore_length i (r ∷ rs) = let rest = restore_length (i + 1) rs in omega arith

pub callable_length : (targets : Targets) (forgets : Forgets) (n : ℕ) (f : FlatFunc)
    → length (callable_items targets forgets n f) ≡ callable_words targets.near forgets n f
callable_length targets forgets n f =
    let rs = framed targets.near forgets n f in
    let bytes = framed_bytes targets.near forgets n f in
    let first = move_items ((2 ^ 32 - bytes) % 2 ^ 32) in
    let down = move_items ((2 ^ 32 - nest f) % 2 ^ 32) in
    let body = all_items targets f.body (nest f) in
    let up = move_items (nest f) in
    let last = move_items bytes in
    let s0 = length-append first
    (save_items 0 rs ++ (down ++ (body ++ (up ++ (restore_items 0 rs ++ (last ++ exit_items)))))) in
    let s1 = length-append (save_items 0 rs) (down ++ (body ++ (up ++ (restore_items 0 rs ++ (last ++ exit_items))))) in
    let s2 = length-append down (body ++ (up ++ (restore_items 0 rs ++ (last ++ exit_items)))) in
    let s3 = length-append body (up ++ (restore_items 0 rs ++ (last ++ exit_items))) in
    let s4 = length-append up (restore_items 0 rs ++ (last ++ exit_items)) in
    let s5 = length-append (restore_items 0 rs) (last ++ exit_items) in
    let s6 = length-append last exit_items in
    let save = save_length 0 rs in
    let restore = restore_length 0 rs in
    let words = all_words_are targets f.body (nest f) in
    omega arith

pub direct_length : (targets : Targets) (f : FlatFunc) → length (direct_items targets f) ≡ direct_words targets.near f
direct_length targets f =
    let s1 = length-append (stack_items f) (all_items targets f.body (nest f) ++ Does Ecall ∷ []) in
    let s2 = length-append (all_items targets f.body (nest f)) (Does Ecall ∷ []) in
    let words = all_words_are targets f.body (nest f) in
    omega arith

pub entry_length : (near : Bool) (target : ℕ) → length (entry_items near target) ≡ 2 + call_words near
entry_length near target =
    let size = length-append (call_items near target) (Does Ecall ∷ []) in
    let call = call_length near target in
    omega arith

pub function_length : (targets : Targets) (forgets : Forgets) (fs : List FlatFunc) (n : ℕ) (f : FlatFunc)
    → length (function_items targets forgets fs n f) ≡ function_words targets.near forgets (is_called fs n) n f
function_length targets forgets fs n f = by (is_called fs n) refl
  where
    by : (b : Bool) → is_called fs n ≡ b
        → length (function_items targets forgets fs n f) ≡ function_words targets.near forgets (is_called fs n) n f
    by true e =
        rw e (let size = length-append (callable_items targets forgets n f) (entry_items targets.near (targets.at n)) in
        let words = callable_length targets forgets n f in
        let entry = entry_length targets.near (targets.at n) in omega arith)
    by false e = rw e (direct_length targets f)

pub program_length : (targets : Targets) (forgets : Forgets) (fs : List FlatFunc) (n : ℕ) (rest : List FlatFunc)
    → length (program_items targets forgets fs n rest) ≡ program_words targets.near forgets (is_called fs) n rest
program_length targets forgets fs n [] = refl
program_length targets forgets fs n (f ∷ rest) =
    let size = length-append (function_items targets forgets fs n f) (program_items targets forgets fs (n + 1) rest) in
    let here = function_length targets forgets fs n f in
    let there = program_length targets forgets fs (n + 1) rest in
    omega arith

pub callable_most : (near : Bool) (forgets : Forgets) (n : ℕ) (f : FlatFunc)
    → callable_words near forgets n f + (2 + call_words near) ≤ function_bulk f
callable_most near forgets n f =
    let few = framed_few near forgets n f in
    let call = call_most near in
    let first = move_most ((2 ^ 32 - framed_bytes near forgets n f) % 2 ^ 32) in
    let last = move_most (framed_bytes near forgets n f) in
    let within = all_within near f.body (nest f) in
    let words = within.words in
    let down = move_most ((2 ^ 32 - nest f) % 2 ^ 32) in
    let up = move_most (nest f) in
    omega arith

pub direct_most : (near : Bool) (f : FlatFunc) → direct_words near f ≤ function_bulk f
direct_most near f =
    let within = all_within near f.body (nest f) in
    let words = within.words in
    let stack = constant_most 2 (0x80300000 - nest f) in
    omega arith

pub function_most : (near : Bool) (forgets : Forgets) (b : Bool) (n : ℕ) (f : FlatFunc)
    → function_words near forgets b n f ≤ function_bulk f
function_most near forgets true n f = callable_most near forgets n f
function_most near forgets false n f = direct_most near f

pub program_most : (near : Bool) (forgets : Forgets) (called : ℕ → Bool) (n : ℕ) (rest : List FlatFunc)
    → program_words near forgets called n rest ≤ flat_bulk rest
program_most near forgets called n [] = omega arith
program_most near forgets called n (f ∷ rest) =
    let here = function_most near forgets (called n) n f in
    let there = program_most near forgets called (n + 1) rest in
    let added = sum_cons (function_bulk f) (map function_bulk rest) in
    omega arith

-- where functions stand, by their words
pub begins_are : (targets : Targets) (forgets : Forgets) (fs : List FlatFunc) (place n : ℕ) (rest : List FlatFunc)
    → begins targets.near forgets (is_called fs) place n rest ≡ places targets forgets fs place n rest
begins_are targets forgets fs place n [] = refl
begins_are targets forgets fs place n (f ∷ rest) =
    ap (λ q. place ∷ q) (ap (λ w. begins targets.near forgets (is_called fs) (place + w) (n + 1) rest)
    (sym (function_length targets forgets fs n f))
    ∙ begins_are targets forgets fs (place + length (function_items targets forgets fs n f)) (n + 1) rest)
