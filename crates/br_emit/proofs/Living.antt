-- What is live before statements, by the registers that they may read and those that they may leave as they were.
use Rattle.std.proofs.Common.{◌≡◌, ℕ, ◌+◌, ◌<◌, Bool, true, false, not, ◌&&◌, ◌||◌, List}
use Rattle.std.proofs.Common.{[], ◌∷◌, map, length, drop, get_or, refl, sym, ap, ◌∙◌}
use Rattle.br_flatimp.specs.declared.program.Cond.{Cond}
use Rattle.br_flatimp.specs.declared.program.Stmt.{Stmt}
use Rattle.br_flatimp.specs.declared.program.Stmt.TheVariants.{Stackalloc, If, Loop}
use Rattle.br_flatimp.specs.Values.{Names}
use Rattle.br_flatimp.specs.Parts.{test_names}
use Rattle.br_flatimp.specs.Liveness.{nothing, is_in, live, before, before_all, at_test}
use Rattle.br_emit.specs.declared.flow.Flow.{Flow}
use Rattle.br_emit.specs.Registers.{has, handed, own_read, own_written}
use Rattle.br_emit.proofs.Bits.{has-every, has-nothing}
use Rattle.br_emit.proofs.Own.{written-stackalloc, read-stackalloc, written-if, read-if}
use Rattle.br_emit.proofs.Own.{read-loop, live-stackalloc, live-if, live-loop, IsPlain, plain}
use Rattle.br_emit.proofs.Unrolling.{drop_next}

-- what is live at one register depends on what is live there
pub point : (w : Flow) (a b : Names) (x : ℕ) → a x ≡ b x → handed w a x ≡ handed w b x
point w a b x same = ap (λ t. has w.reads x || (t && has w.keeps x)) same

-- ---- sets for statements

still_bool : (a : Bool) → (false || (a && true)) ≡ a
still_bool true = refl
still_bool false = refl

pub still_is : (after : Bool) (x : ℕ) → x < 32 → (has 0 x || (after && has 0xffffffff x)) ≡ after
still_is after x below =
    ap (λ r. r || (after && has 0xffffffff x)) (has-nothing x)
    ∙ ap (λ k. false || (after && k)) (has-every x below)
    ∙ still_bool after

or_swap : (a b : Bool) → (a || b) ≡ (b || a)
or_swap true true = refl
or_swap true false = refl
or_swap false true = refl
or_swap false false = refl

pub own_is : (reads keeps writes every x : ℕ) (after : Bool) → has every x ≡ true
    → has keeps x ≡ (has every x && not (has writes x))
    → (has reads x || (after && has keeps x)) ≡ ((after && not (has writes x)) || has reads x)
own_is reads keeps writes every x after all is =
    ap (λ k. has reads x || (after && k)) (is ∙ ap (λ e. e && not (has writes x)) all)
    ∙ or_swap (has reads x) (after && not (has writes x))

test_bool : (t e a : Bool) → ((t || e) || (a && true)) ≡ (t || (a || e))
test_bool true e a = refl
test_bool false true true = refl
test_bool false true false = refl
test_bool false false true = refl
test_bool false false false = refl

or_false : (a : Bool) → (a || false) ≡ a
or_false true = refl
or_false false = refl

pub at_test_is : (first last w : Flow) (test again every : ℕ) (after : Names) (x : ℕ) → has every x ≡ true
    → has again x ≡ handed last (has first.reads) x → has w.reads x ≡ (has test x || has again x)
    → w.keeps ≡ every → handed w after x ≡ (has test x || (after x || handed last (handed first nothing) x))
at_test_is first last w test again every after x all agains reads keeps =
    let turn : has again x ≡ handed last (handed first nothing) x = agains
    ∙ point last (has first.reads) (handed first nothing) x (sym (or_false (has first.reads x))) in
    ap (λ r. r || (after x && has w.keeps x)) (reads ∙ ap (λ e. has test x || e) turn)
    ∙ ap (λ k. (has test x || handed last (handed first nothing) x) || (after x && k)) (ap (λ k. has k x) keeps ∙ all)
    ∙ test_bool (has test x) (handed last (handed first nothing) x) (after x)

-- ---- statements

-- sets that say of each register what lists say
abbrev pub Says : ℕ → List ℕ → Type 0
Says set xs = (x : ℕ) → x < 32 → has set x ≡ is_in xs x

pub plain_is : (s : Stmt) (w : Flow) (writes reads : ℕ) → IsPlain s → Says writes (own_written s)
    → Says reads (own_read s)
    → ((after : Names) (x : ℕ) → x < 32 → handed w after x ≡ ((after x && not (has writes x)) || has reads x))
    → (after : Names) (x : ℕ) → x < 32 → handed w after x ≡ before s after x
plain_is s w writes reads is written read own after x below =
    own after x below
    ∙ ap (λ t. (after x && not t) || has reads x) (written x below)
    ∙ ap (λ t. (after x && not (is_in (own_written s) x)) || t) (read x below)
    ∙ ap (λ (e : Names). e x) (plain s is after)

pub buffer_is : (s : Stmt) (x n : ℕ) (body inside : List Stmt) (w o b : Flow) (writes reads : ℕ)
    → s ≡ Stackalloc x n body → inside ≡ body → Says writes (own_written s) → Says reads (own_read s)
    → ((after : Names) (y : ℕ) → handed w after y ≡ handed o (handed b after) y)
    → ((after : Names) (y : ℕ) → y < 32 → handed o after y ≡ ((after y && not (has writes y)) || has reads y))
    → ((after : Names) (y : ℕ) → y < 32 → handed b after y ≡ before_all inside after y)
    → (after : Names) (y : ℕ) → y < 32 → handed w after y ≡ before s after y
buffer_is s x n body inside w o b writes reads is same written read then own part after y below =
    then after y
    ∙ own (handed b after) y below
    ∙ ap (λ t. (t && not (has writes y)) || has reads y)
    (part after y below ∙ ap (λ (q : List Stmt). before_all q after y) same)
    ∙ ap (λ t. (before_all body after y && not t) || has reads y) (written y below
    ∙ ap (λ (q : Stmt). is_in (own_written q) y) is ∙ ap (λ (q : List ℕ). is_in q y) (written-stackalloc x n body))
    ∙ ap (λ t. (before_all body after y && not (is_in (x ∷ []) y)) || t) (read y below
    ∙ ap (λ (q : Stmt). is_in (own_read q) y) is ∙ ap (λ (q : List ℕ). is_in q y) (read-stackalloc x n body))
    ∙ or_false (before_all body after y && not (is_in (x ∷ []) y))
    ∙ sym (ap (λ (q : Stmt). before q after y) is ∙ ap (λ (e : Names). e y) (live-stackalloc x n body after))

and_true : (a : Bool) → (a && true) ≡ a
and_true true = refl
and_true false = refl

pub if_is : (s : Stmt) (test : Cond) (first second inside1 inside2 : List Stmt) (w o e a b : Flow) (writes reads : ℕ)
    → s ≡ If test first second → inside1 ≡ first → inside2 ≡ second → Says writes (own_written s)
    → Says reads (own_read s)
    → ((after : Names) (y : ℕ) → handed w after y ≡ handed o (handed e after) y)
    → ((after : Names) (y : ℕ) → y < 32 → handed o after y ≡ ((after y && not (has writes y)) || has reads y))
    → ((after : Names) (y : ℕ) → handed e after y ≡ (handed a after y || handed b after y))
    → ((after : Names) (y : ℕ) → y < 32 → handed a after y ≡ before_all inside1 after y)
    → ((after : Names) (y : ℕ) → y < 32 → handed b after y ≡ before_all inside2 after y)
    → (after : Names) (y : ℕ) → y < 32 → handed w after y ≡ before s after y
if_is s test first second inside1 inside2 w o e a b writes reads is same1 same2 written read
    then own either part1 part2 after y below =
    let either_part : handed e after y ≡ (before_all first after y || before_all second after y) =
    either after y
    ∙ ap (λ t. t || handed b after y) (part1 after y below ∙ ap (λ (q : List Stmt). before_all q after y) same1)
    ∙ ap (λ t. before_all first after y || t)
    (part2 after y below ∙ ap (λ (q : List Stmt). before_all q after y) same2) in
    let parts : Bool = before_all first after y || before_all second after y in
    then after y
    ∙ own (handed e after) y below
    ∙ ap (λ t. (t && not (has writes y)) || has reads y) either_part
    ∙ ap (λ t. (parts && not t) || has reads y) (written y below ∙ ap (λ (q : Stmt). is_in (own_written q) y) is
    ∙ ap (λ (q : List ℕ). is_in q y) (written-if test first second))
    ∙ ap (λ t. (parts && true) || t) (read y below ∙ ap (λ (q : Stmt). is_in (own_read q) y) is
    ∙ ap (λ (q : List ℕ). is_in q y) (read-if test first second))
    ∙ ap (λ t. t || is_in (test_names test) y) (and_true parts)
    ∙ or_swap parts (is_in (test_names test) y)
    ∙ sym (ap (λ (q : Stmt). before q after y) is ∙ ap (λ (n : Names). n y) (live-if test first second after))

-- what is live at the test of a loop, by sets
pub test_is : (s : Stmt) (first : List Stmt) (test : Cond) (last inside1 inside2 : List Stmt) (a b : Flow) (reads : ℕ)
    → s ≡ Loop first test last → inside1 ≡ first → inside2 ≡ last → Says reads (own_read s)
    → ((after : Names) (y : ℕ) → y < 32 → handed a after y ≡ before_all inside1 after y)
    → ((after : Names) (y : ℕ) → y < 32 → handed b after y ≡ before_all inside2 after y)
    → (after : Names) (y : ℕ) → y < 32 → (has reads y || (after y || handed b (handed a nothing) y))
    ≡ at_test (map live first) test (map live last) after y
test_is s first test last inside1 inside2 a b reads is same1 same2 read part1 part2 after y below =
    ap (λ t. t || (after y || handed b (handed a nothing) y)) (read y below ∙ ap (λ (q : Stmt). is_in (own_read q) y) is
    ∙ ap (λ (q : List ℕ). is_in q y) (read-loop first test last))
    ∙ ap (λ t. is_in (test_names test) y || (after y || t))
    (point b (handed a nothing) (before_all first nothing) y
    (part1 nothing y below ∙ ap (λ (q : List Stmt). before_all q nothing y) same1)
    ∙ part2 (before_all first nothing) y below
    ∙ ap (λ (q : List Stmt). before_all q (before_all first nothing) y) same2)

pub loop_is : (s : Stmt) (first : List Stmt) (test : Cond) (last inside1 inside2 : List Stmt) (w a b : Flow) (reads : ℕ)
    → s ≡ Loop first test last → inside1 ≡ first → inside2 ≡ last → Says reads (own_read s)
    → ((after : Names) (y : ℕ) → y < 32
    → handed w after y ≡ handed a (λ z. has reads z || (after z || handed b (handed a nothing) z)) y)
    → ((after : Names) (y : ℕ) → y < 32 → handed a after y ≡ before_all inside1 after y)
    → ((after : Names) (y : ℕ) → y < 32 → handed b after y ≡ before_all inside2 after y)
    → (after : Names) (y : ℕ) → y < 32 → handed w after y ≡ before s after y
loop_is s first test last inside1 inside2 w a b reads is same1 same2 read whole part1 part2 after y below =
    let at : Names = at_test (map live first) test (map live last) after in
    whole after y below
    ∙ point a (λ z. has reads z || (after z || handed b (handed a nothing) z)) at y
    (test_is s first test last inside1 inside2 a b reads is same1 same2 read part1 part2 after y below)
    ∙ part1 at y below
    ∙ ap (λ (q : List Stmt). before_all q at y) same1
    ∙ sym (ap (λ (q : Stmt). before q after y) is ∙ ap (λ (n : Names). n y) (live-loop first test last after))

-- ---- one statement more

pub flow_step : (body : List Stmt) (i : ℕ) (s : Stmt) (w w' o : Flow) → i < length body → s ≡ get_or body i s
    → ((after : Names) (x : ℕ) → handed w' after x ≡ handed w (handed o after) x)
    → ((after : Names) (x : ℕ) → x < 32 → handed o after x ≡ before s after x)
    → ((after : Names) (x : ℕ) → x < 32 → handed w (before_all (drop i body) after) x ≡ before_all body after x)
    → (after : Names) (x : ℕ) → x < 32 → handed w' (before_all (drop (i + 1) body) after) x ≡ before_all body after x
flow_step body i s w w' o inside is then one so_far after x below =
    let rest : Names = before_all (drop (i + 1) body) after in
    then rest x
    ∙ point w (handed o rest) (before s rest) x (one rest x below)
    ∙ ap (λ (q : List Stmt). handed w (before_all q after) x) (sym (drop_next body i s inside is))
    ∙ so_far after x below
