-- What is live before each form of statement, from the rows of the table.
use Rattle.std.proofs.Common.{◌≡◌, ℕ, suc, ◌+◌, ◌≤◌, ℤ, ◌==◌, Bool, true, false, not, ◌||◌, ◌&&◌, IsTrue, ◌⊎◌, inl}
use Rattle.std.proofs.Common.{inr, List, [], ◌∷◌, ◌++◌, map, length, get_or, refl, sym, ap, subst, ◌∙◌, arith}
use Rattle.std.specs.Prelude.{sum}
use Rattle.std.proofs.Math.Bool.{or-false}
use Rattle.br_words.specs.declared.operation.BinOp.{BinOp}
use Rattle.br_words.specs.declared.size.Size.{Size}
use Rattle.br_flatimp.specs.declared.program.Operand.{Operand}
use Rattle.br_flatimp.specs.declared.program.Cond.{Cond}
use Rattle.br_flatimp.specs.declared.program.Stmt.{Stmt}
use Rattle.br_flatimp.specs.declared.program.Stmt.TheVariants.{Lit, Copy, Op, Load, Store, Table}
use Rattle.br_flatimp.specs.declared.program.Stmt.TheVariants.{Stackalloc, If, Loop, Call, Read, Write}
use Rattle.br_flatimp.specs.declared.program.Stmt.TheOpen.{Stmt-F}
use Rattle.br_flatimp.specs.Parts.{test_names, operand_names}
use Rattle.br_flatimp.specs.Sizes.{statement_count}
use Rattle.br_flatimp.specs.Values.{Names}
use Rattle.br_flatimp.specs.Liveness.{nothing, is_in, union, without, Within, Moment}
use Rattle.br_flatimp.specs.Liveness.{at_test, before, before_all, live, moments}
use Rattle.br_live.specs.Tables.{Row}
use Rattle.br_regalloc_check.specs.Walks.{StandsAt, start_of}
use Rattle.br_regalloc_check.proofs.Exact.{TestHolds}
use Rattle.br_regalloc_check.proofs.Forms.{itself, moments-stackalloc, moments-if, moments-loop}
use Rattle.br_regalloc_check.proofs.Forms.{before-lit, before-copy, before-op, before-load}
use Rattle.br_regalloc_check.proofs.Forms.{before-store, before-table, before-stackalloc, before-if}
use Rattle.br_regalloc_check.proofs.Forms.{before-loop, before-call, before-read, before-write}
use Rattle.br_regalloc_check.proofs.Lists.{eq_true, or_left, or_right, or_cases}
use Rattle.br_regalloc_check.proofs.Stands.{stands-first, stands-second, all-moments-count}

-- the law that more that is live after a statement is no less that is live before it
abbrev pub Grows : Type 0
Grows = (s : Stmt) (small large : Names) → Within small large → Within (before s small) (before s large)

grows-all : Grows → (cs : List Stmt) (small large : Names) → Within small large
    → Within (before_all cs small) (before_all cs large)
grows-all law [] small large h = h
grows-all law (c ∷ cs) small large h =
    law c (before_all cs small) (before_all cs large) (grows-all law cs small large h)

same_bool : (a b : Bool) → (IsTrue a → IsTrue b) → (IsTrue b → IsTrue a) → a ≡ b
same_bool true b h k = sym (h refl)
same_bool false true h k = k refl
same_bool false false h k = refl

-- a part at whose end is live what is given where there is no statement
pub start-given : (part : List Stmt) (end : Names) (x : ℕ) → start_of part (end x) end x ≡ before_all part end x
start-given [] end x = refl
start-given (c ∷ part) end x = refl

-- what is live at the test of a loop with no first part
pub start-test : TestHolds → Grows → (test : Cond) (last : List Stmt) (after : Names) (x : ℕ) →
    let t : Names = at_test [] test (map live last) after in
    t x ≡ (is_in (test_names test) x || (after x || start_of last false t x))
start-test holds grows test [] after x = refl
start-test holds grows test (c ∷ last) after x =
    let t : Names = at_test [] test (map live (c ∷ last)) after in
    let tests : Bool = is_in (test_names test) x in
    let little : Names = before_all (c ∷ last) nothing in
    let much : Names = before_all (c ∷ last) t in
    same_bool (tests || (after x || little x)) (tests || (after x || much x))
    (λ h. elim (or_cases tests (after x || little x) h) [
      | inl e ↦ or_left tests (after x || much x) e
      | inr e ↦ or_right tests (after x || much x) (elim (or_cases (after x) (little x) e) [
        | inl f ↦ or_left (after x) (much x) f
        | inr f ↦ or_right (after x) (much x) (grows-all grows (c ∷ last) nothing t (λ z k. absurd (cc k)) x f)
      ])
    ])
    (λ h. holds [] test (c ∷ last) after x h)

-- ---- the rows of parts

pub stands-body : (rows : List Row) (at n x k : ℕ) (body : List Stmt) (a : Names)
    → StandsAt rows at n ((live (Stackalloc x k body)).moments a)
    → StandsAt rows (at + 1) n (moments (map live body) a)
stands-body rows at n x k body a h =
    stands-second rows at n (itself (Stmt-F.Stackalloc x k body) a ∷ []) (moments (map live body) a)
    (subst (StandsAt rows at n) (moments-stackalloc x k body a) h)

abbrev pub two : List Row → ℕ → ℕ → List Stmt → Names → List Stmt → Names → Type 0
two rows at n first end second other =
    StandsAt rows (at + 1) n (moments (map live first) end)
    × StandsAt rows (at + 1 + sum (map statement_count first)) n (moments (map live second) other)

stands-two : (rows : List Row) (at n : ℕ) (m : Moment) (first : List Stmt) (end : Names) (second : List Stmt)
    (other : Names)
    → StandsAt rows at n (m ∷ (moments (map live first) end ++ moments (map live second) other))
    → two rows at n first end second other
stands-two rows at n m first end second other h =
    let ms : List Moment = moments (map live first) end in
    let ns : List Moment = moments (map live second) other in
    let inner : StandsAt rows (at + 1) n (ms ++ ns) = stands-second rows at n (m ∷ []) (ms ++ ns) h in (
      stands-first rows (at + 1) n ms ns inner,
      subst (λ k. StandsAt rows (at + 1 + k) n ns) (all-moments-count first
          end) (stands-second rows (at + 1) n ms ns inner),
    )

pub stands-if : (rows : List Row) (at n : ℕ) (test : Cond) (first second : List Stmt) (a : Names)
    → StandsAt rows at n ((live (If test first second)).moments a)
    → two rows at n first a second a
stands-if rows at n test first second a h =
    stands-two rows at n (itself (Stmt-F.If test first second) a) first a second a
    (subst (StandsAt rows at n) (moments-if test first second a) h)

pub stands-loop : (rows : List Row) (at n : ℕ) (first : List Stmt) (test : Cond) (last : List Stmt) (a : Names)
    → StandsAt rows at n ((live (Loop first test last)).moments a)
    → let t : Names = at_test (map live first) test (map live last) a in two rows at n first t last (before_all first t)
stands-loop rows at n first test last a h =
    let t : Names = at_test (map live first) test (map live last) a in
    stands-two rows at n (itself (Stmt-F.Loop first test last) a) first t last (before_all first t)
    (subst (StandsAt rows at n) (moments-loop first test last a) h)

-- ---- what is live before each form

-- what is live before a part, from what was found there
pub part-live : (rows : List Row) (at n x : ℕ) (part q : List Stmt) (r after_r : Bool) (after : Names) → q ≡ part
    → after_r ≡ after x
    → ((names : ℕ) (end : Names) → StandsAt rows at names (moments (map live q) end) → r ≡ start_of q after_r end x)
    → StandsAt rows at n (moments (map live part) after) → r ≡ before_all part after x
part-live rows at n x part q r after_r after same is claim h =
    claim n after (subst (λ p. StandsAt rows at n (moments (map live p) after)) (sym same) h)
    ∙ ap (λ p. start_of p after_r after x) same ∙ ap (λ b. start_of part b after x) is ∙ start-given part after x

single : (y x : ℕ) → is_in (y ∷ []) x ≡ (y == x)
single y x = or-false (y == x)

-- a statement with no parts
pub plain-live : (s : Stmt) (xs ys : List ℕ) (a : Names) (x : ℕ) (w r after_r result : Bool)
    → before s a ≡ union (without a xs) (is_in ys)
    → is_in xs x ≡ w → is_in ys x ≡ r → after_r ≡ a x → result ≡ ((after_r && not w) || r) → result ≡ before s a x
plain-live s xs ys a x w r after_r result is written read after made =
    made ∙ ap (λ b. (b && not w) || r) after
    ∙ ap (λ b. (a x && not b) || r) (sym written)
    ∙ ap (λ b. (a x && not (is_in xs x)) || b) (sym read)
    ∙ sym (ap (λ f. f x) is)

pub plain-lit : (s : Stmt) (y n : ℕ) → s ≡ Lit y n → (a : Names) (x : ℕ) (after_r result : Bool) → after_r ≡ a x
    → result ≡ ((after_r && not (y == x)) || false) → result ≡ before s a x
plain-lit s y n is a x after_r result after made =
    plain-live s (y ∷ []) [] a x (y == x) false after_r result (ap (λ c. before c a) is ∙ before-lit y n a) (single y x)
    refl after made

abbrev pub IsCopy : Stmt → ℕ → ℕ → Type 0
IsCopy s y z =
    (s ≡ Copy y z)
    ⊎ (((b : Size) × (d : ℤ) × (s ≡ Load y b z d))
    ⊎ (((b : Size) × (c : List ℕ) × (s ≡ Table y b c z))
    ⊎ (s ≡ Read y z)))

copy-before : (s : Stmt) (y z : ℕ) → IsCopy s y z → (a : Names)
    → before s a ≡ union (without a (y ∷ [])) (is_in (z ∷ []))
copy-before s y z (inl e) a = ap (λ c. before c a) e ∙ before-copy y z a
copy-before s y z (inr (inl e)) a = ap (λ c. before c a) e.2 ∙ before-load y e.0 z e.1 a
copy-before s y z (inr (inr (inl e))) a = ap (λ c. before c a) e.2 ∙ before-table y e.0 e.1 z a
copy-before s y z (inr (inr (inr e))) a = ap (λ c. before c a) e ∙ before-read y z a

pub plain-copy : (s : Stmt) (y z : ℕ) → IsCopy s y z → (a : Names) (x : ℕ) (after_r result : Bool) → after_r ≡ a x
    → result ≡ ((after_r && not (y == x)) || (z == x)) → result ≡ before s a x
plain-copy s y z is a x after_r result after made =
    plain-live s (y ∷ []) (z ∷ []) a x (y == x) (z == x) after_r result (copy-before s y z is a) (single y x)
    (single z x) after made

pub plain-op : (s : Stmt) (y : ℕ) (op : BinOp) (z : ℕ) (w : Operand) → s ≡ Op y op z w
    → (a : Names) (x : ℕ) (r after_r result : Bool) → after_r ≡ a x
    → r ≡ ((z == x) || is_in (operand_names w) x) → result ≡ ((after_r && not (y == x)) || r) → result ≡ before s a x
plain-op s y op z w is a x r after_r result after read made =
    plain-live s (y ∷ []) (z ∷ operand_names w) a x (y == x) r after_r result
    (ap (λ c. before c a) is ∙ before-op y op z w a) (single y x) (sym read) after made

pub plain-call : (s : Stmt) (ys : List ℕ) (g : ℕ) (zs : List ℕ) → s ≡ Call ys g zs
    → (a : Names) (x : ℕ) (w r after_r result : Bool) → after_r ≡ a x
    → w ≡ is_in ys x → r ≡ is_in zs x → result ≡ ((after_r && not w) || r) → result ≡ before s a x
plain-call s ys g zs is a x w r after_r result after written read made =
    plain-live s ys zs a x w r after_r result (ap (λ c. before c a) is ∙ before-call ys g zs a) (sym written)
    (sym read) after made

abbrev pub IsStore : Stmt → ℕ → ℕ → Type 0
IsStore s y z = ((b : Size) × (d : ℤ) × (s ≡ Store b y z d)) ⊎ (s ≡ Write y z)

store-before : (s : Stmt) (y z : ℕ) → IsStore s y z → (a : Names)
    → before s a ≡ union (without a []) (is_in (y ∷ z ∷ []))
store-before s y z (inl e) a = ap (λ c. before c a) e.2 ∙ before-store e.0 y z e.1 a
store-before s y z (inr e) a = ap (λ c. before c a) e ∙ before-write y z a

pub plain-store : (s : Stmt) (y z : ℕ) → IsStore s y z → (a : Names) (x : ℕ) (r after_r result : Bool) → after_r ≡ a x
    → r ≡ ((y == x) || (z == x)) → result ≡ ((after_r && not false) || r) → result ≡ before s a x
plain-store s y z is a x r after_r result after read made =
    plain-live s [] (y ∷ z ∷ []) a x false r after_r result (store-before s y z is a) refl
    (ap (λ b. (y == x) || b) (single z x) ∙ sym read) after made

pub buffer-live : (s : Stmt) (y n : ℕ) (body : List Stmt) → s ≡ Stackalloc y n body
    → (a : Names) (x : ℕ) (inside result : Bool) → inside ≡ before_all body a x
    → result ≡ ((inside && not (y == x)) || false) → result ≡ before s a x
buffer-live s y n body is a x inside result same made =
    made ∙ or-false (inside && not (y == x)) ∙ ap (λ b. b && not (y == x)) same
    ∙ ap (λ b. before_all body a x && not b) (sym (single y x))
    ∙ sym (ap (λ c. before c a x) is ∙ ap (λ f. f x) (before-stackalloc y n body a))

or_assoc : (a b c : Bool) → ((a || b) || c) ≡ (a || (b || c))
or_assoc true b c = refl
or_assoc false b c = refl

pub if-live : (s : Stmt) (test : Cond) (first second : List Stmt) → s ≡ If test first second
    → (a : Names) (x : ℕ) (t f early g : Bool)
    → t ≡ is_in (test_names test) x → f ≡ before_all first a x → early ≡ (t || f) → g ≡ before_all second a x
    → (early || g) ≡ before s a x
if-live s test first second is a x t f early g same_t same_f made same_g =
    ap (λ b. b || g) made ∙ or_assoc t f g
    ∙ ap (λ b. b || (f || g)) same_t ∙ ap (λ b. is_in (test_names test) x || (b || g)) same_f
    ∙ ap (λ b. is_in (test_names test) x || (before_all first a x || b)) same_g
    ∙ sym (ap (λ c. before c a x) is ∙ ap (λ h. h x) (before-if test first second a))

pub if-early : (s : Stmt) (test : Cond) (first second : List Stmt) → s ≡ If test first second
    → (a : Names) (x : ℕ) (t f early : Bool)
    → t ≡ is_in (test_names test) x → f ≡ before_all first a x → early ≡ (t || f) → early ≡ true → early ≡ before s a x
if-early s test first second is a x t f early same_t same_f made sure =
    let whole = if-live s test first second is a x t f early (before_all second a x) same_t same_f made refl in
    sure ∙ ap (λ b. b || before_all second a x) (sym sure) ∙ whole

-- a loop with no first part
pub loop-live : TestHolds → Grows → (s : Stmt) (first : List Stmt) (test : Cond) (last : List Stmt)
    → s ≡ Loop first test last → first ≡ [] → (a : Names) (x : ℕ) (t after_r early g : Bool)
    → t ≡ is_in (test_names test) x → after_r ≡ a x → early ≡ (t || after_r)
    → g ≡ start_of last false (at_test [] test (map live last) a) x → (early || g) ≡ before s a x
loop-live holds grows s first test last is none a x t after_r early g same_t same_a made same_g =
    ap (λ b. b || g) made ∙ or_assoc t after_r g
    ∙ ap (λ b. b || (after_r || g)) same_t ∙ ap (λ b. is_in (test_names test) x || (b || g)) same_a
    ∙ ap (λ b. is_in (test_names test) x || (a x || b)) same_g
    ∙ sym (start-test holds grows test last a x)
    ∙ sym (ap (λ c. before c a x) is ∙ ap (λ f. before (Loop f test last) a x) none
    ∙ ap (λ h. h x) (before-loop [] test last a))

pub loop-early : TestHolds → Grows → (s : Stmt) (first : List Stmt) (test : Cond) (last : List Stmt)
    → s ≡ Loop first test last → first ≡ [] → (a : Names) (x : ℕ) (t after_r early : Bool)
    → t ≡ is_in (test_names test) x → after_r ≡ a x → early ≡ (t || after_r) → early ≡ true → early ≡ before s a x
loop-early holds grows s first test last is none a x t after_r early same_t same_a made sure =
    let g : Bool = start_of last false (at_test [] test (map live last) a) x in
    let whole = loop-live holds grows s first test last is none a x t after_r early g same_t same_a made refl in
    sure ∙ ap (λ b. b || g) (sym sure) ∙ whole

-- a loop with a first part, where nothing is given for no statement
pub loop-first : (s : Stmt) (first : List Stmt) (test : Cond) (last : List Stmt) → s ≡ Loop first test last
    → (first ≡ [] → ⊥) → (a : Names) (x : ℕ) (result : Bool)
    → result ≡ start_of first false (at_test (map live first) test (map live last) a) x → result ≡ before s a x
loop-first s [] test last is some a x result made = absurd (some refl)
loop-first s (c ∷ first) test last is some a x result made =
    made ∙ sym (ap (λ d. before d a x) is ∙ ap (λ h. h x) (before-loop (c ∷ first) test last a))

-- ---- lists

pub no_items : {X : Type 0} (xs : List X) → (length xs == 0) ≡ true → xs ≡ []
no_items [] h = refl
no_items (x ∷ xs) h = absurd (let more : suc (length xs) ≡ 0 = eq_true (suc (length xs)) 0 h in omega (arith, more))

pub some_items : {X : Type 0} (xs : List X) → (length xs == 0) ≡ false → xs ≡ [] → ⊥
some_items [] h e = cc h
some_items (x ∷ xs) h e = cc e

-- what is live before statements is what is live before the first
pub first-live : (rows : List Row) (at n x : ℕ) (part : List Stmt) (s : Stmt) (none r : Bool) (end : Names)
    → 1 ≤ length part → s ≡ get_or part 0 s
    → ((names : ℕ) (after : Names) → StandsAt rows at names ((live s).moments after) → r ≡ before s after x)
    → StandsAt rows at n (moments (map live part) end) → r ≡ start_of part none end x
first-live rows at n x [] s none r end some is claim h = absurd (omega arith)
first-live rows at n x (c ∷ part) s none r end some is claim h =
    let after : Names = before_all part end in
    let first = stands-first rows at n ((live c).moments after) (moments (map live part) end) h in
    claim n after (subst (λ d. StandsAt rows at n ((live d).moments after)) (sym is) first)
    ∙ ap (λ d. before d after x) is
