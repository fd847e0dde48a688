-- Names below a bound: in lists, and in statements and their parts.
use Rattle.std.proofs.Common.{◌≡◌, ℕ, zero, suc, ◌+◌, ◌<◌, ◌⊎◌, inl, inr, IsTrue, nat_lt}
use Rattle.std.proofs.Common.{List, [], ◌∷◌, ◌++◌, length, get_or, refl, sym, subst, arith}
use Rattle.std.specs.List.{AllByRecursion, flat_map}
use Rattle.std.proofs.lemmas.Bool.{ltb-true}
use Rattle.br_flatimp.specs.declared.program.Cond.{Cond}
use Rattle.br_flatimp.specs.declared.program.Stmt.{Stmt}
use Rattle.br_flatimp.specs.declared.program.Stmt.TheVariants.{Stackalloc, If, Loop, Call}
use Rattle.br_flatimp.specs.Parts.{statement_names, test_names}
use Rattle.br_flatimp.specs.Liveness.{is_in}
use Rattle.br_flatimp.specs.WellFormed.{are_below}
use Rattle.br_regalloc_check.proofs.Forms.{names-stackalloc, names-if, names-loop, names-call}
use Rattle.br_regalloc_check.proofs.Lists.{and_both, both_and, each-in}

pub below-append : (n : ℕ) (xs ys : List ℕ) → IsTrue (are_below n (xs ++ ys))
    → IsTrue (are_below n xs) × IsTrue (are_below n ys)
below-append n [] ys h = (refl, h)
below-append n (x ∷ xs) ys h =
    let both = and_both (nat_lt x n) (are_below n (xs ++ ys)) h in
    let rest = below-append n xs ys both.1 in
    (both_and (nat_lt x n) (are_below n xs) both.0 rest.0, rest.1)

pub below-join : (n : ℕ) (xs ys : List ℕ) → IsTrue (are_below n xs) → IsTrue (are_below n ys)
    → IsTrue (are_below n (xs ++ ys))
below-join n [] ys h k = k
below-join n (x ∷ xs) ys h k =
    let both = and_both (nat_lt x n) (are_below n xs) h in
    both_and (nat_lt x n) (are_below n (xs ++ ys)) both.0 (below-join n xs ys both.1 k)

pub below-in : (n : ℕ) (xs : List ℕ) → IsTrue (are_below n xs) → (x : ℕ) → IsTrue (is_in xs x) → x < n
below-in n [] h x i = absurd (cc i)
below-in n (y ∷ ys) h x i =
    let both = and_both (nat_lt y n) (are_below n ys) h in
    each-in (λ z. z < n) (y ∷ ys) (ltb-true y n both.0, all n ys both.1) x i
  where
    all : (m : ℕ) (zs : List ℕ) → IsTrue (are_below m zs) → AllByRecursion (λ z. z < m) zs
    all m [] k = tt
    all m (z ∷ zs) k = let parts = and_both (nat_lt z m) (are_below m zs) k in (ltb-true z m parts.0, all m zs parts.1)

pub below-at : (n : ℕ) (xs : List ℕ) (i d : ℕ) → i < length xs → IsTrue (are_below n xs) → get_or xs i d < n
below-at n [] i d inside h = absurd (omega arith)
below-at n (x ∷ xs) zero d inside h = ltb-true x n (and_both (nat_lt x n) (are_below n xs) h).0
below-at n (x ∷ xs) (suc i) d inside h = below-at n xs i d (omega arith) (and_both (nat_lt x n) (are_below n xs) h).1

pub below-more : (m n : ℕ) (xs : List ℕ) → m < n + 1 → IsTrue (are_below m xs) → IsTrue (are_below n xs)
below-more m n [] h k = refl
below-more m n (x ∷ xs) h k =
    let both = and_both (nat_lt x m) (are_below m xs) k in
    let less : x < m = ltb-true x m both.0 in
    let more : x < n = omega arith in
    both_and (nat_lt x n) (are_below n xs) (lt-true x n more) (below-more m n xs h both.1)
  where
    lt-true : (a b : ℕ) → a < b → IsTrue (nat_lt a b)
    lt-true a b less = grind arith

pub below-item : (b : ℕ) (body : List Stmt) (k : ℕ) (s : Stmt) → k < length body → s ≡ get_or body k s
    → IsTrue (are_below b (flat_map statement_names body)) → IsTrue (are_below b (statement_names s))
below-item b [] k s inside is h = absurd (omega arith)
below-item b (c ∷ body) zero s inside is h = subst (λ d. IsTrue (are_below b (statement_names d))) (sym is)
    (below-append b (statement_names c) (flat_map statement_names body) h).0
below-item b (c ∷ body) (suc k) s inside is h =
    below-item b body k s (omega arith) is (below-append b (statement_names c) (flat_map statement_names body) h).1

pub below-stackalloc : (b : ℕ) (x n : ℕ) (body : List Stmt)
    → IsTrue (are_below b (statement_names (Stackalloc x n body)))
    → (x < b) × IsTrue (are_below b (flat_map statement_names body))
below-stackalloc b x n body h =
    let split = and_both (nat_lt x b) (are_below b (flat_map statement_names body))
    (subst (λ ys. IsTrue (are_below b ys)) (names-stackalloc x n body) h) in
    (ltb-true x b split.0, split.1)

abbrev pub three : ℕ → List ℕ → List ℕ → List ℕ → Type 0
three b xs ys zs = IsTrue (are_below b xs) × IsTrue (are_below b ys) × IsTrue (are_below b zs)

in-three : (b : ℕ) (xs ys zs : List ℕ) → IsTrue (are_below b (xs ++ (ys ++ zs))) → three b xs ys zs
in-three b xs ys zs h =
    let one = below-append b xs (ys ++ zs) h in
    let two = below-append b ys zs one.1 in
    (one.0, two.0, two.1)

pub below-if : (b : ℕ) (test : Cond) (first second : List Stmt)
    → IsTrue (are_below b (statement_names (If test first second)))
    → three b (test_names test) (flat_map statement_names first) (flat_map statement_names second)
below-if b test first second h = in-three b (test_names test) (flat_map statement_names first)
    (flat_map statement_names second) (subst (λ ys. IsTrue (are_below b ys)) (names-if test first second) h)

pub below-loop : (b : ℕ) (first : List Stmt) (test : Cond) (last : List Stmt)
    → IsTrue (are_below b (statement_names (Loop first test last)))
    → three b (test_names test) (flat_map statement_names first) (flat_map statement_names last)
below-loop b first test last h = in-three b (test_names test) (flat_map statement_names first)
    (flat_map statement_names last) (subst (λ ys. IsTrue (are_below b ys)) (names-loop first test last) h)

pub below-call : (b : ℕ) (xs : List ℕ) (g : ℕ) (ys : List ℕ) → IsTrue (are_below b (statement_names (Call xs g ys)))
    → IsTrue (are_below b xs) × IsTrue (are_below b ys)
below-call b xs g ys h = below-append b xs ys (subst (λ zs. IsTrue (are_below b zs)) (names-call xs g ys) h)

-- a conditional or a loop
pub below-parts : (b : ℕ) (s : Stmt) (test : Cond) (first second : List Stmt)
    → (s ≡ If test first second) ⊎ (s ≡ Loop first test second)
    → IsTrue (are_below b (statement_names s))
    → three b (test_names test) (flat_map statement_names first) (flat_map statement_names second)
below-parts b s test first second (inl e) h =
    below-if b test first second (subst (λ c. IsTrue (are_below b (statement_names c))) e h)
below-parts b s test first second (inr e) h =
    below-loop b first test second (subst (λ c. IsTrue (are_below b (statement_names c))) e h)

pub below-as : (b : ℕ) (s c : Stmt) → s ≡ c → IsTrue (are_below b (statement_names s))
    → IsTrue (are_below b (statement_names c))
below-as b s c e h = subst (λ d. IsTrue (are_below b (statement_names d))) e h
