-- What definitions over statements say of statements with parts, and of one statement more in a loop.
use Rattle.std.proofs.Common.{◌≡◌, ℕ, zero, suc, ◌+◌, ◌-◌, ◌<◌, ◌≤◌, ◌&&◌, nat_le, max, Bool}
use Rattle.std.proofs.Common.{true, false, IsTrue, List, [], ◌∷◌, ◌++◌, map, length, drop, get_or}
use Rattle.std.proofs.Common.{refl, sym, ap, subst, ◌∙◌, arith, append-nil, length-append}
use Rattle.std.specs.Prelude.{pos}
use Rattle.std.specs.List.{flat_map, list_all}
use Rattle.std.proofs.lemmas.Bool.Decides.{nat_tests}
use Rattle.br_words.specs.declared.size.Size.{Size}
use Rattle.br_flatimp.specs.declared.program.Cond.{Cond}
use Rattle.br_flatimp.specs.declared.program.Cond.TheVariants.{NonZero, Compare}
use Rattle.br_flatimp.specs.declared.program.Stmt.{Stmt}
use Rattle.br_flatimp.specs.declared.program.Stmt.TheVariants as stmt
use Rattle.br_flatimp.specs.declared.program.Stmt.TheOpen.{Stmt-F}
use Rattle.br_flatimp.specs.declared.program.Stmt.TheFolds.{fold-roll-Stmt}
use Rattle.br_flatimp.specs.Parts.{gathered, parts, throughout, test_names}
use Rattle.br_flatimp.specs.Sizes.{own_bytes, statement_nest, largest}
use Rattle.br_flatimp.specs.WellFormed.{are_registers}
use Rattle.br_rv32im.specs.declared.instruction.Ins.TheVariants.{Load, Reg}
use Rattle.br_rv32im.specs.declared.instruction.RegOp.TheVariants.{Add}
use Rattle.br_emit.specs.Code.{keeps_link, Item, Does, AllFit, Targets, branching, load_op, over_items, table_words}
use Rattle.br_emit.specs.Code.{table_items, place_items, if_items, loop_items, statement_items, items_of, all_items}
use Rattle.br_emit.specs.Sizes.{Sized, statement_sized, sized, sized_all, sized_if, sized_loop}
use Rattle.br_emit.specs.Buffer.{Written, appended}
use Rattle.br_emit.specs.Ready.{Ready, HasRegisters, is_encodable}
use Rattle.br_emit.specs.Marks.{marked}
use Rattle.br_emit.proofs.Readiness.{marked_twice, appended_twice, ready_back, drop_both, fit_both}

-- ---- one more of a list

pub drop_next : {X : Type 0} (xs : List X) (i : ℕ) (x : X) → i < length xs → x ≡ get_or xs i x
    → drop i xs ≡ x ∷ drop (i + 1) xs
drop_next [] i x inside is = absurd (omega arith)
drop_next (y ∷ xs) zero x inside is = ap (λ z. z ∷ xs) (sym is)
drop_next (y ∷ xs) (suc i) x inside is =
    let next : suc i + 1 ≡ suc (i + 1) = omega arith in
    drop_next xs i x (omega arith) is ∙ ap (λ n. x ∷ drop n (y ∷ xs)) (sym next)

pub mark_step : {X : Type 0} (g : X → List ℕ) (body : List X) (i : ℕ) (x : X) (flags flags' whole : List Bool)
    → i < length body → x ≡ get_or body i x → flags' ≡ marked flags (g x)
    → marked flags (flat_map g (drop i body)) ≡ whole → marked flags' (flat_map g (drop (i + 1) body)) ≡ whole
mark_step g body i x flags flags' whole inside is new before =
    ap (λ f. marked f (flat_map g (drop (i + 1) body))) new
    ∙ marked_twice flags (g x) (flat_map g (drop (i + 1) body))
    ∙ ap (λ xs. marked flags (flat_map g xs)) (sym (drop_next body i x inside is))
    ∙ before

-- ---- names

joined_map : {X : Type 0} (g : X → List ℕ) (xs : List X) → flat_map (λ ys. ys) (map g xs) ≡ flat_map g xs
joined_map g [] = refl
joined_map g (x ∷ xs) = ap (λ ys. g x ++ ys) (joined_map g xs)

one_part : {X : Type 0} (g : X → List ℕ) (xs : List X) → flat_map (flat_map (λ ys. ys)) (map g xs ∷ []) ≡ flat_map g xs
one_part g xs = append-nil (flat_map (λ ys. ys) (map g xs)) ∙ joined_map g xs

two_parts : {X : Type 0} (g : X → List ℕ) (xs ys : List X)
    → flat_map (flat_map (λ zs. zs)) (map g xs ∷ map g ys ∷ []) ≡ flat_map g xs ++ flat_map g ys
two_parts g xs ys =
    ap (λ zs. flat_map (λ zs. zs) (map g xs) ++ zs) (one_part g ys) ∙ ap (λ zs. zs ++ flat_map g ys) (joined_map g xs)

pub gathered_buffer : (own : Stmt-F (List ℕ) → List ℕ) (s : Stmt) (x n : ℕ) (body : List Stmt)
    → s ≡ stmt.Stackalloc x n body
    → gathered own s ≡ own (Stmt-F.Stackalloc x n (map (gathered own) body)) ++ flat_map (gathered own) body
gathered_buffer own s x n body is =
    ap (gathered own) (is ∙ sym (stmt.rolls-Stackalloc x n body))
    ∙ fold-roll-Stmt (List ℕ) (λ y. own y ++ flat_map (flat_map (λ xs. xs)) (parts y)) (Stmt-F.Stackalloc x n body)
    ∙ ap (λ xs. own (Stmt-F.Stackalloc x n (map (gathered own) body)) ++ xs) (one_part (gathered own) body)

pub gathered_if : (own : Stmt-F (List ℕ) → List ℕ) (s : Stmt) (test : Cond) (first second : List Stmt)
    → s ≡ stmt.If test first second
    → gathered own s ≡ own (Stmt-F.If test (map (gathered own) first) (map (gathered own) second))
    ++ (flat_map (gathered own) first ++ flat_map (gathered own) second)
gathered_if own s test first second is =
    ap (gathered own) (is ∙ sym (stmt.rolls-If test first second))
    ∙ fold-roll-Stmt (List ℕ) (λ y. own y ++ flat_map (flat_map (λ xs. xs)) (parts y)) (Stmt-F.If test first second)
    ∙ ap (λ xs. own (Stmt-F.If test (map (gathered own) first) (map (gathered own) second)) ++ xs)
    (two_parts (gathered own) first second)

pub gathered_loop : (own : Stmt-F (List ℕ) → List ℕ) (s : Stmt) (first : List Stmt) (test : Cond) (last : List Stmt)
    → s ≡ stmt.Loop first test last
    → gathered own s ≡ own (Stmt-F.Loop (map (gathered own) first) test (map (gathered own) last))
    ++ (flat_map (gathered own) first ++ flat_map (gathered own) last)
gathered_loop own s first test last is =
    ap (gathered own) (is ∙ sym (stmt.rolls-Loop first test last))
    ∙ fold-roll-Stmt (List ℕ) (λ y. own y ++ flat_map (flat_map (λ xs. xs)) (parts y)) (Stmt-F.Loop first test last)
    ∙ ap (λ xs. own (Stmt-F.Loop (map (gathered own) first) test (map (gathered own) last)) ++ xs)
    (two_parts (gathered own) first last)

-- ---- buffers nested in one another

pub nest_if : (s : Stmt) (test : Cond) (first second : List Stmt) → s ≡ stmt.If test first second
    → statement_nest s ≡ max (largest (map statement_nest first)) (largest (map statement_nest second))
nest_if s test first second is =
    ap statement_nest (is ∙ sym (stmt.rolls-If test first second))
    ∙ fold-roll-Stmt ℕ (λ y. own_bytes y + largest (map largest (parts y))) (Stmt-F.If test first second)
    ∙ omega arith

pub nest_loop : (s : Stmt) (first : List Stmt) (test : Cond) (last : List Stmt) → s ≡ stmt.Loop first test last
    → statement_nest s ≡ max (largest (map statement_nest first)) (largest (map statement_nest last))
nest_loop s first test last is =
    ap statement_nest (is ∙ sym (stmt.rolls-Loop first test last))
    ∙ fold-roll-Stmt ℕ (λ y. own_bytes y + largest (map largest (parts y))) (Stmt-F.Loop first test last)
    ∙ omega arith

-- ---- code of statements with parts

and_parts : (a b : Bool) → IsTrue (a && b) → IsTrue a × IsTrue b
and_parts true b h = (refl, h)
and_parts false b h = absurd (cc)

oks_map : {X : Type 0} (p : X → Bool) (xs : List X) → list_all (λ ok. ok) (map p xs) ≡ list_all p xs
oks_map p [] = refl
oks_map p (x ∷ xs) = ap (λ b. p x && b) (oks_map p xs)

register_of : (x : ℕ) → IsTrue (nat_le 3 x && nat_le x 31) → x < 32
register_of x h = let k = (and_parts (nat_le 3 x) (nat_le x 31) h).1 in grind (arith, nat_tests)

and_true : (a : Bool) → IsTrue (a && true) → IsTrue a
and_true true h = h
and_true false h = absurd (cc)

test_registers : (test : Cond) → IsTrue (are_registers (test_names test)) → HasRegisters (branching test)
test_registers (NonZero x) h =
    record { left = register_of x (and_true (nat_le 3 x && nat_le x 31) h); right = omega arith }
test_registers (Compare r x y) h =
    let k = and_parts (nat_le 3 x && nat_le x 31) (are_registers (y ∷ [])) h in
    record { left = register_of x k.0; right = register_of y (and_true (nat_le 3 y && nat_le y 31) k.1) }

-- ---- whether x1 is left as it was

pub kept_next : (body : List Stmt) (i : ℕ) (x : Stmt) (kept : Bool) → i < length body → x ≡ get_or body i x
    → ((kept && throughout keeps_link x) && list_all (throughout keeps_link) (drop (i + 1) body))
    ≡ (kept && list_all (throughout keeps_link) (drop i body))
kept_next body i x kept inside is =
    assoc kept (throughout keeps_link x) (list_all (throughout keeps_link) (drop (i + 1) body))
    ∙ ap (λ b. kept && list_all (throughout keeps_link) b) (sym (drop_next body i x inside is))
  where
    assoc : (a b c : Bool) → ((a && b) && c) ≡ (a && (b && c))
    assoc true b c = refl
    assoc false b c = refl

and_one : (a : Bool) → (a && true) ≡ a
and_one true = refl
and_one false = refl

pub kept_buffer : (s : Stmt) (x n : ℕ) (body : List Stmt) → s ≡ stmt.Stackalloc x n body
    → throughout keeps_link s ≡ list_all (throughout keeps_link) body
kept_buffer s x n body is =
    ap (throughout keeps_link) (is ∙ sym (stmt.rolls-Stackalloc x n body)) ∙ fold-roll-Stmt Bool
    (λ y. keeps_link y && list_all (list_all (λ ok. ok)) (parts y)) (Stmt-F.Stackalloc x n body)
    ∙ and_one (list_all (λ ok. ok) (map (throughout keeps_link) body)) ∙ oks_map (throughout keeps_link) body

kept_both : (first second : List Stmt) → (list_all (λ ok. ok) (map (throughout keeps_link) first)
    && (list_all (λ ok. ok) (map (throughout keeps_link) second) && true))
    ≡ (list_all (throughout keeps_link) first && list_all (throughout keeps_link) second)
kept_both first second =
    ap (λ b. list_all (λ ok. ok) (map (throughout keeps_link) first) && b)
    (and_one (list_all (λ ok. ok) (map (throughout keeps_link) second)) ∙ oks_map (throughout keeps_link) second)
    ∙ ap (λ b. b && list_all (throughout keeps_link) second) (oks_map (throughout keeps_link) first)

pub kept_if : (s : Stmt) (test : Cond) (first second : List Stmt) → s ≡ stmt.If test first second
    → throughout keeps_link s ≡ (list_all (throughout keeps_link) first && list_all (throughout keeps_link) second)
kept_if s test first second is =
    ap (throughout keeps_link) (is ∙ sym (stmt.rolls-If test first second)) ∙ fold-roll-Stmt Bool
    (λ y. keeps_link y && list_all (list_all (λ ok. ok)) (parts y)) (Stmt-F.If test first second)
    ∙ kept_both first second

pub kept_loop : (s : Stmt) (first : List Stmt) (test : Cond) (last : List Stmt) → s ≡ stmt.Loop first test last
    → throughout keeps_link s ≡ (list_all (throughout keeps_link) first && list_all (throughout keeps_link) last)
kept_loop s first test last is =
    ap (throughout keeps_link) (is ∙ sym (stmt.rolls-Loop first test last)) ∙ fold-roll-Stmt Bool
    (λ y. keeps_link y && list_all (list_all (λ ok. ok)) (parts y)) (Stmt-F.Loop first test last)
    ∙ kept_both first last

pub record BufferParts (targets : Targets) (x n : ℕ) (body : List Stmt) (free : ℕ) (w : Written)
    (l : List ℕ) : Type 0 where
  pub register : x < 32
  pub form : IsTrue (list_all (throughout is_encodable) body)
  pub ready : Ready (place_items x (free - n) ++ all_items targets body (free - n))
      (sized_all targets.near body (free - n)).parts w l

pub items_buffer : (targets : Targets) (s : Stmt) (x n : ℕ) (body : List Stmt) (free : ℕ) → s ≡ stmt.Stackalloc x n body
    → items_of targets s free ≡ place_items x (free - n) ++ all_items targets body (free - n)
items_buffer targets s x n body free is =
    ap (λ z. items_of targets z free) (is ∙ sym (stmt.rolls-Stackalloc x n body))
    ∙ ap (λ f. f free) (fold-roll-Stmt (ℕ → List Item) (statement_items targets) (Stmt-F.Stackalloc x n body))

pub sized_buffer : (near : Bool) (s : Stmt) (x n : ℕ) (body : List Stmt) (free : ℕ) → s ≡ stmt.Stackalloc x n body
    → (sized near s free).parts ≡ (sized_all near body (free - n)).parts
sized_buffer near s x n body free is =
    ap (λ z. (sized near z free).parts) (is ∙ sym (stmt.rolls-Stackalloc x n body))
    ∙ ap (λ f. (f free).parts) (fold-roll-Stmt (ℕ → Sized) (statement_sized near) (Stmt-F.Stackalloc x n body))

pub buffer_parts : (targets : Targets) (s : Stmt) (x n : ℕ) (body : List Stmt) (free : ℕ) (w : Written) (l : List ℕ)
    → s ≡ stmt.Stackalloc x n body → IsTrue (throughout is_encodable s)
    → Ready (items_of targets s free) (sized targets.near s free).parts w l → BufferParts targets x n body free w l
buffer_parts targets s x n body free w l is form ready =
    let rolled : throughout is_encodable s ≡ ((are_registers (x ∷ []) && true && true)
    && (list_all (λ ok. ok) (map (throughout is_encodable) body) && true)) =
    ap (throughout is_encodable) (is ∙ sym (stmt.rolls-Stackalloc x n body)) ∙ fold-roll-Stmt Bool
    (λ y. is_encodable y && list_all (list_all (λ ok. ok)) (parts y)) (Stmt-F.Stackalloc x n body) in
    let both = and_parts (are_registers (x ∷ []) && true && true)
    (list_all (λ ok. ok) (map (throughout is_encodable) body) && true) (subst IsTrue rolled form) in
    let own = and_parts (are_registers (x ∷ [])) true (and_parts (are_registers (x ∷ []) && true) true both.0).0 in
    record {
      register = register_of x (and_true (nat_le 3 x && nat_le x 31) own.0);
      form = subst IsTrue (oks_map (throughout is_encodable) body)
          (and_true (list_all (λ ok. ok) (map (throughout is_encodable) body)) both.1);
      ready = subst (λ p. Ready (place_items x (free - n) ++ all_items targets body (free - n)) p w l)
          (sized_buffer targets.near s x n body free is)
          (subst (λ i. Ready i (sized targets.near s free).parts w l) (items_buffer targets s x n body free is) ready);
    }

pub record TwoParts (test : Cond) (first second : List Stmt) (items : List Item) (parts : List ℕ) (w : Written)
    (l : List ℕ) : Type 0 where
  pub registers : HasRegisters (branching test)
  pub first_form : IsTrue (list_all (throughout is_encodable) first)
  pub second_form : IsTrue (list_all (throughout is_encodable) second)
  pub ready : Ready items parts w l

two_forms : (test : Cond) (first second : List Stmt)
    → IsTrue ((true && are_registers (test_names test) && true) && (list_all (λ ok. ok)
    (map (throughout is_encodable) first) && (list_all (λ ok. ok) (map (throughout is_encodable) second) && true)))
    → HasRegisters (branching test) × IsTrue (list_all (throughout is_encodable) first)
    × IsTrue (list_all (throughout is_encodable) second)
two_forms test first second h =
    let both = and_parts
    (true && are_registers (test_names test) && true) (list_all (λ ok. ok) (map (throughout is_encodable) first)
    && (list_all (λ ok. ok) (map (throughout is_encodable) second) && true)) h in
    let own = and_true (are_registers (test_names test)) both.0 in
    let forms = and_parts (list_all (λ ok. ok) (map (throughout is_encodable) first))
    (list_all (λ ok. ok) (map (throughout is_encodable) second) && true) both.1 in (
      test_registers test own,
      subst IsTrue (oks_map (throughout is_encodable) first) forms.0,
      subst IsTrue (oks_map (throughout is_encodable) second)
          (and_true (list_all (λ ok. ok) (map (throughout is_encodable) second)) forms.1),
    )

pub items_if : (targets : Targets) (s : Stmt) (test : Cond) (first second : List Stmt) (free : ℕ)
    → s ≡ stmt.If test first second
    → items_of targets s free ≡ if_items (branching test) (all_items targets first free) (all_items targets second free)
items_if targets s test first second free is =
    ap (λ z. items_of targets z free) (is ∙ sym (stmt.rolls-If test first second))
    ∙ ap (λ f. f free) (fold-roll-Stmt (ℕ → List Item) (statement_items targets) (Stmt-F.If test first second))

pub sized_if_parts : (near : Bool) (s : Stmt) (test : Cond) (first second : List Stmt) (free : ℕ)
    → s ≡ stmt.If test first second
    → (sized near s free).parts ≡ (sized_if (sized_all near first free) (sized_all near second free)).parts
sized_if_parts near s test first second free is =
    ap (λ z. (sized near z free).parts) (is ∙ sym (stmt.rolls-If test first second))
    ∙ ap (λ f. (f free).parts) (fold-roll-Stmt (ℕ → Sized) (statement_sized near) (Stmt-F.If test first second))

pub if_ready : (targets : Targets) (s : Stmt) (test : Cond) (first second : List Stmt) (free : ℕ) (w : Written)
    (l : List ℕ) → s ≡ stmt.If test first second → IsTrue (throughout is_encodable s)
    → Ready (items_of targets s free) (sized targets.near s free).parts w l
    → TwoParts
    test first second (if_items (branching test) (all_items targets first free) (all_items targets second free))
    (sized_if (sized_all targets.near first free) (sized_all targets.near second free)).parts w l
if_ready targets s test first second free w l is form ready =
    let rolled : throughout is_encodable s ≡ ((true && are_registers (test_names test) && true)
    && (list_all (λ ok. ok) (map (throughout is_encodable) first)
    && (list_all (λ ok. ok) (map (throughout is_encodable) second) && true))) =
    ap (throughout is_encodable) (is ∙ sym (stmt.rolls-If test first second)) ∙ fold-roll-Stmt Bool
    (λ y. is_encodable y && list_all (list_all (λ ok. ok)) (parts y)) (Stmt-F.If test first second) in
    let forms = two_forms test first second (subst IsTrue rolled form) in
    let items = if_items (branching test) (all_items targets first free) (all_items targets second free) in
    record {
      registers = forms.0;
      first_form = forms.1;
      second_form = forms.2;
      ready = subst (λ p. Ready items p w l) (sized_if_parts targets.near s test first second free is) (subst
          (λ i. Ready i (sized targets.near s free).parts w l) (items_if targets s test first second free is) ready);
    }

pub items_loop : (targets : Targets) (s : Stmt) (first : List Stmt) (test : Cond) (last : List Stmt) (free : ℕ)
    → s ≡ stmt.Loop first test last
    → items_of targets s free ≡ loop_items (all_items targets first free) (branching test) (all_items targets last free)
items_loop targets s first test last free is =
    ap (λ z. items_of targets z free) (is ∙ sym (stmt.rolls-Loop first test last))
    ∙ ap (λ f. f free) (fold-roll-Stmt (ℕ → List Item) (statement_items targets) (Stmt-F.Loop first test last))

pub sized_loop_parts : (near : Bool) (s : Stmt) (first : List Stmt) (test : Cond) (last : List Stmt) (free : ℕ)
    → s ≡ stmt.Loop first test last
    → (sized near s free).parts ≡ (sized_loop (sized_all near first free) (sized_all near last free)).parts
sized_loop_parts near s first test last free is =
    ap (λ z. (sized near z free).parts) (is ∙ sym (stmt.rolls-Loop first test last))
    ∙ ap (λ f. (f free).parts) (fold-roll-Stmt (ℕ → Sized) (statement_sized near) (Stmt-F.Loop first test last))

pub loop_ready : (targets : Targets) (s : Stmt) (first : List Stmt) (test : Cond) (last : List Stmt) (free : ℕ)
    (w : Written) (l : List ℕ) → s ≡ stmt.Loop first test last → IsTrue (throughout is_encodable s)
    → Ready (items_of targets s free) (sized targets.near s free).parts w l
    → TwoParts
    test first last (loop_items (all_items targets first free) (branching test) (all_items targets last free))
    (sized_loop (sized_all targets.near first free) (sized_all targets.near last free)).parts w l
loop_ready targets s first test last free w l is form ready =
    let rolled : throughout is_encodable s ≡ ((true && are_registers (test_names test) && true) && (list_all (λ ok. ok)
    (map (throughout is_encodable) first) && (list_all (λ ok. ok) (map (throughout is_encodable) last) && true))) =
    ap (throughout is_encodable) (is ∙ sym (stmt.rolls-Loop first test last)) ∙ fold-roll-Stmt Bool
    (λ y. is_encodable y && list_all (list_all (λ ok. ok)) (parts y)) (Stmt-F.Loop first test last) in
    let forms = two_forms test first last (subst IsTrue rolled form) in
    let items = loop_items (all_items targets first free) (branching test) (all_items targets last free) in
    record {
      registers = forms.0;
      first_form = forms.1;
      second_form = forms.2;
      ready = subst (λ p. Ready items p w l) (sized_loop_parts targets.near s first test last free is) (subst
          (λ i. Ready i (sized targets.near s free).parts w l) (items_loop targets s first test last free is) ready);
    }

pub table_few : (targets : Targets) (s : Stmt) (x : ℕ) (size : Size) (bytes : List ℕ) (y free most : ℕ)
    → s ≡ stmt.Table x size bytes y → length (items_of targets s free) ≤ most → length (table_words bytes) ≤ most
table_few targets s x size bytes y free most is few =
    let rolled = ap (λ z. items_of targets z free) (is ∙ sym (stmt.rolls-Table x size bytes y))
    ∙ ap (λ f. f free) (fold-roll-Stmt (ℕ → List Item) (statement_items targets) (Stmt-F.Table x size bytes y)) in
    let few' : length (table_items x size bytes y) ≤ most = subst (λ i. length i ≤ most) rolled few in
    let s1 = length-append (over_items 1 (length (table_words bytes)))
    (table_words bytes ++ (Does (Reg Add 1 1 y) ∷ Does (Load (load_op size) x 1 (pos 0)) ∷ [])) in
    let s2 = length-append (table_words bytes) (Does (Reg Add 1 1 y) ∷ Does (Load (load_op size) x 1 (pos 0)) ∷ []) in
    omega arith

-- ---- one statement more

pub record AllStep (targets : Targets) (body : List Stmt) (i : ℕ) (x : Stmt) (free : ℕ) (w w' : Written)
    (l l' : List ℕ) : Type 0 where
  pub ready : Ready (all_items targets (drop (i + 1) body) free)
      (sized_all targets.near (drop (i + 1) body) free).parts w' l'
  pub code : appended w' (all_items targets (drop (i + 1) body) free)
      ≡ appended w (all_items targets (drop i body) free)
  pub fit : AllFit (items_of targets x free) → AllFit (all_items targets (drop (i + 1) body) free)
      → AllFit (all_items targets (drop i body) free)
  pub lengths : drop (length (sized_all targets.near (drop (i + 1) body) free).parts) l'
      ≡ drop (length (sized_all targets.near (drop i body) free).parts) l

step_at : (targets : Targets) (body : List Stmt) (i : ℕ) (x : Stmt) (free : ℕ) (w : Written) (l : List ℕ)
    → drop i body ≡ x ∷ drop (i + 1) body
    → Ready (all_items targets (drop i body) free) (sized_all targets.near (drop i body) free).parts w l
    → AllStep targets body i x free w (appended w (items_of targets x free)) l
    (drop (length (sized targets.near x free).parts) l)
step_at targets body i x free w l is ready =
    let rest = drop (i + 1) body in
    let here : all_items targets (drop i body) free ≡ items_of targets x free ++ all_items targets rest free =
    ap (λ b. all_items targets b free) is in
    let parts : (sized_all targets.near (drop i body) free).parts ≡ (sized targets.near x free).parts
    ++ (sized_all targets.near rest free).parts = ap (λ b. (sized_all targets.near b free).parts) is in
    let ready' = subst (λ p. Ready (items_of targets x free ++ all_items targets rest free) p w l) parts
    (subst (λ q. Ready q (sized_all targets.near (drop i body) free).parts w l) here ready) in
    record {
      ready = ready_back (items_of targets x free) (all_items targets rest free) (sized targets.near x free).parts
          (sized_all targets.near rest free).parts w l ready';
      code = appended_twice w (items_of targets x free) (all_items targets rest free) ∙ ap (appended w) (sym here);
      fit = λ f r. subst AllFit (sym here) (fit_both (items_of targets x free) (all_items targets rest free) f r);
      lengths = drop_both (sized targets.near x free).parts (sized_all targets.near rest free).parts l ready'.front
          ∙ ap (λ p. drop (length p) l) (sym parts);
    }

pub all_step : (targets : Targets) (body : List Stmt) (i : ℕ) (x : Stmt) (free : ℕ) (w w' : Written) (l l' : List ℕ)
    → i < length body → x ≡ get_or body i x → w' ≡ appended w (items_of targets x free)
    → l' ≡ drop (length (sized targets.near x free).parts) l
    → Ready (all_items targets (drop i body) free) (sized_all targets.near (drop i body) free).parts w l
    → AllStep targets body i x free w w' l l'
all_step targets body i x free w w' l l' inside is code lengths ready =
    subst (λ q. AllStep targets body i x free w w' l q) (sym lengths)
    (subst (λ q. AllStep targets body i x free w q l (drop (length (sized targets.near x free).parts) l)) (sym code)
    (step_at targets body i x free w l (drop_next body i x inside is) ready))

pub form_next : (body : List Stmt) (i : ℕ) (x : Stmt)
    → i < length body → x ≡ get_or body i x → IsTrue (list_all (throughout is_encodable) (drop i body))
    → IsTrue (list_all (throughout is_encodable) (drop (i + 1) body))
form_next body i x inside is form =
    (and_parts (throughout is_encodable x) (list_all (throughout is_encodable) (drop (i + 1) body))
    (subst (λ b. IsTrue (list_all (throughout is_encodable) b)) (drop_next body i x inside is) form)).1
