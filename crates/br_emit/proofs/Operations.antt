-- Pieces of code that set a register to a constant, to another register, or to what an operation makes.
use Rattle.std.proofs.Common.{◌≡◌, ◌≢◌, ◌⊎◌, inl, inr, ℕ, zero, suc, ◌+◌, ◌-◌, ◌*◌, ◌/◌, ◌%◌, ◌^◌}
use Rattle.std.proofs.Common.{◌<◌, ◌≤◌, ◌==◌, nat_lt, if◌then◌else◌, List, [], ◌∷◌, length, Bool}
use Rattle.std.proofs.Common.{true, false, IsTrue, refl, sym, ap, subst, ◌∙◌, arith, ℤ, pos, negsuc}
use Rattle.std.specs.Prelude.{bit_xor, slice_index}
use Rattle.std.specs.List.{AllByRecursion}
use Rattle.std.specs.Int.Bits.{xor_add_and, xor_self}
use Rattle.std.proofs.lemmas.Nat.{and_le_l, and_le_r}
use Rattle.std.proofs.lemmas.Bool.{ltb-true, ltb-false}
use Rattle.std.proofs.lemmas.Bool.Decides.{nat_tests}
use Rattle.std.proofs.lemmas.Int.{ints}
use Rattle.br_words.specs.declared.operation.BinOp.{BinOp}
use Rattle.br_words.specs.declared.operation.BinOp.TheVariants as op
use Rattle.br_words.specs.Words.{wrapped, signed, floor_div, flag, value_of_op}
use Rattle.br_bytes.specs.declared.run.Event.{Event}
use Rattle.br_flatimp.specs.declared.program.Operand.TheVariants as operand
use Rattle.br_flatimp.specs.WellFormed.{operand_fits}
use Rattle.br_rv32im.specs.declared.instruction.Ins.TheVariants.{Upper, Imm}
use Rattle.br_rv32im.specs.declared.instruction.UpperOp.TheVariants.{Lui}
use Rattle.br_rv32im.specs.declared.instruction.ImmOp.TheVariants.{Addi, Slti, Sltiu, Xori, Ori, Andi}
use Rattle.br_rv32im.specs.declared.instruction.ShiftOp.TheVariants.{Slli, Srli, Srai}
use Rattle.br_rv32im.specs.declared.instruction.RegOp.TheVariants.{Add, Sub, Sll, Slt, Sltu, Xor, Srl}
use Rattle.br_rv32im.specs.declared.instruction.RegOp.TheVariants.{Sra, Or, And, Mul, Mulhu, Divu, Remu}
use Rattle.br_rv32im.specs.Encoding.{FitsSignedBits}
use Rattle.br_emit.specs.Code.{Does, low_part, high_part, is_short, constant_items}
use Rattle.br_emit.specs.Code.{copy_items, opposite, by_name_items, by_constant_items}
use Rattle.br_emit.proofs.Stepping.{at, Good, reads}
use Rattle.br_emit.proofs.Pieces.{Ground, Placed, Ready}
use Rattle.br_emit.proofs.Setting.{Sets, good_of, sets_again, imm_sets, shift_sets, reg_sets, lui_sets}

-- at most so many steps
pub record SetsWithin (g : Ground) (j k : ℕ) (registers ram answers : List ℕ) (trace : List Event)
    (x v limit : ℕ) : Type 0 where
  pub steps : ℕ
  pub few : steps ≤ limit
  pub sets : Sets g j k registers ram answers trace x v steps

abbrev within : (g : Ground) (j k : ℕ) (registers ram answers : List ℕ) (trace : List Event) (x v w n limit : ℕ)
    → n ≤ limit → v ≡ w → Sets g j k registers ram answers trace x v n
    → SetsWithin g j k registers ram answers trace x w limit
within g j k registers ram answers trace x v w n limit few is s =
    record { steps = n; few = few; sets = subst (λ q. Sets g j k registers ram answers trace x q n) is s }

-- ---- constants

pub short_value : (n : ℕ) → is_short n ≡ true → (0 + wrapped (low_part n)) % 2 ^ 32 ≡ n
short_value n short = by (nat_lt (n % 4096) 2048) refl
  where
    near : (n < 2048) ⊎ ((2 ^ 32 - 2048 ≤ n) × (n < 2 ^ 32))
    near = grind (arith, nat_tests)

    by : (b : Bool) → nat_lt (n % 4096) 2048 ≡ b
        → (0 + wrapped (if b then pos (n % 4096) else negsuc (4095 - n % 4096))) % 2 ^ 32 ≡ n
    by true e = let l = ltb-true (n % 4096) 2048 e in elim near [ inl h ↦ omega arith | inr h ↦ omega arith ]
    by false e = let l = ltb-false (n % 4096) 2048 e in elim near [ inl h ↦ omega arith | inr h ↦ omega arith ]

-- the two parts of a word make it
pub parts_value : (n : ℕ) → high_part n < 2 ^ 20 → (high_part n * 4096 + wrapped (low_part n)) % 2 ^ 32 ≡ n
parts_value n h = by (nat_lt (n % 4096) 2048) refl
  where
    by : (b : Bool) → nat_lt (n % 4096) 2048 ≡ b
        → ((n + 2048) / 4096 * 4096 + wrapped (if b then pos (n % 4096) else negsuc (4095 - n % 4096))) % 2 ^ 32 ≡ n
    by true e = let l = ltb-true (n % 4096) 2048 e in omega arith
    by false e = let l = ltb-false (n % 4096) 2048 e in omega arith

upper_value : (n : ℕ) → (n % 4096 == 0) ≡ true → high_part n * 4096 ≡ n
upper_value n e = let z : n % 4096 ≡ 0 = grind (arith, nat_tests) in omega arith

pub constant_sets : (g : Ground) (j : ℕ) (registers ram answers : List ℕ) (trace : List Event) (x n : ℕ)
    → Good g.code registers ram → Placed g.code j (constant_items x n) → x ≢ 0
    → SetsWithin g j (length (constant_items x n)) registers ram answers trace x n 2
constant_sets g j registers ram answers trace x n good placed ne = by (is_short n) (n % 4096 == 0) refl refl placed
  where
    by : (b c : Bool) → is_short n ≡ b → (n % 4096 == 0) ≡ c
        → Placed g.code j
        (if b then Does (Imm Addi x 0 (low_part n)) ∷ [] else if c then Does (Upper Lui x (high_part n)) ∷ []
        else Does (Upper Lui x (high_part n)) ∷ Does (Imm Addi x x (low_part n)) ∷ [])
        → SetsWithin g j (length (if b then Does (Imm Addi x 0 (low_part n)) ∷ [] else if c then Does (Upper
        Lui x (high_part n)) ∷ [] else Does (Upper Lui x (high_part n)) ∷ Does (Imm Addi x x (low_part n)) ∷ []))
        registers ram answers trace x n 2
    by true c short whole p =
        within g j 1 registers ram answers trace x _ n 1 2 (omega arith) (short_value n short)
        (imm_sets g j registers ram answers trace Addi x 0 0 (low_part n) good p.0 p.1 ne refl)
    by false true short whole p =
        within g j 1 registers ram answers trace x _ n 1 2 (omega arith) (upper_value n whole)
        (lui_sets g j registers ram answers trace x (high_part n) good p.0 p.1 ne)
    by false false short whole p =
        let first = lui_sets g j registers ram answers trace x (high_part n) good p.0 p.1 ne in
        within g j 2 registers ram answers trace x _ n 2 2 (omega arith) (parts_value n p.1.1)
        (sets_again g j 1 1 registers ram answers trace x (high_part n * 4096) _ 1 1 first
        (imm_sets g (j + 1) first.registers' ram answers trace Addi x x (high_part n * 4096) (low_part n) first.good
        p.2.0 p.2.1 ne first.value))

-- ---- operations on two names

-- two words are equal where their difference is 0
difference : (a b : ℕ) → a < 2 ^ 32 → b < 2 ^ 32 → nat_lt ((a + (2 ^ 32 - b)) % 2 ^ 32) 1 ≡ (a == b)
difference a b small small' = by (a == b) refl
  where
    by : (q : Bool) → (a == b) ≡ q → nat_lt ((a + (2 ^ 32 - b)) % 2 ^ 32) 1 ≡ q
    by true e =
        let is : a ≡ b = grind (arith, nat_tests) in
        let zero_is : (a + (2 ^ 32 - b)) % 2 ^ 32 ≡ 0 = omega arith in
        ap (λ q. nat_lt q 1) zero_is
    by false e =
        let ne : a ≢ b = grind (arith, nat_tests) in
        let pos : 1 ≤ (a + (2 ^ 32 - b)) % 2 ^ 32 = omega arith in
        not_below ((a + (2 ^ 32 - b)) % 2 ^ 32) pos
      where
        not_below : (n : ℕ) → 1 ≤ n → nat_lt n 1 ≡ false
        not_below n h = grind (arith, nat_tests)

-- and where no bit differs
differing : (a b : ℕ) → nat_lt (bit_xor a b) 1 ≡ (a == b)
differing a b = by (a == b) refl
  where
    not_below : (n : ℕ) → 1 ≤ n → nat_lt n 1 ≡ false
    not_below n h = grind (arith, nat_tests)

    by : (q : Bool) → (a == b) ≡ q → nat_lt (bit_xor a b) 1 ≡ q
    by true e =
        let is : a ≡ b = grind (arith, nat_tests) in
        ap (λ q. nat_lt (bit_xor a q) 1) (sym is) ∙ ap (λ q. nat_lt q 1) (xor_self a)
    by false e =
        let ne : a ≢ b = grind (arith, nat_tests) in
        let sum = xor_add_and a b in
        let left = and_le_l a b in
        let right = and_le_r a b in
        not_below (bit_xor a b) (omega arith)

pub by_name_sets : (g : Ground) (j : ℕ) (registers ram answers : List ℕ) (trace : List Event) (o : BinOp)
    (x y z a b : ℕ)
    → Good g.code registers ram → Placed g.code j (by_name_items o x y z) → x ≢ 0
    → reads registers y ≡ a → reads registers z ≡ b → a < 2 ^ 32 → b < 2 ^ 32
    → SetsWithin g j (length (by_name_items o x y z)) registers ram answers trace x (value_of_op o a b) 2
by_name_sets g j registers ram answers trace o x y z a b good placed ne is also small small' = by o placed
  where
    by : (o : BinOp) → Placed g.code j (by_name_items o x y z)
        → SetsWithin g j (length (by_name_items o x y z)) registers ram answers trace x (value_of_op o a b) 2
    by op.Add p = within g j 1 registers ram answers trace x _ _ 1 2 (omega arith) refl
        (reg_sets g j registers ram answers trace Add x y z a b good p.0 p.1 ne is also)
    by op.Sub p = within g j 1 registers ram answers trace x _ _ 1 2 (omega arith) refl
        (reg_sets g j registers ram answers trace Sub x y z a b good p.0 p.1 ne is also)
    by op.Mul p = within g j 1 registers ram answers trace x _ _ 1 2 (omega arith) refl
        (reg_sets g j registers ram answers trace Mul x y z a b good p.0 p.1 ne is also)
    by op.Mulhuu p = within g j 1 registers ram answers trace x _ _ 1 2 (omega arith) refl
        (reg_sets g j registers ram answers trace Mulhu x y z a b good p.0 p.1 ne is also)
    by op.Divu p = within g j 1 registers ram answers trace x _ _ 1 2 (omega arith) refl
        (reg_sets g j registers ram answers trace Divu x y z a b good p.0 p.1 ne is also)
    by op.Remu p = within g j 1 registers ram answers trace x _ _ 1 2 (omega arith) refl
        (reg_sets g j registers ram answers trace Remu x y z a b good p.0 p.1 ne is also)
    by op.And p = within g j 1 registers ram answers trace x _ _ 1 2 (omega arith) refl
        (reg_sets g j registers ram answers trace And x y z a b good p.0 p.1 ne is also)
    by op.Or p = within g j 1 registers ram answers trace x _ _ 1 2 (omega arith) refl
        (reg_sets g j registers ram answers trace Or x y z a b good p.0 p.1 ne is also)
    by op.Xor p = within g j 1 registers ram answers trace x _ _ 1 2 (omega arith) refl
        (reg_sets g j registers ram answers trace Xor x y z a b good p.0 p.1 ne is also)
    by op.Sru p = within g j 1 registers ram answers trace x _ _ 1 2 (omega arith) refl
        (reg_sets g j registers ram answers trace Srl x y z a b good p.0 p.1 ne is also)
    by op.Slu p = within g j 1 registers ram answers trace x _ _ 1 2 (omega arith) refl
        (reg_sets g j registers ram answers trace Sll x y z a b good p.0 p.1 ne is also)
    by op.Srs p = within g j 1 registers ram answers trace x _ _ 1 2 (omega arith) refl
        (reg_sets g j registers ram answers trace Sra x y z a b good p.0 p.1 ne is also)
    by op.Lts p = within g j 1 registers ram answers trace x _ _ 1 2 (omega arith) refl
        (reg_sets g j registers ram answers trace Slt x y z a b good p.0 p.1 ne is also)
    by op.Ltu p = within g j 1 registers ram answers trace x _ _ 1 2 (omega arith) refl
        (reg_sets g j registers ram answers trace Sltu x y z a b good p.0 p.1 ne is also)
    by op.Eq p =
        let first = reg_sets g j registers ram answers trace Sub x y z a b good p.0 p.1 ne is also in
        within g j 2 registers ram answers trace x _ _ 2 2 (omega arith) (ap flag (difference a b small small'))
        (sets_again g j 1 1 registers ram answers trace x _ _ 1 1 first
        (imm_sets g (j + 1) first.registers' ram answers trace Sltiu x x _ (pos 1) first.good p.2.0 p.2.1
        ne first.value))

-- ---- operations on a name and a constant

difference_of_constant : (a : ℕ) (c : ℤ) → FitsSignedBits 12 (opposite c)
    → (a + wrapped (opposite c)) % 2 ^ 32 ≡ (a + (2 ^ 32 - wrapped c)) % 2 ^ 32
difference_of_constant a (pos zero) fits = omega arith
difference_of_constant a (pos (suc k)) fits = let low = fits.0 in let l : k ≤ 2047 = omega (arith, ints) in omega arith
difference_of_constant a (negsuc k) fits = let high = fits.1 in
    let l : suc k ≤ 2047 = omega (arith, ints) in omega arith

amount_is : (k : ℕ) → k < 2 ^ 5 → k % 2 ^ 32 % 32 ≡ k
amount_is k h = omega arith

pub by_constant_sets : (g : Ground) (j : ℕ) (registers ram answers : List ℕ) (trace : List Event) (o : BinOp)
    (x y a : ℕ) (c : ℤ)
    → Good g.code registers ram → Placed g.code j (by_constant_items o x y c) → x ≢ 0
    → IsTrue (operand_fits o (operand.Const c))
    → reads registers y ≡ a
    → SetsWithin g j (length (by_constant_items o x y c)) registers ram answers trace x (value_of_op o a (wrapped c)) 2
by_constant_sets g j registers ram answers trace o x y a c good placed ne fit is = by o c placed fit
  where
    by : (o : BinOp) (c : ℤ) → Placed g.code j (by_constant_items o x y c) → IsTrue (operand_fits o (operand.Const c))
        → SetsWithin g j (length (by_constant_items o x y c)) registers ram answers trace x (value_of_op o a
        (wrapped c)) 2
    by op.Add c p fit = within g j 1 registers ram answers trace x _ _ 1 2 (omega arith) refl
        (imm_sets g j registers ram answers trace Addi x y a c good p.0 p.1 ne is)
    by op.Sub c p fit = within g j 1 registers ram answers trace x _ _ 1 2 (omega arith) (difference_of_constant a c
        p.1.2) (imm_sets g j registers ram answers trace Addi x y a (opposite c) good p.0 p.1 ne is)
    by op.And c p fit = within g j 1 registers ram answers trace x _ _ 1 2 (omega arith) refl
        (imm_sets g j registers ram answers trace Andi x y a c good p.0 p.1 ne is)
    by op.Or c p fit = within g j 1 registers ram answers trace x _ _ 1 2 (omega arith) refl
        (imm_sets g j registers ram answers trace Ori x y a c good p.0 p.1 ne is)
    by op.Xor c p fit = within g j 1 registers ram answers trace x _ _ 1 2 (omega arith) refl
        (imm_sets g j registers ram answers trace Xori x y a c good p.0 p.1 ne is)
    by op.Lts c p fit = within g j 1 registers ram answers trace x _ _ 1 2 (omega arith) refl
        (imm_sets g j registers ram answers trace Slti x y a c good p.0 p.1 ne is)
    by op.Ltu c p fit = within g j 1 registers ram answers trace x _ _ 1 2 (omega arith) refl
        (imm_sets g j registers ram answers trace Sltiu x y a c good p.0 p.1 ne is)
    by op.Sru (pos k) p fit = within g j 1 registers ram answers trace x _ _ 1 2 (omega arith) (ap (λ n. a / 2 ^ n)
        (sym (amount_is k p.1.2))) (shift_sets g j registers ram answers trace Srli x y a k good p.0 p.1 ne is)
    by op.Sru (negsuc k) p fit = absurd (cc)
    by op.Slu (pos k) p fit = within g
        j 1 registers ram answers trace x _ _ 1 2 (omega arith) (ap (λ n. a * 2 ^ n % 2 ^ 32) (sym (amount_is k p.1.2)))
        (shift_sets g j registers ram answers trace Slli x y a k good p.0 p.1 ne is)
    by op.Slu (negsuc k) p fit = absurd (cc)
    by op.Srs (pos k) p fit = within g j 1 registers ram answers trace
        x _ _ 1 2 (omega arith) (ap (λ n. wrapped (floor_div (signed a) (2 ^ n))) (sym (amount_is k p.1.2)))
        (shift_sets g j registers ram answers trace Srai x y a k good p.0 p.1 ne is)
    by op.Srs (negsuc k) p fit = absurd (cc)
    by op.Eq c p fit =
        let first = imm_sets g j registers ram answers trace Xori x y a c good p.0 p.1 ne is in
        within g j 2 registers ram answers trace x _ _ 2 2 (omega arith) (ap flag (differing a (wrapped c)))
        (sets_again g j 1 1 registers ram answers trace x _ _ 1 1 first
        (imm_sets g (j + 1) first.registers' ram answers trace Sltiu x x _ (pos 1) first.good p.2.0 p.2.1
        ne first.value))
    by op.Mul c p fit = absurd (cc)
    by op.Mulhuu c p fit = absurd (cc)
    by op.Divu c p fit = absurd (cc)
    by op.Remu c p fit = absurd (cc)

-- ---- copies

-- a register of a machine is a word
pub word_reads : (registers : List ℕ) (r : ℕ) → AllByRecursion (λ v. v < 2 ^ 32) registers → reads registers r < 2 ^ 32
word_reads registers zero h = omega arith
word_reads registers (suc r) h = word_index registers (suc r) h
  where
    word_index : (xs : List ℕ) (i : ℕ) → AllByRecursion (λ v. v < 2 ^ 32) xs → slice_index xs i < 2 ^ 32
    word_index [] i h = omega arith
    word_index (x ∷ xs) zero h = h.0
    word_index (x ∷ xs) (suc i) h = word_index xs i h.1

pub copy_sets : (g : Ground) (j : ℕ) (registers ram answers : List ℕ) (trace : List Event) (x y v : ℕ)
    → Ready g.code registers ram answers j → Placed g.code j (copy_items x y) → x ≢ 0 → reads registers y ≡ v
    → SetsWithin g j (length (copy_items x y)) registers ram answers trace x v 1
copy_sets g j registers ram answers trace x y v ready placed ne is = by (x == y) refl placed
  where
    by : (b : Bool) → (x == y) ≡ b → Placed g.code j (if b then [] else Does (Imm Addi x y (pos 0)) ∷ [])
        → SetsWithin g j (length (if b then [] else Does (Imm Addi x y (pos 0)) ∷ [])) registers ram answers trace x v 1
    by true e p =
        let same : x ≡ y = grind (arith, nat_tests) in
        let here : j ≡ j + 0 = omega arith in
        record {
          steps = 0;
          few = omega arith;
          sets = record {
            registers' = registers;
            good = good_of g.code registers ram answers j ready;
            runs = ap (λ q. at g.code q registers ram answers trace) here;
            value = ap (reads registers) same ∙ is;
            others = λ y ne. refl;
          };
        }
    by false e p =
        let words = ready.is in
        let small : v < 2 ^ 32 = subst (λ q. q < 2 ^ 32) is (word_reads registers y words.words) in
        within g j 1 registers ram answers trace x _ v 1 1 (omega arith)
        (let sum : (v + 0 % 2 ^ 32) % 2 ^ 32 ≡ v = omega arith in sum)
        (imm_sets g j registers ram answers trace Addi x y v (pos 0) (good_of g.code registers ram answers j ready)
        p.0 p.1 ne is)
