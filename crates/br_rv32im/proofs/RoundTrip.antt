-- Each instruction whose fields are in range is one word, and no word is two instructions.
use Rattle.std.proofs.Common.{◌≡◌, ℕ, ◌^◌, ◌<◌, ◌∙◌, ap, refl, arith, ℤ, lit<, Bool}
use Rattle.std.proofs.Common.{true, false, cond, List, [], ◌∷◌, eqb-true, subst}
use Rattle.std.specs.Prelude.{Option, None, Some, ◌==◌, ◌&&◌, if◌then◌else◌, IfSome}
use Rattle.std.specs.List.{find}
use Rattle.std.specs.Option.{option_map, option_or}
use Rattle.std.proofs.lemmas.Bool.Decides.{nat_tests}
use Rattle.br_rv32im.specs.declared.instruction.Ins.{Ins}
use Rattle.br_rv32im.specs.declared.instruction.Ins.TheVariants.{Upper, Jal, Jalr, Branch, Load}
use Rattle.br_rv32im.specs.declared.instruction.Ins.TheVariants.{Store, Imm, Shift, Reg, Ecall}
use Rattle.br_rv32im.specs.declared.instruction.BranchOp.{BranchOp}
use Rattle.br_rv32im.specs.declared.instruction.BranchOp.TheVariants.{Beq, Bne, Blt, Bge, Bltu, Bgeu}
use Rattle.br_rv32im.specs.declared.instruction.ImmOp.{ImmOp}
use Rattle.br_rv32im.specs.declared.instruction.ImmOp.TheVariants.{Addi, Slti, Sltiu, Xori, Ori, Andi}
use Rattle.br_rv32im.specs.declared.instruction.LoadOp.{LoadOp}
use Rattle.br_rv32im.specs.declared.instruction.LoadOp.TheVariants.{Lb, Lh, Lw, Lbu, Lhu}
use Rattle.br_rv32im.specs.declared.instruction.RegOp.{RegOp}
use Rattle.br_rv32im.specs.declared.instruction.RegOp.TheVariants.{Add, Sub, Sll, Slt, Sltu, Xor, Srl, Sra, Or, And}
use Rattle.br_rv32im.specs.declared.instruction.RegOp.TheVariants.{Mul, Mulh, Mulhsu, Mulhu, Div, Divu, Rem, Remu}
use Rattle.br_rv32im.specs.declared.instruction.ShiftOp.{ShiftOp}
use Rattle.br_rv32im.specs.declared.instruction.ShiftOp.TheVariants.{Slli, Srli, Srai}
use Rattle.br_rv32im.specs.declared.instruction.StoreOp.{StoreOp}
use Rattle.br_rv32im.specs.declared.instruction.StoreOp.TheVariants.{Sb, Sh, Sw}
use Rattle.br_rv32im.specs.declared.instruction.UpperOp.{UpperOp}
use Rattle.br_rv32im.specs.declared.instruction.UpperOp.TheVariants.{Lui, Auipc}
use Rattle.br_rv32im.specs.Codes.{opcode_of_upper, opcode_jal, opcode_jalr, opcode_branch, opcode_load, opcode_store}
use Rattle.br_rv32im.specs.Codes.{opcode_imm, opcode_reg, word_of_ecall, funct3_of_jalr, funct3_of_branch}
use Rattle.br_rv32im.specs.Codes.{funct3_of_load, funct3_of_store, funct3_of_imm, funct3_of_shift, funct7_of_shift}
use Rattle.br_rv32im.specs.Codes.{funct3_of_reg, funct7_of_reg, branch_coded, load_coded, store_coded, imm_coded}
use Rattle.br_rv32im.specs.Codes.{shift_coded, reg_coded, branches, loads, stores, imms, shifts, regs}
use Rattle.br_rv32im.specs.Row.{opcode, rd, funct3, rs1, rs2, funct7, shamt, imm_i, imm_s, imm_b, imm_u}
use Rattle.br_rv32im.specs.Row.{imm_j, branch_row, load_row, store_row, imm_row, reg_row, row_of}
use Rattle.br_rv32im.specs.Encoding.{word_of, Fits}
use Rattle.br_rv32im.proofs.Words.{fields-r, fields-i, fields-s, fields-b, fields-u}
use Rattle.br_rv32im.proofs.Words.{fields-j, made-r, made-i, made-s, made-b, made-u, made-j}

-- ---- the row of a word with a given opcode

row-lui : (w : ℕ) → opcode w ≡ opcode_of_upper Lui → row_of w ≡ Some (Upper Lui (rd w) (imm_u w))
unfolding row_of
row-lui w h = rw h

row-auipc : (w : ℕ) → opcode w ≡ opcode_of_upper Auipc → row_of w ≡ Some (Upper Auipc (rd w) (imm_u w))
unfolding row_of
row-auipc w h = rw h

row-jal : (w : ℕ) → opcode w ≡ opcode_jal → row_of w ≡ Some (Jal (rd w) (imm_j w))
unfolding row_of
row-jal w h = rw h

row-jalr : (w : ℕ) → opcode w ≡ opcode_jalr → funct3 w ≡ funct3_of_jalr
    → row_of w ≡ Some (Jalr (rd w) (rs1 w) (imm_i w))
unfolding row_of
row-jalr w h f = rw (h, f)

row-branch : (w : ℕ) → opcode w ≡ opcode_branch → row_of w ≡ branch_row w
unfolding row_of
row-branch w h = rw h

row-load : (w : ℕ) → opcode w ≡ opcode_load → row_of w ≡ load_row w
unfolding row_of
row-load w h = rw h

row-store : (w : ℕ) → opcode w ≡ opcode_store → row_of w ≡ store_row w
unfolding row_of
row-store w h = rw h

row-imm : (w : ℕ) → opcode w ≡ opcode_imm → row_of w ≡ imm_row w
unfolding row_of
row-imm w h = rw h

row-reg : (w : ℕ) → opcode w ≡ opcode_reg → row_of w ≡ reg_row w
unfolding row_of
row-reg w h = rw h

-- ---- the operation that has an operation's codes is that operation

branch-coded : (o : BranchOp) → branch_coded (funct3_of_branch o) ≡ Some o
branch-coded Beq = refl
branch-coded Bne = refl
branch-coded Blt = refl
branch-coded Bge = refl
branch-coded Bltu = refl
branch-coded Bgeu = refl

load-coded : (o : LoadOp) → load_coded (funct3_of_load o) ≡ Some o
load-coded Lb = refl
load-coded Lh = refl
load-coded Lw = refl
load-coded Lbu = refl
load-coded Lhu = refl

store-coded : (o : StoreOp) → store_coded (funct3_of_store o) ≡ Some o
store-coded Sb = refl
store-coded Sh = refl
store-coded Sw = refl

imm-coded : (o : ImmOp) → imm_coded (funct3_of_imm o) ≡ Some o
imm-coded Addi = refl
imm-coded Slti = refl
imm-coded Sltiu = refl
imm-coded Xori = refl
imm-coded Ori = refl
imm-coded Andi = refl

shift-coded : (o : ShiftOp) → shift_coded (funct3_of_shift o) (funct7_of_shift o) ≡ Some o
shift-coded Slli = refl
shift-coded Srli = refl
shift-coded Srai = refl

no-imm-coded : (o : ShiftOp) → imm_coded (funct3_of_shift o) ≡ None
no-imm-coded Slli = refl
no-imm-coded Srli = refl
no-imm-coded Srai = refl

reg-coded : (o : RegOp) → reg_coded (funct3_of_reg o) (funct7_of_reg o) ≡ Some o
reg-coded Add = refl
reg-coded Sub = refl
reg-coded Sll = refl
reg-coded Slt = refl
reg-coded Sltu = refl
reg-coded Xor = refl
reg-coded Srl = refl
reg-coded Sra = refl
reg-coded Or = refl
reg-coded And = refl
reg-coded Mul = refl
reg-coded Mulh = refl
reg-coded Mulhsu = refl
reg-coded Mulhu = refl
reg-coded Div = refl
reg-coded Divu = refl
reg-coded Rem = refl
reg-coded Remu = refl

-- ---- codes are in range

branch-lt : (o : BranchOp) → funct3_of_branch o < 8
branch-lt Beq = lit< tt
branch-lt Bne = lit< tt
branch-lt Blt = lit< tt
branch-lt Bge = lit< tt
branch-lt Bltu = lit< tt
branch-lt Bgeu = lit< tt

load-lt : (o : LoadOp) → funct3_of_load o < 8
load-lt Lb = lit< tt
load-lt Lh = lit< tt
load-lt Lw = lit< tt
load-lt Lbu = lit< tt
load-lt Lhu = lit< tt

store-lt : (o : StoreOp) → funct3_of_store o < 8
store-lt Sb = lit< tt
store-lt Sh = lit< tt
store-lt Sw = lit< tt

imm-lt : (o : ImmOp) → funct3_of_imm o < 8
imm-lt Addi = lit< tt
imm-lt Slti = lit< tt
imm-lt Sltiu = lit< tt
imm-lt Xori = lit< tt
imm-lt Ori = lit< tt
imm-lt Andi = lit< tt

shift-lt : (o : ShiftOp) → (funct3_of_shift o < 8) × (funct7_of_shift o < 128)
shift-lt Slli = (lit< tt, lit< tt)
shift-lt Srli = (lit< tt, lit< tt)
shift-lt Srai = (lit< tt, lit< tt)

reg-lt : (o : RegOp) → (funct3_of_reg o < 8) × (funct7_of_reg o < 128)
reg-lt Add = (lit< tt, lit< tt)
reg-lt Sub = (lit< tt, lit< tt)
reg-lt Sll = (lit< tt, lit< tt)
reg-lt Slt = (lit< tt, lit< tt)
reg-lt Sltu = (lit< tt, lit< tt)
reg-lt Xor = (lit< tt, lit< tt)
reg-lt Srl = (lit< tt, lit< tt)
reg-lt Sra = (lit< tt, lit< tt)
reg-lt Or = (lit< tt, lit< tt)
reg-lt And = (lit< tt, lit< tt)
reg-lt Mul = (lit< tt, lit< tt)
reg-lt Mulh = (lit< tt, lit< tt)
reg-lt Mulhsu = (lit< tt, lit< tt)
reg-lt Mulhu = (lit< tt, lit< tt)
reg-lt Div = (lit< tt, lit< tt)
reg-lt Divu = (lit< tt, lit< tt)
reg-lt Rem = (lit< tt, lit< tt)
reg-lt Remu = (lit< tt, lit< tt)

-- ---- the row of the word that an instruction is

branch-from : (w : ℕ) (o : BranchOp) (d e : ℕ) (z : ℤ) → funct3 w ≡ funct3_of_branch o → rs1 w ≡ d → rs2 w ≡ e
    → imm_b w ≡ z → branch_row w ≡ Some (Branch o d e z)
branch-from w o d e z f hd he hz =
    ap (λ (x : ℕ). option_map (λ p. Branch p (rs1 w) (rs2 w) (imm_b w)) (branch_coded x)) f
    ∙ ap (option_map (λ p. Branch p (rs1 w) (rs2 w) (imm_b w))) (branch-coded o)
    ∙ cc

load-from : (w : ℕ) (o : LoadOp) (c d : ℕ) (z : ℤ) → funct3 w ≡ funct3_of_load o → rd w ≡ c → rs1 w ≡ d → imm_i w ≡ z
    → load_row w ≡ Some (Load o c d z)
load-from w o c d z f hc hd hz =
    ap (λ (x : ℕ). option_map (λ p. Load p (rd w) (rs1 w) (imm_i w)) (load_coded x)) f
    ∙ ap (option_map (λ p. Load p (rd w) (rs1 w) (imm_i w))) (load-coded o)
    ∙ cc

store-from : (w : ℕ) (o : StoreOp) (d e : ℕ) (z : ℤ) → funct3 w ≡ funct3_of_store o → rs1 w ≡ d → rs2 w ≡ e
    → imm_s w ≡ z → store_row w ≡ Some (Store o d e z)
store-from w o d e z f hd he hz =
    ap (λ (x : ℕ). option_map (λ p. Store p (rs1 w) (rs2 w) (imm_s w)) (store_coded x)) f
    ∙ ap (option_map (λ p. Store p (rs1 w) (rs2 w) (imm_s w))) (store-coded o)
    ∙ cc

imm-from : (w : ℕ) (o : ImmOp) (c d : ℕ) (z : ℤ) → funct3 w ≡ funct3_of_imm o → rd w ≡ c → rs1 w ≡ d → imm_i w ≡ z
    → imm_row w ≡ Some (Imm o c d z)
imm-from w o c d z f hc hd hz =
    let found : imm_coded (funct3 w) ≡ Some o = ap imm_coded f ∙ imm-coded o in
    let row : Option Ins → Option Ins =
    λ r. option_or r (option_map (λ p. Shift p (rd w) (rs1 w) (shamt w)) (shift_coded (funct3 w) (funct7 w))) in
    ap (λ (r : Option ImmOp). row (option_map (λ p. Imm p (rd w) (rs1 w) (imm_i w)) r)) found ∙ cc

shift-from : (w : ℕ) (o : ShiftOp) (c d e : ℕ) → funct3 w ≡ funct3_of_shift o → funct7 w ≡ funct7_of_shift o → rd w ≡ c
    → rs1 w ≡ d → shamt w ≡ e → imm_row w ≡ Some (Shift o c d e)
shift-from w o c d e f g hc hd he =
    let none : imm_coded (funct3 w) ≡ None = ap imm_coded f ∙ no-imm-coded o in
    let found : shift_coded (funct3 w) (funct7 w) ≡ Some o =
    ap (λ (x : ℕ). shift_coded x (funct7 w)) f ∙ ap (shift_coded (funct3_of_shift o)) g ∙ shift-coded o in
    let shift : Option ShiftOp → Option Ins = λ r. option_map (λ p. Shift p (rd w) (rs1 w) (shamt w)) r in
    ap (λ (r : Option ImmOp).
    option_or (option_map (λ p. Imm p (rd w) (rs1 w) (imm_i w)) r) (shift (shift_coded (funct3 w) (funct7 w)))) none
    ∙ ap shift found
    ∙ cc

reg-from : (w : ℕ) (o : RegOp) (c d e : ℕ) → funct3 w ≡ funct3_of_reg o → funct7 w ≡ funct7_of_reg o → rd w ≡ c
    → rs1 w ≡ d → rs2 w ≡ e → reg_row w ≡ Some (Reg o c d e)
reg-from w o c d e f g hc hd he =
    let found : reg_coded (funct3 w) (funct7 w) ≡ Some o =
    ap (λ (x : ℕ). reg_coded x (funct7 w)) f ∙ ap (reg_coded (funct3_of_reg o)) g ∙ reg-coded o in
    ap (option_map (λ p. Reg p (rd w) (rs1 w) (rs2 w))) found ∙ cc

pub row_of-word_of : (i : Ins) → Fits i → (row_of (word_of i) ≡ Some i) × (word_of i < 2 ^ 32)
unfolding word_of row_of
row_of-word_of (Upper Lui c x) (hc, hx) =
    let f = fields-u (opcode_of_upper Lui) c x (lit< tt) hc hx in
    (row-lui _ f.0 ∙ cc, f.3)
row_of-word_of (Upper Auipc c x) (hc, hx) =
    let f = fields-u (opcode_of_upper Auipc) c x (lit< tt) hc hx in
    (row-auipc _ f.0 ∙ cc, f.3)
row_of-word_of (Jal c z) (hc, hz, hv) =
    let f = fields-j opcode_jal c z (lit< tt) hc hz hv in
    (row-jal _ f.0 ∙ cc, f.3)
row_of-word_of (Jalr c d z) (hc, hd, hz) =
    let f = fields-i opcode_jalr funct3_of_jalr c d z (lit< tt) (lit< tt) hc hd hz in
    (row-jalr _ f.0 f.1 ∙ cc, f.5)
row_of-word_of (Branch o d e z) (hd, he, hz, hv) =
    let f = fields-b opcode_branch (funct3_of_branch o) d e z (lit< tt) (branch-lt o) hd he hz hv in
    (row-branch _ f.0 ∙ branch-from _ o d e z f.1 f.2 f.3 f.4, f.5)
row_of-word_of (Load o c d z) (hc, hd, hz) =
    let f = fields-i opcode_load (funct3_of_load o) c d z (lit< tt) (load-lt o) hc hd hz in
    (row-load _ f.0 ∙ load-from _ o c d z f.1 f.2 f.3 f.4, f.5)
row_of-word_of (Store o d e z) (hd, he, hz) =
    let f = fields-s opcode_store (funct3_of_store o) d e z (lit< tt) (store-lt o) hd he hz in
    (row-store _ f.0 ∙ store-from _ o d e z f.1 f.2 f.3 f.4, f.5)
row_of-word_of (Imm o c d z) (hc, hd, hz) =
    let f = fields-i opcode_imm (funct3_of_imm o) c d z (lit< tt) (imm-lt o) hc hd hz in
    (row-imm _ f.0 ∙ imm-from _ o c d z f.1 f.2 f.3 f.4, f.5)
row_of-word_of (Shift o c d e) (hc, hd, he) =
    let l = shift-lt o in
    let f = fields-r opcode_imm (funct3_of_shift o) (funct7_of_shift o) c d e (lit< tt) l.0 l.1 hc hd he in
    (row-imm _ f.0 ∙ shift-from _ o c d e f.1 f.2 f.3 f.4 f.5, f.6)
row_of-word_of (Reg o c d e) (hc, hd, he) =
    let l = reg-lt o in
    let f = fields-r opcode_reg (funct3_of_reg o) (funct7_of_reg o) c d e (lit< tt) l.0 l.1 hc hd he in
    (row-reg _ f.0 ∙ reg-from _ o c d e f.1 f.2 f.3 f.4 f.5, f.6)
row_of-word_of Ecall h = (refl, lit< tt)

-- ---- the instruction that a word is has that word

-- what holds of the instruction that a row gives
if_some : (b : Bool) (x y : Option Ins) (P : Ins → Type 0) → (b ≡ true → IfSome x P) → (b ≡ false → IfSome y P)
    → IfSome (if b then x else y) P
if_some true x y P f g = f refl
if_some false x y P f g = g refl

map_some : {A : Type 0} (f : A → Ins) (o : Option A) (P : Ins → Type 0) → ((a : A) → o ≡ Some a → P (f a))
    → IfSome (option_map f o) P
map_some f None P h = tt
map_some f (Some a) P h = h a refl

or_some : (x y : Option Ins) (P : Ins → Type 0) → IfSome x P → IfSome y P → IfSome (option_or x y) P
or_some None y P f g = g
or_some (Some i) y P f g = f

-- what a search finds passes its test
found_in : {A : Type 0} (p : A → Bool) (xs : List A) (a : A) → find p xs ≡ Some a → p a ≡ true
found_in p [] a e = cc
found_in p (x ∷ xs) a e =
    let P : Bool → Type 0 = λ b. (p x ≡ b) → cond b (Some x) (find p xs) ≡ Some a → p a ≡ true in
    (elim (p x) as P [ true ↦ (λ t h. cc) | false ↦ (λ t h. found_in p xs a h) ]) refl e

IsRow : ℕ → Ins → Type 0
IsRow w i = Fits i × (w ≡ word_of i)

branch-is : (w : ℕ) → w < 2 ^ 32 → opcode w ≡ opcode_branch → IfSome (branch_row w) (IsRow w)
unfolding word_of IsRow
branch-is w h o =
    let m = made-b w h in
    map_some _ (branch_coded (funct3 w)) (IsRow w) (λ a e.
    let f = eqb-true _ _ (found_in (λ p. funct3_of_branch p == funct3 w) branches a e) in
    ((m.1, m.2, m.3, m.4), m.0 ∙ cc))

load-is : (w : ℕ) → w < 2 ^ 32 → opcode w ≡ opcode_load → IfSome (load_row w) (IsRow w)
unfolding word_of IsRow
load-is w h o =
    let m = made-i w h in
    map_some _ (load_coded (funct3 w)) (IsRow w) (λ a e.
    let f = eqb-true _ _ (found_in (λ p. funct3_of_load p == funct3 w) loads a e) in
    ((m.1, m.2, m.3), m.0 ∙ cc))

store-is : (w : ℕ) → w < 2 ^ 32 → opcode w ≡ opcode_store → IfSome (store_row w) (IsRow w)
unfolding word_of IsRow
store-is w h o =
    let m = made-s w h in
    map_some _ (store_coded (funct3 w)) (IsRow w) (λ a e.
    let f = eqb-true _ _ (found_in (λ p. funct3_of_store p == funct3 w) stores a e) in
    ((m.1, m.2, m.3), m.0 ∙ cc))

-- both of two tests of codes
both_codes : (a b c d : ℕ) → ((a == b) && (c == d)) ≡ true → (a ≡ b) × (c ≡ d)
both_codes a b c d h = grind (arith, nat_tests)

imm-is : (w : ℕ) → w < 2 ^ 32 → opcode w ≡ opcode_imm → IfSome (imm_row w) (IsRow w)
unfolding word_of IsRow
imm-is w h o =
    let m = made-i w h in
    let n = made-r w h in
    or_some _ _ (IsRow w)
    (map_some _ (imm_coded (funct3 w)) (IsRow w) (λ a e.
    let f = eqb-true _ _ (found_in (λ p. funct3_of_imm p == funct3 w) imms a e) in
    ((m.1, m.2, m.3), m.0 ∙ cc)))
    (map_some _ (shift_coded (funct3 w) (funct7 w)) (IsRow w) (λ a e.
    let f = both_codes (funct3_of_shift a) (funct3 w) (funct7_of_shift a) (funct7 w)
    (found_in (λ p. (funct3_of_shift p == funct3 w) && (funct7_of_shift p == funct7 w)) shifts a e) in
    ((n.1, n.2, n.3), n.0 ∙ cc)))

reg-is : (w : ℕ) → w < 2 ^ 32 → opcode w ≡ opcode_reg → IfSome (reg_row w) (IsRow w)
unfolding word_of IsRow
reg-is w h o =
    let n = made-r w h in
    map_some _ (reg_coded (funct3 w) (funct7 w)) (IsRow w) (λ a e.
    let f = both_codes (funct3_of_reg a) (funct3 w) (funct7_of_reg a) (funct7 w)
    (found_in (λ p. (funct3_of_reg p == funct3 w) && (funct7_of_reg p == funct7 w)) regs a e) in
    ((n.1, n.2, n.3), n.0 ∙ cc))

upper-is : (w : ℕ) (o : UpperOp) → w < 2 ^ 32 → opcode w ≡ opcode_of_upper o → IsRow w (Upper o (rd w) (imm_u w))
unfolding word_of IsRow
upper-is w o h e = let m = made-u w h in ((m.1, m.2), m.0 ∙ cc)

jal-is : (w : ℕ) → w < 2 ^ 32 → opcode w ≡ opcode_jal → IsRow w (Jal (rd w) (imm_j w))
unfolding word_of IsRow
jal-is w h e = let m = made-j w h in ((m.1, m.2, m.3), m.0 ∙ cc)

jalr-is : (w : ℕ) → w < 2 ^ 32 → opcode w ≡ opcode_jalr → funct3 w ≡ funct3_of_jalr
    → IsRow w (Jalr (rd w) (rs1 w) (imm_i w))
unfolding word_of IsRow
jalr-is w h e f = let m = made-i w h in ((m.1, m.2, m.3), m.0 ∙ cc)

ecall-is : (w : ℕ) → w ≡ word_of_ecall → IsRow w Ecall
unfolding word_of IsRow
ecall-is w e = (tt, e)

row-is : (w : ℕ) → w < 2 ^ 32 → IfSome (row_of w) (IsRow w)
unfolding row_of
row-is w h =
    let op : (c : ℕ) → (opcode w == c) ≡ true → opcode w ≡ c = λ c e. eqb-true _ _ e in
    if_some _ _ _ (IsRow w) (λ e. upper-is w Lui h (op _ e)) (λ _.
    if_some _ _ _ (IsRow w) (λ e. upper-is w Auipc h (op _ e)) (λ _.
    if_some _ _ _ (IsRow w) (λ e. jal-is w h (op _ e)) (λ _.
    if_some _ _ _ (IsRow w) (λ e.
    if_some _ _ _ (IsRow w) (λ f. jalr-is w h (op _ e) (eqb-true _ _ f)) (λ _. tt)) (λ _.
    if_some _ _ _ (IsRow w) (λ e. branch-is w h (op _ e)) (λ _.
    if_some _ _ _ (IsRow w) (λ e. load-is w h (op _ e)) (λ _.
    if_some _ _ _ (IsRow w) (λ e. store-is w h (op _ e)) (λ _.
    if_some _ _ _ (IsRow w) (λ e. imm-is w h (op _ e)) (λ _.
    if_some _ _ _ (IsRow w) (λ e. reg-is w h (op _ e)) (λ _.
    if_some _ _ _ (IsRow w) (λ e. ecall-is w (eqb-true _ _ e)) (λ _. tt))))))))))

pub word_of-row_of : (w : ℕ) (i : Ins) → w < 2 ^ 32 → row_of w ≡ Some i → Fits i × (w ≡ word_of i)
unfolding IsRow
word_of-row_of w i h e = let P : Option Ins → Type 0 = λ r. IfSome r (IsRow w) in subst P e (row-is w h)
