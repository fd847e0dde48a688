-- Which flat programs are well formed, and which are in register form.
use Rattle.std.specs.Prelude.{ℕ, suc, ◌%◌, Bool, true, false, not, ◌&&◌, List, []}
use Rattle.std.specs.Prelude.{◌∷◌, length, Option, Some, None, IsTrue, nat_lt}
use Rattle.std.specs.Prelude.{nat_le, ◌==◌, ℤ, pos, negsuc, int_le, slice_get}
use Rattle.std.specs.List.{list_all, list_any}
use Rattle.std.specs.Str.{bytes_eq}
use Rattle.br_words.specs.declared.operation.BinOp.{BinOp}
use Rattle.br_words.specs.declared.operation.BinOp.TheVariants.{Add, Sub, Mul, Mulhuu, Divu}
use Rattle.br_words.specs.declared.operation.BinOp.TheVariants.{Remu, And, Or, Xor, Sru}
use Rattle.br_words.specs.declared.operation.BinOp.TheVariants.{Slu, Srs, Lts, Ltu, Eq}
use Rattle.br_flatimp.specs.declared.program.Operand.{Operand}
use Rattle.br_flatimp.specs.declared.program.Operand.TheVariants as operand
use Rattle.br_flatimp.specs.declared.program.Stmt.{Stmt}
use Rattle.br_flatimp.specs.declared.program.Stmt.TheOpen.{Stmt-F}
use Rattle.br_flatimp.specs.declared.program.FlatFunc.{FlatFunc}
use Rattle.br_flatimp.specs.Parts.{written, read, throughout}

-- a signed number from the first to the second
abbrev pub is_between : ℤ → ℤ → ℤ → Bool
is_between low high z = int_le low z && int_le z high

-- what the twelve bits of an immediate say (RISC-V unprivileged manual, chapter 2.2)
abbrev pub is_immediate : ℤ → Bool
is_immediate = is_between (negsuc 2047) (pos 2047)

-- Whether an operation may have a constant as its second operand. A difference is the sum with the
-- opposite number; a shift is by fewer than 32 bits.
abbrev pub fits_operation : BinOp → ℤ → Bool
fits_operation Add c = is_immediate c
fits_operation And c = is_immediate c
fits_operation Or c = is_immediate c
fits_operation Xor c = is_immediate c
fits_operation Lts c = is_immediate c
fits_operation Ltu c = is_immediate c
fits_operation Eq c = is_immediate c
fits_operation Sub c = is_between (negsuc 2046) (pos 2048) c
fits_operation Sru c = is_between (pos 0) (pos 31) c
fits_operation Slu c = is_between (pos 0) (pos 31) c
fits_operation Srs c = is_between (pos 0) (pos 31) c
fits_operation Mul c = false
fits_operation Mulhuu c = false
fits_operation Divu c = false
fits_operation Remu c = false

abbrev pub operand_fits : BinOp → Operand → Bool
operand_fits op (operand.Name y) = true
operand_fits op (operand.Const c) = fits_operation op c

-- no name stands in a list twice
abbrev pub all_differ : List ℕ → Bool
all_differ [] = true
all_differ (x ∷ xs) = not (list_any (λ y. y == x) xs) && all_differ xs

-- a call with as many results and arguments as the function has that is called
abbrev pub counts_fit : Option FlatFunc → ℕ → ℕ → Bool
counts_fit (Some f) results args = (results == length f.results) && (args == length f.args)
counts_fit None results args = false

-- what a statement holds beside names and parts is in range
abbrev pub values_fit : {X : Type 0} → List FlatFunc → Stmt-F X → Bool
values_fit fs (Stmt-F.Op x op y z) = operand_fits op z
values_fit fs (Stmt-F.Load x size y offset) = is_immediate offset
values_fit fs (Stmt-F.Store size y z offset) = is_immediate offset
values_fit fs (Stmt-F.Stackalloc x n body) = n % 4 == 0
values_fit fs (Stmt-F.Call xs g ys) =
    counts_fit (slice_get fs g) (length xs) (length ys) && all_differ xs
values_fit fs (Stmt-F.Lit x n) = true
values_fit fs (Stmt-F.Copy x y) = true
values_fit fs (Stmt-F.Table x size bytes y) = true
values_fit fs (Stmt-F.If test first second) = true
values_fit fs (Stmt-F.Loop first test last) = true
values_fit fs (Stmt-F.Read x y) = true
values_fit fs (Stmt-F.Write y z) = true

abbrev pub are_below : ℕ → List ℕ → Bool
are_below names = list_all (λ x. nat_lt x names)

-- a statement of a function with so many names, its parts aside
abbrev pub fits : {X : Type 0} → List FlatFunc → ℕ → Stmt-F X → Bool
fits fs names y = are_below names (written y) && are_below names (read y) && values_fit fs y

abbrev pub is_well_formed_statement : List FlatFunc → ℕ → Stmt → Bool
is_well_formed_statement fs names = throughout (fits fs names)

-- at most eight names below a count, and none of them twice
abbrev pub is_list_of_names : ℕ → List ℕ → Bool
is_list_of_names names xs = nat_le (length xs) 8 && are_below names xs && all_differ xs

-- at most so many names, of which at most eight are arguments and at most eight results
abbrev pub is_well_formed_head : FlatFunc → Bool
is_well_formed_head f =
    nat_le f.names 1048576 && is_list_of_names f.names f.args && is_list_of_names f.names f.results

abbrev pub is_well_formed_function : List FlatFunc → FlatFunc → Bool
is_well_formed_function fs f =
    is_well_formed_head f && list_all (is_well_formed_statement fs f.names) f.body

-- no two functions have one name
abbrev pub names_differ : List FlatFunc → Bool
names_differ [] = true
names_differ (f ∷ fs) = not (list_any (λ g. bytes_eq g.name f.name) fs) && names_differ fs

abbrev pub is_well_formed : List FlatFunc → Bool
is_well_formed fs = names_differ fs && list_all (is_well_formed_function fs) fs

abbrev pub IsWellFormed : List FlatFunc → Type 0
IsWellFormed fs = IsTrue (is_well_formed fs)

-- ---- register form

-- the names from `a` on, in order
abbrev pub is_in_order : ℕ → List ℕ → Bool
is_in_order a [] = true
is_in_order a (x ∷ xs) = (x == a) && is_in_order (suc a) xs

-- where words are passed: in 10 and the names after it, in order
abbrev pub is_passing : List ℕ → Bool
is_passing = is_in_order 10

abbrev pub are_registers : List ℕ → Bool
are_registers = list_all (λ x. nat_le 3 x && nat_le x 31)

abbrev pub passes_in_order : {X : Type 0} → Stmt-F X → Bool
passes_in_order (Stmt-F.Call xs g ys) = is_passing xs && is_passing ys
passes_in_order (Stmt-F.Lit x n) = true
passes_in_order (Stmt-F.Copy x y) = true
passes_in_order (Stmt-F.Op x op y z) = true
passes_in_order (Stmt-F.Load x size y offset) = true
passes_in_order (Stmt-F.Store size y z offset) = true
passes_in_order (Stmt-F.Table x size bytes y) = true
passes_in_order (Stmt-F.Stackalloc x n body) = true
passes_in_order (Stmt-F.If test first second) = true
passes_in_order (Stmt-F.Loop first test last) = true
passes_in_order (Stmt-F.Read x y) = true
passes_in_order (Stmt-F.Write y z) = true

-- a statement's names are registers, and words are passed in order
abbrev pub uses_registers : {X : Type 0} → Stmt-F X → Bool
uses_registers y = are_registers (written y) && are_registers (read y) && passes_in_order y

abbrev pub is_register_function : FlatFunc → Bool
is_register_function f =
    is_passing f.args && is_passing f.results && list_all (throughout uses_registers) f.body

-- well formed, each name from 3 to 31, and arguments and results 10, 11 and so on in order
abbrev pub IsRegisterForm : List FlatFunc → Type 0
IsRegisterForm fs = IsWellFormed fs × IsTrue (list_all is_register_function fs)
