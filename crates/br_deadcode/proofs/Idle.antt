-- Which statements are idle, by their kind.
use Rattle.std.proofs.Common.{◌≡◌, ℕ, ℤ, Bool, false, not, ◌||◌, List, refl, sym, ap, ◌∙◌}
use Rattle.std.proofs.Math.Bool.{or-false}
use Rattle.br_words.specs.declared.operation.BinOp.{BinOp}
use Rattle.br_words.specs.declared.size.Size.{Size}
use Rattle.br_flatimp.specs.declared.program.Cond.{Cond}
use Rattle.br_flatimp.specs.declared.program.Operand.{Operand}
use Rattle.br_flatimp.specs.declared.program.Stmt.{Stmt, map-Stmt}
use Rattle.br_flatimp.specs.declared.program.Stmt.TheOpen.{Stmt-F}
use Rattle.br_flatimp.specs.declared.program.Stmt.TheViews.{roll-Stmt}
use Rattle.br_flatimp.specs.declared.program.Stmt.TheVariants.{Lit, Copy, Op, Load, Store, Table, Stackalloc}
use Rattle.br_flatimp.specs.declared.program.Stmt.TheVariants.{If, Loop, Call, Read, Write, rolls-Lit}
use Rattle.br_flatimp.specs.declared.program.Stmt.TheVariants.{rolls-Copy, rolls-Op, rolls-Load, rolls-Store}
use Rattle.br_flatimp.specs.declared.program.Stmt.TheVariants.{rolls-Table, rolls-Stackalloc, rolls-If}
use Rattle.br_flatimp.specs.declared.program.Stmt.TheVariants.{rolls-Loop, rolls-Call, rolls-Read, rolls-Write}
use Rattle.br_flatimp.specs.declared.program.Stmt.TheFolds.{fold-roll-Stmt}
use Rattle.br_flatimp.specs.Values.{Names}
use Rattle.br_deadcode.specs.Sweeps.{is_idle, idle}

-- it does not look at parts
pub idle-map : {X Y : Type 0} (f : X → Y) (y : Stmt-F X) (a : Names) → is_idle (map-Stmt X Y f y) a ≡ is_idle y a
idle-map f (Stmt-F.Lit x n) a = refl
idle-map f (Stmt-F.Copy x y) a = refl
idle-map f (Stmt-F.Op x op y z) a = refl
idle-map f (Stmt-F.Load x size y offset) a = refl
idle-map f (Stmt-F.Store size y z offset) a = refl
idle-map f (Stmt-F.Table x size bytes y) a = refl
idle-map f (Stmt-F.Stackalloc x n body) a = refl
idle-map f (Stmt-F.If test first second) a = refl
idle-map f (Stmt-F.Loop first test last) a = refl
idle-map f (Stmt-F.Call xs g ys) a = refl
idle-map f (Stmt-F.Read x y) a = refl
idle-map f (Stmt-F.Write y z) a = refl

pub idle-roll : (x : Stmt-F Stmt) (a : Names) → idle (roll-Stmt x) a ≡ is_idle x a
idle-roll x a = ap (λ (f : Names → Bool). f a) (fold-roll-Stmt (Names → Bool) is_idle x) ∙ idle-map idle x a

of : (x : Stmt-F Stmt) (s : Stmt) (a : Names) → roll-Stmt x ≡ s → idle s a ≡ is_idle x a
of x s a is = ap (λ c. idle c a) (sym is) ∙ idle-roll x a

one : (b : Bool) → not (b || false) ≡ not b
one b = ap not (or-false b)

pub idle-lit : (x n : ℕ) (a : Names) → idle (Lit x n) a ≡ not (a x)
idle-lit x n a = of (Stmt-F.Lit x n) (Lit x n) a (rolls-Lit x n) ∙ one (a x)

pub idle-copy : (x y : ℕ) (a : Names) → idle (Copy x y) a ≡ not (a x)
idle-copy x y a = of (Stmt-F.Copy x y) (Copy x y) a (rolls-Copy x y) ∙ one (a x)

pub idle-op : (x : ℕ) (op : BinOp) (y : ℕ) (z : Operand) (a : Names) → idle (Op x op y z) a ≡ not (a x)
idle-op x op y z a = of (Stmt-F.Op x op y z) (Op x op y z) a (rolls-Op x op y z) ∙ one (a x)

pub idle-load : (x : ℕ) (size : Size) (y : ℕ) (offset : ℤ) (a : Names) → idle (Load x size y offset) a ≡ not (a x)
idle-load x size y offset a =
    of (Stmt-F.Load x size y offset) (Load x size y offset) a (rolls-Load x size y offset) ∙ one (a x)

pub idle-table : (x : ℕ) (size : Size) (bytes : List ℕ) (y : ℕ) (a : Names)
    → idle (Table x size bytes y) a ≡ not (a x)
idle-table x size bytes y a =
    of (Stmt-F.Table x size bytes y) (Table x size bytes y) a (rolls-Table x size bytes y) ∙ one (a x)

pub idle-store : (size : Size) (y z : ℕ) (offset : ℤ) (a : Names) → idle (Store size y z offset) a ≡ false
idle-store size y z offset a =
    of (Stmt-F.Store size y z offset) (Store size y z offset) a (rolls-Store size y z offset)

pub idle-stackalloc : (x n : ℕ) (body : List Stmt) (a : Names) → idle (Stackalloc x n body) a ≡ false
idle-stackalloc x n body a = of (Stmt-F.Stackalloc x n body) (Stackalloc x n body) a (rolls-Stackalloc x n body)

pub idle-if : (test : Cond) (first second : List Stmt) (a : Names) → idle (If test first second) a ≡ false
idle-if test first second a = of (Stmt-F.If test first second) (If test first second) a (rolls-If test first second)

pub idle-loop : (first : List Stmt) (test : Cond) (last : List Stmt) (a : Names)
    → idle (Loop first test last) a ≡ false
idle-loop first test last a = of (Stmt-F.Loop first test last) (Loop first test last) a (rolls-Loop first test last)

pub idle-call : (xs : List ℕ) (g : ℕ) (ys : List ℕ) (a : Names) → idle (Call xs g ys) a ≡ false
idle-call xs g ys a = of (Stmt-F.Call xs g ys) (Call xs g ys) a (rolls-Call xs g ys)

pub idle-read : (x y : ℕ) (a : Names) → idle (Read x y) a ≡ false
idle-read x y a = of (Stmt-F.Read x y) (Read x y) a (rolls-Read x y)

pub idle-write : (y z : ℕ) (a : Names) → idle (Write y z) a ≡ false
idle-write y z a = of (Stmt-F.Write y z) (Write y z) a (rolls-Write y z)

pub ruleset idles = (
  idle-lit,
  idle-copy,
  idle-op,
  idle-load,
  idle-table,
  idle-store,
  idle-stackalloc,
  idle-if,
  idle-loop,
  idle-call,
  idle-read,
  idle-write,
)
