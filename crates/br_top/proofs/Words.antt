-- The words of commands.
use Rattle.std.proofs.Common.{◌≡◌, ◌≤◌, ◌<◌, List, [], ◌∷◌, length, get_or}
use Rattle.std.proofs.Common.{refl, sym, ◌∙◌, ap, arith, Option, Some, None}
use Rattle.std.specs.Prelude.{ℕ, map, String, Bool, true, false, ◌&&◌, if◌then◌else◌}
use Rattle.std.specs.Str.{bytes_eq}
use Rattle.std.specs.declared.alloc.Global.{Global}
use Rattle.br_top.specs.declared.command.Command.{Command}
use Rattle.br_top.specs.declared.command.Command.TheVariants.{Compile, Print, List as Listing}
use Rattle.br_top.specs.declared.command.Command.TheVariants.{Run, Interp, Firmware, Judge}
use Rattle.br_top.specs.Commands.{words_of, AreWordsOf}

-- the image of a list of one element
pub map-one : {X Y : Type 0} → (f : X → Y) (xs : List X) (x : X) (y : Y) → 1 ≤ length xs → length xs < 2
    → x ≡ get_or xs 0 x → f x ≡ y → map f xs ≡ y ∷ []
map-one f [] x y low high at e = absurd (omega arith)
map-one f (w ∷ []) x y low high at e = cc
map-one f (w ∷ v ∷ ws) x y low high at e = absurd (omega arith)

-- each text is the other's
same_texts : List (List ℕ) → List (List ℕ) → Bool
same_texts [] [] = true
same_texts (x ∷ xs) (y ∷ ys) = bytes_eq x y && same_texts xs ys
same_texts [] (y ∷ ys) = false
same_texts (x ∷ xs) [] = false

-- the first of these commands with these words
first_of : List Command → List (List ℕ) → Option Command
first_of [] words = None
first_of (c ∷ cs) words = if same_texts (words_of c) words then Some c else first_of cs words

-- the command with these words
named : List (List ℕ) → Option Command
named words = first_of (Compile ∷ Print ∷ Listing ∷ Run ∷ Interp ∷ Firmware ∷ Judge ∷ []) words

-- each command is found by its words
found : (c : Command) → named (words_of c) ≡ Some c
unfolding same_texts first_of named
found Compile = refl
found Print = refl
found Listing = refl
found Run = refl
found Interp = refl
found Firmware = refl
found Judge = refl

-- words are those of one command
pub one_command : (words : List (String Global)) (c d : Command) → AreWordsOf words c → AreWordsOf words d → c ≡ d
one_command words c d first second =
    let same : named (words_of c) ≡ named (words_of d) = ap named (sym first ∙ second) in
    let one = found c in
    let other = found d in
    cc
