-- Two writes, one after the other, are one write, and so with reads.
use Rattle.std.proofs.Common.{◌≡◌, ℕ, ◌+◌, ◌-◌, List, ◌++◌, None, Some, Option, append_assoc}
use Rattle.std.proofs.Common.{sym, ◌∙◌, ap, length, take, drop, arith, length-drop}
use Rattle.std.proofs.lemmas.List.{take_all}
use Rattle.std.proofs.Math.Seq.{take-add}
use Rattle.std.specs.Io.KnownBytes.{Appends, Consumes}

pub Appends-append : (a b c : Option (List ℕ)) (xs ys : List ℕ) → Appends a b xs → Appends b c ys
    → Appends a c (xs ++ ys)
Appends-append None b c xs ys f g = tt
Appends-append (Some a) None c xs ys f g = absurd f
Appends-append (Some a) (Some b) None xs ys f g = absurd g
Appends-append (Some a) (Some b) (Some c) xs ys f g = g ∙ ap (λ v. v ++ ys) f ∙ append_assoc a xs ys

pub Consumes-append : (a b c : Option (List ℕ)) (xs ys : List ℕ) → Consumes a b xs → Consumes b c ys
    → Consumes a c (xs ++ ys)
Consumes-append None b c xs ys f g = tt
Consumes-append (Some a) None c xs ys f g = absurd f
Consumes-append (Some a) (Some b) None xs ys f g = absurd g
Consumes-append (Some a) (Some b) (Some c) xs ys f g = f ∙ ap (λ v. xs ++ v) g ∙ sym (append_assoc xs ys c)

-- the first i, and then the first n of `&xs[i..]`
pub take-append-rest : (xs : List ℕ) (i n : ℕ)
    → take i xs ++ take n (take (length xs - i) (drop i xs)) ≡ take (i + n) xs
take-append-rest xs i n =
    let all : take (length xs - i) (drop i xs) ≡ drop i xs = take_all _ _ (omega (arith, length-drop i xs)) in
    rw all (sym (take-add i n xs))
