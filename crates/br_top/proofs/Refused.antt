-- What is read to the end of known bytes.
use Rattle.std.proofs.Common.{◌≡◌, ◌≤◌, ◌<◌, ℕ, List, [], ◌++◌, Option, None, Some, length}
use Rattle.std.proofs.Common.{subst, refl, ap, sym, ◌∙◌, arith, inl, inr, length-append}
use Rattle.std.proofs.lemmas.List.{append-nil}
use Rattle.std.specs.Prelude.{IsTrue}
use Rattle.std.specs.Io.KnownBytes.{Consumes, IsAtEnd}
use Rattle.br_top.specs.declared.command.Command.{Command}
use Rattle.br_top.specs.declared.command.Command.TheVariants.{Compile, Print, List as Listing}
use Rattle.br_top.specs.declared.command.Command.TheVariants.{Run, Interp, Firmware, Judge}
use Rattle.br_top.specs.declared.trouble.Reason.{Reason}
use Rattle.br_top.specs.declared.trouble.Reason.TheVariants.{TooLong}
use Rattle.br_top.specs.Commands.{Refuses, limit_of, reads_input}
use Rattle.br_top.specs.Answers.{ReadsAll, ReadsRefused, IsUnrefused}

-- what is read to the end of known bytes is those bytes
all_read : (known after : Option (List ℕ)) (bytes all : List ℕ) → known ≡ Some all → Consumes known after bytes
    → IsAtEnd after → bytes ≡ all
all_read None after bytes all is taken end = cc
all_read (Some xs) None bytes all is taken end = absurd taken
all_read (Some xs) (Some rest) bytes all is taken end =
    let whole : xs ≡ bytes ++ [] = subst (λ (r : List ℕ). xs ≡ bytes ++ r) end taken in
    let same : xs ≡ bytes = whole ∙ append-nil bytes in
    cc

-- a command that refuses something reads its input
reads : (command : Command) (bytes : List ℕ) (reason : Reason) → Refuses command bytes reason
    → IsTrue (reads_input command)
reads Compile bytes reason refused = refl
reads Print bytes reason refused = refl
reads Listing bytes reason refused = refl
reads Run bytes reason refused = refl
reads Interp bytes reason refused = refl
reads Firmware bytes reason refused = absurd refused
reads Judge bytes reason refused = refl

-- a command that reads its input refuses what is longer than its limit
too_long : (command : Command) (bytes : List ℕ) → IsTrue (reads_input command) → limit_of command < length bytes
    → Refuses command bytes TooLong
too_long Compile bytes reads long = long
too_long Print bytes reads long = long
too_long Listing bytes reads long = long
too_long Run bytes reads long = long
too_long Interp bytes reads long = long
too_long Firmware bytes reads long = absurd (let no = reads in cc)
too_long Judge bytes reads long = long

-- what is refused is not read as unrefused
pub refused-reads : (command : Command) (known after : Option (List ℕ)) (bytes all : List ℕ) (reason : Reason) →
    known ≡ Some all → ReadsAll command known after bytes → Refuses command all reason → IsUnrefused command bytes → ⊥
refused-reads command known after bytes all reason is read refused unrefused =
    let same = all_read known after bytes all is read.taken (read.end (reads command all reason refused)) in
    unrefused reason (subst (λ (xs : List ℕ). Refuses command xs reason) (sym same) refused)

-- no more is read of known bytes than there are
taken_fits : (known after : Option (List ℕ)) (bytes all : List ℕ) → known ≡ Some all → Consumes known after bytes
    → length bytes ≤ length all
taken_fits None after bytes all is taken = absurd (let no = is in cc)
taken_fits (Some xs) None bytes all is taken = absurd taken
taken_fits (Some xs) (Some rest) bytes all is taken =
    let same : all ≡ bytes ++ rest = cc in
    omega (arith, ap length same, length-append bytes rest)

-- what nothing refuses is not read as refused
pub unrefused-reads : (command : Command) (known after : Option (List ℕ)) (bytes : List ℕ) (reason : Reason) →
    known ≡ Some bytes → IsUnrefused command bytes → ReadsRefused command known after reason → ⊥
unrefused-reads command known after bytes reason is unrefused (inl long) =
    let taken = long.2 in
    let fits = taken_fits known after taken.0 bytes is taken.2 in
    unrefused TooLong (too_long command bytes long.1 (omega (arith, fits, taken.1)))
unrefused-reads command known after bytes reason is unrefused (inr read) =
    let same = all_read known after read.0 bytes is read.1.taken (read.1.end (reads command read.0 reason read.2)) in
    unrefused reason (subst (λ (xs : List ℕ). Refuses command xs reason) same read.2)
