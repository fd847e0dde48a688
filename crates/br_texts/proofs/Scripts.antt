-- What holds of scripts that were read.
use Rattle.std.proofs.Common.{◌≡◌, ℕ, suc, ◌+◌, ◌<◌, ◌≤◌, List, [], ◌∷◌, length, arith, subst}
use Rattle.std.specs.Prelude.{All}
use Rattle.std.specs.List.{AllByRecursion, flat_map}
use Rattle.br_bytes.specs.declared.run.Choice.{Choice}
use Rattle.br_words.specs.Layout.{data_base}
use Rattle.br_image.specs.declared.scripts.lines.ScriptLine.{ScriptLine}
use Rattle.br_image.specs.declared.scripts.lines.ScriptLine.TheVariants.{Run, Interp, Call, Args, Mem}
use Rattle.br_image.specs.declared.scripts.lines.ScriptLine.TheVariants.{Junk, Choose, Answer, Limit, End}
use Rattle.br_image.specs.declared.scripts.values.RunScript.{RunScript}
use Rattle.br_image.specs.declared.scripts.values.InterpScript.{InterpScript}
use Rattle.br_image.specs.ScriptLines.{IsScriptLine, IsRange}
use Rattle.br_image.specs.Scripts.{args_in, mem_in, Ascends, IsRunScript, IsInterpScript}
use Rattle.br_texts.specs.Memory.{AreRanges}
use Rattle.br_texts.specs.RunText.{IsRunnable}

head : {X : Type 0} (P : X → Type 0) (x : X) (xs : List X) → All P (x ∷ xs) → P x
head P x xs all = all 0 x (omega arith)

tail : {X : Type 0} (P : X → Type 0) (x : X) (xs : List X) → All P (x ∷ xs) → All P xs
tail P x xs all = λ k d below. all (suc k) d (omega arith)

by_recursion : {X : Type 0} (P : X → Type 0) (xs : List X) → All P xs → AllByRecursion P xs
by_recursion P [] all = tt
by_recursion P (x ∷ xs) all = (head P x xs all, by_recursion P xs (tail P x xs all))

args-few : (lines : List ScriptLine) (words : List ℕ) → AllByRecursion IsScriptLine lines
    → flat_map args_in lines ≡ words ∷ [] → length words ≤ 8
args-few [] words all is = absurd (cc)
args-few (Run ∷ lines) words all is = args-few lines words all.1 is
args-few (Interp ∷ lines) words all is = args-few lines words all.1 is
args-few (Call name ∷ lines) words all is = args-few lines words all.1 is
args-few (Args own ∷ lines) words all is =
    let same : own ≡ words = cc in
    subst (λ (ws : List ℕ). length ws ≤ 8) same all.0.0
args-few (Mem range ∷ lines) words all is = args-few lines words all.1 is
args-few (Junk word ∷ lines) words all is = args-few lines words all.1 is
args-few (Choose buffer ∷ lines) words all is = args-few lines words all.1 is
args-few (Answer word times ∷ lines) words all is = args-few lines words all.1 is
args-few (Limit n ∷ lines) words all is = args-few lines words all.1 is
args-few (End ∷ lines) words all is = args-few lines words all.1 is

mem-ranges : (lines : List ScriptLine) → AllByRecursion IsScriptLine lines
    → AllByRecursion IsRange (flat_map mem_in lines)
mem-ranges [] all = tt
mem-ranges (Run ∷ lines) all = mem-ranges lines all.1
mem-ranges (Interp ∷ lines) all = mem-ranges lines all.1
mem-ranges (Call name ∷ lines) all = mem-ranges lines all.1
mem-ranges (Args own ∷ lines) all = mem-ranges lines all.1
mem-ranges (Mem range ∷ lines) all = (all.0, mem-ranges lines all.1)
mem-ranges (Junk word ∷ lines) all = mem-ranges lines all.1
mem-ranges (Choose buffer ∷ lines) all = mem-ranges lines all.1
mem-ranges (Answer word times ∷ lines) all = mem-ranges lines all.1
mem-ranges (Limit n ∷ lines) all = mem-ranges lines all.1
mem-ranges (End ∷ lines) all = mem-ranges lines all.1

ranges-after : (ranges : List Choice) (from : ℕ) → Ascends from ranges → AllByRecursion IsRange ranges
    → AreRanges from ranges
ranges-after [] from ascends all = tt
ranges-after (c ∷ ranges) from ascends all = (
  ascends.0,
  all.0.high,
  by_recursion (λ b. b < 256) c.bytes all.0.buffer.bytes,
  ranges-after ranges (c.addr + length c.bytes) ascends.1 all.1,
)

ranges-first : (ranges : List Choice) → Ascends 0 ranges → AllByRecursion IsRange ranges → AreRanges data_base ranges
ranges-first [] ascends all = tt
ranges-first (c ∷ ranges) ascends all = (
  all.0.low,
  all.0.high,
  by_recursion (λ b. b < 256) c.bytes all.0.buffer.bytes,
  ranges-after ranges (c.addr + length c.bytes) ascends.1 all.1,
)

-- a run script that was read can be run
pub runnable : (text : List ℕ) (s : RunScript) (at : ℕ) → IsRunScript text s at → IsRunnable s
runnable text s at is =
    let forms = by_recursion IsScriptLine is.lines is.script.limits.forms in
    record {
      args = args-few is.lines s.args forms is.says.args;
      mem =
          subst (AreRanges data_base) is.says.mem
          (ranges-first (flat_map mem_in is.lines) is.script.limits.ranges (mem-ranges is.lines forms));
    }

-- the ranges of an interp script that was read
pub interp-ranges : (text : List ℕ) (s : InterpScript) (at : ℕ) → IsInterpScript text s at → AreRanges data_base s.mem
interp-ranges text s at is =
    subst (AreRanges data_base) is.says.mem
    (ranges-first (flat_map mem_in is.lines) is.script.limits.ranges
    (mem-ranges is.lines (by_recursion IsScriptLine is.lines is.script.limits.forms)))
