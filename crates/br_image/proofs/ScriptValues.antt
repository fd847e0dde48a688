-- What the lines of a script say.
use Rattle.std.proofs.Common.{◌≡◌, ◌≢◌, ◌⊎◌, inl, inr, ℕ, ◌+◌, ◌≤◌, List, [], ◌∷◌, ◌++◌, refl, ap, sym}
use Rattle.std.proofs.Common.{◌∙◌, arith, append-nil, length-append, subst, length, Option, Some, None}
use Rattle.std.specs.Prelude.{All, replicate, IsSome, is_some}
use Rattle.std.specs.List.{flat_map}
use Rattle.std.proofs.lemmas.Bool.{cases_lt}
use Rattle.std.proofs.lemmas.Grind.{flat_map-append}
use Rattle.std.proofs.lemmas.List.{length-replicate}
use Rattle.std.proofs.lemmas.List.Elements.{All-cons, All-nil, All-head, All-tail, All-push}
use Rattle.br_bytes.specs.declared.run.Choice.{Choice}
use Rattle.br_image.specs.declared.scripts.lines.Form.TheVariants as form
use Rattle.br_image.specs.declared.scripts.lines.ScriptLine.{ScriptLine}
use Rattle.br_image.specs.declared.scripts.lines.ScriptLine.TheVariants.{Call, Args, Mem, Junk, Answer, Limit}
use Rattle.br_image.specs.declared.scripts.said.Said.{Said}
use Rattle.br_image.specs.declared.scripts.values.RunScript.{RunScript}
use Rattle.br_image.specs.declared.scripts.values.InterpScript.{InterpScript}
use Rattle.br_image.specs.ScriptLines.{form_of, IsScriptLine, most_answers}
use Rattle.br_image.specs.Scripts.{run_parts, interp_parts, Fits, SaysRun, SaysInterp, InScriptLimits, Ascends}
use Rattle.br_image.specs.Scripts.{call_in, args_in, mem_in, junk_in, choice_in, answers_in, limit_in}
use Rattle.br_image.specs.Said.{last_from, end_after, Says, Allows, Adds, FitsEnd}
use Rattle.br_image.proofs.ScriptForms.{is_call, is_args, is_junk, is_limit}
use Rattle.br_image.proofs.ScriptOrder.{once_from, said_once}

-- ---- one line more

pub snoc : {L X : Type 0} (say : L → List X) (lines : List L) (l : L)
    → flat_map say (lines ++ l ∷ []) ≡ flat_map say lines ++ say l
snoc say lines l = flat_map-append say lines (l ∷ []) ∙ ap (λ t. flat_map say lines ++ t) (append-nil (say l))

pub kept : {L X : Type 0} (say : L → List X) (lines : List L) (l : L) → say l ≡ []
    → flat_map say (lines ++ l ∷ []) ≡ flat_map say lines
kept say lines l h = snoc say lines l ∙ (ap (λ t. flat_map say lines ++ t) h ∙ append-nil (flat_map say lines))

last_append : {X : Type 0} (o : Option X) (xs ys : List X) → last_from o (xs ++ ys) ≡ last_from (last_from o xs) ys
last_append o [] ys = refl
last_append o (x ∷ xs) ys = last_append (Some x) xs ys

pub end_append : (from : ℕ) (cs ds : List Choice) → end_after from (cs ++ ds) ≡ end_after (end_after from cs) ds
end_append from [] ds = refl
end_append from (c ∷ cs) ds = end_append (c.addr + length c.bytes) cs ds

last_more : {X : Type 0} (say : ScriptLine → List X) (lines : List ScriptLine) (l : ScriptLine) (old new : Option X)
    → last_from None (flat_map say lines) ≡ old → new ≡ last_from old (say l)
    → last_from None (flat_map say (lines ++ l ∷ [])) ≡ new
last_more say lines l old new h k =
    ap (λ t. last_from None t) (snoc say lines l)
    ∙ (last_append None (flat_map say lines) (say l) ∙ (ap (λ o. last_from o (say l)) h ∙ sym k))

pub list_more : {L X : Type 0} (say : L → List X) (lines : List L) (l : L) (old new : List X) → flat_map say lines ≡ old
    → new ≡ old ++ say l
    → flat_map say (lines ++ l ∷ []) ≡ new
list_more say lines l old new h k = snoc say lines l ∙ (ap (λ t. t ++ say l) h ∙ sym k)

pub says_none : (said : Said) → said.call ≡ None → said.args ≡ None → said.mem ≡ [] → said.mem_end ≡ 0
    → said.junk ≡ None → said.choices ≡ [] → said.answers ≡ [] → said.limit ≡ None → Says [] said
says_none said a b c d e f g h = record {
  call = sym a;
  args = sym b;
  mem = sym c;
  mem_end = sym d;
  junk = sym e;
  choices = sym f;
  answers = sym g;
  limit = sym h;
}

pub says_more : (lines : List ScriptLine) (l : ScriptLine) (old new : Said) → Says lines old → Adds l old new
    → Says (lines ++ l ∷ []) new
says_more lines l old new h k = record {
  call = last_more call_in lines l old.call new.call h.call k.call;
  args = last_more args_in lines l old.args new.args h.args k.args;
  mem = list_more mem_in lines l old.mem new.mem h.mem k.mem;
  mem_end = ap (λ t. end_after 0 t) (snoc mem_in lines l) ∙ (end_append 0 (flat_map mem_in lines) (mem_in l)
      ∙ (ap (λ e. end_after e (mem_in l)) h.mem_end ∙ sym k.mem_end));
  junk = last_more junk_in lines l old.junk new.junk h.junk k.junk;
  choices = list_more choice_in lines l old.choices new.choices h.choices k.choices;
  answers = list_more answers_in lines l old.answers new.answers h.answers k.answers;
  limit = last_more limit_in lines l old.limit new.limit h.limit k.limit;
}

-- ---- limits

pub ascends_append : (from : ℕ) (cs ds : List Choice) → Ascends from cs → Ascends (end_after from cs) ds
    → Ascends from (cs ++ ds)
ascends_append from [] ds h k = k
ascends_append from (c ∷ cs) ds h k = (h.0, ascends_append (c.addr + length c.bytes) cs ds h.1 k)

pub ascends_split : (from : ℕ) (cs ds : List Choice) → Ascends from (cs ++ ds)
    → Ascends from cs × Ascends (end_after from cs) ds
ascends_split from [] ds h = (tt, h)
ascends_split from (c ∷ cs) ds h = let parts = ascends_split (c.addr + length c.bytes) cs ds h.1 in
    ((h.0, parts.0), parts.1)

pub all_front : {X : Type 0} (P : X → Type 0) (xs ys : List X) → All P (xs ++ ys) → All P xs
all_front P [] ys h = All-nil P
all_front P (x ∷ xs) ys h = All-cons P x xs (All-head P x (xs ++ ys) h) (all_front P xs ys (All-tail P x (xs ++ ys) h))

pub all_last : {X : Type 0} (P : X → Type 0) (xs : List X) (x : X) → All P (xs ++ x ∷ []) → P x
all_last P [] x h = All-head P x [] h
all_last P (y ∷ xs) x h = all_last P xs x (All-tail P y (xs ++ x ∷ []) h)

pub limits_none : InScriptLimits []
limits_none = record { forms = All-nil IsScriptLine; ranges = tt; few = omega arith }

pub limits_fewer : (ls ms : List ScriptLine) → InScriptLimits (ls ++ ms) → InScriptLimits ls
limits_fewer ls ms h =
    let few = h.few in
    let len : length (flat_map answers_in (ls ++ ms))
    ≡ length (flat_map answers_in ls) + length (flat_map answers_in ms)
    = ap length (flat_map-append answers_in ls ms) ∙ length-append (flat_map answers_in ls) (flat_map answers_in ms) in
    record {
      forms = all_front IsScriptLine ls ms h.forms;
      ranges = (ascends_split 0 (flat_map mem_in ls) (flat_map mem_in ms)
          (subst (λ t. Ascends 0 t) (flat_map-append mem_in ls ms) h.ranges)).0;
      few = omega arith;
    }

answers_more : (lines : List ScriptLine) (word times : ℕ)
    → length (flat_map answers_in (lines ++ Answer word times ∷ [])) ≡ length (flat_map answers_in lines) + times
answers_more lines word times =
    ap length (snoc answers_in lines (Answer word times))
    ∙ (length-append (flat_map answers_in lines) (replicate times word)
    ∙ ap (λ k. length (flat_map answers_in lines) + k) (length-replicate times word))

pub allows_from : (lines : List ScriptLine) (said : Said) (l : ScriptLine) → Says lines said
    → InScriptLimits (lines ++ l ∷ []) → Allows said l
allows_from lines said (Mem c) h k =
    let parts = ascends_split 0 (flat_map mem_in lines) (c ∷ [])
    (subst (λ t. Ascends 0 t) (snoc mem_in lines (Mem c)) k.ranges) in
    subst (λ e. e ≤ c.addr) h.mem_end parts.1.0
allows_from lines said (Answer word times) h k =
    let few = k.few in
    let len = answers_more lines word times in
    let own : length (flat_map answers_in lines) ≡ length said.answers = ap length h.answers in
    omega arith
allows_from lines said l h k = tt

ranges_more : (lines : List ScriptLine) (said : Said) (l : ScriptLine) → Says lines said
    → Ascends 0 (flat_map mem_in lines) → Allows said l → Ascends 0 (flat_map mem_in (lines ++ l ∷ []))
ranges_more lines said (Mem c) h k a =
    subst (λ t. Ascends 0 t) (sym (snoc mem_in lines (Mem c)))
    (ascends_append 0 (flat_map mem_in lines) (c ∷ []) k (subst (λ e. e ≤ c.addr) (sym h.mem_end) a, tt))
ranges_more lines said l h k a = subst (λ t. Ascends 0 t) (sym (kept mem_in lines l refl)) k

few_more : (lines : List ScriptLine) (said : Said) (l : ScriptLine) → Says lines said
    → length (flat_map answers_in lines) ≤ most_answers → Allows said l
    → length (flat_map answers_in (lines ++ l ∷ [])) ≤ most_answers
few_more lines said (Answer word times) h k a =
    let len = answers_more lines word times in
    let own : length (flat_map answers_in lines) ≡ length said.answers = ap length h.answers in
    omega arith
few_more lines said l h k a = subst (λ t. length t ≤ most_answers) (sym (kept answers_in lines l refl)) k

pub limits_more : (lines : List ScriptLine) (said : Said) (l : ScriptLine) → Says lines said → InScriptLimits lines
    → IsScriptLine l → Allows said l → InScriptLimits (lines ++ l ∷ [])
limits_more lines said l h k own a = record {
  forms = All-push IsScriptLine lines l k.forms own;
  ranges = ranges_more lines said l h k.ranges a;
  few = few_more lines said l h k.few a;
}

pub fits_end : (l : ScriptLine) → IsScriptLine l → FitsEnd l
fits_end (Mem c) h = h.high
fits_end l h = tt

-- what some lines say
said_of : (lines : List ScriptLine) → (said : Said) × Says lines said
said_of lines = (
  record {
    call = last_from None (flat_map call_in lines);
    args = last_from None (flat_map args_in lines);
    mem = flat_map mem_in lines;
    mem_end = end_after 0 (flat_map mem_in lines);
    junk = last_from None (flat_map junk_in lines);
    choices = flat_map choice_in lines;
    answers = flat_map answers_in lines;
    limit = last_from None (flat_map limit_in lines);
  },
  record {
    call = refl;
    args = refl;
    mem = refl;
    mem_end = refl;
    junk = refl;
    choices = refl;
    answers = refl;
    limit = refl;
  },
)

allows_or_not : (said : Said) (l : ScriptLine) → Allows said l ⊎ (Allows said l → ⊥)
allows_or_not said (Mem c) = elim (cases_lt c.addr said.mem_end) [
  | inl below ↦ inr (λ h. absurd (omega arith))
  | inr above ↦ inl above
]
allows_or_not said (Answer word times) = elim (cases_lt most_answers (length said.answers + times)) [
  | inl past ↦ inr (λ h. absurd (omega arith))
  | inr within ↦ inl within
]
allows_or_not said l = inl tt

pub limits_or_not : (lines : List ScriptLine) (l : ScriptLine) → InScriptLimits lines → IsScriptLine l
    → InScriptLimits (lines ++ l ∷ []) ⊎ (InScriptLimits (lines ++ l ∷ []) → ⊥)
limits_or_not lines l k own =
    let s = said_of lines in
    elim (allows_or_not s.0 l) [
      | inl allowed ↦ inl (limits_more lines s.0 l s.1 k own allowed)
      | inr none ↦ inr (λ h. none (allows_from lines s.0 l s.1 h))
    ]

-- ---- what is said once

call_none : (l : ScriptLine) → form_of l ≢ form.Call → call_in l ≡ []
call_none (Call name) h = absurd (h refl)
call_none l h = refl

call_one : (l : ScriptLine) → form_of l ≡ form.Call → (x : List ℕ) × (call_in l ≡ x ∷ [])
call_one l h = let i = is_call l h in (i.0, ap call_in i.1)

args_none : (l : ScriptLine) → form_of l ≢ form.Args → args_in l ≡ []
args_none (Args words) h = absurd (h refl)
args_none l h = refl

args_one : (l : ScriptLine) → form_of l ≡ form.Args → (x : List ℕ) × (args_in l ≡ x ∷ [])
args_one l h = let i = is_args l h in (i.0, ap args_in i.1)

junk_none : (l : ScriptLine) → form_of l ≢ form.Junk → junk_in l ≡ []
junk_none (Junk word) h = absurd (h refl)
junk_none l h = refl

junk_one : (l : ScriptLine) → form_of l ≡ form.Junk → (x : ℕ) × (junk_in l ≡ x ∷ [])
junk_one l h = let i = is_junk l h in (i.0, ap junk_in i.1)

limit_none : (l : ScriptLine) → form_of l ≢ form.Limit → limit_in l ≡ []
limit_none (Limit n) h = absurd (h refl)
limit_none l h = refl

limit_one : (l : ScriptLine) → form_of l ≡ form.Limit → (x : ℕ) × (limit_in l ≡ x ∷ [])
limit_one l h = let i = is_limit l h in (i.0, ap limit_in i.1)

-- a whole run script says something, and one thing alone
pub run_says : (lines : List ScriptLine) → Fits run_parts lines → (s : RunScript) × SaysRun lines s
run_says lines fit =
    let call = said_once call_in form.Call call_none call_one run_parts lines
    (once_from form.Call run_parts refl) fit in
    let args = said_once args_in form.Args args_none args_one run_parts lines
    (once_from form.Args run_parts refl) fit in
    let junk = said_once junk_in form.Junk junk_none junk_one run_parts lines
    (once_from form.Junk run_parts refl) fit in
    let limit = said_once limit_in form.Limit limit_none limit_one run_parts lines
    (once_from form.Limit run_parts refl) fit in (
      record {
        call = call.0;
        args = args.0;
        mem = flat_map mem_in lines;
        junk = junk.0;
        answers = flat_map answers_in lines;
        limit = limit.0;
      },
      record { call = call.1; args = args.1; mem = refl; junk = junk.1; answers = refl; limit = limit.1 },
    )

pub interp_says : (lines : List ScriptLine) → Fits interp_parts lines → (s : InterpScript) × SaysInterp lines s
interp_says lines fit =
    let call = said_once call_in form.Call call_none call_one interp_parts lines
    (once_from form.Call interp_parts refl) fit in
    let args = said_once args_in form.Args args_none args_one interp_parts lines
    (once_from form.Args interp_parts refl) fit in
    let limit = said_once limit_in form.Limit limit_none limit_one interp_parts lines
    (once_from form.Limit interp_parts refl) fit in (
      record {
        call = call.0;
        args = args.0;
        mem = flat_map mem_in lines;
        choices = flat_map choice_in lines;
        answers = flat_map answers_in lines;
        limit = limit.0;
      },
      record { call = call.1; args = args.1; mem = refl; choices = refl; answers = refl; limit = limit.1 },
    )

head_same : {X : Type 0} (x y : X) (xs : List X) → xs ≡ x ∷ [] → xs ≡ y ∷ [] → x ≡ y
head_same x y xs e h = let both : x ∷ [] ≡ y ∷ [] = sym e ∙ h in cc

make_run : List ℕ → List ℕ → List Choice → ℕ → List ℕ → ℕ → RunScript
make_run call args mem junk answers limit =
    record { call = call; args = args; mem = mem; junk = junk; answers = answers; limit = limit }

pub run_same : (lines : List ScriptLine) (s t : RunScript) → SaysRun lines s → SaysRun lines t → s ≡ t
unfolding make_run
run_same lines s t a b =
    let call = head_same s.call t.call (flat_map call_in lines) a.call b.call in
    let args = head_same s.args t.args (flat_map args_in lines) a.args b.args in
    let mem : s.mem ≡ t.mem = sym a.mem ∙ b.mem in
    let junk = head_same s.junk t.junk (flat_map junk_in lines) a.junk b.junk in
    let answers : s.answers ≡ t.answers = sym a.answers ∙ b.answers in
    let limit = head_same s.limit t.limit (flat_map limit_in lines) a.limit b.limit in
    let whole : make_run s.call s.args s.mem s.junk s.answers s.limit
    ≡ make_run t.call t.args t.mem t.junk t.answers t.limit = cc in whole

make_interp : List ℕ → List ℕ → List Choice → List Choice → List ℕ → ℕ → InterpScript
make_interp call args mem choices answers limit =
    record { call = call; args = args; mem = mem; choices = choices; answers = answers; limit = limit }

pub interp_same : (lines : List ScriptLine) (s t : InterpScript) → SaysInterp lines s → SaysInterp lines t → s ≡ t
unfolding make_interp
interp_same lines s t a b =
    let call = head_same s.call t.call (flat_map call_in lines) a.call b.call in
    let args = head_same s.args t.args (flat_map args_in lines) a.args b.args in
    let mem : s.mem ≡ t.mem = sym a.mem ∙ b.mem in
    let choices : s.choices ≡ t.choices = sym a.choices ∙ b.choices in
    let answers : s.answers ≡ t.answers = sym a.answers ∙ b.answers in
    let limit = head_same s.limit t.limit (flat_map limit_in lines) a.limit b.limit in
    let whole : make_interp s.call s.args s.mem s.choices s.answers s.limit
    ≡ make_interp t.call t.args t.mem t.choices t.answers t.limit = cc in whole

-- what was said once is there
pub there_once : {X : Type 0} (o : Option X) (x : X) (xs : List X) → last_from None xs ≡ o → xs ≡ x ∷ [] → o ≡ Some x
there_once o x xs h e = sym h ∙ ap (λ t. last_from None t) e

pub is_there : {X : Type 0} (o : Option X) (x : X) → o ≡ Some x → IsSome o
is_there o x e = ap is_some e

pub told_once : {X : Type 0} (o : Option X) (x y : X) (xs : List X) → last_from None xs ≡ o → xs ≡ x ∷ []
    → o ≡ Some y → xs ≡ y ∷ []
told_once o x y xs h e k =
    let both : Some x ≡ Some y = sym (there_once o x xs h e) ∙ k in
    let same : x ≡ y = cc in
    e ∙ ap (λ z. z ∷ []) same
