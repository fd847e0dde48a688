-- What the reading of a script finds.
use Rattle.std.proofs.Common.{◌≡◌, ◌≢◌, ℕ, ◌+◌, ◌-◌, ◌<◌, ◌≤◌, List, [], ◌∷◌, ◌++◌, refl, ap, sym, ◌∙◌}
use Rattle.std.proofs.Common.{arith, append_assoc, length-append, subst, length, drop, take, None}
use Rattle.std.proofs.lemmas.List.{take_all, length-drop}
use Rattle.br_image.specs.declared.scripts.lines.ScriptLine.{ScriptLine}
use Rattle.br_image.specs.declared.scripts.order.Part.{Part}
use Rattle.br_image.specs.declared.scripts.said.Said.{Said}
use Rattle.br_image.specs.declared.scripts.values.ScriptFault.TheVariants.{BadScriptLine, ScriptEnds}
use Rattle.br_image.specs.Text.{line}
use Rattle.br_image.specs.Forms.{Lacks}
use Rattle.br_image.specs.ScriptLines.{form_of, script_line_text, IsScriptLine}
use Rattle.br_image.specs.Scripts.{Fits, BeginsScript, InScriptLimits, IsScriptFault}
use Rattle.br_image.specs.ScriptReading.{IsScriptLineOf, Leaves}
use Rattle.br_image.specs.Said.{AreSound, Says, Allows, Adds, HasSaid}
use Rattle.br_image.specs.TextLines.{lines_text, GoesOn}
use Rattle.br_image.proofs.Order.{line_behind}
use Rattle.br_image.proofs.TextLines.{lines_text-one}
use Rattle.br_image.proofs.ScriptForms.{script_line-injective}
use Rattle.br_image.proofs.ScriptOrder.{Left, left_none, left_more, left_begins, left_going, left_whole}
use Rattle.br_image.proofs.ScriptValues.{all_last, limits_none, limits_more, allows_from, says_more}
use Rattle.br_image.proofs.ScriptVerdict.{no_next}

-- the bytes before a place are lines that a script of these parts begins with, these parts are left, and this was said
pub record ReadTo (parts : List Part) (text : List ℕ) (qs : List Part) (at n : ℕ) (said : Said) : Type 0 where
  pub before : List ScriptLine
  pub within : at ≤ length text
  pub number : n ≡ length before + 1
  pub many : length before ≤ at
  pub spelled : text ≡ lines_text script_line_text before ++ drop at text
  pub left : Left parts before qs
  pub limits : InScriptLimits before
  pub says : Says before said

pub read_none : (parts : List Part) (text : List ℕ) (said : Said) → AreSound parts → Says [] said
    → ReadTo parts text parts 0 1 said
read_none parts text said sound says = record {
  before = [];
  within = omega arith;
  number = refl;
  many = omega arith;
  spelled = refl;
  left = left_none parts sound;
  limits = limits_none;
  says = says;
}

some_parts : (qs : List Part) → 0 < length qs → qs ≢ []
some_parts qs some e = let len = ap length e in absurd (omega arith)

no_parts : (qs : List Part) → length qs ≡ 0 → qs ≡ []
no_parts [] none = refl
no_parts (q ∷ qs) none = absurd (omega arith)

pub all_taken : (text : List ℕ) (at : ℕ) → take (length text - at) (drop at text) ≡ drop at text
all_taken text at = let left = length-drop at text in take_all (length text - at) (drop at text) (omega arith)

goes_on : (parts : List Part) (text : List ℕ) (qs : List Part) (at n : ℕ) (said : Said) (rest : List ℕ) (r : ReadTo
    parts text qs at n said) → 0 < length qs → drop at text ≡ rest
    → GoesOn script_line_text (BeginsScript parts) (Fits parts) text n r.before rest
goes_on parts text qs at n said rest r some e =
    let begins = left_begins parts r.before qs r.left in
    record {
      number = r.number;
      spelled = r.spelled ∙ ap (λ t. lines_text script_line_text r.before ++ t) e;
      stand = record { more = begins.0; order = begins.1; limits = r.limits };
      going = left_going parts r.before qs r.left (some_parts qs some);
    }

pub ends_fault : (parts : List Part) (text : List ℕ) (qs : List Part) (at n : ℕ) (said : Said)
    → ReadTo parts text qs at n said → 0 < length qs
    → Lacks 10 (take (length text - at) (drop at text)) → IsScriptFault parts text (ScriptEnds n)
ends_fault parts text qs at n said r some none = record {
  before = r.before;
  rest = drop at text;
  goes_on = goes_on parts text qs at n said (drop at text) r some refl;
  cut_off = subst (λ t. Lacks 10 t) (all_taken text at) none;
}

wrong_fault : (parts : List Part) (text : List ℕ) (qs : List Part) (at n : ℕ) (said : Said) (bytes more : List ℕ)
    (r : ReadTo parts text qs at n said) → 0 < length qs
    → take (length text - at) (drop at text) ≡ bytes ++ 10 ∷ more → Lacks 10 bytes
    → ((m : ScriptLine) → BeginsScript parts (r.before ++ m ∷ []) → bytes ≢ script_line_text m)
    → IsScriptFault parts text (BadScriptLine n)
wrong_fault parts text qs at n said bytes more r some taken single wrong = record {
  before = r.before;
  bytes = bytes;
  rest = more;
  goes_on = goes_on parts text qs at n said (line bytes ++ more) r some
      (sym (all_taken text at) ∙ (taken ∙ sym (append_assoc bytes (10 ∷ []) more)));
  single = single;
  wrong = wrong;
}

pub formless_fault : (parts : List Part) (text : List ℕ) (qs : List Part) (at n : ℕ) (said : Said) (bytes more : List ℕ)
    → ReadTo parts text qs at n said → 0 < length qs
    → take (length text - at) (drop at text) ≡ bytes ++ 10 ∷ more → Lacks 10 bytes → IsScriptLineOf bytes None
    → IsScriptFault parts text (BadScriptLine n)
formless_fault parts text qs at n said bytes more r some taken single none =
    wrong_fault parts text qs at n said bytes more r some taken single
    (λ m b. none m (all_last IsScriptLine r.before m b.limits.forms))

pub order_fault : (parts : List Part) (text : List ℕ) (qs : List Part) (at n : ℕ) (said : Said) (bytes more : List ℕ)
    (l : ScriptLine) → ReadTo parts text qs at n said → 0 < length qs
    → take (length text - at) (drop at text) ≡ bytes ++ 10 ∷ more → Lacks 10 bytes → IsScriptLine l
    → bytes ≡ script_line_text l → ((rs : List Part) → ¬ Leaves qs (form_of l) rs)
    → IsScriptFault parts text (BadScriptLine n)
order_fault parts text qs at n said bytes more l r some taken single own e none =
    wrong_fault parts text qs at n said bytes more r some taken single
    (no_next parts qs r.before bytes l r.left own e none)

pub limit_fault : (parts : List Part) (text : List ℕ) (qs : List Part) (at n : ℕ) (said : Said) (bytes more : List ℕ)
    (l : ScriptLine) → ReadTo parts text qs at n said → 0 < length qs
    → take (length text - at) (drop at text) ≡ bytes ++ 10 ∷ more → Lacks 10 bytes → IsScriptLine l
    → bytes ≡ script_line_text l → (Allows said l → ⊥) → IsScriptFault parts text (BadScriptLine n)
limit_fault parts text qs at n said bytes more l r some taken single own e none =
    wrong_fault parts text qs at n said bytes more r some taken single
    (λ m b same.
    let line = script_line-injective m l (all_last IsScriptLine r.before m b.limits.forms) own (sym same ∙ e) in
    none (subst (λ x. Allows said x) line (allows_from r.before said m r.says b.limits)))

pub read_more : (parts : List Part) (text : List ℕ) (qs rs : List Part) (at n next m : ℕ) (said new : Said) (bytes
    more : List ℕ) (l : ScriptLine) → ReadTo parts text qs at n said
    → take (length text - at) (drop at text) ≡ bytes ++ 10 ∷ more → IsScriptLine l → bytes ≡ script_line_text l
    → Leaves qs (form_of l) rs → Allows said l → Adds l said new
    → next ≡ at + length bytes + 1 → m ≡ n + 1 → ReadTo parts text rs next m new
read_more parts text qs rs at n next m said new bytes more l r taken own e leaves allowed adds step count =
    let left = length-drop at text in
    let within = r.within in
    let len : length (drop at text) ≡ length bytes + length (10 ∷ more) = ap length (sym (all_taken text at) ∙ taken)
    ∙ length-append bytes (10 ∷ more) in
    let many : length (r.before ++ l ∷ []) ≡ length r.before + 1 = length-append r.before (l ∷ []) in
    let number = r.number in
    let few = r.many in
    let behind : drop at text ≡ line (script_line_text l) ++ drop next text =
    line_behind text bytes more (script_line_text l) at taken e
    ∙ ap (λ k. line (script_line_text l) ++ drop k text) (sym step) in
    record {
      before = r.before ++ l ∷ [];
      within = omega arith;
      number = omega arith;
      many = omega arith;
      spelled = r.spelled ∙ (ap (λ t. lines_text script_line_text r.before ++ t) behind
          ∙ lines_text-one script_line_text r.before l (drop next text));
      left = left_more parts r.before qs rs l r.left leaves;
      limits = limits_more r.before said l r.says r.limits own allowed;
      says = says_more r.before l said new r.says adds;
    }

pub read_whole : (parts : List Part) (text : List ℕ) (qs : List Part) (at n : ℕ) (said : Said)
    → ReadTo parts text qs at n said → length qs ≡ 0 → HasSaid parts text said at
read_whole parts text qs at n said r none = record {
  lines = r.before;
  script = record {
    within = r.within;
    spelled = r.spelled;
    order = left_whole parts r.before qs r.left (no_parts qs none);
    limits = r.limits;
  };
  says = r.says;
}
