-- A text begins with a script or has a fault, never both, and never two of either.
use Rattle.std.proofs.Common.{◌≡◌, ◌≢◌, ◌⊎◌, inl, inr, ℕ, ◌+◌, ◌≤◌, List, [], ◌∷◌, ◌++◌, refl, ap, sym}
use Rattle.std.proofs.Common.{◌∙◌, arith, append_assoc, append-nil, length-append, subst, length, drop}
use Rattle.std.specs.Prelude.{Result, Ok, Err, IfOk, IfErr, MatchResult}
use Rattle.std.proofs.lemmas.List.{drop_at, length-drop}
use Rattle.br_base.specs.declared.failure.OrMemory.{OrMemory}
use Rattle.br_base.specs.declared.failure.OrMemory.TheVariants.{Memory, Fault}
use Rattle.br_image.specs.declared.scripts.lines.ScriptLine.{ScriptLine}
use Rattle.br_image.specs.declared.scripts.order.Part.{Part}
use Rattle.br_image.specs.declared.scripts.values.RunScript.{RunScript}
use Rattle.br_image.specs.declared.scripts.values.InterpScript.{InterpScript}
use Rattle.br_image.specs.declared.scripts.values.ScriptFault.{ScriptFault}
use Rattle.br_image.specs.declared.scripts.values.ScriptFault.TheVariants.{BadScriptLine, ScriptEnds}
use Rattle.br_base.specs.Faults.{IfFault}
use Rattle.br_image.specs.ScriptLines.{form_of, script_line_text, IsScriptLine}
use Rattle.br_image.specs.Scripts.{run_parts, interp_parts, Fits, InScriptLimits, BeginsScript, HasScript}
use Rattle.br_image.specs.Scripts.{SaysRun, SaysInterp, IsRunScript, IsInterpScript, IsScriptFault}
use Rattle.br_image.specs.ScriptReading.{Leaves}
use Rattle.br_image.specs.Said.{AreSound}
use Rattle.br_image.specs.TextLines.{lines_text}
use Rattle.br_image.proofs.TextLines.{Telling, Whole, wrong_same, cut_same, wrong_or_cut}
use Rattle.br_image.proofs.TextLines.{whole_or_wrong, whole_or_cut, whole_same, walk, Decides}
use Rattle.br_image.proofs.ScriptForms.{script_line-injective, Free-script_line, script_line_or_not}
use Rattle.br_image.proofs.ScriptOrder.{Left, left_none, left_of, left_more, left_begins, left_going, left_whole}
use Rattle.br_image.proofs.ScriptOrder.{nothing_left, leaves_or_not, fits_leaves, run_sound, interp_sound}
use Rattle.br_image.proofs.ScriptValues.{all_last, limits_none, limits_fewer, limits_or_not}
use Rattle.br_image.proofs.ScriptValues.{run_says, interp_says, run_same, interp_same}

fits_lines : (ps : List Part) (ls ms : List ScriptLine) → ls ≡ ms → Fits ps ls → Fits ps ms
fits_lines ps ls ms e h = subst (λ x. Fits ps x) e h

begins_fewer : (ps : List Part) (ls ms : List ScriptLine) → BeginsScript ps (ls ++ ms) → BeginsScript ps ls
begins_fewer ps ls ms b = record {
  more = ms ++ b.more;
  order = fits_lines ps ((ls ++ ms) ++ b.more) (ls ++ (ms ++ b.more)) (append_assoc ls ms b.more) b.order;
  limits = limits_fewer ls ms b.limits;
}

no_more : (ps qs : List Part) (ls : List ScriptLine) (l : ScriptLine) → Left ps ls qs → qs ≡ []
    → BeginsScript ps (ls ++ l ∷ []) → ⊥
no_more ps qs ls l h none b =
    let fit = h.back (l ∷ b.more)
    (fits_lines ps ((ls ++ l ∷ []) ++ b.more) (ls ++ l ∷ b.more) (append_assoc ls (l ∷ []) b.more) b.order) in
    let e : l ∷ b.more ≡ [] = subst (λ p. Fits p (l ∷ b.more)) none fit in
    absurd cc

whole_ended : (ps : List Part) → AreSound ps → (ls : List ScriptLine) (l : ScriptLine) → Fits ps ls
    → BeginsScript ps (ls ++ l ∷ []) → ⊥
whole_ended ps sound ls l fit b =
    let left = left_of ps sound ls [] (fits_lines ps ls (ls ++ []) (sym (append-nil ls)) fit) in
    no_more ps left.0 ls l left.1 (nothing_left left.0 left.1.sound left.2) b

pub telling : (ps : List Part) → AreSound ps → Telling script_line_text IsScriptLine (BeginsScript ps) (Fits ps)
telling ps sound = record {
  free = Free-script_line;
  same = script_line-injective;
  forms = λ ls b. b.limits.forms;
  fewer = begins_fewer ps;
  ended = whole_ended ps sound;
}

-- ---- whether a line may follow

pub next_leaves : (ps qs : List Part) (before : List ScriptLine) (m : ScriptLine) → Left ps before qs
    → BeginsScript ps (before ++ m ∷ []) → (rs : List Part) × Leaves qs (form_of m) rs
next_leaves ps qs before m h b =
    let taken = fits_leaves qs h.sound m b.more (h.back (m ∷ b.more) (fits_lines ps ((before ++ m ∷ []) ++ b.more)
    (before ++ m ∷ b.more) (append_assoc before (m ∷ []) b.more) b.order)) in
    (taken.0, taken.1)

pub no_next : (ps qs : List Part) (before : List ScriptLine) (bytes : List ℕ) (l : ScriptLine) → Left ps before qs
    → IsScriptLine l → bytes ≡ script_line_text l
    → ((rs : List Part) → ¬ Leaves qs (form_of l) rs) → (m : ScriptLine) → BeginsScript ps (before ++ m ∷ [])
    → bytes ≢ script_line_text m
no_next ps qs before bytes l h own e none m b same =
    let line = script_line-injective m l (all_last IsScriptLine before m b.limits.forms) own (sym same ∙ e) in
    let next = next_leaves ps qs before m h b in
    none next.0 (subst (λ x. Leaves qs (form_of x) next.0) line next.1)

decide : (ps : List Part) → AreSound ps → Decides script_line_text (BeginsScript ps)
decide ps sound before b bytes =
    let left = left_of ps sound before b.more b.order in
    elim (script_line_or_not bytes) [
      | inr none ↦ inr (λ m s e. none m (all_last IsScriptLine before m s.limits.forms) e)
      | inl line ↦ elim (leaves_or_not left.0 (form_of line.0)) [
        | inr none ↦ inr (no_next ps left.0 before bytes line.0 left.1 line.1 line.2 none)
        | inl next ↦ elim (limits_or_not before line.0 b.limits line.1) [
          | inr none ↦ inr (λ m s e.
              let same = script_line-injective m line.0 (all_last IsScriptLine before m s.limits.forms) line.1
              (sym e ∙ line.2) in
              none (subst (λ x. InScriptLimits (before ++ x ∷ [])) same s.limits))
          | inl limits ↦
              let more = left_begins ps (before ++ line.0 ∷ []) next.0
              (left_more ps before left.0 next.0 line.0 left.1 next.1) in
              inl (line.0, record { more = more.0; order = more.1; limits = limits }, line.2)
        ]
      ]
    ]

empty_or_not : (ps : List Part) → (ps ≡ []) ⊎ (ps ≢ [])
empty_or_not [] = inl refl
empty_or_not (p ∷ ps) = inr (λ e. absurd cc)

whole_or_not : (ps : List Part) → AreSound ps → (ls : List ScriptLine) → BeginsScript ps ls
    → Fits ps ls ⊎ (Fits ps ls → ⊥)
whole_or_not ps sound ls b =
    let left = left_of ps sound ls b.more b.order in
    elim (empty_or_not left.0) [
      | inl none ↦ inl (left_whole ps ls left.0 left.1 none)
      | inr some ↦ inr (left_going ps ls left.0 left.1 some)
    ]

-- ---- texts

at_is : (text front : List ℕ) (at : ℕ) → at ≤ length text → text ≡ front ++ drop at text → at ≡ length front
at_is text front at within e =
    let len = ap length e ∙ length-append front (drop at text) in
    let rest = length-drop at text in
    omega arith

pub script_whole : (ps : List Part) (text : List ℕ) (lines : List ScriptLine) (at : ℕ) → HasScript ps text lines at
    → Whole script_line_text (BeginsScript ps) (Fits ps) text lines (drop at text)
script_whole ps text lines at h = record {
  spelled = h.spelled;
  stand = record {
    more = [];
    order = fits_lines ps lines (lines ++ []) (sym (append-nil lines)) h.order;
    limits = h.limits;
  };
  whole = h.order;
}

whole_script : (ps : List Part) (text : List ℕ) (lines : List ScriptLine) (rest : List ℕ)
    → Whole script_line_text (BeginsScript ps) (Fits ps) text lines rest
    → HasScript ps text lines (length (lines_text script_line_text lines))
whole_script ps text lines rest w =
    let front = lines_text script_line_text lines in
    let len = ap length w.spelled ∙ length-append front rest in
    let behind : drop (length front) text ≡ rest = ap (λ t. drop (length front) t) w.spelled
    ∙ drop_at front rest (length front) refl in
    record {
      within = omega arith;
      spelled = w.spelled ∙ ap (λ t. front ++ t) (sym behind);
      order = w.whole;
      limits = w.stand.limits;
    }

pub one_script : (ps : List Part) → AreSound ps → (text : List ℕ) (ls ms : List ScriptLine) (at to : ℕ)
    → HasScript ps text ls at → HasScript ps text ms to → (ls ≡ ms) × (at ≡ to)
one_script ps sound text ls ms at to a b =
    let same = whole_same script_line_text IsScriptLine (BeginsScript ps) (Fits ps) (telling ps sound) text ls ms
    (drop at text) (drop to text)
    (script_whole ps text ls at a) (script_whole ps text ms to b) in (
      same.0,
      at_is text (lines_text script_line_text ls) at a.within a.spelled
          ∙ (ap (λ x. length (lines_text script_line_text x)) same.0
          ∙ sym (at_is text (lines_text script_line_text ms) to b.within b.spelled)),
    )

pub script_not_fault : (ps : List Part)
    → AreSound ps → (text : List ℕ) (lines : List ScriptLine) (at : ℕ) (f : ScriptFault) → HasScript ps text lines at
    → IsScriptFault ps text f → ⊥
script_not_fault ps sound text lines at (BadScriptLine n) h k =
    whole_or_wrong script_line_text IsScriptLine (BeginsScript ps) (Fits ps) (telling ps sound) text lines
    (drop at text) n (script_whole ps text lines at h) k
script_not_fault ps sound text lines at (ScriptEnds n) h k =
    whole_or_cut script_line_text IsScriptLine (BeginsScript ps) (Fits ps) (telling ps sound) text lines (drop at text)
    n (script_whole ps text lines at h) k

pub one_fault : (ps : List Part) → AreSound ps → (text : List ℕ) (f g : ScriptFault) → IsScriptFault ps text f
    → IsScriptFault ps text g → f ≡ g
one_fault ps sound text (BadScriptLine m) (BadScriptLine n) a b = ap BadScriptLine
    (wrong_same script_line_text IsScriptLine (BeginsScript ps) (Fits ps) (telling ps sound) text m n a b)
one_fault ps sound text (BadScriptLine m) (ScriptEnds n) a b =
    absurd (wrong_or_cut script_line_text IsScriptLine (BeginsScript ps) (Fits ps) (telling ps sound) text m n a b)
one_fault ps sound text (ScriptEnds m) (BadScriptLine n) a b =
    absurd (wrong_or_cut script_line_text IsScriptLine (BeginsScript ps) (Fits ps) (telling ps sound) text n m b a)
one_fault ps sound text (ScriptEnds m) (ScriptEnds n) a b =
    ap ScriptEnds (cut_same script_line_text IsScriptLine (BeginsScript ps) (Fits ps) (telling ps sound) text m n a b)

script_or_fault : (ps : List Part) → AreSound ps → (text : List ℕ) → ((lines : List ScriptLine) × (at : ℕ)
    × HasScript ps text lines at) ⊎ ((f : ScriptFault) × IsScriptFault ps text f)
script_or_fault ps sound text =
    let c = left_begins ps [] ps (left_none ps sound) in
    elim (walk script_line_text (BeginsScript ps) (Fits ps) (decide ps sound) (whole_or_not ps sound) (length text + 1)
    text [] text refl
    (record { more = c.0; order = c.1; limits = limits_none }) (omega arith)) [
      | inl w ↦ inl (w.0, length (lines_text script_line_text w.0), whole_script ps text w.0 w.1 w.2)
      | inr fault ↦ elim fault [
        | inl wrong ↦ inr (BadScriptLine wrong.0, wrong.1)
        | inr cut ↦ inr (ScriptEnds cut.0, cut.1)
      ]
    ]

-- ---- the two kinds of scripts

pub run_or_fault : (text : List ℕ)
    → ((s : RunScript) × (at : ℕ) × IsRunScript text s at) ⊎ ((f : ScriptFault) × IsScriptFault run_parts text f)
run_or_fault text = elim (script_or_fault run_parts run_sound text) [
  | inl found ↦ let s = run_says found.0 found.2.order in
      inl (s.0, found.1, record { lines = found.0; script = found.2; says = s.1 })
  | inr fault ↦ inr fault
]

pub run_not_fault : (text : List ℕ) (s : RunScript) (at : ℕ) (f : ScriptFault) → IsRunScript text s at
    → IsScriptFault run_parts text f → ⊥
run_not_fault text s at f h k = script_not_fault run_parts run_sound text h.lines at f h.script k

pub one_run : (text : List ℕ) (s t : RunScript) (at to : ℕ) → IsRunScript text s at → IsRunScript text t to
    → (s ≡ t) × (at ≡ to)
one_run text s t at to a b =
    let same = one_script run_parts run_sound text a.lines b.lines at to a.script b.script in
    (run_same b.lines s t (subst (λ x. SaysRun x s) same.0 a.says) b.says, same.1)

pub one_run_fault : (text : List ℕ) (f g : ScriptFault) → IsScriptFault run_parts text f
    → IsScriptFault run_parts text g → f ≡ g
one_run_fault text f g a b = one_fault run_parts run_sound text f g a b

pub interp_or_fault : (text : List ℕ) → ((s : InterpScript) × (at : ℕ) × IsInterpScript text s at)
    ⊎ ((f : ScriptFault) × IsScriptFault interp_parts text f)
interp_or_fault text = elim (script_or_fault interp_parts interp_sound text) [
  | inl found ↦ let s = interp_says found.0 found.2.order in
      inl (s.0, found.1, record { lines = found.0; script = found.2; says = s.1 })
  | inr fault ↦ inr fault
]

pub interp_not_fault : (text : List ℕ) (s : InterpScript) (at : ℕ) (f : ScriptFault) → IsInterpScript text s at
    → IsScriptFault interp_parts text f → ⊥
interp_not_fault text s at f h k = script_not_fault interp_parts interp_sound text h.lines at f h.script k

pub one_interp : (text : List ℕ) (s t : InterpScript) (at to : ℕ) → IsInterpScript text s at → IsInterpScript text t to
    → (s ≡ t) × (at ≡ to)
one_interp text s t at to a b =
    let same = one_script interp_parts interp_sound text a.lines b.lines at to a.script b.script in
    (interp_same b.lines s t (subst (λ x. SaysInterp x s) same.0 a.says) b.says, same.1)

pub one_interp_fault : (text : List ℕ) (f g : ScriptFault) → IsScriptFault interp_parts text f
    → IsScriptFault interp_parts text g → f ≡ g
one_interp_fault text f g a b = one_fault interp_parts interp_sound text f g a b

-- ---- what a reading that is right answers

pub run_read : (text : List ℕ) (r : Result (RunScript × ℕ) (OrMemory ScriptFault)) (s : RunScript) (at : ℕ)
    → IfOk r (λ p. IsRunScript text p.0 p.1)
    → IfErr r (λ e. IfFault e (IsScriptFault run_parts text)) → IsRunScript text s at
    → MatchResult r (λ p. (p.0 ≡ s) × (p.1 ≡ at)) (λ e. e ≡ Memory)
run_read text (Ok p) s at ok err h = one_run text p.0 s p.1 at ok h
run_read text (Err Memory) s at ok err h = refl
run_read text (Err (Fault f)) s at ok err h = absurd (run_not_fault text s at f h err)

pub run_fault_read : (text : List ℕ) (r : Result (RunScript × ℕ) (OrMemory ScriptFault)) (f : ScriptFault)
    → IfOk r (λ p. IsRunScript text p.0 p.1)
    → IfErr r (λ e. IfFault e (IsScriptFault run_parts text)) → IsScriptFault run_parts text f
    → MatchResult r (λ _. ⊥) (λ e. IfFault e (λ g. g ≡ f))
run_fault_read text (Ok p) f ok err h = run_not_fault text p.0 p.1 f ok h
run_fault_read text (Err Memory) f ok err h = tt
run_fault_read text (Err (Fault g)) f ok err h = one_run_fault text g f err h

pub interp_read : (text : List ℕ) (r : Result (InterpScript × ℕ) (OrMemory ScriptFault)) (s : InterpScript) (at : ℕ)
    → IfOk r (λ p. IsInterpScript text p.0 p.1)
    → IfErr r (λ e. IfFault e (IsScriptFault interp_parts text)) → IsInterpScript text s at
    → MatchResult r (λ p. (p.0 ≡ s) × (p.1 ≡ at)) (λ e. e ≡ Memory)
interp_read text (Ok p) s at ok err h = one_interp text p.0 s p.1 at ok h
interp_read text (Err Memory) s at ok err h = refl
interp_read text (Err (Fault f)) s at ok err h = absurd (interp_not_fault text s at f h err)

pub interp_fault_read : (text : List ℕ) (r : Result (InterpScript × ℕ) (OrMemory ScriptFault)) (f : ScriptFault)
    → IfOk r (λ p. IsInterpScript text p.0 p.1)
    → IfErr r (λ e. IfFault e (IsScriptFault interp_parts text)) → IsScriptFault interp_parts text f
    → MatchResult r (λ _. ⊥) (λ e. IfFault e (λ g. g ≡ f))
interp_fault_read text (Ok p) f ok err h = interp_not_fault text p.0 p.1 f ok h
interp_fault_read text (Err Memory) f ok err h = tt
interp_fault_read text (Err (Fault g)) f ok err h = one_interp_fault text g f err h
