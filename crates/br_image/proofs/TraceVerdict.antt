-- A text is a trace text or has a fault, never both, and never two of either.
use Rattle.std.proofs.Common.{◌≡◌, ◌≢◌, ◌⊎◌, inl, inr, ℕ, ◌+◌, ◌≤◌, List, [], ◌∷◌, ◌++◌, refl}
use Rattle.std.proofs.Common.{ap, sym, ◌∙◌, arith, append_assoc, append-nil, subst, length}
use Rattle.std.specs.Prelude.{All, Result, Ok, Err, IfOk, IfErr, MatchResult}
use Rattle.std.specs.List.{flat_map}
use Rattle.std.proofs.lemmas.Bool.{cases_lt}
use Rattle.std.proofs.lemmas.Grind.{flat_map-append}
use Rattle.std.proofs.lemmas.List.Elements.{All-cons, All-nil, All-head, All-tail, All-push}
use Rattle.br_base.specs.declared.failure.OrMemory.{OrMemory}
use Rattle.br_base.specs.declared.failure.OrMemory.TheVariants.{Memory, Fault}
use Rattle.br_bytes.specs.declared.run.Choice.{Choice}
use Rattle.br_bytes.specs.declared.run.Event.{Event}
use Rattle.br_image.specs.declared.traces.lines.Stage.{Stage}
use Rattle.br_image.specs.declared.traces.lines.Stage.TheVariants as stage
use Rattle.br_image.specs.declared.traces.lines.TraceForm.TheVariants as form
use Rattle.br_image.specs.declared.traces.lines.TraceLine.{TraceLine}
use Rattle.br_image.specs.declared.traces.lines.TraceLine.TheVariants.{Read, Write, Halted, Waiting}
use Rattle.br_image.specs.declared.traces.lines.TraceLine.TheVariants.{Trapped, Running, Mem}
use Rattle.br_image.specs.declared.traces.reading.TraceFault.{TraceFault}
use Rattle.br_image.specs.declared.traces.reading.TraceFault.TheVariants.{BadTraceLine}
use Rattle.br_base.specs.Faults.{IfFault}
use Rattle.br_image.specs.Scripts.{Ascends}
use Rattle.br_image.specs.Said.{end_after}
use Rattle.br_image.specs.TraceLines.{trace_form_of, trace_line_text, IsTraceLine}
use Rattle.br_image.specs.Traces.{IsTraceOrder, event_in, range_in, IsTraceFront, IsTrace, IsNever, IsTraceFault, Steps}
use Rattle.br_image.specs.TextLines.{lines_text, IsCutOff}
use Rattle.br_image.proofs.TextLines.{Telling, wrong_same, cut_same, cut_rest, wrong_or_cut, walk, Decides}
use Rattle.br_image.proofs.TraceForms.{trace_line-injective, Free-trace_line, trace_line_or_not}
use Rattle.br_image.proofs.ScriptValues.{all_front, all_last, snoc, kept, ascends_append, ascends_split}

-- ---- the order of lines

IsMem : TraceLine → Type 0
IsMem l = trace_form_of l ≡ form.Mem

-- the lines that may come at a stage
abbrev pub IsOrderAt : Stage → List TraceLine → Type 0
IsOrderAt stage.Events lines = IsTraceOrder lines
IsOrderAt stage.Memory lines = All (λ l. trace_form_of l ≡ form.Mem) lines
IsOrderAt stage.Over lines = lines ≡ []

pub order_nil : (s : Stage) → IsOrderAt s []
order_nil stage.Events = tt
order_nil stage.Memory = All-nil (λ l. trace_form_of l ≡ form.Mem)
order_nil stage.Over = refl

order_same : (s t : Stage) (lines : List TraceLine) → s ≡ t → IsOrderAt s lines → IsOrderAt t lines
order_same s t lines e h = subst (λ x. IsOrderAt x lines) e h

steps_order : (s : Stage) (l : TraceLine) (t : Stage) (more : List TraceLine) → Steps s l t → IsOrderAt t more
    → IsOrderAt s (l ∷ more)
steps_order stage.Events (Read a v) t more h k = order_same t stage.Events more h k
steps_order stage.Events (Write a v) t more h k = order_same t stage.Events more h k
steps_order stage.Events (Halted ws) t more h k = order_same t stage.Memory more h k
steps_order stage.Events (Waiting a) t more h k = order_same t stage.Over more h k
steps_order stage.Events (Trapped c pc) t more h k = order_same t stage.Over more h k
steps_order stage.Events Running t more h k = order_same t stage.Over more h k
steps_order stage.Memory (Mem r) t more h k =
    All-cons (λ l. trace_form_of l ≡ form.Mem) (Mem r) more refl (order_same t stage.Memory more h k)
steps_order s l t more h k = absurd h

memory_steps : (l : TraceLine) (more : List TraceLine) → trace_form_of l ≡ form.Mem
    → All (λ x. trace_form_of x ≡ form.Mem) more → (t : Stage) × Steps stage.Memory l t × IsOrderAt t more
memory_steps (Mem r) more h k = (stage.Memory, refl, k)
memory_steps l more h k = absurd cc

order_steps : (s : Stage) (l : TraceLine) (more : List TraceLine) → IsOrderAt s (l ∷ more)
    → (t : Stage) × Steps s l t × IsOrderAt t more
order_steps stage.Events (Read a v) more h = (stage.Events, refl, h)
order_steps stage.Events (Write a v) more h = (stage.Events, refl, h)
order_steps stage.Events (Halted ws) more h = (stage.Memory, refl, h)
order_steps stage.Events (Waiting a) more h = (stage.Over, refl, h)
order_steps stage.Events (Trapped c pc) more h = (stage.Over, refl, h)
order_steps stage.Events Running more h = (stage.Over, refl, h)
order_steps stage.Events (Mem r) more h = absurd h
order_steps stage.Memory l more h = memory_steps l more (All-head (λ x. trace_form_of x ≡ form.Mem) l more h)
    (All-tail (λ x. trace_form_of x ≡ form.Mem) l more h)
order_steps stage.Over l more h = absurd cc

steps_same : (s : Stage) (l : TraceLine) (t u : Stage) → Steps s l t → Steps s l u → t ≡ u
steps_same stage.Events (Read a v) t u h k = h ∙ sym k
steps_same stage.Events (Write a v) t u h k = h ∙ sym k
steps_same stage.Events (Halted ws) t u h k = h ∙ sym k
steps_same stage.Events (Waiting a) t u h k = h ∙ sym k
steps_same stage.Events (Trapped c pc) t u h k = h ∙ sym k
steps_same stage.Events Running t u h k = h ∙ sym k
steps_same stage.Memory (Mem r) t u h k = h ∙ sym k
steps_same s l t u h k = absurd h

steps_or_not : (s : Stage) (l : TraceLine) → ((t : Stage) × Steps s l t) ⊎ ((t : Stage) → ¬ Steps s l t)
steps_or_not stage.Events (Read a v) = inl (stage.Events, refl)
steps_or_not stage.Events (Write a v) = inl (stage.Events, refl)
steps_or_not stage.Events (Halted ws) = inl (stage.Memory, refl)
steps_or_not stage.Events (Waiting a) = inl (stage.Over, refl)
steps_or_not stage.Events (Trapped c pc) = inl (stage.Over, refl)
steps_or_not stage.Events Running = inl (stage.Over, refl)
steps_or_not stage.Memory (Mem r) = inl (stage.Memory, refl)
steps_or_not s l = inr (λ t h. h)

-- these lines lead from one stage to another
pub record Leads (s : Stage) (before : List TraceLine) (t : Stage) : Type 0 where
  pub forth : (more : List TraceLine) → IsOrderAt t more → IsOrderAt s (before ++ more)
  pub back : (more : List TraceLine) → IsOrderAt s (before ++ more) → IsOrderAt t more

pub leads_none : (s : Stage) → Leads s [] s
leads_none s = record { forth = λ more h. h; back = λ more h. h }

order_lines : (s : Stage) (ls ms : List TraceLine) → ls ≡ ms → IsOrderAt s ls → IsOrderAt s ms
order_lines s ls ms e h = subst (λ x. IsOrderAt s x) e h

pub leads_more : (s : Stage) (before : List TraceLine) (t u : Stage) (l : TraceLine) → Leads s before t → Steps t l u
    → Leads s (before ++ l ∷ []) u
leads_more s before t u l h k = record {
  forth = λ more o. order_lines s (before ++ l ∷ more) ((before ++ l ∷ []) ++ more)
      (sym (append_assoc before (l ∷ []) more)) (h.forth (l ∷ more) (steps_order t l u more k o));
  back = λ more o.
      let next = order_steps t l more (h.back (l ∷ more)
      (order_lines s ((before ++ l ∷ []) ++ more) (before ++ l ∷ more) (append_assoc before (l ∷ []) more) o)) in
      order_same next.0 u more (steps_same t l next.0 u next.1 k) next.2;
}

leads_front : (s t u : Stage) (l : TraceLine) (ls : List TraceLine) → Steps s l t → Leads t ls u → Leads s (l ∷ ls) u
leads_front s t u l ls k h = record {
  forth = λ more o. steps_order s l t (ls ++ more) k (h.forth more o);
  back = λ more o. let next = order_steps s l (ls ++ more) o in
      h.back more (order_same next.0 t (ls ++ more) (steps_same s l next.0 t next.1 k) next.2);
}

leads_of : (s : Stage) (ls : List TraceLine) → IsOrderAt s ls → (t : Stage) × Leads s ls t
leads_of s [] h = (s, leads_none s)
leads_of s (l ∷ ls) h =
    let next = order_steps s l ls h in
    let rest = leads_of next.0 ls next.2 in
    (rest.0, leads_front s next.0 rest.0 l ls next.1 rest.1)

order_fewer : (s : Stage) (ls ms : List TraceLine) → IsOrderAt s (ls ++ ms) → IsOrderAt s ls
order_fewer s [] ms h = order_nil s
order_fewer s (l ∷ ls) ms h =
    let next = order_steps s l (ls ++ ms) h in
    steps_order s l next.0 ls next.1 (order_fewer next.0 ls ms next.2)

pub leads_order : (before : List TraceLine) (t : Stage) → Leads stage.Events before t → IsTraceOrder before
leads_order before t h = order_lines stage.Events (before ++ []) before (append-nil before) (h.forth [] (order_nil t))

-- ---- limits

pub range_allowed : (lines : List TraceLine) (c : Choice) → Ascends 0 (flat_map range_in (lines ++ Mem c ∷ []))
    → end_after 0 (flat_map range_in lines) ≤ c.addr
range_allowed lines c h =
    (ascends_split 0 (flat_map range_in lines) (c ∷ []) (subst (λ t. Ascends 0 t) (snoc range_in lines (Mem c)) h)).1.0

pub range_more : (lines : List TraceLine) (c : Choice) → Ascends 0 (flat_map range_in lines)
    → end_after 0 (flat_map range_in lines) ≤ c.addr → Ascends 0 (flat_map range_in (lines ++ Mem c ∷ []))
range_more lines c h k = subst (λ t. Ascends 0 t) (sym (snoc range_in lines (Mem c)))
    (ascends_append 0 (flat_map range_in lines) (c ∷ []) h (k, tt))

pub no_range_more : (lines : List TraceLine) (l : TraceLine) → range_in l ≡ [] → Ascends 0 (flat_map range_in lines)
    → Ascends 0 (flat_map range_in (lines ++ l ∷ []))
no_range_more lines l h k = subst (λ t. Ascends 0 t) (sym (kept range_in lines l h)) k

ranges_or_not : (lines : List TraceLine) (l : TraceLine) → Ascends 0 (flat_map range_in lines)
    → Ascends 0 (flat_map range_in (lines ++ l ∷ [])) ⊎ (Ascends 0 (flat_map range_in (lines ++ l ∷ [])) → ⊥)
ranges_or_not lines (Mem c) h = elim (cases_lt c.addr (end_after 0 (flat_map range_in lines))) [
  | inl below ↦ inr (λ k. let above = range_allowed lines c k in absurd (omega arith))
  | inr above ↦ inl (range_more lines c h above)
]
ranges_or_not lines l h = inl (no_range_more lines l refl h)

front_fewer : (ls ms : List TraceLine) → IsTraceFront (ls ++ ms) → IsTraceFront ls
front_fewer ls ms h = record {
  order = order_fewer stage.Events ls ms h.order;
  forms = all_front IsTraceLine ls ms h.forms;
  ranges = (ascends_split 0 (flat_map range_in ls) (flat_map range_in ms)
      (subst (λ t. Ascends 0 t) (flat_map-append range_in ls ms) h.ranges)).0;
}

telling : Telling trace_line_text IsTraceLine IsTraceFront IsNever
telling = record {
  free = Free-trace_line;
  same = trace_line-injective;
  forms = λ ls h. h.forms;
  fewer = front_fewer;
  ended = λ ls l w h. w;
}

-- ---- whether a line may follow

next_steps : (t : Stage) (before : List TraceLine) (m : TraceLine) → Leads stage.Events before t
    → IsTraceFront (before ++ m ∷ []) → (u : Stage) × Steps t m u
next_steps t before m h b = let next = order_steps t m [] (h.back (m ∷ []) b.order) in (next.0, next.1)

pub no_step : (t : Stage) (before : List TraceLine) (bytes : List ℕ) (l : TraceLine) → Leads stage.Events before t
    → IsTraceLine l → bytes ≡ trace_line_text l
    → ((u : Stage) → ¬ Steps t l u) → (m : TraceLine) → IsTraceFront (before ++ m ∷ []) → bytes ≢ trace_line_text m
no_step t before bytes l h own e none m b same =
    let line = trace_line-injective m l (all_last IsTraceLine before m b.forms) own (sym same ∙ e) in
    let next = next_steps t before m h b in
    none next.0 (subst (λ x. Steps t x next.0) line next.1)

decide : Decides trace_line_text IsTraceFront
decide before b bytes =
    let at = leads_of stage.Events before b.order in
    elim (trace_line_or_not bytes) [
      | inr none ↦ inr (λ m s e. none m (all_last IsTraceLine before m s.forms) e)
      | inl line ↦ elim (steps_or_not at.0 line.0) [
        | inr none ↦ inr (no_step at.0 before bytes line.0 at.1 line.1 line.2 none)
        | inl next ↦ elim (ranges_or_not before line.0 b.ranges) [
          | inr none ↦ inr (λ m s e.
              let same = trace_line-injective m line.0 (all_last IsTraceLine before m s.forms) line.1
              (sym e ∙ line.2) in
              none (subst (λ x. Ascends 0 (flat_map range_in (before ++ x ∷ []))) same s.ranges))
          | inl ranges ↦ inl (
            line.0,
            record {
              order = leads_order (before ++ line.0 ∷ []) next.0
                  (leads_more stage.Events before at.0 next.0 line.0 at.1 next.1);
              forms = All-push IsTraceLine before line.0 b.forms line.1;
              ranges = ranges;
            },
            line.2,
          )
        ]
      ]
    ]

-- ---- texts

abbrev pub trace_cut : (text : List ℕ) (events : List Event) (h : IsTrace text events)
    → IsCutOff trace_line_text IsTraceFront IsNever text (length h.lines + 1)
trace_cut text events h = record {
  before = h.lines;
  rest = [];
  goes_on = record {
    number = refl;
    spelled = h.spelled ∙ sym (append-nil (lines_text trace_line_text h.lines));
    stand = h.front;
    going = λ w. w;
  };
  cut_off = All-nil (λ b. b ≢ 10);
}

pub cut_trace : (text : List ℕ) (n : ℕ) (c : IsCutOff trace_line_text IsTraceFront IsNever text n) → c.rest ≡ []
    → IsTrace text (flat_map event_in c.before)
cut_trace text n c e = record {
  lines = c.before;
  spelled = c.goes_on.spelled
      ∙ (ap (λ t. lines_text trace_line_text c.before ++ t) e ∙ append-nil (lines_text trace_line_text c.before));
  front = c.goes_on.stand;
  tells = refl;
}

empty_or_not : (xs : List ℕ) → (xs ≡ []) ⊎ (xs ≢ [])
empty_or_not [] = inl refl
empty_or_not (x ∷ xs) = inr (λ e. absurd cc)

pub trace_or_fault : (text : List ℕ)
    → ((events : List Event) × IsTrace text events) ⊎ ((f : TraceFault) × IsTraceFault text f)
trace_or_fault text =
    elim (walk trace_line_text IsTraceFront IsNever decide (λ ls h. inr (λ w. w)) (length text + 1) text [] text refl
    (record { order = tt; forms = All-nil IsTraceLine; ranges = tt }) (omega arith)) [
      | inl w ↦ absurd w.2.whole
      | inr fault ↦ elim fault [
        | inl wrong ↦ inr (BadTraceLine wrong.0, inl wrong.1)
        | inr cut ↦ elim (empty_or_not cut.1.rest) [
          | inl none ↦ inl (flat_map event_in cut.1.before, cut_trace text cut.0 cut.1 none)
          | inr some ↦ inr (BadTraceLine cut.0, inr (cut.1, some))
        ]
      ]
    ]

pub trace_not_fault : (text : List ℕ) (events : List Event) (f : TraceFault) → IsTrace text events
    → IsTraceFault text f → ⊥
trace_not_fault text events (BadTraceLine n) h (inl wrong) =
    wrong_or_cut trace_line_text IsTraceLine IsTraceFront IsNever telling text n (length h.lines + 1) wrong
    (trace_cut text events h)
trace_not_fault text events (BadTraceLine n) h (inr cut) =
    cut.1 (cut_rest trace_line_text IsTraceLine IsTraceFront IsNever telling text n (length h.lines + 1) cut.0
    (trace_cut text events h)).1

pub one_trace : (text : List ℕ) (xs ys : List Event) → IsTrace text xs → IsTrace text ys → xs ≡ ys
one_trace text xs ys a b =
    let same = (cut_rest trace_line_text IsTraceLine IsTraceFront IsNever telling text (length a.lines + 1)
    (length b.lines + 1) (trace_cut text xs a) (trace_cut text ys b)).0 in
    sym a.tells ∙ (ap (λ ls. flat_map event_in ls) same ∙ b.tells)

pub one_trace_fault : (text : List ℕ) (f g : TraceFault) → IsTraceFault text f → IsTraceFault text g → f ≡ g
one_trace_fault text (BadTraceLine m) (BadTraceLine n) (inl a) (inl b) =
    ap BadTraceLine (wrong_same trace_line_text IsTraceLine IsTraceFront IsNever telling text m n a b)
one_trace_fault text (BadTraceLine m) (BadTraceLine n) (inl a) (inr b) =
    absurd (wrong_or_cut trace_line_text IsTraceLine IsTraceFront IsNever telling text m n a b.0)
one_trace_fault text (BadTraceLine m) (BadTraceLine n) (inr a) (inl b) =
    absurd (wrong_or_cut trace_line_text IsTraceLine IsTraceFront IsNever telling text n m b a.0)
one_trace_fault text (BadTraceLine m) (BadTraceLine n) (inr a) (inr b) =
    ap BadTraceLine (cut_same trace_line_text IsTraceLine IsTraceFront IsNever telling text m n a.0 b.0)

-- ---- what a reading that is right answers

pub trace_read : (text : List ℕ) (r : Result (List Event) (OrMemory TraceFault)) (events : List Event)
    → IfOk r (λ read. IsTrace text read)
    → IfErr r (λ e. IfFault e (IsTraceFault text)) → IsTrace text events
    → MatchResult r (λ read. read ≡ events) (λ e. e ≡ Memory)
trace_read text (Ok read) events ok err h = one_trace text read events ok h
trace_read text (Err Memory) events ok err h = refl
trace_read text (Err (Fault f)) events ok err h = absurd (trace_not_fault text events f h err)

pub trace_fault_read : (text : List ℕ) (r : Result (List Event) (OrMemory TraceFault)) (f : TraceFault)
    → IfOk r (λ read. IsTrace text read)
    → IfErr r (λ e. IfFault e (IsTraceFault text)) → IsTraceFault text f
    → MatchResult r (λ _. ⊥) (λ e. IfFault e (λ g. g ≡ f))
trace_fault_read text (Ok read) f ok err h = trace_not_fault text read f ok h
trace_fault_read text (Err Memory) f ok err h = tt
trace_fault_read text (Err (Fault g)) f ok err h = one_trace_fault text g f err h
