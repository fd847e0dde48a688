-- What the reading of a trace text finds.
use Rattle.std.proofs.Common.{◌≡◌, ◌≢◌, ℕ, ◌+◌, ◌-◌, ◌<◌, ◌≤◌, inl, inr, List, [], ◌∷◌, ◌++◌, refl, ap, sym, ◌∙◌}
use Rattle.std.proofs.Common.{arith, append_assoc, append-nil, length-append, subst, length, drop, take, None}
use Rattle.std.specs.Prelude.{All}
use Rattle.std.specs.List.{flat_map}
use Rattle.std.proofs.lemmas.List.{length-drop, drop_all}
use Rattle.std.proofs.lemmas.List.Elements.{All-nil, All-push}
use Rattle.br_image.specs.declared.traces.lines.Stage.{Stage}
use Rattle.br_image.specs.declared.traces.lines.Stage.TheVariants as stage
use Rattle.br_image.specs.declared.traces.lines.TraceLine.{TraceLine}
use Rattle.br_image.specs.declared.traces.lines.TraceLine.TheVariants.{Mem}
use Rattle.br_image.specs.declared.traces.shown.Shown.{Shown}
use Rattle.br_image.specs.declared.traces.reading.TraceFault.TheVariants.{BadTraceLine}
use Rattle.br_image.specs.Text.{line}
use Rattle.br_image.specs.Forms.{Lacks}
use Rattle.br_image.specs.Scripts.{Ascends}
use Rattle.br_image.specs.Said.{end_after}
use Rattle.br_image.specs.TraceLines.{trace_line_text, IsTraceLine}
use Rattle.br_image.specs.Traces.{event_in, range_in, IsTraceFront, IsTrace, IsNever, IsTraceFault, Steps}
use Rattle.br_image.specs.TraceReading.{IsTraceLineOf}
use Rattle.br_image.specs.Shown.{Shows, AllowsTrace, FitsTraceEnd, ShowsMore}
use Rattle.br_image.specs.TextLines.{lines_text, GoesOn}
use Rattle.br_image.proofs.Order.{line_behind}
use Rattle.br_image.proofs.TextLines.{lines_text-one}
use Rattle.br_image.proofs.ScriptReads.{all_taken}
use Rattle.br_image.proofs.ScriptValues.{all_last, snoc, list_more, end_append}
use Rattle.br_image.proofs.TraceForms.{trace_line-injective}
use Rattle.br_image.proofs.TraceVerdict.{Leads, leads_none, leads_more, leads_order}
use Rattle.br_image.proofs.TraceVerdict.{no_step, range_allowed, range_more, no_range_more}

-- the bytes before a place are lines that may stand in a trace text, they lead to this stage, and this was shown
pub record TraceTo (text : List ℕ) (s : Stage) (at n : ℕ) (shown : Shown) : Type 0 where
  pub before : List TraceLine
  pub within : at ≤ length text
  pub number : n ≡ length before + 1
  pub many : length before ≤ at
  pub spelled : text ≡ lines_text trace_line_text before ++ drop at text
  pub leads : Leads stage.Events before s
  pub forms : All IsTraceLine before
  pub ranges : Ascends 0 (flat_map range_in before)
  pub shows : Shows before shown

pub trace_none : (text : List ℕ) (shown : Shown) → Shows [] shown → TraceTo text stage.Events 0 1 shown
trace_none text shown shows = record {
  before = [];
  within = omega arith;
  number = refl;
  many = omega arith;
  spelled = refl;
  leads = leads_none stage.Events;
  forms = All-nil IsTraceLine;
  ranges = tt;
  shows = shows;
}

front : (text : List ℕ) (s : Stage) (at n : ℕ) (shown : Shown) (r : TraceTo text s at n shown) → IsTraceFront r.before
front text s at n shown r = record { order = leads_order r.before s r.leads; forms = r.forms; ranges = r.ranges }

goes_on : (text : List ℕ) (s : Stage) (at n : ℕ) (shown : Shown) (rest : List ℕ) (r : TraceTo text s at n shown)
    → drop at text ≡ rest
    → GoesOn trace_line_text IsTraceFront IsNever text n r.before rest
goes_on text s at n shown rest r e = record {
  number = r.number;
  spelled = r.spelled ∙ ap (λ t. lines_text trace_line_text r.before ++ t) e;
  stand = front text s at n shown r;
  going = λ w. w;
}

pub cut_fault : (text : List ℕ) (s : Stage) (at n : ℕ) (shown : Shown) → TraceTo text s at n shown → at < length text
    → Lacks 10 (take (length text - at) (drop at text)) → IsTraceFault text (BadTraceLine n)
cut_fault text s at n shown r below none = inr (
  record {
    before = r.before;
    rest = drop at text;
    goes_on = goes_on text s at n shown (drop at text) r refl;
    cut_off = subst (λ t. Lacks 10 t) (all_taken text at) none;
  },
  (λ e. let left = length-drop at text in let len : length (drop at text) ≡ 0 = ap length e in absurd (omega arith)),
)

wrong_fault : (text : List ℕ) (s : Stage) (at n : ℕ) (shown : Shown) (bytes more : List ℕ)
    (r : TraceTo text s at n shown)
    → take (length text - at) (drop at text) ≡ bytes ++ 10 ∷ more → Lacks 10 bytes
    → ((m : TraceLine) → IsTraceFront (r.before ++ m ∷ []) → bytes ≢ trace_line_text m)
    → IsTraceFault text (BadTraceLine n)
wrong_fault text s at n shown bytes more r taken single wrong = inl (record {
  before = r.before;
  bytes = bytes;
  rest = more;
  goes_on = goes_on text s at n shown (line bytes ++ more) r
      (sym (all_taken text at) ∙ (taken ∙ sym (append_assoc bytes (10 ∷ []) more)));
  single = single;
  wrong = wrong;
})

pub formless_line : (text : List ℕ) (s : Stage) (at n : ℕ) (shown : Shown) (bytes more : List ℕ)
    → TraceTo text s at n shown
    → take (length text - at) (drop at text) ≡ bytes ++ 10 ∷ more → Lacks 10 bytes → IsTraceLineOf bytes None
    → IsTraceFault text (BadTraceLine n)
formless_line text s at n shown bytes more r taken single none =
    wrong_fault text s at n shown bytes more r taken single (λ m b. none m (all_last IsTraceLine r.before m b.forms))

pub misplaced_line : (text : List ℕ) (s : Stage) (at n : ℕ) (shown : Shown) (bytes more : List ℕ) (l : TraceLine)
    → TraceTo text s at n shown
    → take (length text - at) (drop at text) ≡ bytes ++ 10 ∷ more → Lacks 10 bytes → IsTraceLine l
    → bytes ≡ trace_line_text l → ((u : Stage) → ¬ Steps s l u)
    → IsTraceFault text (BadTraceLine n)
misplaced_line text s at n shown bytes more l r taken single own e none =
    wrong_fault text s at n shown bytes more r taken single (no_step s r.before bytes l r.leads own e none)

allows_from : (lines : List TraceLine) (shown : Shown) (l : TraceLine) → Shows lines shown
    → Ascends 0 (flat_map range_in (lines ++ l ∷ [])) → AllowsTrace shown l
allows_from lines shown (Mem c) h k = subst (λ e. e ≤ c.addr) h.mem_end (range_allowed lines c k)
allows_from lines shown l h k = tt

ranges_more : (lines : List TraceLine) (shown : Shown) (l : TraceLine) → Shows lines shown
    → Ascends 0 (flat_map range_in lines) → AllowsTrace shown l
    → Ascends 0 (flat_map range_in (lines ++ l ∷ []))
ranges_more lines shown (Mem c) h k a = range_more lines c k (subst (λ e. e ≤ c.addr) (sym h.mem_end) a)
ranges_more lines shown l h k a = no_range_more lines l refl k

pub range_line : (text : List ℕ) (s : Stage) (at n : ℕ) (shown : Shown) (bytes more : List ℕ) (l : TraceLine)
    → TraceTo text s at n shown
    → take (length text - at) (drop at text) ≡ bytes ++ 10 ∷ more → Lacks 10 bytes → IsTraceLine l
    → bytes ≡ trace_line_text l → (AllowsTrace shown l → ⊥)
    → IsTraceFault text (BadTraceLine n)
range_line text s at n shown bytes more l r taken single own e none =
    wrong_fault text s at n shown bytes more r taken single
    (λ m b same.
    let line = trace_line-injective m l (all_last IsTraceLine r.before m b.forms) own (sym same ∙ e) in
    none (subst (λ x. AllowsTrace shown x) line (allows_from r.before shown m r.shows b.ranges)))

pub fits_trace_end : (l : TraceLine) → IsTraceLine l → FitsTraceEnd l
fits_trace_end (Mem c) h = h.high
fits_trace_end l h = tt

pub trace_more : (text : List ℕ) (s t : Stage) (at n next m : ℕ) (shown new : Shown) (bytes more : List ℕ)
    (l : TraceLine) → TraceTo text s at n shown
    → take (length text - at) (drop at text) ≡ bytes ++ 10 ∷ more → IsTraceLine l → bytes ≡ trace_line_text l
    → Steps s l t → AllowsTrace shown l → ShowsMore l shown new
    → next ≡ at + length bytes + 1 → m ≡ n + 1 → TraceTo text t next m new
trace_more text s t at n next m shown new bytes more l r taken own e steps allowed adds step count =
    let left = length-drop at text in
    let within = r.within in
    let len : length (drop at text) ≡ length bytes + length (10 ∷ more) = ap length (sym (all_taken text at) ∙ taken)
    ∙ length-append bytes (10 ∷ more) in
    let many : length (r.before ++ l ∷ []) ≡ length r.before + 1 = length-append r.before (l ∷ []) in
    let number = r.number in
    let few = r.many in
    let behind : drop at text ≡ line (trace_line_text l) ++ drop next text =
    line_behind text bytes more (trace_line_text l) at taken e
    ∙ ap (λ k. line (trace_line_text l) ++ drop k text) (sym step) in
    record {
      before = r.before ++ l ∷ [];
      within = omega arith;
      number = omega arith;
      many = omega arith;
      spelled = r.spelled ∙ (ap (λ t. lines_text trace_line_text r.before ++ t) behind
          ∙ lines_text-one trace_line_text r.before l (drop next text));
      leads = leads_more stage.Events r.before s t l r.leads steps;
      forms = All-push IsTraceLine r.before l r.forms own;
      ranges = ranges_more r.before shown l r.shows r.ranges allowed;
      shows = record {
        events = list_more event_in r.before l shown.events new.events r.shows.events adds.events;
        mem_end =
            ap (λ t. end_after 0 t) (snoc range_in r.before l) ∙ (end_append 0 (flat_map range_in r.before) (range_in l)
            ∙ (ap (λ x. end_after x (range_in l)) r.shows.mem_end ∙ sym adds.mem_end));
      };
    }

pub trace_whole : (text : List ℕ) (s : Stage) (at n : ℕ) (shown : Shown) → TraceTo text s at n shown → length text ≤ at
    → IsTrace text shown.events
trace_whole text s at n shown r over = record {
  lines = r.before;
  spelled = r.spelled ∙ (ap (λ t. lines_text trace_line_text r.before ++ t) (drop_all at text over)
      ∙ append-nil (lines_text trace_line_text r.before));
  front = front text s at n shown r;
  tells = r.shows.events;
}
