-- What has to hold at each step of writing a conditional, a loop or a buffer.
use Rattle.std.proofs.Common.{◌≡◌, ℕ, suc, ◌+◌, ◌<◌, ◌≤◌, List, [], ◌∷◌, ◌++◌, length, drop}
use Rattle.std.proofs.Common.{refl, sym, ap, subst, ◌∙◌, arith, append-nil, length-append}
use Rattle.std.specs.Prelude.{get_or}
use Rattle.br_emit.specs.Code.{Item, AllFit, Branching, back_items, if_items, loop_items}
use Rattle.br_emit.specs.Sizes.{Sized, sized_if, sized_loop, if_head_items, if_middle_items, loop_head_items, IsFront}
use Rattle.br_emit.specs.Buffer.{Written, appended}
use Rattle.br_emit.specs.Ready.{Ready}
use Rattle.br_emit.proofs.Readiness.{appended_twice, ready_front, ready_back, drop_both, fit_both}
use Rattle.br_emit.proofs.Sizing.{if_parts, loop_parts}

-- a piece without parts before others
record Before (a b : List Item) (q : List ℕ) (w : Written) (l : List ℕ) : Type 0 where
  room : length a ≤ w.room
  after : Ready b q (appended w a) l

before : (a b : List Item) (q : List ℕ) (w : Written) (l : List ℕ) → Ready (a ++ b) q w l → Before a b q w l
before a b q w l ready =
    let size = length-append a b in
    record {
      room = let room = ready.room in omega arith;
      after = ready_back a b [] q w l ready;
    }

-- the two lengths that come first
record Lengths (a b : ℕ) (p l : List ℕ) : Type 0 where
  some : 0 < length l
  first : get_or l 0 0 ≡ a
  more : 0 < length (drop 1 l)
  second : get_or (drop 1 l) 0 0 ≡ b
  after : IsFront p (drop 1 (drop 1 l))
  left : (n : ℕ) → drop n (drop 1 (drop 1 l)) ≡ drop (2 + n) l

two_lengths : (a b : ℕ) (p l : List ℕ) → IsFront (a ∷ b ∷ p) l → Lengths a b p l
two_lengths a b p l front = subst (Lengths a b p) front record {
  some = omega arith;
  first = refl;
  more = omega arith;
  second = refl;
  after = by l front;
  left = λ n. left n (drop (length (a ∷ b ∷ p)) l);
}
  where
    left : (n : ℕ) (r : List ℕ) → drop n (p ++ r) ≡ drop (2 + n) (a ∷ b ∷ (p ++ r))
    left n r = let same : 2 + n ≡ suc (suc n) = omega arith in sym (ap (λ m. drop m (a ∷ b ∷ (p ++ r))) same)

    by : (l : List ℕ) → IsFront (a ∷ b ∷ p) l → IsFront p (p ++ drop (length (a ∷ b ∷ p)) l)
    by l front = ap (λ r. p ++ r) (after p (drop (length (a ∷ b ∷ p)) l))
      where
        after : (p r : List ℕ) → drop (length p) (p ++ r) ≡ r
        after [] r = refl
        after (x ∷ p) r = after p r

pub record IfPlan (c : Branching) (first second : List Item) (a b : Sized) (w : Written) (l : List ℕ) : Type 0 where
  pub some : 0 < length l
  pub first_length : get_or l 0 0 ≡ length first
  pub more : 0 < length (drop 1 l)
  pub second_length : get_or (drop 1 l) 0 0 ≡ length second
  pub few_first : length first ≤ 1048576
  pub few_second : length second ≤ 1048576
  pub head_room : length (if_head_items c (length first) (length second)) ≤ w.room
  pub first_ready : Ready first a.parts (appended w (if_head_items c (length first) (length second)))
      (drop 1 (drop 1 l))
  pub middle_room : length (if_middle_items (length first) (length second))
      ≤ (appended (appended w (if_head_items c (length first) (length second))) first).room
  pub second_ready : Ready
      second b.parts (appended (appended (appended w (if_head_items c (length first) (length second))) first)
      (if_middle_items (length first) (length second))) (drop (length a.parts) (drop 1 (drop 1 l)))
  pub code : appended (appended (appended (appended w (if_head_items c (length first) (length second))) first)
      (if_middle_items (length first) (length second))) second ≡ appended w (if_items c first second)
  pub fit : AllFit (if_head_items c (length first) (length second)) → AllFit first
      → AllFit (if_middle_items (length first) (length second)) → AllFit second → AllFit (if_items c first second)
  pub left : drop (length b.parts) (drop (length a.parts) (drop 1 (drop 1 l))) ≡ drop (length (sized_if a b).parts) l

pub if_plan : (c : Branching) (first second : List Item) (a b : Sized) (w : Written) (l : List ℕ)
    → a.words ≡ length first → b.words ≡ length second
    → Ready (if_items c first second) (sized_if a b).parts w l → IfPlan c first second a b w l
if_plan c first second a b w l is_a is_b ready = record {
  some = lengths.some;
  first_length = lengths.first ∙ is_a;
  more = lengths.more;
  second_length = lengths.second ∙ is_b;
  few_first = let few = ready1.few in let s1 = length-append head (first ++ (middle ++ second)) in
      let s2 = length-append first (middle ++ second) in omega arith;
  few_second = let few = ready1.few in let s1 = length-append head (first ++ (middle ++ second)) in
      let s2 = length-append first (middle ++ second) in let s3 = length-append middle second in omega arith;
  head_room = start.room;
  first_ready = ready_front first (middle ++ second) a.parts b.parts w1 l2 start.after;
  middle_room = then.room;
  second_ready = then.after;
  code = appended_twice (appended w1 first) middle second ∙ appended_twice w1 first (middle ++ second)
      ∙ appended_twice w head (first ++ (middle ++ second)) ∙ ap (appended w) (sym whole);
  fit = λ h f m s. subst AllFit (sym whole) (fit_both head (first ++ (middle ++ second)) h
      (fit_both first (middle ++ second) f (fit_both middle second m s)));
  left = drop_both a.parts b.parts l2 start.after.front ∙ lengths.left (length (a.parts ++ b.parts)) ∙ (let same : 2
      + length (a.parts ++ b.parts) ≡ suc (suc (length (a.parts ++ b.parts))) = omega arith in ap (λ n. drop n l) same);
}
  where
    head : List Item
    head = if_head_items c (length first) (length second)

    middle : List Item
    middle = if_middle_items (length first) (length second)

    whole : if_items c first second ≡ head ++ (first ++ (middle ++ second))
    whole = if_parts c first second

    l2 : List ℕ
    l2 = drop 1 (drop 1 l)

    w1 : Written
    w1 = appended w head

    lengths : Lengths a.words b.words (a.parts ++ b.parts) l
    lengths = two_lengths a.words b.words (a.parts ++ b.parts) l ready.front

    ready1 : Ready (head ++ (first ++ (middle ++ second))) (a.parts ++ b.parts) w l2
    ready1 = record {
      room = subst (λ is. length is ≤ w.room) whole ready.room;
      few = subst (λ is. length is ≤ 1048576) whole ready.few;
      front = lengths.after;
    }

    start : Before head (first ++ (middle ++ second)) (a.parts ++ b.parts) w l2
    start = before head (first ++ (middle ++ second)) (a.parts ++ b.parts) w l2 ready1

    then : Before middle second b.parts (appended w1 first) (drop (length a.parts) l2)
    then = before middle second b.parts (appended w1 first) (drop (length a.parts) l2)
        (ready_back first (middle ++ second) a.parts b.parts w1 l2 start.after)

pub record LoopPlan (first : List Item) (c : Branching) (last : List Item) (a b : Sized) (w : Written)
    (l : List ℕ) : Type 0 where
  pub some : 0 < length l
  pub last_length : get_or l 0 0 ≡ length last
  pub more : 0 < length (drop 1 l)
  pub first_length : get_or (drop 1 l) 0 0 ≡ length first
  pub few : length last + length first ≤ 1048576
  pub head_room : length (loop_head_items (length last)) ≤ w.room
  pub last_ready : Ready last b.parts (appended w (loop_head_items (length last))) (drop 1 (drop 1 l))
  pub first_ready : Ready first a.parts (appended (appended w (loop_head_items (length last))) last)
      (drop (length b.parts) (drop 1 (drop 1 l)))
  pub back_room : length (back_items c (length last + length first))
      ≤ (appended (appended (appended w (loop_head_items (length last))) last) first).room
  pub code : appended (appended (appended (appended w (loop_head_items (length last))) last) first)
      (back_items c (length last + length first)) ≡ appended w (loop_items first c last)
  pub fit : AllFit (loop_head_items (length last)) → AllFit last → AllFit first
      → AllFit (back_items c (length last + length first)) → AllFit (loop_items first c last)
  pub left : drop (length a.parts) (drop (length b.parts) (drop 1 (drop 1 l))) ≡ drop (length (sized_loop a b).parts) l

pub loop_plan : (first : List Item) (c : Branching) (last : List Item) (a b : Sized) (w : Written) (l : List ℕ)
    → a.words ≡ length first → b.words ≡ length last
    → Ready (loop_items first c last) (sized_loop a b).parts w l → LoopPlan first c last a b w l
loop_plan first c last a b w l is_a is_b ready = record {
  some = lengths.some;
  last_length = lengths.first ∙ is_b;
  more = lengths.more;
  first_length = lengths.second ∙ is_a;
  few = let few = ready1.few in let s1 = length-append head (last ++ (first ++ back)) in
      let s2 = length-append last (first ++ back) in let s3 = length-append first back in omega arith;
  head_room = start.room;
  last_ready = ready_front last (first ++ back) b.parts a.parts w1 l2 start.after;
  first_ready = ready_front first back a.parts [] w2 l3 then';
  back_room = let room = then.room in let size = length-append first back in omega arith;
  code = appended_twice (appended w1 last) first back ∙ appended_twice w1 last (first ++ back)
      ∙ appended_twice w head (last ++ (first ++ back)) ∙ ap (appended w) (sym whole);
  fit = λ h s f m. subst AllFit (sym whole)
      (fit_both head (last ++ (first ++ back)) h (fit_both last (first ++ back) s (fit_both first back f m)));
  left = drop_both b.parts a.parts l2 start.after.front ∙ lengths.left (length (b.parts ++ a.parts)) ∙ (let same : 2
      + length (b.parts ++ a.parts) ≡ suc (suc (length (b.parts ++ a.parts))) = omega arith in ap (λ n. drop n l) same);
}
  where
    head : List Item
    head = loop_head_items (length last)

    back : List Item
    back = back_items c (length last + length first)

    whole : loop_items first c last ≡ head ++ (last ++ (first ++ back))
    whole = loop_parts first c last

    l2 : List ℕ
    l2 = drop 1 (drop 1 l)

    w1 : Written
    w1 = appended w head

    w2 : Written
    w2 = appended w1 last

    lengths : Lengths b.words a.words (b.parts ++ a.parts) l
    lengths = two_lengths b.words a.words (b.parts ++ a.parts) l ready.front

    ready1 : Ready (head ++ (last ++ (first ++ back))) (b.parts ++ a.parts) w l2
    ready1 = record {
      room = subst (λ is. length is ≤ w.room) whole ready.room;
      few = subst (λ is. length is ≤ 1048576) whole ready.few;
      front = lengths.after;
    }

    start : Before head (last ++ (first ++ back)) (b.parts ++ a.parts) w l2
    start = before head (last ++ (first ++ back)) (b.parts ++ a.parts) w l2 ready1

    l3 : List ℕ
    l3 = drop (length b.parts) l2

    then : Ready (first ++ back) a.parts w2 l3
    then = ready_back last (first ++ back) b.parts a.parts w1 l2 start.after

    then' : Ready (first ++ back) (a.parts ++ []) w2 l3
    then' = subst (λ p. Ready (first ++ back) p w2 l3) (sym (append-nil a.parts)) then

-- ---- functions

pub record Eight (w : Written) (a b c d e f g h : List Item) : Type 0 where
  pub sixth : length f ≤ (appended (appended (appended (appended (appended w a) b) c) d) e).room
  pub seventh : length g ≤ (appended (appended (appended (appended (appended (appended w a) b) c) d) e) f).room
  pub eighth : length h
      ≤ (appended (appended (appended (appended (appended (appended (appended w a) b) c) d) e) f) g).room
  pub code : appended (appended (appended (appended (appended (appended (appended (appended w a) b) c) d) e) f) g) h
      ≡ appended w (a ++ (b ++ (c ++ (d ++ (e ++ (f ++ (g ++ h)))))))
  pub fit : AllFit a → AllFit b → AllFit c → AllFit d → AllFit e → AllFit f → AllFit g → AllFit h
      → AllFit (a ++ (b ++ (c ++ (d ++ (e ++ (f ++ (g ++ h)))))))

-- eight pieces one after another
pub eight : (w : Written) (a b c d e f g h : List Item)
    → length (a ++ (b ++ (c ++ (d ++ (e ++ (f ++ (g ++ h))))))) ≤ w.room → Eight w a b c d e f g h
eight w a b c d e f g h room =
    let s1 = length-append a (b ++ (c ++ (d ++ (e ++ (f ++ (g ++ h)))))) in
    let s2 = length-append b (c ++ (d ++ (e ++ (f ++ (g ++ h))))) in
    let s3 = length-append c (d ++ (e ++ (f ++ (g ++ h)))) in
    let s4 = length-append d (e ++ (f ++ (g ++ h))) in
    let s5 = length-append e (f ++ (g ++ h)) in
    let s6 = length-append f (g ++ h) in
    let s7 = length-append g h in
    record {
      sixth = omega arith;
      seventh = omega arith;
      eighth = omega arith;
      code =
          appended_twice (appended (appended (appended (appended (appended (appended w a) b) c) d) e) f) g h
          ∙ appended_twice (appended (appended (appended (appended (appended w a) b) c) d) e) f (g ++ h)
          ∙ appended_twice (appended (appended (appended (appended w a) b) c) d) e (f ++ (g ++ h))
          ∙ appended_twice (appended (appended (appended w a) b) c) d (e ++ (f ++ (g ++ h)))
          ∙ appended_twice (appended (appended w a) b) c (d ++ (e ++ (f ++ (g ++ h))))
          ∙ appended_twice (appended w a) b (c ++ (d ++ (e ++ (f ++ (g ++ h)))))
          ∙ appended_twice w a (b ++ (c ++ (d ++ (e ++ (f ++ (g ++ h))))));
      fit = λ x1 x2 x3 x4 x5 x6 x7 x8.
          fit_both a (b ++ (c ++ (d ++ (e ++ (f ++ (g ++ h)))))) x1
          (fit_both b (c ++ (d ++ (e ++ (f ++ (g ++ h))))) x2 (fit_both c (d ++ (e ++ (f ++ (g ++ h)))) x3
          (fit_both d (e ++ (f ++ (g ++ h))) x4
          (fit_both e (f ++ (g ++ h)) x5 (fit_both f (g ++ h) x6 (fit_both g h x7 x8))))));
    }
