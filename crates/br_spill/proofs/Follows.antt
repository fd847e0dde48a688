-- How a run shows what another shows that takes fewer choices: the second is a function of the choices that it
-- is given, and takes some that are found with the first. Each form of Runs keeps following where its parts do.
use Rattle.std.proofs.Common.{◌≡◌, ℕ, zero, suc, ◌<◌, ◌^◌, Bool, true, false, List, [], ◌∷◌, ◌++◌, Option}
use Rattle.std.proofs.Common.{Some, None, ◌⊎◌, inl, inr, refl, sym, ap, subst, ◌∙◌, append_assoc, arith}
use Rattle.std.specs.Prelude.{⊤}
use Rattle.br_words.specs.Device.{is_device_word}
use Rattle.br_bytes.specs.declared.run.Event.TheVariants.{Read, Write}
use Rattle.br_bytes.specs.declared.run.Choice.{Choice}
use Rattle.br_bytes.specs.Memory.{with_bytes}
use Rattle.br_bytes.specs.Buffers.{AreBytes, AreChoices, is_good, without_range}
use Rattle.br_bytes.specs.Runs.{Waiting, OutOfFuel, Undefined, NoChoice, Goes, Ends, End}
use Rattle.br_bytes.specs.Runs.{then_do, with_defined, choose, with_fuel, happens, with_buffer}
use Rattle.br_bytes.specs.Runs.{read_device, write_device, Returns, Stops, back_in, returned}
use Rattle.br_flatimp.specs.Values.{Locals}
use Rattle.br_flatimp.specs.Runs.{State, Run, Returned}
use Rattle.br_flatimp.specs.Refines.{IsSameData}

-- the state with these choices
abbrev pub given : State → List Choice → State
given t cs = record t { choices = cs }

-- a run, as a function of the choices that it is given
abbrev pub Choosing : Type 0
Choosing = List Choice → Run

-- two ends show the same
pub record Shown (s t : State) : Type 0 where
  pub trace : s.trace ≡ t.trace
  pub bytes : IsSameData s.memory t.memory

-- the second run is undefined with some choices, whatever comes after them
pub record MayFail (p : Choosing) : Type 0 where
  pub used : List Choice
  pub good : AreChoices used
  pub states : List Choice → State
  pub runs : (rest : List Choice) → p (used ++ rest) ≡ Ends Undefined (states rest)

-- it goes on in a state that is related to the first's, and leaves the choices that come after
pub record GoesOn (R : State → State → Type 0) (s : State) (p : Choosing) : Type 0 where
  pub used : List Choice
  pub good : AreChoices used
  pub state : State
  pub related : R s state
  pub runs : (rest : List Choice) → p (used ++ rest) ≡ Goes (given state rest)

-- it has the same end and shows the same
pub record EndsSo (end : End) (s : State) (p : Choosing) : Type 0 where
  pub used : List Choice
  pub good : AreChoices used
  pub states : List Choice → State
  pub runs : (rest : List Choice) → p (used ++ rest) ≡ Ends end (states rest)
  pub shown : (rest : List Choice) → Shown s (states rest)

abbrev pub Keeps : (State → State → Type 0) → Run → Choosing → Type 0
Keeps R (Goes s) p = GoesOn R s p
Keeps R (Ends NoChoice s) p = ⊤
Keeps R (Ends Undefined s) p = ⊥
Keeps R (Ends (Waiting a) s) p = EndsSo (Waiting a) s p
Keeps R (Ends OutOfFuel s) p = EndsSo OutOfFuel s p

-- The second run may fail, or the first has no choice, or both come to the same.
abbrev pub Follows : (State → State → Type 0) → Run → Choosing → Type 0
Follows R q p = MayFail p ⊎ Keeps R q p

pub choices-append : (xs ys : List Choice) → AreChoices xs → AreChoices ys → AreChoices (xs ++ ys)
choices-append [] ys h k = k
choices-append (x ∷ xs) ys h k = (h.0, choices-append xs ys h.1 k)

fail-after : (p p2 : Choosing) (used : List Choice) → AreChoices used
    → ((rest : List Choice) → p (used ++ rest) ≡ p2 rest) → MayFail p2 → MayFail p
fail-after p p2 used good same u = record {
  used = used ++ u.used;
  good = choices-append used u.used good u.good;
  states = u.states;
  runs = λ rest. ap p (append_assoc used u.used rest) ∙ same (u.used ++ rest) ∙ u.runs rest;
}

end-after : (end : End) (s : State) (p p2 : Choosing) (used : List Choice) → AreChoices used
    → ((rest : List Choice) → p (used ++ rest) ≡ p2 rest) → EndsSo end s p2 → EndsSo end s p
end-after end s p p2 used good same u = record {
  used = used ++ u.used;
  good = choices-append used u.used good u.good;
  states = u.states;
  runs = λ rest. ap p (append_assoc used u.used rest) ∙ same (u.used ++ rest) ∙ u.runs rest;
  shown = u.shown;
}

keep-after : (R : State → State → Type 0) (q : Run) (p p2 : Choosing) (used : List Choice) → AreChoices used
    → ((rest : List Choice) → p (used ++ rest) ≡ p2 rest) → Keeps R q p2 → Keeps R q p
keep-after R (Goes s) p p2 used good same u = record {
  used = used ++ u.used;
  good = choices-append used u.used good u.good;
  state = u.state;
  related = u.related;
  runs = λ rest. ap p (append_assoc used u.used rest) ∙ same (u.used ++ rest) ∙ u.runs rest;
}
keep-after R (Ends NoChoice s) p p2 used good same u = tt
keep-after R (Ends Undefined s) p p2 used good same u = u
keep-after R (Ends (Waiting a) s) p p2 used good same u = end-after (Waiting a) s p p2 used good same u
keep-after R (Ends OutOfFuel s) p p2 used good same u = end-after OutOfFuel s p p2 used good same u

-- the second run takes choices, and is another run from there
pub follows-after : (R : State → State → Type 0) (q : Run) (p p2 : Choosing) (used : List Choice) → AreChoices used
    → ((rest : List Choice) → p (used ++ rest) ≡ p2 rest) → Follows R q p2 → Follows R q p
follows-after R q p p2 used good same (inl u) = inl (fail-after p p2 used good same u)
follows-after R q p p2 used good same (inr k) = inr (keep-after R q p p2 used good same k)

-- other ways to say the two runs
pub follows-same : (R : State → State → Type 0) (q : Run) (p p2 : Choosing) → ((rest : List Choice) → p rest ≡ p2 rest)
    → Follows R q p2 → Follows R q p
follows-same R q p p2 same h = follows-after R q p p2 [] tt same h

pub follows-from : (R : State → State → Type 0) (q r : Run) (p : Choosing) → q ≡ r → Follows R r p → Follows R q p
follows-from R q r p e h = subst (λ x. Follows R x p) (sym e) h

pub follows-goes : (R : State → State → Type 0) (s t : State) → R s t → Follows R (Goes s) (λ ds. Goes (given t ds))
follows-goes R s t h = inr (record { used = []; good = tt; state = t; related = h; runs = λ rest. refl })

pub follows-undefined : (R : State → State → Type 0) (q : Run) (t : State)
    → Follows R q (λ ds. Ends Undefined (given t ds))
follows-undefined R q t = inl (record { used = []; good = tt; states = λ ds. given t ds; runs = λ rest. refl })

pub follows-ends : (R : State → State → Type 0) (end : End) (s t : State) → Shown s t
    → EndsSo end s (λ ds. Ends end (given t ds))
follows-ends R end s t h = record {
  used = [];
  good = tt;
  states = λ ds. given t ds;
  runs = λ rest. refl;
  shown = λ rest. record { trace = h.trace; bytes = h.bytes };
}

fails-then : (p : Choosing) (g : State → Run) → MayFail p → MayFail (λ ds. then_do (p ds) g)
fails-then p g u =
    record { used = u.used; good = u.good; states = u.states; runs = λ rest. ap (λ r. then_do r g) (u.runs rest) }

ends-then : (end : End) (s : State) (p : Choosing) (g : State → Run) → EndsSo end s p
    → EndsSo end s (λ ds. then_do (p ds) g)
ends-then end s p g u = record {
  used = u.used;
  good = u.good;
  states = u.states;
  runs = λ rest. ap (λ r. then_do r g) (u.runs rest);
  shown = u.shown;
}

-- runs, and what goes on from the states that they come to
pub follows-then : (R S : State → State → Type 0) (q : Run) (p : Choosing) (f g : State → Run)
    → Follows R q p → ((s t : State) → R s t → Follows S (f s) (λ ds. g (given t ds)))
    → Follows S (then_do q f) (λ ds. then_do (p ds) g)
follows-then R S q p f g (inl u) next = inl (fails-then p g u)
follows-then R S (Goes s) p f g (inr k) next =
    follows-after S (f s) (λ ds. then_do (p ds) g) (λ ds. g (given k.state ds)) k.used k.good
    (λ rest. ap (λ r. then_do r g) (k.runs rest)) (next s k.state k.related)
follows-then R S (Ends NoChoice s) p f g (inr k) next = inr tt
follows-then R S (Ends Undefined s) p f g (inr k) next = absurd k
follows-then R S (Ends (Waiting a) s) p f g (inr k) next = inr (ends-then (Waiting a) s p g k)
follows-then R S (Ends OutOfFuel s) p f g (inr k) next = inr (ends-then OutOfFuel s p g k)

pub then-goes : (r : Run) → then_do r Goes ≡ r
then-goes (Goes t) = refl
then-goes (Ends end t) = refl

-- the first goes on alone
pub follows-alone : (R S : State → State → Type 0) (q : Run) (p : Choosing) (f : State → Run) → Follows R q p
    → ((s t : State) → R s t → Follows S (f s) (λ ds. Goes (given t ds))) → Follows S (then_do q f) p
follows-alone R S q p f h next =
    follows-same S (then_do q f) p (λ ds. then_do (p ds) Goes) (λ ds. sym (then-goes (p ds)))
    (follows-then R S q p f Goes h next)

pub follows-weaker : (R S : State → State → Type 0) (q : Run) (p : Choosing) → Follows R q p
    → ((s t : State) → R s t → S s t) → Follows S q p
follows-weaker R S q p h weaker =
    follows-from S q (then_do q Goes) p (sym (then-goes q))
    (follows-alone R S q p Goes h (λ s t r. follows-goes S s t (weaker s t r)))

-- what the second run finds there may be taken as there
pub follows-source : {X : Type 0} (R : State → State → Type 0) (q : Run) (o : Option X) (t : State) (g : List Choice
    → X → Run) → ((x : X) → o ≡ Some x → Follows R q (λ ds. g ds x))
    → Follows R q (λ ds. with_defined o (given t ds) (g ds))
follows-source R q None t g next = follows-undefined R q t
follows-source R q (Some x) t g next = next x refl

pub follows-choose : (R : State → State → Type 0) (b : Bool) (q r : Run) (p o : Choosing) → (b ≡ true → Follows R q p)
    → (b ≡ false → Follows R r o) → Follows R (choose b q r) (λ ds. choose b (p ds) (o ds))
follows-choose R true q r p o h k = h refl
follows-choose R false q r p o h k = k refl

follows-spend : (R : State → State → Type 0) (n m : ℕ) (s t : State) (f g : State → Run) → n ≡ m → Shown s t
    → ((k : ℕ) → m ≡ suc k → Follows R (f (record s { fuel = k })) (λ ds. g (given (record t { fuel = k }) ds)))
    → Follows R (with_fuel (record s { fuel = n }) f) (λ ds. with_fuel (given (record t { fuel = m }) ds) g)
follows-spend R zero zero s t f g same shown next =
    inr (follows-ends R OutOfFuel (record s { fuel = 0 }) (record t { fuel = 0 })
    (record { trace = shown.trace; bytes = shown.bytes }))
follows-spend R (suc k) (suc j) s t f g same shown next =
    let e : k ≡ j = omega (arith, same) in
    subst (λ i. Follows R (f (record s { fuel = i })) (λ ds. g (given (record t { fuel = j }) ds)))
    (sym e) (next j refl)
follows-spend R zero (suc j) s t f g same shown next = absurd (omega (arith, same))
follows-spend R (suc k) zero s t f g same shown next = absurd (omega (arith, same))

-- a unit of fuel is taken from both
pub follows-with_fuel : (R : State → State → Type 0) (s t : State) (f g : State → Run) → s.fuel ≡ t.fuel → Shown s t
    → ((k : ℕ) → t.fuel ≡ suc k → Follows R (f (record s { fuel = k })) (λ ds. g (given (record t { fuel = k }) ds)))
    → Follows R (with_fuel s f) (λ ds. with_fuel (given t ds) g)
follows-with_fuel R s t f g same shown next = follows-spend R s.fuel t.fuel s t f g same shown next

-- ---- devices

follows-take_answer : (R : State → State → Type 0) (vs ws : List ℕ) (a : ℕ) (keep hold : ℕ → Locals
    → Locals) (s t : State) → vs ≡ ws → Shown s t
    → ((v : ℕ) (rest : List ℕ) → ws ≡ v ∷ rest
    → R (happens (Read a v) (record s { locals = keep v s.locals; answers = rest })) (happens (Read a v)
    (record t { locals = hold v t.locals; answers = rest })))
    → Follows R (read_device keep a (record s { answers = vs }))
    (λ ds. read_device hold a (given (record t { answers = ws }) ds))
follows-take_answer R [] [] a keep hold s t same shown next =
    let now = record s { answers = [] } in
    let then = record t { answers = [] } in
    follows-choose R (is_device_word a) (Ends (Waiting a) now) (Ends Undefined now)
    (λ ds. Ends (Waiting a) (given then ds)) (λ ds. Ends Undefined (given then ds))
    (λ e. inr (follows-ends R (Waiting a) now then (record { trace = shown.trace; bytes = shown.bytes })))
    (λ e. follows-undefined R (Ends Undefined now) then)
follows-take_answer R [] (w ∷ ws) a keep hold s t same shown next = absurd (cc same)
follows-take_answer R (v ∷ vs) [] a keep hold s t same shown next = absurd (cc same)
follows-take_answer R (v ∷ vs) (w ∷ ws) a keep hold s t same shown next =
    let first : v ≡ w = cc same in
    let rest : vs ≡ ws = cc same in
    let now = record s { answers = w ∷ ws } in
    let then = record t { answers = w ∷ ws } in
    let here = happens (Read a w) (record s { locals = keep w s.locals; answers = ws }) in
    let there = happens (Read a w) (record t { locals = hold w t.locals; answers = ws }) in
    let make : ℕ → List ℕ → Run = λ x xs. read_device keep a (record s { answers = x ∷ xs }) in
    subst (λ x. Follows R (make x vs) (λ ds. read_device hold a (given then ds))) (sym first)
    (subst (λ xs. Follows R (make w xs) (λ ds. read_device hold a (given then ds))) (sym rest)
    (follows-choose R (is_device_word a) (Goes here) (Ends Undefined now) (λ ds. Goes (given there ds))
    (λ ds. Ends Undefined (given then ds))
    (λ e. follows-goes R here there (next w ws refl)) (λ e. follows-undefined R (Ends Undefined now) then)))

-- both read the same device word
pub follows-read_device : (R : State → State → Type 0) (a : ℕ) (keep hold : ℕ → Locals → Locals) (s t : State)
    → s.answers ≡ t.answers → Shown s t
    → ((v : ℕ) (rest : List ℕ) → t.answers ≡ v ∷ rest
    → R (happens (Read a v) (record s { locals = keep v s.locals; answers = rest })) (happens (Read a v)
    (record t { locals = hold v t.locals; answers = rest })))
    → Follows R (read_device keep a s) (λ ds. read_device hold a (given t ds))
follows-read_device R a keep hold s t same shown next =
    follows-take_answer R s.answers t.answers a keep hold s t same shown next

-- both write the same device word
pub follows-write_device : (R : State → State → Type 0) (a v : ℕ) (s t : State)
    → R (happens (Write a v) s) (happens (Write a v) t)
    → Follows R (write_device a v s) (λ ds. write_device a v (given t ds))
follows-write_device R a v s t h =
    follows-choose R (is_device_word a) (Goes (happens (Write a v) s)) (Ends Undefined s)
    (λ ds. Goes (given (happens (Write a v) t) ds)) (λ ds. Ends Undefined (given t ds))
    (λ e. follows-goes R (happens (Write a v) s) (happens (Write a v) t) h)
    (λ e. follows-undefined R (Ends Undefined s) t)

-- ---- buffers

-- the state in which a buffer's body begins, but for the choices, and that in which it ends
abbrev pub begun : (ℕ → Locals → Locals) → Choice → State → State
begun keep c s = record s { locals = keep c.addr s.locals; memory = with_bytes s.memory c.addr c.bytes }

abbrev pub taken_back : Choice → ℕ → State → State
taken_back c n s = record s { memory = without_range s.memory c.addr n }

abbrev pub IsChoice : Choice → Type 0
IsChoice c = (c.addr < 2 ^ 32) × AreBytes c.bytes

follows-good : (R : State → State → Type 0) (a : Bool) (q : Run) (s : State) (p : Choosing) → (a ≡ true → Follows R q p)
    → Follows R (choose a q (Ends NoChoice s)) p
follows-good R true q s p h = h refl
follows-good R false q s p h = inr tt

buffer-taken : (n : ℕ) (hold : ℕ → Locals → Locals) (g : State → Run) (t : State) (c : Choice) (b : Bool) → b ≡ true
    → (ds : List Choice)
    → choose b (then_do (g (given (begun hold c t) ds)) (λ v. Goes (taken_back c n v)))
    (Ends NoChoice (given t (c ∷ ds))) ≡ then_do (g (given (begun hold c t) ds)) (λ v. Goes (taken_back c n v))
buffer-taken n hold g t c true is ds = refl
buffer-taken n hold g t c false is ds = absurd (cc is)

follows-take_both : (R S : State → State → Type 0) (cs : List Choice) (n : ℕ) (keep hold : ℕ → Locals
    → Locals) (f g : State → Run) (s t : State) → AreChoices cs
    → ((c : Choice) → IsChoice c → is_good n s.memory c ≡ true → is_good n t.memory c ≡ true)
    → ((c : Choice) (rest : List Choice) → IsChoice c → AreChoices rest → is_good n s.memory c ≡ true
    → Follows S (f (given (begun keep c s) rest)) (λ ds. g (given (begun hold c t) ds)))
    → ((c : Choice) (u v : State) → IsChoice c → is_good n s.memory c ≡ true → S u v
    → R (taken_back c n u) (taken_back c n v))
    → Follows R (with_buffer keep n f (record s { choices = cs })) (λ ds. with_buffer hold n g (given t ds))
follows-take_both R S [] n keep hold f g s t choices good body back = inr tt
follows-take_both R S (c ∷ cs) n keep hold f g s t choices good body back =
    let done : State → Run = λ u. Goes (taken_back c n u) in
    let q = then_do (f (given (begun keep c s) cs)) done in
    let p : Choosing = λ ds. with_buffer hold n g (given t ds) in
    follows-good R (is_good n s.memory c) q (record s { choices = c ∷ cs }) p (λ is.
    follows-after R q p (λ ds. then_do (g (given (begun hold c t) ds)) done) (c ∷ []) (choices.0, tt)
    (buffer-taken n hold g t c (is_good n t.memory c) (good c choices.0 is))
    (follows-then S R (f (given (begun keep c s) cs)) (λ ds. g (given (begun hold c t) ds)) done done
    (body c cs choices.0 choices.1 is)
    (λ u v k. follows-goes R (taken_back c n u) (taken_back c n v) (back c u v choices.0 is k))))

-- Both take the next choice. Where it is good for the first it is for the second.
pub follows-with_buffer : (R S : State → State → Type 0) (n : ℕ) (keep hold : ℕ → Locals → Locals) (f g : State
    → Run) (s t : State) → AreChoices s.choices
    → ((c : Choice) → IsChoice c → is_good n s.memory c ≡ true → is_good n t.memory c ≡ true)
    → ((c : Choice) (rest : List Choice) → IsChoice c → AreChoices rest → is_good n s.memory c ≡ true
    → Follows S (f (given (begun keep c s) rest)) (λ ds. g (given (begun hold c t) ds)))
    → ((c : Choice) (u v : State) → IsChoice c → is_good n s.memory c ≡ true → S u v
    → R (taken_back c n u) (taken_back c n v))
    → Follows R (with_buffer keep n f s) (λ ds. with_buffer hold n g (given t ds))
follows-with_buffer R S n keep hold f g s t choices good body back =
    follows-take_both R S s.choices n keep hold f g s t choices good body back

follows-take_own : (R : State → State → Type 0) (S : Choice → State → State → Type 0) (cs : List Choice) (n : ℕ)
    (keep : ℕ → Locals → Locals) (f : State → Run) (p : Choosing) (s : State) → AreChoices cs
    → ((c : Choice) (rest : List Choice) → IsChoice c → AreChoices rest → is_good n s.memory c ≡ true
    → Follows (S c) (f (given (begun keep c s) rest)) p)
    → ((c : Choice) (u v : State) → IsChoice c → is_good n s.memory c ≡ true → S c u v → R (taken_back c n u) v)
    → Follows R (with_buffer keep n f (record s { choices = cs })) p
follows-take_own R S [] n keep f p s choices body back = inr tt
follows-take_own R S (c ∷ cs) n keep f p s choices body back =
    let done : State → Run = λ u. Goes (taken_back c n u) in
    follows-good R (is_good n s.memory c) (then_do (f (given (begun keep c s) cs)) done)
    (record s { choices = c ∷ cs }) p (λ is.
    follows-alone (S c) R (f (given (begun keep c s) cs)) p done (body c cs choices.0 choices.1 is)
    (λ u v k. follows-goes R (taken_back c n u) v (back c u v choices.0 is k)))

-- the first alone takes a choice
pub follows-own_buffer : (R : State → State → Type 0) (S : Choice → State → State → Type 0) (n : ℕ) (keep : ℕ → Locals
    → Locals) (f : State → Run) (p : Choosing) (s : State) → AreChoices s.choices
    → ((c : Choice) (rest : List Choice) → IsChoice c → AreChoices rest → is_good n s.memory c ≡ true
    → Follows (S c) (f (given (begun keep c s) rest)) p)
    → ((c : Choice) (u v : State) → IsChoice c → is_good n s.memory c ≡ true → S c u v → R (taken_back c n u) v)
    → Follows R (with_buffer keep n f s) p
follows-own_buffer R S n keep f p s choices body back = follows-take_own R S s.choices n keep f p s choices body back

-- ---- calls

abbrev pub CallChoosing : Type 0
CallChoosing = List Choice → Returned

pub record CallMayFail (p : CallChoosing) : Type 0 where
  pub used : List Choice
  pub good : AreChoices used
  pub states : List Choice → State
  pub runs : (rest : List Choice) → p (used ++ rest) ≡ Stops Undefined (states rest)

pub record ReturnsSo (C : List ℕ → State → State → Type 0) (vs : List ℕ) (s : State) (p : CallChoosing) : Type 0 where
  pub used : List Choice
  pub good : AreChoices used
  pub state : State
  pub related : C vs s state
  pub runs : (rest : List Choice) → p (used ++ rest) ≡ Returns vs (given state rest)

pub record StopsSo (end : End) (s : State) (p : CallChoosing) : Type 0 where
  pub used : List Choice
  pub good : AreChoices used
  pub states : List Choice → State
  pub runs : (rest : List Choice) → p (used ++ rest) ≡ Stops end (states rest)
  pub shown : (rest : List Choice) → Shown s (states rest)

abbrev pub CallKeeps : (List ℕ → State → State → Type 0) → Returned → CallChoosing → Type 0
CallKeeps C (Returns vs s) p = ReturnsSo C vs s p
CallKeeps C (Stops NoChoice s) p = ⊤
CallKeeps C (Stops Undefined s) p = ⊥
CallKeeps C (Stops (Waiting a) s) p = StopsSo (Waiting a) s p
CallKeeps C (Stops OutOfFuel s) p = StopsSo OutOfFuel s p

-- the same of calls, which return the same words
abbrev pub CallFollows : (List ℕ → State → State → Type 0) → Returned → CallChoosing → Type 0
CallFollows C q p = CallMayFail p ⊎ CallKeeps C q p

back-ends : (end : End) (s : State) (hold : List ℕ → Locals → Locals) (m : Locals) (p : CallChoosing) → StopsSo end s p
    → EndsSo end s (λ ds. back_in hold m (p ds))
back-ends end s hold m p u = record {
  used = u.used;
  good = u.good;
  states = u.states;
  runs = λ rest. ap (back_in hold m) (u.runs rest);
  shown = u.shown;
}

-- calls that follow, back in their callers
pub follows-back_in : (C : List ℕ → State → State → Type 0) (R : State → State → Type 0) (keep hold : List ℕ → Locals
    → Locals) (l m : Locals) (q : Returned) (p : CallChoosing) → CallFollows C q p
    → ((vs : List ℕ) (s t : State) → C vs s t → R (record s { locals = keep vs l }) (record t { locals = hold vs m }))
    → Follows R (back_in keep l q) (λ ds. back_in hold m (p ds))
follows-back_in C R keep hold l m q p (inl u) next =
    inl (record { used = u.used; good = u.good; states = u.states; runs = λ rest. ap (back_in hold m) (u.runs rest) })
follows-back_in C R keep hold l m (Returns vs s) p (inr k) next = inr (record {
  used = k.used;
  good = k.good;
  state = record k.state { locals = hold vs m };
  related = next vs s k.state k.related;
  runs = λ rest. ap (back_in hold m) (k.runs rest);
})
follows-back_in C R keep hold l m (Stops NoChoice s) p (inr k) next = inr tt
follows-back_in C R keep hold l m (Stops Undefined s) p (inr k) next = absurd k
follows-back_in C R keep hold l m (Stops (Waiting a) s) p (inr k) next = inr (back-ends (Waiting a) s hold m p k)
follows-back_in C R keep hold l m (Stops OutOfFuel s) p (inr k) next = inr (back-ends OutOfFuel s hold m p k)

stops-so : (end : End) (s : State) (g : Locals → Option (List ℕ)) (p : Choosing) → EndsSo end s p
    → StopsSo end s (λ ds. returned g (p ds))
stops-so end s g p u = record {
  used = u.used;
  good = u.good;
  states = u.states;
  runs = λ rest. ap (returned g) (u.runs rest);
  shown = u.shown;
}

-- what is known where the results of both are the same words
pub record SameResults (C : List ℕ → State → State → Type 0) (f g : Locals → Option (List ℕ))
    (s t : State) : Type 0 where
  pub words : List ℕ
  pub first : f s.locals ≡ Some words
  pub second : g t.locals ≡ Some words
  pub related : C words s t

returns-words : (f : Locals → Option (List ℕ)) (s : State) (o : Option (List ℕ)) (vs : List ℕ) → f s.locals ≡ o
    → o ≡ Some vs → returned f (Goes s) ≡ Returns vs s
returns-words f s o vs e is = rw (e, is) refl

-- bodies that follow, as functions
pub follows-returned : (R : State → State → Type 0) (C : List ℕ → State → State → Type 0) (f g : Locals
    → Option (List ℕ)) (q : Run) (p : Choosing) → Follows R q p
    → ((s t : State) → R s t → SameResults C f g s t) → CallFollows C (returned f q) (λ ds. returned g (p ds))
follows-returned R C f g q p (inl u) results =
    inl (record { used = u.used; good = u.good; states = u.states; runs = λ rest. ap (returned g) (u.runs rest) })
follows-returned R C f g (Goes s) p (inr k) results =
    let r = results s k.state k.related in
    subst (λ x. CallFollows C x (λ ds. returned g (p ds))) (sym (returns-words f s (f s.locals) r.words refl r.first))
    (inr (record {
      used = k.used;
      good = k.good;
      state = k.state;
      related = r.related;
      runs = λ rest. ap (returned g) (k.runs rest)
          ∙ returns-words g (given k.state rest) (g k.state.locals) r.words refl r.second;
    }))
follows-returned R C f g (Ends NoChoice s) p (inr k) results = inr tt
follows-returned R C f g (Ends Undefined s) p (inr k) results = absurd k
follows-returned R C f g (Ends (Waiting a) s) p (inr k) results = inr (stops-so (Waiting a) s g p k)
follows-returned R C f g (Ends OutOfFuel s) p (inr k) results = inr (stops-so OutOfFuel s g p k)
