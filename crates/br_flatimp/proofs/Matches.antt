-- Runs that match, piece by piece: each form of Runs keeps matching where its parts do.
use Rattle.std.proofs.Common.{◌≡◌, ℕ, zero, suc, Bool, true, false, ◌==◌, List, [], ◌∷◌}
use Rattle.std.proofs.Common.{Option, Some, None, inl, inr, refl, sym, subst, arith}
use Rattle.br_words.specs.Device.{is_device_word}
use Rattle.br_bytes.specs.declared.run.Event.TheVariants.{Read, Write}
use Rattle.br_bytes.specs.declared.run.Choice.{Choice}
use Rattle.br_bytes.specs.Memory.{with_bytes}
use Rattle.br_bytes.specs.Buffers.{is_good, without_range}
use Rattle.br_bytes.specs.Runs.{State, End, Waiting, OutOfFuel, Undefined, NoChoice, Run, Goes, Ends}
use Rattle.br_bytes.specs.Runs.{then_do, with_defined, choose, with_fuel, happens, with_buffer, loop}
use Rattle.br_bytes.specs.Runs.{read_device, write_device, Returned, Returns, Stops, back_in}
use Rattle.br_flatimp.specs.Matches.{Matches, CallMatches, IsSameDefined}

-- an end matches itself
pub matches-ends : {L M : Type 0} (G E : State L → State M → Type 0) (end : End) (s : State L) (t : State M) → E s t
    → Matches G E (Ends end s) (Ends end t)
matches-ends G E (Waiting a) s t h = (refl, h)
matches-ends G E OutOfFuel s t h = (refl, h)
matches-ends G E Undefined s t h = tt
matches-ends G E NoChoice s t h = tt

-- where the second run is undefined
pub matches-undefined : {L M : Type 0} (G E : State L → State M → Type 0) (q : Run L) (t : State M)
    → Matches G E q (Ends Undefined t)
matches-undefined G E q t = tt

pub matches-no_choice : {L M : Type 0} (G E : State L → State M → Type 0) (s : State L) (p : Run M)
    → Matches G E (Ends NoChoice s) p
matches-no_choice G E s (Goes t) = tt
matches-no_choice G E s (Ends (Waiting a) t) = tt
matches-no_choice G E s (Ends OutOfFuel t) = tt
matches-no_choice G E s (Ends Undefined t) = tt
matches-no_choice G E s (Ends NoChoice t) = tt

-- two ends match by themselves, so what goes on states is free
matches-any : {L M : Type 0} (G H E : State L → State M → Type 0) (end other : End) (s : State L) (t : State M)
    → Matches G E (Ends end s) (Ends other t) → Matches H E (Ends end s) (Ends other t)
matches-any G H E end Undefined s t h = tt
matches-any G H E (Waiting a) (Waiting b) s t h = h
matches-any G H E (Waiting a) OutOfFuel s t h = h
matches-any G H E (Waiting a) NoChoice s t h = h
matches-any G H E OutOfFuel (Waiting b) s t h = h
matches-any G H E OutOfFuel OutOfFuel s t h = h
matches-any G H E OutOfFuel NoChoice s t h = h
matches-any G H E Undefined (Waiting b) s t h = h
matches-any G H E Undefined OutOfFuel s t h = h
matches-any G H E Undefined NoChoice s t h = h
matches-any G H E NoChoice (Waiting b) s t h = tt
matches-any G H E NoChoice OutOfFuel s t h = tt
matches-any G H E NoChoice NoChoice s t h = tt

-- runs, and what goes on from the states that they come to
pub matches-then_do : {L M : Type 0} (G H E : State L → State M → Type 0) (q : Run L) (p : Run M) (f : State L
    → Run L) (g : State M → Run M) → Matches G E q p → ((s : State L) (t : State M) → q ≡ Goes s → p ≡ Goes t → G s t
    → Matches H E (f s) (g t)) → Matches H E (then_do q f) (then_do p g)
matches-then_do G H E (Goes s) (Goes t) f g h next = next s t refl refl h
matches-then_do G H E (Goes s) (Ends Undefined t) f g h next = tt
matches-then_do G H E (Goes s) (Ends (Waiting a) t) f g h next = absurd h
matches-then_do G H E (Goes s) (Ends OutOfFuel t) f g h next = absurd h
matches-then_do G H E (Goes s) (Ends NoChoice t) f g h next = absurd h
matches-then_do G H E (Ends NoChoice s) (Goes t) f g h next = matches-no_choice H E s (g t)
matches-then_do G H E (Ends (Waiting a) s) (Goes t) f g h next = absurd h
matches-then_do G H E (Ends OutOfFuel s) (Goes t) f g h next = absurd h
matches-then_do G H E (Ends Undefined s) (Goes t) f g h next = absurd h
matches-then_do G H E (Ends end s) (Ends other t) f g h next = matches-any G H E end other s t h

-- another relation of the states in which they go on
pub matches-weaker : {L M : Type 0} (G H E : State L → State M → Type 0) (q : Run L) (p : Run M) → Matches G E q p
    → ((s : State L) (t : State M) → G s t → H s t) → Matches H E q p
matches-weaker G H E (Goes s) (Goes t) h weaker = weaker s t h
matches-weaker G H E (Goes s) (Ends Undefined t) h weaker = tt
matches-weaker G H E (Goes s) (Ends (Waiting a) t) h weaker = absurd h
matches-weaker G H E (Goes s) (Ends OutOfFuel t) h weaker = absurd h
matches-weaker G H E (Goes s) (Ends NoChoice t) h weaker = absurd h
matches-weaker G H E (Ends NoChoice s) (Goes t) h weaker = tt
matches-weaker G H E (Ends (Waiting a) s) (Goes t) h weaker = absurd h
matches-weaker G H E (Ends OutOfFuel s) (Goes t) h weaker = absurd h
matches-weaker G H E (Ends Undefined s) (Goes t) h weaker = absurd h
matches-weaker G H E (Ends end s) (Ends other t) h weaker = matches-any G H E end other s t h

-- what is there for the second run is there for the first
pub matches-with_defined : {L M X : Type 0} (G E : State L → State M
    → Type 0) (a b : Option X) (s : State L) (t : State M) (f : X → Run L) (g : X → Run M) → IsSameDefined a b
    → ((x : X) → b ≡ Some x → Matches G E (f x) (g x)) → Matches G E (with_defined a s f) (with_defined b t g)
matches-with_defined G E a None s t f g h next = tt
matches-with_defined G E a (Some x) s t f g (inl none) next = absurd (cc none)
matches-with_defined G E a (Some x) s t f g (inr same) next =
    subst (λ o. Matches G E (with_defined o s f) (g x)) (sym same) (next x refl)

-- the same where each may be of a kind of its own
pub matches-choose : {L M : Type 0} (G E : State L → State M → Type 0) (b : Bool) (q r : Run L) (p o : Run M)
    → (b ≡ true → Matches G E q p) → (b ≡ false → Matches G E r o) → Matches G E (choose b q r) (choose b p o)
matches-choose G E true q r p o h k = h refl
matches-choose G E false q r p o h k = k refl

matches-spend : {L M : Type 0} (G E : State L → State M → Type 0) (n m : ℕ) (s : State L) (t : State M) (f : State L
    → Run L) (g : State M → Run M) → n ≡ m → (m ≡ 0 → E (record s { fuel = n }) (record t { fuel = m }))
    → ((k : ℕ) → m ≡ suc k → Matches G E (f (record s { fuel = k })) (g (record t { fuel = k })))
    → Matches G E (with_fuel (record s { fuel = n }) f) (with_fuel (record t { fuel = m }) g)
matches-spend G E zero zero s t f g same none next = (refl, none refl)
matches-spend G E (suc k) (suc j) s t f g same none next =
    let e : k ≡ j = omega (arith, same) in
    subst (λ i. Matches G E (f (record s { fuel = i })) (g (record t { fuel = j }))) (sym e) (next j refl)
matches-spend G E zero (suc j) s t f g same none next = absurd (omega (arith, same))
matches-spend G E (suc k) zero s t f g same none next = absurd (omega (arith, same))

-- a unit of fuel is taken from both
pub matches-with_fuel : {L M : Type 0} (G E : State L → State M → Type 0) (s : State L) (t : State M) (f : State L
    → Run L) (g : State M → Run M) → s.fuel ≡ t.fuel → (t.fuel ≡ 0 → E s t) → ((k : ℕ) → t.fuel ≡ suc k
    → Matches G E (f (record s { fuel = k })) (g (record t { fuel = k }))) → Matches G E (with_fuel s f) (with_fuel t g)
matches-with_fuel G E s t f g same none next = matches-spend G E s.fuel t.fuel s t f g same none next

-- a relation of the states at a loop's test: what the loop asks of it
pub record AtTest {L M : Type 0} (G E : State L → State M → Type 0) : Type 0 where
  pub fuel : (s : State L) (t : State M) → G s t → s.fuel ≡ t.fuel
  pub spent : (s : State L) (t : State M) (k : ℕ) → G s t → t.fuel ≡ suc k
      → G (record s { fuel = k }) (record t { fuel = k })
  pub ends : (s : State L) (t : State M) → G s t → E s t

pub matches-loop : {L M : Type 0} (G E : State L → State M → Type 0) (bound : ℕ) (a : State L → Option ℕ) (b : State M
    → Option ℕ) (f : State L → Run L) (g : State M → Run M) → AtTest G E → ((s : State L) (t : State M)
    → G s t → IsSameDefined (a s) (b t)) → ((s : State L) (t : State M) → G s t → Matches G E (f s) (g t))
    → (s : State L) (t : State M) → G s t → Matches G E (loop bound a f s) (loop bound b g t)
matches-loop G E zero a b f g at tests turns s t h =
    matches-with_defined G E (a s) (b t) s t (λ v. choose (v == 0) (Goes s) (Ends OutOfFuel s))
    (λ v. choose (v == 0) (Goes t) (Ends OutOfFuel t)) (tests s t h) (λ v is.
    matches-choose G E (v == 0) (Goes s) (Ends OutOfFuel s) (Goes t) (Ends OutOfFuel t) (λ e. h)
    (λ e. (refl, at.ends s t h)))
matches-loop {L} {M} G E (suc bound) a b f g at tests turns s t h =
    let again : State L → Run L = λ u. then_do (f u) (loop bound a f) in
    let others : State M → Run M = λ u. then_do (g u) (loop bound b g) in
    matches-with_defined G E (a s) (b t) s t (λ v. choose (v == 0) (Goes s) (with_fuel s again))
    (λ v. choose (v == 0) (Goes t) (with_fuel t others)) (tests s t h) (λ v is.
    matches-choose G E (v == 0) (Goes s) (with_fuel s again) (Goes t) (with_fuel t others) (λ e. h) (λ e.
    matches-with_fuel G E s t again others (at.fuel s t h) (λ none. at.ends s t h) (λ k is.
    let u : State L = record s { fuel = k } in
    let v : State M = record t { fuel = k } in
    matches-then_do G G E (f u) (g v) (loop bound a f) (loop bound b g) (turns u v (at.spent s t k h is))
    (λ x y there here i. matches-loop G E bound a b f g at tests turns x y i))))

-- the state in which a buffer's body begins, and that in which it ends
abbrev pub given : {L : Type 0} → (ℕ → L → L) → Choice → List Choice → State L → State L
given keep c cs s =
    record s { locals = keep c.addr s.locals; memory = with_bytes s.memory c.addr c.bytes; choices = cs }

abbrev pub taken_back : {L : Type 0} → Choice → ℕ → State L → State L
taken_back c n s = record s { memory = without_range s.memory c.addr n }

matches-good : {L M : Type 0} (G E : State L
    → State M → Type 0) (a b : Bool) (q : Run L) (s : State L) (p : Run M) (t : State M) → (a ≡ true → b ≡ true)
    → (a ≡ true → Matches G E q p) → Matches G E (choose a q (Ends NoChoice s)) (choose b p (Ends NoChoice t))
matches-good G E true true q s p t good h = h refl
matches-good G E true false q s p t good h = absurd (cc (good refl))
matches-good G E false true q s p t good h = matches-no_choice G E s p
matches-good G E false false q s p t good h = tt

matches-take_choice : {L M : Type 0} (G H E : State L → State M → Type 0) (cs ds : List Choice) (n : ℕ) (keep : ℕ
    → L → L) (hold : ℕ → M → M) (f : State L → Run L) (g : State M → Run M) (s : State L) (t : State M) → cs ≡ ds
    → ((c : Choice) → is_good n s.memory c ≡ true → is_good n t.memory c ≡ true) → ((c : Choice) (rest : List Choice)
    → ds ≡ c ∷ rest → is_good n s.memory c ≡ true → Matches H E (f (given keep c rest s)) (g (given hold c rest t)))
    → ((c : Choice) (rest : List Choice) (u : State L) (v : State M)
    → ds ≡ c ∷ rest → is_good n s.memory c ≡ true → H u v → G (taken_back c n u) (taken_back c n v))
    → Matches G E (with_buffer keep n f (record s { choices = cs })) (with_buffer hold n g (record t { choices = ds }))
matches-take_choice G H E [] [] n keep hold f g s t same good body back = tt
matches-take_choice G H E [] (d ∷ ds) n keep hold f g s t same good body back = absurd (cc same)
matches-take_choice G H E (c ∷ cs) [] n keep hold f g s t same good body back = absurd (cc same)
matches-take_choice {L} {M} G H E (c ∷ cs) (d ∷ ds) n keep hold f g s t same good body back =
    let first : c ≡ d = cc same in
    let rest : cs ≡ ds = cc same in
    let make : Choice → List Choice → Run L = λ x xs. with_buffer keep n f (record s { choices = x ∷ xs }) in
    let done : State L → Run L = λ u. Goes (taken_back d n u) in
    let over : State M → Run M = λ v. Goes (taken_back d n v) in
    subst (λ x. Matches G E (make x cs) (with_buffer hold n g (record t { choices = d ∷ ds }))) (sym first)
    (subst (λ xs. Matches G E (make d xs) (with_buffer hold n g (record t { choices = d ∷ ds }))) (sym rest)
    (matches-good G E (is_good n s.memory d) (is_good n t.memory d)
    (then_do (f (given keep d ds s)) done) (record s { choices = d ∷ ds })
    (then_do (g (given hold d ds t)) over) (record t { choices = d ∷ ds })
    (good d) (λ is.
    matches-then_do H G E (f (given keep d ds s)) (g (given hold d ds t)) done over (body d ds refl is)
    (λ u v there here h. back d ds u v refl is h))))

-- Both take the next choice. Where it is good for the first it is for the second.
pub matches-with_buffer : {L M : Type 0} (G H E : State L → State M → Type 0) (n : ℕ) (keep : ℕ
    → L → L) (hold : ℕ → M → M) (f : State L → Run L) (g : State M → Run M) (s : State L) (t : State M)
    → s.choices ≡ t.choices → ((c : Choice) → is_good n s.memory c ≡ true → is_good n t.memory c ≡ true)
    → ((c : Choice) (rest : List Choice) → t.choices ≡ c ∷ rest
    → is_good n s.memory c ≡ true → Matches H E (f (given keep c rest s)) (g (given hold c rest t)))
    → ((c : Choice) (rest : List Choice) (u : State L) (v : State M)
    → t.choices ≡ c ∷ rest → is_good n s.memory c ≡ true → H u v → G (taken_back c n u) (taken_back c n v))
    → Matches G E (with_buffer keep n f s) (with_buffer hold n g t)
matches-with_buffer G H E n keep hold f g s t same good body back =
    matches-take_choice G H E s.choices t.choices n keep hold f g s t same good body back

matches-take_answer : {L M : Type 0} (G E : State L
    → State M → Type 0) (vs ws : List ℕ) (a : ℕ) (keep : ℕ → L → L) (hold : ℕ → M → M) (s : State L) (t : State M)
    → vs ≡ ws → E (record s { answers = vs }) (record t { answers = ws }) → ((v : ℕ) (rest : List ℕ)
    → ws ≡ v ∷ rest → G (happens (Read a v) (record s { locals = keep v s.locals; answers = rest }))
    (happens (Read a v) (record t { locals = hold v t.locals; answers = rest })))
    → Matches G E (read_device keep a (record s { answers = vs })) (read_device hold a (record t { answers = ws }))
matches-take_answer G E [] [] a keep hold s t same ends next =
    let now = record s { answers = [] } in
    let then = record t { answers = [] } in
    matches-choose G E (is_device_word a) (Ends (Waiting a) now) (Ends Undefined now) (Ends (Waiting a) then)
    (Ends Undefined then) (λ e. (refl, ends)) (λ e. tt)
matches-take_answer G E [] (w ∷ ws) a keep hold s t same ends next = absurd (cc same)
matches-take_answer G E (v ∷ vs) [] a keep hold s t same ends next = absurd (cc same)
matches-take_answer {L} {M} G E (v ∷ vs) (w ∷ ws) a keep hold s t same ends next =
    let first : v ≡ w = cc same in
    let rest : vs ≡ ws = cc same in
    let then : State M = record t { answers = w ∷ ws } in
    let here : State M = happens (Read a w) (record t { locals = hold w t.locals; answers = ws }) in
    let make : ℕ → List ℕ → Run L = λ x xs. read_device keep a (record s { answers = x ∷ xs }) in
    subst (λ x. Matches G E (make x vs) (read_device hold a then)) (sym first)
    (subst (λ xs. Matches G E (make w xs) (read_device hold a then)) (sym rest)
    (matches-choose G E (is_device_word a)
    (Goes (happens (Read a w) (record s { locals = keep w s.locals; answers = ws }))) (Ends Undefined
    (record s { answers = w ∷ ws })) (Goes here) (Ends Undefined then) (λ e. next w ws refl) (λ e. tt)))

-- both read the same device word
pub matches-read_device : {L M : Type 0} (G E : State L → State M → Type 0) (a : ℕ) (keep : ℕ → L
    → L) (hold : ℕ → M → M) (s : State L) (t : State M) → s.answers ≡ t.answers → E s t → ((v : ℕ) (rest : List ℕ)
    → t.answers ≡ v ∷ rest → G (happens (Read a v) (record s { locals = keep v s.locals; answers = rest }))
    (happens (Read a v) (record t { locals = hold v t.locals; answers = rest })))
    → Matches G E (read_device keep a s) (read_device hold a t)
matches-read_device G E a keep hold s t same ends next =
    matches-take_answer G E s.answers t.answers a keep hold s t same ends next

-- both write the same device word
pub matches-write_device : {L M : Type 0} (G E : State L → State M → Type 0) (a v : ℕ) (s : State L) (t : State M)
    → G (happens (Write a v) s) (happens (Write a v) t) → Matches G E (write_device a v s) (write_device a v t)
matches-write_device G E a v s t h =
    matches-choose G E (is_device_word a) (Goes (happens (Write a v) s)) (Ends Undefined s)
    (Goes (happens (Write a v) t)) (Ends Undefined t) (λ e. h) (λ e. tt)

-- calls that match, back in their callers
pub matches-back_in : {L M : Type 0} (C G E : State L → State M
    → Type 0) (keep : List ℕ → L → L) (hold : List ℕ → M → M) (l : L) (m : M) (q : Returned L) (p : Returned M)
    → CallMatches C E q p → ((vs : List ℕ) (s : State L) (t : State M)
    → p ≡ Returns vs t → C s t → G (record s { locals = keep vs l }) (record t { locals = hold vs m }))
    → Matches G E (back_in keep l q) (back_in hold m p)
matches-back_in C G E keep hold l m (Returns vs s) (Returns ws t) h next =
    subst (λ us. G (record s { locals = keep us l }) (record t { locals = hold ws m })) (sym h.0) (next ws s t refl h.1)
matches-back_in C G E keep hold l m (Returns vs s) (Stops Undefined t) h next = tt
matches-back_in C G E keep hold l m (Returns vs s) (Stops (Waiting a) t) h next = absurd h
matches-back_in C G E keep hold l m (Returns vs s) (Stops OutOfFuel t) h next = absurd h
matches-back_in C G E keep hold l m (Returns vs s) (Stops NoChoice t) h next = absurd h
matches-back_in C G E keep hold l m (Stops NoChoice s) (Returns ws t) h next = tt
matches-back_in C G E keep hold l m (Stops (Waiting a) s) (Returns ws t) h next = absurd h
matches-back_in C G E keep hold l m (Stops OutOfFuel s) (Returns ws t) h next = absurd h
matches-back_in C G E keep hold l m (Stops Undefined s) (Returns ws t) h next = absurd h
matches-back_in C G E keep hold l m (Stops end s) (Stops Undefined t) h next = tt
matches-back_in C G E keep hold l m (Stops NoChoice s) (Stops (Waiting b) t) h next = tt
matches-back_in C G E keep hold l m (Stops NoChoice s) (Stops OutOfFuel t) h next = tt
matches-back_in C G E keep hold l m (Stops NoChoice s) (Stops NoChoice t) h next = tt
matches-back_in C G E keep hold l m (Stops (Waiting a) s) (Stops (Waiting b) t) h next = h
matches-back_in C G E keep hold l m (Stops (Waiting a) s) (Stops OutOfFuel t) h next = h
matches-back_in C G E keep hold l m (Stops (Waiting a) s) (Stops NoChoice t) h next = h
matches-back_in C G E keep hold l m (Stops OutOfFuel s) (Stops (Waiting b) t) h next = h
matches-back_in C G E keep hold l m (Stops OutOfFuel s) (Stops OutOfFuel t) h next = h
matches-back_in C G E keep hold l m (Stops OutOfFuel s) (Stops NoChoice t) h next = h
matches-back_in C G E keep hold l m (Stops Undefined s) (Stops (Waiting b) t) h next = h
matches-back_in C G E keep hold l m (Stops Undefined s) (Stops OutOfFuel t) h next = h
matches-back_in C G E keep hold l m (Stops Undefined s) (Stops NoChoice t) h next = h
