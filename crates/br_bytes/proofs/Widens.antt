-- Two runs from states that differ by what the second has more: fuel, answers and choices.
use Rattle.std.proofs.Common.{◌≡◌, ◌≢◌, ℕ, zero, suc, ◌+◌, ◌<◌, ◌≤◌, Bool, true, false, ◌==◌, List, []}
use Rattle.std.proofs.Common.{◌∷◌, ◌++◌, Option, Some, None, ◌⊎◌, inl, inr, refl, sym, ap, subst, arith}
use Rattle.br_words.specs.Device.{is_device_word}
use Rattle.br_bytes.specs.declared.run.Event.TheVariants.{Read, Write}
use Rattle.br_bytes.specs.declared.run.Choice.{Choice}
use Rattle.br_bytes.specs.Memory.{Memory, with_bytes}
use Rattle.br_bytes.specs.Buffers.{is_good, without_range}
use Rattle.br_bytes.specs.Runs.{State, End, Waiting, OutOfFuel, Undefined, NoChoice, Run, Goes, Ends}
use Rattle.br_bytes.specs.Runs.{then_do, with_defined, choose, with_fuel, with_buffer, loop, read_device}
use Rattle.br_bytes.specs.Runs.{write_device, Callee, Returned, Returns, Stops, back_in, returned}
use Rattle.br_bytes.specs.Left.{BeginsWith, CanLeave, last, last_of_call}
use Rattle.br_bytes.proofs.Leaves.{begins_refl, begins_trans, Takes, leaves-with_fuel, leaves-with_buffer}
use Rattle.br_bytes.proofs.Leaves.{leaves-loop, leaves-then_do, leaves-returned, leave_refl}

-- what a second state has more
pub record More : Type 0 where
  pub fuel : ℕ
  pub answers : List ℕ
  pub choices : List Choice

abbrev pub widen : {L : Type 0} → More → State L → State L
widen m s = record s { answers = s.answers ++ m.answers; choices = s.choices ++ m.choices; fuel = s.fuel + m.fuel }

-- an end that what there is more may put off
abbrev pub IsPutOff : More → End → Type 0
IsPutOff m (Waiting a) = m.answers ≢ []
IsPutOff m OutOfFuel = 0 < m.fuel
IsPutOff m NoChoice = m.choices ≢ []
IsPutOff m Undefined = ⊥

-- the second run comes to the same with as much more left, or goes on after the end of the first
abbrev pub Alike : {L : Type 0} → More → Run L → Run L → Type 0
Alike m (Goes t) r = r ≡ Goes (widen m t)
Alike m (Ends end t) r = (r ≡ Ends end (widen m t)) ⊎ (IsPutOff m end × BeginsWith (last r).trace t.trace)

abbrev pub AlikeCalls : {L : Type 0} → More → Returned L → Returned L → Type 0
AlikeCalls m (Returns vs t) r = r ≡ Returns vs (widen m t)
AlikeCalls m (Stops end t) r =
    (r ≡ Stops end (widen m t)) ⊎ (IsPutOff m end × BeginsWith (last_of_call r).trace t.trace)

-- two meanings are alike from each state with at most n fuel
abbrev pub AreAlike : {L : Type 0} → More → ℕ → (State L → Run L) → (State L → Run L) → Type 0
AreAlike {L} m n f g = (s : State L) → s.fuel ≤ n → Alike m (f s) (g (widen m s))

-- and so two meanings of functions, from each state with less than n fuel
abbrev pub CalleesAlike : {N L : Type 0} → More → ℕ → Callee N L → Callee N L → Type 0
CalleesAlike {N} {L} m n call more =
    (f : N) (vs : List ℕ) (t : State L) → t.fuel < n → AlikeCalls m (call f vs t) (more f vs (widen m t))

begins-then_do : {L : Type 0} (r : Run L) (next : State L → Run L) → Takes next
    → BeginsWith (last (then_do r next)).trace (last r).trace
begins-then_do (Goes t) next h = (h t).0
begins-then_do (Ends end t) next h = begins_refl t.trace

pub alike-then_do : {L : Type 0} (m : More) (r q : Run L) (f g : State L → Run L) → Alike m r q
    → ((t : State L) → r ≡ Goes t → Alike m (f t) (g (widen m t))) → Takes g → Alike m (then_do r f) (then_do q g)
alike-then_do m (Goes t) q f g h next keeps = subst (λ z. Alike m (f t) (then_do z g)) (sym h) (next t refl)
alike-then_do m (Ends end t) q f g (inl h) next keeps = inl (ap (λ z. then_do z g) h)
alike-then_do m (Ends end t) q f g (inr h) next keeps =
    inr (h.0, begins_trans t.trace (last q).trace (last (then_do q g)).trace h.1 (begins-then_do q g keeps))

pub alike-with_defined : {L : Type 0} → {X : Type 0} (m : More) (o : Option X) (s : State L) (f g : X → Run L)
    → ((x : X) → Alike m (f x) (g x)) → Alike m (with_defined o s f) (with_defined o (widen m s) g)
alike-with_defined m None s f g h = inl refl
alike-with_defined m (Some x) s f g h = h x

pub alike-choose : {L : Type 0} (m : More) (b : Bool) (p q r s : Run L) → Alike m p r → Alike m q s
    → Alike m (choose b p q) (choose b r s)
alike-choose m true p q r s h k = h
alike-choose m false p q r s h k = k

-- where no fuel is left
pub alike-out : {L : Type 0} (m : More) (n : ℕ) (s : State L) (g : State L → Run L) → Takes g → s.fuel ≡ 0
    → s.fuel + m.fuel ≡ n → Alike m (Ends OutOfFuel s) (with_fuel (widen m s) g)
alike-out m zero s g keeps none is =
    inl (subst (λ k. with_fuel (record (widen m s) { fuel = k }) g ≡ Ends OutOfFuel (record (widen m s) { fuel = k }))
    (sym is) refl)
alike-out m (suc n) s g keeps none is = inr (omega arith, (leaves-with_fuel (widen m s) g keeps).0)

alike-spend : {L : Type 0} (m : More) (n : ℕ) (s : State L) (f g : State L → Run L)
    → ((k : ℕ) → n ≡ suc k → Alike m (f (record s { fuel = k })) (g (widen m (record s { fuel = k })))) → Takes g
    → Alike m (with_fuel (record s { fuel = n }) f) (with_fuel (widen m (record s { fuel = n })) g)
alike-spend m zero s f g h keeps = alike-out m (0 + m.fuel) (record s { fuel = 0 }) g keeps refl refl
alike-spend m (suc k) s f g h keeps =
    let e : suc k + m.fuel ≡ suc (k + m.fuel) = omega arith in
    subst (λ j. Alike m (f (record s { fuel = k })) (with_fuel (record (widen m s) { fuel = j }) g)) (sym e) (h k refl)

pub alike-with_fuel : {L : Type 0} (m : More) (s : State L) (f g : State L → Run L)
    → ((k : ℕ) → s.fuel ≡ suc k → Alike m (f (record s { fuel = k })) (g (widen m (record s { fuel = k })))) → Takes g
    → Alike m (with_fuel s f) (with_fuel (widen m s) g)
alike-with_fuel m s f g h keeps = alike-spend m s.fuel s f g h keeps

with_fuel-none : {L : Type 0} (n : ℕ) (s : State L) (f : State L → Run L) → s.fuel ≡ 0
    → with_fuel s f ≡ Ends OutOfFuel s
with_fuel-none n s f is =
    subst (λ k. with_fuel (record s { fuel = k }) f ≡ Ends OutOfFuel (record s { fuel = k })) (sym is) refl

-- the fuel where a run goes on
pub fuel-goes : {L : Type 0} (s : State L) (r : Run L) (t : State L) → CanLeave s (last r) → r ≡ Goes t
    → t.fuel ≤ s.fuel
fuel-goes s r t h is = let k = subst (λ z. (last z).fuel ≤ s.fuel) is h.3 in k

-- loops, where the fuel is at most the bound
pub alike-loop : {L : Type 0} (m : More) (n low high : ℕ) (look : L → Memory → Option ℕ) (body more : State L → Run L)
    → AreAlike m n body more
    → Takes body → Takes more → (s : State L) → s.fuel ≤ n → s.fuel ≤ low → s.fuel + m.fuel ≤ high
    → Alike m (loop low (λ t. look t.locals t.memory) body s) (loop high (λ t. look t.locals t.memory) more (widen m s))
alike-loop {L} m n zero zero look body more h keeps keeps_more s a b c =
    let stop : (t : State L) → ℕ → Run L = λ t v. choose (v == 0) (Goes t) (Ends OutOfFuel t) in
    alike-with_defined m (look s.locals s.memory) s (stop s) (stop (widen m s)) (λ v.
    alike-choose m (v == 0) (Goes s) (Ends OutOfFuel s) (Goes (widen m s)) (Ends OutOfFuel (widen m s)) refl (inl refl))
alike-loop {L} m n zero (suc high) look body more h keeps keeps_more s a b c =
    let test : State L → Option ℕ = λ t. look t.locals t.memory in
    let turn : State L → Run L = λ t. then_do (more t) (loop high test more) in
    let takes : Takes turn =
    λ t. leaves-then_do t (more t) (loop high test more) (keeps_more t) (leaves-loop high test more keeps_more) in
    alike-with_defined m (test s) s (λ v. choose (v == 0) (Goes s) (Ends OutOfFuel s))
    (λ v. choose (v == 0) (Goes (widen m s)) (with_fuel (widen m s) turn)) (λ v.
    alike-choose m (v == 0) (Goes s) (Ends OutOfFuel s) (Goes (widen m s)) (with_fuel (widen m s) turn) refl
    (alike-out m (s.fuel + m.fuel) s turn takes (omega arith) refl))
alike-loop {L} m n (suc low) zero look body more h keeps keeps_more s a b c =
    let test : State L → Option ℕ = λ t. look t.locals t.memory in
    let turn : State L → Run L = λ t. then_do (body t) (loop low test body) in
    alike-with_defined m (test s) s (λ v. choose (v == 0) (Goes s) (with_fuel s turn))
    (λ v. choose (v == 0) (Goes (widen m s)) (Ends OutOfFuel (widen m s))) (λ v.
    alike-choose m (v == 0) (Goes s) (with_fuel s turn) (Goes (widen m s)) (Ends OutOfFuel (widen m s)) refl
    (subst (λ z. Alike m z (Ends OutOfFuel (widen m s))) (sym (with_fuel-none 0 s turn (omega arith))) (inl refl)))
alike-loop {L} m n (suc low) (suc high) look body more h keeps keeps_more s a b c =
    let test : State L → Option ℕ = λ t. look t.locals t.memory in
    let turn : State L → Run L = λ t. then_do (body t) (loop low test body) in
    let turn_more : State L → Run L = λ t. then_do (more t) (loop high test more) in
    let takes : Takes turn_more =
    λ t. leaves-then_do t (more t) (loop high test more) (keeps_more t) (leaves-loop high test more keeps_more) in
    alike-with_defined m (test s) s (λ v. choose (v == 0) (Goes s) (with_fuel s turn))
    (λ v. choose (v == 0) (Goes (widen m s)) (with_fuel (widen m s) turn_more)) (λ v.
    alike-choose m (v == 0) (Goes s) (with_fuel s turn) (Goes (widen m s)) (with_fuel (widen m s) turn_more) refl
    (alike-with_fuel m s turn turn_more (λ k is.
    let now : State L = record s { fuel = k } in
    alike-then_do m (body now) (more (widen m now)) (loop low test body) (loop high test more) (h now (omega arith))
    (λ t goes.
    let less = fuel-goes now (body now) t (keeps now) goes in
    alike-loop m n low high look body more h keeps keeps_more t (omega (arith, less)) (omega (arith, less))
    (omega (arith, less)))
    (leaves-loop high test more keeps_more)) takes))

no_choice : {L : Type 0} (more : List Choice) (m : More) (s : State L) (keep : ℕ → L → L) (size : ℕ) (body : State L
    → Run L) → Takes body → m.choices ≡ more → Alike m (Ends NoChoice (record s { choices = [] })) (with_buffer keep
    size body (widen m (record s { choices = [] })))
no_choice {L} [] m s keep size body keeps is =
    let with : List Choice → State L = λ cs. record (widen m s) { choices = cs } in
    inl (subst (λ cs. with_buffer keep size body (with cs) ≡ Ends NoChoice (with cs)) (sym is) refl)
no_choice (c ∷ cs) m s keep size body keeps is =
    inr ((λ none. cc (is, none)), (leaves-with_buffer keep size body keeps (widen m (record s { choices = [] }))).0)

alike-take_choice : {L : Type 0} (cs : List Choice) (m : More) (n : ℕ) (s : State L) (keep : ℕ → L → L) (size : ℕ)
    (body more : State L → Run L) → AreAlike m n body more → Takes more → s.fuel ≤ n → Alike m (with_buffer keep size
    body (record s { choices = cs })) (with_buffer keep size more (widen m (record s { choices = cs })))
alike-take_choice [] m n s keep size body more h keeps a = no_choice m.choices m s keep size more keeps refl
alike-take_choice {L} (c ∷ cs) m n s keep size body more h keeps a =
    let now : State L = record s { choices = c ∷ cs } in
    let given : State L =
    record s { locals = keep c.addr s.locals; memory = with_bytes s.memory c.addr c.bytes; choices = cs } in
    let done : State L → Run L = λ t. Goes (record t { memory = without_range t.memory c.addr size }) in
    alike-choose m (is_good size s.memory c) (then_do (body given) done) (Ends NoChoice now)
    (then_do (more (widen m given)) done) (Ends NoChoice (widen m now))
    (alike-then_do m (body given) (more (widen m given)) done done (h given a) (λ t is. refl)
    (λ t. (begins_refl t.trace, ([], refl), ([], refl), omega arith)))
    (inl refl)

pub alike-with_buffer : {L : Type 0} (m : More) (n : ℕ) (keep : ℕ → L → L) (size : ℕ) (body more : State L → Run L)
    → AreAlike m n body more → Takes more → AreAlike m n (with_buffer keep size body) (with_buffer keep size more)
alike-with_buffer m n keep size body more h keeps s a = alike-take_choice s.choices m n s keep size body more h keeps a

no_answer : {L : Type 0} (more : List ℕ) (m : More) (s : State L) (keep : ℕ → L → L) (a : ℕ) → m.answers ≡ more →
    Alike m (read_device keep a (record s { answers = [] })) (read_device keep a (widen m (record s { answers = [] })))
no_answer {L} [] m s keep a is =
    let with : List ℕ → State L = λ vs. record (widen m s) { answers = vs } in
    subst (λ vs. Alike m (read_device keep a (record s { answers = [] })) (read_device keep a (with vs))) (sym is)
    (alike-choose m (is_device_word a) (Ends (Waiting a) (record s { answers = [] }))
    (Ends Undefined (record s { answers = [] })) (Ends (Waiting a) (with [])) (Ends Undefined (with []))
    (inl (ap (λ vs. Ends (Waiting a) (with vs)) (sym is))) (inl (ap (λ vs. Ends Undefined (with vs)) (sym is))))
no_answer {L} (v ∷ vs) m s keep a is =
    let with : List ℕ → State L = λ ws. record (widen m s) { answers = ws } in
    subst (λ ws. Alike m (read_device keep a (record s { answers = [] })) (read_device keep a (with ws))) (sym is)
    (alike-choose m (is_device_word a) (Ends (Waiting a) (record s { answers = [] }))
    (Ends Undefined (record s { answers = [] }))
    (Goes (record (widen m s) { locals = keep v s.locals; trace = s.trace ++ Read a v ∷ []; answers = vs }))
    (Ends Undefined (with (v ∷ vs)))
    (inr ((λ none. cc (is, none)), (Read a v ∷ [], refl))) (inl (ap (λ ws. Ends Undefined (with ws)) (sym is))))

alike-take_answer : {L : Type 0} (vs : List ℕ) (m : More) (s : State L) (keep : ℕ → L → L) (a : ℕ) →
    Alike m (read_device keep a (record s { answers = vs })) (read_device keep a (widen m (record s { answers = vs })))
alike-take_answer [] m s keep a = no_answer m.answers m s keep a refl
alike-take_answer {L} (v ∷ vs) m s keep a =
    let now : State L = record s { answers = v ∷ vs } in
    let after : State L = record s { locals = keep v s.locals; trace = s.trace ++ Read a v ∷ []; answers = vs } in
    alike-choose m (is_device_word a) (Goes after) (Ends Undefined now) (Goes (widen m after))
    (Ends Undefined (widen m now)) refl (inl refl)

pub alike-back_in : {L : Type 0} (m : More) (keep : List ℕ → L → L) (locals : L) (r q : Returned L) → AlikeCalls m r q
    → Alike m (back_in keep locals r) (back_in keep locals q)
alike-back_in m keep locals (Returns vs t) q h = ap (back_in keep locals) h
alike-back_in m keep locals (Stops end t) q (inl h) = inl (ap (back_in keep locals) h)
alike-back_in m keep locals (Stops end t) (Returns vs u) (inr h) = inr h
alike-back_in m keep locals (Stops end t) (Stops other u) (inr h) = inr h

alike-read : {L : Type 0} (o : Option (List ℕ)) (m : More) (results : L → Option (List ℕ)) (t : State L)
    → results t.locals ≡ o → AlikeCalls m (returned results (Goes t)) (returned results (Goes (widen m t)))
alike-read None m results t is = rw is (inl refl)
alike-read (Some vs) m results t is = rw is refl

begins-returned : {L : Type 0} (results : L → Option (List ℕ)) (r : Run L)
    → BeginsWith (last_of_call (returned results r)).trace (last r).trace
begins-returned results (Goes t) = (leaves-returned t results (Goes t) (leave_refl t)).0
begins-returned results (Ends end t) = begins_refl t.trace

pub alike-returned : {L : Type 0} (m : More) (results : L → Option (List ℕ)) (r q : Run L) → Alike m r q
    → AlikeCalls m (returned results r) (returned results q)
alike-returned m results (Goes t) q h = subst (λ z. AlikeCalls m (returned results (Goes t)) (returned results z))
    (sym h) (alike-read (results t.locals) m results t refl)
alike-returned m results (Ends end t) q (inl h) = inl (ap (returned results) h)
alike-returned m results (Ends end t) q (inr h) = inr
    (h.0, begins_trans t.trace (last q).trace (last_of_call (returned results q)).trace h.1 (begins-returned results q))

pub alike-read_device : {L : Type 0} (m : More) (keep : ℕ → L → L) (a : ℕ) (s : State L)
    → Alike m (read_device keep a s) (read_device keep a (widen m s))
alike-read_device m keep a s = alike-take_answer s.answers m s keep a

pub alike-write_device : {L : Type 0} (m : More) (a v : ℕ) (s : State L)
    → Alike m (write_device a v s) (write_device a v (widen m s))
alike-write_device {L} m a v s =
    let after : State L = record s { trace = s.trace ++ Write a v ∷ [] } in
    alike-choose m (is_device_word a) (Goes after) (Ends Undefined s) (Goes (widen m after))
    (Ends Undefined (widen m s)) refl (inl refl)
