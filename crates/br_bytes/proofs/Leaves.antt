-- What runs leave: the earlier events stay, answers and choices are taken from the front, and fuel
-- does not grow.
use Rattle.std.proofs.Common.{◌≡◌, ℕ, zero, suc, Bool, true, false, ◌==◌, List, [], ◌∷◌, ◌++◌, Option}
use Rattle.std.proofs.Common.{Some, None, refl, sym, ap, ◌∙◌, append_assoc, append-nil, arith}
use Rattle.br_words.specs.Device.{is_device_word}
use Rattle.br_bytes.specs.declared.run.Event.TheVariants.{Read, Write}
use Rattle.br_bytes.specs.declared.run.Choice.{Choice}
use Rattle.br_bytes.specs.Memory.{with_bytes}
use Rattle.br_bytes.specs.Buffers.{is_good, without_range}
use Rattle.br_bytes.specs.Runs.{State, Waiting, OutOfFuel, Undefined, NoChoice, Run, Goes, Ends}
use Rattle.br_bytes.specs.Runs.{then_do, with_defined, choose, with_fuel, with_buffer, loop}
use Rattle.br_bytes.specs.Runs.{read_device, write_device, Returned, Returns, Stops, back_in, returned}
use Rattle.br_bytes.specs.Left.{BeginsWith, EndsWith, CanLeave, last, last_of_call}

pub begins_refl : {X : Type 0} (xs : List X) → BeginsWith xs xs
begins_refl xs = ([], sym (append-nil xs))

pub begins_trans : {X : Type 0} (xs ys zs : List X) → BeginsWith ys xs → BeginsWith zs ys → BeginsWith zs xs
begins_trans xs ys zs a b = (a.0 ++ b.0, b.1 ∙ ap (λ q. q ++ b.0) a.1 ∙ append_assoc xs a.0 b.0)

pub ends_trans : {X : Type 0} (xs ys zs : List X) → EndsWith xs ys → EndsWith ys zs → EndsWith xs zs
ends_trans xs ys zs a b = (a.0 ++ b.0, a.1 ∙ ap (λ q. a.0 ++ q) b.1 ∙ sym (append_assoc a.0 b.0 zs))

pub leave_refl : {L : Type 0} (s : State L) → CanLeave s s
leave_refl s = (begins_refl s.trace, ([], refl), ([], refl), omega arith)

pub leave_trans : {L : Type 0} (s t u : State L) → CanLeave s t → CanLeave t u → CanLeave s u
leave_trans s t u a b = (
  begins_trans s.trace t.trace u.trace a.0 b.0,
  ends_trans s.answers t.answers u.answers a.1 b.1,
  ends_trans s.choices t.choices u.choices a.2 b.2,
  omega (arith, a.3, b.3),
)

-- from every state, a meaning leaves what can be left
abbrev pub Takes : {L : Type 0} → (State L → Run L) → Type 0
Takes {L} f = (s : State L) → CanLeave s (last (f s))

pub leaves-then_do : {L : Type 0} (s : State L) (r : Run L) (next : State L → Run L) → CanLeave s (last r) → Takes next
    → CanLeave s (last (then_do r next))
leaves-then_do s (Goes t) next h keeps = leave_trans s t (last (next t)) h (keeps t)
leaves-then_do s (Ends end t) next h keeps = h

pub leaves-with_defined : {L X : Type 0} (o : Option X) (s : State L) (next : X → Run L)
    → ((x : X) → CanLeave s (last (next x))) → CanLeave s (last (with_defined o s next))
leaves-with_defined None s next h = leave_refl s
leaves-with_defined (Some x) s next h = h x

pub leaves-choose : {L : Type 0} (b : Bool) (s : State L) (p q : Run L) → CanLeave s (last p) → CanLeave s (last q)
    → CanLeave s (last (choose b p q))
leaves-choose true s p q a b = a
leaves-choose false s p q a b = b

-- a state with one unit of fuel less
leave_spent : {L : Type 0} (s : State L) (k : ℕ) → CanLeave (record s { fuel = suc k }) (record s { fuel = k })
leave_spent s k = (begins_refl s.trace, ([], refl), ([], refl), omega arith)

leaves-spend : {L : Type 0} (n : ℕ) (s : State L) (next : State L → Run L) → Takes next
    → CanLeave (record s { fuel = n }) (last (with_fuel (record s { fuel = n }) next))
leaves-spend zero s next h = leave_refl (record s { fuel = 0 })
leaves-spend (suc k) s next h =
    leave_trans (record s { fuel = suc k }) (record s { fuel = k }) (last (next (record s { fuel = k })))
    (leave_spent s k) (h (record s { fuel = k }))

pub leaves-with_fuel : {L : Type 0} (s : State L) (next : State L → Run L) → Takes next
    → CanLeave s (last (with_fuel s next))
leaves-with_fuel s next h = leaves-spend s.fuel s next h

pub leaves-loop : {L : Type 0} (bound : ℕ) (test : State L → Option ℕ) (body : State L → Run L) → Takes body
    → Takes (loop bound test body)
leaves-loop zero test body h s =
    leaves-with_defined (test s) s (λ v. choose (v == 0) (Goes s) (Ends OutOfFuel s))
    (λ v. leaves-choose (v == 0) s (Goes s) (Ends OutOfFuel s) (leave_refl s) (leave_refl s))
leaves-loop {L} (suc bound) test body h s =
    let turn : State L → Run L = λ t. then_do (body t) (loop bound test body) in
    let by_turn : Takes turn =
    λ t. leaves-then_do t (body t) (loop bound test body) (h t) (leaves-loop bound test body h) in
    leaves-with_defined (test s) s (λ v. choose (v == 0) (Goes s) (with_fuel s turn))
    (λ v. leaves-choose (v == 0) s (Goes s) (with_fuel s turn) (leave_refl s) (leaves-with_fuel s turn by_turn))

leave_chosen : {L : Type 0} (s : State L) (c : Choice) (cs : List Choice)
    → CanLeave (record s { choices = c ∷ cs }) (record s { choices = cs })
leave_chosen s c cs = (begins_refl s.trace, ([], refl), (c ∷ [], refl), omega arith)

leaves-take_choice : {L : Type 0} (cs : List Choice) (s : State L) (keep : ℕ → L → L) (n : ℕ) (body : State L → Run L)
    → Takes body → CanLeave (record s { choices = cs }) (last (with_buffer keep n body (record s { choices = cs })))
leaves-take_choice [] s keep n body h = leave_refl (record s { choices = [] })
leaves-take_choice {L} (c ∷ cs) s keep n body h =
    let now : State L = record s { choices = c ∷ cs } in
    let given : State L =
    record s { locals = keep c.addr s.locals; memory = with_bytes s.memory c.addr c.bytes; choices = cs } in
    let done : State L → Run L = λ t. Goes (record t { memory = without_range t.memory c.addr n }) in
    let inner = leave_trans now given (last (body given)) (leave_chosen s c cs) (h given) in
    leaves-choose (is_good n s.memory c) now (then_do (body given) done) (Ends NoChoice now)
    (leaves-then_do now (body given) done inner (λ t. leave_refl t)) (leave_refl now)

pub leaves-with_buffer : {L : Type 0} (keep : ℕ → L → L) (n : ℕ) (body : State L → Run L) → Takes body
    → Takes (with_buffer keep n body)
leaves-with_buffer keep n body h s = leaves-take_choice s.choices s keep n body h

leaves-take_answer : {L : Type 0} (vs : List ℕ) (s : State L) (keep : ℕ → L → L) (a : ℕ)
    → CanLeave (record s { answers = vs }) (last (read_device keep a (record s { answers = vs })))
leaves-take_answer {L} [] s keep a =
    let now : State L = record s { answers = [] } in
    leaves-choose (is_device_word a) now (Ends (Waiting a) now) (Ends Undefined now) (leave_refl now) (leave_refl now)
leaves-take_answer {L} (v ∷ vs) s keep a =
    let now : State L = record s { answers = v ∷ vs } in
    let then : State L = record s { locals = keep v s.locals; trace = s.trace ++ Read a v ∷ []; answers = vs } in
    leaves-choose (is_device_word a) now (Goes then) (Ends Undefined now)
    ((Read a v ∷ [], refl), (v ∷ [], refl), ([], refl), omega arith) (leave_refl now)

pub leaves-write_device : {L : Type 0} (a v : ℕ) → Takes {L = L} (write_device a v)
leaves-write_device {L} a v s =
    let then : State L = record s { trace = s.trace ++ Write a v ∷ [] } in
    leaves-choose (is_device_word a) s (Goes then) (Ends Undefined s)
    ((Write a v ∷ [], refl), ([], refl), ([], refl), omega arith) (leave_refl s)

pub leaves-back_in : {L : Type 0} (s : State L) (keep : List ℕ → L → L) (locals : L) (r : Returned L)
    → CanLeave s (last_of_call r) → CanLeave s (last (back_in keep locals r))
leaves-back_in s keep locals (Returns vs t) h = h
leaves-back_in s keep locals (Stops end t) h = h

leaves-read : {L : Type 0} (o : Option (List ℕ)) (results : L → Option (List ℕ)) (s t : State L) → CanLeave s t
    → results t.locals ≡ o → CanLeave s (last_of_call (returned results (Goes t)))
leaves-read None results s t h is = rw is h
leaves-read (Some vs) results s t h is = rw is h

pub leaves-returned : {L : Type 0} (s : State L) (results : L → Option (List ℕ)) (r : Run L) → CanLeave s (last r)
    → CanLeave s (last_of_call (returned results r))
leaves-returned s results (Goes t) h = leaves-read (results t.locals) results s t h refl
leaves-returned s results (Ends end t) h = h

pub leaves-read_device : {L : Type 0} (keep : ℕ → L → L) (a : ℕ) → Takes (read_device keep a)
leaves-read_device keep a s = leaves-take_answer s.answers s keep a
