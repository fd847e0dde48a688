-- The exchange of the bytes of a transfer, one after the other.
use Rattle.std.proofs.Common.{◌≡◌, inl, inr, ℕ, ◌<◌, List, [], ◌∷◌, ◌++◌, Some, refl}
use Rattle.std.proofs.Common.{sym, ap, subst, ◌∙◌, arith, append_assoc, append-nil, lit<}
use Rattle.br_bytes.specs.declared.run.Choice.{Choice}
use Rattle.br_bytes.specs.declared.run.Event.{Event}
use Rattle.br_bytes.specs.declared.run.Event.TheVariants.{Read, Write}
use Rattle.br_bytes.specs.Memory.{Memory}
use Rattle.br_source_meaning.specs.Values.{Locals}
use Rattle.br_source_meaning.specs.Runs.{State, Callee, with_locals}
use Rattle.br_judge.specs.Languages.{Language, either, some}
use Rattle.br_judge.specs.Good.{TX, RX, busy, spi_put, spi_get, exchange, failed_exchange, exchanges, failed_exchanges}
use Rattle.br_lightbulb.specs.Names as name
use Rattle.br_lightbulb.specs.Shows.{Begins, ShowsPiece, exchange_piece}
use Rattle.br_lightbulb.proofs.Commands.{Exp, Commands, val, call}
use Rattle.br_lightbulb.proofs.Leads.{Leads, upon, shown}
use Rattle.br_lightbulb.proofs.Waiting.{times_zero}

-- ---- lists of exchanges

-- some bytes of B were sent, these received, and those of `left` are still to be sent
pub record Sent (B left received : List ℕ) (es : List Event) : Type 0 where
  pub on : (rs : List ℕ) (more : List Event) → exchanges left rs more → exchanges B (received ++ rs) (es ++ more)
  pub fails : (more : List Event) → failed_exchanges left more → failed_exchanges B (es ++ more)

pub none_sent : (B : List ℕ) → Sent B B [] []
none_sent B = record { on = λ rs more x. x; fails = λ more x. x }

pub one_more : (B left received : List ℕ) (b r : ℕ) (es fs : List Event) → Sent B (b ∷ left) received es →
    exchange b r fs → Sent B left (received ++ r ∷ []) (es ++ fs)
one_more B left received b r es fs s x = record {
  on = λ rs more y.
      subst (λ (q : List ℕ). exchanges B q ((es ++ fs) ++ more)) (sym (append_assoc received (r ∷ []) rs))
      (subst (λ (q : List Event). exchanges B (received ++ r ∷ rs) q) (sym (append_assoc es fs more))
      (s.on (r ∷ rs) (fs ++ more) (fs, more, refl, x, y)));
  fails = λ more y. subst (λ (q : List Event). failed_exchanges B q) (sym (append_assoc es fs more))
      (s.fails (fs ++ more) (inr (r, (fs, more, refl, x, y))));
}

pub one_fails : (B left received : List ℕ) (b : ℕ) (es fs : List Event) → Sent B (b ∷ left) received es →
    failed_exchange b fs → failed_exchanges B (es ++ fs)
one_fails B left received b es fs s x = s.fails fs (inl x)

pub all_sent : (B received : List ℕ) (es : List Event) → Sent B [] received es → exchanges B received es
all_sent B received es s =
    subst (λ (q : List ℕ). exchanges B q es) (append-nil received)
    (subst (λ (q : List Event). exchanges B (received ++ []) q) (append-nil es) (s.on [] [] refl))

-- ---- some list can always follow

put_ready : (b : ℕ) → spi_put b (Read TX 0 ∷ Write TX b ∷ [])
put_ready b = (
  [],
  Read TX 0 ∷ Write TX b ∷ [],
  refl,
  (0, (omega arith, times_zero (busy TX))),
  (Read TX 0 ∷ [], Write TX b ∷ [], refl, (0, (lit< tt, refl)), refl),
)

get_ready : spi_get 0 (Read RX 0 ∷ [])
get_ready = ([], Read RX 0 ∷ [], refl, (0, (omega arith, times_zero (busy RX))), (0, (refl, (lit< tt, refl))))

pub exchange_ready : (b : ℕ) → exchange b 0 (Read TX 0 ∷ Write TX b ∷ Read RX 0 ∷ [])
exchange_ready b = (Read TX 0 ∷ Write TX b ∷ [], Read RX 0 ∷ [], refl, put_ready b, get_ready)

pub some_exchanges : (bs : List ℕ) → (rs : List ℕ) × (es : List Event) × exchanges bs rs es
some_exchanges [] = ([], [], refl)
some_exchanges (b ∷ bs) = go (some_exchanges bs)
  where
    go : (rs : List ℕ) × (es : List Event) × exchanges bs rs es →
        (rs : List ℕ) × (es : List Event) × exchanges (b ∷ bs) rs es
    go (rs, es, x) = (
      0 ∷ rs,
      Read TX 0 ∷ Write TX b ∷ Read RX 0 ∷ es,
      (Read TX 0 ∷ Write TX b ∷ Read RX 0 ∷ [], es, refl, exchange_ready b, x),
    )

-- the exchanges of a transfer, whether one fails or not
abbrev pub transfers : List ℕ → Language
transfers B = either (some λ (rs : List ℕ). exchanges B rs) (failed_exchanges B)

-- a run may stop after the first events of these exchanges, which come after those of U
abbrev pub MayStop : List ℕ → List Event → (List Event → Type 0) → Type 0
MayStop B U S = (es more : List Event) → transfers B (es ++ more) → S (U ++ es)

-- in an exchange
stops_within : (B left received : List ℕ) (b : ℕ) (U es fs : List Event) (S : List Event → Type 0) → MayStop B U S →
    Sent B (b ∷ left) received es → Begins (exchange_piece b) fs →
    S (U ++ (es ++ fs))
stops_within B left received b U es fs S may s (ws, more, inr (is, x)) =
    may (es ++ fs) more (inr (subst (λ (q : List Event). failed_exchanges B q) (sym (append_assoc es fs more))
    (s.fails (fs ++ more) (inl x))))
stops_within B left received b U es fs S may s (ws, more, inl (r, is, x)) = go (some_exchanges left)
  where
    go : (rs : List ℕ) × (gs : List Event) × exchanges left rs gs → S (U ++ (es ++ fs))
    go (rs, gs, y) =
        may (es ++ fs) (more ++ gs)
        (inl (
          received ++ r ∷ rs,
          subst (λ (q : List Event). exchanges B (received ++ r ∷ rs) q)
              (ap (λ q. es ++ q) (append_assoc fs more gs) ∙ sym (append_assoc es fs (more ++ gs)))
              (s.on (r ∷ rs) ((fs ++ more) ++ gs) (fs ++ more, gs, refl, x, y)),
        ))

-- ---- the call

-- what is known of `spi_xchg`
abbrev pub Exchanges : Callee → Type 0
Exchanges C = (b : ℕ) (s : State) → ShowsPiece s (exchange_piece b) (C name.spi_xchg (b ∷ []) s)

below_256 : (b r : ℕ) (es : List Event) → exchange b r es → r < 256
below_256 b r es (f, g, e, put, (h, k, d, u, (w, (is, y)))) = omega arith

nothing_of : (b : ℕ) → Begins (exchange_piece b) []
nothing_of b = (0 ∷ 0 ∷ [], Read TX 0 ∷ Write TX b ∷ Read RX 0 ∷ [], inl (0, refl, exchange_ready b))

-- the variables after an exchange
abbrev pub with_answer : ℕ → ℕ → Locals → Locals
with_answer r bad l = with_locals (name.x ∷ name.bad ∷ []) (r ∷ bad ∷ []) l

-- A byte is exchanged: it is received, or the transfer has failed.
pub exchanges_byte : {C : Callee} {S : List Event → Type 0}
    {Q : State → Type 0} {e : Exp} {cs : Commands} {l : Locals} {m : Memory} {answers : List ℕ} {choices : List Choice}
    {fuel : ℕ}
    (B left received : List ℕ) (b : ℕ) (U es : List Event) → Exchanges C → MayStop B U S → val l m e ≡ Some b →
    Sent B (b ∷ left) received es →
    ((r : ℕ) (fs : List Event) (o : State) → r < 256 → Sent B left (received ++ r ∷ []) fs →
    Leads C S Q cs (upon (with_answer r 0 l) m (U ++ fs) o)) →
    ((fs : List Event) (o : State) → failed_exchanges B fs → Leads C S Q cs (upon (with_answer 0 1 l) m (U ++ fs) o)) →
    Leads C S Q (call (name.x ∷ name.bad ∷ []) name.spi_xchg (e ∷ []) cs)
    (record { locals = l; memory = m; trace = U ++ es; answers = answers; choices = choices; fuel = fuel })
exchanges_byte {C} {S} {Q} {e} {cs} {l} {m} {answers} {choices} {fuel} B left received b U es known may has sent goes
    fails =
    shown {C = C} {S = S} {Q = Q} {cs = cs} {s =
    record { locals = l; memory = m; trace = U ++ es; answers = answers; choices = choices; fuel = fuel }} {vs =
    b ∷ []} {piece = exchange_piece b}
    (rw has refl) (known b) (nothing_of b)
    (λ fs p. subst S (sym (append_assoc U es fs)) (stops_within B left received b U es fs S may sent p)) by
  where
    by : (ws : List ℕ) (fs : List Event) (o : State) → exchange_piece b ws fs →
        Leads C S Q cs (upon (with_locals (name.x ∷ name.bad ∷ []) ws l) m ((U ++ es) ++ fs) o)
    by ws fs o (inl (r, is, x)) =
        subst (λ (q : List ℕ). Leads C S Q cs (upon (with_locals (name.x ∷ name.bad ∷ []) q l) m ((U ++ es) ++ fs) o))
        (sym is)
        (subst (λ (q : List Event). Leads C S Q cs (upon (with_answer r 0 l) m q o)) (sym (append_assoc U es fs))
        (goes r (es ++ fs) o (below_256 b r fs x) (one_more B left received b r es fs sent x)))
    by ws fs o (inr (is, x)) =
        subst (λ (q : List ℕ). Leads C S Q cs (upon (with_locals (name.x ∷ name.bad ∷ []) q l) m ((U ++ es) ++ fs) o))
        (sym is)
        (subst (λ (q : List Event). Leads C S Q cs (upon (with_answer 0 1 l) m q o)) (sym (append_assoc U es fs))
        (fails (es ++ fs) o (one_fails B left received b es fs sent x)))
