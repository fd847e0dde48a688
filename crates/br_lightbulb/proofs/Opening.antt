-- The first three bytes of a transfer: the command and the address.
use Rattle.std.proofs.Common.{◌≡◌, ℕ, ◌/◌, ◌%◌, List, [], ◌∷◌, ◌++◌, Some, refl, ap}
use Rattle.std.proofs.lemmas.Nat.{and_mask}
use Rattle.br_words.specs.declared.operation.BinOp.TheVariants.{And, Sru}
use Rattle.br_bytes.specs.declared.run.Choice.{Choice}
use Rattle.br_bytes.specs.declared.run.Event.{Event}
use Rattle.br_bytes.specs.Memory.{Memory}
use Rattle.br_source_meaning.specs.Values.{Locals, with_local}
use Rattle.br_source_meaning.specs.Runs.{State, Callee}
use Rattle.br_judge.specs.Good.{failed_exchanges}
use Rattle.br_lightbulb.specs.Names as name
use Rattle.br_lightbulb.proofs.Commands.{Exp, lit, var, op, Commands, done, set, cond, call}
use Rattle.br_lightbulb.proofs.Leads.{Leads, upon, ends, sets, first_of_two, second_of_two}
use Rattle.br_lightbulb.proofs.Transfers.{Sent, none_sent, MayStop, Exchanges, exchanges_byte, with_answer}

-- (call (x bad) spi_xchg BYTE)
abbrev pub exchange : Exp → Commands → Commands
exchange e more = call (name.x ∷ name.bad ∷ []) name.spi_xchg (e ∷ []) more

-- commands where no byte has failed
abbrev pub unless_bad : Commands → Commands → Commands
unless_bad commands more = cond (var name.bad) done commands more

abbrev pub opening : ℕ → Commands → Commands
opening command more =
    exchange (lit command)
    (unless_bad (exchange (op Sru (var name.a) (lit 8)) done)
    (unless_bad (exchange (op And (var name.a) (lit 255)) done)
    (set name.i (lit 0) more)))

-- the variables once the three bytes are over
pub record Opened (v bad : ℕ) (l : Locals) : Type 0 where
  pub bad_is : l name.bad ≡ Some bad
  pub i : l name.i ≡ Some 0
  pub v_is : l name.v ≡ Some v

-- The three bytes are exchanged in turn; after one that fails the others are left out.
pub opens : {C : Callee} {S : List Event → Type 0}
    {Q : State → Type 0} {c : ℕ} {cs : Commands} {l : Locals} {m : Memory} {answers : List ℕ} {choices : List Choice}
    {fuel : ℕ}
    (a v : ℕ) (W : List ℕ) (U : List Event) → Exchanges C → MayStop (c ∷ a / 256 ∷ a % 256 ∷ W) U S →
    l name.a ≡ Some a → l name.v ≡ Some v →
    ((k : Locals) (r0 r1 r2 : ℕ) (es : List Event) (o : State) → Opened v 0 k →
    Sent (c ∷ a / 256 ∷ a % 256 ∷ W) W (r0 ∷ r1 ∷ r2 ∷ []) es → Leads C S Q cs (upon k m (U ++ es) o)) →
    ((k : Locals) (es : List Event) (o : State) → Opened v 1 k → failed_exchanges (c ∷ a / 256 ∷ a % 256 ∷ W) es →
    Leads C S Q cs (upon k m (U ++ es) o)) →
    Leads C S Q (opening c cs) (record {
      locals = l;
      memory = m;
      trace = U ++ [];
      answers = answers;
      choices = choices;
      fuel = fuel;
    })
opens {C} {S} {Q} {c} {cs} {l} {m} {answers} {choices} {fuel} a v W U known may a_is v_is goes fails =
    exchanges_byte B (a / 256 ∷ a % 256 ∷ W) [] c U [] known may refl (none_sent B)
    (λ r0 es o _ s0. second_of_two {v = 0} refl refl
    (exchanges_byte B (a % 256 ∷ W) (r0 ∷ []) (a / 256) U es known may (rw a_is refl) s0
    (λ r1 es o _ s1. ends (second_of_two {v = 0} refl refl
    (exchanges_byte B W (r0 ∷ r1 ∷ []) (a % 256) U es known may (rw a_is (ap Some (and_mask a 8))) s1
    (λ r2 es o _ s2. ends (sets {v = 0} refl
    (goes (after 0 r2 (with_answer r1 0 (with_answer r0 0 l))) r0 r1 r2 es o
    (record { bad_is = refl; i = refl; v_is = v_is }) s2)))
    (λ es o f. ends (sets {v = 0} refl
    (fails (after 1 0 (with_answer r1 0 (with_answer r0 0 l))) es o
    (record { bad_is = refl; i = refl; v_is = v_is }) f))))))
    (λ es o f. ends (skips refl (sets {v = 0} refl
    (fails (after 1 0 (with_answer r0 0 l)) es o (record { bad_is = refl; i = refl; v_is = v_is }) f))))))
    (λ es o f. skips refl (skips refl
    (sets {v = 0} refl (fails (after 1 0 l) es o (record { bad_is = refl; i = refl; v_is = v_is }) f))))
  where
    B : List ℕ
    B = c ∷ a / 256 ∷ a % 256 ∷ W

    after : ℕ → ℕ → Locals → Locals
    after bad r k = with_local name.i 0 (with_answer r bad k)

    skips : {Q : State → Type 0} {first cs : Commands} {s : State} → s.locals name.bad ≡ Some 1 → Leads C S Q cs s →
        Leads C S Q (unless_bad first cs) s
    skips bad h = first_of_two {v = 1} bad refl (ends h)
