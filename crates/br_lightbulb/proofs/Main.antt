-- The firmware from its start on.
use Rattle.std.proofs.Common.{◌≡◌, ◌≢◌, ◌⊎◌, inl, inr, ℕ, suc, List, [], ◌∷◌, ◌++◌}
use Rattle.std.proofs.Common.{Some, refl, sym, ap, subst, ◌∙◌, append_assoc, append-nil}
use Rattle.br_words.specs.declared.operation.BinOp.TheVariants.{Eq}
use Rattle.br_bytes.specs.declared.run.Choice.{Choice}
use Rattle.br_bytes.specs.declared.run.Event.{Event}
use Rattle.br_bytes.specs.declared.run.Outcome.TheVariants as outcome
use Rattle.br_bytes.specs.Memory.{Memory}
use Rattle.br_bytes.specs.Runs.{End, Waiting, OutOfFuel, Undefined, NoChoice, Goes, Ends, returned}
use Rattle.br_syntax.specs.declared.program.Func.{Func}
use Rattle.br_syntax.specs.Functions.{function_named}
use Rattle.br_syntax.specs.Offsets.{IsEqualUpToOffsets}
use Rattle.br_source_meaning.specs.Values.{no_locals}
use Rattle.br_source_meaning.specs.Runs.{State, Run, Returned, Callee, with_locals, run_all}
use Rattle.br_source_meaning.specs.Calls.{words_of, function_of, outcome_of, seen, call as call_of}
use Rattle.br_judge.specs.Languages.{◌▸◌, any_number}
use Rattle.br_judge.specs.Good as good
use Rattle.br_judge.specs.Good.{failed_boot, Good, BeginsGood}
use Rattle.br_lightbulb.specs.Names as name
use Rattle.br_lightbulb.specs.Polls.{main, firmware}
use Rattle.br_lightbulb.specs.Shows.{IsDefined, Begins, ShowsPiece, ShowsEvents}
use Rattle.br_lightbulb.specs.Shows.{boot_piece, poll_piece, HasFirmware, StaysGood}
use Rattle.br_lightbulb.proofs.Boot.{boots_start}
use Rattle.br_lightbulb.proofs.Boots.{boot-pieces}
use Rattle.br_lightbulb.proofs.Commands.{lit, var, op, Commands, done, repeat, call}
use Rattle.br_lightbulb.proofs.Does.{Does}
use Rattle.br_lightbulb.proofs.Leads.{Leads, upon, ends, shown, shown_events, Turns, repeats}
use Rattle.br_lightbulb.proofs.Offsets.{equal_runs, has_too}
use Rattle.br_lightbulb.proofs.Poll.{polls_start, poll-pieces}
use Rattle.br_lightbulb.proofs.Spi.{word_of}
use Rattle.br_lightbulb.proofs.Waiting.{times_zero, times_more}

-- ---- lists of events

-- after a start and some polls
abbrev Polled : List Event → Type 0
Polled = good.boot ▸ any_number good.poll

begun : (es : List Event) → good.boot es → Polled es
begun es b = (es, [], sym (append-nil es), b, (0, times_zero good.poll))

polled : (es fs : List Event) → Polled es → good.poll fs → Polled (es ++ fs)
polled es fs (f, g, e, b, (k, t)) p =
    (f, g ++ fs, ap (λ q. q ++ fs) e ∙ append_assoc f g fs, b, (suc k, times_more k good.poll g fs t p))

whole : (es : List Event) → Good es → BeginsGood es
whole es g = ([], subst Good (sym (append-nil es)) g)

in_boot : (fs : List Event) → Begins boot_piece fs → BeginsGood fs
in_boot fs (ws, more, inl (is, b)) = (more, inr (begun (fs ++ more) b))
in_boot fs (ws, more, inr (is, f)) = (more, inl f)

in_poll : (es fs : List Event) → Polled es → Begins poll_piece fs → BeginsGood (es ++ fs)
in_poll es fs b (ws, more, p) =
    (more, inr (subst Polled (sym (append_assoc es fs more)) (polled es (fs ++ more) b p.1)))

-- ---- the loop

-- between polls
record Between (t : State) : Type 0 where
  bad : t.locals name.bad ≡ Some 0
  polled : Polled t.trace

-- after a start that has failed
record Failed (t : State) : Type 0 where
  bad : t.locals name.bad ≡ Some 1
  failed : failed_boot t.trace

abbrev Loops : State → Type 0
Loops t = Between t ⊎ Failed t

abbrev each : Commands
each = call (name.x ∷ []) name.poll [] done

abbrev whole_run : Commands
whole_run = call (name.bad ∷ []) name.boot [] (repeat (op Eq (var name.bad) (lit 0)) each done)

-- a state in which the run may end
abbrev Over : State → Type 0
Over t = (ws : List ℕ) × (words_of (name.bad ∷ []) t.locals ≡ Some ws) × BeginsGood t.trace

-- what is known of the functions that it calls
record Known (C : Callee) : Type 0 where
  boots : (s : State) → ShowsPiece s boot_piece (C name.boot [] s)
  polls : (s : State) → ShowsEvents s poll_piece (C name.poll [] s)

poll_turn : (C : Callee) (t : State) → Known C → Between t → Leads C BeginsGood Loops each t
poll_turn C t known g =
    shown_events {vs = []} {piece = poll_piece} refl known.polls polls_start (λ fs p. in_poll t.trace fs g.polled p)
    (λ ws fs o p. ends (inl (record { bad = kept ws p.0; polled = polled t.trace fs g.polled p.1 })))
  where
    kept : (ws : List ℕ) → (b : ℕ) × (ws ≡ b ∷ []) → with_locals (name.x ∷ []) ws t.locals name.bad ≡ Some 0
    kept ws (b, is) = subst (λ (q : List ℕ). with_locals (name.x ∷ []) q t.locals name.bad ≡ Some 0) (sym is) g.bad

turn : (C : Callee) → Known C →
    (t : State) → Loops t → Turns C BeginsGood Loops (Leads C BeginsGood Over done) (op Eq (var name.bad) (lit 0))
    each t
turn C known t (inl g) = record {
  word = 1;
  has = rw g.bad refl;
  stops = whole t.trace (inr g.polled);
  over = λ is. cc;
  on = λ is k. poll_turn C (record t { fuel = k }) known (record { bad = g.bad; polled = g.polled });
}
turn C known t (inr g) = record {
  word = 0;
  has = rw g.bad refl;
  stops = whole t.trace (inl g.failed);
  over = λ is. ends (1 ∷ [], word_of name.bad t.locals 1 g.bad, whole t.trace (inl g.failed));
  on = λ is k. cc;
}

-- ---- the whole

runs : (C : Callee) (m : Memory) (answers : List ℕ) (choices : List Choice) (fuel : ℕ) → Known C →
    Leads C BeginsGood Over whole_run
    (record { locals = no_locals; memory = m; trace = []; answers = answers; choices = choices; fuel = fuel })
runs C m answers choices fuel known =
    shown {vs = []} {piece = boot_piece} refl known.boots boots_start in_boot
    (λ ws fs o p. repeats Loops (turn C known) (by ws fs o p))
  where
    by : (ws : List ℕ) (fs : List Event) (o : State) → boot_piece ws fs →
        Loops (upon (with_locals (name.bad ∷ []) ws no_locals) m fs o)
    by ws fs o (inl (is, b)) = inl (record {
      bad =
          subst (λ (q : List ℕ). with_locals (name.bad ∷ []) q no_locals name.bad ≡ Some 0) (sym is) refl;
      polled =
          begun fs b;
    })
    by ws fs o (inr (is, f)) = inr (record {
      bad =
          subst (λ (q : List ℕ). with_locals (name.bad ∷ []) q no_locals name.bad ≡ Some 1) (sym is) refl;
      failed = f;
    })

defined : (e : End) → IsDefined e → outcome_of e ≢ outcome.Undefined
defined (Waiting a) d = λ h. cc
defined OutOfFuel d = λ h. cc
defined NoChoice d = λ h. cc
defined Undefined d = absurd d

shows : (r : Run) → Does Over (λ t. BeginsGood t.trace) r → StaysGood (seen (returned (words_of (name.bad ∷ [])) r))
shows (Goes t) (ws, is, g) = rw is (λ h. cc, g)
shows (Ends e t) (d, g) = (defined e d, g)

pub stays_good : (fs : List Func) → HasFirmware fs →
    (m : Memory) (answers : List ℕ) (choices : List Choice) (fuel : ℕ) →
    StaysGood (call_of fs main [] m answers choices fuel)
stays_good fs has m answers choices fuel =
    shows (run_all (function_of fs fuel) main.body
    (record { locals = no_locals; memory = m; trace = []; answers = answers; choices = choices; fuel = fuel }))
    (runs (function_of fs fuel) m answers choices fuel
    (record { boots = boot-pieces fs has fuel; polls = poll-pieces fs has fuel })).does

-- the functions of the firmware
pub has_firmware : HasFirmware firmware
has_firmware = record {
  words = record { bytes = record { put = refl; get = refl; xchg = refl }; read = refl; write = refl };
  boot = refl;
  receive = refl;
  handle = refl;
  poll = refl;
  main = refl;
}

pub has_main : (fs : List Func) → IsEqualUpToOffsets fs firmware → (f : Func) × (function_named fs name.main ≡ Some f)
has_main fs equal = has_too fs firmware name.main main equal refl

-- and of each program that is equal to it up to offsets
pub firmware_stays : (fs : List Func) (f : Func) → IsEqualUpToOffsets fs firmware →
    function_named fs name.main ≡ Some f →
    (m : Memory) (answers : List ℕ) (choices : List Choice) (fuel : ℕ) →
    StaysGood (call_of fs f [] m answers choices fuel)
firmware_stays fs f equal is m answers choices fuel =
    subst (λ (r : Returned). StaysGood (seen r))
    (sym (equal_runs fs firmware name.main f main equal is refl fuel []
    (record { locals = no_locals; memory = m; trace = []; answers = answers; choices = choices; fuel = fuel })))
    (stays_good firmware has_firmware m answers choices fuel)
