-- What calls of the firmware's functions show: a piece of the trace language, or the first part of
-- one.
use Rattle.std.specs.Prelude.{◌≡◌, ◌≢◌, ◌⊎◌, ⊤, ℕ, ◌+◌, ◌^◌, ◌<◌, ◌≤◌, true, false}
use Rattle.std.specs.Prelude.{List, [], ◌∷◌, ◌++◌, length, slice_index, Some}
use Rattle.std.specs.FinMap as map
use Rattle.br_bytes.specs.declared.run.Event.{Event}
use Rattle.br_bytes.specs.declared.run.Outcome.TheVariants as outcome
use Rattle.br_bytes.specs.Memory.{Memory}
use Rattle.br_bytes.specs.Called.{Called}
use Rattle.br_bytes.specs.Runs.{End, Waiting, OutOfFuel, Undefined, NoChoice, Returns, Stops}
use Rattle.br_source_meaning.specs.Runs.{State, Returned}
use Rattle.br_syntax.specs.declared.program.Func.{Func}
use Rattle.br_syntax.specs.Functions.{function_named}
use Rattle.br_judge.specs.Languages.{Language, ◌▸◌, nothing, either, some, given}
use Rattle.br_lightbulb.specs.Names as name
use Rattle.br_lightbulb.specs.Spi as spi
use Rattle.br_lightbulb.specs.Lan as lan
use Rattle.br_lightbulb.specs.Frames as frames
use Rattle.br_lightbulb.specs.Polls as polls
use Rattle.br_judge.specs.Good.{spi_put, failed_put, spi_get, failed_get, exchange}
use Rattle.br_judge.specs.Good.{failed_exchange, read_word, failed_read, write_word, failed_write}
use Rattle.br_judge.specs.Good.{boot, failed_boot, words_for, frame_length, first_bytes}
use Rattle.br_judge.specs.Good.{frame_words, is_accepted, set_light, light_of, poll, BeginsGood}

-- any end but that of an undefined run
abbrev pub IsDefined : End → Type 0
IsDefined (Waiting a) = ⊤
IsDefined OutOfFuel = ⊤
IsDefined NoChoice = ⊤
IsDefined Undefined = ⊥

-- a set of lists for each list of words that a call may answer
abbrev pub Piece : Type 1
Piece = List ℕ → Language

-- some list of the piece begins with these events
abbrev pub Begins : Piece → List Event → Type 0
Begins piece es = (ws : List ℕ) × (rest : List Event) × piece ws (es ++ rest)

-- From a state, a call adds the events of the piece to the trace and leaves memory as it was; or it
-- stops, is not undefined, and has added the first events of one.
abbrev pub ShowsPiece : State → Piece → Returned → Type 0
ShowsPiece s piece (Returns ws t) =
    (es : List Event) × (t.trace ≡ s.trace ++ es) × (t.memory ≡ s.memory) × piece ws es
ShowsPiece s piece (Stops end t) =
    IsDefined end × ((es : List Event) × (t.trace ≡ s.trace ++ es) × Begins piece es)

-- a byte is sent and 0 answered, or 1 where the port stayed busy
abbrev pub put_piece : ℕ → Piece
put_piece b ws es = ((ws ≡ 0 ∷ []) × spi_put b es) ⊎ ((ws ≡ 1 ∷ []) × failed_put es)

-- a byte is received and answered, and 0; or 0 and 1 where the port stayed busy
abbrev pub get_piece : Piece
get_piece ws es = ((r : ℕ) × (ws ≡ r ∷ 0 ∷ []) × spi_get r es) ⊎ ((ws ≡ 0 ∷ 1 ∷ []) × failed_get es)

-- a byte is sent, and one is received and answered, and 0; or 0 and 1 where a port stayed busy
abbrev pub exchange_piece : ℕ → Piece
exchange_piece b ws es =
    ((r : ℕ) × (ws ≡ r ∷ 0 ∷ []) × exchange b r es)
    ⊎ ((ws ≡ 0 ∷ 1 ∷ []) × failed_exchange b es)

-- a word is read and answered, and 0; or some word and 1 where a port stayed busy
abbrev pub read_piece : ℕ → Piece
read_piece a ws es =
    ((v : ℕ) × (ws ≡ v ∷ 0 ∷ []) × read_word a v es)
    ⊎ ((v : ℕ) × (ws ≡ v ∷ 1 ∷ []) × failed_read a es)

-- a word is written and 0 answered, or 1 where a port stayed busy
abbrev pub write_piece : ℕ → ℕ → Piece
write_piece a v ws es = ((ws ≡ 0 ∷ []) × write_word a v es) ⊎ ((ws ≡ 1 ∷ []) × failed_write a v es)

-- a start that succeeds, and 0; or one that fails, and 1
abbrev pub boot_piece : Piece
boot_piece ws es = ((ws ≡ 0 ∷ []) × boot es) ⊎ ((ws ≡ 1 ∷ []) × failed_boot es)

-- ---- frames

-- the addresses of a buffer of n bytes from p on are in the memory, and none wraps
pub record IsBuffer (m : Memory) (p n : ℕ) : Type 0 where
  pub below : p + n ≤ 2 ^ 32
  pub there : (j : ℕ) → j < n → (b : ℕ) × (map.get m (p + j) ≡ Some b)

-- the bytes stand from p on, but for those that a buffer of 1,520 bytes has no room for
abbrev pub Holds : Memory → ℕ → List ℕ → Type 0
Holds m p bytes =
    (j : ℕ) → j < length bytes → j < 1520 → map.get m (p + j) ≡ Some (slice_index bytes j)

-- the length and the words of a frame are read
abbrev pub received : List ℕ → Language
received bytes =
    some λ (l : ℕ). read_word 0x40 l ▸ some λ (ws : List ℕ).
    given ((length ws ≡ words_for (frame_length l)) × (bytes ≡ first_bytes (frame_length l) ws))
    (frame_words ws)

-- the length or one of the words is not
abbrev pub failed_receive : Language
failed_receive =
    either (failed_read 0x40)
    (some λ (l : ℕ). read_word 0x40 l ▸ some λ (ws : List ℕ).
    given (length ws < words_for (frame_length l)) (frame_words ws ▸ failed_read 0))

-- these events begin those of a frame that is read, or is not
abbrev pub BeginsFrame : List Event → Type 0
BeginsFrame es = (rest : List Event) × either (some received) failed_receive (es ++ rest)

-- From a state, a call of `receive` reads a frame into the buffer and answers its length, and 0; or
-- it fails and answers 1 as the second word; or it stops, is not undefined, and has added the first
-- events of one of these.
abbrev pub Receives : State → ℕ → Returned → Type 0
Receives s p (Returns ws t) =
    (es : List Event) × (t.trace ≡ s.trace ++ es)
    × (((bytes : List ℕ)
    × (ws ≡ length bytes ∷ 0 ∷ []) × Holds t.memory p bytes × received bytes es)
    ⊎ ((n : ℕ) × (ws ≡ n ∷ 1 ∷ []) × failed_receive es))
Receives s p (Stops end t) =
    IsDefined end × ((es : List Event) × (t.trace ≡ s.trace ++ es) × BeginsFrame es)

-- the light is set as an accepted frame asks, and nothing is done for another
abbrev pub handle_piece : List ℕ → Piece
handle_piece bytes ws es =
    (ws ≡ [])
    × (given (is_accepted bytes ≡ true) (set_light (light_of bytes)) es
    ⊎ given (is_accepted bytes ≡ false) nothing es)

-- ---- polls

-- the same as ShowsPiece, where memory may change
abbrev pub ShowsEvents : State → Piece → Returned → Type 0
ShowsEvents s piece (Returns ws t) = (es : List Event) × (t.trace ≡ s.trace ++ es) × piece ws es
ShowsEvents s piece (Stops end t) =
    IsDefined end × ((es : List Event) × (t.trace ≡ s.trace ++ es) × Begins piece es)

-- one look at the chip, with any answer
abbrev pub poll_piece : Piece
poll_piece ws es = ((bad : ℕ) × (ws ≡ bad ∷ [])) × poll es

-- ---- programs

-- the program has the firmware's functions for bytes
pub record HasSpi (fs : List Func) : Type 0 where
  pub put : function_named fs name.spi_put ≡ Some spi.spi_put
  pub get : function_named fs name.spi_get ≡ Some spi.spi_get
  pub xchg : function_named fs name.spi_xchg ≡ Some spi.spi_xchg

-- and those for words
pub record HasLan (fs : List Func) : Type 0 where
  pub bytes : HasSpi fs
  pub read : function_named fs name.lan_read ≡ Some lan.lan_read
  pub write : function_named fs name.lan_write ≡ Some lan.lan_write

-- and all the functions of the firmware
pub record HasFirmware (fs : List Func) : Type 0 where
  pub words : HasLan fs
  pub boot : function_named fs name.boot ≡ Some polls.boot
  pub receive : function_named fs name.receive ≡ Some frames.receive
  pub handle : function_named fs name.handle ≡ Some frames.handle
  pub poll : function_named fs name.poll ≡ Some polls.poll
  pub main : function_named fs name.main ≡ Some polls.main

-- ---- whole runs

-- The call is not undefined, and some member of the trace language begins with its events.
abbrev pub StaysGood : Called → Type 0
StaysGood c = (c.outcome ≢ outcome.Undefined) × BeginsGood c.trace
