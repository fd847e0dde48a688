-- What may follow at each place of the judge, so that a list of events is in the language.
use Rattle.std.specs.Prelude.{◌≡◌, ◌≢◌, ℕ, zero, suc, ◌+◌, ◌*◌, ◌/◌, ◌%◌, ◌^◌, Bool, true}
use Rattle.std.specs.Prelude.{false, List, [], ◌∷◌, ◌++◌, drop, slice_index, nat_lt, nat_le}
use Rattle.std.specs.Prelude.{◌==◌, ◌&&◌, if◌then◌else◌, bit_or, Option, Some, None, ◌↔◌}
use Rattle.br_bytes.specs.declared.run.Event.{Event}
use Rattle.br_bytes.specs.declared.run.Event.TheVariants.{Read, Write}
use Rattle.br_judge.specs.declared.place.Moved.{Moved}
use Rattle.br_judge.specs.declared.place.Moved.TheVariants.{On, Over, Departs}
use Rattle.br_judge.specs.declared.place.Exchange.{Exchange}
use Rattle.br_judge.specs.declared.place.Exchange.TheVariants.{Put, Send, Get}
use Rattle.br_judge.specs.declared.place.Transfer.{Transfer}
use Rattle.br_judge.specs.declared.place.Transfer.TheVariants.{Select, Byte, Release}
use Rattle.br_judge.specs.declared.place.Purpose.{Purpose}
use Rattle.br_judge.specs.declared.place.Purpose.TheVariants.{Ask, Begin, Poll, Length, Word}
use Rattle.br_judge.specs.declared.place.Frame.{Frame}
use Rattle.br_judge.specs.declared.place.Place.{Place}
use Rattle.br_judge.specs.declared.place.Place.TheVariants as place
use Rattle.br_judge.specs.declared.judge.Judge.{Judge}
use Rattle.br_judge.specs.Languages.{Language, ◌▸◌, nothing, event, either}
use Rattle.br_judge.specs.Languages.{some, given, times, up_to, any_number}
use Rattle.br_judge.specs.Good.{TX, RX, EN, OUT, busy, ready, select, release}
use Rattle.br_judge.specs.Good.{read_bytes, write_bytes, chip_is_ready}
use Rattle.br_judge.specs.Good.{words_for, frame_length, set_light, poll, Good}

-- ---- pieces with an outcome: a word that the piece gives, or None where it failed

-- a set of lists for each outcome
abbrev pub Piece : Type 1
Piece = Option ℕ → Language

-- the piece, and then what its outcome calls for
abbrev pub joined : Piece → Piece → Language
joined A K = some λ (o : Option ℕ). A o ▸ K o

-- what may follow after an event, by what the event made of the place
abbrev pub rest_of : {P : Type 0} → (P → Piece) → Moved P → Piece
rest_of within (On p) o es = within p o es
rest_of within (Over outcome) o es = (o ≡ outcome) × nothing es
rest_of within Departs o es = ⊥

-- ---- the exchange of a byte

-- at most `left` times busy and then ready, or busy once more than that
abbrev pub waiting : ℕ → ℕ → Piece
waiting port left (Some w) = up_to left (busy port) ▸ ready port w
waiting port left None = times (suc left) (busy port)

-- the outcome of an exchange, by what the wait for its byte gave
abbrev pub received : Option ℕ → Piece
received o (Some w) = given (o ≡ Some (w % 256)) nothing
received o None = given (o ≡ None) nothing

abbrev pub receiving : ℕ → Piece
receiving left o = joined (waiting RX left) (received o)

abbrev pub sending : ℕ → Piece
sending b o = event (Write TX b) ▸ receiving 999 o

-- what the wait before the byte is sent calls for
abbrev pub may_send : ℕ → Option ℕ → Piece
may_send b o (Some w) = sending b o
may_send b o None = given (o ≡ None) nothing

abbrev pub exchanging : ℕ → Exchange → Piece
exchanging b (Put left) o = joined (waiting TX left) (may_send b o)
exchanging b Send o = sending b o
exchanging b (Get left) o = receiving left o

-- ---- a transfer

-- the last four bytes received, once one more has come
abbrev pub with_byte : ℕ → ℕ → ℕ
with_byte value r = value / 256 + r % 256 * 2 ^ 24

-- what follows a byte, where `more` are bytes to send after it
abbrev pub after_byte : (ℕ → Piece) → ℕ → Option ℕ → Piece
after_byte more value o (Some r) = more (with_byte value r) o
after_byte more value o None = given (o ≡ None) release

-- bytes are sent in turn
abbrev pub transferring : List ℕ → ℕ → Piece
transferring [] value o = given (o ≡ Some value) release
transferring (b ∷ bs) value o =
    joined (exchanging b (Put 999)) (after_byte (transferring bs) value o)

abbrev pub transfer : List ℕ → Transfer → Piece
transfer bytes Select o = select ▸ transferring bytes 0 o
transfer bytes (Byte sent value x) o =
    joined (exchanging (slice_index bytes sent) x)
    (after_byte (transferring (drop (suc sent) bytes)) value o)
transfer bytes (Release outcome) o = given (o ≡ outcome) release

-- ---- what transfers are for

abbrev pub bytes_for : Purpose → List ℕ
bytes_for (Ask left) = read_bytes 0x64
bytes_for Begin = write_bytes 0x74 1
bytes_for Poll = read_bytes 0x7C
bytes_for Length = read_bytes 0x40
bytes_for (Word left frame) = read_bytes 0

abbrev pub polls : Language
polls = any_number poll

-- one transfer from its start, and what its outcome calls for
abbrev pub after_transfer : Purpose → Piece → Language
after_transfer purpose K = joined (transfer (bytes_for purpose) Select) K

-- after the write that lets the chip receive
abbrev pub begun : Piece
begun (Some v) = polls
begun None = nothing

-- after the chip was asked, where `again` is to ask again
abbrev pub asked : Language → Piece
asked again (Some v) = either (given (v ≡ chip_is_ready) (after_transfer Begin begun))
    (given (v ≢ chip_is_ready) again)
asked again None = nothing

-- the chip may be asked `left` times
unfoldable pub asking : ℕ → Language
asking zero = nothing
asking (suc left) = after_transfer (Ask left) (asked (asking left))

-- ---- frames

abbrev pub number : Bool → ℕ
number b = if b then 1 else 0

-- what is known of a frame of n bytes before its first word
abbrev pub begins : ℕ → Frame
begins n = record { index = 0; fits = nat_le 43 n && nat_le n 1520; light = false }

-- bytes 12 and 13 are 8 and 0, and byte 23 is 17
abbrev pub still_fits : ℕ → ℕ → Bool → Bool
still_fits index w fits =
    if index == 3 then fits && (w % 65536 == 8) else
    if index == 5 then fits && (w / 2 ^ 24 % 256 == 17) else fits

-- byte 42 is the third of its word
abbrev pub light_after : ℕ → ℕ → Bool → Bool
light_after index w light = if index == 10 then w / 65536 % 2 == 1 else light

-- what is known after one more word
abbrev pub with_word : ℕ → Frame → Frame
with_word w f = record {
  index = if nat_lt f.index 11 then f.index + 1 else f.index;
  fits = still_fits f.index w f.fits;
  light = light_after f.index w f.light;
}

-- after the whole frame
abbrev pub after_frame : Bool → Bool → Language
after_frame true light = set_light (number light) ▸ polls
after_frame false light = polls

-- after a word of a frame, where `more` reads the words after it
abbrev pub after_word : (Frame → Language) → Frame → Piece
after_word more f (Some w) = more (with_word w f)
after_word more f None = polls

-- `left` words of a frame
unfoldable pub reading : ℕ → Frame → Language
reading zero f = after_frame f.fits f.light
reading (suc left) f = after_transfer (Word left f) (after_word (reading left) f)

-- after a frame's length
abbrev pub measured : Piece
measured (Some l) = reading (words_for (frame_length l)) (begins (frame_length l))
measured None = polls

-- after the chip was asked whether a frame waits
abbrev pub polled : Piece
polled (Some v) = either (given (v ≡ 0) polls) (given (v ≢ 0) (after_transfer Length measured))
polled None = polls

-- what the outcome of a transfer calls for
abbrev pub after : Purpose → Piece
after (Ask left) = asked (asking left)
after Begin = begun
after Poll = polled
after Length = measured
after (Word left f) = after_word (reading left) f

-- ---- the whole

-- what may follow at a place
abbrev pub MayFollow : Place → Language
MayFollow place.Start es =
    (some λ (v : ℕ). event (Read EN v) ▸ event (Write EN (bit_or v (2 ^ 23))) ▸ asking 200) es
MayFollow (place.Pin v) es = (event (Write EN v) ▸ asking 200) es
MayFollow (place.In purpose at) es = joined (transfer (bytes_for purpose) at) (after purpose) es
MayFollow place.Between es = polls es
MayFollow (place.Light on) es = (set_light (number on) ▸ polls) es
MayFollow (place.Set v) es = (event (Write OUT v) ▸ polls) es
MayFollow place.Over es = nothing es
MayFollow place.Outside es = ⊥

-- The judge stands for a list of events: what may follow the list in Good is what may follow at the
-- judge's place.
abbrev pub Stands : Judge → List Event → Type 0
Stands judge es = (rest : List Event) → Good (es ++ rest) ↔ MayFollow judge.place rest
