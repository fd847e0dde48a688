-- The trace language of the firmware: what it may do with its devices, whatever they answer. GPIO
-- and SPI1 are blocks of the FE310, and a LAN9250 is reached through SPI1.
use Rattle.std.specs.Prelude.{◌≡◌, ◌≢◌, ℕ, ◌+◌, ◌*◌, ◌/◌, ◌%◌, ◌^◌, ◌<◌, ◌≤◌, Bool}
use Rattle.std.specs.Prelude.{true, false, List, [], ◌∷◌, ◌++◌, length, take, drop}
use Rattle.std.specs.Prelude.{slice_index, ◌==◌, ◌&&◌, nat_le, bit_and, bit_or}
use Rattle.br_bytes.specs.declared.run.Event.{Event}
use Rattle.br_bytes.specs.declared.run.Event.TheVariants.{Read, Write}
use Rattle.br_bytes.specs.Number.{number_of, low_bytes, word_bytes}
use Rattle.br_judge.specs.Languages.{Language, ◌▸◌, nothing, event, either}
use Rattle.br_judge.specs.Languages.{some, given, times, up_to, any_number}

-- ---- registers

-- SPI1: bytes to send, bytes received, and the mode of the chip select
abbrev pub TX : ℕ
TX = 0x10024048

abbrev pub RX : ℕ
RX = 0x1002404C

abbrev pub CS : ℕ
CS = 0x10024018

-- GPIO: which pins are outputs, and the values of the outputs
abbrev pub EN : ℕ
EN = 0x10012008

abbrev pub OUT : ℕ
OUT = 0x1001200C

-- ---- bytes over SPI

-- a word is high where its bit 31 is set: where it is at least 2 ^ 31
abbrev pub IsHigh : ℕ → Type 0
IsHigh w = 2 ^ 31 ≤ w

abbrev pub IsLow : ℕ → Type 0
IsLow w = w < 2 ^ 31

-- a read that finds the port busy
abbrev pub busy : ℕ → Language
busy port = some λ (w : ℕ). given (IsHigh w) (event (Read port w))

-- a read of this word, which says that the port is ready
abbrev pub ready : ℕ → ℕ → Language
ready port w = given (IsLow w) (event (Read port w))

abbrev pub spi_put : ℕ → Language
spi_put b = up_to 999 (busy TX) ▸ (some λ (w : ℕ). ready TX w) ▸ event (Write TX b)

abbrev pub failed_put : Language
failed_put = times 1000 (busy TX)

-- the byte received is the low byte of the word
abbrev pub spi_get : ℕ → Language
spi_get r = up_to 999 (busy RX) ▸ some λ (w : ℕ). given (w % 256 ≡ r) (ready RX w)

abbrev pub failed_get : Language
failed_get = times 1000 (busy RX)

-- a byte is sent, and one is received
abbrev pub exchange : ℕ → ℕ → Language
exchange b r = spi_put b ▸ spi_get r

abbrev pub failed_exchange : ℕ → Language
failed_exchange b = either failed_put (spi_put b ▸ failed_get)

-- ---- words of the chip

-- bytes are sent in turn, and as many are received
abbrev pub exchanges : List ℕ → List ℕ → Language
exchanges [] [] es = nothing es
exchanges (b ∷ bs) (r ∷ rs) es = (exchange b r ▸ exchanges bs rs) es
exchanges [] (r ∷ rs) es = ⊥
exchanges (b ∷ bs) [] es = ⊥

-- some of the bytes are sent in turn, and the next one fails
abbrev pub failed_exchanges : List ℕ → Language
failed_exchanges [] es = ⊥
failed_exchanges (b ∷ bs) es =
    either (failed_exchange b) (some λ (r : ℕ). exchange b r ▸ failed_exchanges bs) es

abbrev pub select : Language
select = event (Write CS 2)

abbrev pub release : Language
release = event (Write CS 0)

-- what is sent to read the register at `a`: the command, the address, and four
-- bytes in exchange for those of the word
abbrev pub read_bytes : ℕ → List ℕ
read_bytes a = 3 ∷ a / 256 ∷ a % 256 ∷ 0 ∷ 0 ∷ 0 ∷ 0 ∷ []

-- the word is that of the last four bytes received, the lowest first
abbrev pub read_word : ℕ → ℕ → Language
read_word a v = select ▸ (some
    λ (rs : List ℕ). given (v ≡ number_of (drop 3 rs)) (exchanges (read_bytes a) rs)) ▸ release

abbrev pub failed_read : ℕ → Language
failed_read a = select ▸ failed_exchanges (read_bytes a) ▸ release

-- what is sent to write a word to the register at `a`
abbrev pub write_bytes : ℕ → ℕ → List ℕ
write_bytes a v = 2 ∷ a / 256 ∷ a % 256 ∷ low_bytes 4 v

abbrev pub write_word : ℕ → ℕ → Language
write_word a v = select ▸ (some λ (rs : List ℕ). exchanges (write_bytes a v) rs) ▸ release

abbrev pub failed_write : ℕ → ℕ → Language
failed_write a v = select ▸ failed_exchanges (write_bytes a v) ▸ release

-- ---- the start

-- the light's pin becomes an output, and the other pins stay
abbrev pub pin : Language
pin = some λ (v : ℕ). event (Read EN v) ▸ event (Write EN (bit_or v (2 ^ 23)))

-- what the chip answers once it is ready
abbrev pub chip_is_ready : ℕ
chip_is_ready = 0x87654321

abbrev pub missed : Language
missed = some λ (v : ℕ). given (v ≢ chip_is_ready) (read_word 0x64 v)

abbrev pub boot : Language
boot = pin ▸ up_to 199 missed ▸ read_word 0x64 chip_is_ready ▸ write_word 0x74 1

abbrev pub failed_boot : Language
failed_boot =
    either (pin ▸ times 200 missed)
    (either (pin ▸ up_to 199 missed ▸ failed_read 0x64)
    (pin ▸ up_to 199 missed ▸ read_word 0x64 chip_is_ready ▸ failed_write 0x74 1))

-- ---- frames

-- no frame waits
abbrev pub idle : Language
idle = read_word 0x7C 0

-- a frame waits
abbrev pub waits : Language
waits = some λ (w : ℕ). given (w ≢ 0) (read_word 0x7C w)

-- words of a frame in turn
abbrev pub frame_words : List ℕ → Language
frame_words [] es = nothing es
frame_words (w ∷ ws) es = (read_word 0 w ▸ frame_words ws) es

-- how many bytes a frame has, by the word that tells its length
abbrev pub frame_length : ℕ → ℕ
frame_length l = l % 65536

-- how many words hold n bytes
abbrev pub words_for : ℕ → ℕ
words_for n = (n + 3) / 4

-- the first n bytes of words, the lowest of each first
abbrev pub first_bytes : ℕ → List ℕ → List ℕ
first_bytes n ws = take n (word_bytes ws)

abbrev pub frame : List ℕ → Language
frame bytes =
    waits ▸ some λ (l : ℕ). read_word 0x40 l ▸ some λ (ws : List ℕ).
    given ((length ws ≡ words_for (frame_length l)) × (bytes ≡ first_bytes (frame_length l) ws))
    (frame_words ws)

-- a poll fails at the first read, at the length, or at one of the words of a frame
abbrev pub failed_poll : Language
failed_poll =
    either (failed_read 0x7C)
    (either (waits ▸ failed_read 0x40)
    (waits ▸ some λ (l : ℕ). read_word 0x40 l ▸ some λ (ws : List ℕ).
    given (length ws < words_for (frame_length l)) (frame_words ws ▸ failed_read 0)))

-- an IPv4 frame without options that carries UDP, of a length that can be one
abbrev pub is_accepted : List ℕ → Bool
is_accepted bytes =
    nat_le 43 (length bytes) && nat_le (length bytes) 1520
    && (slice_index bytes 12 == 8) && (slice_index bytes 13 == 0) && (slice_index bytes 23 == 17)

abbrev pub accepted_frame : List ℕ → Language
accepted_frame bytes = given (is_accepted bytes ≡ true) (frame bytes)

abbrev pub refused_frame : List ℕ → Language
refused_frame bytes = given (is_accepted bytes ≡ false) (frame bytes)

-- a word with bit 23 made k
abbrev pub with_light : ℕ → ℕ → ℕ
with_light k v = bit_or (bit_and v 0xFF7FFFFF) (k * 2 ^ 23)

abbrev pub set_light : ℕ → Language
set_light k = some λ (v : ℕ). event (Read OUT v) ▸ event (Write OUT (with_light k v))

-- the light that a frame asks for: bit 0 of byte 42
abbrev pub light_of : List ℕ → ℕ
light_of bytes = slice_index bytes 42 % 2

-- ---- the whole

-- what is done for one look at the chip
abbrev pub poll : Language
poll =
    either idle (either failed_poll
    (either (some refused_frame)
    (some λ (bytes : List ℕ). accepted_frame bytes ▸ set_light (light_of bytes))))

-- what the firmware may do from its start to its end
abbrev pub Good : Language
Good = either failed_boot (boot ▸ any_number poll)

-- a list with which a member of Good begins
abbrev pub BeginsGood : List Event → Type 0
BeginsGood es = (rest : List Event) × Good (es ++ rest)
