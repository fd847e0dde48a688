-- The text of the firmware.
use Rattle.std.specs.Prelude.{ℕ, List, [], ◌∷◌, ◌++◌, codes}
use Rattle.std.specs.List.{flat_map}

-- lines, each with the byte that ends it
abbrev pub in_lines : List (List ℕ) → List ℕ
in_lines lines = flat_map (λ line. line ++ 10 ∷ []) lines

-- a byte is sent over SPI1, once the port is ready
abbrev pub spi_put : List (List ℕ)
spi_put =
    codes "(fn spi_put (b) (bad)"
    ∷ codes "  (set bad 1) (set n 1000)"
    ∷ codes "  (while n"
    ∷ codes "    (interact (w) MMIOREAD 0x10024048)"
    ∷ codes "    (set n (sub n 1))"
    ∷ codes "    (if (lts w 0) (then) (else (set bad 0) (set n 0))))"
    ∷ codes "  (if bad (then) (else (interact () MMIOWRITE 0x10024048 b))))"
    ∷ []

-- a byte is received over SPI1
abbrev pub spi_get : List (List ℕ)
spi_get =
    codes "(fn spi_get () (b bad)"
    ∷ codes "  (set b 0) (set bad 1) (set n 1000)"
    ∷ codes "  (while n"
    ∷ codes "    (interact (w) MMIOREAD 0x1002404C)"
    ∷ codes "    (set n (sub n 1))"
    ∷ codes "    (if (lts w 0) (then)"
    ∷ codes "      (else (set bad 0) (set b (and w 255)) (set n 0)))))"
    ∷ []

-- a byte is exchanged
abbrev pub spi_xchg : List (List ℕ)
spi_xchg =
    codes "(fn spi_xchg (b) (r bad)"
    ∷ codes "  (set r 0)"
    ∷ codes "  (call (bad) spi_put b)"
    ∷ codes "  (if bad (then) (else (call (r bad) spi_get))))"
    ∷ []

-- a register of the LAN9250 is read
abbrev pub lan_read : List (List ℕ)
lan_read =
    codes "(fn lan_read (a) (v bad)"
    ∷ codes "  (set v 0)"
    ∷ codes "  (interact () MMIOWRITE 0x10024018 2)"
    ∷ codes "  (call (x bad) spi_xchg 3)"
    ∷ codes "  (if bad (then) (else (call (x bad) spi_xchg (sru a 8))))"
    ∷ codes "  (if bad (then) (else (call (x bad) spi_xchg (and a 255))))"
    ∷ codes "  (set i 0)"
    ∷ codes "  (while (ltu i 4)"
    ∷ codes "    (if bad (then)"
    ∷ codes "      (else (call (x bad) spi_xchg 0)"
    ∷ codes "            (set v (or v (slu x (slu i 3))))))"
    ∷ codes "    (set i (add i 1)))"
    ∷ codes "  (interact () MMIOWRITE 0x10024018 0))"
    ∷ []

-- a register of the LAN9250 is written
abbrev pub lan_write : List (List ℕ)
lan_write =
    codes "(fn lan_write (a v) (bad)"
    ∷ codes "  (interact () MMIOWRITE 0x10024018 2)"
    ∷ codes "  (call (x bad) spi_xchg 2)"
    ∷ codes "  (if bad (then) (else (call (x bad) spi_xchg (sru a 8))))"
    ∷ codes "  (if bad (then) (else (call (x bad) spi_xchg (and a 255))))"
    ∷ codes "  (set i 0)"
    ∷ codes "  (while (ltu i 4)"
    ∷ codes "    (if bad (then)"
    ∷ codes "      (else (call (x bad) spi_xchg (and (sru v (slu i 3)) 255))))"
    ∷ codes "    (set i (add i 1)))"
    ∷ codes "  (interact () MMIOWRITE 0x10024018 0))"
    ∷ []

-- the light's pin is made an output, and the chip is waited for
abbrev pub boot : List (List ℕ)
boot =
    codes "(fn boot () (bad)"
    ∷ codes "  (interact (v) MMIOREAD 0x10012008)"
    ∷ codes "  (interact () MMIOWRITE 0x10012008 (or v 0x800000))"
    ∷ codes "  (set bad 1) (set t 200)"
    ∷ codes "  (while t"
    ∷ codes "    (set t (sub t 1))"
    ∷ codes "    (call (w f) lan_read 0x64)"
    ∷ codes "    (if f (then (set t 0))"
    ∷ codes "      (else (if (eq w 0x87654321) (then (set bad 0) (set t 0)) (else)))))"
    ∷ codes "  (if bad (then) (else (call (bad) lan_write 0x74 1))))"
    ∷ []

-- a frame is read into a buffer
abbrev pub receive : List (List ℕ)
receive =
    codes "(fn receive (p) (n bad)"
    ∷ codes "  (call (n bad) lan_read 0x40)"
    ∷ codes "  (if bad (then)"
    ∷ codes "    (else"
    ∷ codes "      (set n (and n 0xFFFF)) (set i 0)"
    ∷ codes "      (while (ltu i n)"
    ∷ codes "        (call (w bad) lan_read 0)"
    ∷ codes "        (if bad (then (set n 0))"
    ∷ codes "          (else"
    ∷ codes "            (if (ltu i 1520) (then (store4 (add p i) w)) (else))"
    ∷ codes "            (set i (add i 4))))))))"
    ∷ []

-- the light is set as a frame asks
abbrev pub handle : List (List ℕ)
handle =
    codes "(fn handle (p n) ()"
    ∷ codes "  (if (ltu n 43) (then) (else (if (ltu 1520 n) (then) (else"
    ∷ codes "    (if (eq (load1 (add p 12)) 8) (then"
    ∷ codes "      (if (eq (load1 (add p 13)) 0) (then"
    ∷ codes "        (if (eq (load1 (add p 23)) 17) (then"
    ∷ codes "          (interact (v) MMIOREAD 0x1001200C)"
    ∷ codes "          (interact () MMIOWRITE 0x1001200C"
    ∷ codes "            (or (and v 0xFF7FFFFF)"
    ∷ codes "                (slu (and (load1 (add p 42)) 1) 23))))"
    ∷ codes "        (else))) (else))) (else)))))))"
    ∷ []

-- the chip is looked at once
abbrev pub poll : List (List ℕ)
poll =
    codes "(fn poll () (bad)"
    ∷ codes "  (call (w bad) lan_read 0x7C)"
    ∷ codes "  (if bad (then)"
    ∷ codes "    (else (if w"
    ∷ codes "      (then (stackalloc p 1520"
    ∷ codes "        (call (n bad) receive p)"
    ∷ codes "        (if bad (then) (else (call () handle p n)))))"
    ∷ codes "      (else)))))"
    ∷ []

-- the start, and then polls for ever
abbrev pub main : List (List ℕ)
main =
    codes "(fn main () (bad)"
    ∷ codes "  (call (bad) boot)"
    ∷ codes "  (while (eq bad 0) (call (x) poll)))"
    ∷ []

-- the whole text
unfoldable pub firmware_text : List ℕ
firmware_text =
    in_lines
    (spi_put
    ++ spi_get
    ++ spi_xchg
    ++ lan_read
    ++ lan_write
    ++ boot
    ++ receive
    ++ handle
    ++ poll
    ++ main)
