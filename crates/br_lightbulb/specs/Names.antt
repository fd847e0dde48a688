-- The names of the firmware.
use Rattle.std.specs.Prelude.{ℕ, List, codes}

abbrev pub a : List ℕ
a = codes "a"

abbrev pub b : List ℕ
b = codes "b"

abbrev pub bad : List ℕ
bad = codes "bad"

abbrev pub f : List ℕ
f = codes "f"

abbrev pub i : List ℕ
i = codes "i"

abbrev pub n : List ℕ
n = codes "n"

abbrev pub p : List ℕ
p = codes "p"

abbrev pub r : List ℕ
r = codes "r"

abbrev pub t : List ℕ
t = codes "t"

abbrev pub v : List ℕ
v = codes "v"

abbrev pub w : List ℕ
w = codes "w"

abbrev pub x : List ℕ
x = codes "x"

abbrev pub spi_put : List ℕ
spi_put = codes "spi_put"

abbrev pub spi_get : List ℕ
spi_get = codes "spi_get"

abbrev pub spi_xchg : List ℕ
spi_xchg = codes "spi_xchg"

abbrev pub lan_read : List ℕ
lan_read = codes "lan_read"

abbrev pub lan_write : List ℕ
lan_write = codes "lan_write"

abbrev pub boot : List ℕ
boot = codes "boot"

abbrev pub receive : List ℕ
receive = codes "receive"

abbrev pub handle : List ℕ
handle = codes "handle"

abbrev pub poll : List ℕ
poll = codes "poll"

abbrev pub main : List ℕ
main = codes "main"
