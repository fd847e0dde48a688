-- The addresses at which devices are read and written.
use Rattle.std.specs.Prelude.{ℕ, ◌%◌, Bool, nat_lt, nat_le, ◌==◌, ◌&&◌, ◌||◌, IsTrue}

-- An address of a device's window: GPIO from 0x10012000 up to 0x10013000, UART0 from there up to
-- 0x10014000, SPI1 from 0x10024000 up to 0x10025000.
abbrev pub in_device_window : ℕ → Bool
in_device_window a =
    nat_le 0x10012000 a && nat_lt a 0x10013000
    || nat_le 0x10013000 a && nat_lt a 0x10014000
    || nat_le 0x10024000 a && nat_lt a 0x10025000

-- a multiple of 4 inside a device window
abbrev pub is_device_word : ℕ → Bool
is_device_word a = (a % 4 == 0) && in_device_window a

abbrev pub IsDeviceWord : ℕ → Type 0
IsDeviceWord a = IsTrue (is_device_word a)
