pub mod Bits
pub mod Device
pub mod Hexadecimal
pub mod Layout
pub mod Size
pub mod Words
