pub mod Bits
pub mod Names
pub mod Own
pub mod Turns
pub mod Rows
pub mod Walks
pub mod Plain
pub mod Below
