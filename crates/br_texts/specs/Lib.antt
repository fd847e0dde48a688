pub mod Entries
pub mod InterpText
pub mod Lines
pub mod Memory
pub mod RunText
pub mod Verdict
