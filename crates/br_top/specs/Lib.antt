pub mod Answers
pub mod Commands
pub mod Lines
pub mod Refusals
pub mod Reports
pub mod Scripted
pub mod Troubles
