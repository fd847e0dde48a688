pub mod Values
pub mod Runs
pub mod Rules
pub mod Sizes
