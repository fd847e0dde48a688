pub mod FirstSteps
pub mod Implements
pub mod Lowered
pub mod Refusal
