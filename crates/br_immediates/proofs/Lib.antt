pub mod Turns
pub mod Kept
pub mod Runs
pub mod Formed
pub mod Missing
pub mod Codes
pub mod Tables
