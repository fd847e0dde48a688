pub mod Sets
pub mod BitSets
pub mod Tables
pub mod Summaries
pub mod Turns
