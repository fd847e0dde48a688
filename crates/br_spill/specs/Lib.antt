pub mod Spill
