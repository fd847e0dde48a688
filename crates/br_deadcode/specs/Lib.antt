pub mod Sweeps
pub mod LeftOut
pub mod Unneeded
