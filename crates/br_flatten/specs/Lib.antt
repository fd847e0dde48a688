pub mod Scope
pub mod Tests
pub mod Constants
pub mod Flatten
pub mod Places
pub mod Programs
pub mod Meaning
pub mod Sized
