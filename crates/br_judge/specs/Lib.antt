pub mod Languages
pub mod Good
pub mod Places
pub mod Steps
