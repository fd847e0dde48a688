pub mod Called
pub mod Lightbulb
pub mod OneInterp
pub mod OneRun
pub mod Refused
pub mod Words
