pub mod Immediates
pub mod Tables
