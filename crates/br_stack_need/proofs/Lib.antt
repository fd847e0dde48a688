pub mod Bounds
pub mod Depth
pub mod Forms
pub mod Items
pub mod Marking
pub mod Registers
pub mod Rounds
pub mod Statements
