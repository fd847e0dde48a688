pub mod Apart
pub mod Kept
pub mod RangeLines
pub mod Scripts
pub mod Shown
pub mod Values
