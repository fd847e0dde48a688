pub mod Codes
pub mod Encoding
pub mod Listing
pub mod Row
