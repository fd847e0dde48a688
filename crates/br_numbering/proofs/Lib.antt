pub mod Listed
pub mod NumberedFunctions
pub mod NumberedNames
pub mod Positions
