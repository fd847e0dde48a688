pub mod Accepted
pub mod Assigned
pub mod Walks
